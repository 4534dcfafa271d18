-- The law of the language: what is written in canonical form reads back. Assumes nothing.
use Rattle.std.specs.Prelude.{◌≡◌, ◌^◌, ◌<◌, Some}
use Rattle.calls.specs.declared.call.Call.{Call}
use Rattle.calls.specs.declared.call.Call.TheVariants.{Poke, Peek, Write, Read, Mode, Access, Resolve, Drop, DropAll, Tally}
use Rattle.calls.specs.Canonical.{canonical}
use Rattle.script.specs.Form.{line_of}

-- every number of the call has 32 bits, as all that the code holds have
abbrev pub Sized : Call → Type 0
Sized (Poke a w) = (a < 2 ^ 32) × (w < 2 ^ 32)
Sized (Peek a) = a < 2 ^ 32
Sized (Write n w) = (n < 2 ^ 32) × (w < 2 ^ 32)
Sized (Read n) = n < 2 ^ 32
Sized (Mode p i d) = Unit {0}
Sized (Access k e) = (k < 2 ^ 32) × (e < 2 ^ 32)
Sized (Resolve k e) = (k < 2 ^ 32) × (e < 2 ^ 32)
Sized (Drop e) = e < 2 ^ 32
Sized DropAll = Unit {0}
Sized Tally = Unit {0}

abbrev pub ReadsBack : Type 0
ReadsBack = (c : Call) → Sized c → line_of (canonical c) ≡ Some c
