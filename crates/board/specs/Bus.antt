-- Refusals with their place. Assumes nothing.
use Rattle.std.specs.Prelude.{ℕ, Ok, Err, Result}
use Rattle.board.specs.declared.bus.BusFault.{BusFault}

-- the same answer, a refusal's place being a
abbrev pub at_place : {T : Type 0} → Result T BusFault → ℕ → Result T BusFault
at_place (Ok v) a = Ok v
at_place (Err f) a = Err (record { refusal = f.refusal; address = a })
