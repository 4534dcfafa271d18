use Rattle.std.proofs.Common.{◌≡◌, ◌^◌, ◌<◌, drop}
use Rattle.script.specs.Number.{read_on, small}
use Rattle.script.proofs.number.value.Given as goal

abbrev pub invariant-loop-byte : goal.invariant-loop-byte
invariant-loop-byte l = (l.value < 2 ^ 32) × (small (read_on l.radix l.value (drop l.byte-index l.digits)) ≡ small (read_on l.radix 0 l.digits))
