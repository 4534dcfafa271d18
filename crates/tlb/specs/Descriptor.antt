-- What the tablewalk asks of descriptors. Assumes nothing.
use Rattle.std.specs.Prelude.{ℕ, Bool, not, ◌==◌}
use Rattle.tlb.specs.Bits.{field}

-- size bits 10 name no size
abbrev pub sized : ℕ → Bool
sized w = not (field 28 29 w == 2)

-- the mark bits of an RPN, 24 to 27, are all one
abbrev pub marked : ℕ → Bool
marked w = field 24 27 w == 15
