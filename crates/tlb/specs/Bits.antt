-- Fields of a word of 32 bits, bit 0 being the most significant. Assumes nothing.
use Rattle.std.specs.Prelude.{ℕ, ◌+◌, ◌-◌, ◌*◌, ◌/◌, ◌%◌, ◌^◌, Bool, ◌==◌}

-- bits i to j, both included
abbrev pub field : ℕ → ℕ → ℕ → ℕ
field i j w = w / 2 ^ (31 - j) % 2 ^ (j + 1 - i)

-- bit i is set
abbrev pub flag : ℕ → ℕ → Bool
flag i w = field i i w == 1

-- the low k bits cleared
abbrev pub cleared : ℕ → ℕ → ℕ
cleared k w = w / 2 ^ k * 2 ^ k
