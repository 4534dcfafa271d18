-- How a word prints. Assumes nothing.
use Rattle.std.specs.Prelude.{ℕ, zero, suc, ◌+◌, ◌*◌, ◌/◌, ◌%◌, ◌^◌, cond, List, [], ◌∷◌, nat_lt}

-- the digit of a number below 16: 0 to 9, then a to f
abbrev pub glyph : ℕ → ℕ
glyph n = cond (nat_lt n 10) (48 + n) (87 + n)

-- the k lowest digits of a word to base 16, the highest first
abbrev pub nibbles : ℕ → ℕ → List ℕ
nibbles zero w = []
nibbles (suc k) w = glyph (w / 2 ^ (4 * k) % 16) ∷ nibbles k w

-- a word as 0x and eight digits
abbrev pub eight : ℕ → List ℕ
eight w = 48 ∷ 120 ∷ nibbles 8 w
