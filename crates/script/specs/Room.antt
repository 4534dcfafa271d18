-- How many bytes are still to be cut. Assumes nothing.
use Rattle.std.specs.Prelude.{ℕ, ◌+◌, List, [], ◌∷◌, length}

-- each piece counts its bytes and one more, for the separator behind it
abbrev pub weight : List (List ℕ) → ℕ
weight [] = 0
weight (p ∷ ps) = length p + 1 + weight ps
