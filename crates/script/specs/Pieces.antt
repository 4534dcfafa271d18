-- Bytes cut at a separator. Assumes nothing.
use Rattle.std.specs.Prelude.{ℕ, cond, List, [], ◌∷◌, ◌++◌, Some, None, Option, ◌==◌}
use Rattle.std.specs.Borrow.{Bor}

-- bytes put before the first piece
abbrev pub before : List ℕ → List (List ℕ) → List (List ℕ)
before bs [] = []
before bs (p ∷ ps) = (bs ++ p) ∷ ps

-- the pieces between separators: one more than there are separators
abbrev pub split : ℕ → List ℕ → List (List ℕ)
split sep [] = [] ∷ []
split sep (b ∷ bs) = cond (b == sep) ([] ∷ split sep bs) (before (b ∷ []) (split sep bs))

-- the pieces of what is left, if anything is
abbrev pub remains : ℕ → Option (Bor (List ℕ)) → List (List ℕ)
remains sep None = []
remains sep (Some bs) = split sep bs.now
