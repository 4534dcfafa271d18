-- The lowest element of a list that passes a test. Assumes nothing.
use Rattle.std.specs.Prelude.{ℕ, ◌+◌, Bool, cond, List, [], ◌∷◌, Some, None, Option}

-- its index, counted from n
abbrev pub lowest_from : {X : Type 0} → (X → Bool) → ℕ → List X → Option ℕ
lowest_from f n [] = None
lowest_from f n (x ∷ xs) = cond (f x) (Some n) (lowest_from f (n + 1) xs)

abbrev pub lowest : {X : Type 0} → (X → Bool) → List X → Option ℕ
lowest f xs = lowest_from f 0 xs
