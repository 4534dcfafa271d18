-- The table of rights follows the rule, at all of its entries: a test that the checker computes. Assumes nothing.
use Rattle.std.proofs.Common.{◌≡◌, ℕ, zero, suc, ◌/◌, ◌%◌, ◌<◌, Bool, true, false, cond, not, ◌&&◌, List, [], ◌∷◌, get_or, sym, refl, ◌∙◌, arith}
use mir.Val.{bool_byte}
use Rattle.std.proofs.lemmas.Bool.Decides.{Decides-below_and}
use Rattle.mmu.specs.Rights.{nothing, privileged_rows, problem_rows, allows, column_of}
use Rattle.mmu.specs.declared.rights.Access.{Access}
use Rattle.mmu.specs.declared.rights.Access.TheVariants.{Fetch, Load, Store}

-- fetch, load and store
abbrev pub all_three : List Bool
all_three = true ∷ true ∷ true ∷ []

abbrev pub no_stores : List Bool
no_stores = true ∷ true ∷ false ∷ []

abbrev pub none : List Bool
none = false ∷ false ∷ false ∷ []

abbrev pub table : List (List (List (List Bool)))
table =
    ((all_three ∷ none ∷ []) ∷ (all_three ∷ no_stores ∷ []) ∷ (all_three ∷ all_three ∷ []) ∷ (no_stores ∷ no_stores ∷ []) ∷ [])
    ∷ ((none ∷ none ∷ []) ∷ (no_stores ∷ none ∷ []) ∷ (none ∷ none ∷ []) ∷ (none ∷ none ∷ []) ∷ [])
    ∷ []

abbrev pub entry : ℕ → ℕ → ℕ → ℕ → Bool
entry extended pair key column = get_or (get_or (get_or (get_or table extended []) pair []) key []) column false

same : Bool → Bool → Bool
same true b = b
same false b = not b

same_is : (a b : Bool) → same a b ≡ true → a ≡ b
unfolding same
same_is true b e = sym e
same_is false true e = e
same_is false false e = refl

-- the entry at rights q, as the table has it and as the rule has it
right : Bool → Access → ℕ → Bool
right p a q = same (entry (q % 2) (q / 2) (bool_byte p) (column_of a)) (get_or (cond p problem_rows privileged_rows) q nothing a)

every : (ℕ → Bool) → ℕ → Bool
every f zero = true
every f (suc n) = f n && every f n

at : (f : ℕ → Bool) (n : ℕ) → every f n ≡ true → (k : ℕ) → k < n → f k ≡ true
unfolding every
at f n e = (Decides-below_and f (λ k. f k ≡ true) (every f) (λ k. (λ t. t, λ t. t)) refl (λ _. refl) n).0 e

tested : (p : Bool) (a : Access) (q : ℕ) → q < 8 → right p a q ≡ true
unfolding every right same
tested true Fetch q h = at (right true Fetch) 8 refl q h
tested true Load q h = at (right true Load) 8 refl q h
tested true Store q h = at (right true Store) 8 refl q h
tested false Fetch q h = at (right false Fetch) 8 refl q h
tested false Load q h = at (right false Load) 8 refl q h
tested false Store q h = at (right false Store) 8 refl q h

pub read_once : (r k : ℕ) (p : Bool) (a : Access) (c : ℕ) → k ≡ bool_byte p → c ≡ column_of a → entry (r % 2) (r / 2 % 4) k c ≡ allows r p a
unfolding allows right
read_once r k p a c key column =
    let pair : r / 2 % 4 ≡ r % 8 / 2 = omega arith in
    let extended : r % 2 ≡ r % 8 % 2 = omega arith in
    (λ i. entry (extended i) (pair i) (key i) (column i))
    ∙ same_is _ _ (tested p a (r % 8) (omega arith))
