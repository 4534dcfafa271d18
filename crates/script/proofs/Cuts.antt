-- Laws of cutting at a separator. Assumes nothing.
use Rattle.std.proofs.Common.{◌≡◌, ℕ, ◌+◌, ◌<◌, ◌≤◌, cond, eqb, List, [], ◌∷◌, ◌++◌, length, get_or, take, drop, sym, refl, ap, ◌∙◌, arith}
use Rattle.std.proofs.lemmas.List.{append-nil, append_assoc, at_drop_more, at_drop_all, take_more, take_all}
use Rattle.std.proofs.lemmas.Bool.{eq-eqb, ne_eqb, cond_both}
use Rattle.script.specs.Pieces.{before, split}
use Rattle.script.specs.Room.{weight}

before_before : (xs ys : List ℕ) (ps : List (List ℕ)) → before (xs ++ ys) ps ≡ before xs (before ys ps)
before_before xs ys [] = refl
before_before xs ys (p ∷ ps) = ap (λ q. q ∷ ps) (append_assoc xs ys p)

before_none : (ps : List (List ℕ)) → before [] ps ≡ ps
before_none [] = refl
before_none (p ∷ ps) = refl

-- no separator so far: the bytes up to i come before what is cut from there
abbrev pub Uncut : ℕ → List ℕ → ℕ → Type 0
Uncut sep bs i = split sep bs ≡ before (take i bs) (split sep (drop i bs))

module _ (sep : ℕ) (bs : List ℕ) where
  pub uncut_none : Uncut sep bs 0
  uncut_none = sym (before_none (split sep bs))

  pub uncut_more : (i : ℕ) → i < length bs → (get_or bs i 0 ≡ sep → ⊥) → Uncut sep bs i → Uncut sep bs (i + 1)
  uncut_more i h ne u =
      u
      ∙ ap (before (take i bs)) (at_drop_more (split sep) bs i 0 h ∙ ap (λ t. cond t ([] ∷ split sep (drop (i + 1) bs)) (before (get_or bs i 0 ∷ []) (split sep (drop (i + 1) bs)))) (ne_eqb _ _ ne))
      ∙ sym (before_before (take i bs) (get_or bs i 0 ∷ []) (split sep (drop (i + 1) bs)))
      ∙ ap (λ l. before l (split sep (drop (i + 1) bs))) (sym (take_more bs i 0 h))

  -- the first separator is at i
  pub cut_here : (i : ℕ) → i < length bs → get_or bs i 0 ≡ sep → Uncut sep bs i → split sep bs ≡ take i bs ∷ split sep (drop (i + 1) bs)
  cut_here i h e u =
      u
      ∙ ap (before (take i bs)) (at_drop_more (split sep) bs i 0 h ∙ ap (λ t. cond t ([] ∷ split sep (drop (i + 1) bs)) (before (get_or bs i 0 ∷ []) (split sep (drop (i + 1) bs)))) (eq-eqb _ _ e))
      ∙ ap (λ l. l ∷ split sep (drop (i + 1) bs)) (append-nil (take i bs))

  pub cut_nowhere : (i : ℕ) → length bs ≤ i → Uncut sep bs i → split sep bs ≡ bs ∷ []
  cut_nowhere i h u = u ∙ ap (before (take i bs)) (at_drop_all (split sep) bs i h) ∙ ap (λ l. l ∷ []) (append-nil (take i bs) ∙ take_all i bs h)

weight_before : (b : ℕ) (ps : List (List ℕ)) → 0 < weight ps → weight (before (b ∷ []) ps) ≡ weight ps + 1
weight_before b [] h = absurd (omega arith)
weight_before b (p ∷ ps) h = omega arith

-- the pieces have all the bytes, and one more each
pub weight_split : (sep : ℕ) (bs : List ℕ) → weight (split sep bs) ≡ length bs + 1
weight_split sep [] = refl
weight_split sep (b ∷ bs) =
    let h = weight_split sep bs in
    cond_both (eqb b sep) ([] ∷ split sep bs) (before (b ∷ []) (split sep bs)) (λ ps. weight ps ≡ length (b ∷ bs) + 1)
    (λ e. omega arith)
    (λ e. omega (arith, weight_before b (split sep bs) (omega arith)))
