-- The example lives, computed. Assumes nothing.
use Rattle.std.proofs.Common.{◌≡◌, ℕ, true, false, ◌⊎◌, List, [], ◌∷◌, ◌++◌, Ok, Err, sym, refl, ap, ◌∙◌, inl, inr, arith, lit<}
use Rattle.std.proofs.lemmas.Bool.{both_ways, or_left}
use Rattle.calls.specs.declared.fault.Fault.{Fault}
use Rattle.mmu.specs.Rights.{allows, ruling_of}
use Rattle.mmu.specs.Verdict.{gives}
use Rattle.mmu.specs.Walk.{first_word, second_word}
use Rattle.tlb.specs.Page.{common_of, contains}
use Rattle.tlb.specs.declared.entry.Entry.{Entry}
use Rattle.tlb.specs.declared.register.Kind.TheVariants.{Data}
use Rattle.twin.proofs.Staying.{loads_append}
use Rattle.twin.specs.Example.{Example}
use Rattle.twin.specs.History.{clears, cleared, loads_in}
use Rattle.tlb.specs.Control.{with_index}
use Rattle.twin.specs.Load.{Event, Loaded, Dropped, missed_epn}
use Rattle.twin.specs.Resolve.{walked}
use Rattle.tlb.specs.Shape.{Shape}
use Rattle.twin.specs.Unit.{shape}

module _ {P : Type 0} where
  tail : List (Event P) → List (Event P)
  tail [] = []
  tail (v ∷ vs) = vs

  head : Event P → List (Event P) → Event P
  head d [] = d
  head d (v ∷ vs) = v

  none_in : {A : Type 0} (later : List (Event P)) (i : ℕ) (x : Entry P) (earlier : List (Event P)) → [] ≡ later ++ (Loaded i x ∷ earlier) → A
  none_in later i x earlier e = let n = ap loads_in e in absurd (omega (arith, loads_append later (Loaded i x ∷ earlier)))

  -- the load in a history of one
  one_in : (j : ℕ) (y : Entry P) (later : List (Event P)) (i : ℕ) (x : Entry P) (earlier : List (Event P)) → Loaded j y ∷ [] ≡ later ++ (Loaded i x ∷ earlier) → x ≡ y
  unfolding tail
  one_in j y [] i x earlier e = cc
  one_in j y (v ∷ vs) i x earlier e = none_in vs i x earlier (ap tail e)

  -- the load behind a drop
  dropped_in : (s : Shape P) (a j : ℕ) (y : Entry P) (later : List (Event P)) (i : ℕ) (x : Entry P) (earlier : List (Event P)) → contains (s.body y.page) a ≡ true → Dropped a ∷ Loaded j y ∷ [] ≡ later ++ (Loaded i x ∷ earlier) → cleared s i x.page later ≡ true
  unfolding tail head
  dropped_in s a j y [] i x earlier h e = let w : ◌≡◌ {A = ℕ} 0 1 = ap (λ l. loads_in (head (Dropped 0) l ∷ [])) e in absurd (omega arith)
  dropped_in s a j y (v ∷ vs) i x earlier h e =
      let first : Dropped a ≡ v = ap (head (Dropped 0)) e in
      let same : x ≡ y = one_in j y vs i x earlier (ap tail e) in
      or_left _ _ (ap (clears s i x.page) (sym first) ∙ ap (λ z. contains (s.body z.page) a) same ∙ h)

unsettled : {P : Type 0} {p : P} {f : Fault} → (Ok p ≡ Err f) ⊎ (false ≡ true) → ⊥
unsettled (inl e) = let w : ◌≡◌ {A = ℕ} 0 1 = cc in omega arith
unsettled (inr e) = both_ways false refl e

pub example : Example
unfolding allows ruling_of gives first_word second_word common_of contains with_index missed_epn walked
example = record {
  answers = refl;
  walks = record { kind = refl; address = lit< tt; on = refl; settled = λ l _ _ _. none_in l.later l.slot l.entry l.earlier l.whole };
  hits = record { kind = refl; address = lit< tt; on = refl; settled = λ l _ _ _. inl (ap (λ x. Ok x.page) (one_in _ _ l.later l.slot l.entry l.earlier l.whole)) };
  older = λ r. unsettled (r.settled (record { later = []; slot = _; entry = _; earlier = []; whole = refl }) refl refl refl);
  faults = record { kind = refl; address = lit< tt; on = refl; settled = λ l _ _ _. inr (dropped_in (shape Data) 0x1000 _ _ l.later l.slot l.entry l.earlier refl l.whole) };
  kept_31 = refl;
  evicted_32 = refl;
  kept_27 = refl;
  evicted_28 = refl;
}
