-- What a slot holds, by the history alone; and that loads and drops change the slots as their events say. Assumes nothing.
use Rattle.std.proofs.Common.{◌≡◌, ℕ, ◌+◌, ◌-◌, ◌<◌, Bool, true, false, cond, eqb, leb, List, [], ◌∷◌, ◌++◌, map, length, get_or, take, drop, set, replicate, sym, refl, ap, ◌∙◌, subst, arith}
use Rattle.std.proofs.lemmas.List.{length-set, length-map, length-take, length-drop, length-append, length-replicate, get_or-set_same, get_or-set_other, get_or-map, get_or-take, get_or-drop, get_or_append_left, get_or-append-add, get_or-replicate}
use Rattle.std.proofs.lemmas.Bool.{eqb-true, eqb-false, leb-true, leb-false}
use Rattle.tlb.specs.declared.entry.Entry.{Entry}
use Rattle.twin.specs.Load.{Event, Loaded, Dropped, DroppedAll, spares, ended, dropped, all_ended}
use Rattle.tlb.specs.Shape.{Shape}

module _ {P : Type 0} (s : Shape P) (z : Entry P) where
  -- the entry in slot i after these events, the slot having held z at first
  abbrev pub holds : List (Event P) → ℕ → Entry P
  holds [] i = z
  holds (Loaded j x ∷ vs) i = cond (eqb i j) x (holds vs i)
  holds (Dropped a ∷ vs) i = dropped s a (holds vs i)
  holds (DroppedAll reserved ∷ vs) i = cond (spares reserved i) (holds vs i) (ended (holds vs i))

  -- 32 slots, each as the history has it
  pub record Follows (past : List (Event P)) (xs : List (Entry P)) : Type 0 where
    pub all : length xs ≡ 32
    pub each : (i : ℕ) → i < 32 → get_or xs i z ≡ holds past i

  pub follows_new : Follows [] (replicate 32 z)
  follows_new = record { all = length-replicate 32 z; each = λ i h. get_or-replicate 32 i z z h }

  module _ (past : List (Event P)) (xs : List (Entry P)) (f : Follows past xs) where
    at_load : (j : ℕ) (x : Entry P) → j < 32 → (i : ℕ) → i < 32 → (t : Bool) → eqb i j ≡ t → get_or (set xs j x) i z ≡ cond t x (holds past i)
    at_load j x hj i hi true e = subst (λ n. get_or (set xs j x) n z ≡ x) (sym (eqb-true i j e)) (get_or-set_same xs j x z (omega (arith, f.all)))
    at_load j x hj i hi false e = get_or-set_other xs j i x z (eqb-false i j e) ∙ f.each i hi

    pub follows_load : (j : ℕ) (x : Entry P) → j < 32 → Follows (Loaded j x ∷ past) (set xs j x)
    follows_load j x hj = record { all = length-set xs j x ∙ f.all; each = λ i hi. at_load j x hj i hi (eqb i j) refl }

    pub follows_drop : (a : ℕ) → Follows (Dropped a ∷ past) (map (dropped s a) xs)
    follows_drop a = record {
      all = length-map xs (dropped s a) ∙ f.all;
      each = λ i hi. get_or-map (dropped s a) xs i z z (omega (arith, f.all)) ∙ ap (dropped s a) (f.each i hi);
    }

    at_spared : (i : ℕ) → i < 32 → (t : Bool) → leb 28 i ≡ t → get_or (map ended (take 28 xs) ++ drop 28 xs) i z ≡ cond t (holds past i) (ended (holds past i))
    at_spared i hi true e =
        let front : length (map ended (take 28 xs)) ≡ 28 = length-map (take 28 xs) ended ∙ length-take 28 xs ∙ omega (arith, f.all) in
        let high = leb-true 28 i e in
        let whole : length (map ended (take 28 xs)) + (i - 28) ≡ i = omega arith in
        let inner : 28 + (i - 28) ≡ i = omega arith in
        ap (λ n. get_or (map ended (take 28 xs) ++ drop 28 xs) n z) (sym whole)
        ∙ get_or-append-add (map ended (take 28 xs)) (drop 28 xs) (i - 28) z
        ∙ get_or-drop 28 xs (i - 28) z
        ∙ ap (λ n. get_or xs n z) inner
        ∙ f.each i hi
    at_spared i hi false e =
        let low = leb-false 28 i e in
        let front : length (map ended (take 28 xs)) ≡ 28 = length-map (take 28 xs) ended ∙ length-take 28 xs ∙ omega (arith, f.all) in
        let short : length (take 28 xs) ≡ 28 = length-take 28 xs ∙ omega (arith, f.all) in
        get_or_append_left (map ended (take 28 xs)) (drop 28 xs) z i (omega arith)
        ∙ get_or-map ended (take 28 xs) i z z (omega arith)
        ∙ ap ended (get_or-take 28 xs i z low ∙ f.each i hi)

    pub follows_drop_all : (reserved : Bool) → Follows (DroppedAll reserved ∷ past) (all_ended reserved xs)
    follows_drop_all true = record {
      all = length-append (map ended (take 28 xs)) (drop 28 xs) ∙ omega (arith, f.all, length-map (take 28 xs) (ended {P = P}), length-take 28 xs, length-drop 28 xs);
      each = λ i hi. at_spared i hi (leb 28 i) refl;
    }
    follows_drop_all false = record {
      all = length-map xs ended ∙ f.all;
      each = λ i hi. get_or-map ended xs i z z (omega (arith, f.all)) ∙ ap ended (f.each i hi);
    }
