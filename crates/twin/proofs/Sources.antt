-- A live slot has its source in the history; and what the search finds. Assumes nothing.
use Rattle.std.proofs.Common.{◌≡◌, ℕ, suc, ◌+◌, ◌<◌, Bool, true, false, cond, not, eqb, List, [], ◌∷◌, length, get_or, Some, sym, refl, ap, ◌∙◌, arith}
use Rattle.std.proofs.lemmas.Bool.{eqb-true, both_ways, or_from, and_parts}
use Rattle.tlb.specs.Page.{contains}
use Rattle.tlb.specs.Search.{lowest_from}
use Rattle.tlb.specs.declared.entry.Entry.{Entry}
use Rattle.twin.proofs.Slots.{holds}
use Rattle.twin.specs.Access.{serves}
use Rattle.twin.specs.History.{LoadIn, refills, refilled, clears, cleared, admits, Source}
use Rattle.twin.specs.Load.{Event, Loaded, Dropped, DroppedAll, spares, ended, dropped}
use Rattle.tlb.specs.Shape.{Shape}

pub no_true : {A : Type 0} → false ≡ true → A
no_true e = absurd (both_ways false refl e)

module _ {P : Type 0} (s : Shape P) (z : Entry P) (dead : z.live ≡ false) where
  -- the last load into a slot, uncleared, is what the slot holds
  pub record Found (past : List (Event P)) (i : ℕ) : Type 0 where
    pub load : LoadIn past
    pub into : load.slot ≡ i
    pub last : refilled i load.later ≡ false
    pub uncleared : cleared s i load.entry.page load.later ≡ false
    pub same : load.entry ≡ holds s z past i

  -- one event more that neither fills the slot nor clears the load nor changes the slot
  older : (v : Event P) (past : List (Event P)) (i : ℕ) (f : Found past i) → refills i v ≡ false → clears s i f.load.entry.page v ≡ false → holds s z past i ≡ holds s z (v ∷ past) i → Found (v ∷ past) i
  older v past i f r c e = record {
    load = record { later = v ∷ f.load.later; slot = f.load.slot; entry = f.load.entry; earlier = f.load.earlier; whole = ap (λ l. v ∷ l) f.load.whole };
    into = f.into;
    last = or_from _ _ r f.last;
    uncleared = or_from _ _ c f.uncleared;
    same = f.same ∙ e;
  }

  pub find_source : (past : List (Event P)) (i : ℕ) → (holds s z past i).live ≡ true → Found past i
  find_source [] i l = absurd (both_ways _ dead l)
  find_source (Loaded j x ∷ vs) i l = by_slot (λ h. find_source vs i h) (eqb i j) refl
    where
      by_slot : ((holds s z vs i).live ≡ true → Found vs i) → (t : Bool) → eqb i j ≡ t → Found (Loaded j x ∷ vs) i
      by_slot rec true e = record {
        load = record { later = []; slot = j; entry = x; earlier = vs; whole = refl };
        into = sym (eqb-true i j e);
        last = refl;
        uncleared = refl;
        same = ap (λ t. cond t x (holds s z vs i)) (sym e);
      }
      by_slot rec false e =
          let kept : holds s z vs i ≡ cond (eqb i j) x (holds s z vs i) = ap (λ t. cond t x (holds s z vs i)) (sym e) in
          older (Loaded j x) vs i (rec (ap (λ y. y.live) kept ∙ l)) e refl kept
  find_source (Dropped a ∷ vs) i l = by_page (λ h. find_source vs i h) (contains (s.body (holds s z vs i).page) a) refl
    where
      by_page : ((holds s z vs i).live ≡ true → Found vs i) → (t : Bool) → contains (s.body (holds s z vs i).page) a ≡ t → Found (Dropped a ∷ vs) i
      by_page rec true e = absurd (both_ways _ (ap (λ t. (cond t (ended (holds s z vs i)) (holds s z vs i)).live) e) l)
      by_page rec false e =
          let kept : holds s z vs i ≡ dropped s a (holds s z vs i) = ap (λ t. cond t (ended (holds s z vs i)) (holds s z vs i)) (sym e) in
          let f = rec (ap (λ y. y.live) kept ∙ l) in
          older (Dropped a) vs i f refl (ap (λ y. contains (s.body y.page) a) f.same ∙ e) kept
  find_source (DroppedAll reserved ∷ vs) i l = by_spared (λ h. find_source vs i h) (spares reserved i) refl
    where
      by_spared : ((holds s z vs i).live ≡ true → Found vs i) → (t : Bool) → spares reserved i ≡ t → Found (DroppedAll reserved ∷ vs) i
      by_spared rec true e =
          let kept : holds s z vs i ≡ cond (spares reserved i) (holds s z vs i) (ended (holds s z vs i)) = ap (λ t. cond t (holds s z vs i) (ended (holds s z vs i))) (sym e) in
          older (DroppedAll reserved) vs i (rec (ap (λ y. y.live) kept ∙ l)) refl (ap not e) kept
      by_spared rec false e = absurd (both_ways _ (ap (λ t. (cond t (holds s z vs i) (ended (holds s z vs i))).live) e) l)

  -- an entry that serves is live, contains the address and is admitted
  pub serves_live : (e current : ℕ) (x : Entry P) → serves s e current x ≡ true → x.live ≡ true
  serves_live e current x h = (and_parts x.live _ h).0

  pub serves_inside : (e current : ℕ) (x : Entry P) → serves s e current x ≡ true → contains (s.body x.page) e ≡ true
  serves_inside e current x h = (and_parts (contains (s.body x.page) e) _ (and_parts x.live _ h).1).0

  pub serves_admits : (e current : ℕ) (x : Entry P) → serves s e current x ≡ true → admits s current x ≡ true
  serves_admits e current x h = (and_parts (contains (s.body x.page) e) _ (and_parts x.live _ h).1).1

  -- the source of a slot that serves
  abbrev pub source_of : (past : List (Event P)) (i e current : ℕ) (f : Found past i) → serves s e current (holds s z past i) ≡ true → Source s past i e current
  source_of past i e current f h =
      let g : serves s e current f.load.entry ≡ true = ap (serves s e current) f.same ∙ h in
      record {
        load = f.load;
        into = f.into;
        last = f.last;
        uncleared = f.uncleared;
        live = serves_live e current _ g;
        inside = serves_inside e current _ g;
        admitted = serves_admits e current _ g;
      }

module _ {X : Type 0} (f : X → Bool) (d : X) where
  -- a found index is within the list, and its element passes
  pub record At (xs : List X) (n i : ℕ) : Type 0 where
    pub place : ℕ
    pub is : i ≡ n + place
    pub within : place < length xs
    pub passes : f (get_or xs place d) ≡ true

  pub found_at : (xs : List X) (n i : ℕ) → lowest_from f n xs ≡ Some i → At xs n i
  found_at [] n i e = let w : ◌≡◌ {A = ℕ} 0 1 = cc in absurd (omega arith)
  found_at (x ∷ xs) n i e = by_test (λ q. found_at xs (n + 1) i q) (f x) refl e
    where
      by_test : (lowest_from f (n + 1) xs ≡ Some i → At xs (n + 1) i) → (t : Bool) → f x ≡ t → cond t (Some n) (lowest_from f (n + 1) xs) ≡ Some i → At (x ∷ xs) n i
      by_test rec true p q = let same : n ≡ i = cc in record { place = 0; is = omega arith; within = omega arith; passes = p }
      by_test rec false p q =
          let r = rec q in
          record { place = suc r.place; is = omega (arith, r.is); within = omega (arith, r.within); passes = r.passes }
