-- The proof that a page which a resolve loads is not missed while few loads follow. Assumes nothing.
use Rattle.std.proofs.Common.{◌≡◌, ℕ, zero, suc, ◌+◌, ◌%◌, ◌<◌, ◌≤◌, Bool, true, false, cond, eqb, List, [], ◌∷◌, ◌++◌, length, get_or, Some, None, Ok, Err, Option, Result, sym, refl, ap, ◌∙◌, subst, inl, inr, append_assoc, append-nil, arith}
use Rattle.std.proofs.lemmas.Bool.{ne_eqb, eq-eqb, or_parts, or_from, and_from}
use Rattle.board.specs.Memory.{Meaning}
use Rattle.calls.specs.declared.answer.Answer.TheVariants.{Miss}
use Rattle.calls.specs.declared.answer.Grant.{Grant}
use Rattle.calls.specs.declared.fault.Fault.{Fault}
use Rattle.mmu.specs.declared.rights.Access.{Access}
use Rattle.tlb.specs.Control.{index_of, next_index, reserve}
use Rattle.tlb.specs.Page.{contains}
use Rattle.tlb.specs.Search.{lowest_from}
use Rattle.tlb.specs.declared.entry.Entry.{Entry}
use Rattle.tlb.specs.declared.register.Kind.{Kind}
use Rattle.tlb.specs.declared.register.Kind.TheVariants.{Instruction, Data}
use Rattle.twin.proofs.Counting.{index_set, reserve_set, Moves, stands, turns, moves}
use Rattle.twin.proofs.Follows.{kept_life, kept_step, kept_after, index_small}
use Rattle.twin.proofs.Pages.{next_small, epn_lives, space_small}
use Rattle.twin.proofs.Slots.{holds}
use Rattle.twin.proofs.Sources.{no_true}
use Rattle.mmu.specs.Rights.{access_of, kind_of}
use Rattle.twin.specs.Access.{translates, serves, slot_found, answer_of, found_answer, access_answer}
use Rattle.twin.specs.Call.{access_outcome, resolve_outcome}
use Rattle.twin.specs.History.{refills, refilled, loads_in, disturbed, admits}
use Rattle.twin.specs.Life.{State, begin, step, next, after, history}
use Rattle.twin.specs.Load.{Event, Loaded, Dropped, DroppedAll, ended, dropped, load_event}
use Rattle.twin.specs.Promises.{asks, sets, some_sets, Few, LoadedBy, NotMissed, LoadedStays}
use Rattle.twin.specs.Resolve.{Walked, StoppedFirst, StoppedSecond, Passed, walked, resolved, resolve_found, resolve_walked, resolve_missed, first_written, only}
use Rattle.tlb.specs.Shape.{Shape}
use Rattle.twin.specs.Unit.{Page, shape, half, zero_entry, space}
use Rattle.twin.specs.declared.request.Reply.TheVariants as replies
use Rattle.twin.specs.declared.request.Request.{Request}
use Rattle.twin.specs.declared.unit.Mmu.{Mmu}

-- n loads after the one into slot i the index is j
abbrev Turn : Bool → ℕ → ℕ → ℕ → Type 0
Turn false i n j = (j < 32) × ((j + n + 1) % 32 ≡ i)
Turn true i n j = (j < 28) × (i < 28 → (j + n + 1) % 28 ≡ i)

abbrev limit : Bool → ℕ
limit false = 31
limit true = 27

turn_first : (r : Bool) (i : ℕ) → i < 32 → Turn r i 0 (next_index r i)
turn_first false i h = (omega arith, omega arith)
turn_first true i h = (omega arith, λ low. omega arith)

turn_more : (r : Bool) (i n j : ℕ) → Turn r i n j → Turn r i (n + 1) (next_index r j)
turn_more false i n j t = (omega arith, omega (arith, t.0, t.1))
turn_more true i n j t = (omega arith, λ low. omega (arith, t.0, t.1 low))

turn_apart : (r : Bool) (i n j : ℕ) → Turn r i n j → n + 1 ≤ limit r → i < 32 → i ≡ j → ⊥
turn_apart false i n j t few h e = omega (arith, t.0, t.1)
turn_apart true i n j t few h e = omega (arith, t.0, t.1 (omega (arith, t.0)))

module _ {P : Type 0} where
  pub loads_append : (xs ys : List (Event P)) → loads_in (xs ++ ys) ≡ loads_in xs + loads_in ys
  loads_append [] ys = omega arith
  loads_append (Loaded j x ∷ xs) ys = omega (arith, loads_append xs ys)
  loads_append (Dropped a ∷ xs) ys = loads_append xs ys
  loads_append (DroppedAll r ∷ xs) ys = loads_append xs ys

  refilled_append : (i : ℕ) (xs ys : List (Event P)) → refilled i xs ≡ false → refilled i ys ≡ false → refilled i (xs ++ ys) ≡ false
  refilled_append i [] ys p q = q
  refilled_append i (v ∷ xs) ys p q = let h = or_parts (refills i v) (refilled i xs) p in or_from _ _ h.0 (refilled_append i xs ys h.1 q)

-- through a list of requests that set no control register, the slot is not filled again
module _ (k : Kind) (i : ℕ) (small : i < 32) (r : Bool) where
  pub record Turning (s : State) (vs : List (Event (Page k))) : Type 0 where
    pub reserved : reserve (half k s.unit).registers.ctr ≡ r
    pub turn : Turn r i (loads_in vs) (index_of (half k s.unit).registers.ctr)
    pub fresh : refilled i vs ≡ false

  one_step : (q : Request) (s : State) (vs : List (Event (Page k))) → Turning s vs → loads_in ((step q s).events k ++ vs) ≤ limit r → Moves (half k s.unit).registers.ctr (half k (step q s).unit).registers.ctr ((step q s).events k) → Turning (next q s) ((step q s).events k ++ vs)
  one_step q s vs t few (stands same none quiet) = record {
    reserved = ap reserve same ∙ t.reserved;
    turn =
        let count : loads_in ((step q s).events k ++ vs) ≡ loads_in vs = loads_append ((step q s).events k) vs ∙ omega (arith, none) in
        subst (λ n. Turn r i n (index_of (half k (step q s).unit).registers.ctr)) (sym count) (subst (λ c. Turn r i (loads_in vs) (index_of c)) (sym same) t.turn);
    fresh = refilled_append i ((step q s).events k) vs (quiet i) t.fresh;
  }
  one_step q s vs t few (turns x is moved) =
      let c = (half k s.unit).registers.ctr in
      let below = next_small (reserve c) (index_of c) in
      let whole : (step q s).events k ++ vs ≡ Loaded (index_of c) x ∷ vs = ap (λ l. l ++ vs) is in
      let count : loads_in vs + 1 ≤ limit r = subst (λ l. loads_in l ≤ limit r) whole few in
      record {
        reserved = ap reserve moved ∙ reserve_set _ c below ∙ t.reserved;
        turn =
            subst (λ l. Turn r i (loads_in l) (index_of (half k (step q s).unit).registers.ctr)) (sym whole)
            (subst (λ j. Turn r i (loads_in vs + 1) j) (sym (ap index_of moved ∙ index_set _ c below))
            (subst (λ b. Turn r i (loads_in vs + 1) (next_index b (index_of c))) (sym t.reserved) (turn_more r i (loads_in vs) (index_of c) t.turn)));
        fresh = subst (λ l. refilled i l ≡ false) (sym whole) (or_from _ _ (ne_eqb i (index_of c) (turn_apart r i (loads_in vs) (index_of c) t.turn count small)) t.fresh);
      }

  run : (rs : List Request) (s : State) (vs : List (Event (Page k))) → some_sets k rs ≡ false → Turning s vs → loads_in (history k s rs ++ vs) ≤ limit r → refilled i (history k s rs ++ vs) ≡ false
  run [] s vs unset t few = t.fresh
  run (q ∷ rs) s vs unset t few =
      let u = or_parts (sets k q) (some_sets k rs) unset in
      let join = append_assoc (history k (next q s) rs) ((step q s).events k) vs in
      let all : loads_in (history k (next q s) rs ++ ((step q s).events k ++ vs)) ≤ limit r = subst (λ l. loads_in l ≤ limit r) join few in
      let here : loads_in ((step q s).events k ++ vs) ≤ limit r = omega (arith, loads_append (history k (next q s) rs) ((step q s).events k ++ vs)) in
      subst (λ l. refilled i l ≡ false) (sym join)
      (run rs (next q s) ((step q s).events k ++ vs) u.1 (one_step q s vs t here (moves q k s u.0)) all)

-- a slot that is neither filled again nor disturbed holds what was loaded
module _ {P : Type 0} (s : Shape P) (z : Entry P) (i : ℕ) (x : Entry P) (past : List (Event P)) where
  still : (vs : List (Event P)) → refilled i vs ≡ false → disturbed s x.page vs ≡ false → holds s z (vs ++ (Loaded i x ∷ past)) i ≡ x
  still [] p q = ap (λ t. cond t x (holds s z past i)) (eq-eqb i i refl)
  still (Loaded j y ∷ vs) p q =
      let h = or_parts (eqb i j) (refilled i vs) p in
      ap (λ t. cond t y (holds s z (vs ++ (Loaded i x ∷ past)) i)) h.0 ∙ still vs h.1 q
  still (Dropped a ∷ vs) p q =
      let h = or_parts (contains (s.body x.page) a) (disturbed s x.page vs) q in
      ap (dropped s a) (still vs p h.1) ∙ ap (λ t. cond t (ended x) x) h.0
  still (DroppedAll reserved ∷ vs) p q = no_true (sym q)

-- the load of a resolve is live
pub no_load : {A P : Type 0} (i : ℕ) (x : Entry P) → [] ≡ Loaded i x ∷ [] → A
no_load i x e = let w : ◌≡◌ {A = ℕ} 0 1 = ap loads_in e in absurd (omega arith)

same_load : {P : Type 0} (i j : ℕ) (x y : Entry P) → Loaded i x ∷ [] ≡ Loaded j y ∷ [] → (i ≡ j) × (x ≡ y)
same_load i j x y e = (cc, cc)

live_only : (j k : Kind) (w v e i : ℕ) (u : Mmu) (x : Entry (Page k)) → only j (load_event (shape j) v (half j (first_written j w (resolve_missed j e u)))) k ≡ Loaded i x ∷ [] → x.live ≡ true
live_only Instruction Instruction w v e i u x q = ap (λ y. y.live) (sym (same_load _ i _ x q).1) ∙ epn_lives e (space u) (space_small u.casid)
live_only Instruction Data w v e i u x q = no_load i x q
live_only Data Instruction w v e i u x q = no_load i x q
live_only Data Data w v e i u x q = ap (λ y. y.live) (sym (same_load _ i _ x q).1) ∙ epn_lives e (space u) (space_small u.casid)

live_walked : (j k : Kind) (o : Walked) (a : Access) (e i : ℕ) (u : Mmu) (x : Entry (Page k)) → (resolve_walked j o a e (resolve_missed j e u)).events k ≡ Loaded i x ∷ [] → x.live ≡ true
live_walked j k (StoppedFirst f) a e i u x q = no_load i x q
live_walked j k (StoppedSecond w f) a e i u x q = no_load i x q
live_walked j k (Passed w v) a e i u x q = live_only j k w v e i u x q

live_found : (j k : Kind) (o : Option ℕ) (m : Meaning) (a : Access) (e i : ℕ) (u : Mmu) (x : Entry (Page k)) → (resolve_found j o m a e u).events k ≡ Loaded i x ∷ [] → x.live ≡ true
live_found j k (Some n) m a e i u x q = no_load i x q
live_found j k None m a e i u x q = live_walked j k (walked m u.twb e) a e i u x q

live_resolved : (t : Bool) (j k : Kind) (m : Meaning) (a : Access) (e i : ℕ) (u : Mmu) (x : Entry (Page k)) → (resolved t j m a e u).events k ≡ Loaded i x ∷ [] → x.live ≡ true
live_resolved false j k m a e i u x q = no_load i x q
live_resolved true j k m a e i u x q = live_found j k (slot_found (shape j) (half j u) e (space u)) m a e i u x q

live_outcome : (o : Option Access) (k : Kind) (n e i : ℕ) (u : Mmu) (m : Meaning) (x : Entry (Page k)) → (resolve_outcome o n e u m).events k ≡ Loaded i x ∷ [] → x.live ≡ true
live_outcome None k n e i u m x q = no_load i x q
live_outcome (Some a) k n e i u m x q = live_resolved (translates (kind_of a) u.mode) (kind_of a) k m a e i u x q

-- the search finds something if some element passes
finds : {X : Type 0} (f : X → Bool) (d : X) (xs : List X) (n i : ℕ) → i < length xs → f (get_or xs i d) ≡ true → (j : ℕ) × (lowest_from f n xs ≡ Some j)
finds f d [] n i h p = absurd (omega arith)
finds f d (y ∷ ys) n zero h p = (n, ap (λ t. cond t (Some n) (lowest_from f (n + 1) ys)) p)
finds f d (y ∷ ys) n (suc i) h p = by_test (finds f d ys (n + 1) i (omega arith) p) (f y) refl
  where
    by_test : ((j : ℕ) × (lowest_from f (n + 1) ys ≡ Some j)) → (t : Bool) → f y ≡ t → (j : ℕ) × (cond (f y) (Some n) (lowest_from f (n + 1) ys) ≡ Some j)
    by_test rec true q = (n, ap (λ t. cond t (Some n) (lowest_from f (n + 1) ys)) q)
    by_test rec false q = (rec.0, ap (λ t. cond t (Some n) (lowest_from f (n + 1) ys)) q ∙ rec.1)

-- where a slot is found there is no miss
not_missed_answer : (r : Result Grant Fault) → answer_of r ≡ Miss → ⊥
not_missed_answer (Ok g) e = let w : ◌≡◌ {A = ℕ} 0 1 = cc in omega arith
not_missed_answer (Err f) e = let w : ◌≡◌ {A = ℕ} 0 1 = cc in omega arith

module _ (s : State) (n e : ℕ) (a : Access) (j : ℕ) (found : slot_found (shape (kind_of a)) (half (kind_of a) s.unit) e (space s.unit) ≡ Some j) where
  no_miss : (t : Bool) → access_answer t (kind_of a) s.unit a e ≡ Miss → ⊥
  no_miss false q = let w : ◌≡◌ {A = ℕ} 0 1 = cc in omega arith
  no_miss true q = not_missed_answer _ (sym (ap (λ o. found_answer (shape (kind_of a)) (half (kind_of a) s.unit) (zero_entry (kind_of a)) o s.unit.mode.problem a e) found) ∙ q)

  unit_stays : (t : Bool) → (resolved t (kind_of a) s.memory a e s.unit).unit ≡ s.unit
  unit_stays false = refl
  unit_stays true = ap (λ o. (resolve_found (kind_of a) o s.memory a e s.unit).unit) found

  answers_alike : (t : Bool) → (resolved t (kind_of a) s.memory a e s.unit).answer ≡ access_answer t (kind_of a) s.unit a e
  answers_alike false = refl
  answers_alike true = ap (λ o. (resolve_found (kind_of a) o s.memory a e s.unit).answer) found

  not_missed : access_of n ≡ Some a → NotMissed s n e
  not_missed is =
      let t = translates (kind_of a) s.unit.mode in
      record {
        hits = λ q. no_miss t (let z : replies.Answer (access_answer t (kind_of a) s.unit a e) ≡ replies.Answer Miss = sym (ap (λ o. (access_outcome o n e s.unit s.memory).reply) is) ∙ q in cc);
        stays = ap (λ o. record { unit = (resolve_outcome o n e s.unit s.memory).unit; memory = (resolve_outcome o n e s.unit s.memory).memory }) is ∙ ap (λ u. record { unit = u; memory = s.memory }) (unit_stays t);
        alike =
            ap (λ o. (resolve_outcome o n e s.unit s.memory).reply) is
            ∙ ap (λ x. replies.Answer x) (answers_alike t)
            ∙ sym (ap (λ o. (access_outcome o n e s.unit s.memory).reply) is);
      }

within : (n : ℕ) (r : Bool) → Few n r → n ≤ limit r
within n false (inl few) = omega arith
within n false (inr few) = few.0
within n true (inl few) = few
within n true (inr few) = no_true (sym few.1)

module _ (k : Kind) (m : Meaning) (rs between : List Request) (n e i : ℕ) (a : Access) (x : Entry (Page k)) (l : LoadedBy k m rs between n e i a x) where
  before : State
  before = after (begin m) rs

  since : State
  since = next (asks true n e) before

  reserved_now : Bool
  reserved_now = reserve (half k since.unit).registers.ctr

  -- the index as the load left it
  first_turn : Moves (half k before.unit).registers.ctr (half k since.unit).registers.ctr ((step (asks true n e) before).events k) → (i < 32) × Turn reserved_now i 0 (index_of (half k since.unit).registers.ctr)
  unfolding before since reserved_now
  first_turn (stands same none quiet) = let w : ◌≡◌ {A = ℕ} 1 0 = sym (ap loads_in l.loads) ∙ none in absurd (omega arith)
  first_turn (turns y is moved) =
      let c = (half k before.unit).registers.ctr in
      let at : i ≡ index_of c = (same_load i (index_of c) x y (sym l.loads ∙ is)).0 in
      let small : i < 32 = omega (arith, index_small c) in
      let below = next_small (reserve c) (index_of c) in
      let reserved : reserved_now ≡ reserve c = ap reserve moved ∙ reserve_set _ c below in
      let index : index_of (half k since.unit).registers.ctr ≡ next_index reserved_now i = ap index_of moved ∙ index_set _ c below ∙ (λ t. next_index (sym reserved t) (sym at t)) in
      (small, subst (λ j. Turn reserved_now i 0 j) (sym index) (turn_first reserved_now i small))

  stays_put : (t : (i < 32) × Turn reserved_now i 0 (index_of (half k since.unit).registers.ctr)) → get_or (half k (after since between).unit).slots i (zero_entry k) ≡ x
  unfolding before since reserved_now
  stays_put t =
      let h = history k since between in
      let nil = append-nil h in
      let few = within (loads_in h) reserved_now l.few in
      let fresh = run k i t.0 reserved_now between since [] l.unset (record { reserved = refl; turn = t.1; fresh = refl }) (subst (λ v. loads_in v ≤ limit reserved_now) (sym nil) few) in
      let kept = kept_after between k ((step (asks true n e) before).events k ++ history k (begin m) rs) since (kept_step (asks true n e) k (history k (begin m) rs) before (kept_life k m rs)) in
      kept.each i t.0
      ∙ ap (λ v. holds (shape k) (zero_entry k) (h ++ (v ++ history k (begin m) rs)) i) l.loads
      ∙ still (shape k) (zero_entry k) i x (history k (begin m) rs) h (subst (λ v. refilled i v ≡ false) nil fresh) l.undisturbed

  long : length (half k (after since between).unit).slots ≡ 32
  unfolding before since
  long = (kept_after between k ((step (asks true n e) before).events k ++ history k (begin m) rs) since (kept_step (asks true n e) k (history k (begin m) rs) before (kept_life k m rs))).all

  found_still : (address : ℕ) → contains ((shape k).body x.page) address ≡ true → admits (shape k) (space (after since between).unit) x ≡ true → (j : ℕ) × (slot_found (shape k) (half k (after since between).unit) address (space (after since between).unit) ≡ Some j)
  unfolding before since
  found_still address inside admitted =
      let t = first_turn (moves (asks true n e) k before refl) in
      let live = live_outcome (access_of n) k n e i before.unit before.memory x l.loads in
      let serving : serves (shape k) address (space (after since between).unit) x ≡ true = and_from _ _ live (and_from _ _ inside admitted) in
      finds (serves (shape k) address (space (after since between).unit)) (zero_entry k) (half k (after since between).unit).slots 0 i (omega (arith, t.0, long)) (ap (serves (shape k) address (space (after since between).unit)) (stays_put t) ∙ serving)

pub loaded_stays : LoadedStays
unfolding before since
loaded_stays k m rs between n e i a x l number address again is kind inside admitted =
    let f = found_still k m rs between n e i a x l address inside admitted in
    let s = after (next (asks true n e) (after (begin m) rs)) between in
    not_missed s number address again f.0 (subst (λ j. slot_found (shape j) (half j s.unit) address (space s.unit) ≡ Some f.0) (sym kind) f.1) is
