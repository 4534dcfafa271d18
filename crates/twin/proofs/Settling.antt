-- A settled resolve answers what the tables give now. Assumes nothing.
use Rattle.std.proofs.Common.{◌≡◌, ℕ, zero, suc, ◌+◌, ◌^◌, ◌<◌, Bool, true, false, cond, ◌⊎◌, List, [], ◌∷◌, length, set, Some, None, Ok, Err, Option, Result, sym, refl, ap, ◌∙◌, inl, inr, arith}
use Rattle.std.proofs.lemmas.List.{get_or-set_same}
use Rattle.std.proofs.lemmas.Bool.{both_ways}
use Rattle.board.specs.Memory.{Meaning}
use Rattle.calls.specs.declared.fault.Fault.{Fault}
use Rattle.mmu.specs.Walk.{onward, first_word, second_word, reading_of}
use Rattle.mmu.specs.declared.rights.Access.{Access}
use Rattle.tlb.specs.Control.{index_of, next_index, reserve}
use Rattle.tlb.specs.Search.{lowest_from}
use Rattle.tlb.specs.declared.entry.Entry.{Entry}
use Rattle.tlb.specs.declared.register.Kind.{Kind}
use Rattle.tlb.specs.declared.register.Kind.TheVariants.{Instruction, Data}
use Rattle.twin.proofs.Follows.{Kept, kept_life, index_small}
use Rattle.twin.proofs.Grants.{Hit, hit}
use Rattle.twin.proofs.Pages.{page_same, loaded_serves, index_mode, space_small, next_small}
use Rattle.twin.proofs.Sources.{no_true, source_of}
use Rattle.mmu.specs.Rights.{kind_of}
use Rattle.mmu.specs.Verdict.{page_gives}
use Rattle.twin.specs.Access.{translates, serves, slot_found, answer_of, found_answer, translated_answer, protection}
use Rattle.twin.specs.Call.{resolve_outcome}
use Rattle.twin.specs.History.{cleared}
use Rattle.twin.specs.Life.{State, begin, after, history}
use Rattle.twin.specs.Load.{Event, loaded, loaded_entry}
use Rattle.twin.specs.Promises.{settings, reading, reading_answer, Settled, SettledAnswers, LivesAlike}
use Rattle.twin.specs.Resolve.{Walked, StoppedFirst, StoppedSecond, Passed, behind_first, from_first, walked, reading_by, resolved, resolve_found, resolve_walked, resolve_missed, first_written, loaded_unit}
use Rattle.twin.specs.Tells.{tells}
use Rattle.tlb.specs.Shape.{Shape}
use Rattle.twin.specs.Unit.{Page, shape, half, zero_entry, space}
use Rattle.twin.specs.declared.request.Reply.TheVariants as replies
use Rattle.twin.specs.declared.unit.Half.{Half}
use Rattle.twin.specs.declared.unit.Mmu.{Mmu}

-- where nothing was found, an element that passes is found where it is put
found_set : {X : Type 0} (f : X → Bool) (xs : List X) (j : ℕ) (x : X) (n : ℕ) → lowest_from f n xs ≡ None → f x ≡ true → j < length xs → lowest_from f n (set xs j x) ≡ Some (n + j)
found_set f [] j x n e p h = absurd (omega arith)
found_set f (y ∷ ys) zero x n e p h = ap (λ t. cond t (Some n) (lowest_from f (n + 1) ys)) p ∙ ap (λ k. Some k) (omega arith)
found_set f (y ∷ ys) (suc j) x n e p h = by_test (λ q. found_set f ys j x (n + 1) q p (omega arith)) (f y) refl e
  where
    by_test : (lowest_from f (n + 1) ys ≡ None → lowest_from f (n + 1) (set ys j x) ≡ Some (n + 1 + j)) → (t : Bool) → f y ≡ t → cond t (Some n) (lowest_from f (n + 1) ys) ≡ None → cond (f y) (Some n) (lowest_from f (n + 1) (set ys j x)) ≡ Some (n + suc j)
    by_test rec true q r = let w : ◌≡◌ {A = ℕ} 0 1 = cc in absurd (omega arith)
    by_test rec false q r = ap (λ t. cond t (Some n) (lowest_from f (n + 1) (set ys j x))) q ∙ rec r ∙ ap (λ k. Some k) (omega arith)

-- after a load of an entry that serves, where none did, the answer is what its page gives
half_answer : {P : Type 0} (s : Shape P) (z : Entry P) (h : Half P) (v e sp : ℕ) (problem : Bool) (a : Access) → slot_found s h e sp ≡ None → serves s e sp (loaded_entry s v h) ≡ true → length h.slots ≡ 32
    → found_answer s (loaded s v h) z (slot_found s (loaded s v h) e sp) problem a e ≡ answer_of (page_gives s (loaded_entry s v h).page (protection h) problem a e)
half_answer s z h v e sp problem a none serving all =
    let j = index_of h.registers.ctr in
    let small : j < length h.slots = omega (arith, index_small h.registers.ctr, all) in
    let found : slot_found s (loaded s v h) e sp ≡ Some (0 + j) = found_set (serves s e sp) h.slots j (loaded_entry s v h) 0 none serving small in
    let at : 0 + j ≡ j = omega arith in
    let mode = index_mode (next_index (reserve h.registers.ctr) j) h.registers.ctr (next_small (reserve h.registers.ctr) j) in
    let entry = get_or-set_same h.slots j (loaded_entry s v h) z small in
    ap (λ o. found_answer s (loaded s v h) z o problem a e) (found ∙ ap (λ k. Some k) at)
    ∙ (λ i. answer_of (page_gives s (entry i).page (record { group_mode = mode i; ap = h.registers.ap }) problem a e))

-- the reading is read off the walk
module _ {P : Type 0} (makes : ℕ → ℕ → ℕ → P) (m : Meaning) (e : ℕ) where
  off_second : (first : ℕ) (r : Result ℕ Fault) → onward r (λ second. Ok (makes e first second)) ≡ reading_by makes e (behind_first first r)
  off_second first (Ok second) = refl
  off_second first (Err f) = refl

  off_first : (r : Result ℕ Fault) → onward r (λ first. onward (second_word m first e) (λ second. Ok (makes e first second))) ≡ reading_by makes e (from_first m e r)
  off_first (Ok first) = off_second first (second_word m first e)
  off_first (Err f) = refl

  off_walk : (base : ℕ) → reading_of makes m base e ≡ reading_by makes e (walked m base e)
  unfolding walked
  off_walk base = off_first (first_word m base e)

-- by kind: what a passed walk answers
passed_answer : (k : Kind) (w v e : ℕ) (a : Access) (u : Mmu) → e < 2 ^ 32 → slot_found (shape k) (half k u) e (space u) ≡ None → length (half k u).slots ≡ 32
    → translated_answer k (loaded_unit k v (first_written k w (resolve_missed k e u))) a e ≡ answer_of (page_gives (shape k) ((shape k).made e w v) (protection (half k u)) u.mode.problem a e)
passed_answer Instruction w v e a u h none all =
    half_answer (shape Instruction) (zero_entry Instruction) (half Instruction (first_written Instruction w (resolve_missed Instruction e u))) v e (space u) u.mode.problem a none (loaded_serves Instruction e (space u) w v h (space_small u.casid)) all
    ∙ ap (λ p. answer_of (page_gives (shape Instruction) p (protection (half Instruction u)) u.mode.problem a e)) (page_same Instruction e (space u) w v h (space_small u.casid))
passed_answer Data w v e a u h none all =
    half_answer (shape Data) (zero_entry Data) (half Data (first_written Data w (resolve_missed Data e u))) v e (space u) u.mode.problem a none (loaded_serves Data e (space u) w v h (space_small u.casid)) all
    ∙ ap (λ p. answer_of (page_gives (shape Data) p (protection (half Data u)) u.mode.problem a e)) (page_same Data e (space u) w v h (space_small u.casid))

module _ (k : Kind) (past : List (Event (Page k))) (s : State) (a : Access) (e : ℕ) (small : e < 2 ^ 32) (f : Kept k past s.unit) (quiet : Settled k past s e) where
  walked_answer : (o : Walked) → slot_found (shape k) (half k s.unit) e (space s.unit) ≡ None → (resolve_walked k o a e (resolve_missed k e s.unit)).answer ≡ reading_answer (shape k) (reading_by (shape k).made e o) (settings k s) s.unit.mode.problem a e
  walked_answer (StoppedFirst x) none = refl
  walked_answer (StoppedSecond w x) none = refl
  walked_answer (Passed w v) none = passed_answer k w v e a s.unit small none f.all

  hit_answer : (i : ℕ) → slot_found (shape k) (half k s.unit) e (space s.unit) ≡ Some i → translated_answer k s.unit a e ≡ reading_answer (shape k) (reading k s e) (settings k s) s.unit.mode.problem a e
  hit_answer i p =
      let h = hit k past s.unit i e f p in
      let source = source_of (shape k) (zero_entry k) refl past i e (space s.unit) h.found h.serving in
      by_settled i p h (quiet source.load source.live source.inside source.admitted)
    where
      by_settled : (i : ℕ) → slot_found (shape k) (half k s.unit) e (space s.unit) ≡ Some i → (h : Hit k past s.unit i e) → (Ok h.found.load.entry.page ≡ reading k s e) ⊎ (cleared (shape k) h.found.load.slot h.found.load.entry.page h.found.load.later ≡ true) → translated_answer k s.unit a e ≡ reading_answer (shape k) (reading k s e) (settings k s) s.unit.mode.problem a e
      by_settled i p h (inl same) =
          ap (λ o. found_answer (shape k) (half k s.unit) (zero_entry k) o s.unit.mode.problem a e) p
          ∙ ap (λ x. answer_of (page_gives (shape k) x.page (settings k s) s.unit.mode.problem a e)) (h.slot ∙ sym h.found.same)
          ∙ ap (λ r. reading_answer (shape k) r (settings k s) s.unit.mode.problem a e) same
      by_settled i p h (inr gone) = absurd (both_ways _ (ap (λ j. cleared (shape k) j h.found.load.entry.page h.found.load.later) h.found.into ∙ h.found.uncleared) gone)

  found_settled : (o : Option ℕ) → slot_found (shape k) (half k s.unit) e (space s.unit) ≡ o → (resolve_found k o s.memory a e s.unit).answer ≡ reading_answer (shape k) (reading k s e) (settings k s) s.unit.mode.problem a e
  found_settled None p = walked_answer (walked s.memory s.unit.twb e) p ∙ ap (λ r. reading_answer (shape k) r (settings k s) s.unit.mode.problem a e) (sym (off_walk (shape k).made s.memory e s.unit.twb))
  found_settled (Some i) p = hit_answer i p

  on_settled : (t : Bool) → t ≡ true → (resolved t k s.memory a e s.unit).answer ≡ reading_answer (shape k) (reading k s e) (settings k s) s.unit.mode.problem a e
  on_settled true on = found_settled (slot_found (shape k) (half k s.unit) e (space s.unit)) refl
  on_settled false on = no_true on

pub settled_answers : SettledAnswers
settled_answers m rs n e a r =
    let s = after (begin m) rs in
    ap (λ o. (resolve_outcome o n e s.unit s.memory).reply) r.kind
    ∙ ap (λ x. replies.Answer x) (on_settled (kind_of a) (history (kind_of a) (begin m) rs) s a e r.address (kept_life (kind_of a) m rs) r.settled (translates (kind_of a) s.unit.mode) r.on)

pub lives_alike : LivesAlike
lives_alike m m' rs rs' n e a r r' same mode protected =
    let alike =
    settled_answers m rs n e a r
    ∙ (λ i. replies.Answer (reading_answer (shape (kind_of a)) (same i) (protected i) (mode i).problem a e))
    ∙ sym (settled_answers m' rs' n e a r') in
    (alike, ap tells alike)
