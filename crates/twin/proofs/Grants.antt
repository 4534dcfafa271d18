-- Every grant with translation on is what its source gives. Assumes nothing.
use Rattle.std.proofs.Common.{◌≡◌, ℕ, ◌<◌, Bool, true, false, List, ◌++◌, get_or, Some, None, Ok, Err, Option, Result, sym, refl, ap, ◌∙◌, subst, arith}
use Rattle.calls.specs.declared.answer.Answer.{Answer}
use Rattle.calls.specs.declared.answer.Answer.TheVariants.{Miss, Granted, Refused}
use Rattle.calls.specs.declared.answer.Grant.{Grant}
use Rattle.calls.specs.declared.fault.Fault.{Fault}
use Rattle.mmu.specs.declared.rights.Access.{Access}
use Rattle.tlb.specs.declared.register.Kind.{Kind}
use Rattle.twin.proofs.Follows.{Kept, kept_life, kept_step}
use Rattle.twin.proofs.Slots.{holds}
use Rattle.twin.proofs.Sources.{no_true, Found, find_source, source_of, found_at, serves_live}
use Rattle.mmu.specs.Rights.{access_of, kind_of}
use Rattle.mmu.specs.Verdict.{page_gives}
use Rattle.twin.specs.Access.{translates, serves, slot_found, answer_of, found_answer, translated_answer, access_answer, access_left, found_left}
use Rattle.twin.specs.Call.{access_outcome, resolve_outcome}
use Rattle.twin.specs.Life.{State, begin, step, next, after, history}
use Rattle.twin.specs.Load.{Event}
use Rattle.twin.specs.Promises.{asks, settings, Sourced, GrantsSourced}
use Rattle.twin.specs.Resolve.{Walked, StoppedFirst, StoppedSecond, Passed, walked, resolved, resolve_found, resolve_walked, resolve_missed}
use Rattle.twin.specs.Unit.{Page, shape, half, zero_entry, space}
use Rattle.twin.specs.declared.request.Reply.TheVariants as replies
use Rattle.twin.specs.declared.unit.Mmu.{Mmu}

granted_ok : (r : Result Grant Fault) (g : Grant) → answer_of r ≡ Granted g → r ≡ Ok g
granted_ok (Ok x) g e = cc
granted_ok (Err f) g e = let w : ◌≡◌ {A = ℕ} 0 1 = cc in absurd (omega arith)

-- the slot that the search finds: its entry serves, and its source is in the history
pub record Hit (k : Kind) (past : List (Event (Page k))) (u : Mmu) (i e : ℕ) : Type 0 where
  pub found : Found (shape k) (zero_entry k) refl past i
  pub serving : serves (shape k) e (space u) (holds (shape k) (zero_entry k) past i) ≡ true
  pub slot : get_or (half k u).slots i (zero_entry k) ≡ holds (shape k) (zero_entry k) past i

pub hit : (k : Kind) (past : List (Event (Page k))) (u : Mmu) (i e : ℕ) → Kept k past u → slot_found (shape k) (half k u) e (space u) ≡ Some i → Hit k past u i e
hit k past u i e f q =
    let at = found_at (serves (shape k) e (space u)) (zero_entry k) (half k u).slots 0 i q in
    let place : at.place ≡ i = omega (arith, at.is) in
    let small : i < 32 = omega (arith, at.is, at.within, f.all) in
    let slot = f.each i small in
    let serving = ap (serves (shape k) e (space u)) (sym slot) ∙ ap (λ j. serves (shape k) e (space u) (get_or (half k u).slots j (zero_entry k))) (sym place) ∙ at.passes in
    record { found = find_source (shape k) (zero_entry k) refl past i (serves_live (shape k) (zero_entry k) refl e (space u) _ serving); serving = serving; slot = slot }

sourced : (k : Kind) (past : List (Event (Page k))) (s : State) (a : Access) (e : ℕ) (g : Grant) → Kept k past s.unit → translated_answer k s.unit a e ≡ Granted g → Sourced k past s a e g
sourced k past s a e g f q = by_found (slot_found (shape k) (half k s.unit) e (space s.unit)) refl q
  where
    by_found : (o : Option ℕ) → slot_found (shape k) (half k s.unit) e (space s.unit) ≡ o → found_answer (shape k) (half k s.unit) (zero_entry k) o s.unit.mode.problem a e ≡ Granted g → Sourced k past s a e g
    by_found None p r = let w : ◌≡◌ {A = ℕ} 0 1 = cc in absurd (omega arith)
    by_found (Some i) p r =
        let h = hit k past s.unit i e f p in (
          i,
          p,
          (
            source_of (shape k) (zero_entry k) refl past i e (space s.unit) h.found h.serving,
            ap (λ x. page_gives (shape k) x.page (settings k s) s.unit.mode.problem a e) (h.found.same ∙ sym h.slot) ∙ granted_ok _ g r,
          ),
        )

answer_is : {x y : Answer} → replies.Answer x ≡ replies.Answer y → x ≡ y
answer_is e = cc

not_granted_miss : {A : Type 0} (g : Grant) → Miss ≡ Granted g → A
not_granted_miss g e = let w : ◌≡◌ {A = ℕ} 0 1 = cc in absurd (omega arith)

not_granted_refused : {A : Type 0} (f : Fault) (g : Grant) → Refused f ≡ Granted g → A
not_granted_refused f g e = let w : ◌≡◌ {A = ℕ} 0 1 = cc in absurd (omega arith)

module _ (k : Kind) (past : List (Event (Page k))) (s : State) (a : Access) (e : ℕ) (g : Grant) (f : Kept k past s.unit) where
  -- a granted resolve answers from the unit that it leaves
  walked_sourced : (o : Walked) (u : Mmu) → Kept k ((resolve_walked k o a e u).events k ++ past) (resolve_walked k o a e u).unit → (resolve_walked k o a e u).answer ≡ Granted g
      → Sourced k ((resolve_walked k o a e u).events k ++ past) (record { unit = (resolve_walked k o a e u).unit; memory = s.memory }) a e g
  walked_sourced (StoppedFirst x) u h q = not_granted_refused x g q
  walked_sourced (StoppedSecond w x) u h q = not_granted_refused x g q
  walked_sourced (Passed w v) u h q = sourced k _ (record { unit = (resolve_walked k (Passed w v) a e u).unit; memory = s.memory }) a e g h q

  found_sourced : (o : Option ℕ) → Kept k ((resolve_found k o s.memory a e s.unit).events k ++ past) (resolve_found k o s.memory a e s.unit).unit → (resolve_found k o s.memory a e s.unit).answer ≡ Granted g
      → Sourced k ((resolve_found k o s.memory a e s.unit).events k ++ past) (record { unit = (resolve_found k o s.memory a e s.unit).unit; memory = s.memory }) a e g
  found_sourced (Some i) h q = sourced k _ (record { unit = s.unit; memory = s.memory }) a e g h q
  found_sourced None h q = walked_sourced (walked s.memory s.unit.twb e) (resolve_missed k e s.unit) h q

  resolve_on : (t : Bool) → t ≡ true → Kept k ((resolved t k s.memory a e s.unit).events k ++ past) (resolved t k s.memory a e s.unit).unit → (resolved t k s.memory a e s.unit).answer ≡ Granted g
      → Sourced k ((resolved t k s.memory a e s.unit).events k ++ past) (record { unit = (resolved t k s.memory a e s.unit).unit; memory = s.memory }) a e g
  resolve_on true t h q = found_sourced (slot_found (shape k) (half k s.unit) e (space s.unit)) h q
  resolve_on false t h q = no_true t

  -- a granted access leaves the unit as it was
  access_found : (o : Option ℕ) → Kept k past (found_left k o e s.unit) → slot_found (shape k) (half k s.unit) e (space s.unit) ≡ o → translated_answer k s.unit a e ≡ Granted g
      → Sourced k past (record { unit = found_left k o e s.unit; memory = s.memory }) a e g
  access_found None h p q = not_granted_miss g (sym (ap (λ o. found_answer (shape k) (half k s.unit) (zero_entry k) o s.unit.mode.problem a e) p) ∙ q)
  access_found (Some i) h p q = sourced k past (record { unit = s.unit; memory = s.memory }) a e g f q

  access_on : (t : Bool) → t ≡ true → Kept k past (access_left t k s.unit e) → access_answer t k s.unit a e ≡ Granted g
      → Sourced k past (record { unit = access_left t k s.unit e; memory = s.memory }) a e g
  access_on true t h q = access_found (slot_found (shape k) (half k s.unit) e (space s.unit)) h refl q
  access_on false t h q = no_true t

-- by the access that the kind's number names
module _ (s : State) (n e : ℕ) (a : Access) (g : Grant) (past : List (Event (Page (kind_of a)))) (f : Kept (kind_of a) past s.unit) (on : translates (kind_of a) s.unit.mode ≡ true) where
  Resolves : Option Access → Type 0
  Resolves o =
      Kept (kind_of a) ((resolve_outcome o n e s.unit s.memory).events (kind_of a) ++ past) (resolve_outcome o n e s.unit s.memory).unit
      → (resolve_outcome o n e s.unit s.memory).reply ≡ replies.Answer (Granted g)
      → Sourced (kind_of a) ((resolve_outcome o n e s.unit s.memory).events (kind_of a) ++ past) (record { unit = (resolve_outcome o n e s.unit s.memory).unit; memory = (resolve_outcome o n e s.unit s.memory).memory }) a e g

  Accesses : Option Access → Type 0
  Accesses o =
      Kept (kind_of a) ((access_outcome o n e s.unit s.memory).events (kind_of a) ++ past) (access_outcome o n e s.unit s.memory).unit
      → (access_outcome o n e s.unit s.memory).reply ≡ replies.Answer (Granted g)
      → Sourced (kind_of a) ((access_outcome o n e s.unit s.memory).events (kind_of a) ++ past) (record { unit = (access_outcome o n e s.unit s.memory).unit; memory = (access_outcome o n e s.unit s.memory).memory }) a e g

  by_number : (resolves : Bool) → access_of n ≡ Some a → Kept (kind_of a) ((step (asks resolves n e) s).events (kind_of a) ++ past) (step (asks resolves n e) s).unit → (step (asks resolves n e) s).reply ≡ replies.Answer (Granted g)
      → Sourced (kind_of a) ((step (asks resolves n e) s).events (kind_of a) ++ past) (next (asks resolves n e) s) a e g
  unfolding Resolves Accesses
  by_number true is h q = subst Resolves (sym is) (λ h' q'. resolve_on (kind_of a) past s a e g f (translates (kind_of a) s.unit.mode) on h' (answer_is q')) h q
  by_number false is h q = subst Accesses (sym is) (λ h' q'. access_on (kind_of a) past s a e g f (translates (kind_of a) s.unit.mode) on h' (answer_is q')) h q

pub grants_sourced : GrantsSourced
grants_sourced m rs resolves n e a g is on q =
    let f = kept_life (kind_of a) m rs in
    by_number (after (begin m) rs) n e a g (history (kind_of a) (begin m) rs) f on resolves is (kept_step (asks resolves n e) (kind_of a) (history (kind_of a) (begin m) rs) (after (begin m) rs) f) q
