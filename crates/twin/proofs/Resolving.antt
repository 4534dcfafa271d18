-- A resolve that misses, by where its walk stops. Assumes nothing.
use Rattle.std.proofs.Common.{◌≡◌, ℕ, Bool, true, false, Some, None, Ok, Err, Option, Result, sym, refl, ap, ◌∙◌, arith, bit_and}
use Rattle.std.specs.Option.{ok_or}
use Rattle.board.specs.Memory.{Meaning}
use Rattle.calls.specs.declared.answer.Answer.{Answer}
use Rattle.calls.specs.declared.answer.Answer.TheVariants.{Miss, Refused}
use Rattle.calls.specs.declared.answer.Grant.{Grant}
use Rattle.calls.specs.declared.fault.Fault.{Fault}
use Rattle.mmu.specs.Rights.{access_of, kind_of}
use Rattle.mmu.specs.Walk.{first_word, second_word}
use Rattle.mmu.specs.declared.rights.Access.{Access}
use Rattle.tlb.specs.declared.register.Kind.{Kind}
use Rattle.tlb.specs.declared.register.Kind.TheVariants.{Instruction, Data}
use Rattle.tlb.specs.Register.{kept_bits}
use Rattle.tlb.specs.declared.register.Register.TheVariants.{Twc}
use Rattle.twin.specs.Registers.{kept_written}
use Rattle.twin.specs.Access.{answer_of, found_answer, translated_answer, access_answer, slot_found}
use Rattle.twin.specs.Access.{missed_unit}
use Rattle.twin.specs.Call.{Outcome, resolve_outcome}
use Rattle.twin.specs.declared.request.Reply.TheVariants as replies
use Rattle.twin.specs.Resolve.{Walked, StoppedFirst, StoppedSecond, Passed, from_first, behind_first, walked, walk_result, walk_unit, first_written, resolve_missed, resolve_walked, resolve_found, resolved, ResultOf}
use Rattle.twin.specs.Access.{translates}
use Rattle.twin.specs.Unit.{shape, half, space, zero_entry}
use Rattle.twin.specs.declared.unit.Mmu.{Mmu}

-- what an access by number tells of its number
pub numbered : (o : Option Access) (a : Access) (f : Fault) → Ok a ≡ ok_or o f → o ≡ Some a
numbered None a f e = let no : ◌≡◌ {A = ℕ} 0 1 = cc in absurd (omega arith)
numbered (Some b) a f e = cc

-- a first word is kept by a write of MD_TWC and one of the kind's own TWC
pub first_kept : (k : Kind) (w : ℕ) (u : Mmu) → kept_written (Twc k) (bit_and w (kept_bits (Twc k))) (kept_written (Twc Data) (bit_and w (kept_bits (Twc Data))) u) ≡ first_written k w u
first_kept Instruction w u = refl
first_kept Data w u = refl

-- where a walk stops, by its two words
module _ (m : Meaning) (base e : ℕ) where
  pub stopped_first : (f : Fault) → Err f ≡ first_word m base e → StoppedFirst f ≡ walked m base e
  unfolding walked
  stopped_first f h = ap (from_first m e) h

  pub stopped_second : (w : ℕ) (f : Fault) → Ok w ≡ first_word m base e → Err f ≡ second_word m w e → StoppedSecond w f ≡ walked m base e
  unfolding walked
  stopped_second w f h g = ap (behind_first w) g ∙ ap (from_first m e) h

  pub passed_both : (w v : ℕ) → Ok w ≡ first_word m base e → Ok v ≡ second_word m w e → Passed w v ≡ walked m base e
  unfolding walked
  passed_both w v h g = ap (behind_first w) g ∙ ap (from_first m e) h

-- an answer of a page is no miss
no_miss : (r : Result Grant Fault) → Miss ≡ answer_of r → ⊥
no_miss (Ok g) e = let no : ◌≡◌ {A = ℕ} 0 1 = cc in omega arith
no_miss (Err f) e = let no : ◌≡◌ {A = ℕ} 0 1 = cc in omega arith

-- so a miss says that the translation is on and that no slot was found
nothing_found : (k : Kind) (m : Meaning) (u : Mmu) (a : Access) (e : ℕ) (o : Option ℕ) → Miss ≡ found_answer (shape k) (half k u) (zero_entry k) o u.mode.problem a e → resolve_found k o m a e u ≡ resolve_walked k (walked m u.twb e) a e (resolve_missed k e u)
nothing_found k m u a e None h = refl
nothing_found k m u a e (Some i) h = absurd (no_miss _ h)

pub misses : (t : Bool) (k : Kind) (m : Meaning) (u : Mmu) (a : Access) (e : ℕ) → Miss ≡ access_answer t k u a e → resolved t k m a e u ≡ resolve_walked k (walked m u.twb e) a e (resolve_missed k e u)
misses false k m u a e h = let no : ◌≡◌ {A = ℕ} 0 1 = cc in absurd (omega arith)
misses true k m u a e h = nothing_found k m u a e (slot_found (shape k) (half k u) e (space u)) h

pub translating : (t : Bool) (k : Kind) (u : Mmu) (a : Access) (e : ℕ) → Miss ≡ access_answer t k u a e → t ≡ true
translating false k u a e h = let no : ◌≡◌ {A = ℕ} 0 1 = cc in absurd (omega arith)
translating true k u a e h = refl

-- a miss and a walk leave the mode
put_mode : (k : Kind) (e : ℕ) (u : Mmu) → (missed_unit k e u).mode ≡ u.mode
put_mode Instruction e u = refl
put_mode Data e u = refl

walk_mode : (k : Kind) (o : Walked) (u : Mmu) → (walk_unit k o u).mode ≡ u.mode
walk_mode k (StoppedFirst f) u = refl
walk_mode Instruction (StoppedSecond w f) u = refl
walk_mode Data (StoppedSecond w f) u = refl
walk_mode Instruction (Passed w v) u = refl
walk_mode Data (Passed w v) u = refl

missed_base : (k : Kind) (e : ℕ) (u : Mmu) → (resolve_missed k e u).twb ≡ u.twb
missed_base Instruction e u = refl
missed_base Data e u = refl

-- what a resolve answers and leaves
pub record Resolves (r : ResultOf) (a : Answer) (u : Mmu) : Type 0 where
  pub answer : a ≡ r.answer
  pub left : u ≡ r.unit

-- and as a call it comes to this
pub record ResolvesTo (o : Outcome) (a : Answer) (u : Mmu) : Type 0 where
  pub answer : replies.Answer a ≡ o.reply
  pub left : u ≡ o.unit

stops_at : (k : Kind) (o : Walked) (a : Access) (e : ℕ) (u : Mmu) (f : Fault) → Err f ≡ walk_result o → Resolves (resolve_walked k o a e u) (Refused f) (walk_unit k o u)
stops_at k (StoppedFirst g) a e u f h = let same : f ≡ g = cc in record { answer = ap Refused same; left = refl }
stops_at k (StoppedSecond w g) a e u f h = let same : f ≡ g = cc in record { answer = ap Refused same; left = refl }
stops_at k (Passed w v) a e u f h = let no : ◌≡◌ {A = ℕ} 0 1 = cc in absurd (omega arith)

loads_at : (k : Kind) (o : Walked) (a : Access) (e : ℕ) (u : Mmu) → Ok tt ≡ walk_result o → Resolves (resolve_walked k o a e u) (translated_answer k (walk_unit k o u) a e) (walk_unit k o u)
loads_at k (StoppedFirst g) a e u h = let no : ◌≡◌ {A = ℕ} 0 1 = cc in absurd (omega arith)
loads_at k (StoppedSecond w g) a e u h = let no : ◌≡◌ {A = ℕ} 0 1 = cc in absurd (omega arith)
loads_at k (Passed w v) a e u h = record { answer = refl; left = refl }

module _ (k : Kind) (m : Meaning) (u : Mmu) (a : Access) (e : ℕ) (missed : Miss ≡ access_answer (translates k u.mode) k u a e) where
  whole : resolved (translates k u.mode) k m a e u ≡ resolve_walked k (walked m u.twb e) a e (resolve_missed k e u)
  whole = misses (translates k u.mode) k m u a e missed

  -- the walk is over the unit that the misses left
  walk_left : (v : Mmu) → v ≡ walk_unit k (walked m (resolve_missed k e u).twb e) (resolve_missed k e u) → v ≡ walk_unit k (walked m u.twb e) (resolve_missed k e u)
  walk_left v h = h ∙ ap (λ b. walk_unit k (walked m b e) (resolve_missed k e u)) (missed_base k e u)

  walk_told : (r : Result (Unit {0}) Fault) → r ≡ walk_result (walked m (resolve_missed k e u).twb e) → r ≡ walk_result (walked m u.twb e)
  walk_told r h = h ∙ ap (λ b. walk_result (walked m b e)) (missed_base k e u)

  pub stopped : (f : Fault) (v : Mmu) → Err f ≡ walk_result (walked m (resolve_missed k e u).twb e) → v ≡ walk_unit k (walked m (resolve_missed k e u).twb e) (resolve_missed k e u) → Resolves (resolved (translates k u.mode) k m a e u) (Refused f) v
  stopped f v h l =
      let r = stops_at k (walked m u.twb e) a e (resolve_missed k e u) f (walk_told (Err f) h) in
      record { answer = r.answer ∙ ap (λ x. x.answer) (sym whole); left = walk_left v l ∙ r.left ∙ ap (λ x. x.unit) (sym whole) }

  pub loaded : (b : Answer) (v : Mmu) → Ok tt ≡ walk_result (walked m (resolve_missed k e u).twb e) → v ≡ walk_unit k (walked m (resolve_missed k e u).twb e) (resolve_missed k e u) → b ≡ access_answer (translates k v.mode) k v a e → Resolves (resolved (translates k u.mode) k m a e u) b v
  loaded b v h l is =
      let w = resolve_missed k e u in
      let o = walked m u.twb e in
      let v-is = walk_left v l in
      let mode = ap (λ x. x.mode) v-is ∙ walk_mode k o w ∙ put_mode Data e (missed_unit k e u) ∙ put_mode k e u in
      let on = ap (translates k) mode ∙ translating (translates k u.mode) k u a e missed in
      let r = loads_at k o a e w (walk_told (Ok tt) h) in
      record {
        answer = is ∙ ap (λ t. access_answer t k v a e) on ∙ ap (λ x. translated_answer k x a e) v-is ∙ r.answer ∙ ap (λ x. x.answer) (sym whole);
        left = v-is ∙ r.left ∙ ap (λ x. x.unit) (sym whole);
      }

-- a resolve that misses, as code goes about it: the kind under a name of its own, and the misses one after the other
pub record Missing (n : ℕ) (m : Meaning) (u w : Mmu) (a : Access) (k : Kind) (e : ℕ) : Type 0 where
  pub number : access_of n ≡ Some a
  pub kind : k ≡ kind_of a
  pub missed : Miss ≡ access_answer (translates (kind_of a) u.mode) (kind_of a) u a e
  pub left : w ≡ resolve_missed k e u

module _ (n : ℕ) (m : Meaning) (u w : Mmu) (a : Access) (k : Kind) (e : ℕ) (r : Missing n m u w a k e) where
  same_unit : w ≡ resolve_missed (kind_of a) e u
  same_unit = r.left ∙ ap (λ j. resolve_missed j e u) r.kind

  same_walk : (v : Mmu) → v ≡ walk_unit k (walked m w.twb e) w → v ≡ walk_unit (kind_of a) (walked m (resolve_missed (kind_of a) e u).twb e) (resolve_missed (kind_of a) e u)
  same_walk v h = h ∙ (λ i. walk_unit (r.kind i) (walked m (same_unit i).twb e) (same_unit i))

  same_told : (b : Result (Unit {0}) Fault) → b ≡ walk_result (walked m w.twb e) → b ≡ walk_result (walked m (resolve_missed (kind_of a) e u).twb e)
  same_told b h = h ∙ ap (λ x. walk_result (walked m x.twb e)) same_unit

  by_number : (b : Answer) (v : Mmu) → Resolves (resolved (translates (kind_of a) u.mode) (kind_of a) m a e u) b v → ResolvesTo (resolve_outcome (access_of n) n e u m) b v
  by_number b v h = record { answer = ap replies.Answer h.answer ∙ ap (λ o. (resolve_outcome o n e u m).reply) (sym r.number); left = h.left ∙ ap (λ o. (resolve_outcome o n e u m).unit) (sym r.number) }

  pub resolve_stopped : (f : Fault) (v : Mmu) → Err f ≡ walk_result (walked m w.twb e) → v ≡ walk_unit k (walked m w.twb e) w → ResolvesTo (resolve_outcome (access_of n) n e u m) (Refused f) v
  resolve_stopped f v h l = by_number (Refused f) v (stopped (kind_of a) m u a e r.missed f v (same_told (Err f) h) (same_walk v l))

  pub resolve_loaded : (b : Answer) (v : Mmu) → Ok tt ≡ walk_result (walked m w.twb e) → v ≡ walk_unit k (walked m w.twb e) w → b ≡ access_answer (translates (kind_of a) v.mode) (kind_of a) v a e → ResolvesTo (resolve_outcome (access_of n) n e u m) b v
  resolve_loaded b v h l is = by_number b v (loaded (kind_of a) m u a e r.missed b v (same_told (Ok tt) h) (same_walk v l) is)
