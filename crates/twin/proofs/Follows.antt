-- In every life the slots of both kinds are as the history has them. Assumes nothing.
use Rattle.std.proofs.Common.{◌≡◌, ℕ, ◌^◌, ◌<◌, Bool, true, false, List, [], ◌∷◌, ◌++◌, Some, None, Option, sym, refl, subst, append_assoc, append-nil}
use Rattle.std.proofs.lemmas.Nat.{mod_below, pow_pos}
use Rattle.board.specs.Memory.{Meaning}
use Rattle.calls.specs.declared.call.Call.{Call}
use Rattle.calls.specs.declared.call.Call.TheVariants.{Poke, Peek, Write, Read, Mode, Access, Resolve, Drop, DropAll, Tally}
use Rattle.calls.specs.declared.fault.Misuse.{Misuse}
use Rattle.mmu.specs.declared.rights.Access as accesses
use Rattle.tlb.specs.Control.{index_of}
use Rattle.tlb.specs.Register.{register_at}
use Rattle.tlb.specs.declared.register.Kind.{Kind}
use Rattle.tlb.specs.declared.register.Kind.TheVariants.{Instruction, Data}
use Rattle.tlb.specs.declared.register.Register.{Register}
use Rattle.tlb.specs.declared.register.Register.TheVariants.{Ctr, Ap, Epn, Twc, Rpn, Casid, Twb, Tw}
use Rattle.twin.proofs.Slots.{Follows, follows_new, follows_load, follows_drop, follows_drop_all}
use Rattle.mmu.specs.Rights.{access_of, kind_of}
use Rattle.twin.specs.Access.{translates, slot_found, access_left, found_left, missed_unit}
use Rattle.twin.specs.Call.{call_outcome, write_outcome, write_by, access_outcome, resolve_outcome}
use Rattle.twin.specs.Life.{State, begin, step, next, after, history}
use Rattle.twin.specs.Load.{Event, load_event}
use Rattle.twin.specs.Registers.{misused, register_written, write_events}
use Rattle.twin.specs.Resolve.{Walked, StoppedFirst, StoppedSecond, Passed, walked, resolved, resolve_found, resolve_walked, resolve_missed, first_written, first_data, loaded_unit, only}
use Rattle.twin.specs.Unit.{Page, shape, half, put, zero_entry, space}
use Rattle.twin.specs.declared.request.Request.{Request}
use Rattle.twin.specs.declared.request.Request.TheVariants as requests
use Rattle.twin.specs.declared.unit.Half.{Half}
use Rattle.twin.specs.declared.unit.Mmu.{Mmu}

-- the slots of kind k are as this past has them
abbrev pub Kept : (k : Kind) → List (Event (Page k)) → Mmu → Type 0
Kept k past u = Follows (shape k) (zero_entry k) past (half k u).slots

-- a half put back with the same slots changes no kind's slots
same_slots : (j k : Kind) (h : Half (Page j)) (u : Mmu) → h.slots ≡ (half j u).slots → (half k (put j h u)).slots ≡ (half k u).slots
same_slots Instruction Instruction h u e = e
same_slots Instruction Data h u e = refl
same_slots Data Instruction h u e = refl
same_slots Data Data h u e = e

moved : (k : Kind) (past : List (Event (Page k))) (u v : Mmu) → (half k v).slots ≡ (half k u).slots → Kept k past u → Kept k past v
moved k past u v e f = subst (Follows (shape k) (zero_entry k) past) (sym e) f

pub index_small : (c : ℕ) → index_of c < 32
index_small c = mod_below _ (2 ^ 5) (pow_pos 5)

pub kept_load : (j k : Kind) (w : ℕ) (past : List (Event (Page k))) (u : Mmu) → Kept k past u → Kept k (only j (load_event (shape j) w (half j u)) k ++ past) (loaded_unit j w u)
kept_load Instruction Instruction w past u f = follows_load (shape Instruction) (zero_entry Instruction) past _ f _ _ (index_small u.instruction.registers.ctr)
kept_load Instruction Data w past u f = f
kept_load Data Instruction w past u f = f
kept_load Data Data w past u f = follows_load (shape Data) (zero_entry Data) past _ f _ _ (index_small u.«data».registers.ctr)

-- register writes
kept_write : (r : Register) (w : ℕ) (k : Kind) (past : List (Event (Page k))) (u : Mmu) → Kept k past u → Kept k (write_events r w u k ++ past) (register_written r w u)
kept_write (Ctr j) w k past u f = moved k past u _ (same_slots j k _ u refl) f
kept_write (Ap j) w k past u f = moved k past u _ (same_slots j k _ u refl) f
kept_write (Epn j) w k past u f = moved k past u _ (same_slots j k _ u refl) f
kept_write (Twc j) w k past u f = moved k past u _ (same_slots j k _ u refl) f
kept_write (Rpn j) w k past u f = kept_load j k _ past u f
kept_write Casid w Instruction past u f = f
kept_write Casid w Data past u f = f
kept_write Twb w Instruction past u f = f
kept_write Twb w Data past u f = f
kept_write Tw w Instruction past u f = f
kept_write Tw w Data past u f = f

kept_write_by : (o : Option Misuse) (r : Register) (n w : ℕ) (m : Meaning) (k : Kind) (past : List (Event (Page k))) (u : Mmu) → Kept k past u → Kept k ((write_by o r n w u m).events k ++ past) (write_by o r n w u m).unit
kept_write_by (Some why) r n w m k past u f = f
kept_write_by None r n w m k past u f = kept_write r w k past u f

kept_write_outcome : (o : Option Register) (n w : ℕ) (m : Meaning) (k : Kind) (past : List (Event (Page k))) (u : Mmu) → Kept k past u → Kept k ((write_outcome o n w u m).events k ++ past) (write_outcome o n w u m).unit
kept_write_outcome None n w m k past u f = f
kept_write_outcome (Some r) n w m k past u f = kept_write_by (misused r w) r n w m k past u f

-- accesses
kept_missed : (j k : Kind) (e : ℕ) (past : List (Event (Page k))) (u : Mmu) → Kept k past u → Kept k past (missed_unit j e u)
kept_missed j k e past u f = moved k past u _ (same_slots j k _ u refl) f

kept_found : (j : Kind) (o : Option ℕ) (e : ℕ) (k : Kind) (past : List (Event (Page k))) (u : Mmu) → Kept k past u → Kept k past (found_left j o e u)
kept_found j None e k past u f = kept_missed j k e past u f
kept_found j (Some i) e k past u f = f

kept_access : (t : Bool) (j : Kind) (e : ℕ) (k : Kind) (past : List (Event (Page k))) (u : Mmu) → Kept k past u → Kept k past (access_left t j u e)
kept_access false j e k past u f = f
kept_access true j e k past u f = kept_found j (slot_found (shape j) (half j u) e (space u)) e k past u f

kept_access_outcome : (o : Option accesses.Access) (n e : ℕ) (m : Meaning) (k : Kind) (past : List (Event (Page k))) (u : Mmu) → Kept k past u → Kept k ((access_outcome o n e u m).events k ++ past) (access_outcome o n e u m).unit
kept_access_outcome None n e m k past u f = f
kept_access_outcome (Some a) n e m k past u f = kept_access (translates (kind_of a) u.mode) (kind_of a) e k past u f

-- resolves
kept_first_data : (k : Kind) (w : ℕ) (past : List (Event (Page k))) (u : Mmu) → Kept k past u → Kept k past (first_data w u)
kept_first_data k w past u f = moved k past u _ (same_slots Data k _ u refl) f

kept_first : (j k : Kind) (w : ℕ) (past : List (Event (Page k))) (u : Mmu) → Kept k past u → Kept k past (first_written j w u)
kept_first Instruction k w past u f = moved k past (first_data w u) _ (same_slots Instruction k _ (first_data w u) refl) (kept_first_data k w past u f)
kept_first Data k w past u f = kept_first_data k w past u f

kept_walked : (j : Kind) (o : Walked) (a : accesses.Access) (e : ℕ) (k : Kind) (past : List (Event (Page k))) (u : Mmu) → Kept k past u → Kept k ((resolve_walked j o a e u).events k ++ past) (resolve_walked j o a e u).unit
kept_walked j (StoppedFirst g) a e k past u f = f
kept_walked j (StoppedSecond w g) a e k past u f = kept_first j k w past u f
kept_walked j (Passed w v) a e k past u f = kept_load j k v past (first_written j w u) (kept_first j k w past u f)

kept_resolve_found : (j : Kind) (o : Option ℕ) (m : Meaning) (a : accesses.Access) (e : ℕ) (k : Kind) (past : List (Event (Page k))) (u : Mmu) → Kept k past u → Kept k ((resolve_found j o m a e u).events k ++ past) (resolve_found j o m a e u).unit
kept_resolve_found j (Some i) m a e k past u f = f
kept_resolve_found j None m a e k past u f =
    kept_walked j (walked m u.twb e) a e k past (resolve_missed j e u) (kept_missed Data k e past (missed_unit j e u) (kept_missed j k e past u f))

kept_resolved : (t : Bool) (j : Kind) (m : Meaning) (a : accesses.Access) (e : ℕ) (k : Kind) (past : List (Event (Page k))) (u : Mmu) → Kept k past u → Kept k ((resolved t j m a e u).events k ++ past) (resolved t j m a e u).unit
kept_resolved false j m a e k past u f = f
kept_resolved true j m a e k past u f = kept_resolve_found j (slot_found (shape j) (half j u) e (space u)) m a e k past u f

kept_resolve_outcome : (o : Option accesses.Access) (n e : ℕ) (m : Meaning) (k : Kind) (past : List (Event (Page k))) (u : Mmu) → Kept k past u → Kept k ((resolve_outcome o n e u m).events k ++ past) (resolve_outcome o n e u m).unit
kept_resolve_outcome None n e m k past u f = f
kept_resolve_outcome (Some a) n e m k past u f = kept_resolved (translates (kind_of a) u.mode) (kind_of a) m a e k past u f

-- every call changes the slots as its events say
pub kept_call : (c : Call) (m : Meaning) (k : Kind) (past : List (Event (Page k))) (u : Mmu) → Kept k past u → Kept k ((call_outcome c u m).events k ++ past) (call_outcome c u m).unit
kept_call (Poke a w) m k past u f = f
kept_call (Peek a) m k past u f = f
kept_call (Write n w) m k past u f = kept_write_outcome (register_at n) n w m k past u f
kept_call (Read n) m k past u f = f
kept_call (Mode p i d) m Instruction past u f = f
kept_call (Mode p i d) m Data past u f = f
kept_call (Access n e) m k past u f = kept_access_outcome (access_of n) n e m k past u f
kept_call (Resolve n e) m k past u f = kept_resolve_outcome (access_of n) n e m k past u f
kept_call (Drop e) m Instruction past u f = follows_drop (shape Instruction) (zero_entry Instruction) past _ f e
kept_call (Drop e) m Data past u f = follows_drop (shape Data) (zero_entry Data) past _ f e
kept_call DropAll m Instruction past u f = follows_drop_all (shape Instruction) (zero_entry Instruction) past _ f _
kept_call DropAll m Data past u f = follows_drop_all (shape Data) (zero_entry Data) past _ f _
kept_call Tally m k past u f = f

pub kept_step : (r : Request) (k : Kind) (past : List (Event (Page k))) (s : State) → Kept k past s.unit → Kept k ((step r s).events k ++ past) (step r s).unit
kept_step (requests.Call c) k past s f = kept_call c s.memory k past s.unit f
kept_step (requests.Look n i) k past s f = f

pub kept_after : (rs : List Request) (k : Kind) (past : List (Event (Page k))) (s : State) → Kept k past s.unit → Kept k (history k s rs ++ past) (after s rs).unit
kept_after [] k past s f = f
kept_after (r ∷ rs) k past s f =
    subst (λ l. Kept k l (after (next r s) rs).unit) (sym (append_assoc (history k (next r s) rs) ((step r s).events k) past))
    (kept_after rs k ((step r s).events k ++ past) (next r s) (kept_step r k past s f))

kept_new : (k : Kind) (m : Meaning) → Kept k [] (begin m).unit
kept_new Instruction m = follows_new (shape Instruction) (zero_entry Instruction)
kept_new Data m = follows_new (shape Data) (zero_entry Data)

-- in every life
pub kept_life : (k : Kind) (m : Meaning) (rs : List Request) → Kept k (history k (begin m) rs) (after (begin m) rs).unit
kept_life k m rs = subst (λ l. Kept k l (after (begin m) rs).unit) (append-nil (history k (begin m) rs)) (kept_after rs k [] (begin m) (kept_new k m))
