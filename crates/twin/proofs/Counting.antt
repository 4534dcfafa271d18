-- A page that a resolve loads stays for 27 more loads of its kind, or 31. Assumes nothing.
use Rattle.std.proofs.Common.{◌≡◌, ℕ, ◌<◌, Bool, true, false, ◌&&◌, eqb, List, [], ◌∷◌, Some, None, Option, sym, refl, ap, ◌∙◌, arith}
use Rattle.std.proofs.lemmas.Nat.{shr-shr}
use Rattle.board.specs.Memory.{Meaning}
use Rattle.calls.specs.declared.call.Call as calls
use Rattle.calls.specs.declared.call.Call.TheVariants.{Poke, Peek, Write, Read, Mode, Resolve, Drop, DropAll, Tally}
use Rattle.calls.specs.declared.fault.Misuse.{Misuse}
use Rattle.mmu.specs.declared.rights.Access as accesses
use Rattle.tlb.specs.Control.{index_of, next_index, reserve}
use Rattle.tlb.specs.Register.{register_at}
use Rattle.tlb.specs.declared.entry.Entry.{Entry}
use Rattle.tlb.specs.declared.register.Kind.{Kind}
use Rattle.tlb.specs.declared.register.Kind.TheVariants.{Instruction, Data}
use Rattle.tlb.specs.declared.register.Register.{Register}
use Rattle.tlb.specs.declared.register.Register.TheVariants.{Ctr, Ap, Epn, Twc, Rpn, Casid, Twb, Tw}
use Rattle.twin.proofs.Sources.{no_true}
use Rattle.mmu.specs.Rights.{access_of, kind_of}
use Rattle.twin.specs.Access.{translates, slot_found, access_left, found_left, missed_unit}
use Rattle.twin.specs.Call.{call_outcome, write_outcome, write_by, access_outcome, resolve_outcome}
use Rattle.twin.specs.History.{refilled, loads_in}
use Rattle.twin.specs.Life.{State, step}
use Rattle.tlb.specs.Control.{with_index}
use Rattle.twin.specs.Load.{Event, Loaded, load_event, loaded_entry}
use Rattle.twin.specs.Promises.{sets, call_sets, sets_control, same_kind, accepted}
use Rattle.twin.specs.Registers.{misused, register_written, write_events}
use Rattle.twin.specs.Resolve.{Walked, StoppedFirst, StoppedSecond, Passed, walked, resolved, resolve_found, resolve_walked, resolve_missed, first_written, loaded_unit, only}
use Rattle.twin.specs.Unit.{Page, shape, half, put, space}
use Rattle.twin.specs.declared.request.Request.{Request}
use Rattle.twin.specs.declared.request.Request.TheVariants as requests
use Rattle.twin.specs.declared.unit.Half.{Half}
use Rattle.twin.specs.declared.unit.Mmu.{Mmu}

-- a control register with another index has that index, and its reserve bit
pub index_set : (i c : ℕ) → i < 32 → index_of (with_index i c) ≡ i
unfolding with_index
index_set i c h = omega arith

pub reserve_set : (i c : ℕ) → i < 32 → reserve (with_index i c) ≡ reserve c
unfolding with_index
reserve_set i c h = ap (λ n. eqb n 1) (omega (arith, shr-shr c 13 14))

-- what one call does to a kind's control register: nothing, and no load; or a load at the index, which counts down
pub data Moves {P : Type 0} (c d : ℕ) (vs : List (Event P)) : Type 0 where
  stands : d ≡ c → loads_in vs ≡ 0 → ((i : ℕ) → refilled i vs ≡ false) → Moves c d vs
  turns : (x : Entry P) → vs ≡ Loaded (index_of c) x ∷ [] → d ≡ with_index (next_index (reserve c) (index_of c)) c → Moves c d vs

abbrev Moved : (k : Kind) → Mmu → Mmu → List (Event (Page k)) → Type 0
Moved k u v vs = Moves (half k u).registers.ctr (half k v).registers.ctr vs

quiet : (k : Kind) (u v : Mmu) → (half k v).registers.ctr ≡ (half k u).registers.ctr → Moved k u v []
quiet k u v e = stands e refl (λ i. refl)

same_ctr : (j k : Kind) (h : Half (Page j)) (u : Mmu) → h.registers.ctr ≡ (half j u).registers.ctr → (half k (put j h u)).registers.ctr ≡ (half k u).registers.ctr
same_ctr Instruction Instruction h u e = e
same_ctr Instruction Data h u e = refl
same_ctr Data Instruction h u e = refl
same_ctr Data Data h u e = e

move_load : (j k : Kind) (w : ℕ) (u v : Mmu) → ((l : Kind) → (half l v).registers.ctr ≡ (half l u).registers.ctr) → Moved k u (loaded_unit j w v) (only j (load_event (shape j) w (half j v)) k)
move_load Instruction Instruction w u v e = turns _ (ap (λ c. Loaded (index_of c) (loaded_entry (shape Instruction) w (half Instruction v)) ∷ []) (e Instruction)) (ap (λ c. with_index (next_index (reserve c) (index_of c)) c) (e Instruction))
move_load Instruction Data w u v e = quiet Data u (loaded_unit Instruction w v) (e Data)
move_load Data Instruction w u v e = quiet Instruction u (loaded_unit Data w v) (e Instruction)
move_load Data Data w u v e = turns _ (ap (λ c. Loaded (index_of c) (loaded_entry (shape Data) w (half Data v)) ∷ []) (e Data)) (ap (λ c. with_index (next_index (reserve c) (index_of c)) c) (e Data))

-- register writes
move_control : (j k : Kind) (w : ℕ) (u : Mmu) → (same_kind j k && true) ≡ false → Moved k u (register_written (Ctr j) w u) []
move_control Instruction Instruction w u e = no_true (sym e)
move_control Instruction Data w u e = quiet Data u (register_written (Ctr Instruction) w u) refl
move_control Data Instruction w u e = quiet Instruction u (register_written (Ctr Data) w u) refl
move_control Data Data w u e = no_true (sym e)

move_written : (r : Register) (w : ℕ) (k : Kind) (u : Mmu) → misused r w ≡ None → sets_control k (Some r) w ≡ false → Moved k u (register_written r w u) (write_events r w u k)
move_written (Ctr j) w k u ok e = move_control j k w u (ap (λ o. same_kind j k && accepted o) (sym ok) ∙ e)
move_written (Ap j) w k u ok e = quiet k u (register_written (Ap j) w u) (same_ctr j k _ u refl)
move_written (Epn j) w k u ok e = quiet k u (register_written (Epn j) w u) (same_ctr j k _ u refl)
move_written (Twc j) w k u ok e = quiet k u (register_written (Twc j) w u) (same_ctr j k _ u refl)
move_written (Rpn j) w k u ok e = move_load j k _ u u (λ l. refl)
move_written Casid w Instruction u ok e = quiet Instruction u (register_written Casid w u) refl
move_written Casid w Data u ok e = quiet Data u (register_written Casid w u) refl
move_written Twb w Instruction u ok e = quiet Instruction u (register_written Twb w u) refl
move_written Twb w Data u ok e = quiet Data u (register_written Twb w u) refl
move_written Tw w Instruction u ok e = quiet Instruction u (register_written Tw w u) refl
move_written Tw w Data u ok e = quiet Data u (register_written Tw w u) refl

move_by : (o : Option Misuse) (r : Register) (n w : ℕ) (m : Meaning) (k : Kind) (u : Mmu) → misused r w ≡ o → sets_control k (Some r) w ≡ false → Moved k u (write_by o r n w u m).unit ((write_by o r n w u m).events k)
move_by (Some why) r n w m k u ok e = quiet k u u refl
move_by None r n w m k u ok e = move_written r w k u ok e

move_write : (o : Option Register) (n w : ℕ) (m : Meaning) (k : Kind) (u : Mmu) → sets_control k o w ≡ false → Moved k u (write_outcome o n w u m).unit ((write_outcome o n w u m).events k)
move_write None n w m k u e = quiet k u u refl
move_write (Some r) n w m k u e = move_by (misused r w) r n w m k u refl e

-- accesses
missed_ctr : (j k : Kind) (e : ℕ) (u : Mmu) → (half k (missed_unit j e u)).registers.ctr ≡ (half k u).registers.ctr
missed_ctr j k e u = same_ctr j k _ u refl

found_ctr : (j k : Kind) (o : Option ℕ) (e : ℕ) (u : Mmu) → (half k (found_left j o e u)).registers.ctr ≡ (half k u).registers.ctr
found_ctr j k None e u = missed_ctr j k e u
found_ctr j k (Some i) e u = refl

access_ctr : (t : Bool) (j k : Kind) (e : ℕ) (u : Mmu) → (half k (access_left t j u e)).registers.ctr ≡ (half k u).registers.ctr
access_ctr false j k e u = refl
access_ctr true j k e u = found_ctr j k (slot_found (shape j) (half j u) e (space u)) e u

move_access : (o : Option accesses.Access) (n e : ℕ) (m : Meaning) (k : Kind) (u : Mmu) → Moved k u (access_outcome o n e u m).unit ((access_outcome o n e u m).events k)
move_access None n e m k u = quiet k u u refl
move_access (Some a) n e m k u = quiet k u (access_left (translates (kind_of a) u.mode) (kind_of a) u e) (access_ctr (translates (kind_of a) u.mode) (kind_of a) k e u)

-- resolves
resolve_missed_ctr : (j k : Kind) (e : ℕ) (u : Mmu) → (half k (resolve_missed j e u)).registers.ctr ≡ (half k u).registers.ctr
resolve_missed_ctr j k e u = missed_ctr Data k e (missed_unit j e u) ∙ missed_ctr j k e u

first_ctr : (j k : Kind) (w : ℕ) (u : Mmu) → (half k (first_written j w u)).registers.ctr ≡ (half k u).registers.ctr
first_ctr Instruction Instruction w u = refl
first_ctr Instruction Data w u = refl
first_ctr Data Instruction w u = refl
first_ctr Data Data w u = refl

move_walked : (j : Kind) (o : Walked) (a : accesses.Access) (e : ℕ) (k : Kind) (u : Mmu) → Moved k u (resolve_walked j o a e (resolve_missed j e u)).unit ((resolve_walked j o a e (resolve_missed j e u)).events k)
move_walked j (StoppedFirst f) a e k u = quiet k u (resolve_missed j e u) (resolve_missed_ctr j k e u)
move_walked j (StoppedSecond w f) a e k u = quiet k u (first_written j w (resolve_missed j e u)) (first_ctr j k w (resolve_missed j e u) ∙ resolve_missed_ctr j k e u)
move_walked j (Passed w v) a e k u = move_load j k v u (first_written j w (resolve_missed j e u)) (λ l. first_ctr j l w (resolve_missed j e u) ∙ resolve_missed_ctr j l e u)

move_found : (j : Kind) (o : Option ℕ) (m : Meaning) (a : accesses.Access) (e : ℕ) (k : Kind) (u : Mmu) → Moved k u (resolve_found j o m a e u).unit ((resolve_found j o m a e u).events k)
move_found j (Some i) m a e k u = quiet k u u refl
move_found j None m a e k u = move_walked j (walked m u.twb e) a e k u

move_resolved : (t : Bool) (j : Kind) (m : Meaning) (a : accesses.Access) (e : ℕ) (k : Kind) (u : Mmu) → Moved k u (resolved t j m a e u).unit ((resolved t j m a e u).events k)
move_resolved false j m a e k u = quiet k u u refl
move_resolved true j m a e k u = move_found j (slot_found (shape j) (half j u) e (space u)) m a e k u

move_resolve : (o : Option accesses.Access) (n e : ℕ) (m : Meaning) (k : Kind) (u : Mmu) → Moved k u (resolve_outcome o n e u m).unit ((resolve_outcome o n e u m).events k)
move_resolve None n e m k u = quiet k u u refl
move_resolve (Some a) n e m k u = move_resolved (translates (kind_of a) u.mode) (kind_of a) m a e k u

move_call : (c : calls.Call) (m : Meaning) (k : Kind) (u : Mmu) → call_sets k c ≡ false → Moved k u (call_outcome c u m).unit ((call_outcome c u m).events k)
move_call (Poke a w) m k u e = quiet k u u refl
move_call (Peek a) m k u e = quiet k u u refl
move_call (Write n w) m k u e = move_write (register_at n) n w m k u e
move_call (Read n) m k u e = quiet k u u refl
move_call (Mode p i d) m Instruction u e = quiet Instruction u (call_outcome (Mode p i d) u m).unit refl
move_call (Mode p i d) m Data u e = quiet Data u (call_outcome (Mode p i d) u m).unit refl
move_call (calls.TheVariants.Access n e) m k u x = move_access (access_of n) n e m k u
move_call (Resolve n e) m k u x = move_resolve (access_of n) n e m k u
move_call (Drop a) m Instruction u e = stands refl refl (λ i. refl)
move_call (Drop a) m Data u e = stands refl refl (λ i. refl)
move_call DropAll m Instruction u e = stands refl refl (λ i. refl)
move_call DropAll m Data u e = stands refl refl (λ i. refl)
move_call Tally m k u e = quiet k u u refl

pub moves : (r : Request) (k : Kind) (s : State) → sets k r ≡ false → Moved k s.unit (step r s).unit ((step r s).events k)
moves (requests.Call c) k s e = move_call c s.memory k s.unit e
moves (requests.Look n i) k s e = quiet k s.unit s.unit refl
