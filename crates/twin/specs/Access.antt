-- Access: what it answers, and what it leaves. Assumes nothing.
use Rattle.std.specs.Prelude.{ℕ, Bool, true, false, Some, None, Ok, Err, Option, Result, slice_index_or}
use Rattle.calls.specs.declared.answer.Answer.{Answer}
use Rattle.calls.specs.declared.answer.Answer.TheVariants.{Miss, Granted, Refused}
use Rattle.calls.specs.declared.answer.Grant.{Grant}
use Rattle.calls.specs.declared.fault.Fault.{Fault}
use Rattle.mmu.specs.Verdict.{page_gives, through_for}
use Rattle.mmu.specs.declared.rights.Access.{Access}
use Rattle.mmu.specs.declared.rights.Protection.{Protection}
use Rattle.tlb.specs.Control.{group_mode, default_inhibit, default_through}
use Rattle.tlb.specs.Entry.{entry_of, matched}
use Rattle.tlb.specs.Search.{lowest}
use Rattle.tlb.specs.declared.entry.Entry.{Entry}
use Rattle.tlb.specs.declared.register.Kind.{Kind}
use Rattle.tlb.specs.declared.register.Kind.TheVariants.{Instruction, Data}
use Rattle.twin.specs.Load.{missed}
use Rattle.tlb.specs.Shape.{Shape}
use Rattle.twin.specs.Unit.{shape, half, put, space, zero_entry}
use Rattle.twin.specs.declared.unit.Half.{Half}
use Rattle.twin.specs.declared.unit.Mode.{Mode}
use Rattle.twin.specs.declared.unit.Mmu.{Mmu}

-- the kind's translation is on
abbrev pub translates : Kind → Mode → Bool
translates Instruction m = m.instruction
translates Data m = m.«data»

abbrev pub protection : {P : Type 0} → Half P → Protection
protection h = record { group_mode = group_mode h.registers.ctr; ap = h.registers.ap }

-- an entry matches an address in a space
abbrev pub serves : {P : Type 0} → Shape P → ℕ → ℕ → Entry P → Bool
serves s e current x = matched x.live x.space (s.body x.page) e current

-- the lowest slot that matches
abbrev pub slot_found : {P : Type 0} → Shape P → Half P → ℕ → ℕ → Option ℕ
slot_found s h e current = lowest (serves s e current) h.slots

abbrev pub answer_of : Result Grant Fault → Answer
answer_of (Ok g) = Granted g
answer_of (Err f) = Refused f

-- the grant with translation off
abbrev pub plain_grant : {P : Type 0} → Half P → Access → ℕ → Grant
plain_grant h a e = record { address = e; size = 0; cache_inhibit = default_inhibit h.registers.ctr; write_through = through_for a (default_through h.registers.ctr); guarded = false }

-- the answer by the slot found
abbrev pub found_answer : {P : Type 0} → Shape P → Half P → Entry P → Option ℕ → Bool → Access → ℕ → Answer
found_answer s h d None problem a e = Miss
found_answer s h d (Some i) problem a e = answer_of (page_gives s (slice_index_or h.slots i d).page (protection h) problem a e)

-- the answer with translation on
abbrev pub translated_answer : (k : Kind) → Mmu → Access → ℕ → Answer
translated_answer k u a e = found_answer (shape k) (half k u) (zero_entry k) (slot_found (shape k) (half k u) e (space u)) u.mode.problem a e

-- the answer with translation on or off
abbrev pub access_answer : Bool → (k : Kind) → Mmu → Access → ℕ → Answer
access_answer false k u a e = Granted (plain_grant (half k u) a e)
access_answer true k u a e = translated_answer k u a e

-- a miss sets the kind's EPN
abbrev pub missed_unit : Kind → ℕ → Mmu → Mmu
missed_unit k e u = put k (missed e (space u) (half k u)) u

abbrev pub found_left : (k : Kind) → Option ℕ → ℕ → Mmu → Mmu
found_left k None e u = missed_unit k e u
found_left k (Some i) e u = u

abbrev pub access_left : Bool → (k : Kind) → Mmu → ℕ → Mmu
access_left false k u e = u
access_left true k u e = found_left k (slot_found (shape k) (half k u) e (space u)) e u

-- the answer of a half, its translation on or off
abbrev pub half_answer : {P : Type 0} → Shape P → Half P → Bool → Bool → ℕ → Access → ℕ → Answer
half_answer s h false problem current a e = Granted (plain_grant h a e)
half_answer s h true problem current a e = found_answer s h (entry_of s.made 0 0 0) (slot_found s h e current) problem a e
