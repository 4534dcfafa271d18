-- Looks at a slot, as the unit answers them. Assumes nothing.
use Rattle.std.specs.Prelude.{ℕ, cond, List, Ok, Err, Result, nat_le, slice_index_or}
use Rattle.calls.specs.declared.answer.Answer.TheVariants.{Refused}
use Rattle.calls.specs.declared.fault.Fault.{Fault}
use Rattle.calls.specs.declared.fault.Fault.TheVariants.{NoSlot}
use Rattle.tlb.specs.declared.entry.Entry.{Entry}
use Rattle.twin.specs.declared.look.Seen.{Seen}
use Rattle.twin.specs.declared.request.Reply.{Reply}
use Rattle.twin.specs.declared.request.Reply.TheVariants.{Answer, Saw}

-- the entry in a slot of one kind
abbrev pub slot_seen : {P : Type 0} → List (Entry P) → ℕ → Entry P → Result (Entry P) Fault
slot_seen xs i d = cond (nat_le i 31) (Ok (slice_index_or xs i d)) (Err (NoSlot i))

-- a look's result as a reply, which tells all results apart
abbrev pub look_as_reply : Result Seen Fault → Reply
look_as_reply (Ok x) = Saw x
look_as_reply (Err f) = Answer (Refused f)
