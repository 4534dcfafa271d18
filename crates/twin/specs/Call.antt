-- One definition for each call: its reply, the unit and memory that it leaves, and its events. Assumes nothing.
use Rattle.std.specs.Prelude.{ℕ, Bool, cond, List, [], ◌∷◌, Some, None, Option, nat_le, slice_index_or}
use Rattle.board.specs.Memory.{Meaning, peeked, poked, stored}
use Rattle.calls.specs.Answer.{peek_answer, poke_answer}
use Rattle.calls.specs.declared.answer.Answer.{Answer}
use Rattle.calls.specs.declared.answer.Answer.TheVariants.{Done, Value, Refused}
use Rattle.calls.specs.declared.call.Call as calls
use Rattle.calls.specs.declared.call.Call.TheVariants.{Poke, Peek, Write, Read, Mode, Access, Resolve, Drop, DropAll, Tally}
use Rattle.calls.specs.declared.fault.Fault.TheVariants.{Register, NoKind, NoSlot}
use Rattle.calls.specs.declared.fault.Misuse.{Misuse}
use Rattle.calls.specs.declared.fault.Misuse.TheVariants.{NoRegister}
use Rattle.mmu.specs.declared.rights.Access as accesses
use Rattle.tlb.specs.Control.{reserve}
use Rattle.tlb.specs.Register.{kind_at, register_at}
use Rattle.tlb.specs.declared.register.Kind.{Kind}
use Rattle.tlb.specs.declared.register.Kind.TheVariants.{Instruction, Data}
use Rattle.tlb.specs.declared.register.Register as registers
use Rattle.mmu.specs.Rights.{access_of, kind_of}
use Rattle.twin.specs.Access.{translates, access_answer, access_left}
use Rattle.twin.specs.Load.{Event, Dropped, DroppedAll, drop_half, drop_all_half}
use Rattle.twin.specs.Registers.{register_read, misused, register_written, write_events}
use Rattle.twin.specs.Resolve.{ResultOf, resolved, none}
use Rattle.twin.specs.Unit.{Page, shape, half, put, zero_entry}
use Rattle.twin.specs.declared.look.Seen.TheVariants as seens
use Rattle.twin.specs.declared.request.Reply.{Reply}
use Rattle.twin.specs.declared.request.Reply.TheVariants as replies
use Rattle.twin.specs.declared.request.Request.{Request}
use Rattle.twin.specs.declared.request.Request.TheVariants as requests
use Rattle.twin.specs.declared.unit.Mmu.{Mmu}

pub record Outcome : Type 0 where
  pub reply : Reply
  pub unit : Mmu
  pub memory : Meaning
  pub events : (j : Kind) → List (Event (Page j))

-- an answer that leaves this unit and memory, with no event
abbrev pub answered : Answer → Mmu → Meaning → Outcome
answered a u m = record { reply = replies.Answer a; unit = u; memory = m; events = none }

-- registers
abbrev pub write_by : Option Misuse → registers.Register → ℕ → ℕ → Mmu → Meaning → Outcome
write_by (Some why) r n w u m = answered (Refused (Register why n)) u m
write_by None r n w u m = record { reply = replies.Answer Done; unit = register_written r w u; memory = m; events = write_events r w u }

abbrev pub write_outcome : Option registers.Register → ℕ → ℕ → Mmu → Meaning → Outcome
write_outcome None n w u m = answered (Refused (Register NoRegister n)) u m
write_outcome (Some r) n w u m = write_by (misused r w) r n w u m

abbrev pub read_answer : Option registers.Register → ℕ → Mmu → Answer
read_answer None n u = Refused (Register NoRegister n)
read_answer (Some r) n u = Value (register_read r u)

abbrev pub with_mode : Bool → Bool → Bool → Mmu → Mmu
with_mode p i d u = record { instruction = u.instruction; «data» = u.«data»; casid = u.casid; twb = u.twb; tw = u.tw; mode = record { problem = p; instruction = i; «data» = d }; loads = u.loads }

-- accesses and resolves, the kind's number tested first
abbrev pub access_outcome : Option accesses.Access → ℕ → ℕ → Mmu → Meaning → Outcome
access_outcome None n e u m = answered (Refused (NoKind n)) u m
access_outcome (Some a) n e u m = answered (access_answer (translates (kind_of a) u.mode) (kind_of a) u a e) (access_left (translates (kind_of a) u.mode) (kind_of a) u e) m

abbrev pub from_resolve : ResultOf → Meaning → Outcome
from_resolve r m = record { reply = replies.Answer r.answer; unit = r.unit; memory = m; events = r.events }

abbrev pub resolve_outcome : Option accesses.Access → ℕ → ℕ → Mmu → Meaning → Outcome
resolve_outcome None n e u m = answered (Refused (NoKind n)) u m
resolve_outcome (Some a) n e u m = from_resolve (resolved (translates (kind_of a) u.mode) (kind_of a) m a e u) m

-- drops, of both kinds
abbrev pub drop_unit : ℕ → Mmu → Mmu
drop_unit e u = put Instruction (drop_half (shape Instruction) e (half Instruction u)) (put Data (drop_half (shape Data) e (half Data u)) u)

abbrev pub drop_all_unit : Mmu → Mmu
drop_all_unit u = put Instruction (drop_all_half (half Instruction u)) (put Data (drop_all_half (half Data u)) u)

-- looks: kind 0 is instruction, 1 data; then the slot
abbrev pub look_kind : ℕ → Option Kind
look_kind n = kind_at n

abbrev pub seen : Kind → ℕ → Mmu → Reply
seen Instruction i u = replies.Saw (seens.Instruction (slice_index_or u.instruction.slots i (zero_entry Instruction)))
seen Data i u = replies.Saw (seens.Data (slice_index_or u.«data».slots i (zero_entry Data)))

abbrev pub look_reply : Option Kind → ℕ → ℕ → Mmu → Reply
look_reply None n i u = replies.Answer (Refused (NoKind n))
look_reply (Some k) n i u = cond (nat_le i 31) (seen k i u) (replies.Answer (Refused (NoSlot i)))

abbrev pub call_outcome : calls.Call → Mmu → Meaning → Outcome
call_outcome (Poke a w) u m = record { reply = replies.Answer (poke_answer (poked m a)); unit = u; memory = stored m a w; events = none }
call_outcome (Peek a) u m = answered (peek_answer (peeked m a)) u m
call_outcome (Write n w) u m = write_outcome (register_at n) n w u m
call_outcome (Read n) u m = answered (read_answer (register_at n) n u) u m
call_outcome (Mode p i d) u m = answered Done (with_mode p i d u) m
call_outcome (Access n e) u m = access_outcome (access_of n) n e u m
call_outcome (Resolve n e) u m = resolve_outcome (access_of n) n e u m
call_outcome (Drop e) u m = record { reply = replies.Answer Done; unit = drop_unit e u; memory = m; events = λ j. Dropped e ∷ [] }
call_outcome DropAll u m = record { reply = replies.Answer Done; unit = drop_all_unit u; memory = m; events = λ j. DroppedAll (reserve (half j u).registers.ctr) ∷ [] }
call_outcome Tally u m = answered (Value u.loads) u m

abbrev pub outcome : Request → Mmu → Meaning → Outcome
outcome (requests.Call c) u m = call_outcome c u m
outcome (requests.Look n i) u m = record { reply = look_reply (look_kind n) n i u; unit = u; memory = m; events = none }
