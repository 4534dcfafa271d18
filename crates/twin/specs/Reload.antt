-- A resolve that loads does what the reload routine of software does call by call. Assumes nothing.
use Rattle.std.specs.Prelude.{◌≡◌, ℕ, ◌^◌, ◌<◌, Bool, true, false, ◌&&◌, List, [], ◌∷◌, Some, Ok}
use Rattle.board.specs.Memory.{Meaning, peeked}
use Rattle.calls.specs.declared.answer.Answer.TheVariants.{Done, Value, Miss, Granted, Refused}
use Rattle.calls.specs.declared.call.Call as calls
use Rattle.calls.specs.declared.call.Call.TheVariants.{Peek, Write, Read, Mode}
use Rattle.mmu.specs.Rights.{access_of, kind_of}
use Rattle.mmu.specs.declared.rights.Access.{Access}
use Rattle.tlb.specs.Entry.{entry_of}
use Rattle.tlb.specs.declared.entry.Entry.{Entry}
use Rattle.tlb.specs.declared.register.Kind.{Kind}
use Rattle.tlb.specs.declared.register.Kind.TheVariants.{Instruction, Data}
use Rattle.twin.specs.Example.{tables, asked, told}
use Rattle.twin.specs.Life.{State, begin, step, next, after, replies}
use Rattle.twin.specs.Promises.{asks}
use Rattle.twin.specs.declared.request.Reply.{Reply}
use Rattle.twin.specs.declared.request.Reply.TheVariants.{Answer as Told, Saw}
use Rattle.twin.specs.declared.request.Request.{Request}
use Rattle.twin.specs.declared.request.Request.TheVariants.{Call}
use Rattle.twin.specs.Load.{Loaded}
use Rattle.twin.specs.Unit.{Page, shape}

-- software works with one word; a step is the request that it makes when it holds that word
abbrev pub Step : Type 0
Step = ℕ → Request

-- an access, a read of a register, a peek at the word held, and a write of it to a register
abbrev pub access : ℕ → ℕ → Step
access n e held = asks false n e

abbrev pub read : ℕ → Step
read n held = Call (Read n)

abbrev pub peek : Step
peek held = Call (Peek held)

abbrev pub write : ℕ → Step
write n held = Call (Write n held)

-- a word told takes the place of the word held
abbrev pub then_held : ℕ → Reply → ℕ
then_held held (Told Done) = held
then_held held (Told (Value w)) = w
then_held held (Told Miss) = held
then_held held (Told (Granted g)) = held
then_held held (Told (Refused f)) = held
then_held held (Saw x) = held

-- the requests that steps make
abbrev pub made_by : List Step → ℕ → State → List Request
made_by [] held s = []
made_by (f ∷ fs) held s = f held ∷ made_by fs (then_held held (step (f held) s).reply) (next (f held) s)

-- the routine, from the access that misses: M_TWB (796) reads as the first word's address and MD_TWC (797) as the
-- second's; the first word is written to MD_TWC, and the second to MD_RPN (798), which loads. For a fetch MI_EPN (787)
-- goes to MD_EPN (795) before, the first word to MI_TWC (789) too, and the second to MI_RPN (790)
abbrev pub steps : Kind → ℕ → ℕ → List Step
steps Instruction n e = access n e ∷ read 787 ∷ write 795 ∷ read 796 ∷ peek ∷ write 797 ∷ write 789 ∷ read 797 ∷ peek ∷ write 790 ∷ []
steps Data n e = access n e ∷ read 796 ∷ peek ∷ write 797 ∷ read 797 ∷ peek ∷ write 798 ∷ []

abbrev pub routine : Kind → ℕ → ℕ → State → List Request
routine k n e s = made_by (steps k n e) 0 s

-- all but a refusal accept
abbrev pub accepts : Reply → Bool
accepts (Told Done) = true
accepts (Told (Value w)) = true
accepts (Told Miss) = true
accepts (Told (Granted g)) = true
accepts (Told (Refused f)) = false
accepts (Saw x) = true

abbrev pub all_accept : List Reply → Bool
all_accept [] = true
all_accept (r ∷ rs) = accepts r && all_accept rs

-- the routine leaves the unit and the memory that the resolve leaves, and every step of it is accepted
pub record Reloads (s : State) (k : Kind) (n e : ℕ) : Type 0 where
  pub same : after s (routine k n e s) ≡ next (asks true n e) s
  pub accepted : all_accept (replies s (routine k n e s)) ≡ true

-- a peek at an address of 32 bits tells a word of 32 bits: so it is with every memory that code can make, since there
-- both are u32. A write cuts its word to 32 bits, a resolve takes the second word as it stands
abbrev pub Words : Meaning → Type 0
Words m = (a w : ℕ) → a < 2 ^ 32 → peeked m a ≡ Ok w → w < 2 ^ 32

-- so it is with every resolve that loads, in any state, whether or not a life leads to it, and at any address
abbrev pub ReloadLaw : Type 0
ReloadLaw =
    (s : State) (n e i : ℕ) (a : Access) (x : Entry (Page (kind_of a)))
    → Words s.memory
    → access_of n ≡ Some a
    → (step (asks true n e) s).events (kind_of a) ≡ Loaded i x ∷ []
    → Reloads s (kind_of a) n e

-- the table base is set, and both translations are on
abbrev pub ready : State
ready = after (begin tables) (asked (Write 796 0x1000 ∷ Mode false true true ∷ []))

-- the law has something to say of this state: the same page is loaded for a load and for a fetch
pub record ReloadExample : Type 0 where
  pub words : Words ready.memory
  pub load_loads : (step (asks true 1 0x1234) ready).events Data ≡ Loaded 0 (entry_of (shape Data).made 0x1200 0x2001 0x51f1) ∷ []
  pub load_steps : routine Data 1 0x1234 ready ≡ asked (calls.TheVariants.Access 1 0x1234 ∷ Read 796 ∷ Peek 0x1000 ∷ Write 797 0x2001 ∷ Read 797 ∷ Peek 0x2004 ∷ Write 798 0x51f1 ∷ [])
  pub load_answers : replies ready (routine Data 1 0x1234 ready) ≡ told (Miss ∷ Value 0x1000 ∷ Value 0x2001 ∷ Done ∷ Value 0x2004 ∷ Value 0x51f1 ∷ Done ∷ [])
  pub fetch_loads : (step (asks true 0 0x1234) ready).events Instruction ≡ Loaded 0 (entry_of (shape Instruction).made 0x1200 0x0001 0x51f1) ∷ []
  pub fetch_steps : routine Instruction 0 0x1234 ready ≡ asked (calls.TheVariants.Access 0 0x1234 ∷ Read 787 ∷ Write 795 0x1200 ∷ Read 796 ∷ Peek 0x1000 ∷ Write 797 0x2001 ∷ Write 789 0x2001 ∷ Read 797 ∷ Peek 0x2004 ∷ Write 790 0x51f1 ∷ [])
  pub fetch_answers : replies ready (routine Instruction 0 0x1234 ready) ≡ told (Miss ∷ Value 0x1200 ∷ Done ∷ Value 0x1000 ∷ Value 0x2001 ∷ Done ∷ Done ∷ Value 0x2004 ∷ Value 0x51f1 ∷ Done ∷ [])
