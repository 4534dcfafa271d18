-- Lives in which the promises have something to say. Assumes nothing.
use Rattle.std.specs.Prelude.{◌≡◌, ℕ, zero, suc, true, false, cond, List, [], ◌∷◌, ◌++◌, Some, None, ◌==◌}
use Rattle.board.specs.Memory.{Meaning}
use Rattle.calls.specs.declared.answer.Answer.{Answer}
use Rattle.calls.specs.declared.answer.Answer.TheVariants.{Done, Miss, Granted, Refused}
use Rattle.calls.specs.declared.call.Call as calls
use Rattle.calls.specs.declared.call.Call.TheVariants.{Poke, Write, Mode, Access, Resolve, Drop}
use Rattle.calls.specs.declared.fault.Descriptor.TheVariants.{SecondInvalid}
use Rattle.calls.specs.declared.fault.Fault.TheVariants.{Walk}
use Rattle.mmu.specs.declared.rights.Access.TheVariants.{Load}
use Rattle.twin.specs.Life.{begin, replies}
use Rattle.twin.specs.Promises.{SettledResolve}
use Rattle.twin.specs.declared.request.Reply.{Reply}
use Rattle.twin.specs.declared.request.Reply.TheVariants.{Answer as Told}
use Rattle.twin.specs.declared.request.Request.{Request}
use Rattle.twin.specs.declared.request.Request.TheVariants.{Call}

-- a first word at 0x1000 and a second at 0x2004, all storable
abbrev pub tables : Meaning
tables = record { word = λ a. cond (a == 0x1000) (Some 0x2001) (cond (a == 0x2004) (Some 0x51f1) None); storable = λ _. true }

abbrev pub asked : List calls.Call → List Request
asked [] = []
asked (c ∷ cs) = Call c ∷ asked cs

abbrev pub told : List Answer → List Reply
told [] = []
told (a ∷ rs) = Told a ∷ told rs

-- the table base is set, and data translation is on
abbrev pub opening : List calls.Call
opening = Write 796 0x1000 ∷ Mode false false true ∷ []

abbrev pub granted : ℕ → Answer
granted a = Granted (record { address = a; size = 4096; cache_inhibit = false; write_through = false; guarded = false })

-- a resolve that walks and loads; one that hits; the table is changed under the page; a resolve that answers from the
-- older page; a drop; a resolve whose reading is a fault
abbrev pub first_part : List calls.Call
first_part = opening ++ (Resolve 1 0x1234 ∷ [])

abbrev pub second_part : List calls.Call
second_part = first_part ++ (Resolve 1 0x1238 ∷ Poke 0x2004 0 ∷ [])

abbrev pub third_part : List calls.Call
third_part = second_part ++ (Resolve 1 0x1234 ∷ Drop 0x1000 ∷ [])

abbrev pub changing : List calls.Call
changing = third_part ++ (Resolve 1 0x1234 ∷ [])

-- loads by hand of another page, n of them
abbrev pub by_hand : ℕ → List calls.Call
by_hand zero = []
by_hand (suc n) = Write 798 0x000000f1 ∷ by_hand n

-- a control register, a resolve that loads, n loads by hand, and an access to the page that the resolve loaded
abbrev pub crowded : ℕ → ℕ → List calls.Call
crowded ctr n = (Write 792 ctr ∷ opening) ++ (Resolve 1 0x1234 ∷ Write 795 0x00400200 ∷ (by_hand n ++ (Access 1 0x1fff ∷ [])))

abbrev pub last_of : List Reply → Reply
last_of [] = Told Miss
last_of (r ∷ []) = r
last_of (r ∷ q ∷ rs) = last_of (q ∷ rs)

pub record Example : Type 0 where
  pub answers : replies (begin tables) (asked changing) ≡ told (Done ∷ Done ∷ granted 0x5234 ∷ granted 0x5238 ∷ Done ∷ granted 0x5234 ∷ Done ∷ Refused (Walk SecondInvalid 0x2004) ∷ [])
  -- it walks; it hits; it answers from an older page; its reading is a fault
  pub walks : SettledResolve tables (asked opening) 1 0x1234 Load
  pub hits : SettledResolve tables (asked first_part) 1 0x1238 Load
  pub older : SettledResolve tables (asked second_part) 1 0x1234 Load → ⊥
  pub faults : SettledResolve tables (asked third_part) 1 0x1234 Load
  -- with the reserve bit clear the 32nd load after evicts the page, with it set the 28th
  pub kept_31 : last_of (replies (begin tables) (asked (crowded 0x04000000 31))) ≡ Told (granted 0x5fff)
  pub evicted_32 : last_of (replies (begin tables) (asked (crowded 0x04000000 32))) ≡ Told Miss
  pub kept_27 : last_of (replies (begin tables) (asked (crowded 0x0c000000 27))) ≡ Told (granted 0x5fff)
  pub evicted_28 : last_of (replies (begin tables) (asked (crowded 0x0c000000 28))) ≡ Told Miss
