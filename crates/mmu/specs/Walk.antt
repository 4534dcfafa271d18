-- The tablewalk. Assumes nothing.
use Rattle.std.specs.Prelude.{ℕ, ◌+◌, ◌*◌, cond, Some, None, Option, Ok, Err, Result, bit_and}
use Rattle.board.specs.Memory.{Meaning, peeked}
use Rattle.board.specs.declared.bus.BusFault.{BusFault}
use Rattle.calls.specs.declared.fault.Descriptor.{Descriptor}
use Rattle.calls.specs.declared.fault.Descriptor.TheVariants.{FirstInvalid, FirstSize, SecondInvalid, SecondMarks}
use Rattle.calls.specs.declared.fault.Fault.{Fault}
use Rattle.calls.specs.declared.fault.Fault.TheVariants.{Walk, Bus}
use Rattle.calls.specs.declared.fault.Level.{Level}
use Rattle.calls.specs.declared.fault.Level.TheVariants as levels
use Rattle.mmu.specs.declared.walk.Table.{Table}
use Rattle.mmu.specs.declared.walk.Table.TheVariants.{First, Second}
use Rattle.tlb.specs.Bits.{field, flag}
use Rattle.tlb.specs.Descriptor.{sized, marked}

-- the kept table base, and bits 0 to 9 of the address at bits 20 to 29: where the first word is, and what M_TWB reads as
abbrev pub first_address : ℕ → ℕ → ℕ
first_address base e = bit_and base 0xfffff000 + 4 * field 0 9 e

-- bits 0 to 19 of the first word, and bits 10 to 19 of the address: where the second word is, and what MD_TWC reads as
abbrev pub second_address : ℕ → ℕ → ℕ
second_address first e = bit_and first 0xfffff000 + 4 * field 10 19 e

-- what memory answers to the walk at that level
abbrev pub at_level : {T : Type 0} → Level → Result T BusFault → Result T Fault
at_level l (Ok x) = Ok x
at_level l (Err f) = Err (Bus f l)

abbrev pub stops : {T : Type 0} → Descriptor → ℕ → Result T Fault
stops why a = Err (Walk why a)

abbrev pub first_tested : ℕ → ℕ → Result ℕ Fault
first_tested a w = cond (flag 31 w) (cond (sized w) (Ok w) (stops FirstSize a)) (stops FirstInvalid a)

abbrev pub second_tested : ℕ → ℕ → Result ℕ Fault
second_tested a w = cond (flag 31 w) (cond (marked w) (Ok w) (stops SecondMarks a)) (stops SecondInvalid a)

-- the same by table: the index of an address, where its word is, the level of a fault, why a word stops the walk
abbrev pub index_in : Table → ℕ → ℕ
index_in First e = field 0 9 e
index_in Second e = field 10 19 e

abbrev pub address_in : Table → ℕ → ℕ → ℕ
address_in First base e = first_address base e
address_in Second base e = second_address base e

abbrev pub level_of : Table → Level
level_of First = levels.First
level_of Second = levels.Second

abbrev pub flaw_in : Table → ℕ → Option Descriptor
flaw_in First w = cond (flag 31 w) (cond (sized w) None (Some FirstSize)) (Some FirstInvalid)
flaw_in Second w = cond (flag 31 w) (cond (marked w) None (Some SecondMarks)) (Some SecondInvalid)

-- goes on with what was read
abbrev pub onward : {X Y : Type 0} → Result X Fault → (X → Result Y Fault) → Result Y Fault
onward (Ok x) k = k x
onward (Err f) k = Err f

unfoldable pub first_word : Meaning → ℕ → ℕ → Result ℕ Fault
first_word m base e = onward (at_level levels.First (peeked m (first_address base e))) (first_tested (first_address base e))

unfoldable pub second_word : Meaning → ℕ → ℕ → Result ℕ Fault
second_word m first e = onward (at_level levels.Second (peeked m (second_address first e))) (second_tested (second_address first e))

abbrev pub table_word : Table → Meaning → ℕ → ℕ → Result ℕ Fault
table_word First m base e = first_word m base e
table_word Second m base e = second_word m base e

-- the reading of e: the fault at which the walk stops, or the page made of e and the two words
abbrev pub reading_of : {P : Type 0} → (ℕ → ℕ → ℕ → P) → Meaning → ℕ → ℕ → Result P Fault
reading_of makes m base e = onward (first_word m base e) (λ first. onward (second_word m first e) (λ second. Ok (makes e first second)))
