-- Worked values of the rules, as one statement about the definitions. Assumes nothing.
use Rattle.std.specs.Prelude.{◌≡◌, ℕ, Bool, true, false, List, [], ◌∷◌, Some, None, Option}
use Rattle.std.specs.Result.{result_err}
use Rattle.std.specs.Option.{option_map}
use Rattle.std.specs.List.{AllByRecursion}
use Rattle.calls.specs.Fault.{figures_of}
use Rattle.tlb.specs.Control.{next_index}
use Rattle.tlb.specs.Page.{common_of, contains, physical}
use Rattle.mmu.specs.Verdict.{gives}
use Rattle.mmu.specs.Walk.{first_address, first_tested}
use Rattle.tlb.specs.Descriptor.{marked}
use Rattle.mmu.specs.declared.rights.Access.TheVariants.{Load}

pub data Figure : Type 0 where
  -- table base, address, where the first word is
  word_at : ℕ → ℕ → ℕ → Figure
  -- TWC and RPN of a page at 0, an address in it, its physical address
  inside : ℕ → ℕ → ℕ → ℕ → Figure
  -- TWC and RPN of a page at 0, an address that is not in it
  outside : ℕ → ℕ → ℕ → Figure
  -- reserve bit, an index, the next one
  counts : Bool → ℕ → ℕ → Figure
  -- AP in group mode 0, whether problem, what a load from a valid page at 0 with no rights bit set is refused with
  loads : ℕ → Bool → Option ℕ → Figure
  -- a first word, what it is refused with
  first : ℕ → Option ℕ → Figure
  -- a word of an RPN whose mark bits are not all one, for which a write is refused and a walk stops
  unmarked : ℕ → Figure

abbrev pub Holds : Figure → Type 0
Holds (word_at base e a) = first_address base e ≡ a
Holds (inside twc rpn e a) = (contains (common_of 0 twc rpn) e ≡ true) × (physical (common_of 0 twc rpn) e ≡ a)
Holds (outside twc rpn e) = contains (common_of 0 twc rpn) e ≡ false
Holds (counts reserved i j) = next_index reserved i ≡ j
Holds (loads ap problem number) =
    option_map (λ f. (figures_of f).number) (result_err (gives (common_of 0 1 1) false true (record { group_mode = false; ap = ap }) problem Load 0)) ≡ number
Holds (first w number) = option_map (λ f. (figures_of f).number) (result_err (first_tested 0 w)) ≡ number
Holds (unmarked w) = marked w ≡ false

abbrev pub worked : List Figure
worked =
    word_at 0x1000 0x00c03000 0x0000100c
    -- 16 KB
    ∷ inside 0x0 0x00007008 0x2345 0x00006345
    -- 512 KB
    ∷ inside 0x4 0x12380000 0x0007ffff 0x123fffff
    ∷ outside 0x4 0x12380000 0x00080000
    -- 8 MB
    ∷ inside 0xc 0x12fff000 0x007fffff 0x12ffffff
    ∷ counts false 0 31
    ∷ counts true 0 27
    ∷ counts true 28 27
    ∷ counts true 29 0
    ∷ counts true 31 2
    -- code 10 of group 0
    ∷ loads 0x80000000 true None
    ∷ loads 0x80000000 false (Some 8)
    ∷ first 0x00002009 (Some 11)
    ∷ unmarked 0x000051e1
    ∷ []

abbrev pub Worked : Type 0
Worked = AllByRecursion Holds worked
