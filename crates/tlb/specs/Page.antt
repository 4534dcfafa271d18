-- Pages: sizes, and what is made of EPN, TWC and RPN. Assumes nothing.
use Rattle.std.specs.Prelude.{ℕ, ◌+◌, ◌%◌, ◌^◌, Bool, cond, ◌&&◌, ◌==◌}
use Rattle.tlb.specs.Bits.{field, flag, cleared}
use Rattle.tlb.specs.declared.page.Common.{Common}
use Rattle.tlb.specs.declared.page.DataPage.{DataPage}
use Rattle.tlb.specs.declared.page.InstructionPage.{InstructionPage}
use Rattle.tlb.specs.declared.page.Size.{Size}
use Rattle.tlb.specs.declared.page.Size.TheVariants.{Kb4, Kb16, Kb512, Mb8}

-- how many low bits of an address are the offset
abbrev pub offset_bits : Size → ℕ
offset_bits Kb4 = 12
offset_bits Kb16 = 14
offset_bits Kb512 = 19
offset_bits Mb8 = 23

abbrev pub bytes_in : Size → ℕ
bytes_in s = 2 ^ offset_bits s

-- by TWC bits 28 and 29, and for the two small sizes by RPN bit 28
abbrev pub size_of : ℕ → ℕ → Size
size_of twc rpn = cond (flag 29 twc) (cond (flag 28 twc) Mb8 Kb512) (cond (flag 28 rpn) Kb16 Kb4)

-- what both kinds of page have
unfoldable pub common_of : ℕ → ℕ → ℕ → Common
common_of epn twc rpn = record {
  size = size_of twc rpn;
  first = cleared (offset_bits (size_of twc rpn)) epn;
  base = cleared (offset_bits (size_of twc rpn)) rpn;
  group = field 23 26 twc;
  guarded = flag 27 twc;
  rights = field 20 22 rpn;
  shared = flag 29 rpn;
  cache_inhibit = flag 30 rpn;
  valid = flag 31 twc && flag 31 rpn;
}

abbrev pub instruction_page : ℕ → ℕ → ℕ → InstructionPage
instruction_page epn twc rpn = record { common = common_of epn twc rpn }

-- a data page also has write-through and changed
abbrev pub data_page : ℕ → ℕ → ℕ → DataPage
data_page epn twc rpn = record { common = common_of epn twc rpn; write_through = flag 30 twc; changed = flag 23 rpn }

-- the address agrees with the page's first address in all bits but the offset
unfoldable pub contains : Common → ℕ → Bool
contains p a = cleared (offset_bits p.size) a == p.first

-- the physical address: base and offset
abbrev pub physical : Common → ℕ → ℕ
physical p a = cleared (offset_bits p.size) p.base + a % 2 ^ offset_bits p.size
