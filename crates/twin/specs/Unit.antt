-- The unit's state, seen by kind. Assumes nothing.
use Rattle.std.specs.Prelude.{ℕ, false, replicate}
use Rattle.tlb.specs.Bits.{field}
use Rattle.tlb.specs.Entry.{entry_of}
use Rattle.tlb.specs.Shape.{Shape, instruction_shape, data_shape}
use Rattle.tlb.specs.declared.entry.Entry.{Entry}
use Rattle.tlb.specs.declared.page.DataPage.{DataPage}
use Rattle.tlb.specs.declared.page.InstructionPage.{InstructionPage}
use Rattle.tlb.specs.declared.register.Kind.{Kind}
use Rattle.tlb.specs.declared.register.Kind.TheVariants.{Instruction, Data}
use Rattle.twin.specs.declared.unit.Half.{Half}
use Rattle.twin.specs.declared.unit.Mmu.{Mmu}
use Rattle.twin.specs.declared.unit.Registers.{Registers}

-- the type of a kind's pages
abbrev pub Page : Kind → Type 0
Page Instruction = InstructionPage
Page Data = DataPage

-- how a kind's pages are made, and what is read of them
abbrev pub shape : (k : Kind) → Shape (Page k)
shape Instruction = instruction_shape
shape Data = data_shape

-- the registers and slots of a kind
abbrev pub half : (k : Kind) → Mmu → Half (Page k)
half Instruction u = u.instruction
half Data u = u.«data»

-- the words of a kind's registers
abbrev pub registers : Kind → Mmu → Registers
registers k u = (half k u).registers

abbrev pub put : (k : Kind) → Half (Page k) → Mmu → Mmu
put Instruction h u = record { instruction = h; «data» = u.«data»; casid = u.casid; twb = u.twb; tw = u.tw; mode = u.mode; loads = u.loads }
put Data h u = record { instruction = u.instruction; «data» = h; casid = u.casid; twb = u.twb; tw = u.tw; mode = u.mode; loads = u.loads }

-- the unit with other words there
abbrev pub with_registers : Kind → Registers → Mmu → Mmu
with_registers k r u = put k (record { registers = r; slots = (half k u).slots }) u

-- the entry as if filled from zeros
abbrev pub zero_entry : (k : Kind) → Entry (Page k)
zero_entry k = entry_of (shape k).made 0 0 0

-- a half whose control register has this word, every slot as if filled from zeros
abbrev pub fresh : {P : Type 0} → Shape P → ℕ → Half P
fresh s ctr = record { registers = record { ctr = ctr; ap = 0; epn = 0; twc = 0; rpn = 0 }; slots = replicate 32 (entry_of s.made 0 0 0) }

abbrev pub new_half : (k : Kind) → ℕ → Half (Page k)
new_half k ctr = fresh (shape k) ctr

abbrev pub new_unit : Mmu
new_unit = record {
  instruction = new_half Instruction 0;
  «data» = new_half Data 0x04000000;
  casid = 0;
  twb = 0;
  tw = 0;
  mode = record { problem = false; instruction = false; «data» = false };
  loads = 0;
}

-- the current space
abbrev pub space : Mmu → ℕ
space u = field 28 31 u.casid
