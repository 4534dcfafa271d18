-- TLB entries, and when one matches. Assumes nothing.
use Rattle.std.specs.Prelude.{ℕ, Bool, ◌&&◌, ◌||◌, ◌==◌}
use Rattle.tlb.specs.Bits.{field, flag}
use Rattle.tlb.specs.Page.{contains}
use Rattle.tlb.specs.declared.entry.Entry.{Entry}
use Rattle.tlb.specs.declared.page.Common.{Common}

-- the entry that EPN, TWC and RPN make, the page being made as its kind is
abbrev pub entry_of : {P : Type 0} → (ℕ → ℕ → ℕ → P) → ℕ → ℕ → ℕ → Entry P
entry_of makes epn twc rpn = record { live = flag 22 epn; space = field 28 31 epn; page = makes epn twc rpn }

-- live, the page contains the address, and shared or of the current space
abbrev pub matched : Bool → ℕ → Common → ℕ → ℕ → Bool
matched live space page a current = live && (contains page a && (page.shared || space == current))
