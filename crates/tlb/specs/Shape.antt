-- What the rules ask of a page type. Assumes nothing.
use Rattle.std.specs.Prelude.{ℕ, Bool, true, false}
use Rattle.tlb.specs.Page.{instruction_page, data_page}
use Rattle.tlb.specs.declared.page.Common.{Common}
use Rattle.tlb.specs.declared.page.DataPage.{DataPage}
use Rattle.tlb.specs.declared.page.InstructionPage.{InstructionPage}

-- the page that EPN, TWC and RPN make; what both kinds of page have; write-through and changed
pub record Shape (P : Type 0) : Type 0 where
  pub made : ℕ → ℕ → ℕ → P
  pub body : P → Common
  pub through : P → Bool
  pub changed : P → Bool

-- a page for fetches is never stored to, so it counts as changed
abbrev pub instruction_shape : Shape InstructionPage
instruction_shape = record { made = instruction_page; body = λ p. p.common; through = λ _. false; changed = λ _. true }

abbrev pub data_shape : Shape DataPage
data_shape = record { made = data_page; body = λ p. p.common; through = λ p. p.write_through; changed = λ p. p.changed }
