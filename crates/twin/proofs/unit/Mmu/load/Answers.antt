use Rattle.std.proofs.Common.{sym, ap, ◌∙◌}
use Rattle.twin.specs.Resolve.{loaded_unit}
use Rattle.twin.proofs.unit.Mmu.load.Goals as goal

pub returns-in-Instruction : goal.returns-in-Instruction
returns-in-Instruction c =
    let u = c.args.self.now in
    (λ i. record { instruction = c.load.ensures i; «data» = u.«data»; casid = u.casid; twb = u.twb; tw = u.tw; mode = u.mode; loads = c.saturating_add-self.ensures i })
    ∙ ap (λ k. loaded_unit k c.args.word u) (sym c.in-Instruction.is)

pub returns-in-Data : goal.returns-in-Data
returns-in-Data c =
    let u = c.args.self.now in
    (λ i. record { instruction = u.instruction; «data» = c.load-in-Data.ensures i; casid = u.casid; twb = u.twb; tw = u.tw; mode = u.mode; loads = c.saturating_add-self.ensures i })
    ∙ ap (λ k. loaded_unit k c.args.word u) (sym c.in-Data.is)
