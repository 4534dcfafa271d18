use Rattle.std.proofs.Common.{sym, ap, ◌∙◌}
use Rattle.tlb.specs.declared.register.Kind.TheVariants.{Instruction, Data}
use Rattle.twin.proofs.Answering.{by_kind}
use Rattle.twin.specs.Access.{translates}
use Rattle.twin.proofs.unit.Mmu.answer.Goals as goal

pub returns-in-Instruction : goal.returns-in-Instruction
returns-in-Instruction c =
    let u = c.args.self.now in
    let kind = sym c.in-Instruction.is ∙ c.kind-kind.ensures in
    by_kind Instruction _ u c.args.access c.args.address c.space.result c.translates-on.result _ c.answer.ensures
    (c.translates-on.ensures ∙ ap (λ k. translates k u.mode) c.in-Instruction.is) c.space.ensures.value kind

pub returns-in-Data : goal.returns-in-Data
returns-in-Data c =
    let u = c.args.self.now in
    let kind = sym c.in-Data.is ∙ c.kind-kind.ensures in
    by_kind Data _ u c.args.access c.args.address c.space.result c.translates-on.result _ c.answer-in-Data.ensures
    (c.translates-on.ensures ∙ ap (λ k. translates k u.mode) c.in-Data.is) c.space.ensures.value kind
