use Rattle.std.proofs.Common.{ap, ◌∙◌}
use Rattle.twin.proofs.Resolving.{passed_both}
use Rattle.twin.specs.Resolve.{loaded_unit, walk_unit}
use Rattle.twin.proofs.unit.Mmu.walk.Goals as goal

pub returns-clause-left : goal.returns-clause-left
returns-clause-left g c =
    c.load.ensures
    ∙ ap (loaded_unit c.args.kind c.in_ok-second.second) c.keep_first.ensures
    ∙ ap (λ o. walk_unit c.args.kind o c.args.self.now) (passed_both (g.M.Memory.meaning c.args.memory.now) c.args.self.now.twb c.args.address _ _ c.in_ok-first.ensures c.in_ok-second.ensures)
