use Rattle.std.proofs.Common.{slice_set, sym, ap, ◌∙◌}
use Rattle.std.proofs.lemmas.List.Edits.{map_over_more}
use Rattle.twin.specs.Load.{ended}
use Rattle.twin.proofs.drops.end_each.Goals as goal

pub loop-entry-preserved : goal.loop-entry-preserved
loop-entry-preserved g c =
    ap (λ x. slice_set c.loop-entry.entries c.loop-entry.entry-index (ended x)) (sym c.entry-item.is)
    ∙ map_over_more ended c.args.entries.now c.loop-entry.entries c.loop-entry.entry-index c.entry-item.result c.loop-entry-test.true c.loop-entry.invariant c.entry-item.is
