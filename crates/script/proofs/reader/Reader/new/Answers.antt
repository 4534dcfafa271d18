use Rattle.std.proofs.Common.{ap, ◌∙◌, arith}
use Rattle.script.specs.Room.{weight}
use Rattle.script.proofs.Cuts.{weight_split}
use Rattle.script.proofs.reader.Reader.new.Goals as goal
use Rattle.script.proofs.reader.Reader.new.Goals.{then-too_long, else-too_long}

pub invariant_of-result : goal.invariant_of-result
invariant_of-result c =
    let all = ap weight c.new.ensures ∙ weight_split 10 c.if-too_long.kept.now in
    elim c.if-too_long.branch [ then-too_long w ↦ grind (arith, all) | else-too_long w ↦ grind (arith, all) ]
