use Rattle.script.proofs.Cuts.{Uncut}
use Rattle.script.proofs.pieces.cut.Given as goal

abbrev pub invariant-loop-i : goal.invariant-loop-i
invariant-loop-i l = Uncut l.separator l.bytes l.i
