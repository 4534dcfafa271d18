use Rattle.std.proofs.Common.{◌≡◌, ◌++◌, map, take, drop}
use Rattle.twin.specs.Load.{dropped}
use Rattle.twin.proofs.drops.end_holders.Given as goal

-- those so far are done, the rest are as they were
abbrev pub invariant-loop-entry : goal.invariant-loop-entry
invariant-loop-entry g l = l.entries ≡ map (dropped g.P.Page.shape l.address) (take l.entry-index l.initial.entries) ++ drop l.entry-index l.initial.entries
