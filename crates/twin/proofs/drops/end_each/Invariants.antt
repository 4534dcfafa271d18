use Rattle.std.proofs.Common.{◌≡◌, ◌++◌, map, take, drop}
use Rattle.twin.specs.Load.{ended}
use Rattle.twin.proofs.drops.end_each.Given as goal

-- those so far are ended, the rest are as they were
abbrev pub invariant-loop-entry : goal.invariant-loop-entry
invariant-loop-entry g l = l.entries ≡ map ended (take l.entry-index l.initial.entries) ++ drop l.entry-index l.initial.entries
