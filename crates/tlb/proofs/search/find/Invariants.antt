use Rattle.std.proofs.Common.{◌≡◌, drop}
use Rattle.tlb.specs.Search.{lowest, lowest_from}
use Rattle.tlb.proofs.search.find.Given as goal

-- what is found in the rest is what is found in all
abbrev pub invariant-loop-slot : goal.invariant-loop-slot
invariant-loop-slot g l =
    lowest_from (λ x. g.T.Matching.answers x l.address l.space) l.slot (drop l.slot l.slots) ≡ lowest (λ x. g.T.Matching.answers x l.address l.space) l.slots
