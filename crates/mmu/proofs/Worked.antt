-- The worked values hold: the checker computes them. Assumes nothing.
use Rattle.std.proofs.Common.{refl}
use Rattle.mmu.specs.Figures.{Worked}
use Rattle.tlb.specs.Page.{common_of, contains}
use Rattle.mmu.specs.Rights.{allows, ruling_of}
use Rattle.mmu.specs.Verdict.{gives}

pub they_hold : Worked
unfolding common_of contains allows ruling_of gives
they_hold = (refl, ((refl, refl), ((refl, refl), (refl, ((refl, refl), (refl, (refl, (refl, (refl, (refl, (refl, (refl, (refl, (refl, tt))))))))))))))
