use Rattle.std.proofs.Common.{rules}
use Rattle.twin.proofs.unit.Mmu.change.Goals as goal

pub returns-in-Instruction-clause-changed : goal.returns-in-Instruction-clause-changed
returns-in-Instruction-clause-changed g c = rw c.in-Instruction.is (search rules)

pub returns-in-Data-clause-changed : goal.returns-in-Data-clause-changed
returns-in-Data-clause-changed g c = rw c.in-Data.is (search rules)
