use Rattle.std.proofs.Common.{sym, ap, ◌∙◌, arith}
use Rattle.std.proofs.lemmas.Grind.{common_steps}
use Rattle.board.specs.Ram.{ram}
use Rattle.board.proofs.Words.{stored_at, put}
use Rattle.board.proofs.ram.RamMemory.poke.Goals as goal

pub returns-clause-left : goal.returns-clause-left
returns-clause-left c = ap ram (put c.args.self.now.bytes.now _ c.in_ok-at.at c.args.word (grind (arith, common_steps)) c.copy_from_slice.ensures.after) ∙ stored_at c.args.self.now.bytes.now c.args.address c.in_ok-at.at c.args.word c.ranges.word.fits (sym c.in_ok-at.ensures.value)
