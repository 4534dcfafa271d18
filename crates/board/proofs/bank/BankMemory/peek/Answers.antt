use Rattle.std.proofs.Common.{sym, ap, ◌∙◌}
use Rattle.board.proofs.Routes.{peek_first}
use Rattle.board.specs.Bank.{shielded}
use Rattle.board.specs.Bus.{at_place}
use Rattle.board.proofs.bank.BankMemory.peek.Goals as goal

pub returns-in-Some : goal.returns-in-Some
returns-in-Some g c =
    c.relocated.ensures
    ∙ ap (λ r. at_place r c.args.address) c.peek.ensures
    ∙ peek_first _ _ (shielded c.args.self.now.protect (g.A.Memory.meaning c.args.self.now.first)) (g.B.Memory.meaning c.args.self.now.second) c.args.address c.in-Some.inner c.ranges.address.fits (sym c.in-Some.ensures)
