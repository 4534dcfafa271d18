use Rattle.std.proofs.Common.{◌++◌, sym, ap, ◌∙◌}
use Rattle.board.proofs.Routes.{poke_first, stored_first, lent_first}
use Rattle.board.specs.Bank.{routed, routed_place}
use Rattle.board.specs.Bus.{at_place}
use Rattle.board.specs.Pile.{Both}
use Rattle.board.proofs.bank.BankMemory.poke.Goals as goal

pub returns-in-Some : goal.returns-in-Some
returns-in-Some g c =
    let done = c.poke_shielded-answer.ensures in
    let to = sym c.in-Some.ensures in
    record {
      answer = c.relocated.ensures ∙ ap (λ r. at_place r c.args.address) done.answer ∙ poke_first _ _ _ _ c.args.address c.in-Some.inner c.ranges.address.fits to;
      left = ap (λ m. routed c.args.self.now.base c.args.self.now.mask m (g.B.Memory.meaning c.args.self.now.second)) done.left ∙ stored_first _ _ _ _ c.args.address c.in-Some.inner c.ranges.address.fits to c.args.word;
      same = ap (λ l. l ++ g.B.Memory.spare c.args.self.now.second) done.same;
      pile = ap (λ x. Both x (g.B.Memory.lent c.args.self.now.second)) done.pile ∙ lent_first _ _ _ _ c.args.address c.in-Some.inner c.ranges.address.fits to _ _ (g.A.Memory.place c.args.self.now.first) (g.B.Memory.place c.args.self.now.second) c.args.word;
      places = ap (λ p. routed_place c.args.self.now.base c.args.self.now.mask p (g.B.Memory.place c.args.self.now.second)) done.places;
    }
