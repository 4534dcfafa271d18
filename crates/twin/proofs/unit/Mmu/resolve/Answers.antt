use Rattle.std.proofs.Common.{◌≡◌, None, Ok, Err, rules, sym, ap, ◌∙◌, arith}
use Rattle.std.proofs.lemmas.Result.{err_from_is_err_and}
use Rattle.calls.specs.Answer.{grant_answer}
use Rattle.tlb.specs.declared.register.Kind.TheVariants.{Data}
use Rattle.twin.proofs.Resolving.{Missing, numbered, resolve_stopped, resolve_loaded}
use Rattle.twin.specs.Access.{missed_unit}
use Rattle.twin.specs.declared.request.Reply.TheVariants as replies
use Rattle.twin.proofs.unit.Mmu.resolve.Given as given
use Rattle.twin.proofs.unit.Mmu.resolve.Goals as goal
use Rattle.twin.proofs.unit.Mmu.resolve.Goals.{After-walk}

-- the walk comes behind a miss
missing : (g : given.Over) (c : After-walk g) → Missing c.args.kind (g.M.Memory.meaning c.args.memory.now) c.args.self.now c.miss-2.new.self c.in_ok-access.access c.kind-side.result c.args.address
missing g c =
    let none : c.in_ok-found.found ≡ None = grind arith in
    record {
      number = numbered _ _ _ c.in_ok-access.ensures;
      kind = c.kind-side.ensures;
      missed = ap (λ o. grant_answer (Ok o)) (sym none) ∙ c.in_ok-found.ensures;
      left = c.miss-2.ensures ∙ ap (missed_unit Data c.args.address) c.miss.ensures;
    }

pub returns-in_err-walk : goal.returns-in_err-walk
returns-in_err-walk g c =
    let exit = err_from_is_err_and c.from_residual-in_err-walk.result c.from_residual-in_err-walk.ensures.1 in
    let walk = c.in_err-walk.ensures in
    let r = resolve_stopped _ _ _ _ _ _ _ (missing g (goal.at.returns-in_err-walk g c).After-walk) _ _ walk.answer walk.left in
    record { answer = ap (λ x. replies.Answer (grant_answer x)) (exit.1 ∙ ap Err exit.2) ∙ r.answer; left = r.left }

pub returns : goal.returns
returns g c =
    let walk = c.in_ok-walk.ensures in
    let r = resolve_loaded _ _ _ _ _ _ _ (missing g (goal.at.returns g c).After-walk) _ _ walk.answer walk.left c.answer-2.ensures in
    record { answer = r.answer; left = r.left }

pub returns-in_err-found-clause-answer : goal.returns-in_err-found-clause-answer
returns-in_err-found-clause-answer g c = rw (numbered _ _ _ c.in_ok-access.ensures) (search rules)

pub returns-in_err-found-clause-left : goal.returns-in_err-found-clause-left
returns-in_err-found-clause-left g c = rw (numbered _ _ _ c.in_ok-access.ensures) (search rules)

pub returns-then-is_some-clause-answer : goal.returns-then-is_some-clause-answer
returns-then-is_some-clause-answer g c = rw (numbered _ _ _ c.in_ok-access.ensures) (search rules)

pub returns-then-is_some-clause-left : goal.returns-then-is_some-clause-left
returns-then-is_some-clause-left g c = rw (numbered _ _ _ c.in_ok-access.ensures) (search rules)
