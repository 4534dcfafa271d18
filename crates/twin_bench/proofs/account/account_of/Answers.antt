use Rattle.std.proofs.Common.{rules}
use Rattle.std.proofs.lemmas.Result.{IfOk-weaker}
use Rattle.board.specs.Ram.{ram}
use Rattle.script.specs.Reader.{script_of}
use Rattle.twin.specs.Life.{begin}
use Rattle.twin_bench.proofs.Accounts.{told_life}
use Rattle.twin_bench.proofs.account.account_of.Goals as goal

pub returns-clause-text : goal.returns-clause-text
returns-clause-text c =
    let told = told_life (script_of c.args.script.now) (begin (ram c.args.bytes.now)) in
    IfOk-weaker c.tell.result _ _ (λ t e. search (rules, told, e)) c.tell.ensures
