use Rattle.std.proofs.Common.{◌≡◌, ◌++◌, refl, ap, ◌∙◌, rules}
use Rattle.std.proofs.lemmas.Result.{IfOk-from_err, MatchResult-from_err}
use Rattle.twin.proofs.Examples as examples
use Rattle.twin.proofs.Promised.{promises}
use Rattle.twin.proofs.Reloading.{reload_law, reload_example}
use Rattle.twin.specs.Bytes.{pile_after}
use Rattle.twin.specs.Life.{state_of, begin, after, replies}
use Rattle.twin.proofs.life.live.Goals as goal

pub returns-in_err-replies : goal.returns-in_err-replies
returns-in_err-replies g c =
    let r = c.from_residual.result in
    let failed = c.from_residual.ensures.0 in
    record {
      replies = IfOk-from_err r _ failed;
      unit = IfOk-from_err r _ failed;
      left = MatchResult-from_err r _ _ failed (λ _. refl);
      bytes = MatchResult-from_err r _ _ failed (λ _. refl);
      places = refl;
      promises = promises;
      example = examples.example;
      reload = reload_law;
      reload_example = reload_example;
    }

pub returns : goal.returns
returns g c =
    let rs = c.args.requests.now in
    let m = g.M.Memory.meaning c.args.memory.now in
    let asked = c.ask_all.ensures in
    let new = c.new-twin.ensures in
    let start : state_of c.new-twin.result.unit (g.M.Memory.meaning c.new-twin.result.memory.now) ≡ begin m = λ i. state_of (new.unit i) (g.M.Memory.meaning (new.memory i)) in
    let state = asked.state ∙ ap (λ s. after s rs) start in
    let left : g.M.Memory.meaning c.ask_all.new.twin.memory.now ≡ (after (begin m) rs).memory = ap (λ s. s.memory) state in
    let pile : g.M.Memory.lent c.ask_all.new.twin.memory.now ≡ pile_after (begin m) (g.M.Memory.place c.args.memory.now) (g.M.Memory.lent c.args.memory.now) rs =
    asked.bytes ∙ (λ i. pile_after (start i) (g.M.Memory.place (new.memory i)) (g.M.Memory.lent (new.memory i)) rs) in
    let places : g.M.Memory.place c.ask_all.new.twin.memory.now ≡ g.M.Memory.place c.args.memory.now = asked.places ∙ ap g.M.Memory.place new.memory in
    record {
      replies = asked.replies ∙ (λ i. c.in_ok-replies.ensures.items i ++ replies (start i) rs);
      unit = c.end-unit.ensures.unit ∙ ap (λ s. s.unit) state;
      left = search rules;
      bytes = search rules;
      places = search rules;
      promises = promises;
      example = examples.example;
      reload = reload_law;
      reload_example = reload_example;
    }
