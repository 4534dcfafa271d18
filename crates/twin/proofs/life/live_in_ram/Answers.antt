use Rattle.std.proofs.Common.{◌≡◌, ap, ◌∙◌, rules}
use Rattle.std.proofs.lemmas.Result.{MatchResult-weaker, IfOk-weaker}
use Rattle.board.specs.Ram.{ram}
use Rattle.twin.proofs.Ram.{ram_same, ram_left}
use Rattle.twin.specs.Bytes.{ram_after}
use Rattle.twin.specs.Life.{begin, after, replies}
use Rattle.twin.proofs.life.live_in_ram.Goals as goal

pub returns : goal.returns
returns c =
    let rs = c.args.requests.now in
    let new = c.new-memory.ensures in
    let start = ap (λ bs. begin (ram bs)) new.bytes in
    record {
      replies = IfOk-weaker c.live.result _ _ (λ l e. e ∙ ap (λ s. replies s rs) start) c.live.ensures.replies;
      unit = IfOk-weaker c.live.result _ _ (λ l e. e ∙ ap (λ s. (after s rs).unit) start) c.live.ensures.unit;
      bytes = MatchResult-weaker c.live.result c.live.ensures.bytes
          (λ l e.
          let left = ram_left c.new-memory.result.bytes.ghost_name c.live.new.memory.bytes.ghost_name c.new-memory.result.bytes.now c.live.new.memory.bytes.now rs e in
          let name = left.0 in
          let bytes : c.live.new.memory.bytes.now ≡ ram_after c.args.bytes.now rs = left.1 ∙ ap (λ bs. ram_after bs rs) new.bytes in
          search rules)
          (λ l e.
          let left = ram_same c.new-memory.result.bytes.ghost_name c.live.new.memory.bytes.ghost_name c.new-memory.result.bytes.now c.live.new.memory.bytes.now e in
          let name = left.0 in
          let bytes = left.1 in
          search rules);
      promises = c.live.ensures.promises;
    }
