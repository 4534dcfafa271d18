use Rattle.std.proofs.Common.{◌≡◌, replicate, Ok, Err, Result, OnOk, ◌∙◌}
use Rattle.std.proofs.lemmas.Result.{IfOk-at_ok}
use Rattle.console.proofs.run.Goals as goal

always : {T E P : Type 0} (r : Result T E) → P → OnOk r P
always (Ok x) p = p
always (Err e) p = tt

pub returns : goal.returns
returns g c =
    let zeros = IfOk-at_ok (λ v. v.items ≡ replicate 32768 0) c.in_ok-bytes.was c.new_ram.ensures in
    always c.print.result (c.alloc-heap.result, c.as_mut_slice.result, c.as_slice.result, c.in_ok-text.text, _, c.as_mut_slice.ensures.value ∙ zeros, rw c.in_ok-text.was at c.account.ensures)
