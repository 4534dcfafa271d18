use Rattle.std.proofs.Common.{◌≡◌, ◌++◌, drop, string_bytes}
use Rattle.std.specs.Slice.Iter.{iter_rest}
use Rattle.twin_bench.specs.Telling.{told}
use Rattle.twin_bench.proofs.account.tell.Given as goal

-- what is told and what is still to be told make the account
abbrev pub invariant-loop-line : goal.invariant-loop-line
invariant-loop-line l = string_bytes l.out ++ told (drop l.line-index l.lines) (iter_rest l.rest) ≡ told l.lines l.replies
