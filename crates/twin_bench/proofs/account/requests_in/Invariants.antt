use Rattle.std.proofs.Common.{◌≡◌, ◌++◌, drop, vec_items}
use Rattle.twin_bench.specs.Account.{requests_of}
use Rattle.twin_bench.proofs.account.requests_in.Given as goal

-- the calls so far and those of the lines that are left make the whole
abbrev pub invariant-loop-line : goal.invariant-loop-line
invariant-loop-line l = vec_items l.requests ++ requests_of (drop l.line-index l.lines) ≡ requests_of l.lines
