use Rattle.std.proofs.Common.{◌≡◌, ◌++◌, string_bytes}
use Rattle.bench.specs.Account.{account_text, left_after}
use Rattle.bench.proofs.account.account_of.Given as goal

-- what is told and what is still to be told make the account, over the memory as it is now
abbrev pub invariant-loop-line : goal.invariant-loop-line
invariant-loop-line g l =
    (string_bytes l.out ++ account_text (g.M.Memory.meaning l.memory) l.line-iterator ≡ account_text (g.M.Memory.meaning l.initial.memory) l.initial.line-iterator)
    × (left_after (g.M.Memory.meaning l.memory) l.line-iterator ≡ left_after (g.M.Memory.meaning l.initial.memory) l.initial.line-iterator)
    × (g.M.Memory.spare l.memory ≡ g.M.Memory.spare l.initial.memory)
