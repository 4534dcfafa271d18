-- The account of a life. Assumes nothing.
use Rattle.std.proofs.Common.{◌≡◌, List, [], ◌∷◌, ◌++◌, Ok, Err, Result, refl, ap}
use Rattle.calls.specs.declared.call.Call as calls
use Rattle.calls.specs.declared.fault.Fault.{Fault}
use Rattle.script.specs.declared.line.Line.{Line}
use Rattle.text.specs.AnswerLine.{line_text}
use Rattle.twin.specs.Life.{State, replies as replied}
use Rattle.twin_bench.specs.Account.{read_answer, read_next, account_text, read_request, requests_of}
use Rattle.twin_bench.specs.Telling.{told_answer, told_behind, told}

-- the replies of a life, told with the lines that they answer, make the account
pub told_life : (ls : List Line) (s : State) → told ls (replied s (requests_of ls)) ≡ account_text s ls
told_life [] s = refl
told_life (l ∷ ls) s = by_call (told_life ls) l.call
  where
    by_call : ((t : State) → told ls (replied t (requests_of ls)) ≡ account_text t ls) → (r : Result calls.Call Fault) → line_text (told_answer r (replied s (read_request r (requests_of ls)))) ++ told ls (told_behind r (replied s (read_request r (requests_of ls)))) ≡ line_text (read_answer s r) ++ account_text (read_next s r) ls
    by_call rec (Ok c) = ap (λ k. line_text (read_answer s (Ok c)) ++ k) (rec (read_next s (Ok c)))
    by_call rec (Err f) = ap (λ k. line_text (read_answer s (Err f)) ++ k) (rec s)
