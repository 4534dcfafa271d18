-- The account, put together of lines and replies. Assumes nothing.
use Rattle.std.specs.Prelude.{ℕ, List, [], ◌∷◌, ◌++◌, Ok, Err, Result}
use Rattle.calls.specs.declared.answer.Answer.{Answer}
use Rattle.calls.specs.declared.answer.Answer.TheVariants.{Done, Refused}
use Rattle.calls.specs.declared.call.Call as calls
use Rattle.calls.specs.declared.fault.Fault.{Fault}
use Rattle.script.specs.declared.line.Line.{Line}
use Rattle.twin.specs.declared.request.Reply.{Reply}
use Rattle.text.specs.AnswerLine.{line_text}
use Rattle.twin_bench.specs.Account.{answer_in}

-- the next reply as an answer, and the replies behind it
abbrev pub next_answer : List Reply → Answer
next_answer [] = Done
next_answer (r ∷ rs) = answer_in r

abbrev pub behind : List Reply → List Reply
behind [] = []
behind (r ∷ rs) = rs

-- a call takes a reply, a fault takes none
abbrev pub told_answer : Result calls.Call Fault → List Reply → Answer
told_answer (Ok c) rs = next_answer rs
told_answer (Err f) rs = Refused f

abbrev pub told_behind : Result calls.Call Fault → List Reply → List Reply
told_behind (Ok c) rs = behind rs
told_behind (Err f) rs = rs

abbrev pub told : List Line → List Reply → List ℕ
told [] rs = []
told (l ∷ ls) rs = line_text (told_answer l.call rs) ++ told ls (told_behind l.call rs)
