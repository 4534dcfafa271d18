-- The account of a script: the answers of a life, line by line. Assumes nothing.
use Rattle.std.specs.Prelude.{ℕ, List, [], ◌∷◌, ◌++◌, Ok, Err, Result}
use Rattle.calls.specs.declared.answer.Answer.{Answer}
use Rattle.calls.specs.declared.answer.Answer.TheVariants.{Done, Refused}
use Rattle.calls.specs.declared.call.Call as calls
use Rattle.calls.specs.declared.fault.Fault.{Fault}
use Rattle.script.specs.declared.line.Line.{Line}
use Rattle.text.specs.AnswerLine.{line_text}
use Rattle.twin.specs.Life.{State, step, next}
use Rattle.twin.specs.declared.request.Reply.{Reply}
use Rattle.twin.specs.declared.request.Reply.TheVariants as replies
use Rattle.twin.specs.declared.request.Request.{Request}
use Rattle.twin.specs.declared.request.Request.TheVariants as requests

-- a look has no form in a script; as any other accepted call it is told as done
abbrev pub answer_in : Reply → Answer
answer_in (replies.Answer a) = a
answer_in (replies.Saw x) = Done

-- a line that reads is a call; one that does not is answered by its fault, and leaves all as it was
abbrev pub read_answer : State → Result calls.Call Fault → Answer
read_answer s (Ok c) = answer_in (step (requests.Call c) s).reply
read_answer s (Err f) = Refused f

abbrev pub read_next : State → Result calls.Call Fault → State
read_next s (Ok c) = next (requests.Call c) s
read_next s (Err f) = s

-- one line of text for each line that is told of
abbrev pub account_text : State → List Line → List ℕ
account_text s [] = []
account_text s (l ∷ ls) = line_text (read_answer s l.call) ++ account_text (read_next s l.call) ls

-- the requests of a script: the calls of the lines that read
abbrev pub read_request : Result calls.Call Fault → List Request → List Request
read_request (Ok c) rs = requests.Call c ∷ rs
read_request (Err f) rs = rs

abbrev pub requests_of : List Line → List Request
requests_of [] = []
requests_of (l ∷ ls) = read_request l.call (requests_of ls)
