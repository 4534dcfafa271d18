-- What a script makes of a memory, and the account of it. Assumes nothing.
use Rattle.std.specs.Prelude.{ℕ, List, [], ◌∷◌, ◌++◌, Ok, Err, Result}
use Rattle.board.specs.Memory.{Meaning, peeked, poked, stored}
use Rattle.calls.specs.declared.answer.Answer.{Answer}
use Rattle.calls.specs.declared.answer.Answer.TheVariants.{Refused}
use Rattle.calls.specs.declared.call.Call.{Call}
use Rattle.calls.specs.declared.call.Call.TheVariants.{Poke, Peek, Write, Read, Mode, Access, Resolve, Drop, DropAll, Tally}
use Rattle.calls.specs.declared.fault.Fault.{Fault}
use Rattle.calls.specs.declared.fault.Fault.TheVariants.{Unreadable}
use Rattle.calls.specs.Answer.{peek_answer, poke_answer}
use Rattle.script.specs.declared.line.Line.{Line}
use Rattle.calls.specs.Text.{text_of}

-- a call on line n; what asks a translation unit is not readable where there is none
abbrev pub call_answer : Meaning → ℕ → Call → Answer
call_answer m n (Poke a w) = poke_answer (poked m a)
call_answer m n (Peek a) = peek_answer (peeked m a)
call_answer m n (Write r w) = Refused (Unreadable n)
call_answer m n (Read r) = Refused (Unreadable n)
call_answer m n (Mode p i d) = Refused (Unreadable n)
call_answer m n (Access k e) = Refused (Unreadable n)
call_answer m n (Resolve k e) = Refused (Unreadable n)
call_answer m n (Drop e) = Refused (Unreadable n)
call_answer m n DropAll = Refused (Unreadable n)
call_answer m n Tally = Refused (Unreadable n)

abbrev pub call_left : Meaning → Call → Meaning
call_left m (Poke a w) = stored m a w
call_left m (Peek a) = m
call_left m (Write r w) = m
call_left m (Read r) = m
call_left m (Mode p i d) = m
call_left m (Access k e) = m
call_left m (Resolve k e) = m
call_left m (Drop e) = m
call_left m DropAll = m
call_left m Tally = m

-- a line that does not read is answered by its fault, and leaves all as it was
abbrev pub read_answer : Meaning → ℕ → Result Call Fault → Answer
read_answer m n (Ok c) = call_answer m n c
read_answer m n (Err f) = Refused f

abbrev pub read_left : Meaning → Result Call Fault → Meaning
read_left m (Ok c) = call_left m c
read_left m (Err f) = m

abbrev pub answer_to : Meaning → Line → Answer
answer_to m l = read_answer m l.number l.call

abbrev pub left_by : Meaning → Line → Meaning
left_by m l = read_left m l.call

-- one line of text for each line that is told of
abbrev pub account_text : Meaning → List Line → List ℕ
account_text m [] = []
account_text m (l ∷ ls) = text_of (answer_to m l) ++ (10 ∷ account_text (left_by m l) ls)

-- the meaning that all the lines leave
abbrev pub left_after : Meaning → List Line → Meaning
left_after m [] = m
left_after m (l ∷ ls) = left_after (left_by m l) ls
