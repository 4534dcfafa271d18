-- What a memory's answers, and the results of calls, are as answers to a call. Assumes nothing.
use Rattle.std.specs.Prelude.{ℕ, Some, None, Ok, Err, Option, Result}
use Rattle.board.specs.declared.bus.BusFault.{BusFault}
use Rattle.calls.specs.Fault.{outside}
use Rattle.calls.specs.declared.answer.Answer.{Answer}
use Rattle.calls.specs.declared.answer.Answer.TheVariants.{Done, Value, Miss, Granted, Refused}
use Rattle.calls.specs.declared.answer.Grant.{Grant}
use Rattle.calls.specs.declared.fault.Fault.{Fault}

abbrev pub peek_answer : Result ℕ BusFault → Answer
peek_answer (Ok w) = Value w
peek_answer (Err f) = Refused (outside f)

abbrev pub poke_answer : Result (Unit {0}) BusFault → Answer
poke_answer (Ok u) = Done
poke_answer (Err f) = Refused (outside f)

-- a memory's result outside a tablewalk
abbrev pub raised : {T : Type 0} → Result T BusFault → Result T Fault
raised (Ok x) = Ok x
raised (Err f) = Err (outside f)

-- what a call tells, or why it is refused
abbrev pub told_or_refused : {T : Type 0} → (T → Answer) → Result T Fault → Answer
told_or_refused tells (Ok x) = tells x
told_or_refused tells (Err f) = Refused f

abbrev pub done_answer : Result (Unit {0}) Fault → Answer
done_answer = told_or_refused (λ _. Done)

abbrev pub value_answer : Result ℕ Fault → Answer
value_answer = told_or_refused Value

-- no grant is a miss
abbrev pub granted : Option Grant → Answer
granted (Some g) = Granted g
granted None = Miss

abbrev pub grant_answer : Result (Option Grant) Fault → Answer
grant_answer = told_or_refused granted
