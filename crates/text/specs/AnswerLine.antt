-- One line of an account. Assumes nothing.
use Rattle.std.specs.Prelude.{ℕ, List, [], ◌∷◌, ◌++◌}
use Rattle.calls.specs.declared.answer.Answer.{Answer}
use Rattle.calls.specs.Text.{text_of}

-- the text of an answer and a newline
abbrev pub line_text : Answer → List ℕ
line_text a = text_of a ++ 10 ∷ []
