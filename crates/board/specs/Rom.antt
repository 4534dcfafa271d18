-- ROM's map: the big-endian words of its bytes, nothing storable. Assumes nothing.
use Rattle.std.specs.Prelude.{ℕ, false, List}
use Rattle.board.specs.Bytes.{word_in}
use Rattle.board.specs.Memory.{Meaning}

abbrev pub rom : List ℕ → Meaning
rom bs = record { word = word_in bs; storable = λ _. false }
