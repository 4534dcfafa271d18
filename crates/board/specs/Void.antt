-- The memory without words. Assumes nothing.
use Rattle.std.specs.Prelude.{false, None}
use Rattle.board.specs.Memory.{Meaning}

abbrev pub void : Meaning
void = record { word = λ _. None; storable = λ _. false }
