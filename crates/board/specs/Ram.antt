-- RAM's map: the big-endian words of its bytes, all storable. Assumes nothing.
use Rattle.std.specs.Prelude.{ℕ, true, List, Ok, Err, Result}
use Rattle.board.specs.declared.bus.BusFault.{BusFault}
use Rattle.board.specs.Bytes.{word_in, with_word}
use Rattle.board.specs.Memory.{Meaning, poked}

abbrev pub ram : List ℕ → Meaning
ram bs = record { word = word_in bs; storable = λ _. true }

-- the bytes that a poke with that answer leaves
abbrev pub bytes_left : Result (Unit {0}) BusFault → List ℕ → ℕ → ℕ → List ℕ
bytes_left (Ok u) bs a w = with_word bs a w
bytes_left (Err f) bs a w = bs

-- what a poke makes of the bytes: the four named change where it is accepted, and no other
abbrev pub poked_bytes : List ℕ → ℕ → ℕ → List ℕ
poked_bytes bs a w = bytes_left (poked (ram bs) a) bs a w
