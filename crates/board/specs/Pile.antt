-- The bytes that a memory was lent, and what a poke makes of them. Assumes nothing.
use Rattle.std.specs.Prelude.{ℕ, List, Ok, Err, Result}
use Rattle.board.specs.declared.bus.BusFault.{BusFault}
use Rattle.board.specs.Bytes.{with_word}

-- every byte that a memory was lent: those of one make, with the name of the reference that lent them, or those of a
-- bank's two memories. The name is a number of the logic, 0 for bytes lent for reading alone; that it stays says that the
-- bytes are the lender's own
pub data Pile : Type 0 where
  Lent : ℕ → List ℕ → Pile
  Both : Pile → Pile → Pile

-- where a word stands among them: at the bytes a to a + 3 of one make, or in a bank's first or second memory
pub data Place : Type 0 where
  Here : ℕ → Place
  First : Place → Place
  Second : Place → Place

-- the pile with the four bytes of word w at a place; a place that is not in the pile leaves it as it is
abbrev pub written : Pile → Place → ℕ → Pile
written (Lent n bs) (Here a) w = Lent n (with_word bs a w)
written (Lent n bs) (First p) w = Lent n bs
written (Lent n bs) (Second p) w = Lent n bs
written (Both x y) (Here a) w = Both x y
written (Both x y) (First p) w = Both (written x p w) y
written (Both x y) (Second p) w = Both x (written y p w)

-- what a poke with that answer leaves of a pile: the four bytes at its place change where it is accepted, and no other
abbrev pub pile_left : Result (Unit {0}) BusFault → Pile → Place → ℕ → Pile
pile_left (Ok u) x p w = written x p w
pile_left (Err f) x p w = x
