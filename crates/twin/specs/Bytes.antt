-- What requests make of the bytes that a memory was lent. Assumes nothing.
use Rattle.std.specs.Prelude.{ℕ, List, [], ◌∷◌}
use Rattle.board.specs.Memory.{Meaning, poked}
use Rattle.board.specs.Pile.{Pile, Place, pile_left}
use Rattle.board.specs.Ram.{ram, bytes_left}
use Rattle.calls.specs.declared.call.Call as calls
use Rattle.calls.specs.declared.call.Call.TheVariants.{Poke, Peek, Write, Read, Mode, Access, Resolve, Drop, DropAll, Tally}
use Rattle.twin.specs.Life.{State, begin, next}
use Rattle.twin.specs.declared.request.Request.{Request}
use Rattle.twin.specs.declared.request.Request.TheVariants as requests

-- an accepted poke changes the four bytes at its place; no other call changes a byte
abbrev pub call_pile : calls.Call → Meaning → (ℕ → Place) → Pile → Pile
call_pile (Poke a w) m place x = pile_left (poked m a) x (place a) w
call_pile (Peek a) m place x = x
call_pile (Write n w) m place x = x
call_pile (Read n) m place x = x
call_pile (Mode p i d) m place x = x
call_pile (Access n e) m place x = x
call_pile (Resolve n e) m place x = x
call_pile (Drop e) m place x = x
call_pile DropAll m place x = x
call_pile Tally m place x = x

abbrev pub pile_by : Request → Meaning → (ℕ → Place) → Pile → Pile
pile_by (requests.Call c) m place x = call_pile c m place x
pile_by (requests.Look n i) m place x = x

-- the bytes that a list of requests leaves
abbrev pub pile_after : State → (ℕ → Place) → Pile → List Request → Pile
pile_after s place x [] = x
pile_after s place x (r ∷ rs) = pile_after (next r s) place (pile_by r s.memory place x) rs

-- and of RAM alone: the bytes that an accepted poke changes are its word's
abbrev pub call_bytes : calls.Call → Meaning → List ℕ → List ℕ
call_bytes (Poke a w) m bs = bytes_left (poked m a) bs a w
call_bytes (Peek a) m bs = bs
call_bytes (Write n w) m bs = bs
call_bytes (Read n) m bs = bs
call_bytes (Mode p i d) m bs = bs
call_bytes (Access n e) m bs = bs
call_bytes (Resolve n e) m bs = bs
call_bytes (Drop e) m bs = bs
call_bytes DropAll m bs = bs
call_bytes Tally m bs = bs

abbrev pub bytes_by : Request → Meaning → List ℕ → List ℕ
bytes_by (requests.Call c) m bs = call_bytes c m bs
bytes_by (requests.Look n i) m bs = bs

abbrev pub bytes_after : State → List ℕ → List Request → List ℕ
bytes_after s bs [] = bs
bytes_after s bs (r ∷ rs) = bytes_after (next r s) (bytes_by r s.memory bs) rs

-- a new twin over RAM of these bytes
abbrev pub ram_after : List ℕ → List Request → List ℕ
ram_after bs rs = bytes_after (begin (ram bs)) bs rs
