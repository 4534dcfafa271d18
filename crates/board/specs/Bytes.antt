-- The map of memories over bytes. Assumes nothing.
use Rattle.std.specs.Prelude.{ℕ, ◌+◌, ◌*◌, ◌/◌, ◌%◌, ◌^◌, min, Bool, cond, ◌&&◌, List, [], ◌∷◌, ◌++◌, length, take, drop, Some, None, Ok, Option, Result, nat_le, nat_lt, slice_index}
use Rattle.board.specs.declared.bus.BusFault.{BusFault}
use Rattle.board.specs.declared.bus.Refusal.TheVariants.{Misaligned, NoWord}
use Rattle.board.specs.Memory.{aligned, refuse}

-- four bytes as a word, the highest first
abbrev pub word_of : ℕ → ℕ → ℕ → ℕ → ℕ
word_of b0 b1 b2 b3 = b0 * 2 ^ 24 + b1 * 2 ^ 16 + b2 * 2 ^ 8 + b3

-- the word of the bytes a to a + 3
abbrev pub big_endian : List ℕ → ℕ → ℕ
big_endian bs a = word_of (slice_index bs a) (slice_index bs (a + 1)) (slice_index bs (a + 2)) (slice_index bs (a + 3))

-- of n bytes, all four of the word at a are there, and a is an address
abbrev pub inside : ℕ → ℕ → Bool
inside n a = nat_le (a + 4) n && nat_lt a (2 ^ 32)

-- there is a word at each multiple of 4 below 2^32 whose four bytes are all there; a tail of under four bytes is none
abbrev pub word_in : List ℕ → ℕ → Option ℕ
word_in bs a = cond (aligned a && inside (length bs) a) (Some (big_endian bs a)) None

-- where the bytes of the word at a begin, among n bytes, or why there is no such word
abbrev pub placed : ℕ → ℕ → Result ℕ BusFault
placed n a = cond (aligned a) (cond (inside n a) (Ok a) (refuse NoWord a)) (refuse Misaligned a)

-- the four bytes of a word, the highest first
abbrev pub bytes_of : ℕ → List ℕ
bytes_of w = (w / 2 ^ 24 % 256) ∷ (w / 2 ^ 16 % 256) ∷ (w / 2 ^ 8 % 256) ∷ (w % 256) ∷ []

-- the bytes with those a to a + 3 replaced by the bytes of w
abbrev pub with_word : List ℕ → ℕ → ℕ → List ℕ
with_word bs a w = take a bs ++ (bytes_of w ++ drop (a + 4) bs)

-- how many words there are: no more than addresses
abbrev pub words_in : List ℕ → ℕ
words_in bs = min (length bs / 4) (2 ^ 30)

-- the bytes that belong to no word
abbrev pub tail : List ℕ → List ℕ
tail bs = drop (4 * words_in bs) bs
