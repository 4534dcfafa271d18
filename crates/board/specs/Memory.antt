-- What a memory means, and what peek and poke do to that. Assumes nothing.
use Rattle.std.specs.Prelude.{ℕ, ◌%◌, Bool, cond, Some, None, Ok, Err, Option, Result, ◌==◌}
use Rattle.std.specs.Option.{ok_or}
use Rattle.board.specs.declared.bus.BusFault.{BusFault}
use Rattle.board.specs.declared.bus.Refusal.{Refusal}
use Rattle.board.specs.declared.bus.Refusal.TheVariants.{Misaligned, NoWord, NotStorable}

-- the word at each address that has one, and whether an address may be stored to
pub record Meaning : Type 0 where
  pub word : ℕ → Option ℕ
  pub storable : ℕ → Bool

abbrev pub aligned : ℕ → Bool
aligned a = a % 4 == 0

abbrev pub refuse : {T : Type 0} → Refusal → ℕ → Result T BusFault
refuse why a = Err (record { refusal = why; address = a })

-- the test of an address alone
abbrev pub alignment : ℕ → Result (Unit {0}) BusFault
alignment a = cond (aligned a) (Ok tt) (refuse Misaligned a)

-- a peek's answer: refused where misaligned, then where there is no word
abbrev pub peeked : Meaning → ℕ → Result ℕ BusFault
peeked m a = cond (aligned a) (ok_or (m.word a) (record { refusal = NoWord; address = a })) (refuse Misaligned a)

-- a poke's answer where the address is aligned, by the word there and whether it may be stored to
abbrev pub admitted : Option ℕ → Bool → ℕ → Result (Unit {0}) BusFault
admitted None s a = refuse NoWord a
admitted (Some v) s a = cond s (Ok tt) (refuse NotStorable a)

abbrev pub poked : Meaning → ℕ → Result (Unit {0}) BusFault
poked m a = cond (aligned a) (admitted (m.word a) (m.storable a) a) (refuse Misaligned a)

-- the meaning with the word at a replaced
abbrev pub replaced : Meaning → ℕ → ℕ → Meaning
replaced m a w = record { word = λ x. cond (x == a) (Some w) (m.word x); storable = m.storable }

-- what a poke leaves: one word replaced where it is accepted, else all as it was
abbrev pub left : Result (Unit {0}) BusFault → Meaning → ℕ → ℕ → Meaning
left (Ok u) m a w = replaced m a w
left (Err f) m a w = m

abbrev pub stored : Meaning → ℕ → ℕ → Meaning
stored m a w = left (poked m a) m a w
