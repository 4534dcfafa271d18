-- A bank: addresses that agree with its base under its mask go to the first of two memories. Assumes nothing.
use Rattle.std.specs.Prelude.{ℕ, ◌-◌, ◌^◌, Bool, false, cond, not, ◌&&◌, Some, None, Option, ◌==◌, bit_and, nat_lt}
use Rattle.board.specs.Memory.{Meaning}
use Rattle.board.specs.Pile.{Place, First, Second}

-- of a mask bits 0 to 16 are kept, bit 0 being the most significant of 32
abbrev pub kept : ℕ → ℕ
kept mask = bit_and mask 0xffff8000

-- a word of 32 bits with every bit turned
abbrev pub complement : ℕ → ℕ
complement m = 0xffffffff - m

-- the address that the first memory is asked for, or none where the second is asked; the base is cut to the mask
abbrev pub picked : ℕ → ℕ → ℕ → Option ℕ
picked base mask a = cond (bit_and a (kept mask) == bit_and base (kept mask)) (Some (bit_and a (complement (kept mask)))) None

-- a memory behind a protect flag: where it is set, nothing can be stored to
abbrev pub shielded : Bool → Meaning → Meaning
shielded protect m = record { word = m.word; storable = λ a. not protect && m.storable a }

-- what holds at a picked address holds there in the first memory; at any other it holds in the second
abbrev pub by : {X : Type 0} → Option ℕ → (ℕ → X) → (ℕ → X) → ℕ → X
by (Some i) first second a = first i
by None first second a = second a

-- no address is at or beyond 2^32
abbrev pub routed : ℕ → ℕ → Meaning → Meaning → Meaning
routed base mask first second = record {
  word = λ a. cond (nat_lt a (2 ^ 32)) (by (picked base mask a) first.word second.word a) None;
  storable = λ a. cond (nat_lt a (2 ^ 32)) (by (picked base mask a) first.storable second.storable a) false;
}

abbrev pub bank : ℕ → ℕ → Bool → Meaning → Meaning → Meaning
bank base mask protect first second = routed base mask (shielded protect first) second

-- where the word at an address stands among the bytes of the two memories
abbrev pub routed_place : ℕ → ℕ → (ℕ → Place) → (ℕ → Place) → ℕ → Place
routed_place base mask first second a = by (picked base mask a) (λ i. First (first i)) (λ i. Second (second i)) a
