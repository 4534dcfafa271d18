-- Laws of the two tables of a walk: what their definitions have in common. Assumes nothing.
use Rattle.std.proofs.Common.{◌≡◌, ℕ, ◌+◌, ◌*◌, ◌^◌, ◌<◌, Bool, true, false, cond, Some, None, Ok, Err, Option, Result, refl, bit_and}
use Rattle.board.specs.Memory.{Meaning, peeked}
use Rattle.board.specs.declared.bus.BusFault.{BusFault}
use Rattle.calls.specs.declared.fault.Descriptor.{Descriptor}
use Rattle.calls.specs.declared.fault.Fault.{Fault}
use Rattle.calls.specs.declared.fault.Level.{Level}
use Rattle.mmu.proofs.Places.{field_small}
use Rattle.mmu.specs.Walk.{first_word, second_word, at_level, stops, onward, index_in, address_in, level_of, flaw_in, table_word}
use Rattle.tlb.specs.Descriptor.{sized, marked}
use Rattle.mmu.specs.declared.walk.Table.{Table}
use Rattle.mmu.specs.declared.walk.Table.TheVariants.{First, Second}
use Rattle.tlb.specs.Bits.{flag}

pub address_is : (t : Table) (base e : ℕ) → bit_and base 0xfffff000 + 4 * index_in t e ≡ address_in t base e
address_is First base e = refl
address_is Second base e = refl

pub index_small : (t : Table) (e : ℕ) → index_in t e < 2 ^ 10
index_small First e = field_small 0 9 e
index_small Second e = field_small 10 19 e

-- goes on with a word unless there is a flaw
unfoldable pub by_flaw : Option Descriptor → ℕ → ℕ → Result ℕ Fault
by_flaw None a w = Ok w
by_flaw (Some why) a w = stops why a

tested : (valid fits : Bool) (d s : Descriptor) (a w : ℕ) → cond valid (cond fits (Ok w) (stops s a)) (stops d a) ≡ by_flaw (cond valid (cond fits None (Some s)) (Some d)) a w
unfolding by_flaw
tested true true d s a w = refl
tested true false d s a w = refl
tested false fits d s a w = refl

alike : (r : Result ℕ BusFault) (l : Level) (f g : ℕ → Result ℕ Fault) → ((w : ℕ) → f w ≡ g w) → onward (at_level l r) f ≡ onward (at_level l r) g
alike (Ok w) l f g same = same w
alike (Err x) l f g same = refl

pub word_is : (t : Table) (m : Meaning) (base e : ℕ) → table_word t m base e ≡ onward (at_level (level_of t) (peeked m (address_in t base e))) (λ w. by_flaw (flaw_in t w) (address_in t base e) w)
unfolding first_word second_word
word_is First m base e = alike (peeked m (address_in First base e)) _ _ _ (λ w. tested (flag 31 w) (sized w) _ _ _ w)
word_is Second m base e = alike (peeked m (address_in Second base e)) _ _ _ (λ w. tested (flag 31 w) (marked w) _ _ _ w)
