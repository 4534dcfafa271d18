-- Laws of the addresses of descriptors. Assumes nothing.
use Rattle.std.proofs.Common.{◌≡◌, ℕ, ◌+◌, ◌-◌, ◌*◌, ◌/◌, ◌%◌, ◌^◌, ◌<◌, sym, ap, ◌∙◌, arith}
use lib.Bits.{bit_and, bit_or, and_high}
use Rattle.std.proofs.lemmas.Nat.{or_shifted, mod_below, pow_pos}
use Rattle.tlb.specs.Bits.{field}

-- a table's address and a place of a word in it
pub compose : (b x w : ℕ) → w ≡ x → x < 2 ^ 10 → bit_or (bit_and b 0xfffff000) ((w * 2 ^ 2) % 2 ^ 32) ≡ bit_and b 0xfffff000 + 4 * x
compose b x w is small =
    let place : (w * 2 ^ 2) % 2 ^ 32 ≡ 4 * x = omega arith in
    let high = and_high b 20 12 in
    (λ i. bit_or (high i) (place i))
    ∙ or_shifted (b / 2 ^ 12 % 2 ^ 20) 12 (4 * x) (omega arith)
    ∙ ap (λ n. n + 4 * x) (sym high)

pub field_small : (i j w : ℕ) → field i j w < 2 ^ (j + 1 - i)
field_small i j w = mod_below (w / 2 ^ (31 - j)) (2 ^ (j + 1 - i)) (pow_pos (j + 1 - i))
