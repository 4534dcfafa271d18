-- Laws of fields: a shift and a mask compute one, and kept bits hold it. Assumes nothing.
use Rattle.std.proofs.Common.{◌≡◌, ℕ, ◌+◌, ◌-◌, ◌*◌, ◌/◌, ◌%◌, ◌^◌, ◌<◌, ◌≤◌, sym, ap, ◌∙◌, arith}
use native.Mathlib.Nat.{mod-mod}
use lib.Bits.{bit_and, bit_or}
use Rattle.std.proofs.lemmas.Nat.{one_shl, and_mask, and_shr, and_mod, or_shifted, mod_below, pow_pos}
use Rattle.tlb.specs.Bits.{field}
use Rattle.tlb.specs.Control.{index_of, with_index}

pub shift_mask : (w i j : ℕ) → i ≤ j → j < 32 → j < i + 31 → bit_and (w / 2 ^ (31 - j)) ((1 * 2 ^ (j + 1 - i)) % 2 ^ 32 - 1) ≡ field i j w
shift_mask w i j order within part =
    ap (λ m. bit_and (w / 2 ^ (31 - j)) (m - 1)) (one_shl (j + 1 - i) 32 (omega arith))
    ∙ and_mask (w / 2 ^ (31 - j)) (j + 1 - i)

-- a field that lies inside the kept bits is the field of the word
pub field_kept : (w m i j : ℕ) → field i j m ≡ 2 ^ (j + 1 - i) - 1 → field i j (bit_and w m) ≡ field i j w
field_kept w m i j all =
    ap (λ n. n % 2 ^ (j + 1 - i)) (and_shr w m (31 - j))
    ∙ and_mod (w / 2 ^ (31 - j)) (m / 2 ^ (31 - j)) (j + 1 - i)
    ∙ ap (bit_and (field i j w)) all
    ∙ and_mask (field i j w) (j + 1 - i)
    ∙ mod-mod (w / 2 ^ (31 - j)) (2 ^ (j + 1 - i))

-- a base and an offset below it
pub join_offset : (b a k : ℕ) → bit_or (b / 2 ^ k * 2 ^ k) (bit_and a (2 ^ k - 1)) ≡ b / 2 ^ k * 2 ^ k + a % 2 ^ k
join_offset b a k = ap (bit_or (b / 2 ^ k * 2 ^ k)) (and_mask a k) ∙ or_shifted (b / 2 ^ k) k (a % 2 ^ k) (mod_below a (2 ^ k) (pow_pos k))

-- an index between the high and the low part of a word
pub put_index : (w i : ℕ) → i < 32 → bit_or (bit_or (w / 2 ^ 13 * 2 ^ 13) ((i * 2 ^ 8) % 2 ^ 32)) (bit_and w 255) ≡ w / 2 ^ 13 * 2 ^ 13 + i * 2 ^ 8 + w % 2 ^ 8
put_index w i small =
    let whole : (i * 2 ^ 8) % 2 ^ 32 ≡ i * 2 ^ 8 = omega arith in
    let parts : w / 2 ^ 13 * 2 ^ 13 + i * 2 ^ 8 ≡ (w / 2 ^ 13 * 2 ^ 5 + i) * 2 ^ 8 = omega arith in
    (λ j. bit_or (bit_or (w / 2 ^ 13 * 2 ^ 13) (whole j)) (and_mask w 8 j))
    ∙ ap (λ n. bit_or n (w % 2 ^ 8)) (or_shifted (w / 2 ^ 13) 13 (i * 2 ^ 8) (omega arith) ∙ parts)
    ∙ or_shifted (w / 2 ^ 13 * 2 ^ 5 + i) 8 (w % 2 ^ 8) (mod_below w (2 ^ 8) (pow_pos 8))
    ∙ ap (λ n. n + w % 2 ^ 8) (sym parts)

-- it is the index of that word
pub index_put : (i w : ℕ) → i < 32 → index_of (with_index i w) ≡ i
unfolding with_index
index_put i w small = omega (arith, mod_below w (2 ^ 8) (pow_pos 8))
