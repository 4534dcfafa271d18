-- The EPN of a miss, put together of its parts. Assumes nothing.
use Rattle.std.proofs.Common.{◌≡◌, ℕ, ◌+◌, ◌*◌, ◌/◌, ◌%◌, ◌^◌, ◌<◌, sym, ap, ◌∙◌, arith}
use lib.Bits.{bit_and, bit_or, and_high}
use Rattle.std.proofs.lemmas.Nat.{or_shifted}
use Rattle.twin.specs.Load.{missed_epn}

pub three_parts : (e space : ℕ) → space < 16 → bit_or (bit_or (bit_and e 0xfffff000) 0x200) space ≡ missed_epn e space
unfolding missed_epn
three_parts e space small =
    let page = e / 2 ^ 12 % 2 ^ 20 in
    let high = and_high e 20 12 in
    let parts : page * 2 ^ 12 + 0x200 ≡ (page * 2 ^ 3 + 1) * 2 ^ 9 = omega arith in
    ap (λ n. bit_or (bit_or n 0x200) space) high
    ∙ ap (λ n. bit_or n space) (or_shifted page 12 0x200 (omega arith) ∙ parts)
    ∙ or_shifted (page * 2 ^ 3 + 1) 9 space (omega arith)
    ∙ ap (λ n. n + space) (sym parts ∙ ap (λ n. n + 0x200) (sym high))
