-- Laws of reading digits. Assumes nothing.
use Rattle.std.proofs.Common.{◌≡◌, ℕ, ◌+◌, ◌*◌, ◌^◌, ◌≤◌, cond, ltb, List, [], ◌∷◌, Some, None, refl, ap, mul-le-mul_left, arith}
use Rattle.std.proofs.lemmas.Bool.{cond_both, ltb-true, le-ltb}
use Rattle.script.specs.Number.{digit_value, read_on, small}

-- what is too large stays so, whatever digits follow
pub too_large : (base n : ℕ) (bs : List ℕ) → 2 ^ 32 ≤ n → small (read_on base n bs) ≡ None
too_large base n [] h = ap (λ t. cond t (Some n) None) (le-ltb n (2 ^ 32) h)
too_large base n (d ∷ bs) h =
    cond_both (ltb (digit_value d) base) (read_on base (n * base + digit_value d) bs) None (λ o. small o ≡ None)
    (λ e. let some : 1 ≤ base = omega (arith, ltb-true (digit_value d) base e) in too_large base (n * base + digit_value d) bs (omega (arith, mul-le-mul_left n some)))
    (λ e. refl)
