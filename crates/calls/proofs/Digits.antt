-- What `{:08x}` writes of a word. Assumes nothing.
use Rattle.std.proofs.Common.{◌≡◌, ℕ, zero, suc, ◌+◌, ◌-◌, ◌*◌, ◌/◌, ◌%◌, ◌^◌, ◌<◌, ◌≤◌, false, List, [], ◌∷◌, ◌++◌, length, replicate, refl, sym, ap, ◌∙◌, subst, arith, append-nil}
use Rattle.std.specs.Fmt.{digits, digits_onto, padded_integral, char_count, format_spec}
use Rattle.std.proofs.Math.Nat.{zero-div}
use Rattle.std.proofs.lemmas.Bool.{cases_lt}
use Rattle.std.proofs.lemmas.Bool.Decides.{nat_tests}
use Rattle.std.proofs.lemmas.Nat.{shr-shr}
use mathlib.Core.Logic.{⊎_elim}
use Rattle.calls.specs.Hex.{glyph, nibbles}

-- the lowest digit stands last
nibbles_low : (k n : ℕ) (acc : List ℕ) → nibbles (suc k) n ++ acc ≡ nibbles k (n / 16) ++ (glyph (n % 16) ∷ acc)
nibbles_low zero n acc = let e : n / 1 ≡ n = omega arith in ap (λ m. glyph (m % 16) ∷ acc) e
nibbles_low (suc k) n acc =
    let places : 4 * suc k ≡ 4 + 4 * k = omega arith in
    let high : n / 2 ^ (4 * suc k) ≡ n / 16 / 2 ^ (4 * k) = ap (λ j. n / 2 ^ j) places ∙ sym (shr-shr n 4 (4 * k)) in
    (λ i. glyph (high i % 16) ∷ nibbles_low k n acc i)

nibbles_zero : (k : ℕ) → nibbles k 0 ≡ replicate k 48
nibbles_zero zero = refl
nibbles_zero (suc k) = (λ i. glyph (zero-div (2 ^ (4 * k)) i % 16) ∷ nibbles_zero k i)

-- one digit, or more
one_digit : (i n : ℕ) (acc : List ℕ) → n < 16 → digits_onto (suc i) 16 false n acc ≡ glyph (n % 16) ∷ acc
one_digit i n acc h = grind (arith, nat_tests)

more_digits : (i n : ℕ) (acc : List ℕ) → 16 ≤ n → digits_onto (suc i) 16 false n acc ≡ digits_onto i 16 false (n / 16) (glyph (n % 16) ∷ acc)
more_digits i n acc h = grind (arith, nat_tests)

-- after its missing zeros, d is the k digits of n and then acc
abbrev Fills : ℕ → ℕ → List ℕ → List ℕ → Type 0
Fills k n acc d = replicate (k + length acc - length d) 48 ++ d ≡ nibbles k n ++ acc

one_fills : (k n : ℕ) (acc : List ℕ) → n < 16 → Fills (suc k) n acc (glyph (n % 16) ∷ acc)
one_fills k n acc h =
    let high : n / 16 ≡ 0 = omega arith in
    let zeros : suc k + length acc - suc (length acc) ≡ k = omega arith in
    rw (zeros, nibbles_low k n acc, high, nibbles_zero k)

onto_fills : (k i n : ℕ) (acc : List ℕ) → k < i → n < 16 ^ suc k → Fills (suc k) n acc (digits_onto i 16 false n acc)
onto_fills k zero n acc fuel bound = absurd (omega arith)
onto_fills zero (suc i) n acc fuel bound = subst (Fills 1 n acc) (sym (one_digit i n acc (omega arith))) (one_fills zero n acc (omega arith))
onto_fills (suc k) (suc i) n acc fuel bound = ⊎_elim
    (λ small. subst (Fills (suc (suc k)) n acc) (sym (one_digit i n acc small)) (one_fills (suc k) n acc small))
    (λ large.
    let d = digits_onto i 16 false (n / 16) (glyph (n % 16) ∷ acc) in
    let zeros : suc (suc k) + length acc - length d ≡ suc k + suc (length acc) - length d = omega arith in
    let front = onto_fills k i (n / 16) (glyph (n % 16) ∷ acc) (omega arith) (omega arith) in
    subst (Fills (suc (suc k)) n acc) (sym (more_digits i n acc large))
    (ap (λ j. replicate j 48 ++ d) zeros ∙ front ∙ sym (nibbles_low (suc k) n acc)))
    (cases_lt n 16)

whole_digits : (n : ℕ) → digits_onto 64 16 false n [] ≡ digits 16 false n
unfolding digits
whole_digits n = refl

pub word_text : (n : ℕ) → n < 2 ^ 32 → padded_integral (format_spec 32 0 4 8 (2 ^ 64 - 1)) false [] (digits 16 false n) ≡ nibbles 8 n
unfolding padded_integral char_count
word_text n h =
    let d = digits 16 false n in
    let zeros : 8 - length d - 0 - 0 ≡ 8 + 0 - length d = omega arith in
    (λ i. replicate (zeros i) 48 ++ append-nil d i) ∙ subst (Fills 8 n []) (whole_digits n) (onto_fills 7 64 n [] (omega arith) (omega arith))
