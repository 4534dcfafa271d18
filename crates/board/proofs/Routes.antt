-- Laws of a bank's routes: alignment is kept, and no two addresses go to one place. Assumes nothing.
use Rattle.std.proofs.Common.{◌≡◌, ℕ, zero, suc, ◌+◌, ◌-◌, ◌*◌, ◌/◌, ◌%◌, ◌^◌, ◌<◌, min, Bool, true, false, cond, eqb, ltb, Some, None, Ok, Err, Option, Result, sym, refl, ap, ◌∙◌, pow-suc, arith, pow_pos}
use lib.Bits.{bit_and, and_step, and_zero_r, and_le_r, and_mask, and_mod}
use Rattle.std.proofs.lemmas.Bool.{eqb-true, eqb-false, ltb-true, ltb-false, lt-ltb, eq-eqb, ne_eqb}
use Rattle.std.specs.Option.{ok_or}
use Rattle.board.specs.declared.bus.BusFault.{BusFault}
use Rattle.board.specs.declared.bus.Refusal.TheVariants.{Misaligned, NoWord}
use Rattle.board.specs.Bank.{kept, complement, picked, by, routed, routed_place}
use Rattle.board.specs.Bus.{at_place}
use Rattle.board.specs.Memory.{Meaning, aligned, poked, peeked, stored, replaced, admitted, refuse, left}
use Rattle.board.specs.Pile.{Pile, Place, Both, First, Second, pile_left}

-- a word is its bits inside a mask and its bits outside
pub inside_outside : (k x m : ℕ) → x < 2 ^ k → m < 2 ^ k → bit_and x m + bit_and x (2 ^ k - 1 - m) ≡ x
inside_outside zero x m hx hm = let none : x ≡ 0 = omega arith in rw none (cc)
inside_outside (suc k) x m hx hm =
    let p = pow_pos k in
    let d : 2 ^ suc k ≡ 2 ^ k * 2 = pow-suc 2 k in
    let half : (2 ^ suc k - 1 - m) / 2 ≡ 2 ^ k - 1 - m / 2 = omega arith in
    let odd : (2 ^ suc k - 1 - m) % 2 ≡ 1 - m % 2 = omega arith in
    let hi = inside_outside k (x / 2) (m / 2) (omega arith) (omega arith) in
    let a = and_step x m in
    let b : bit_and x (2 ^ suc k - 1 - m) ≡ bit_and (x / 2) (2 ^ k - 1 - m / 2) * 2 + min (x % 2) (1 - m % 2) = and_step x (2 ^ suc k - 1 - m) ∙ (λ i. bit_and (x / 2) (half i) * 2 + min (x % 2) (odd i)) in
    omega arith

kept_small : (mask : ℕ) → kept mask < 2 ^ 32
kept_small mask = omega (arith, and_le_r mask 0xffff8000)

kept_low : (mask : ℕ) → kept mask % 4 ≡ 0
kept_low mask = and_mod mask 0xffff8000 2 ∙ and_zero_r (mask % 4)

-- the bits outside a mask have an address's last two
pub same_low : (a mask : ℕ) → bit_and a (complement (kept mask)) % 4 ≡ a % 4
same_low a mask =
    let low : complement (kept mask) % 4 ≡ 3 = omega (arith, kept_small mask, kept_low mask) in
    and_mod a (complement (kept mask)) 2 ∙ ap (bit_and (a % 4)) low ∙ and_mask (a % 4) 2 ∙ omega arith

module _ (base mask : ℕ) where
  inner : ℕ → ℕ
  inner a = bit_and a (complement (kept mask))

  -- what a pick tells, by its test
  tells : (a i : ℕ) (t : Bool) → eqb (bit_and a (kept mask)) (bit_and base (kept mask)) ≡ t → cond t (Some (bit_and a (complement (kept mask)))) None ≡ Some i → (i ≡ inner a) × (bit_and a (kept mask) ≡ bit_and base (kept mask))
  unfolding inner
  tells a i true e p = (cc, eqb-true _ _ e)
  tells a i false e p = let z : ◌≡◌ {A = ℕ} 0 1 = cc in absurd (omega arith)

  pub aligned_inner : (a i : ℕ) → picked base mask a ≡ Some i → aligned i ≡ aligned a
  unfolding inner
  aligned_inner a i p = ap (λ n. eqb n 0) (ap (λ n. n % 4) (tells a i _ refl p).0 ∙ same_low a mask)

  pub one_to_one : (a x i : ℕ) → a < 2 ^ 32 → x < 2 ^ 32 → picked base mask a ≡ Some i → picked base mask x ≡ Some i → x ≡ a
  unfolding inner
  one_to_one a x i ha hx p q =
      let u = tells a i _ refl p in
      let v = tells x i _ refl q in
      let sa = inside_outside 32 a (kept mask) ha (kept_small mask) in
      let sx = inside_outside 32 x (kept mask) hx (kept_small mask) in
      omega (arith, u.0, u.1, v.0, v.1, sa, sx)

-- an answer from the first memory, at its own address, is the bank's answer at the address picked
peek_cases : (t : Bool) (o : Option ℕ) (a i : ℕ) → at_place (cond t (ok_or o (record { refusal = NoWord; address = i })) (refuse {T = ℕ} Misaligned i)) a ≡ cond t (ok_or o (record { refusal = NoWord; address = a })) (refuse Misaligned a)
peek_cases true None a i = refl
peek_cases true (Some w) a i = refl
peek_cases false o a i = refl

poke_cases : (t : Bool) (o : Option ℕ) (s : Bool) (a i : ℕ) → at_place (cond t (admitted o s i) (refuse Misaligned i)) a ≡ cond t (admitted o s a) (refuse Misaligned a)
poke_cases true None s a i = refl
poke_cases true (Some w) true a i = refl
poke_cases true (Some w) false a i = refl
poke_cases false o s a i = refl

-- an accepted answer is accepted at any place
left_cases : (r : Result (Unit {0}) BusFault) (m : Meaning) (a x w : ℕ) → left (at_place r x) m a w ≡ left r m a w
left_cases (Ok u) m a x w = refl
left_cases (Err f) m a x w = refl

-- what a poke leaves of one of two memories' bytes, it leaves of both
first_cases : (r : Result (Unit {0}) BusFault) (x y : Pile) (p : Place) (a w : ℕ) → Both (pile_left r x p w) y ≡ pile_left (at_place r a) (Both x y) (First p) w
first_cases (Ok u) x y p a w = refl
first_cases (Err f) x y p a w = refl

module _ (base mask : ℕ) (first second : Meaning) (a i : ℕ) (small : a < 2 ^ 32) (to : picked base mask a ≡ Some i) where
  pub peek_first : at_place (peeked first i) a ≡ peeked (routed base mask first second) a
  peek_first = peek_cases (aligned i) (first.word i) a i ∙ rw (aligned_inner base mask a i to, lt-ltb a (2 ^ 32) small, to) refl

  pub poke_first : at_place (poked first i) a ≡ poked (routed base mask first second) a
  poke_first = poke_cases (aligned i) (first.word i) (first.storable i) a i ∙ rw (aligned_inner base mask a i to, lt-ltb a (2 ^ 32) small, to) refl

  -- the map with the word at i replaced in the first memory, at each address
  word_at : (w x : ℕ) (t : Bool) → ltb x (2 ^ 32) ≡ t → (p : Option ℕ) → picked base mask x ≡ p → cond t (by p (replaced first i w).word second.word x) None ≡ cond (eqb x a) (Some w) (cond t (by p first.word second.word x) None)
  word_at w x false e p q = rw (ne_eqb x a (λ same. omega (arith, ltb-false x (2 ^ 32) e))) refl
  word_at w x true e None q = rw (ne_eqb x a (λ same. let z : None ≡ Some i = sym q ∙ ap (picked base mask) same ∙ to in let n : ◌≡◌ {A = ℕ} 0 1 = cc in omega arith)) refl
  word_at w x true e (Some j) q = ap (λ t. cond t (Some w) (first.word j)) (same_test (eqb x a) refl)
    where
      same_test : (t : Bool) → eqb x a ≡ t → eqb j i ≡ eqb x a
      same_test true s = eq-eqb j i (let z : Some j ≡ Some i = sym q ∙ ap (picked base mask) (eqb-true x a s) ∙ to in cc) ∙ sym s
      same_test false s = ne_eqb j i (λ same. eqb-false x a s (one_to_one base mask a x i small (ltb-true x (2 ^ 32) e) to (q ∙ ap (λ n. Some n) same))) ∙ sym s

  replaced_first : (w : ℕ) → routed base mask (replaced first i w) second ≡ replaced (routed base mask first second) a w
  replaced_first w = λ k. record { word = λ x. word_at w x (ltb x (2 ^ 32)) refl (picked base mask x) refl k; storable = (routed base mask first second).storable }

  -- what a poke through the bank leaves
  left_both : (w : ℕ) (r : Result (Unit {0}) BusFault) → routed base mask (left r first i w) second ≡ left r (routed base mask first second) a w
  left_both w (Ok u) = replaced_first w
  left_both w (Err f) = refl

  pub stored_first : (w : ℕ) → routed base mask (stored first i w) second ≡ stored (routed base mask first second) a w
  stored_first w = left_both w (poked first i) ∙ sym (left_cases (poked first i) _ a a w) ∙ ap (λ r. left r (routed base mask first second) a w) poke_first

  pub lent_first : (x y : Pile) (p q : ℕ → Place) (w : ℕ) → Both (pile_left (poked first i) x (p i) w) y ≡ pile_left (poked (routed base mask first second) a) (Both x y) (routed_place base mask p q a) w
  lent_first x y p q w = first_cases (poked first i) x y (p i) a w ∙ (λ k. pile_left (poke_first k) (Both x y) (by (sym to k) (λ j. First (p j)) (λ j. Second (q j)) a) w)
