-- Laws of words in bytes: what a word put in makes of a list, and of its map. Assumes nothing.
use Rattle.std.proofs.Common.{◌≡◌, ℕ, ◌+◌, ◌-◌, ◌/◌, ◌%◌, ◌^◌, ◌<◌, ◌≤◌, Bool, true, false, cond, eqb, ltb, leb, ◌≢◌, List, ◌++◌, length, get_or, take, drop, Some, None, Ok, Err, Result, sym, refl, ap, ◌∙◌, arith}
use Rattle.std.proofs.lemmas.List.{get_or_append_left, get_or-append_right, get_or-take, get_or-drop, length-take-le, length-append, length-drop}
use Rattle.std.proofs.lemmas.Nat.{mod-pow-add}
use Rattle.std.proofs.lemmas.Bool.{true≢false, eqb-true, eqb-false, and_parts, ne_eqb, leb-true, ltb-true, ltb-false}
use borrow.Rule.Slice.PartMut.{put_mid, Post-is}
use Rattle.board.specs.declared.bus.BusFault.{BusFault}
use Rattle.board.specs.Bytes.{word_of, big_endian, inside, word_in, placed, bytes_of, with_word}
use Rattle.board.specs.declared.bus.Refusal.TheVariants.{Misaligned, NoWord}
use Rattle.board.specs.Memory.{aligned, refuse, stored}
use Rattle.board.specs.Pile.{Lent, Here, pile_left}
use Rattle.board.specs.Ram.{ram, bytes_left}

-- the bytes of a word make that word
pub word_of_bytes : (w : ℕ) → w < 2 ^ 32 → word_of (w / 2 ^ 24 % 256) (w / 2 ^ 16 % 256) (w / 2 ^ 8 % 256) (w % 256) ≡ w
word_of_bytes w h = omega (arith, mod-pow-add w 8 8, mod-pow-add w 8 16, mod-pow-add w 8 24)

-- the bytes with the four of h in place of those a to a + 3
module _ (bs h : List ℕ) (a : ℕ) (four : length h ≡ 4) (fits : a + 4 ≤ length bs) where
  front : length (take a bs) ≡ a
  front = length-take-le a bs (omega arith)

  pub length_with : length (take a bs ++ (h ++ drop (a + 4) bs)) ≡ length bs
  length_with = simp (length-append, length-drop, front, four) (omega arith)

  inside_word : (i : ℕ) → i < 4 → get_or (take a bs ++ (h ++ drop (a + 4) bs)) (a + i) 0 ≡ get_or h i 0
  inside_word i few =
      get_or-append_right (take a bs) _ a (a + i) 0 front (omega arith)
      ∙ ap (λ n. get_or (h ++ drop (a + 4) bs) n 0) (omega arith)
      ∙ get_or_append_left h _ 0 i (omega (arith, four))

  -- a byte before or behind the word, by which it is
  outside_word : (j : ℕ) (t : Bool) → ltb j a ≡ t → (t ≡ false → a + 4 ≤ j) → get_or (take a bs ++ (h ++ drop (a + 4) bs)) j 0 ≡ get_or bs j 0
  outside_word j true e behind = get_or_append_left (take a bs) _ 0 j (omega (arith, front, ltb-true j a e)) ∙ get_or-take a bs j 0 (ltb-true j a e)
  outside_word j false e behind =
      let b = behind refl in
      get_or-append_right (take a bs) _ a j 0 front (omega arith)
      ∙ get_or-append_right h _ 4 (j - a) 0 four (omega arith)
      ∙ get_or-drop (a + 4) bs (j - a - 4) 0
      ∙ ap (λ n. get_or bs n 0) (omega arith)

  elsewhere : (x i : ℕ) → x % 4 ≡ 0 → a % 4 ≡ 0 → x ≢ a → i < 4 → get_or (take a bs ++ (h ++ drop (a + 4) bs)) (x + i) 0 ≡ get_or bs (x + i) 0
  elsewhere x i xm am ne few = outside_word (x + i) (ltb (x + i) a) refl (λ e. let b = ltb-false (x + i) a e in omega (arith, b, ne, xm, am, few))

-- a word at another multiple of 4 stands as it did
pub stands : (bs h : List ℕ) (a x : ℕ) → length h ≡ 4 → a + 4 ≤ length bs → x % 4 ≡ 0 → a % 4 ≡ 0 → x ≢ a → big_endian (take a bs ++ (h ++ drop (a + 4) bs)) x ≡ big_endian bs x
stands bs h a x four fits xm am ne =
    let g0 : get_or (take a bs ++ (h ++ drop (a + 4) bs)) x 0 ≡ get_or bs x 0 = ap (λ n. get_or (take a bs ++ (h ++ drop (a + 4) bs)) n 0) (omega arith) ∙ elsewhere bs h a four fits x 0 xm am ne (omega arith) ∙ ap (λ n. get_or bs n 0) (omega arith) in
    let g1 = elsewhere bs h a four fits x 1 xm am ne (omega arith) in
    let g2 = elsewhere bs h a four fits x 2 xm am ne (omega arith) in
    let g3 = elsewhere bs h a four fits x 3 xm am ne (omega arith) in
    λ i. word_of (g0 i) (g1 i) (g2 i) (g3 i)

-- the word put in is the one that stands there
pub read_back : (bs : List ℕ) (a w : ℕ) → a + 4 ≤ length bs → w < 2 ^ 32 → big_endian (with_word bs a w) a ≡ w
read_back bs a w fits small =
    let g0 : get_or (with_word bs a w) a 0 ≡ get_or (bytes_of w) 0 0 = ap (λ n. get_or (with_word bs a w) n 0) (omega arith) ∙ inside_word bs (bytes_of w) a refl fits 0 (omega arith) in
    let g1 = inside_word bs (bytes_of w) a refl fits 1 (omega arith) in
    let g2 = inside_word bs (bytes_of w) a refl fits 2 (omega arith) in
    let g3 = inside_word bs (bytes_of w) a refl fits 3 (omega arith) in
    (λ i. word_of (g0 i) (g1 i) (g2 i) (g3 i)) ∙ word_of_bytes w small

-- what an index tells of its address
by_tests : (t u : Bool) (a at : ℕ) → cond t (cond u (Ok a) (refuse {T = ℕ} NoWord a)) (refuse Misaligned a) ≡ Ok at → (at ≡ a) × (t ≡ true) × (u ≡ true)
by_tests true true a at e = (cc, refl, refl)
by_tests true false a at e = let z : ◌≡◌ {A = ℕ} 0 1 = cc in absurd (omega arith)
by_tests false u a at e = let z : ◌≡◌ {A = ℕ} 0 1 = cc in absurd (omega arith)

pub placed_ok : (n a at : ℕ) → placed n a ≡ Ok at → (at ≡ a) × (aligned a ≡ true) × (inside n a ≡ true)
placed_ok n a at e = by_tests (aligned a) (inside n a) a at e

-- the map after a word is put in at a
module _ (bs : List ℕ) (a w : ℕ) (small : w < 2 ^ 32) (al : aligned a ≡ true) (ins : inside (length bs) a ≡ true) where
  fits : a + 4 ≤ length bs
  fits = leb-true (a + 4) (length bs) (and_parts (leb (a + 4) (length bs)) (ltb a (2 ^ 32)) ins).0

  same_length : length (with_word bs a w) ≡ length bs
  same_length = length_with bs (bytes_of w) a refl fits

  -- at a word address, by whether it is a
  at_word : (x : ℕ) (t : Bool) → eqb x a ≡ t → aligned x ≡ true → cond (inside (length (with_word bs a w)) x) (Some (big_endian (with_word bs a w) x)) None ≡ cond t (Some w) (cond (inside (length bs) x) (Some (big_endian bs x)) None)
  at_word x true e xl = let same : x ≡ a = eqb-true x a e in rw (same, same_length, ins) (ap (λ v. Some v) (read_back bs a w fits small))
  at_word x false e xl = rw (same_length, stands bs (bytes_of w) a x refl fits (eqb-true (x % 4) 0 xl) (eqb-true (a % 4) 0 al) (eqb-false x a e)) refl

  map_at : (x : ℕ) (t : Bool) → aligned x ≡ t → word_in (with_word bs a w) x ≡ cond (eqb x a) (Some w) (word_in bs x)
  map_at x true e = rw e (at_word x (eqb x a) refl e)
  map_at x false e = rw (e, ne_eqb x a (λ same. true≢false (sym al ∙ ap aligned (sym same) ∙ e))) refl

  map_is : ram (with_word bs a w) ≡ stored (ram bs) a w
  map_is = (λ i. record { word = λ x. map_at x (aligned x) refl i; storable = λ _. true }) ∙ rw (al, ins) refl

-- what a poke that finds its index leaves of the map
pub stored_at : (bs : List ℕ) (a at w : ℕ) → w < 2 ^ 32 → placed (length bs) a ≡ Ok at → ram (with_word bs at w) ≡ stored (ram bs) a w
stored_at bs a at w small ok = let p = placed_ok (length bs) a at ok in rw p.0 (map_is bs a w small p.1 p.2)

-- what a write of the part a to a + 3 puts in, where that holds the bytes of w
pub put : (bs part : List ℕ) (a w : ℕ) → {h : List ℕ} → h ≡ bytes_of w → part ≡ h → put_mid a (a + 4 - a) bs part ≡ with_word bs a w
put bs part a w holds copied = (λ i. take a bs ++ ((copied ∙ holds) i ++ Post-is a (a + 4) bs (omega arith) i))

-- the bytes that a poke leaves of one make, as a pile
pub lent_left : (r : Result (Unit {0}) BusFault) (n : ℕ) (bs : List ℕ) (a w : ℕ) → Lent n (bytes_left r bs a w) ≡ pile_left r (Lent n bs) (Here a) w
lent_left (Ok u) n bs a w = refl
lent_left (Err f) n bs a w = refl
