-- A call's canonical form reads back as that call. Assumes nothing.
use Rattle.std.proofs.Common.{rules, ◌≡◌, ℕ, zero, suc, ◌+◌, ◌-◌, ◌*◌, ◌/◌, ◌%◌, ◌^◌, ◌<◌, Bool, true, false, cond, eqb, ltb, List, [], ◌∷◌, ◌++◌, length, get_or, take, Some, None, codes, Option, refl, ap, ◌∙◌, arith}
use Rattle.std.proofs.lemmas.Nat.{shr-shr}
use Rattle.std.proofs.lemmas.List.{length-append, get_or_at, take_at}
use Rattle.std.proofs.lemmas.Bool.{lt-ltb, ne_eqb}
use Rattle.std.proofs.lemmas.Bool.Decides.{nat_tests}
use Rattle.calls.specs.declared.call.Call.{Call}
use Rattle.calls.specs.declared.call.Call.TheVariants.{Poke, Peek, Write, Read, Mode, Access, Resolve, Drop, DropAll, Tally}
use Rattle.calls.specs.Canonical.{spaced, flag_word}
use Rattle.text.specs.Law.{ReadsBack}
use Rattle.script.specs.Form.{with_rest, then, number_next, value_next, flag_next, flags, call_next, ended, body_of, form_of, line_of}
use Rattle.script.specs.Number.{digit_value, read_on, small, number_of}
use Rattle.script.specs.Pieces.{before, split}
use Rattle.calls.specs.Hex.{glyph, nibbles, eight}

-- no byte is the separator
abbrev Whole : List ℕ → Type 0
Whole [] = Unit {0}
Whole (b ∷ bs) = (b ≡ 32 → ⊥) × Whole bs

abbrev AllWhole : List (List ℕ) → Type 0
AllWhole [] = Unit {0}
AllWhole (w ∷ ws) = Whole w × AllWhole ws

split_word : (w : List ℕ) → Whole w → split 32 w ≡ w ∷ []
split_word [] h = refl
split_word (b ∷ bs) h = ap (λ t. cond t ([] ∷ split 32 bs) (before (b ∷ []) (split 32 bs))) (ne_eqb b 32 h.0) ∙ ap (before (b ∷ [])) (split_word bs h.1)

split_front : (w rest : List ℕ) → Whole w → split 32 (w ++ (32 ∷ rest)) ≡ w ∷ split 32 rest
split_front [] rest h = refl
split_front (b ∷ bs) rest h =
    ap (λ t. cond t ([] ∷ split 32 (bs ++ (32 ∷ rest))) (before (b ∷ []) (split 32 (bs ++ (32 ∷ rest))))) (ne_eqb b 32 h.0)
    ∙ ap (before (b ∷ [])) (split_front bs rest h.1)

-- words joined by spaces are cut into those words
split_spaced : (w : List ℕ) (ws : List (List ℕ)) → AllWhole (w ∷ ws) → split 32 (spaced (w ∷ ws)) ≡ w ∷ ws
split_spaced w [] h = split_word w h.0
split_spaced w (v ∷ ws) h = split_front w (spaced (v ∷ ws)) h.0 ∙ ap (λ l. w ∷ l) (split_spaced v ws h.1)

body_between : (xs : List ℕ) → body_of (40 ∷ (xs ++ 41 ∷ [])) ≡ Some xs
body_between xs =
    let last : length (xs ++ 41 ∷ []) - 1 ≡ length xs = omega (arith, length-append xs (41 ∷ [])) in
    (λ i. cond (eqb (get_or (xs ++ 41 ∷ []) (last i) 0) 41) (Some (take (last i) (xs ++ 41 ∷ []))) None)
    ∙ (λ i. cond (eqb (get_or_at xs 41 [] 0 (length xs) refl i) 41) (Some (take_at xs (41 ∷ []) (length xs) refl i)) None)

glyph_whole : (n : ℕ) → glyph n ≡ 32 → ⊥
glyph_whole n e = grind (arith, nat_tests)

digit_glyph : (n : ℕ) → n < 16 → digit_value (glyph n) ≡ n
digit_glyph n h = grind (arith, nat_tests)

glyph_read : (n x : ℕ) (ds : List ℕ) → x < 16 → read_on 16 n (glyph x ∷ ds) ≡ read_on 16 (n * 16 + x) ds
glyph_read n x ds h =
    ap (λ d. cond (ltb d 16) (read_on 16 (n * 16 + d) ds) None) (digit_glyph x h)
    ∙ ap (λ t. cond t (read_on 16 (n * 16 + x) ds) None) (lt-ltb x 16 h)

-- the digits of a, from the highest on, read as a
nibble : (a k n : ℕ) (ds : List ℕ) → n ≡ a / 2 ^ (k + 4) → read_on 16 n (glyph (a / 2 ^ k % 16) ∷ ds) ≡ read_on 16 (a / 2 ^ k) ds
nibble a k n ds e = glyph_read n (a / 2 ^ k % 16) ds (omega arith) ∙ ap (λ m. read_on 16 m ds) (omega (arith, shr-shr a k 4))

read_nibbles : (a k n : ℕ) → n ≡ a / 2 ^ (4 * k) → read_on 16 n (nibbles k a) ≡ Some a
read_nibbles a zero n e = ap (λ m. Some m) (omega arith)
read_nibbles a (suc k) n e =
    let next : 4 * suc k ≡ 4 * k + 4 = omega arith in
    nibble a (4 * k) n (nibbles k a) (e ∙ ap (λ j. a / 2 ^ j) next) ∙ read_nibbles a k (a / 2 ^ (4 * k)) refl

number_eight : (a : ℕ) → a < 2 ^ 32 → number_of (eight a) ≡ Some a
number_eight a h = ap small (read_nibbles a 8 0 (omega arith)) ∙ ap (λ t. cond t (Some a) None) (lt-ltb a (2 ^ 32) h)

nibbles_whole : (k a : ℕ) → Whole (nibbles k a)
nibbles_whole zero a = tt
nibbles_whole (suc k) a = (glyph_whole (a / 2 ^ (4 * k) % 16), nibbles_whole k a)

eight_whole : (a : ℕ) → Whole (eight a)
eight_whole a = search (rules, nibbles_whole)

flag_whole : (b : Bool) → Whole (flag_word b)
flag_whole b = search rules

-- a line of words reads as those words do
from_words : (w : List ℕ) (ws : List (List ℕ)) → AllWhole (w ∷ ws) → line_of (40 ∷ (spaced (w ∷ ws) ++ 41 ∷ [])) ≡ then (call_next (w ∷ ws)) ended
from_words w ws h = ap form_of (body_between (spaced (w ∷ ws))) ∙ ap (λ l. then (call_next l) ended) (split_spaced w ws h)

module _ (name : List ℕ) (whole : Whole name) where
  one_reads : (a : ℕ) → line_of (40 ∷ (spaced (name ∷ eight a ∷ []) ++ 41 ∷ [])) ≡ then (call_next (name ∷ eight a ∷ [])) ended
  one_reads a = from_words name (eight a ∷ []) (whole, (eight_whole a, tt))

  two_read : (a b : ℕ) → line_of (40 ∷ (spaced (name ∷ eight a ∷ eight b ∷ []) ++ 41 ∷ [])) ≡ then (call_next (name ∷ eight a ∷ eight b ∷ [])) ended
  two_read a b = from_words name (eight a ∷ eight b ∷ []) (whole, (eight_whole a, (eight_whole b, tt)))

-- from two numbers that are read, the second by itself or as a value, to the call that is made of them
module _ (next : List (List ℕ) → Option (ℕ × List (List ℕ))) (same : (w : ℕ) → next (eight w ∷ []) ≡ with_rest (number_of (eight w)) []) where
  both_read : (f : ℕ → ℕ → Call) (a b : ℕ) → a < 2 ^ 32 → b < 2 ^ 32 → then (then (number_next (eight a ∷ eight b ∷ [])) (λ n ws. then (next ws) (λ m rest. Some (f n m, rest)))) ended ≡ Some (f a b)
  both_read f a b ha hb =
      ap (λ o. then (then (with_rest o (eight b ∷ [])) (λ n ws. then (next ws) (λ m rest. Some (f n m, rest)))) ended) (number_eight a ha)
      ∙ ap (λ o. then (then o (λ m rest. Some (f a m, rest))) ended) (same b ∙ ap (λ o. with_rest o []) (number_eight b hb))

flag_read : (b : Bool) (ws : List (List ℕ)) → flag_next (flag_word b ∷ ws) ≡ Some (b, ws)
flag_read true ws = refl
flag_read false ws = refl

flags_read : (p i d : Bool) → flags Mode (flag_word p ∷ flag_word i ∷ flag_word d ∷ []) ≡ Some (Mode p i d, [])
flags_read p i d =
    ap (λ o. then o (λ x ws. then (flag_next ws) (λ y vs. then (flag_next vs) (λ z rest. Some (Mode x y z, rest))))) (flag_read p (flag_word i ∷ flag_word d ∷ []))
    ∙ ap (λ o. then o (λ y vs. then (flag_next vs) (λ z rest. Some (Mode p y z, rest)))) (flag_read i (flag_word d ∷ []))
    ∙ ap (λ o. then o (λ z rest. Some (Mode p i z, rest))) (flag_read d [])

pub reads_back : ReadsBack
reads_back (Poke a w) h = two_read (codes "poke") (search rules) a w ∙ both_read value_next (λ _. refl) Poke a w h.0 h.1
reads_back (Peek a) h = one_reads (codes "peek") (search rules) a ∙ ap (λ o. then (then (with_rest o []) (λ n rest. Some (Peek n, rest))) ended) (number_eight a h)
reads_back (Write n w) h = two_read (codes "write") (search rules) n w ∙ both_read value_next (λ _. refl) Write n w h.0 h.1
reads_back (Read n) h = one_reads (codes "read") (search rules) n ∙ ap (λ o. then (then (with_rest o []) (λ m rest. Some (Read m, rest))) ended) (number_eight n h)
reads_back (Mode p i d) h =
    from_words (codes "mode") (flag_word p ∷ flag_word i ∷ flag_word d ∷ []) (search rules, (flag_whole p, (flag_whole i, (flag_whole d, tt))))
    ∙ ap (λ o. then o ended) (flags_read p i d)
reads_back (Access k e) h = two_read (codes "access") (search rules) k e ∙ both_read number_next (λ _. refl) Access k e h.0 h.1
reads_back (Resolve k e) h = two_read (codes "resolve") (search rules) k e ∙ both_read number_next (λ _. refl) Resolve k e h.0 h.1
reads_back (Drop e) h = one_reads (codes "drop") (search rules) e ∙ ap (λ o. then (then (with_rest o []) (λ n rest. Some (Drop n, rest))) ended) (number_eight e h)
reads_back DropAll h = from_words (codes "dropall") [] (search rules, tt)
reads_back Tally h = from_words (codes "tally") [] (search rules, tt)
