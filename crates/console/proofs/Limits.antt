-- How much of a script has to be read. Assumes nothing.
use Rattle.std.proofs.Common.{◌≡◌, ℕ, ◌+◌, ◌<◌, ◌≤◌, cond, nat_le, Bool, true, false, List, [], ◌∷◌, length, take, refl, sym, ap, ◌∙◌, arith}
use Rattle.std.proofs.lemmas.List.{take_all, length-take-le}
use Rattle.std.proofs.lemmas.Bool.{cond-false}
use Rattle.std.proofs.lemmas.Bool.Decides.{nat_tests}
use Rattle.script.specs.declared.line.Line.{Line}
use Rattle.script.specs.Pieces.{split}
use Rattle.script.specs.Reader.{readings, script_of, too_long}

-- what a script reads as where the longest has n bytes
abbrev read_up_to : ℕ → List ℕ → List Line
read_up_to n bs = cond (nat_le (length bs) n) (readings 1 (split 10 bs)) (too_long ∷ [])

one_more : (n : ℕ) (bs : List ℕ) (fits : Bool) → nat_le (length bs) n ≡ fits → read_up_to n (take (n + 1) bs) ≡ read_up_to n bs
one_more n bs true e = let h : length bs ≤ n = grind (arith, nat_tests) in ap (read_up_to n) (take_all (n + 1) bs (omega arith))
one_more n bs false e =
    let h : n < length bs = grind (arith, nat_tests) in
    let len : length (take (n + 1) bs) ≡ n + 1 = length-take-le (n + 1) bs (omega arith) in
    let longer : nat_le (length (take (n + 1) bs)) n ≡ false = grind (arith, nat_tests) in
    cond-false _ _ _ longer ∙ sym (cond-false _ _ _ e)

-- one byte more than the longest script tells whether there is more
pub enough_read : (bs : List ℕ) → script_of (take 65537 bs) ≡ script_of bs
enough_read bs = one_more 65536 bs (nat_le (length bs) 65536) refl
