-- A whole script. Assumes nothing.
use Rattle.std.specs.Prelude.{ℕ, ◌+◌, cond, List, [], ◌∷◌, length, Err, Option, ◌==◌, nat_le}
use Rattle.std.specs.List.{cons_option}
use Rattle.std.specs.Option.{ok_or}
use Rattle.calls.specs.declared.fault.Fault.TheVariants.{Unreadable, TooLong}
use Rattle.script.specs.declared.line.Line.{Line}
use Rattle.script.specs.Form.{line_of}
use Rattle.script.specs.Pieces.{split}

-- the longest script, in bytes
abbrev pub longest : ℕ
longest = 65536

-- a line that does not read is a fault with its number
abbrev pub line_at : ℕ → List ℕ → Line
line_at n bs = record { number = n; call = ok_or (line_of bs) (Unreadable n) }

-- what the lines read as, the first of them having number n; empty lines are skipped but counted
abbrev pub readings : ℕ → List (List ℕ) → List Line
readings n [] = []
readings n (l ∷ ls) = cond (length l == 0) (readings (n + 1) ls) (line_at n l ∷ readings (n + 1) ls)

-- what is told of a script that is too long, in the place of its lines
abbrev pub too_long : Line
too_long = record { number = 0; call = Err TooLong }

-- what a script reads as: lines end at byte 10 or the end, and count from 1
abbrev pub script_of : List ℕ → List Line
script_of bs = cond (nat_le (length bs) longest) (readings 1 (split 10 bs)) (too_long ∷ [])

-- what is still to be told: what stands before the lines, and the lines, the first of them having number n
abbrev pub upcoming : Option Line → ℕ → List (List ℕ) → List Line
upcoming pending n ls = cons_option pending (readings n ls)
