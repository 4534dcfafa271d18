-- The forms of the language. A form is read word by word: what is read next, and the words behind it. Assumes nothing.
use Rattle.std.specs.Prelude.{ℕ, ◌+◌, ◌-◌, ◌*◌, ◌%◌, Bool, true, false, cond, ◌&&◌, List, [], ◌∷◌, length, take, drop, Some, None, codes, Option, ◌==◌, nat_le, slice_index}
use Rattle.std.specs.Str.{bytes_eq}
use Rattle.calls.specs.declared.call.Call.{Call}
use Rattle.calls.specs.declared.call.Call.TheVariants.{Poke, Peek, Write, Read, Mode, Access, Resolve, Drop, DropAll, Tally}
use Rattle.script.specs.declared.name.Name.{Name}
use Rattle.script.specs.declared.name.Name.TheVariants as names
use Rattle.script.specs.Name.{name_of}
use Rattle.script.specs.Number.{number_of}
use Rattle.script.specs.Pieces.{split}

abbrev pub Words : Type 0
Words = List (List ℕ)

module _ {X : Type 0} where
  -- what a word gave, if anything, and the words behind it
  abbrev pub with_rest : Option X → Words → Option (X × Words)
  with_rest None ws = None
  with_rest (Some x) ws = Some (x, ws)

  -- goes on with what was read and the words behind it
  abbrev pub then : {Y : Type 0} → Option (X × Words) → (X → Words → Option Y) → Option Y
  then None k = None
  then (Some p) k = k p.0 p.1

-- the bytes before a closing bracket at the end
abbrev pub closed_part : List ℕ → Option (List ℕ)
closed_part bs = cond (slice_index bs (length bs - 1) == 41) (Some (take (length bs - 1) bs)) None

abbrev pub closed_number : Option (List ℕ) → Option ℕ
closed_number None = None
closed_number (Some bs) = number_of bs

abbrev pub number_next : Words → Option (ℕ × Words)
number_next [] = None
number_next (w ∷ ws) = with_rest (number_of w) ws

-- a number with a closing bracket behind it
abbrev pub closing_next : Words → Option (ℕ × Words)
closing_next [] = None
closing_next (w ∷ ws) = with_rest (closed_number (closed_part w)) ws

-- 0 or 1
abbrev pub flag_of : ℕ → Option Bool
flag_of n = cond (n == 0) (Some false) (cond (n == 1) (Some true) None)

abbrev pub flag_next : Words → Option (Bool × Words)
flag_next ws = then (number_next ws) (λ n rest. with_rest (flag_of n) rest)

-- (seg B g s) is B + 32 g + 4 s + 1, with B a multiple of 4096, g at most 15, s at most 3
abbrev pub segment_of : ℕ → ℕ → ℕ → Option ℕ
segment_of b g s = cond (b % 4096 == 0 && (nat_le g 15 && nat_le s 3)) (Some (b + 32 * g + 4 * s + 1)) None

abbrev pub segment_next : Words → Option (ℕ × Words)
segment_next ws = then (number_next ws) (λ b ws1. then (number_next ws1) (λ g ws2. then (closing_next ws2) (λ s ws3. with_rest (segment_of b g s) ws3)))

-- (page B r) is B + r, with B a multiple of 4096, r at most 4095
abbrev pub page_of : ℕ → ℕ → Option ℕ
page_of b r = cond (b % 4096 == 0 && nat_le r 4095) (Some (b + r)) None

abbrev pub page_next : Words → Option (ℕ × Words)
page_next ws = then (number_next ws) (λ b ws1. then (closing_next ws1) (λ r ws2. with_rest (page_of b r) ws2))

-- a number or one of the two
abbrev pub value_next : Words → Option (ℕ × Words)
value_next [] = None
value_next (w ∷ ws) = cond (bytes_eq w (codes "(seg")) (segment_next ws) (cond (bytes_eq w (codes "(page")) (page_next ws) (with_rest (number_of w) ws))

-- one number; two numbers; a number and a value; three flags
abbrev pub one : (ℕ → Call) → Words → Option (Call × Words)
one f ws = then (number_next ws) (λ a rest. Some (f a, rest))

abbrev pub two : (ℕ → ℕ → Call) → Words → Option (Call × Words)
two f ws = then (number_next ws) (λ a ws1. then (number_next ws1) (λ b rest. Some (f a b, rest)))

abbrev pub with_value : (ℕ → ℕ → Call) → Words → Option (Call × Words)
with_value f ws = then (number_next ws) (λ a ws1. then (value_next ws1) (λ w rest. Some (f a w, rest)))

abbrev pub flags : (Bool → Bool → Bool → Call) → Words → Option (Call × Words)
flags f ws = then (flag_next ws) (λ p ws1. then (flag_next ws1) (λ i ws2. then (flag_next ws2) (λ d rest. Some (f p i d, rest))))

-- what follows each name
abbrev pub operands_of : Name → Words → Option (Call × Words)
operands_of names.Poke ws = with_value Poke ws
operands_of names.Peek ws = one Peek ws
operands_of names.Write ws = with_value Write ws
operands_of names.Read ws = one Read ws
operands_of names.Mode ws = flags Mode ws
operands_of names.Access ws = two Access ws
operands_of names.Resolve ws = two Resolve ws
operands_of names.Drop ws = one Drop ws
operands_of names.DropAll ws = Some (DropAll, ws)
operands_of names.Tally ws = Some (Tally, ws)

abbrev pub named : Option Name → Words → Option (Call × Words)
named None ws = None
named (Some name) ws = operands_of name ws

abbrev pub call_next : Words → Option (Call × Words)
call_next [] = None
call_next (w ∷ ws) = named (name_of w) ws

-- a form has no words beyond its own
abbrev pub ended : Call → Words → Option Call
ended c [] = Some c
ended c (w ∷ ws) = None

-- words are parted by one space each
abbrev pub form_of : Option (List ℕ) → Option Call
form_of None = None
form_of (Some body) = then (call_next (split 32 body)) ended

-- what stands between a line's brackets
abbrev pub body_of : List ℕ → Option (List ℕ)
body_of bs = cond (slice_index bs 0 == 40) (closed_part (drop 1 bs)) None

-- what a line reads as: a call with its numbers, or nothing
abbrev pub line_of : List ℕ → Option Call
line_of bs = form_of (body_of bs)
