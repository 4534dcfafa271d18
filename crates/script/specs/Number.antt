-- Numbers as a script writes them. Assumes nothing.
use Rattle.std.specs.Prelude.{ℕ, ◌+◌, ◌-◌, ◌*◌, ◌^◌, Bool, cond, ◌&&◌, List, [], ◌∷◌, drop, Some, None, Option, ◌==◌, nat_le, nat_lt, slice_index}
use Rattle.script.specs.declared.number.Base.{Base}
use Rattle.script.specs.declared.number.Base.TheVariants.{Decimal, Hexadecimal}

-- the base of a number by how it is written
abbrev pub base_of : Base → ℕ
base_of Decimal = 10
base_of Hexadecimal = 16

-- what a digit counts: 0 to 9, a to f in lower case; 16 is no digit
abbrev pub digit_value : ℕ → ℕ
digit_value b = cond (nat_le 48 b && nat_le b 57) (b - 48) (cond (nat_le 97 b && nat_le b 102) (b - 97 + 10) 16)

-- what a byte counts as a digit of the base, if it is one
abbrev pub counted : ℕ → ℕ → Option ℕ
counted base n = cond (nat_lt n base) (Some n) None

abbrev pub digit_of : ℕ → ℕ → Option ℕ
digit_of base b = cond (nat_le 48 b && nat_le b 57) (counted base (b - 48)) (cond (nat_le 97 b && nat_le b 102) (counted base (b - 97 + 10)) None)

-- the digits read on from n, if all are digits of the base
abbrev pub read_on : ℕ → ℕ → List ℕ → Option ℕ
read_on base n [] = Some n
read_on base n (b ∷ bs) = cond (nat_lt (digit_value b) base) (read_on base (n * base + digit_value b) bs) None

-- a number is below 2^32
abbrev pub small : Option ℕ → Option ℕ
small None = None
small (Some n) = cond (nat_lt n (2 ^ 32)) (Some n) None

-- one digit or more
abbrev pub numeral : ℕ → List ℕ → Option ℕ
numeral base [] = None
numeral base (b ∷ bs) = small (read_on base 0 (b ∷ bs))

-- the word begins with 0x
abbrev pub prefixed : List ℕ → Bool
prefixed w = slice_index w 0 == 48 && slice_index w 1 == 120

abbrev pub number_of : List ℕ → Option ℕ
number_of w = cond (prefixed w) (numeral 16 (drop 2 w)) (numeral 10 w)
