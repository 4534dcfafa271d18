-- The canonical form of a call: its words with one space between two, in brackets. Assumes nothing.
use Rattle.std.specs.Prelude.{ℕ, ◌+◌, Bool, List, [], ◌∷◌, ◌++◌, codes}
use mir.Val.{bool_byte}
use Rattle.calls.specs.declared.call.Call.{Call}
use Rattle.calls.specs.declared.call.Call.TheVariants.{Poke, Peek, Write, Read, Mode, Access, Resolve, Drop, DropAll, Tally}
use Rattle.calls.specs.Hex.{eight}

abbrev pub spaced : List (List ℕ) → List ℕ
spaced [] = []
spaced (w ∷ []) = w
spaced (w ∷ v ∷ ws) = w ++ (32 ∷ spaced (v ∷ ws))

-- a flag is one digit
abbrev pub flag_word : Bool → List ℕ
flag_word b = (48 + bool_byte b) ∷ []

-- a number is 0x and eight digits
abbrev pub words_of : Call → List (List ℕ)
words_of (Poke a w) = codes "poke" ∷ eight a ∷ eight w ∷ []
words_of (Peek a) = codes "peek" ∷ eight a ∷ []
words_of (Write n w) = codes "write" ∷ eight n ∷ eight w ∷ []
words_of (Read n) = codes "read" ∷ eight n ∷ []
words_of (Mode p i d) = codes "mode" ∷ flag_word p ∷ flag_word i ∷ flag_word d ∷ []
words_of (Access k e) = codes "access" ∷ eight k ∷ eight e ∷ []
words_of (Resolve k e) = codes "resolve" ∷ eight k ∷ eight e ∷ []
words_of (Drop e) = codes "drop" ∷ eight e ∷ []
words_of DropAll = codes "dropall" ∷ []
words_of Tally = codes "tally" ∷ []

abbrev pub bracketed_text : List (List ℕ) → List ℕ
bracketed_text ws = 40 ∷ (spaced ws ++ 41 ∷ [])

abbrev pub canonical : Call → List ℕ
canonical c = bracketed_text (words_of c)
