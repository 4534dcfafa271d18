-- The fields of a control register, the index, and the codes of groups. Assumes nothing.
use Rattle.std.specs.Prelude.{ℕ, ◌+◌, ◌*◌, ◌/◌, ◌%◌, ◌^◌, Bool, cond}
use Rattle.tlb.specs.Bits.{field, flag}

abbrev pub group_mode : ℕ → Bool
group_mode ctr = flag 0 ctr

abbrev pub default_inhibit : ℕ → Bool
default_inhibit ctr = flag 2 ctr

-- of a data control register only
abbrev pub default_through : ℕ → Bool
default_through ctr = flag 3 ctr

abbrev pub reserve : ℕ → Bool
reserve ctr = flag 4 ctr

abbrev pub index_of : ℕ → ℕ
index_of ctr = field 19 23 ctr

-- a control register with another index
unfoldable pub with_index : ℕ → ℕ → ℕ
with_index i ctr = ctr / 2 ^ 13 * 2 ^ 13 + i * 2 ^ 8 + ctr % 2 ^ 8

-- how many slots are not reserved: under the reserve bit the last four are
abbrev pub unreserved : Bool → ℕ
unreserved reserved = cond reserved 28 32

-- where the index goes after a load: down by one, round 32 slots or, under the reserve bit, round the first 28
abbrev pub next_index : Bool → ℕ → ℕ
next_index reserved i = cond reserved ((i + 27) % 28) ((i + 31) % 32)

-- the code of group g: bits 2g and 2g + 1 of AP; a group is a number below 16
abbrev pub code_of : ℕ → ℕ → ℕ
code_of ap group = field (2 * (group % 16)) (2 * (group % 16) + 1) ap
