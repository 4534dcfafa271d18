-- Loads, drops and misses: what they make of one kind's half. Assumes nothing.
use Rattle.std.specs.Prelude.{ℕ, ◌+◌, Bool, true, false, cond, ◌&&◌, List, ◌++◌, map, take, drop, bit_and, nat_le, slice_set}
use Rattle.tlb.specs.Control.{index_of, with_index, next_index, reserve}
use Rattle.tlb.specs.Entry.{entry_of}
use Rattle.tlb.specs.Page.{contains}
use Rattle.tlb.specs.declared.entry.Entry.{Entry}
use Rattle.tlb.specs.Shape.{Shape}
use Rattle.twin.specs.declared.unit.Half.{Half}

-- what happens to a kind's slots: a load (its slot, and the entry that fills it), a drop of an address, a drop of all,
-- which spares slots 28 to 31 or not
pub data Event (P : Type 0) : Type 0 where
  Loaded : ℕ → Entry P → Event P
  Dropped : ℕ → Event P
  DroppedAll : Bool → Event P

-- a drop of all spares slot i
abbrev pub spares : Bool → ℕ → Bool
spares reserved i = reserved && nat_le 28 i

-- a miss of e sets EPN: bits 0 to 19 of e, bit 22, and the current space
unfoldable pub missed_epn : ℕ → ℕ → ℕ
missed_epn e space = bit_and e 0xfffff000 + 0x200 + space

module _ {P : Type 0} where
  -- an entry that is no longer live keeps its space and page
  abbrev pub ended : Entry P → Entry P
  ended x = record { live = false; space = x.space; page = x.page }

  abbrev pub with_slots : List (Entry P) → Half P → Half P
  with_slots xs h = record { registers = h.registers; slots = xs }

  -- the first 28 slots are ended, the last four if they are not spared
  abbrev pub all_ended : Bool → List (Entry P) → List (Entry P)
  all_ended true xs = map ended (take 28 xs) ++ drop 28 xs
  all_ended false xs = map ended xs

  abbrev pub drop_all_half : Half P → Half P
  drop_all_half h = with_slots (all_ended (reserve h.registers.ctr) h.slots) h

  abbrev pub with_epn : ℕ → Half P → Half P
  with_epn epn h = record { registers = record { ctr = h.registers.ctr; ap = h.registers.ap; epn = epn; twc = h.registers.twc; rpn = h.registers.rpn }; slots = h.slots }

  abbrev pub with_twc : ℕ → Half P → Half P
  with_twc twc h = record { registers = record { ctr = h.registers.ctr; ap = h.registers.ap; epn = h.registers.epn; twc = twc; rpn = h.registers.rpn }; slots = h.slots }

  abbrev pub missed : ℕ → ℕ → Half P → Half P
  missed e space h = with_epn (missed_epn e space) h

  module _ (s : Shape P) where
    -- a drop of a ends an entry whose page contains a
    abbrev pub dropped : ℕ → Entry P → Entry P
    dropped a x = cond (contains (s.body x.page) a) (ended x) x

    abbrev pub drop_half : ℕ → Half P → Half P
    drop_half a h = with_slots (map (dropped a) h.slots) h

    -- the entry that a load of w makes
    abbrev pub loaded_entry : ℕ → Half P → Entry P
    loaded_entry w h = entry_of s.made h.registers.epn h.registers.twc w

    -- a load of w: the slot at the index is filled, and the index counts down
    abbrev pub loaded : ℕ → Half P → Half P
    loaded w h = record {
      registers = record {
        ctr = with_index (next_index (reserve h.registers.ctr) (index_of h.registers.ctr)) h.registers.ctr;
        ap = h.registers.ap;
        epn = h.registers.epn;
        twc = h.registers.twc;
        rpn = w;
      };
      slots = slice_set h.slots (index_of h.registers.ctr) (loaded_entry w h);
    }

    abbrev pub load_event : ℕ → Half P → Event P
    load_event w h = Loaded (index_of h.registers.ctr) (loaded_entry w h)
