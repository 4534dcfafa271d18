-- Histories of a kind: loads, and what clears them. Assumes nothing.
use Rattle.std.specs.Prelude.{◌≡◌, ℕ, ◌+◌, Bool, true, false, not, ◌||◌, List, [], ◌∷◌, ◌++◌, ◌==◌}
use Rattle.tlb.specs.Page.{contains}
use Rattle.tlb.specs.declared.entry.Entry.{Entry}
use Rattle.twin.specs.Load.{Event, Loaded, Dropped, DroppedAll, spares}
use Rattle.tlb.specs.Shape.{Shape}

module _ {P : Type 0} where
  -- a load somewhere in a history: what came later, its slot and entry, what came before
  pub record LoadIn (past : List (Event P)) : Type 0 where
    pub later : List (Event P)
    pub slot : ℕ
    pub entry : Entry P
    pub earlier : List (Event P)
    pub whole : past ≡ later ++ (Loaded slot entry ∷ earlier)

  -- an event that fills slot i again
  abbrev pub refills : ℕ → Event P → Bool
  refills i (Loaded j x) = i == j
  refills i (Dropped a) = false
  refills i (DroppedAll reserved) = false

  -- some event fills slot i again
  abbrev pub refilled : ℕ → List (Event P) → Bool
  refilled i [] = false
  refilled i (v ∷ vs) = refills i v || refilled i vs

  -- how many loads there are
  abbrev pub loads_in : List (Event P) → ℕ
  loads_in [] = 0
  loads_in (Loaded j x ∷ vs) = loads_in vs + 1
  loads_in (Dropped a ∷ vs) = loads_in vs
  loads_in (DroppedAll reserved ∷ vs) = loads_in vs

  module _ (s : Shape P) where
    -- an event that clears a load of page p into slot i: a drop in its page, or a drop of all that does not spare its slot
    abbrev pub clears : ℕ → P → Event P → Bool
    clears i p (Loaded j x) = false
    clears i p (Dropped a) = contains (s.body p) a
    clears i p (DroppedAll reserved) = not (spares reserved i)

    abbrev pub cleared : ℕ → P → List (Event P) → Bool
    cleared i p [] = false
    cleared i p (v ∷ vs) = clears i p v || cleared i p vs

    -- an entry is shared or of that space
    abbrev pub admits : ℕ → Entry P → Bool
    admits current x = (s.body x.page).shared || x.space == current

    -- the source of what slot i answers for e: the last load into it, live, containing e, shared or of the current space,
    -- and not cleared since
    pub record Source (past : List (Event P)) (i e current : ℕ) : Type 0 where
      pub load : LoadIn past
      pub into : load.slot ≡ i
      pub last : refilled i load.later ≡ false
      pub uncleared : cleared i load.entry.page load.later ≡ false
      pub live : load.entry.live ≡ true
      pub inside : contains (s.body load.entry.page) e ≡ true
      pub admitted : admits current load.entry ≡ true

    -- an event that could take a page away: a drop inside it, or a drop of all
    abbrev pub disturbs : P → Event P → Bool
    disturbs p (Loaded j x) = false
    disturbs p (Dropped a) = contains (s.body p) a
    disturbs p (DroppedAll reserved) = true

    abbrev pub disturbed : P → List (Event P) → Bool
    disturbed p [] = false
    disturbed p (v ∷ vs) = disturbs p v || disturbed p vs
