-- Lives: a start and a list of requests. Assumes nothing.
use Rattle.std.specs.Prelude.{List, [], ◌∷◌, ◌++◌}
use Rattle.board.specs.Memory.{Meaning}
use Rattle.tlb.specs.declared.register.Kind.{Kind}
use Rattle.twin.specs.Call.{Outcome, outcome}
use Rattle.twin.specs.Load.{Event}
use Rattle.twin.specs.Unit.{Page, new_unit}
use Rattle.twin.specs.declared.request.Reply.{Reply}
use Rattle.twin.specs.declared.request.Request.{Request}
use Rattle.twin.specs.declared.unit.Mmu.{Mmu}

pub record State : Type 0 where
  pub unit : Mmu
  pub memory : Meaning

abbrev pub state_of : Mmu → Meaning → State
state_of u m = record { unit = u; memory = m }

-- a new unit over any memory
abbrev pub begin : Meaning → State
begin m = record { unit = new_unit; memory = m }

abbrev pub step : Request → State → Outcome
step r s = outcome r s.unit s.memory

abbrev pub next : Request → State → State
next r s = record { unit = (step r s).unit; memory = (step r s).memory }

-- the state that a list of requests leaves
abbrev pub after : State → List Request → State
after s [] = s
after s (r ∷ rs) = after (next r s) rs

abbrev pub replies : State → List Request → List Reply
replies s [] = []
replies s (r ∷ rs) = (step r s).reply ∷ replies (next r s) rs

-- what happened to a kind's slots, the newest first: the rules make it of the requests
abbrev pub history : (k : Kind) → State → List Request → List (Event (Page k))
history k s [] = []
history k s (r ∷ rs) = history k (next r s) rs ++ (step r s).events k
