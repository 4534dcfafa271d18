-- What every reply tells: its number, if it is a fault, and its values. Assumes nothing.
use Rattle.std.specs.Prelude.{ℕ, List, [], ◌∷◌, Some, None, Option}
use mir.Val.{bool_byte}
use Rattle.calls.specs.Fault.{figures_of}
use Rattle.calls.specs.declared.answer.Answer.{Answer}
use Rattle.calls.specs.declared.answer.Answer.TheVariants.{Done, Value, Miss, Granted, Refused}
use Rattle.tlb.specs.Page.{bytes_in}
use Rattle.tlb.specs.declared.page.Common.{Common}
use Rattle.twin.specs.declared.look.Seen.TheVariants as seens
use Rattle.twin.specs.declared.request.Reply.{Reply}
use Rattle.twin.specs.declared.request.Reply.TheVariants as replies

pub record Tells : Type 0 where
  pub number : Option ℕ
  pub values : List ℕ

-- size in bytes, first address, base, group, guarded, rights, shared, cache inhibit, valid
abbrev pub common_values : Common → List ℕ → List ℕ
common_values c more =
    bytes_in c.size ∷ c.first ∷ c.base ∷ c.group ∷ bool_byte c.guarded ∷ c.rights ∷ bool_byte c.shared
    ∷ bool_byte c.cache_inhibit ∷ bool_byte c.valid ∷ more

-- a fault by its number, level and place (its number tells the layer); a grant by its five values; an entry by live, space
-- and page, a data page with write-through and changed
abbrev pub answer_tells : Answer → Tells
answer_tells Done = record { number = None; values = [] }
answer_tells (Value w) = record { number = None; values = w ∷ [] }
answer_tells Miss = record { number = None; values = [] }
answer_tells (Granted g) = record { number = None; values = g.address ∷ g.size ∷ bool_byte g.cache_inhibit ∷ bool_byte g.write_through ∷ bool_byte g.guarded ∷ [] }
answer_tells (Refused f) = record { number = Some (figures_of f).number; values = (figures_of f).level ∷ (figures_of f).place ∷ [] }

abbrev pub tells : Reply → Tells
tells (replies.Answer a) = answer_tells a
tells (replies.Saw (seens.Instruction x)) = record { number = None; values = bool_byte x.live ∷ x.space ∷ common_values x.page.common [] }
tells (replies.Saw (seens.Data x)) = record { number = None; values = bool_byte x.live ∷ x.space ∷ common_values x.page.common (bool_byte x.page.write_through ∷ bool_byte x.page.changed ∷ []) }
