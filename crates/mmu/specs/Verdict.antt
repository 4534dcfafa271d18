-- What a page gives: the answer to an access that matches it. Assumes nothing.
use Rattle.std.specs.Prelude.{ℕ, Bool, false, cond, not, Ok, Err, Result}
use Rattle.calls.specs.declared.answer.Grant.{Grant}
use Rattle.calls.specs.declared.fault.Denial.{Denial}
use Rattle.calls.specs.declared.fault.Denial.TheVariants.{Invalid, Group, Rights, Unchanged}
use Rattle.calls.specs.declared.fault.Fault.{Fault}
use Rattle.calls.specs.declared.fault.Fault.TheVariants.{Denied}
use Rattle.tlb.specs.Page.{bytes_in, physical}
use Rattle.mmu.specs.Rights.{allows, ruling_of}
use Rattle.tlb.specs.Shape.{Shape}
use Rattle.tlb.specs.declared.page.Common.{Common}
use Rattle.mmu.specs.declared.rights.Access.{Access}
use Rattle.mmu.specs.declared.rights.Access.TheVariants.{Fetch, Load, Store}
use Rattle.mmu.specs.declared.rights.Protection.{Protection}
use Rattle.mmu.specs.declared.rights.Ruling.{Ruling}
use Rattle.mmu.specs.declared.rights.Ruling.TheVariants.{Refuse, Exempt, Test}

abbrev pub denied : {T : Type 0} → Denial → ℕ → Result T Fault
denied why e = Err (Denied why e)

-- the group's ruling, then the rights
abbrev pub ruled : Ruling → ℕ → Access → ℕ → Result (Unit {0}) Fault
ruled Refuse rights access e = denied Group e
ruled Exempt rights access e = Ok tt
ruled (Test problem) rights access e = cond (allows rights problem access) (Ok tt) (denied Rights e)

-- first whether the page is valid
abbrev pub permits : Common → Protection → Bool → Access → ℕ → Result (Unit {0}) Fault
permits p s problem access e =
    cond p.valid (ruled (ruling_of s.group_mode s.ap p.group problem) p.rights access e) (denied Invalid e)

-- a store to a page that is not marked changed
abbrev pub unmarked : Access → Bool → Bool
unmarked Fetch changed = false
unmarked Load changed = false
unmarked Store changed = not changed

-- a fetch is never written through
abbrev pub through_for : Access → Bool → Bool
through_for Fetch through = false
through_for Load through = through
through_for Store through = through

abbrev pub granted : Common → Bool → ℕ → Grant
granted p through e = record { address = physical p e; size = bytes_in p.size; cache_inhibit = p.cache_inhibit; write_through = through; guarded = p.guarded }

abbrev pub marked_answer : Result (Unit {0}) Fault → Common → Bool → Bool → Access → ℕ → Result Grant Fault
marked_answer (Ok u) p through changed access e = cond (unmarked access changed) (denied Unchanged e) (Ok (granted p (through_for access through) e))
marked_answer (Err f) p through changed access e = Err f

-- by what both kinds of page have, write-through and changed; by the protection settings and the privilege; for an access at e
unfoldable pub gives : Common → Bool → Bool → Protection → Bool → Access → ℕ → Result Grant Fault
gives p through changed s problem access e = marked_answer (permits p s problem access e) p through changed access e

-- the same of a page, by the shape of its type
abbrev pub page_gives : {P : Type 0} → Shape P → P → Protection → Bool → Access → ℕ → Result Grant Fault
page_gives s p settings problem a e = gives (s.body p) (s.through p) (s.changed p) settings problem a e
