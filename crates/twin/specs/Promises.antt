-- The promises over every life of a twin. Assumes nothing.
use Rattle.std.specs.Prelude.{◌≡◌, ℕ, ◌^◌, ◌<◌, ◌≤◌, Bool, true, false, ◌&&◌, ◌||◌, ◌⊎◌, List, [], ◌∷◌, ◌++◌, Some, None, Ok, Err, Option, Result}
use Rattle.board.specs.Memory.{Meaning}
use Rattle.calls.specs.declared.answer.Answer.{Answer}
use Rattle.calls.specs.declared.answer.Answer.TheVariants.{Miss, Granted, Refused}
use Rattle.calls.specs.declared.answer.Grant.{Grant}
use Rattle.calls.specs.declared.call.Call as calls
use Rattle.calls.specs.declared.call.Call.TheVariants.{Poke, Peek, Write, Read, Mode, Resolve, Drop, DropAll, Tally}
use Rattle.calls.specs.declared.fault.Fault.{Fault}
use Rattle.calls.specs.declared.fault.Misuse.{Misuse}
use Rattle.mmu.specs.Walk.{reading_of}
use Rattle.mmu.specs.declared.rights.Access.{Access}
use Rattle.mmu.specs.declared.rights.Protection.{Protection}
use Rattle.tlb.specs.Control.{reserve}
use Rattle.tlb.specs.Page.{contains}
use Rattle.tlb.specs.Register.{register_at}
use Rattle.tlb.specs.declared.register.Kind.{Kind}
use Rattle.tlb.specs.declared.register.Kind.TheVariants.{Instruction, Data}
use Rattle.tlb.specs.declared.register.Register.{Register}
use Rattle.tlb.specs.declared.register.Register.TheVariants.{Ctr, Ap, Epn, Twc, Rpn, Casid, Twb, Tw}
use Rattle.tlb.specs.declared.entry.Entry.{Entry}
use Rattle.mmu.specs.Rights.{access_of, kind_of}
use Rattle.mmu.specs.Verdict.{page_gives}
use Rattle.twin.specs.Access.{translates, protection, slot_found, answer_of}
use Rattle.twin.specs.History.{LoadIn, Source, cleared, disturbed, admits, loads_in}
use Rattle.twin.specs.Life.{State, begin, step, next, after, history}
use Rattle.twin.specs.Load.{Event, Loaded}
use Rattle.twin.specs.Registers.{misused}
use Rattle.twin.specs.Tells.{tells}
use Rattle.tlb.specs.Shape.{Shape}
use Rattle.twin.specs.Unit.{Page, shape, half, space}
use Rattle.twin.specs.declared.request.Reply.TheVariants as replies
use Rattle.twin.specs.declared.request.Request.{Request}
use Rattle.twin.specs.declared.request.Request.TheVariants as requests

-- an access, or a resolve
abbrev pub asks : Bool → ℕ → ℕ → Request
asks false n e = requests.Call (calls.TheVariants.Access n e)
asks true n e = requests.Call (Resolve n e)

-- a kind's protection settings: its group mode and AP
abbrev pub settings : (k : Kind) → State → Protection
settings k s = protection (half k s.unit)

-- every grant with translation on is what its source gives: the slot found has such a source, and its page gives the grant
abbrev pub Sourced : (k : Kind) → List (Event (Page k)) → State → Access → ℕ → Grant → Type 0
Sourced k past s a e g =
    (i : ℕ)
    × (slot_found (shape k) (half k s.unit) e (space s.unit) ≡ Some i)
    × ((source : Source (shape k) past i e (space s.unit)) × (page_gives (shape k) source.load.entry.page (settings k s) s.unit.mode.problem a e ≡ Ok g))

abbrev pub GrantsSourced : Type 0
GrantsSourced =
    (m : Meaning) (rs : List Request) (resolves : Bool) (n e : ℕ) (a : Access) (g : Grant)
    → access_of n ≡ Some a
    → translates (kind_of a) (after (begin m) rs).unit.mode ≡ true
    → (step (asks resolves n e) (after (begin m) rs)).reply ≡ replies.Answer (Granted g)
    → Sourced (kind_of a) ((step (asks resolves n e) (after (begin m) rs)).events (kind_of a) ++ history (kind_of a) (begin m) rs) (next (asks resolves n e) (after (begin m) rs)) a e g

-- the reading of e now: what the walk through the tables at the current base gives
abbrev pub reading : (k : Kind) → State → ℕ → Result (Page k) Fault
reading k s e = reading_of (shape k).made s.memory s.unit.twb e

-- a fault read is itself the answer; a page answers what it gives
abbrev pub reading_answer : {P : Type 0} → Shape P → Result P Fault → Protection → Bool → Access → ℕ → Answer
reading_answer s (Err f) p problem a e = Refused f
reading_answer s (Ok page) p problem a e = answer_of (page_gives s page p problem a e)

-- every live load that could serve e made the page now read, or has been cleared
abbrev pub Settled : (k : Kind) → List (Event (Page k)) → State → ℕ → Type 0
Settled k past s e =
    (l : LoadIn past)
    → l.entry.live ≡ true
    → contains ((shape k).body l.entry.page) e ≡ true
    → admits (shape k) (space s.unit) l.entry ≡ true
    → (Ok l.entry.page ≡ reading k s e) ⊎ (cleared (shape k) l.slot l.entry.page l.later ≡ true)

-- a resolve of an address, with its translation on, that is settled after these requests
pub record SettledResolve (m : Meaning) (rs : List Request) (n e : ℕ) (a : Access) : Type 0 where
  pub kind : access_of n ≡ Some a
  pub address : e < 2 ^ 32
  pub on : translates (kind_of a) (after (begin m) rs).unit.mode ≡ true
  pub settled : Settled (kind_of a) (history (kind_of a) (begin m) rs) (after (begin m) rs) e

-- a settled resolve answers what the reading gives
abbrev pub SettledAnswers : Type 0
SettledAnswers =
    (m : Meaning) (rs : List Request) (n e : ℕ) (a : Access)
    → SettledResolve m rs n e a
    → (step (asks true n e) (after (begin m) rs)).reply
    ≡ replies.Answer (reading_answer (shape (kind_of a)) (reading (kind_of a) (after (begin m) rs) e) (settings (kind_of a) (after (begin m) rs)) (after (begin m) rs).unit.mode.problem a e)

-- and two lives answer it alike, if reading, mode and protection settings agree
abbrev pub LivesAlike : Type 0
LivesAlike =
    (m m' : Meaning) (rs rs' : List Request) (n e : ℕ) (a : Access)
    → SettledResolve m rs n e a
    → SettledResolve m' rs' n e a
    → reading (kind_of a) (after (begin m) rs) e ≡ reading (kind_of a) (after (begin m') rs') e
    → (after (begin m) rs).unit.mode ≡ (after (begin m') rs').unit.mode
    → settings (kind_of a) (after (begin m) rs) ≡ settings (kind_of a) (after (begin m') rs')
    → ((step (asks true n e) (after (begin m) rs)).reply ≡ (step (asks true n e) (after (begin m') rs')).reply)
    × (tells (step (asks true n e) (after (begin m) rs)).reply ≡ tells (step (asks true n e) (after (begin m') rs')).reply)

-- an accepted write to a kind's control register
abbrev pub same_kind : Kind → Kind → Bool
same_kind Instruction Instruction = true
same_kind Instruction Data = false
same_kind Data Instruction = false
same_kind Data Data = true

abbrev pub accepted : Option Misuse → Bool
accepted None = true
accepted (Some why) = false

abbrev pub sets_control : Kind → Option Register → ℕ → Bool
sets_control k None w = false
sets_control k (Some (Ctr j)) w = same_kind j k && accepted (misused (Ctr j) w)
sets_control k (Some (Ap j)) w = false
sets_control k (Some (Epn j)) w = false
sets_control k (Some (Twc j)) w = false
sets_control k (Some (Rpn j)) w = false
sets_control k (Some Casid) w = false
sets_control k (Some Twb) w = false
sets_control k (Some Tw) w = false

abbrev pub call_sets : Kind → calls.Call → Bool
call_sets k (Poke b w) = false
call_sets k (Peek b) = false
call_sets k (Write n w) = sets_control k (register_at n) w
call_sets k (Read n) = false
call_sets k (Mode p i d) = false
call_sets k (calls.TheVariants.Access n e) = false
call_sets k (Resolve n e) = false
call_sets k (Drop e) = false
call_sets k DropAll = false
call_sets k Tally = false

abbrev pub sets : Kind → Request → Bool
sets k (requests.Call c) = call_sets k c
sets k (requests.Look n i) = false

abbrev pub some_sets : Kind → List Request → Bool
some_sets k [] = false
some_sets k (r ∷ rs) = sets k r || some_sets k rs

-- at most 27 loads, or at most 31 with the reserve bit clear
abbrev pub Few : ℕ → Bool → Type 0
Few n reserved = (n ≤ 27) ⊎ ((n ≤ 31) × (reserved ≡ false))

-- a page that a resolve has loaded, and the requests since
pub record LoadedBy (k : Kind) (m : Meaning) (rs between : List Request) (n e i : ℕ) (a : Access) (x : Entry (Page k)) : Type 0 where
  pub access : access_of n ≡ Some a
  pub kind : kind_of a ≡ k
  pub loads : (step (asks true n e) (after (begin m) rs)).events k ≡ Loaded i x ∷ []
  pub undisturbed : disturbed (shape k) x.page (history k (next (asks true n e) (after (begin m) rs)) between) ≡ false
  pub unset : some_sets k between ≡ false
  pub few : Few (loads_in (history k (next (asks true n e) (after (begin m) rs)) between)) (reserve (half k (next (asks true n e) (after (begin m) rs)).unit).registers.ctr)

-- such a page is not missed: an access in it is no miss, and a resolve answers as the access does, and changes nothing
pub record NotMissed (s : State) (n e : ℕ) : Type 0 where
  pub hits : (step (asks false n e) s).reply ≡ replies.Answer Miss → ⊥
  pub stays : next (asks true n e) s ≡ s
  pub alike : (step (asks true n e) s).reply ≡ (step (asks false n e) s).reply

-- in its load's space, or in any if it is shared
abbrev pub LoadedStays : Type 0
LoadedStays =
    (k : Kind) (m : Meaning) (rs between : List Request) (n e i : ℕ) (a : Access) (x : Entry (Page k))
    → LoadedBy k m rs between n e i a x
    → (number address : ℕ) (again : Access)
    → access_of number ≡ Some again
    → kind_of again ≡ k
    → contains ((shape k).body x.page) address ≡ true
    → admits (shape k) (space (after (next (asks true n e) (after (begin m) rs)) between).unit) x ≡ true
    → NotMissed (after (next (asks true n e) (after (begin m) rs)) between) number address

-- all of it, of every life
pub record Promises : Type 0 where
  pub grants : GrantsSourced
  pub settled : SettledAnswers
  pub alike : LivesAlike
  pub stays : LoadedStays
