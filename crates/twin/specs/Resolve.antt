-- Resolve: the walk by where it stops, and what a resolve keeps. Assumes nothing.
use Rattle.std.specs.Prelude.{ℕ, ◌+◌, min, Bool, true, false, List, [], ◌∷◌, Some, None, Ok, Err, Option, Result, bit_and}
use Rattle.board.specs.Memory.{Meaning}
use Rattle.calls.specs.declared.answer.Answer.{Answer}
use Rattle.calls.specs.declared.answer.Answer.TheVariants.{Refused}
use Rattle.calls.specs.declared.fault.Fault.{Fault}
use Rattle.mmu.specs.Walk.{first_word, second_word}
use Rattle.mmu.specs.declared.rights.Access.{Access}
use Rattle.tlb.specs.Register.{kept_bits}
use Rattle.tlb.specs.declared.register.Kind.{Kind}
use Rattle.tlb.specs.declared.register.Kind.TheVariants.{Instruction, Data}
use Rattle.tlb.specs.declared.register.Register.TheVariants.{Twc}
use Rattle.twin.specs.Access.{access_answer, translated_answer, slot_found, missed_unit}
use Rattle.twin.specs.Load.{Event, with_twc, loaded, load_event}
use Rattle.twin.specs.Unit.{Page, shape, half, put, space}
use Rattle.twin.specs.declared.unit.Mmu.{Mmu}

-- a walk stops at the first word, or at the second behind a first that passed, or passes both
pub data Walked : Type 0 where
  StoppedFirst : Fault → Walked
  StoppedSecond : ℕ → Fault → Walked
  Passed : ℕ → ℕ → Walked

abbrev pub behind_first : ℕ → Result ℕ Fault → Walked
behind_first first (Ok second) = Passed first second
behind_first first (Err f) = StoppedSecond first f

abbrev pub from_first : Meaning → ℕ → Result ℕ Fault → Walked
from_first m e (Ok first) = behind_first first (second_word m first e)
from_first m e (Err f) = StoppedFirst f

unfoldable pub walked : Meaning → ℕ → ℕ → Walked
walked m base e = from_first m e (first_word m base e)

-- the reading of e off such a walk: the fault, or the page made of e and the two words
abbrev pub reading_by : {P : Type 0} → (ℕ → ℕ → ℕ → P) → ℕ → Walked → Result P Fault
reading_by makes e (StoppedFirst f) = Err f
reading_by makes e (StoppedSecond first f) = Err f
reading_by makes e (Passed first second) = Ok (makes e first second)

-- the count of loads stops at the largest word
abbrev pub counted : Mmu → Mmu
counted u = record { instruction = u.instruction; «data» = u.«data»; casid = u.casid; twb = u.twb; tw = u.tw; mode = u.mode; loads = min (u.loads + 1) 4294967295 }

-- a load of w, by hand or by a resolve
abbrev pub loaded_unit : Kind → ℕ → Mmu → Mmu
loaded_unit k w u = counted (put k (loaded (shape k) w (half k u)) u)

-- the event of one kind alone
abbrev pub only : (k : Kind) → Event (Page k) → (j : Kind) → List (Event (Page j))
only Instruction v Instruction = v ∷ []
only Instruction v Data = []
only Data v Instruction = []
only Data v Data = v ∷ []

abbrev pub none : (j : Kind) → List (Event (Page j))
none j = []

-- a miss in a resolve sets MD_EPN too
abbrev pub resolve_missed : Kind → ℕ → Mmu → Mmu
resolve_missed k e u = missed_unit Data e (missed_unit k e u)

-- a first word that passed goes to MD_TWC, for a fetch also to MI_TWC
abbrev pub first_data : ℕ → Mmu → Mmu
first_data w u = put Data (with_twc (bit_and w (kept_bits (Twc Data))) (half Data u)) u

abbrev pub first_written : Kind → ℕ → Mmu → Mmu
first_written Instruction w u = put Instruction (with_twc (bit_and w (kept_bits (Twc Instruction))) (half Instruction u)) (first_data w u)
first_written Data w u = first_data w u

-- what a resolve comes to: its answer, the unit, and the events
pub record ResultOf : Type 0 where
  pub answer : Answer
  pub unit : Mmu
  pub events : (j : Kind) → List (Event (Page j))

abbrev pub resolve_walked : (k : Kind) → Walked → Access → ℕ → Mmu → ResultOf
resolve_walked k (StoppedFirst f) a e u = record { answer = Refused f; unit = u; events = none }
resolve_walked k (StoppedSecond first f) a e u = record { answer = Refused f; unit = first_written k first u; events = none }
resolve_walked k (Passed first second) a e u =
    record {
      answer = translated_answer k (loaded_unit k second (first_written k first u)) a e;
      unit = loaded_unit k second (first_written k first u);
      events = only k (load_event (shape k) second (half k (first_written k first u)));
    }

abbrev pub resolve_found : (k : Kind) → Option ℕ → Meaning → Access → ℕ → Mmu → ResultOf
resolve_found k (Some i) m a e u = record { answer = translated_answer k u a e; unit = u; events = none }
resolve_found k None m a e u = resolve_walked k (walked m u.twb e) a e (resolve_missed k e u)

abbrev pub resolved : Bool → (k : Kind) → Meaning → Access → ℕ → Mmu → ResultOf
resolved false k m a e u = record { answer = access_answer false k u a e; unit = u; events = none }
resolved true k m a e u = resolve_found k (slot_found (shape k) (half k u) e (space u)) m a e u

-- what a walk leaves: the first word is kept if it passed, and both load
abbrev pub walk_result : Walked → Result (Unit {0}) Fault
walk_result (StoppedFirst f) = Err f
walk_result (StoppedSecond first f) = Err f
walk_result (Passed first second) = Ok tt

abbrev pub walk_unit : Kind → Walked → Mmu → Mmu
walk_unit k (StoppedFirst f) u = u
walk_unit k (StoppedSecond first f) u = first_written k first u
walk_unit k (Passed first second) u = loaded_unit k second (first_written k first u)
