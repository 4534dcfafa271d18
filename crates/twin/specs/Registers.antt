-- Register reads and writes. Assumes nothing.
use Rattle.std.specs.Prelude.{ℕ, Bool, cond, not, ◌||◌, List, Some, None, Ok, Err, Option, Result, bit_and}
use Rattle.calls.specs.declared.fault.Fault.{Fault}
use Rattle.calls.specs.declared.fault.Fault.TheVariants.{Register as Misused}
use Rattle.calls.specs.declared.fault.Misuse.{Misuse}
use Rattle.calls.specs.declared.fault.Misuse.TheVariants.{NoRegister, Mode, Size, Marks}
use Rattle.mmu.specs.Walk.{first_address, second_address}
use Rattle.tlb.specs.Descriptor.{sized, marked}
use Rattle.tlb.specs.Bits.{flag}
use Rattle.tlb.specs.Register.{kept_bits}
use Rattle.tlb.specs.declared.register.Kind.{Kind}
use Rattle.tlb.specs.declared.register.Kind.TheVariants.{Instruction, Data}
use Rattle.tlb.specs.declared.register.Register.{Register}
use Rattle.tlb.specs.declared.register.Register.TheVariants.{Ctr, Ap, Epn, Twc, Rpn, Casid, Twb, Tw}
use Rattle.twin.specs.Load.{Event, with_epn, with_twc, load_event}
use Rattle.twin.specs.Resolve.{loaded_unit, only, none}
use Rattle.twin.specs.Unit.{Page, shape, half, put}
use Rattle.twin.specs.declared.unit.Half.{Half}
use Rattle.twin.specs.declared.unit.Mmu.{Mmu}

abbrev pub register_read : Register → Mmu → ℕ
register_read (Ctr k) u = (half k u).registers.ctr
register_read (Ap k) u = (half k u).registers.ap
register_read (Epn k) u = (half k u).registers.epn
register_read (Twc Instruction) u = u.instruction.registers.twc
register_read (Twc Data) u = second_address u.«data».registers.twc u.«data».registers.epn
register_read (Rpn k) u = (half k u).registers.rpn
register_read Casid u = u.casid
register_read Twb u = first_address u.twb u.«data».registers.epn
register_read Tw u = u.tw

-- why a write is refused
abbrev pub when : Bool → Misuse → Option Misuse
when t why = cond t (Some why) None

abbrev pub misused : Register → ℕ → Option Misuse
misused (Ctr Instruction) w = when (flag 1 w || flag 6 w) Mode
misused (Ctr Data) w = when (flag 1 w || (flag 6 w || not (flag 5 w))) Mode
misused (Ap k) w = None
misused (Epn k) w = None
misused (Twc k) w = when (not (sized w)) Size
misused (Rpn k) w = when (not (marked w)) Marks
misused Casid w = None
misused Twb w = None
misused Tw w = None

abbrev pub with_ctr : {P : Type 0} → ℕ → Half P → Half P
with_ctr c h = record { registers = record { ctr = c; ap = h.registers.ap; epn = h.registers.epn; twc = h.registers.twc; rpn = h.registers.rpn }; slots = h.slots }

abbrev pub with_ap : {P : Type 0} → ℕ → Half P → Half P
with_ap a h = record { registers = record { ctr = h.registers.ctr; ap = a; epn = h.registers.epn; twc = h.registers.twc; rpn = h.registers.rpn }; slots = h.slots }

-- the other registers
abbrev pub with_shared : ℕ → ℕ → ℕ → Mmu → Mmu
with_shared casid twb tw u = record { instruction = u.instruction; «data» = u.«data»; casid = casid; twb = twb; tw = tw; mode = u.mode; loads = u.loads }

-- an accepted write of a word that is cut to the kept bits; that of an RPN loads
abbrev pub kept_written : Register → ℕ → Mmu → Mmu
kept_written (Ctr k) w u = put k (with_ctr w (half k u)) u
kept_written (Ap k) w u = put k (with_ap w (half k u)) u
kept_written (Epn k) w u = put k (with_epn w (half k u)) u
kept_written (Twc k) w u = put k (with_twc w (half k u)) u
kept_written (Rpn k) w u = loaded_unit k w u
kept_written Casid w u = with_shared w u.twb u.tw u
kept_written Twb w u = with_shared u.casid w u.tw u
kept_written Tw w u = with_shared u.casid u.twb w u

abbrev pub register_written : Register → ℕ → Mmu → Mmu
register_written r w u = kept_written r (bit_and w (kept_bits r)) u

abbrev pub write_events : Register → ℕ → Mmu → (j : Kind) → List (Event (Page j))
write_events (Rpn k) w u = only k (load_event (shape k) (bit_and w (kept_bits (Rpn k))) (half k u))
write_events (Ctr k) w u = none
write_events (Ap k) w u = none
write_events (Epn k) w u = none
write_events (Twc k) w u = none
write_events Casid w u = none
write_events Twb w u = none
write_events Tw w u = none

-- the register, if it takes the word
abbrev pub taken_by : Option Misuse → Register → ℕ → Result Register Fault
taken_by None r n = Ok r
taken_by (Some why) r n = Err (Misused why n)

abbrev pub checked : Option Register → ℕ → ℕ → Result Register Fault
checked None n w = Err (Misused NoRegister n)
checked (Some r) n w = taken_by (misused r w) r n
