-- The number, layer, level and place of every fault: the one definition of them. Assumes nothing.
use Rattle.std.specs.Prelude.{ℕ}
use Rattle.board.specs.declared.bus.BusFault.{BusFault}
use Rattle.board.specs.declared.bus.Refusal.{Refusal}
use Rattle.board.specs.declared.bus.Refusal.TheVariants.{Misaligned, NoWord, NotStorable}
use Rattle.calls.specs.declared.fault.Denial.{Denial}
use Rattle.calls.specs.declared.fault.Denial.TheVariants.{Invalid, Group, Rights, Unchanged}
use Rattle.calls.specs.declared.fault.Descriptor.{Descriptor}
use Rattle.calls.specs.declared.fault.Descriptor.TheVariants.{FirstInvalid, FirstSize, SecondInvalid, SecondMarks}
use Rattle.calls.specs.declared.fault.Fault.{Fault}
use Rattle.calls.specs.declared.fault.Fault.TheVariants.{Register, NoKind, NoSlot, Denied, Walk, Bus, Unreadable, TooLong}
use Rattle.calls.specs.declared.fault.Figures.{Figures}
use Rattle.calls.specs.declared.fault.Layer as layers
use Rattle.calls.specs.declared.fault.Misuse.{Misuse}
use Rattle.calls.specs.declared.fault.Misuse.TheVariants.{NoRegister, Mode, Size, Marks}
use Rattle.calls.specs.declared.fault.Level.{Level}
use Rattle.calls.specs.declared.fault.Level.TheVariants.{Outside, First, Second}

abbrev pub level_number : Level → ℕ
level_number Outside = 0
level_number First = 1
level_number Second = 2

abbrev pub bus_number : Refusal → ℕ
bus_number Misaligned = 14
bus_number NoWord = 15
bus_number NotStorable = 16

abbrev pub misuse_number : Misuse → ℕ
misuse_number NoRegister = 1
misuse_number Mode = 2
misuse_number Size = 3
misuse_number Marks = 4

abbrev pub denial_number : Denial → ℕ
denial_number Invalid = 6
denial_number Group = 7
denial_number Rights = 8
denial_number Unchanged = 9

abbrev pub descriptor_number : Descriptor → ℕ
descriptor_number FirstInvalid = 10
descriptor_number FirstSize = 11
descriptor_number SecondInvalid = 12
descriptor_number SecondMarks = 13

abbrev pub descriptor_level : Descriptor → Level
descriptor_level FirstInvalid = First
descriptor_level FirstSize = First
descriptor_level SecondInvalid = Second
descriptor_level SecondMarks = Second

abbrev pub figures_of : Fault → Figures
figures_of (Register m n) = record { number = misuse_number m; layer = layers.TheVariants.Unit; level = 0; place = n }
figures_of (NoKind k) = record { number = 5; layer = layers.TheVariants.Unit; level = 0; place = k }
figures_of (NoSlot n) = record { number = 17; layer = layers.TheVariants.Unit; level = 0; place = n }
figures_of (Denied d e) = record { number = denial_number d; layer = layers.TheVariants.Unit; level = 0; place = e }
figures_of (Walk d a) = record { number = descriptor_number d; layer = layers.TheVariants.Walk; level = level_number (descriptor_level d); place = a }
figures_of (Bus f l) = record { number = bus_number f.refusal; layer = layers.TheVariants.Bus; level = level_number l; place = f.address }
figures_of (Unreadable n) = record { number = 18; layer = layers.TheVariants.Script; level = 0; place = n }
figures_of TooLong = record { number = 19; layer = layers.TheVariants.Script; level = 0; place = 0 }

-- a memory's refusal outside a tablewalk
abbrev pub outside : BusFault → Fault
outside f = Bus f Outside
