-- The registers: numbers and kept bits. Assumes nothing.
use Rattle.std.specs.Prelude.{◌≡◌, ℕ, cond, List, [], ◌∷◌, Some, None, Option, ◌==◌}
use Rattle.tlb.specs.Bits.{field}
use Rattle.tlb.specs.declared.register.Kind.{Kind}
use Rattle.tlb.specs.declared.register.Kind.TheVariants.{Instruction, Data}
use Rattle.tlb.specs.declared.register.Register.{Register}
use Rattle.tlb.specs.declared.register.Register.TheVariants.{Ctr, Ap, Epn, Twc, Rpn, Casid, Twb, Tw}

abbrev pub kept_bits : Register → ℕ
kept_bits (Ctr Instruction) = 0xa8001f00
kept_bits (Ctr Data) = 0xbc001f00
kept_bits (Ap k) = 0xffffffff
kept_bits (Epn k) = 0xfffff20f
kept_bits (Twc Instruction) = 0x000001fd
kept_bits (Twc Data) = 0xfffff1ff
kept_bits (Rpn k) = 0xffffffff
kept_bits Casid = 0x0000000f
kept_bits Twb = 0xfffff000
kept_bits Tw = 0xffffffff

-- the kind of that number, if there is one
abbrev pub kind_at : ℕ → Option Kind
kind_at n = cond (n == 0) (Some Instruction) (cond (n == 1) (Some Data) None)

-- the register of that number, if there is one
abbrev pub register_at : ℕ → Option Register
register_at n =
    cond (n == 784) (Some (Ctr Instruction))
    (cond (n == 786) (Some (Ap Instruction))
    (cond (n == 787) (Some (Epn Instruction))
    (cond (n == 789) (Some (Twc Instruction))
    (cond (n == 790) (Some (Rpn Instruction))
    (cond (n == 792) (Some (Ctr Data))
    (cond (n == 793) (Some Casid)
    (cond (n == 794) (Some (Ap Data))
    (cond (n == 795) (Some (Epn Data))
    (cond (n == 796) (Some Twb)
    (cond (n == 797) (Some (Twc Data))
    (cond (n == 798) (Some (Rpn Data))
    (cond (n == 799) (Some Tw) None))))))))))))

-- the fields that the rules take from a register, each by its first and last bit
abbrev pub fields_of : Register → List (ℕ × ℕ)
fields_of (Ctr Instruction) = (0, 0) ∷ (2, 2) ∷ (4, 4) ∷ (19, 23) ∷ []
fields_of (Ctr Data) = (0, 0) ∷ (2, 2) ∷ (3, 3) ∷ (4, 4) ∷ (19, 23) ∷ []
fields_of (Ap k) = (0, 31) ∷ []
fields_of (Epn k) = (0, 19) ∷ (22, 22) ∷ (28, 31) ∷ []
fields_of (Twc Instruction) = (23, 26) ∷ (27, 27) ∷ (28, 29) ∷ (31, 31) ∷ []
fields_of (Twc Data) = (0, 19) ∷ (23, 26) ∷ (27, 27) ∷ (28, 29) ∷ (30, 30) ∷ (31, 31) ∷ []
fields_of (Rpn k) = (0, 31) ∷ []
fields_of Casid = (28, 31) ∷ []
fields_of Twb = (0, 19) ∷ []
fields_of Tw = (0, 31) ∷ []

-- two words agree in each of the fields
abbrev pub Agree : List (ℕ × ℕ) → ℕ → ℕ → Type 0
Agree [] v w = Unit {0}
Agree (f ∷ fs) v w = (field f.0 f.1 v ≡ field f.0 f.1 w) × Agree fs v w
