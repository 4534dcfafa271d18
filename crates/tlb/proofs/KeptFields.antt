-- Every field that is taken from a register is kept by it. Assumes nothing.
use Rattle.std.proofs.Common.{◌≡◌, ℕ, ◌+◌, ◌-◌, ◌^◌, Bool, true, ◌&&◌, eqb, List, [], ◌∷◌, refl}
use lib.Bits.{bit_and}
use Rattle.std.proofs.lemmas.Bool.{and_parts, eqb-true}
use Rattle.tlb.proofs.Fields.{field_kept}
use Rattle.tlb.specs.Bits.{field}
use Rattle.tlb.specs.Register.{kept_bits, fields_of, Agree}
use Rattle.tlb.specs.declared.register.Kind.TheVariants.{Instruction, Data}
use Rattle.tlb.specs.declared.register.Register.{Register}
use Rattle.tlb.specs.declared.register.Register.TheVariants.{Ctr, Ap, Epn, Twc, Rpn, Casid, Twb, Tw}

-- a test that the checker computes: the mask has all bits of each field
whole : ℕ → List (ℕ × ℕ) → Bool
whole m [] = true
whole m (f ∷ fs) = eqb (field f.0 f.1 m) (2 ^ (f.1 + 1 - f.0) - 1) && whole m fs

from_whole : (w m : ℕ) (fs : List (ℕ × ℕ)) → whole m fs ≡ true → Agree fs (bit_and w m) w
unfolding whole
from_whole w m [] e = tt
from_whole w m (f ∷ fs) e =
    let p = and_parts (eqb (field f.0 f.1 m) (2 ^ (f.1 + 1 - f.0) - 1)) (whole m fs) e in
    (field_kept w m f.0 f.1 (eqb-true _ _ p.0), from_whole w m fs p.1)

tested : (r : Register) → whole (kept_bits r) (fields_of r) ≡ true
unfolding whole
tested (Ctr Instruction) = refl
tested (Ctr Data) = refl
tested (Ap k) = refl
tested (Epn k) = refl
tested (Twc Instruction) = refl
tested (Twc Data) = refl
tested (Rpn k) = refl
tested Casid = refl
tested Twb = refl
tested Tw = refl

pub fields_kept : (r : Register) (w : ℕ) → Agree (fields_of r) (bit_and w (kept_bits r)) w
fields_kept r w = from_whole w (kept_bits r) (fields_of r) (tested r)
