-- A kind's answer is that of its half. Assumes nothing.
use Rattle.std.proofs.Common.{◌≡◌, ℕ, Bool, true, false, refl, ap, ◌∙◌}
use Rattle.calls.specs.declared.answer.Answer.{Answer}
use Rattle.mmu.specs.declared.rights.Access.{Access}
use Rattle.tlb.specs.declared.register.Kind.{Kind}
use Rattle.twin.specs.Access.{half_answer, access_answer}
use Rattle.twin.specs.Access.{translates}
use Rattle.twin.specs.Unit.{shape, half, space}
use Rattle.twin.specs.declared.unit.Mmu.{Mmu}

pub by_half : (t : Bool) (k : Kind) (u : Mmu) (a : Access) (e : ℕ) → half_answer (shape k) (half k u) t u.mode.problem (space u) a e ≡ access_answer t k u a e
by_half false k u a e = refl
by_half true k u a e = refl

-- for a kind that is known under another name, asked in what is known to be the current space
pub by_kind : (j k : Kind) (u : Mmu) (a : Access) (e current : ℕ) (on : Bool) (r : Answer) → r ≡ half_answer (shape j) (half j u) on u.mode.problem current a e → on ≡ translates j u.mode → current ≡ space u → j ≡ k → r ≡ access_answer (translates k u.mode) k u a e
by_kind j k u a e current on r h is-on is-current same =
    h
    ∙ (λ i. half_answer (shape j) (half j u) (is-on i) u.mode.problem (is-current i) a e)
    ∙ by_half (translates j u.mode) j u a e
    ∙ ap (λ n. access_answer (translates n u.mode) n u a e) same
