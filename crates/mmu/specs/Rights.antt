-- The 48 rights, and what an access protection group makes of them. Assumes nothing.
use Rattle.std.specs.Prelude.{ℕ, ◌%◌, Bool, true, false, cond, not, List, [], ◌∷◌, Some, None, Option, ◌==◌, slice_index_or}
use Rattle.tlb.specs.Control.{code_of}
use Rattle.tlb.specs.declared.register.Kind.{Kind}
use Rattle.tlb.specs.declared.register.Kind.TheVariants.{Instruction, Data}
use Rattle.mmu.specs.declared.rights.Access.{Access}
use Rattle.mmu.specs.declared.rights.Access.TheVariants.{Fetch, Load, Store}
use Rattle.mmu.specs.declared.rights.Ruling.{Ruling}
use Rattle.mmu.specs.declared.rights.Ruling.TheVariants.{Refuse, Exempt, Test}

-- the access of that number
abbrev pub access_of : ℕ → Option Access
access_of n = cond (n == 0) (Some Fetch) (cond (n == 1) (Some Load) (cond (n == 2) (Some Store) None))

-- the kind that translates it
abbrev pub kind_of : Access → Kind
kind_of Fetch = Instruction
kind_of Load = Data
kind_of Store = Data

-- load, store and fetch; load and fetch; none
abbrev pub everything : Access → Bool
everything a = true

abbrev pub no_store : Access → Bool
no_store Fetch = true
no_store Load = true
no_store Store = false

abbrev pub nothing : Access → Bool
nothing a = false

-- by the rights field, RPN bits 20 to 22: the pair 00, 01, 10, 11, each with bit 22 clear and then set
abbrev pub privileged_rows : List (Access → Bool)
privileged_rows = everything ∷ nothing ∷ everything ∷ no_store ∷ everything ∷ nothing ∷ no_store ∷ nothing ∷ []

abbrev pub problem_rows : List (Access → Bool)
problem_rows = nothing ∷ nothing ∷ no_store ∷ nothing ∷ everything ∷ nothing ∷ no_store ∷ nothing ∷ []

unfoldable pub allows : ℕ → Bool → Access → Bool
allows rights problem access = slice_index_or (cond problem problem_rows privileged_rows) (rights % 8) nothing access

-- the places of the accesses in a row of the table
abbrev pub column_of : Access → ℕ
column_of Fetch = 0
column_of Load = 1
column_of Store = 2

-- group mode 0: code 00 tests as privileged, 01 as it is, 10 with the privileges exchanged, 11 as problem.
-- group mode 1: codes 00 and 10 refuse, 01 tests as it is, 11 tests nothing
abbrev pub ruling_by : Bool → ℕ → Bool → Ruling
ruling_by false code problem = cond (code == 0) (Test false) (cond (code == 1) (Test problem) (cond (code == 2) (Test (not problem)) (Test true)))
ruling_by true code problem = cond (code == 1) (Test problem) (cond (code == 3) Exempt Refuse)

unfoldable pub ruling_of : Bool → ℕ → ℕ → Bool → Ruling
ruling_of mode ap group problem = ruling_by mode (code_of ap group) problem
