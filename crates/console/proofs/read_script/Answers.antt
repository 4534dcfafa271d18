use Rattle.std.proofs.Common.{rules, ◌≡◌, IfSome, List, ℕ, take, Option, Some, None, ap, ◌∙◌}
use Rattle.std.specs.Option.{option_map}
use Rattle.script.specs.Reader.{script_of}
use Rattle.console.proofs.Limits.{enough_read}
use Rattle.console.proofs.read_script.Goals as goal

-- where the bytes are known, the first 65537 of them were read
first_of : (known : Option (List ℕ)) (script : List ℕ) → IfSome (option_map (take 65537) known) (λ bs. script ≡ bs) → IfSome known (λ bs. script ≡ take 65537 bs)
first_of None script h = tt
first_of (Some bs) script h = h

-- and what was read reads as they all do
read_of : (known : Option (List ℕ)) (script : List ℕ) → IfSome (option_map (take 65537) known) (λ bs. script ≡ bs) → IfSome known (λ bs. script_of script ≡ script_of bs)
read_of None script h = tt
read_of (Some bs) script h = ap script_of h ∙ enough_read bs

pub returns-clause-first : goal.returns-clause-first
returns-clause-first g c = first_of (g.I.Read.remaining c.args.input) _ (search rules)

pub returns-clause-enough : goal.returns-clause-enough
returns-clause-enough g c = search (rules, read_of)
