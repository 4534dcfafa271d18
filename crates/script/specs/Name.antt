-- The names of forms. Assumes nothing.
use Rattle.std.specs.Prelude.{ℕ, cond, List, Some, None, codes, Option}
use Rattle.std.specs.Str.{bytes_eq}
use Rattle.script.specs.declared.name.Name.{Name}
use Rattle.script.specs.declared.name.Name.TheVariants.{Poke, Peek, Write, Read, Mode, Access, Resolve, Drop, DropAll, Tally}

abbrev pub name_of : List ℕ → Option Name
name_of w =
    cond (bytes_eq w (codes "poke")) (Some Poke)
    (cond (bytes_eq w (codes "peek")) (Some Peek)
    (cond (bytes_eq w (codes "write")) (Some Write)
    (cond (bytes_eq w (codes "read")) (Some Read)
    (cond (bytes_eq w (codes "mode")) (Some Mode)
    (cond (bytes_eq w (codes "access")) (Some Access)
    (cond (bytes_eq w (codes "resolve")) (Some Resolve)
    (cond (bytes_eq w (codes "drop")) (Some Drop)
    (cond (bytes_eq w (codes "dropall")) (Some DropAll)
    (cond (bytes_eq w (codes "tally")) (Some Tally) None)))))))))
