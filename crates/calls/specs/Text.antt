-- How answers print. Assumes nothing.
use Rattle.std.specs.Prelude.{ℕ, List, ◌++◌, codes, decimal}
use mir.Val.{bool_byte}
use Rattle.calls.specs.declared.answer.Answer.{Answer}
use Rattle.calls.specs.declared.answer.Answer.TheVariants.{Done, Value, Miss, Granted, Refused}
use Rattle.calls.specs.declared.answer.Grant.{Grant}
use Rattle.calls.specs.declared.fault.Fault.{Fault}
use Rattle.calls.specs.declared.fault.Figures.{Figures}
use Rattle.calls.specs.declared.fault.Layer.{Layer}
use Rattle.calls.specs.declared.fault.Layer.TheVariants.{Unit, Walk, Bus, Script}
use Rattle.calls.specs.Fault.{figures_of}
use Rattle.calls.specs.Hex.{eight}

abbrev pub layer_text : Layer → List ℕ
layer_text Unit = codes "unit"
layer_text Walk = codes "walk"
layer_text Bus = codes "bus"
layer_text Script = codes "script"

-- number, layer, level and place, with one space between two
abbrev pub no_text : ℕ → List ℕ → ℕ → ℕ → List ℕ
no_text number layer level place = codes "(no " ++ (decimal number ++ (codes " " ++ (layer ++ (codes " " ++ (decimal level ++ (codes " " ++ (eight place ++ codes ")")))))))

abbrev pub figures_text : Figures → List ℕ
figures_text f = no_text f.number (layer_text f.layer) f.level f.place

abbrev pub fault_text : Fault → List ℕ
fault_text f = figures_text (figures_of f)

-- address, size in bytes, cache inhibit, write-through, guarded, a set mark being 1 and a clear one 0
abbrev pub five_text : ℕ → ℕ → ℕ → ℕ → ℕ → List ℕ
five_text address size inhibit through guarded = codes "(grant " ++ (eight address ++ (codes " " ++ (decimal size ++ (codes " " ++ (decimal inhibit ++ (codes " " ++ (decimal through ++ (codes " " ++ (decimal guarded ++ codes ")")))))))))

abbrev pub grant_text : Grant → List ℕ
grant_text g = five_text g.address g.size (bool_byte g.cache_inhibit) (bool_byte g.write_through) (bool_byte g.guarded)

abbrev pub text_of : Answer → List ℕ
text_of Done = codes "(ok)"
text_of (Value w) = codes "(value " ++ (eight w ++ codes ")")
text_of Miss = codes "(miss)"
text_of (Granted g) = grant_text g
text_of (Refused f) = fault_text f
