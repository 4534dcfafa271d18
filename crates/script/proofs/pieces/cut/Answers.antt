use Rattle.std.proofs.Common.{◌+◌, ◌∷◌, length, take, sym, ◌∙◌, arith}
use native.Mathlib.Nat.{sub-zero}
use Rattle.std.proofs.lemmas.Slice.{between_to_end}
use Rattle.script.specs.Pieces.{split}
use Rattle.script.proofs.Cuts.{uncut_none, uncut_more, cut_here, cut_nowhere}
use Rattle.script.proofs.pieces.cut.Goals as goal

pub loop-i-init : goal.loop-i-init
loop-i-init c = uncut_none c.args.separator c.args.bytes.now

pub loop-i-preserved : goal.loop-i-preserved
loop-i-preserved c = uncut_more _ c.args.bytes.now c.loop-i.i c.loop-i-test.true c.if-byte-separator.false c.loop-i.invariant

pub returns-then-byte-separator : goal.returns-then-byte-separator
returns-then-byte-separator c =
    let bytes = c.args.bytes.now in
    let i = c.loop-i.i in
    cut_here _ bytes i c.loop-i-test.true c.if-byte-separator.true c.loop-i.invariant
    ∙ (λ k. take (sym (sub-zero i) k) bytes ∷ split c.args.separator (sym (between_to_end bytes (i + 1) (length bytes) (omega arith)) k))

pub returns : goal.returns
returns c = cut_nowhere _ c.args.bytes.now c.loop-i.i c.loop-i-test.false c.loop-i.invariant
