use Rattle.std.proofs.Common.{◌≡◌, ◌+◌, ◌≤◌, None}
use Rattle.script.specs.Reader.{readings}
use Rattle.script.specs.Room.{weight}
use Rattle.script.proofs.reader.ReaderIterator.next.Given as goal

abbrev pub invariant-loop-bytes : goal.invariant-loop-bytes
invariant-loop-bytes l =
    (l.self-inside.pending ≡ None)
    × (l.self-inside.number + weight l.self-inside.lines ≤ 65538)
    × (readings l.self-inside.number l.self-inside.lines ≡ readings l.initial.self-inside.number l.initial.self-inside.lines)

abbrev pub decreases-loop-bytes : goal.decreases-loop-bytes
decreases-loop-bytes l = weight l.self-inside.lines
