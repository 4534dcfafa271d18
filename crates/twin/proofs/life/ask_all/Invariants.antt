use Rattle.std.proofs.Common.{◌≡◌, ◌+◌, ◌-◌, ◌≤◌, length, vec_items, vec_len, vec_capacity}
use Rattle.twin.proofs.Asking.{SoFar}
use Rattle.twin.specs.Life.{state_of}
use Rattle.twin.proofs.life.ask_all.Given as goal

-- there is room for every reply that is still to come
abbrev pub invariant-loop-request : goal.invariant-loop-request
invariant-loop-request g l =
    SoFar l.requests l.request-index (vec_items l.out) (vec_items l.initial.out)
    (state_of l.twin.unit (g.M.Memory.meaning l.twin.memory.now)) (state_of l.initial.twin.unit (g.M.Memory.meaning l.initial.twin.memory.now))
    (g.M.Memory.place l.twin.memory.now) (g.M.Memory.place l.initial.twin.memory.now) (g.M.Memory.lent l.twin.memory.now) (g.M.Memory.lent l.initial.twin.memory.now)
    × (l.twin.memory.ghost_name ≡ l.initial.twin.memory.ghost_name)
    × (vec_len l.out + (length l.requests - l.request-index) ≤ vec_capacity l.out)
