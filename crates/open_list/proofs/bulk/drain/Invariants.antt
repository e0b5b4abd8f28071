use Rattle.std.proofs.Common.{length, vec_items, vec_capacity}
use Rattle.open_list.proofs.Drains.{Draining}
use Rattle.open_list.proofs.bulk.drain.Given as goal

abbrev pub invariant-loop-entry : goal.invariant-loop-entry
invariant-loop-entry g l =
    Draining (g.F.Frontier.room l.initial.frontier) (g.F.Frontier.waiting l.initial.frontier)
    (g.F.Frontier.room l.frontier) (g.F.Frontier.waiting l.frontier) (vec_items l.out) (vec_capacity l.out)

abbrev pub decreases-loop-entry : goal.decreases-loop-entry
decreases-loop-entry g l = length (g.F.Frontier.waiting l.frontier)
