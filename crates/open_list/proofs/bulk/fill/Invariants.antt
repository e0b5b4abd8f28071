use Rattle.open_list.proofs.Fills.{Filled}
use Rattle.open_list.proofs.bulk.fill.Given as goal

abbrev pub invariant-loop-i : goal.invariant-loop-i
invariant-loop-i g l =
    Filled (g.F.Frontier.room l.initial.frontier) (g.F.Frontier.waiting l.initial.frontier) l.entries
    (g.F.Frontier.room l.frontier) (g.F.Frontier.waiting l.frontier) l.i
