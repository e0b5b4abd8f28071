use Rattle.closed_list.proofs.Enters.{Offered}
use Rattle.closed_list.proofs.bulk.enter_all.Given as goal

abbrev pub invariant-loop-row : goal.invariant-loop-row
invariant-loop-row g l =
    Offered (g.S.Store.room l.initial.store) (g.S.Store.rows l.initial.store) l.offered l.row-index
    (g.S.Store.room l.store) (g.S.Store.rows l.store) l.entered
