use Rattle.std.proofs.Common.{vec_items, vec_len, vec_capacity}
use Rattle.closed_list.proofs.ReadBack.{ReadSoFar}
use Rattle.closed_list.proofs.bulk.read_all.Given as goal

abbrev pub invariant-loop-number : goal.invariant-loop-number
invariant-loop-number g l = ReadSoFar (g.S.Store.rows l.store) l.number (vec_items l.rows) (vec_len l.rows) (vec_capacity l.rows)
