use Rattle.std.proofs.Common.{◌≡◌, ◌+◌, vec_items, vec_len}
use Rattle.closed_list.specs.Linked.{rows_of}
use Rattle.hashed_list.proofs.Chains.{Left}
use Rattle.hashed_list.proofs.hashed.reset.Given as goal

abbrev pub invariant-loop-entry : goal.invariant-loop-entry
invariant-loop-entry l = (vec_len l.heads ≡ l.mask + 1) × Left l.mask (rows_of l.entries) (vec_items l.heads) l.entry-index
