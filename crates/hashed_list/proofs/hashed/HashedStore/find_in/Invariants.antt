use Rattle.closed_list.specs.Linked.{rows_of}
use Rattle.hashed_list.proofs.Latest.{height}
use Rattle.hashed_list.proofs.Chains.{Standing}
use Rattle.hashed_list.proofs.hashed.HashedStore.find_in.Given as goal

abbrev pub invariant-loop-at : goal.invariant-loop-at
invariant-loop-at l = Standing l.self.mask (rows_of l.self.table.entries.items) l.state.words l.at

abbrev pub decreases-loop-at : goal.decreases-loop-at
decreases-loop-at l = height l.at
