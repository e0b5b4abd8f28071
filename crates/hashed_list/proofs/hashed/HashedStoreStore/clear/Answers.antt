use Rattle.std.proofs.Common.{ap}
use Rattle.closed_list.specs.Linked.{rows_of}
use Rattle.closed_list.proofs.Differ.{different_nil}
use Rattle.hashed_list.proofs.Chains.{heads_none, links_none}
use Rattle.hashed_list.proofs.hashed.HashedStoreStore.clear.Goals as goal

pub invariant_of-self-clause-latest_of_bucket : goal.invariant_of-self-clause-latest_of_bucket
invariant_of-self-clause-latest_of_bucket c = heads_none _ _ _ (ap rows_of c.clear.ensures.change) c.reset.ensures.none

pub invariant_of-self-clause-latest_before : goal.invariant_of-self-clause-latest_before
invariant_of-self-clause-latest_before c = links_none _ _ _ (ap rows_of c.clear.ensures.change)

pub invariant_of-self-clause-different : goal.invariant_of-self-clause-different
invariant_of-self-clause-different c = ∣ different_nil _ (ap rows_of c.clear.ensures.change) ∣₁
