use Rattle.std.proofs.Common.{◌≡◌, ◌≤◌}
use Rattle.weights.specs.Tables.{fact_count, total}
use Rattle.weights.proofs.table.Weights.total.Given as goal

abbrev pub invariant-loop-fact : goal.invariant-loop-fact
invariant-loop-fact l =
    (l.sum ≡ total l.self.table l.set.words l.fact-iterator.from)
    × (l.fact-iterator.from ≤ fact_count)
    × (l.fact-iterator.set.now ≡ l.set)
