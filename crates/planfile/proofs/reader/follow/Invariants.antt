use Rattle.std.proofs.Common.{vec_items}
use Rattle.planfile.specs.Reads.{Follows}
use Rattle.planfile.proofs.reader.follow.Given as goal

abbrev pub invariant-loop-k : goal.invariant-loop-k
invariant-loop-k l = Follows (vec_items l.task.actions) l.start.words l.bytes l.k-counter l.state.words
