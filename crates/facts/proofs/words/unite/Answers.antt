use Rattle.std.proofs.Common.{arith}
use Rattle.facts.proofs.Sets.{union_from}
use Rattle.facts.proofs.words.unite.Goals as goal

pub returns : goal.returns
returns c = union_from _ _ _ (omega arith) (omega arith) (λ k l. c.loop-i.invariant.1 k (omega arith))
