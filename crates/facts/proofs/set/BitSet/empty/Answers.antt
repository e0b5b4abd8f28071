use Rattle.facts.proofs.Sets.{has_nothing}
use Rattle.facts.proofs.set.BitSet.empty.Goals as goal

pub returns-clause-members : goal.returns-clause-members
returns-clause-members g c = has_nothing g.row.N
