use Rattle.std.proofs.Common.{ℕ, List, ap, ◌∙◌}
use Rattle.facts.specs.Words.{has}
use Rattle.facts.proofs.Sets.{has_union}
use Rattle.facts.proofs.set.FactSet.union.Goals as goal

pub returns : goal.returns
returns c = record { words = c.unite.ensures; members = λ f. ap (λ (ws : List ℕ). has ws f) c.unite.ensures ∙ has_union _ _ f }
