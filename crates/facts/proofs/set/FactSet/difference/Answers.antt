use Rattle.std.proofs.Common.{ℕ, List, ap, ◌∙◌}
use Rattle.facts.specs.Words.{has}
use Rattle.facts.proofs.Sets.{has_without}
use Rattle.facts.proofs.set.FactSet.difference.Goals as goal

pub returns : goal.returns
returns c = record { words = c.remove.ensures; members = λ f. ap (λ (ws : List ℕ). has ws f) c.remove.ensures ∙ has_without _ _ f }
