-- That a task is the one that bytes describe.
use Rattle.std.specs.Prelude.{◌≡◌, ℕ, List, vec_items}
use Rattle.strips.specs.declared.problem.Task.{Task}
use Rattle.strips.specs.Records.{field, actions}

pub record Holds (t : Task) (bs : List ℕ) : Type 0 where
  pub facts : t.facts.words ≡ field bs 0 2
  pub initial : t.initial.words ≡ field bs 0 0
  pub goal : t.goal.words ≡ field bs 0 1
  pub actions : vec_items t.actions ≡ actions bs
