-- What holds wherever a history ends.
use Rattle.std.specs.Prelude.{◌≡◌, ℕ, ◌≤◌, List, vec_items}
use Rattle.strips.specs.declared.problem.Task.{Task}
use Rattle.strips.specs.Semantics.{IsPlan}
use Rattle.engine.specs.Answers.{Decides, plan, none}
use Rattle.engine.specs.Reach.{AtMost}
use Rattle.session.specs.Account.{Account, holds}
use Rattle.session.specs.Histories.{Asking, Event, History, Outcome, Replied, after, answers, planned}

pub record Sound (t : Task) (n : ℕ) (a : Account) : Type 0 where
  -- while a plan is held, its remaining actions run from the told state, every precondition true, and end with all told goals true
  pub plan_runs : (ks : List ℕ) → a.held ≡ holds (plan ks) → IsPlan (vec_items t.actions) a.state a.goals ks
  -- while none is held, no list of actions, of any length, is a plan for the told state and goals
  pub none_exists : a.held ≡ holds none → (ks : List ℕ) → IsPlan (vec_items t.actions) a.state a.goals ks → ⊥
  -- a plan call accepted next, with places and a fallback budget for all states that the told state reaches, answers plan or none
  pub decides : (q : Asking) (o : Outcome) (m : ℕ) → Replied t n a (planned q (answers o))
      → AtMost (vec_items t.actions) a.state m → m ≤ q.limits.store → m ≤ q.limits.budgets.fallback → Decides o.answer

abbrev pub HistoriesSound : Type 0
HistoriesSound = (t : Task) (n : ℕ) (es : List Event) → History t n es → Sound t n (after t es)
