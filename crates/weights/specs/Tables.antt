-- Tables of weights: how many steps each fact seems away, or never.
use Rattle.std.specs.Prelude.{◌≡◌, ℕ, zero, suc, ◌+◌, ◌*◌, ◌<◌, ◌≤◌, min, Bool, true, false, List, length, nat_le, slice_index_or}
use Rattle.facts.specs.Field.{set_words}
use Rattle.facts.specs.Words.{has}
use Rattle.heuristic.specs.Laws.{most_steps}
use Rattle.heuristic.specs.declared.estimate.Estimate.{Estimate}
use Rattle.heuristic.specs.declared.estimate.Estimate.TheVariants.{Steps, Never}
use Rattle.strips.specs.Semantics.{State}
use Rattle.strips.specs.Sound.{act}
use Rattle.strips.specs.declared.action.Action.{Action}

-- how many facts there are
abbrev pub fact_count : ℕ
fact_count = 64 * set_words

-- the weight of a fact
abbrev pub weight : List Estimate → ℕ → Estimate
weight w f = slice_index_or w f Never

-- the order of weights: never lies above every number
abbrev pub at_most : Estimate → Estimate → Bool
at_most (Steps m) (Steps n) = nat_le m n
at_most (Steps m) Never = true
at_most Never (Steps n) = false
at_most Never Never = true

-- the sum of two weights stops at the largest estimate, and is never where one of them is
abbrev pub plus : Estimate → Estimate → Estimate
plus (Steps m) (Steps n) = Steps (min (m + n) most_steps)
plus (Steps m) Never = Never
plus Never (Steps n) = Never
plus Never Never = Never

-- what a sum can be
abbrev pub Capped : Estimate → Type 0
Capped (Steps n) = n ≤ most_steps
Capped Never = Unit {0}

abbrev pub plus_if : Bool → Estimate → Estimate → Estimate
plus_if true t e = plus t e
plus_if false t e = t

-- the sum of the weights of those facts below n that the set has
unfoldable pub total : List Estimate → State → ℕ → Estimate
total w ws zero = Steps 0
total w ws (suc n) = plus_if (has ws n) (total w ws n) (weight w n)

-- the cost of an action: one step, and its preconditions' weights
abbrev pub cost : List Estimate → Action → Estimate
cost w a = plus (Steps 1) (total w a.pre.words fact_count)

-- the facts of the state weigh 0, and no action can lower the weight of a fact that it adds
pub record Feasible (acts : List Action) (s : State) (w : List Estimate) : Type 0 where
  pub true_now : (f : ℕ) → f < fact_count → has s f ≡ true → weight w f ≡ Steps 0
  pub no_lower : (k f : ℕ) → k < length acts → f < fact_count → has (act acts k).add.words f ≡ true → at_most (weight w f) (cost w (act acts k)) ≡ true

-- the greatest of these tables, fact by fact
pub record Greatest (acts : List Action) (s : State) (w : List Estimate) : Type 0 where
  pub feasible : Feasible acts s w
  pub above : (v : List Estimate) → Feasible acts s v → (f : ℕ) → f < fact_count → at_most (weight v f) (weight w f) ≡ true
