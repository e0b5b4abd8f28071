-- What an estimator owes.
use Rattle.std.specs.Prelude.{◌≡◌, ℕ, ◌^◌, ◌<◌, ◌≤◌, Bool, true, List, length, slice_index}
use Rattle.facts.specs.Field.{set_words}
use Rattle.facts.specs.Words.{subset}
use Rattle.strips.specs.declared.action.Action.{Action}
use Rattle.strips.specs.Semantics.{State, applicable, IsPlan}
use Rattle.strips.specs.Sound.{act, AllWithin}
use Rattle.heuristic.specs.declared.estimate.Estimate.{Estimate}
use Rattle.heuristic.specs.declared.estimate.Estimate.TheVariants.{Steps, Never}

-- the largest estimate
abbrev pub most_steps : ℕ
most_steps = 65534

-- A question to an estimator: the sets of the actions, the goals and the state lie within the facts in use, which are at most 256.
pub record Asked (facts : State) (acts : List Action) (goal s : State) : Type 0 where
  pub few : length facts ≤ set_words
  pub small : (k : ℕ) → slice_index facts k < 2 ^ 64
  pub within : AllWithin facts acts
  pub goal_in : subset goal facts ≡ true
  pub state_in : subset s facts ≡ true

-- The estimate is 0 exactly when all goals are true, never only if no list of actions is a plan, and at most 65,534; every preferred action exists and is applicable.
pub record Laws (estimate : List Action → State → State → Estimate) (prefers : List Action → State → State → ℕ → Bool) : Type 0 where
  pub reached : (facts : State) (acts : List Action) (goal s : State) → Asked facts acts goal s → subset goal s ≡ true → estimate acts goal s ≡ Steps 0
  pub zero : (facts : State) (acts : List Action) (goal s : State) → Asked facts acts goal s → estimate acts goal s ≡ Steps 0 → subset goal s ≡ true
  pub never : (facts : State) (acts : List Action) (goal s : State) → Asked facts acts goal s → estimate acts goal s ≡ Never → (ks : List ℕ) → IsPlan acts s goal ks → ⊥
  pub most : (facts : State) (acts : List Action) (goal s : State) (n : ℕ) → Asked facts acts goal s → estimate acts goal s ≡ Steps n → n ≤ most_steps
  pub can : (facts : State) (acts : List Action) (goal s : State) (k : ℕ) → Asked facts acts goal s → prefers acts goal s k ≡ true → (k < length acts) × (applicable (act acts k) s ≡ true)
