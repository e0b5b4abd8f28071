-- The theorems above the relation, for every estimator that keeps its laws, every frontier and every store.
use Rattle.std.specs.Prelude.{ℕ, ◌≤◌, Bool, List}
use Rattle.heuristic.specs.Laws.{Asked, Laws}
use Rattle.heuristic.specs.declared.estimate.Estimate.{Estimate}
use Rattle.strips.specs.declared.action.Action.{Action}
use Rattle.strips.specs.Semantics.{State, Run}
use Rattle.engine.specs.Reach.{AtMost}
use Rattle.engine.specs.Checks.{most_places}
use Rattle.engine.specs.Generation.{Setting, posed}
use Rattle.engine.specs.HillClimbing.{Hill}
use Rattle.engine.specs.Answers.{Answer, MayAnswer, Plans, Excludes, Decides, Short}

-- a plan that is answered is one
abbrev pub AnswersPlans : Type 0
AnswersPlans = (est : List Action → State → State → Estimate) (pref : List Action → State → State → ℕ → Bool) → Laws est pref
    → (facts : State) (acts : List Action) (goal : State) (room hill fallback : ℕ) (s : State) (a : Answer) (n m : ℕ) → Asked facts acts goal s
    → MayAnswer (posed est pref acts goal room) hill fallback s a n m → Plans acts goal s a

-- where none is answered no list of any length is a plan
abbrev pub AnswersNone : Type 0
AnswersNone = (est : List Action → State → State → Estimate) (pref : List Action → State → State → ℕ → Bool) → Laws est pref
    → (facts : State) (acts : List Action) (goal : State) (room hill fallback : ℕ) (s : State) (a : Answer) (n m : ℕ) → Asked facts acts goal s
    → MayAnswer (posed est pref acts goal room) hill fallback s a n m → Excludes acts goal s a

-- with places and a fallback budget for all states that s reaches, the answer is plan or none
abbrev pub AnswersDecided : Type 0
AnswersDecided = (q : Setting) (hill fallback : ℕ) (s : State) (a : Answer) (n m N : ℕ) → MayAnswer q hill fallback s a n m
    → AtMost q.acts s N → N ≤ q.room → N ≤ fallback → Decides a

-- each count is within its budget
abbrev pub AnswersCounted : Type 0
AnswersCounted = (q : Setting) (hill fallback : ℕ) (s : State) (a : Answer) (n m : ℕ) → MayAnswer q hill fallback s a n m → (n ≤ hill) × (m ≤ fallback)

-- a list has at most 4,095 actions
abbrev pub AnswersShort : Type 0
AnswersShort = (q : Setting) (hill fallback : ℕ) (s : State) (a : Answer) (n m : ℕ) → q.room ≤ most_places → MayAnswer q hill fallback s a n m → Short a

-- the joined list of the hill phase runs from the told state to where the phase stands
abbrev pub HillsRun : Type 0
HillsRun = (q : Setting) (budget : ℕ) (s₀ : State) (p : List ℕ) (s : State) (h n : ℕ) → Hill q budget s₀ p s h n → Run q.acts s₀ p s
