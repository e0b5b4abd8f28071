-- The relaxed task: the same actions with their deletes ignored.
use Rattle.std.specs.Prelude.{ℕ, List, [], map}
use Rattle.strips.specs.declared.action.Action.{Action}
use Rattle.strips.specs.Semantics.{State, IsPlan}

abbrev pub without_deletes : Action → Action
without_deletes a = record { pre = a.pre; add = a.add; del = record { words = [] } }

-- the list reaches the goals where deletes are ignored
abbrev pub IsRelaxedPlan : List Action → State → State → List ℕ → Type 0
IsRelaxedPlan acts s goal ks = IsPlan (map without_deletes acts) s goal ks

-- every plan is a relaxed plan
abbrev pub PlansRelax : Type 0
PlansRelax = (acts : List Action) (s goal : State) (ks : List ℕ) → IsPlan acts s goal ks → IsRelaxedPlan acts s goal ks
