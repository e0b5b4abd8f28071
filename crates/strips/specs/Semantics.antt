-- What actions do to states, and which lists of action numbers are plans. A state is the list of words of a set of facts.
use Rattle.std.specs.Prelude.{◌≡◌, ℕ, ◌<◌, Bool, true, List, [], ◌∷◌, length}
use Rattle.facts.specs.Words.{union, without, subset}
use Rattle.strips.specs.Sound.{act}
use Rattle.strips.specs.declared.action.Action.{Action}

abbrev pub State : Type 0
State = List ℕ

-- an action is applicable where its preconditions are all true
abbrev pub applicable : Action → State → Bool
applicable a s = subset a.pre.words s

-- its result is the state without the deletes, then with the adds
abbrev pub result : Action → State → State
result a s = union (without s a.del.words) a.add.words

-- the actions of the list, one after the other, lead from s to t, each applicable where its turn comes
pub data Run (acts : List Action) : State → List ℕ → State → Type 0 where
  stop : {s : State} → Run acts s [] s
  step : {s t : State} {k : ℕ} {ks : List ℕ} → k < length acts → applicable (act acts k) s ≡ true → Run acts (result (act acts k) s) ks t → Run acts s (k ∷ ks) t

-- the list leads from s to a state in which all goals are true
abbrev pub IsPlan : List Action → State → State → List ℕ → Type 0
IsPlan acts s goal ks = (t : State) × Run acts s ks t × (subset goal t ≡ true)

-- s reaches itself, and the results of the actions that are applicable in a state that it reaches
pub data Reaches (acts : List Action) (s : State) : State → Type 0 where
  here : Reaches acts s s
  onward : {t : State} {k : ℕ} → Reaches acts s t → k < length acts → applicable (act acts k) t ≡ true → Reaches acts s (result (act acts k) t)
