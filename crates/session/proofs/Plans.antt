-- A plan by its actions one after the other: the same as a run to the goals, with one proof at most.
use Rattle.std.proofs.Common.{◌≡◌, ℕ, ◌<◌, true, List, [], ◌∷◌, length}
use native.Mathlib.Bridge.{le_prop}
use mathlib.Core.Bool.{Bool-set}
use mathlib.Core.HLevel.{×₃_prop}
use Rattle.facts.specs.Words.{subset}
use Rattle.strips.specs.declared.action.Action.{Action}
use Rattle.strips.specs.Semantics.{IsPlan, Run, State, applicable, result, step, stop}
use Rattle.strips.specs.Sound.{act}

abbrev pub Leads : List Action → State → State → List ℕ → Type 0
Leads acts g s [] = subset g s ≡ true
Leads acts g s (k ∷ ks) = (k < length acts) × (applicable (act acts k) s ≡ true) × Leads acts g (result (act acts k) s) ks

run_leads : (acts : List Action) (g s t : State) (ks : List ℕ) → Run acts s ks t → subset g t ≡ true → Leads acts g s ks
run_leads acts g s t ks stop h = h
run_leads acts g s t ks (step {k = k} {ks = ls} l p r) h = (l, p, run_leads acts g (result (act acts k) s) t ls r h)

pub plan_leads : (acts : List Action) (g s : State) (ks : List ℕ) → IsPlan acts s g ks → Leads acts g s ks
plan_leads acts g s ks p = run_leads acts g s p.0 ks p.1 p.2

pub leads_plan : (acts : List Action) (g s : State) (ks : List ℕ) → Leads acts g s ks → IsPlan acts s g ks
leads_plan acts g s [] h = (s, stop, h)
leads_plan acts g s (k ∷ ks) h = let p = leads_plan acts g (result (act acts k) s) ks h.2 in (p.0, step h.0 h.1 p.1, p.2)

pub leads_prop : (acts : List Action) (g s : State) (ks : List ℕ) → IsProp (Leads acts g s ks)
leads_prop acts g s [] = Bool-set _ _
leads_prop acts g s (k ∷ ks) = ×₃_prop le_prop (Bool-set _ _) (leads_prop acts g (result (act acts k) s) ks)
