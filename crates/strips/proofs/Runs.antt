-- Lemmas on runs.
use Rattle.std.proofs.Common.{◌≡◌, ℕ, ◌<◌, true, List, [], ◌∷◌, ◌++◌, length, refl}
use Rattle.std.proofs.lemmas.Bool.{and_parts}
use Rattle.facts.specs.Words.{subset, without}
use Rattle.facts.proofs.Sets.{union_within, without_within}
use Rattle.strips.specs.declared.action.Action.{Action}
use Rattle.strips.specs.Laws.{ReachedByRun, RunReaches, RunsAgree, RunsJoin, RunsStay}
use Rattle.strips.specs.Sound.{act, within}
use Rattle.strips.specs.Semantics.{State, applicable, result, Run, stop, step, Reaches, here, onward}

-- the parts of `within`
pub adds_within : (facts : State) (a : Action) → within facts a ≡ true → subset a.add.words facts ≡ true
unfolding within
adds_within facts a e = (and_parts _ _ (and_parts _ _ e).1).0

pub result_within : (facts : State) (a : Action) (s : State) → within facts a ≡ true → subset s facts ≡ true → subset (result a s) facts ≡ true
result_within facts a s e h =
    union_within (without s a.del.words) a.add.words facts (without_within s a.del.words facts h) (adds_within facts a e)

pub runs_stay : RunsStay
runs_stay facts acts s t ks ok h stop = h
runs_stay facts acts s t ks ok h (step {k = k} {ks = ls} l p r) =
    runs_stay facts acts (result (act acts k) s) t ls ok (result_within facts (act acts k) s (ok k l) h) r

pub runs_join : RunsJoin
runs_join acts s t u ks ls stop r = r
runs_join acts s t u ks ls (step {k = k} {ks = ms} l p q) r = step l p (runs_join acts (result (act acts k) s) t u ms ls q r)

-- one action more at the end
pub run_more : (acts : List Action) (s t : State) (k : ℕ) (ks : List ℕ) → Run acts s ks t → k < length acts → applicable (act acts k) t ≡ true → Run acts s (ks ++ k ∷ []) (result (act acts k) t)
run_more acts s t k ks r l p = runs_join acts s t (result (act acts k) t) ks (k ∷ []) r (step l p stop)

pub runs_agree : RunsAgree
runs_agree acts s t u ks stop stop = refl
runs_agree acts s t u ks (step {k = k} {ks = ls} l p r) (step m q v) = runs_agree acts (result (act acts k) s) t u ls r v

pub reached_by_run : ReachedByRun
reached_by_run acts s t here = ([], stop)
reached_by_run acts s t (onward {t = u} {k = k} r l p) =
    let before = reached_by_run acts s u r in
    (before.0 ++ k ∷ [], run_more acts s u k before.0 before.1 l p)

-- a state reached from one that is reached is reached
reach_on : (acts : List Action) (s t u : State) → Reaches acts s t → Reaches acts t u → Reaches acts s u
reach_on acts s t u r here = r
reach_on acts s t u r (onward {t = v} q l p) = onward (reach_on acts s t v r q) l p

pub run_reaches : RunReaches
run_reaches acts s t ks stop = here
run_reaches acts s t ks (step {k = k} {ks = ls} l p r) =
    reach_on acts s (result (act acts k) s) t (onward here l p) (run_reaches acts (result (act acts k) s) t ls r)
