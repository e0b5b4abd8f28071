-- The estimate keeps the laws.
use Rattle.std.specs.Prelude.{◌≡◌, ℕ, ◌<◌, ◌≤◌, Bool, true, false, cond, if◌then◌else◌, List, map, length}
use Rattle.std.proofs.Math.Path.{refl}
use Rattle.std.proofs.Common.{sym, ap, ◌∙◌, ⊎_elim, arith}
use Rattle.std.specs.List.{range_with_len}
use Rattle.std.proofs.lemmas.List.FromFn.{get_or-map-range_with_len}
use Rattle.std.proofs.lemmas.Bool.{and_parts, le-leb, ltb-true, or_cases}
use Rattle.facts.specs.Words.{has, without}
use Rattle.facts.proofs.Sets.{has_union, has_without, subset_has}
use Rattle.heuristic.specs.Laws.{Laws}
use Rattle.heuristic.specs.declared.estimate.Estimate.{Estimate}
use Rattle.heuristic.specs.declared.estimate.Estimate.TheVariants.{Steps, Never}
use Rattle.heuristic.specs.Words.{steps_same, subset_below}
use Rattle.strips.specs.Semantics.{IsPlan, Run, State, result, step, stop}
use Rattle.strips.specs.Sound.{act}
use Rattle.strips.specs.declared.action.Action.{Action}
use Rattle.weights.specs.Laws.{ZeroIsTrue}
use Rattle.weights.specs.Tables.{Capped, Feasible, at_most, cost, fact_count, plus, total, weight}
use Rattle.weights.specs.Weights.{all_applicable, goal_weight, weights}
use Rattle.heuristic.specs.Useful.{applicable_here}
use Rattle.weights.specs.Order.{steps_never, total_capped}
use Rattle.weights.specs.Greatest.{weights_greatest}
use Rattle.weights.specs.Sums.{cost_weighed, total_weighed, total_zero, weighed, weighed_below, weighed_never, zero_total}

-- only the facts of the state weigh 0: the table with 1 for all others is feasible
abbrev near : State → List Estimate
near s = map (λ f. Steps (if has s f then 0 else 1)) (range_with_len 0 fact_count)

near_at : (s : State) (f : ℕ) → f < fact_count → weight (near s) f ≡ Steps (cond (has s f) 0 1)
near_at s f l = get_or-map-range_with_len (λ f. Steps (cond (has s f) 0 1)) 0 fact_count f f Never l (omega arith)

near_cost : (b : Bool) (e : Estimate) → at_most (Steps (cond b 0 1)) (plus (Steps 1) e) ≡ true
near_cost true (Steps n) = le-leb _ _ (omega arith)
near_cost false (Steps n) = le-leb _ _ (omega arith)
near_cost b Never = refl

near_feasible : (acts : List Action) (s : State) → Feasible acts s (near s)
near_feasible acts s = record {
  true_now = λ f l h. near_at s f l ∙ ap (λ (b : Bool). Steps (cond b 0 1)) h;
  no_lower = λ k f l m adds. ap (λ (e : Estimate). at_most e (cost (near s) (act acts k))) (near_at s f m) ∙ near_cost (has s f) (total (near s) (act acts k).pre.words fact_count);
}

near_zero : (b : Bool) → at_most (Steps (cond b 0 1)) (Steps 0) ≡ true → b ≡ true
near_zero true h = refl
near_zero false h = h

pub zero_is_true : ZeroIsTrue
zero_is_true acts s f l e =
    near_zero (has s f)
    (sym (ap (λ (x : Estimate). at_most x (Steps 0)) (near_at s f l)) ∙ sym (ap (at_most (weight (near s) f)) e) ∙ (weights_greatest acts s).above (near s) (near_feasible acts s) f l)

-- every fact that a run makes true is weighed
added_or : (a : Action) (u : State) (f : ℕ) (P : Type 0) → (has u f ≡ true → P) → (has a.add.words f ≡ true → P) → has (result a u) f ≡ true → P
added_or a u f P before adds h =
    ⊎_elim (λ x. before (and_parts _ _ (sym (has_without u a.del.words f) ∙ x)).0) adds
    (or_cases _ _ (sym (has_union (without u a.del.words) a.add.words f) ∙ h))

run_weighed : (acts : List Action) (s u t : State) (w : List Estimate) (ks : List ℕ) → Feasible acts s w → ((f : ℕ) → f < fact_count → has u f ≡ true → weighed (weight w f) ≡ true) → Run acts u ks t → (f : ℕ) → f < fact_count → has t f ≡ true → weighed (weight w f) ≡ true
run_weighed acts s u t w ks ok h stop = h
run_weighed acts s u t w ks ok h (step {k = k} {ks = ls} l p r) =
    let a : Action = act acts k in
    let price : weighed (cost w a) ≡ true = cost_weighed w a (λ f m y. h f m (subset_has a.pre.words u p f y)) in
    run_weighed acts s (result a u) t w ls ok
    (λ f m. added_or a u f (weighed (weight w f) ≡ true) (h f m) (λ adds. weighed_below (weight w f) (cost w a) (ok.no_lower k f l m adds) price)) r

true_weighed : (acts : List Action) (s : State) (w : List Estimate) → Feasible acts s w → (f : ℕ) → f < fact_count → has s f ≡ true → weighed (weight w f) ≡ true
true_weighed acts s w ok f l h = ap weighed (ok.true_now f l h)

pub never_unplanned : (some : List Action) (acts : List Action) (goal s : State) → Feasible some s (weights acts s) → goal_weight acts goal s ≡ Never → (ks : List ℕ) → IsPlan some s goal ks → ⊥
never_unplanned some acts goal s ok e ks plan =
    let w : List Estimate = weights acts s in
    let seen = run_weighed some s s plan.0 w ks ok (true_weighed some s w ok) plan.1 in
    weighed_never (total w goal fact_count) e (total_weighed w goal fact_count (λ f l y. seen f l (subset_has goal plan.0 plan.2 f y)))

capped_most : (e : Estimate) (n : ℕ) → Capped e → e ≡ Steps n → n ≤ 65534
capped_most (Steps m) n h e = let z = steps_same m n e in omega arith
capped_most Never n h e = absurd (steps_never n (sym e))

pub weights_laws : Laws goal_weight all_applicable
unfolding applicable_here
weights_laws = record {
  reached = λ facts acts goal s q e. total_zero (weights acts s) goal fact_count (λ f l y. (weights_greatest acts s).feasible.true_now f l (subset_has goal s e f y));
  zero = λ facts acts goal s q e.
      subset_below facts goal s q.few q.small q.goal_in (λ f l y. zero_is_true acts s f l (zero_total (weights acts s) goal fact_count e f l y));
  never = λ facts acts goal s q e ks plan. never_unplanned acts acts goal s (weights_greatest acts s).feasible e ks plan;
  most = λ facts acts goal s n q e. capped_most (total (weights acts s) goal fact_count) n (total_capped (weights acts s) goal fact_count) e;
  can = λ facts acts goal s k q e.
      let p = and_parts _ _ e in
      (ltb-true k (length acts) p.0, p.1);
}
