-- The estimate is never exactly when the goals cannot be reached with deletes ignored.
use Rattle.std.specs.Prelude.{◌≡◌, ℕ, zero, suc, ◌<◌, ◌≤◌, Bool, true, false, cond, List, [], ◌∷◌, ◌++◌, map, length}
use Rattle.std.proofs.Math.Path.{refl}
use Rattle.std.proofs.Common.{sym, ap, ◌∙◌, ⊎_elim, arith}
use Rattle.std.proofs.lemmas.List.{length-map}
use Rattle.std.proofs.lemmas.Bool.{and_from, both_ways, cases_Bool, or_left, or_right, not_from_false}
use Rattle.facts.specs.Words.{has, subset, without}
use Rattle.facts.proofs.Sets.{has_past, has_union, has_without}
use Rattle.heuristic.specs.Laws.{Asked}
use Rattle.heuristic.specs.Relaxation.{IsRelaxedPlan, without_deletes}
use Rattle.heuristic.specs.declared.estimate.Estimate.{Estimate}
use Rattle.heuristic.specs.declared.estimate.Estimate.TheVariants.{Steps, Never}
use Rattle.strips.specs.Semantics.{Run, State, applicable, result, stop}
use Rattle.strips.specs.Sound.{act}
use Rattle.strips.specs.declared.action.Action.{Action}
use Rattle.strips.proofs.Runs.{run_more}
use Rattle.weights.specs.Laws.{GreatestAlone, NeverUnreached, UnreachedNever}
use Rattle.weights.specs.Tables.{Feasible, at_most, cost, fact_count, weight}
use Rattle.weights.specs.Weights.{goal_weight, height, least_if, lowered, opening, pass, round, weights}
use Rattle.weights.specs.Lowering.{lowered_at, pass_length}
use Rattle.weights.specs.Greatest.{opening_at, opening_length, weights_greatest}
use Rattle.weights.specs.Sums.{weighed}
use Rattle.heuristic.proofs.Relaxing.{act_relaxed}
use Rattle.heuristic.specs.Words.{pre_within, subset_below}
use Rattle.weights.specs.Lawful.{never_unplanned}
use Rattle.weights.proofs.Sums.{least_if_weighed, never_from, weighed_cost, weighed_total}
use Rattle.weights.proofs.Greatest.{by_rounds, greatest_agree}
use Rattle.weights.proofs.Sweeps.{pass_more, pass_none}

cost_relaxed : (w : List Estimate) (a : Action) → cost w (without_deletes a) ≡ cost w a
cost_relaxed w a = refl

feasible_relaxed : (acts : List Action) (s : State) (w : List Estimate) → Feasible acts s w → Feasible (map without_deletes acts) s w
feasible_relaxed acts s w ok = record {
  true_now = ok.true_now;
  no_lower = λ k f l m adds.
      let same = act_relaxed acts k in
      let inside : k < length acts = omega (arith, length-map acts without_deletes) in
      ap (at_most (weight w f)) (ap (cost w) same ∙ cost_relaxed w (act acts k))
      ∙ ok.no_lower k f inside m (sym (ap (λ (a : Action). has a.add.words f) same) ∙ adds);
}

pub never_unreached : NeverUnreached
never_unreached facts acts goal s q e ks plan =
    never_unplanned (map without_deletes acts) acts goal s (feasible_relaxed acts s (weights acts s) (weights_greatest acts s).feasible) e ks plan

-- a list of actions that with deletes ignored makes every weighed fact of both tables true
record Reached (acts : List Action) (s : State) (w v : List Estimate) : Type 0 where
  «list» : List ℕ
  end : State
  run : Run (map without_deletes acts) s «list» end
  first : (f : ℕ) → f < fact_count → weighed (weight w f) ≡ true → has end f ≡ true
  second : (f : ℕ) → f < fact_count → weighed (weight v f) ≡ true → has end f ≡ true

kept_without : (t : State) (a : Action) (f : ℕ) → has t f ≡ true → has (result (without_deletes a) t) f ≡ true
kept_without t a f h =
    has_union (without t []) a.add.words f
    ∙ or_left _ _ (has_without t [] f ∙ and_from _ _ h (not_from_false (has [] f) (has_past [] f (omega arith))))

added_without : (t : State) (a : Action) (f : ℕ) → has a.add.words f ≡ true → has (result (without_deletes a) t) f ≡ true
added_without t a f h = has_union (without t []) a.add.words f ∙ or_right _ _ h

module _ (facts : State) (acts : List Action) (goal s : State) (q : Asked facts acts goal s) where
  reached_more : (w u : List Estimate) (k : ℕ) → k < length acts → length u ≡ fact_count → Reached acts s w u → Reached acts s w (lowered (cost w (act acts k)) (act acts k).add.words u)
  reached_more w u k l size r = ⊎_elim apply (λ h. keep h) (cases_Bool (weighed c))
    where
      a : Action
      a = act acts k

      c : Estimate
      c = cost w (act acts k)

      fact : (f : ℕ) → f < fact_count → weight (lowered (cost w (act acts k)) (act acts k).add.words u) f ≡ least_if (has (act acts k).add.words f) (cost w (act acts k)) (weight u f)
      fact f m = lowered_at (cost w (act acts k)) (act acts k).add.words u f (omega (arith, size))

      keep : weighed (cost w (act acts k)) ≡ false → Reached acts s w (lowered (cost w (act acts k)) (act acts k).add.words u)
      keep h = record {
        «list» = r.«list»;
        end = r.end;
        run = r.run;
        first = r.first;
        second = λ f m y.
            ⊎_elim (λ z. r.second f m z) (λ z. absurd (both_ways (weighed (cost w (act acts k))) h z.1))
            (least_if_weighed (has (act acts k).add.words f) (cost w (act acts k)) (weight u f) (sym (ap weighed (fact f m)) ∙ y));
      }

      apply : weighed (cost w (act acts k)) ≡ true → Reached acts s w (lowered (cost w (act acts k)) (act acts k).add.words u)
      apply h =
          let pre : State = (act acts k).pre.words in
          let can : subset pre r.end ≡ true =
          subset_below facts pre r.end q.few q.small (pre_within facts (act acts k) (q.within k l)) (λ f m y. r.first f m (weighed_cost w (act acts k) h f m y)) in
          let same = act_relaxed acts k in
          let goes : Run (map without_deletes acts) s (r.«list» ++ k ∷ []) (result (act (map without_deletes acts) k) r.end) =
          run_more (map without_deletes acts) s r.end k r.«list» r.run (omega (arith, length-map acts without_deletes)) (ap (λ (x : Action). applicable x r.end) same ∙ can) in
          record {
            «list» = r.«list» ++ k ∷ [];
            end = result (without_deletes (act acts k)) r.end;
            run = rw same at goes;
            first = λ f m y. kept_without r.end (act acts k) f (r.first f m y);
            second = λ f m y.
                ⊎_elim (λ z. kept_without r.end (act acts k) f (r.second f m z)) (λ z. added_without r.end (act acts k) f z.0)
                (least_if_weighed (has (act acts k).add.words f) (cost w (act acts k)) (weight u f) (sym (ap weighed (fact f m)) ∙ y));
          }

  reached_pass : (w : List Estimate) → length w ≡ fact_count → Reached acts s w w → (n : ℕ) → n ≤ length acts → Reached acts s w (pass (λ _. cost w) acts n w)
  reached_pass w size r zero l = rw (pass_none (λ _. cost w) acts w) r
  reached_pass w size r (suc n) l =
      rw (pass_more (λ _. cost w) acts n w)
      (reached_more w (pass (λ _. cost w) acts n w) n (omega arith) (pass_length (λ _. cost w) acts n w ∙ size) (reached_pass w size r n (omega arith)))

  reached_round : (w : List Estimate) → (length w ≡ fact_count) × Reached acts s w w → (length (round acts w) ≡ fact_count) × Reached acts s (round acts w) (round acts w)
  reached_round w p =
      let r = reached_pass w p.0 p.1 (length acts) (omega arith) in
      (pass_length (λ _. cost w) acts (length acts) w ∙ p.0, record { «list» = r.«list»; end = r.end; run = r.run; first = r.second; second = r.second })

  reached_weights : Reached acts s (weights acts s) (weights acts s)
  unfolding weights
  reached_weights =
      (by_rounds acts (λ w. (length w ≡ fact_count) × Reached acts s w w) reached_round (height (opening s)) (opening s)
      (opening_length s, record { «list» = []; end = s; run = stop; first = opened; second = opened })).1
    where
      weighed_open : (b : Bool) → weighed (cond b (Steps 0) Never) ≡ true → b ≡ true
      weighed_open true h = refl
      weighed_open false h = h

      opened : (f : ℕ) → f < fact_count → weighed (weight (opening s) f) ≡ true → has s f ≡ true
      opened f l h = weighed_open (has s f) (sym (ap weighed (opening_at s f l)) ∙ h)

  weighed_reached : weighed (goal_weight acts goal s) ≡ true → (ks : List ℕ) × IsRelaxedPlan acts s goal ks
  weighed_reached h =
      let r = reached_weights in
      (r.«list», (r.end, r.run, subset_below facts goal r.end q.few q.small q.goal_in (λ f l y. r.first f l (weighed_total (weights acts s) goal fact_count h f l y))))

pub unreached_never : UnreachedNever
unreached_never facts acts goal s q none =
    never_from (goal_weight acts goal s) (λ h. let plan = weighed_reached facts acts goal s q h in none plan.0 plan.1)

pub greatest_alone : GreatestAlone
greatest_alone acts s w p f l = greatest_agree acts s w (weights acts s) p (weights_greatest acts s) f l
