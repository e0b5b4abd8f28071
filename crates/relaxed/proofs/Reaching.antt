-- What the layers reach, a list of actions reaches where deletes are ignored.
use Rattle.std.proofs.Common.{◌≡◌, ℕ, zero, suc, ◌<◌, ◌≤◌, Bool, true, false, cond, not, ◌&&◌, List, [], ◌∷◌, ◌++◌, map, length, sym, refl, ap, ◌∙◌, ⊎_elim, arith}
use lib.ListN.{length-map}
use Rattle.std.proofs.lemmas.Bool.{and_from, and_parts, or_cases, or_left, or_right}
use Rattle.facts.specs.Words.{has, subset, union, without}
use Rattle.facts.proofs.Sets.{has_past, has_union, has_without, subset_has}
use Rattle.strips.specs.declared.action.Action.{Action}
use Rattle.strips.specs.Semantics.{State, applicable, result, Run, stop}
use Rattle.strips.specs.Sound.{act, within}
use Rattle.strips.proofs.Runs.{result_within, run_more}
use Rattle.heuristic.specs.declared.estimate.Estimate.{Estimate}
use Rattle.heuristic.specs.declared.estimate.Estimate.TheVariants.{Steps, Never}
use Rattle.heuristic.specs.Laws.{Asked}
use Rattle.heuristic.specs.Relaxation.{IsRelaxedPlan, without_deletes}
use Rattle.heuristic.proofs.Relaxing.{act_relaxed}
use Rattle.relaxed.specs.Layers.{brings, grown, layer, with_adds}
use Rattle.relaxed.specs.Laws.{AtMostFacts, NeverIsNone, NoneIsNever}
use Rattle.relaxed.specs.Plan.{last, relaxed_plan}
use Rattle.relaxed.specs.Amounts.{few_actions}
use Rattle.relaxed.specs.Growing.{last_passes, grown_keeps, layer_none, layer_suc}
use Rattle.relaxed.proofs.Answering.{plan_never}
use Rattle.relaxed.specs.Firsts.{first_le}
use Rattle.relaxed.proofs.Building.{first_same}
use Rattle.heuristic.specs.Words.{pre_within, subset_below}
use Rattle.relaxed.specs.Lawful.{never_is, no_plan, steps_are}

-- layers do not see deletes
grown_same : (acts : List Action) (base : State) (n : ℕ) → grown (map without_deletes acts) base n ≡ grown acts base n
unfolding grown
grown_same acts base zero = refl
grown_same acts base (suc n) =
    ap (with_adds (map without_deletes acts) base n) (grown_same acts base n)
    ∙ ap (λ (a : Action). cond (applicable a base && not (subset a.add.words (grown acts base n))) (union (grown acts base n) a.add.words) (grown acts base n)) (act_relaxed acts n)

layer_same : (acts : List Action) (s : State) (i : ℕ) → layer (map without_deletes acts) s i ≡ layer acts s i
layer_same acts s zero = sym (layer_none (map without_deletes acts) s) ∙ layer_none acts s
layer_same acts s (suc i) =
    layer_suc (map without_deletes acts) s i
    ∙ ap (λ (n : ℕ). grown (map without_deletes acts) (layer (map without_deletes acts) s i) n) (length-map acts without_deletes)
    ∙ ap (λ (w : State). grown (map without_deletes acts) w (length acts)) (layer_same acts s i)
    ∙ grown_same acts (layer acts s i) (length acts)
    ∙ sym (layer_suc acts s i)

last_same : (acts : List Action) (goal s : State) → last (map without_deletes acts) goal s ≡ last acts goal s
unfolding last
last_same acts goal s = first_same _ _ 257 (λ k l. ap (subset goal) (layer_same acts s k))

last_le : (acts : List Action) (goal s : State) → last acts goal s ≤ 257
unfolding last
last_le acts goal s = first_le (λ i. subset goal (layer acts s i)) 257

nothing_within : (facts : State) → subset [] facts ≡ true
unfolding subset
nothing_within facts = refl

still_within : (facts : State) (a : Action) → within facts a ≡ true → within facts (without_deletes a) ≡ true
unfolding within
still_within facts a e =
    let pre : Bool = subset a.pre.words facts in
    let add : Bool = subset a.add.words facts in
    let p = and_parts pre (add && subset a.del.words facts) e in
    let q = and_parts add (subset a.del.words facts) p.1 in
    and_from pre (add && subset [] facts) p.0 (and_from add (subset [] facts) q.0 (nothing_within facts))

pub asked_relaxed : (facts : State) (acts : List Action) (goal s : State) → Asked facts acts goal s → Asked facts (map without_deletes acts) goal s
asked_relaxed facts acts goal s q =
    record {
      few = q.few;
      small = q.small;
      within = λ k l. ap (within facts) (act_relaxed acts k) ∙ still_within facts (act acts k) (q.within k (rw (length-map acts without_deletes) at l));
      goal_in = q.goal_in;
      state_in = q.state_in;
    }

pub never_is_none : NeverIsNone
never_is_none facts acts goal s q e ks plan =
    let far = never_is acts goal s e in
    let le = last_le acts goal s in
    let top : last (map without_deletes acts) goal s ≡ 257 = last_same acts goal s ∙ omega arith in
    no_plan facts (map without_deletes acts) goal s (asked_relaxed facts acts goal s q) (sym (plan_never (map without_deletes acts) goal s top)) ks plan

-- a state within the facts in use that a list reaches, and that has all facts of a set
record Covers (facts : State) (acts : List Action) (s ws : State) : Type 0 where
  ks : List ℕ
  at : State
  run : Run (map without_deletes acts) s ks at
  inside : subset at facts ≡ true
  has_all : (f : ℕ) → f < 256 → has ws f ≡ true → has at f ≡ true

-- a result with deletes ignored keeps what was true, and has the adds
kept_after : (a : Action) (t : State) (f : ℕ) → has t f ≡ true → has (result (without_deletes a) t) f ≡ true
kept_after a t f h =
    has_union (without t []) a.add.words f
    ∙ or_left _ _ (has_without t [] f ∙ and_from _ _ h (ap not (has_past [] f (omega arith))))

added_after : (a : Action) (t : State) (f : ℕ) → has a.add.words f ≡ true → has (result (without_deletes a) t) f ≡ true
added_after a t f h = has_union (without t []) a.add.words f ∙ or_right (has (without t []) f) _ h

-- one action more of a layer
covers_more : (facts : State) (acts : List Action) (goal s base : State) (n : ℕ) → Asked facts acts goal s → n < length acts → Covers facts acts s (grown acts base n) → Covers facts acts s (grown acts base (suc n))
unfolding grown
covers_more facts acts goal s base n q l c = go (brings acts base (grown acts base n) n) refl
  where
    go : (b : Bool) → brings acts base (grown acts base n) n ≡ b → Covers facts acts s (cond b (union (grown acts base n) (act acts n).add.words) (grown acts base n))
    go false e = c
    go true e =
        let a : Action = act acts n in
        let is = act_relaxed acts n in
        let ok = q.within n l in
        let can : applicable a c.at ≡ true =
        subset_below facts a.pre.words c.at q.few q.small (pre_within facts a ok)
        (λ f m y. c.has_all f m (grown_keeps acts base n f (subset_has a.pre.words base (and_parts _ _ e).0 f y))) in
        let there : applicable (act (map without_deletes acts) n) c.at ≡ true = ap (λ (x : Action). applicable x c.at) is ∙ can in
        let next : State = result (act (map without_deletes acts) n) c.at in
        let same : next ≡ result (without_deletes a) c.at = ap (λ (x : Action). result x c.at) is in
        record {
          ks = c.ks ++ n ∷ [];
          at = next;
          run = run_more (map without_deletes acts) s c.at n c.ks c.run (rw (length-map acts without_deletes) l) there;
          inside = ap (λ (w : State). subset w facts) same ∙ result_within facts (without_deletes a) c.at (still_within facts a ok) c.inside;
          has_all = λ f m y.
              ap (λ (w : State). has w f) same
              ∙ ⊎_elim (λ z. kept_after a c.at f (c.has_all f m z)) (λ z. added_after a c.at f z) (or_cases _ _ (sym (has_union (grown acts base n) a.add.words f) ∙ y));
        }

covers_all : (facts : State) (acts : List Action) (goal s base : State) (n : ℕ) → Asked facts acts goal s → n ≤ length acts → Covers facts acts s base → Covers facts acts s (grown acts base n)
unfolding grown
covers_all facts acts goal s base zero q l c = c
covers_all facts acts goal s base (suc n) q l c = covers_more facts acts goal s base n q (omega arith) (covers_all facts acts goal s base n q (omega arith) c)

covers_layer : (facts : State) (acts : List Action) (goal s : State) (i : ℕ) → Asked facts acts goal s → Covers facts acts s (layer acts s i)
covers_layer facts acts goal s zero q =
    record { ks = []; at = s; run = stop; inside = q.state_in; has_all = λ f m y. ap (λ (w : State). has w f) (layer_none acts s) ∙ y }
covers_layer facts acts goal s (suc i) q =
    let all = covers_all facts acts goal s (layer acts s i) (length acts) q (omega arith) (covers_layer facts acts goal s i q) in
    rw (layer_suc acts s i) all

-- where a layer has all goals a list of actions reaches them
reaches_goals : (facts : State) (acts : List Action) (goal s : State) (i : ℕ) → Asked facts acts goal s → subset goal (layer acts s i) ≡ true → (ks : List ℕ) × IsRelaxedPlan acts s goal ks
reaches_goals facts acts goal s i q e =
    let c = covers_layer facts acts goal s i q in (
      c.ks,
      (c.at, c.run, subset_below facts goal c.at q.few q.small q.goal_in (λ f m y. c.has_all f m (subset_has goal (layer acts s i) e f y))),
    )

pub none_is_never : NoneIsNever
none_is_never facts acts goal s q none = go (relaxed_plan acts goal s) refl
  where
    go : (r : Estimate) → relaxed_plan acts goal s ≡ r → r ≡ Never
    go Never e = refl
    go (Steps n) e =
        let top = steps_are acts goal s n e in
        let plan = reaches_goals facts acts goal s (last acts goal s) q (last_passes acts goal s (last acts goal s) refl top.0) in
        absurd (none plan.0 plan.1)

pub at_most_facts : AtMostFacts
at_most_facts acts goal s n e =
    let r = steps_are acts goal s n e in
    let b = r.1 in
    let few = few_actions acts s goal (last acts goal s) in
    omega arith
