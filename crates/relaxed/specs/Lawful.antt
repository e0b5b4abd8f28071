-- The relaxed plan keeps the laws.
use Rattle.std.specs.Prelude.{◌≡◌, ℕ, zero, suc, ◌+◌, ◌-◌, ◌<◌, ◌≤◌, Bool, true, false, cond, not, ◌&&◌, List, [], length, ◌≢◌, nat_lt, refl}
use Rattle.std.proofs.Common.{sym, ap, ◌∙◌, ⊎_elim, arith}
use Rattle.std.proofs.lemmas.Bool.{cases_Bool, cases_lt, and_parts, and_from, both_ways, or_cases, not_from_false, ltb-true, ltb-false, lt-ltb}
use Rattle.facts.specs.Words.{has, subset, without}
use Rattle.facts.proofs.Sets.{subset_has, has_union, has_without, has_past}
use Rattle.strips.specs.declared.action.Action.{Action}
use Rattle.strips.specs.Semantics.{State, applicable, result, Run, stop, step, IsPlan}
use Rattle.strips.specs.Sound.{within, act}
use Rattle.strips.proofs.Runs.{result_within}
use Rattle.heuristic.specs.declared.estimate.Estimate.TheVariants.{Steps, Never}
use Rattle.heuristic.specs.Useful.{useful}
use Rattle.heuristic.specs.Laws.{Laws, Asked}
use Rattle.heuristic.specs.Words.{pre_within, steps_same, subset_below}
use Rattle.relaxed.specs.Layers.{layer, new_fact}
use Rattle.relaxed.specs.Extract.{Marks, adder, chosen, pass, lower, treated, extracted}
use Rattle.relaxed.specs.Plan.{last, relaxed_plan, helpful}
use Rattle.relaxed.specs.Firsts.{first_before}
use Rattle.relaxed.specs.Growing.{layer_none, layer_suc, grown_has, last_at, last_passes}
use Rattle.relaxed.specs.Amounts.{few_actions, amount, amount_none, repeats, lacking, grows}

never_steps : (n : ℕ) → Never ≢ Steps n
never_steps n e = let z : ◌≡◌ {A = ℕ} 0 1 = cc in omega arith

pub plan_steps : (acts : List Action) (goal s : State) (top r : ℕ) → last acts goal s ≡ top → top ≤ 256 → r ≡ (extracted acts s goal top).count → Steps r ≡ relaxed_plan acts goal s
unfolding relaxed_plan
plan_steps acts goal s top r e l h =
    ap Steps h ∙ sym (ap (λ (b : Bool). cond b (Steps (extracted acts s goal top).count) Never) (lt-ltb top 257 (omega arith)))
    ∙ sym (ap (λ (t : ℕ). cond (nat_lt t 257) (Steps (extracted acts s goal t).count) Never) e)

-- the two cases of the estimate
pub steps_are : (acts : List Action) (goal s : State) (n : ℕ) → relaxed_plan acts goal s ≡ Steps n → (last acts goal s < 257) × ((extracted acts s goal (last acts goal s)).count ≡ n)
unfolding relaxed_plan
steps_are acts goal s n e = go (nat_lt (last acts goal s) 257) refl e
  where
    go : (b : Bool) → nat_lt (last acts goal s) 257 ≡ b → cond b (Steps (extracted acts s goal (last acts goal s)).count) Never ≡ Steps n → (last acts goal s < 257) × ((extracted acts s goal (last acts goal s)).count ≡ n)
    go true h x = (ltb-true (last acts goal s) 257 h, steps_same _ n x)
    go false h x = absurd (never_steps n x)

pub never_is : (acts : List Action) (goal s : State) → relaxed_plan acts goal s ≡ Never → 257 ≤ last acts goal s
unfolding relaxed_plan
never_is acts goal s e = go (nat_lt (last acts goal s) 257) refl e
  where
    go : (b : Bool) → nat_lt (last acts goal s) 257 ≡ b → cond b (Steps (extracted acts s goal (last acts goal s)).count) Never ≡ Never → 257 ≤ last acts goal s
    go true h x = absurd (never_steps _ (sym x))
    go false h x = ltb-false (last acts goal s) 257 h

last_before : (acts : List Action) (goal s : State) (j : ℕ) → j < last acts goal s → subset goal (layer acts s j) ≡ false
unfolding last
last_before acts goal s j l = first_before (λ i. subset goal (layer acts s i)) 257 j l

-- never: no plan
stays : (facts : State) (acts : List Action) (goal s u t : State) (i : ℕ) (ks : List ℕ) → Asked facts acts goal s → ((f : ℕ) → f < 256 → new_fact acts s i f ≡ false) → subset u facts ≡ true → ((f : ℕ) → f < 256 → has u f ≡ true → has (layer acts s i) f ≡ true) → Run acts u ks t → (f : ℕ) → f < 256 → has t f ≡ true → has (layer acts s i) f ≡ true
stays facts acts goal s u t i ks q none inside h stop = h
stays facts acts goal s u t i ks q none inside h (step {k = k} {ks = ls} lk p r) =
    let a : Action = act acts k in
    let ok : within facts a ≡ true = q.within k lk in
    let here : applicable a (layer acts s i) ≡ true = subset_below facts a.pre.words (layer acts s i) q.few q.small (pre_within facts a ok) (λ f l y. h f l (subset_has a.pre.words u p f y)) in
    stays facts acts goal s (result a u) t i ls q none (result_within facts a u ok inside)
    (λ f l y.
    ⊎_elim
    (λ z. h f l (and_parts _ _ (sym (has_without u a.del.words f) ∙ z)).0)
    (λ z.
    let next : has (layer acts s (suc i)) f ≡ true = ap (λ (x : State). has x f) (layer_suc acts s i) ∙ grown_has acts (layer acts s i) (length acts) k f lk here z in
    ⊎_elim (λ v. v) (λ v. absurd (both_ways (new_fact acts s i f) (none f l) (and_from _ _ next (not_from_false _ v)))) (cases_Bool (has (layer acts s i) f)))
    (or_cases _ _ (sym (has_union (without u a.del.words) a.add.words f) ∙ y)))
    r

layer_grows : (acts : List Action) (s : State) (i f : ℕ) → has s f ≡ true → has (layer acts s i) f ≡ true
layer_grows acts s zero f h = ap (λ (x : State). has x f) (sym (layer_none acts s)) ∙ h
layer_grows acts s (suc i) f h = grows acts s i f (layer_grows acts s i f h)

pub no_plan : (facts : State) (acts : List Action) (goal s : State) → Asked facts acts goal s → relaxed_plan acts goal s ≡ Never → (ks : List ℕ) → IsPlan acts s goal ks → ⊥
no_plan facts acts goal s q e ks plan =
    ⊎_elim
    (λ x.
    let i : ℕ = x.0 in
    let l = x.1.0 in
    let far = never_is acts goal s e in
    let none = amount_none (new_fact acts s i) 256 x.1.1 in
    let in_layer = stays facts acts goal s s plan.0 i ks q none q.state_in (λ f m y. layer_grows acts s i f y) plan.1 in
    let all = subset_below facts goal (layer acts s i) q.few q.small q.goal_in (λ f m y. in_layer f m (subset_has goal plan.0 plan.2 f y)) in
    both_ways (subset goal (layer acts s i)) (last_before acts goal s i (omega arith)) all)
    (λ h. too_many (amount (lacking acts s 257) 256) h)
    (repeats acts s 257)
  where
    too_many : (a : ℕ) → a + 257 ≤ 256 → ⊥
    too_many a h = omega arith

-- zero: the goals are true
visit_idle : (b : Bool) (a : Action) (m : Marks) → (cond b (chosen a m) m).count ≡ m.count → b ≡ false
visit_idle true a m e = absurd (omega arith)
visit_idle false a m e = refl

visit_grows : (b : Bool) (a : Action) (m : Marks) → m.count ≤ (cond b (chosen a m) m).count
visit_grows true a m = omega arith
visit_grows false a m = omega arith

abbrev tests : List Action → State → ℕ → ℕ → Marks → Bool
tests acts s i f m = has m.wanted f && (new_fact acts s i f && not (has m.here f))

pass_grows : (acts : List Action) (s : State) (i n : ℕ) (m : Marks) → m.count ≤ (pass acts s i n m).count
unfolding pass
pass_grows acts s i zero m = omega arith
pass_grows acts s i (suc n) m =
    let p : Marks = pass acts s i n m in
    let h = pass_grows acts s i n m in
    let v = visit_grows (tests acts s i n p) (act acts (adder acts s i n)) p in
    omega arith

pass_idle : (acts : List Action) (s : State) (i n : ℕ) (m : Marks) → (pass acts s i n m).count ≡ m.count → (pass acts s i n m ≡ m) × ((f : ℕ) → f < n → tests acts s i f m ≡ false)
unfolding pass
pass_idle acts s i zero m e = (refl, λ f l. absurd (omega arith))
pass_idle acts s i (suc n) m e =
    let p : Marks = pass acts s i n m in
    let a : Action = act acts (adder acts s i n) in
    let h = pass_grows acts s i n m in
    let v = visit_grows (tests acts s i n p) a p in
    let ih = pass_idle acts s i n m (omega arith) in
    let t : tests acts s i n p ≡ false = visit_idle (tests acts s i n p) a p (omega arith) in (
      ap (λ (b : Bool). cond b (chosen a p) p) t ∙ ih.0,
      λ f l. ⊎_elim (λ k. ih.1 f k) (λ k. let q : f ≡ n = omega arith in ap (λ (x : ℕ). tests acts s i x m) q ∙ ap (tests acts s i n) (sym ih.0) ∙ t) (cases_lt f n),
    )

treated_grows : (acts : List Action) (s goal : State) (top n : ℕ) → (treated acts s goal top 1).count ≤ (treated acts s goal top (suc n)).count
unfolding treated
treated_grows acts s goal top zero = omega arith
treated_grows acts s goal top (suc n) =
    let h = treated_grows acts s goal top n in
    let p = pass_grows acts s (top - suc (suc n)) 256 (lower (treated acts s goal top (suc n))) in
    omega arith

some_wanted : (acts : List Action) (s goal : State) (t : ℕ) → (treated acts s goal (suc t) 1).count ≡ 0 → (f : ℕ) → f < 256 → has goal f ≡ true → has (layer acts s (suc t)) f ≡ true → has (layer acts s t) f ≡ true
unfolding treated
some_wanted acts s goal t e f l y z =
    let d : suc t - 1 ≡ t = omega arith in
    let m : Marks = record { wanted = goal; here = []; below = []; count = 0 } in
    let e' : (pass acts s t 256 m).count ≡ 0 = ap (λ (x : ℕ). (pass acts s x 256 m).count) (sym d) ∙ e in
    let no = (pass_idle acts s t 256 m e').1 f l in
    ⊎_elim (λ v. v)
    (λ v. absurd (both_ways (tests acts s t f m) no (and_from _ _ y (and_from _ _ (and_from _ _ z (not_from_false _ v)) (not_from_false _ (has_past [] f (omega arith)))))))
    (cases_Bool (has (layer acts s t) f))

zero_top : (facts : State) (acts : List Action) (goal s : State) (top : ℕ) → Asked facts acts goal s → last acts goal s ≡ top → top < 257 → (extracted acts s goal top).count ≡ 0 → subset goal s ≡ true
zero_top facts acts goal s zero q e l c = ap (subset goal) (layer_none acts s) ∙ last_passes acts goal s 0 e l
zero_top facts acts goal s (suc t) q e l c =
    let g = treated_grows acts s goal (suc t) t in
    let passes = last_passes acts goal s (suc t) e l in
    let all = subset_below facts goal (layer acts s t) q.few q.small q.goal_in (λ f m y. some_wanted acts s goal t (omega arith) f m y (subset_has goal (layer acts s (suc t)) passes f y)) in
    absurd (both_ways (subset goal (layer acts s t)) (last_before acts goal s t (omega arith)) all)

zero_count : (acts : List Action) (goal s : State) → (extracted acts s goal 0).count ≡ 0
unfolding treated
zero_count acts goal s = refl

pub relaxed_laws : Laws relaxed_plan helpful
unfolding helpful useful
relaxed_laws = record {
  reached = λ facts acts goal s q e. sym (plan_steps acts goal s 0 0 (last_at acts goal s s 0 (omega arith) (layer_none acts s) (λ j l. absurd (omega arith)) (sym e)) (omega arith) (sym (zero_count acts goal s)));
  zero = λ facts acts goal s q e. let r = steps_are acts goal s 0 e in zero_top facts acts goal s (last acts goal s) q refl r.0 r.1;
  never = no_plan;
  most = λ facts acts goal s n q e. let r = steps_are acts goal s n e in let b = r.1 in let few = few_actions acts s goal (last acts goal s) in omega arith;
  can = λ facts acts goal s k q e. let p = and_parts _ _ (and_parts _ _ e).1 in (ltb-true k (length acts) p.0, (and_parts _ _ p.1).1);
}
