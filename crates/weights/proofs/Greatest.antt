-- The weights are the only greatest table.
use Rattle.std.specs.Prelude.{◌≡◌, ℕ, zero, suc, ◌<◌, ◌≤◌, true, List, length, nat_lt, refl}
use Rattle.std.proofs.Common.{sym, ap, ◌∙◌, ⊎_elim, arith}
use Rattle.std.proofs.lemmas.List.{ext_get_or}
use Rattle.std.proofs.lemmas.Bool.{cases_Bool, false≢true, leb-true}
use Rattle.heuristic.specs.declared.estimate.Estimate.{Estimate}
use Rattle.heuristic.specs.declared.estimate.Estimate.TheVariants.{Steps, Never}
use Rattle.strips.specs.Semantics.{State}
use Rattle.strips.specs.declared.action.Action.{Action}
use Rattle.weights.specs.Tables.{Greatest, at_most, cost, fact_count, weight}
use Rattle.weights.specs.Weights.{height, opening, pass, round, settled, weights}
use Rattle.weights.specs.Order.{cost_capped, cost_mono}
use Rattle.weights.specs.Lowering.{pass_length, pass_still}
use Rattle.weights.specs.Greatest.{Between, between_pass, between_still, opening_length, settled_falls, settled_none, settled_stops, weights_greatest}

pub at_most_both : (a b : Estimate) → at_most a b ≡ true → at_most b a ≡ true → a ≡ b
at_most_both (Steps m) (Steps n) p q = ap Steps (omega (arith, leb-true m n p, leb-true n m q))
at_most_both (Steps m) Never p q = absurd (false≢true q)
at_most_both Never (Steps n) p q = absurd (false≢true p)
at_most_both Never Never p q = refl

pub between_sweep : (acts : List Action) (s : State) (w : List Estimate) → Between acts s w → Between acts s (pass cost acts (length acts) w)
between_sweep acts s w b = between_pass cost acts s w b (λ v _ u a below. cost_mono v u a below)

pub sweep_still : (acts : List Action) (s : State) (w : List Estimate) → Between acts s w → height w ≤ height (pass cost acts (length acts) w) → Greatest acts s w
sweep_still acts s w b h = between_still acts s w b (pass_still cost acts cost_capped (length acts) w h).1

-- what holds of the opening and is kept by a round holds of the weights
pub by_rounds : (acts : List Action) (P : List Estimate → Type 0) → ((w : List Estimate) → P w → P (round acts w)) → (n : ℕ) (w : List Estimate) → P w → P (settled acts n w)
by_rounds acts P step zero w p = rw (settled_none acts w) p
by_rounds acts P step (suc n) w p =
    ⊎_elim
    (λ h. rw (settled_falls acts n w h) (by_rounds acts P step n (round acts w) (step w p)))
    (λ h. rw (settled_stops acts n w h) p)
    (cases_Bool (nat_lt (height (round acts w)) (height w)))

pub weights_length : (acts : List Action) (s : State) → length (weights acts s) ≡ fact_count
unfolding weights
weights_length acts s = by_rounds acts (λ w. length w ≡ fact_count) (λ w e. pass_length (λ _. cost w) acts (length acts) w ∙ e) (height (opening s)) (opening s) (opening_length s)

pub greatest_agree : (acts : List Action) (s : State) (v w : List Estimate) → Greatest acts s v → Greatest acts s w → (f : ℕ) → f < fact_count → weight v f ≡ weight w f
greatest_agree acts s v w p q f l = at_most_both (weight v f) (weight w f) (q.above v p.feasible f l) (p.above w q.feasible f l)

-- a table of a weight for each fact that is the greatest is the weights
pub greatest_is : (acts : List Action) (s : State) (w : List Estimate) → length w ≡ fact_count → Greatest acts s w → w ≡ weights acts s
greatest_is acts s w size p =
    ext_get_or Never w (weights acts s) (size ∙ sym (weights_length acts s)) (λ f l. greatest_agree acts s w (weights acts s) p (weights_greatest acts s) f (inside f l))
  where
    inside : (f : ℕ) → f < length w → f < fact_count
    inside f l = omega (arith, size)
