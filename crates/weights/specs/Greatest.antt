-- The weights are the greatest table that no action can lower.
use Rattle.std.specs.Prelude.{◌≡◌, ℕ, zero, suc, ◌<◌, ◌≤◌, Bool, true, false, cond, List, length, nat_lt, refl}
use Rattle.std.proofs.Common.{sym, ap, ◌∙◌, ⊎_elim, arith}
use Rattle.std.proofs.lemmas.List.FromFn.{get_or-map-range_with_len, length-map-range_with_len}
use Rattle.std.proofs.lemmas.Bool.{cases_Bool, le-ltb, ltb-false, ltb-true}
use Rattle.facts.specs.Words.{has}
use Rattle.heuristic.specs.declared.estimate.Estimate.{Estimate}
use Rattle.heuristic.specs.declared.estimate.Estimate.TheVariants.{Steps, Never}
use Rattle.strips.specs.Semantics.{State}
use Rattle.strips.specs.Sound.{act}
use Rattle.strips.specs.declared.action.Action.{Action}
use Rattle.weights.specs.Tables.{Feasible, Greatest, at_most, cost, fact_count, weight}
use Rattle.weights.specs.Weights.{height, least_if, lowered, opening, pass, round, settled, weights}
use Rattle.weights.specs.Order.{at_most_never, cost_capped, cost_mono, least_kept}
use Rattle.weights.specs.Lowering.{Below, lowered_at, pass_above, pass_length, pass_still, pass_zero}

-- a table on the way from the opening down: it lies above every feasible one
pub record Between (acts : List Action) (s : State) (w : List Estimate) : Type 0 where
  pub size : length w ≡ fact_count
  pub true_now : (f : ℕ) → f < fact_count → has s f ≡ true → weight w f ≡ Steps 0
  pub above : (v : List Estimate) → Feasible acts s v → Below v w

pub opening_length : (s : State) → length (opening s) ≡ fact_count
unfolding opening
opening_length s = length-map-range_with_len (λ f. cond (has s f) (Steps 0) Never) 0 fact_count

pub opening_at : (s : State) (f : ℕ) → f < fact_count → weight (opening s) f ≡ cond (has s f) (Steps 0) Never
unfolding opening
opening_at s f l = get_or-map-range_with_len (λ f. cond (has s f) (Steps 0) Never) 0 fact_count f f Never l (omega arith)

under_opening : (b : Bool) (e : Estimate) → (b ≡ true → e ≡ Steps 0) → at_most e (cond b (Steps 0) Never) ≡ true
under_opening true e h = ap (λ (x : Estimate). at_most x (Steps 0)) (h refl)
under_opening false e h = at_most_never e

pub between_opening : (acts : List Action) (s : State) → Between acts s (opening s)
between_opening acts s = record {
  size = opening_length s;
  true_now = λ f l h. opening_at s f l ∙ ap (λ (b : Bool). cond b (Steps 0) Never) h;
  above = λ v feasible f l. ap (at_most (weight v f)) (opening_at s f l) ∙ under_opening (has s f) (weight v f) (feasible.true_now f l);
}

-- a pass of all actions, whether they look at the table before the pass or at that of their turn
pub between_pass : (costs : List Estimate → Action → Estimate) (acts : List Action) (s : State) (w : List Estimate) → Between acts s w → ((v : List Estimate) → Below v w → (u : List Estimate) (a : Action) → Below v u → at_most (cost v a) (costs u a) ≡ true) → Between acts s (pass costs acts (length acts) w)
between_pass costs acts s w b bound = record {
  size = pass_length costs acts (length acts) w ∙ b.size;
  true_now = λ f l h. pass_zero costs acts (length acts) w f (inside f l) (b.true_now f l h);
  above = λ v feasible. pass_above costs acts s v w feasible b.size (b.above v feasible) (bound v (b.above v feasible)) (length acts) (omega arith);
}
  where
    inside : (f : ℕ) → f < fact_count → f < length w
    inside f l = omega (arith, b.size)

pub between_round : (acts : List Action) (s : State) (w : List Estimate) → Between acts s w → Between acts s (round acts w)
between_round acts s w b = between_pass (λ _. cost w) acts s w b (λ v below u a _. cost_mono v w a below)

-- where no action lowers anything, the table is the greatest
kept_bound : (b : Bool) (c e : Estimate) → b ≡ true → least_if b c e ≡ e → at_most e c ≡ true
kept_bound true c e p h = least_kept c e h
kept_bound false c e p h = absurd (let z : ◌≡◌ {A = ℕ} 0 1 = cc in omega arith)

pub between_still : (acts : List Action) (s : State) (w : List Estimate) → Between acts s w → ((k : ℕ) → k < length acts → lowered (cost w (act acts k)) (act acts k).add.words w ≡ w) → Greatest acts s w
between_still acts s w b kept = record {
  feasible = record {
    true_now = b.true_now;
    no_lower = λ k f l m adds.
        let x : State = (act acts k).add.words in
        kept_bound (has x f) (cost w (act acts k)) (weight w f) adds
        (sym (lowered_at (cost w (act acts k)) x w f (inside f m)) ∙ ap (λ (u : List Estimate). weight u f) (kept k l));
  };
  above = b.above;
}
  where
    inside : (f : ℕ) → f < fact_count → f < length w
    inside f l = omega (arith, b.size)

-- rounds until nothing falls
pub settled_none : (acts : List Action) (w : List Estimate) → settled acts 0 w ≡ w
unfolding settled
settled_none acts w = refl

pub settled_falls : (acts : List Action) (n : ℕ) (w : List Estimate) → nat_lt (height (round acts w)) (height w) ≡ true → settled acts (suc n) w ≡ settled acts n (round acts w)
unfolding settled
settled_falls acts n w h = ap (λ (b : Bool). elim b [ true ↦ settled acts n (round acts w) | false ↦ w ]) h

pub settled_stops : (acts : List Action) (n : ℕ) (w : List Estimate) → nat_lt (height (round acts w)) (height w) ≡ false → settled acts (suc n) w ≡ w
unfolding settled
settled_stops acts n w h = ap (λ (b : Bool). elim b [ true ↦ settled acts n (round acts w) | false ↦ w ]) h

round_still : (acts : List Action) (s : State) (w : List Estimate) → Between acts s w → nat_lt (height (round acts w)) (height w) ≡ false → Greatest acts s w
round_still acts s w b h =
    between_still acts s w b (pass_still (λ _. cost w) acts (λ u a. cost_capped w a) (length acts) w (ltb-false (height (round acts w)) (height w) h)).1

settled_greatest : (acts : List Action) (s : State) (n : ℕ) (w : List Estimate) → height w ≤ n → Between acts s w → Greatest acts s (settled acts n w)
settled_greatest acts s zero w l b =
    rw (settled_none acts w) (round_still acts s w b (le-ltb (height (round acts w)) (height w) (omega arith)))
settled_greatest acts s (suc n) w l b =
    ⊎_elim
    (λ h.
    let lower : height (round acts w) ≤ n = less _ _ _ (ltb-true (height (round acts w)) (height w) h) l in
    rw (settled_falls acts n w h) (settled_greatest acts s n (round acts w) lower (between_round acts s w b)))
    (λ h. rw (settled_stops acts n w h) (round_still acts s w b h))
    (cases_Bool (nat_lt (height (round acts w)) (height w)))
  where
    less : (a b n : ℕ) → a < b → b ≤ suc n → a ≤ n
    less a b n p q = omega arith

pub weights_greatest : (acts : List Action) (s : State) → Greatest acts s (weights acts s)
unfolding weights
weights_greatest acts s = settled_greatest acts s (height (opening s)) (opening s) (self (height (opening s))) (between_opening acts s)
  where
    self : (n : ℕ) → n ≤ n
    self n = omega arith
