-- Lemmas on lowering a table.
use Rattle.std.specs.Prelude.{◌≡◌, ℕ, zero, suc, ◌+◌, ◌<◌, ◌≤◌, true, List, [], ◌∷◌, length, sum_by}
use Rattle.std.proofs.Math.Path.{refl, ap}
use Rattle.std.proofs.Common.{sym, ◌∙◌, add-zero, zero-add}
use Rattle.std.proofs.Math.Logic.{⊎_elim}
use native.Mathlib.Omega.{arith}
use Rattle.std.proofs.lemmas.List.Sums.{sum_by-cons}
use Rattle.std.proofs.lemmas.Bool.{cases_lt}
use Rattle.facts.specs.Words.{has}
use Rattle.heuristic.specs.declared.estimate.Estimate.{Estimate}
use Rattle.heuristic.specs.declared.estimate.Estimate.TheVariants.{Steps}
use Rattle.strips.specs.Semantics.{State}
use Rattle.strips.specs.Sound.{act}
use Rattle.strips.specs.declared.action.Action.{Action}
use Rattle.weights.specs.Tables.{Capped, Feasible, at_most, cost, fact_count, weight}
use Rattle.weights.specs.Weights.{height, least_if, lowered, lowered_from, pass, rank}
use Rattle.weights.specs.Order.{at_most_trans, least_if_above, least_if_zero, rank_least_if, rank_same_if}

from_length : (c : Estimate) (ws : State) (n : ℕ) (w : List Estimate) → length (lowered_from c ws n w) ≡ length w
from_length c ws n [] = refl
from_length c ws n (e ∷ w) = ap suc (from_length c ws (n + 1) w)

from_at : (c : Estimate) (ws : State) (n : ℕ) (w : List Estimate) (f : ℕ) → f < length w → weight (lowered_from c ws n w) f ≡ least_if (has ws (n + f)) c (weight w f)
from_at c ws n [] f l = absurd (omega arith)
from_at c ws n (e ∷ w) zero l = ap (λ (m : ℕ). least_if (has ws m) c e) (sym (add-zero n))
from_at c ws n (e ∷ w) (suc f) l =
    let same : n + 1 + f ≡ n + suc f = omega arith in
    from_at c ws (n + 1) w f (omega arith) ∙ ap (λ (m : ℕ). least_if (has ws m) c (weight w f)) same

from_falls : (c : Estimate) (ws : State) (n : ℕ) (w : List Estimate) → Capped c → sum_by rank (lowered_from c ws n w) ≤ sum_by rank w
from_falls c ws n [] h = omega arith
from_falls c ws n (e ∷ w) h =
    let low : Estimate = least_if (has ws n) c e in
    let rest : List Estimate = lowered_from c ws (n + 1) w in
    joins _ _ _ _ _ _ (sum_by-cons rank low rest) (sum_by-cons rank e w) (rank_least_if (has ws n) c e h) (from_falls c ws (n + 1) w h)
  where
    joins : (a b r q s t : ℕ) → a ≡ r + s → b ≡ q + t → r ≤ q → s ≤ t → a ≤ b
    joins a b r q s t p o l m = omega arith

from_still : (c : Estimate) (ws : State) (n : ℕ) (w : List Estimate) → Capped c → sum_by rank w ≤ sum_by rank (lowered_from c ws n w) → lowered_from c ws n w ≡ w
from_still c ws n [] h l = refl
from_still c ws n (e ∷ w) h l =
    let low : Estimate = least_if (has ws n) c e in
    let rest : List Estimate = lowered_from c ws (n + 1) w in
    let parts = splits _ _ _ _ _ _ (sum_by-cons rank low rest) (sum_by-cons rank e w) (rank_least_if (has ws n) c e h) (from_falls c ws (n + 1) w h) l in
    ap (λ (x : Estimate). x ∷ rest) (rank_same_if (has ws n) c e h parts.0) ∙ ap (λ (u : List Estimate). e ∷ u) (from_still c ws (n + 1) w h parts.1)
  where
    splits : (a b r q s t : ℕ) → a ≡ r + s → b ≡ q + t → r ≤ q → s ≤ t → b ≤ a → (q ≤ r) × (t ≤ s)
    splits a b r q s t p o l m k = (omega arith, omega arith)

pub lowered_length : (c : Estimate) (ws : State) (w : List Estimate) → length (lowered c ws w) ≡ length w
unfolding lowered
lowered_length c ws w = from_length c ws 0 w

pub lowered_at : (c : Estimate) (ws : State) (w : List Estimate) (f : ℕ) → f < length w → weight (lowered c ws w) f ≡ least_if (has ws f) c (weight w f)
unfolding lowered
lowered_at c ws w f l = from_at c ws 0 w f l ∙ ap (λ (m : ℕ). least_if (has ws m) c (weight w f)) (zero-add f)

pub lowered_falls : (c : Estimate) (ws : State) (w : List Estimate) → Capped c → height (lowered c ws w) ≤ height w
unfolding lowered height
lowered_falls c ws w h = from_falls c ws 0 w h

pub lowered_still : (c : Estimate) (ws : State) (w : List Estimate) → Capped c → height w ≤ height (lowered c ws w) → lowered c ws w ≡ w
unfolding lowered height
lowered_still c ws w h l = from_still c ws 0 w h l

-- one table lies below another
abbrev pub Below : List Estimate → List Estimate → Type 0
Below v w = (f : ℕ) → f < fact_count → at_most (weight v f) (weight w f) ≡ true

through : (a b c : ℕ) → a ≤ b → b ≤ c → a ≤ c
through a b c p q = omega arith

module _ (costs : List Estimate → Action → Estimate) (acts : List Action) where
  pub pass_length : (n : ℕ) (w : List Estimate) → length (pass costs acts n w) ≡ length w
  unfolding pass
  pass_length zero w = refl
  pass_length (suc n) w = lowered_length _ _ (pass costs acts n w) ∙ pass_length n w

  pub pass_zero : (n : ℕ) (w : List Estimate) (f : ℕ) → f < length w → weight w f ≡ Steps 0 → weight (pass costs acts n w) f ≡ Steps 0
  unfolding pass
  pass_zero zero w f l h = h
  pass_zero (suc n) w f l h =
      let u : List Estimate = pass costs acts n w in
      let m : f < length u = omega (arith, pass_length n w) in
      lowered_at (costs u (act acts n)) (act acts n).add.words u f m ∙ least_if_zero (has (act acts n).add.words f) (costs u (act acts n)) (weight u f) (pass_zero n w f l h)

  -- what lies below the table and below every cost stays below
  pub pass_above : (s : State) (v w : List Estimate) → Feasible acts s v → length w ≡ fact_count → Below v w → ((u : List Estimate) (a : Action) → Below v u → at_most (cost v a) (costs u a) ≡ true) → (n : ℕ) → n ≤ length acts → Below v (pass costs acts n w)
  unfolding pass
  pass_above s v w feasible size below bound zero l = below
  pass_above s v w feasible size below bound (suc n) l = λ f m.
      let u : List Estimate = pass costs acts n w in
      let a : Action = act acts n in
      let under : Below v u = pass_above s v w feasible size below bound n (omega arith) in
      let inside : f < length u = omega (arith, pass_length n w) in
      let lower = least_if_above (has a.add.words f) (weight v f) (costs u a) (weight u f) (λ adds. at_most_trans (weight v f) (cost v a) (costs u a) (feasible.no_lower n f (omega arith) m adds) (bound u a under)) (under f m) in
      ap (at_most (weight v f)) (lowered_at (costs u a) a.add.words u f inside) ∙ lower

  pub pass_falls : ((u : List Estimate) (a : Action) → Capped (costs u a)) → (n : ℕ) (w : List Estimate) → height (pass costs acts n w) ≤ height w
  unfolding pass
  pass_falls capped zero w = omega arith
  pass_falls capped (suc n) w =
      let u : List Estimate = pass costs acts n w in
      let one : height (lowered (costs u (act acts n)) (act acts n).add.words u) ≤ height u = lowered_falls (costs u (act acts n)) (act acts n).add.words u (capped u (act acts n)) in
      let before : height u ≤ height w = pass_falls capped n w in
      through _ _ _ one before

  pub pass_still : ((u : List Estimate) (a : Action) → Capped (costs u a)) → (n : ℕ) (w : List Estimate) → height w ≤ height (pass costs acts n w) → (pass costs acts n w ≡ w) × ((k : ℕ) → k < n → lowered (costs w (act acts k)) (act acts k).add.words w ≡ w)
  unfolding pass
  pass_still capped zero w l = (refl, λ k m. absurd (omega arith))
  pass_still capped (suc n) w l =
      let u : List Estimate = pass costs acts n w in
      let x : State = (act acts n).add.words in
      let c : Estimate = costs u (act acts n) in
      let one : height (lowered c x u) ≤ height u = lowered_falls c x u (capped u (act acts n)) in
      let before : height u ≤ height w = pass_falls capped n w in
      let ih = pass_still capped n w (through _ _ _ l one) in
      let kept : lowered c x u ≡ u = lowered_still c x u (capped u (act acts n)) (through _ _ _ before l) in (
        kept ∙ ih.0,
        λ k m.
            ⊎_elim (λ q. ih.1 k q)
            (λ q.
            let e : k ≡ n = omega arith in
            ap (λ (j : ℕ). lowered (costs w (act acts j)) (act acts j).add.words w) e
            ∙ ap (λ (y : List Estimate). lowered (costs y (act acts n)) x y) (sym ih.0) ∙ kept ∙ ih.0)
            (cases_lt k n),
      )
