-- Lemmas on sweeps: the actions lower one after the other, in place.
use Rattle.std.proofs.Common.{◌≡◌, ℕ, suc, ◌+◌, ◌<◌, ◌≤◌, Bool, true, false, cond, ◌||◌, ltb, List, length, sym, refl, ap, ◌∙◌, subst, add-one, arith}
use Rattle.std.proofs.lemmas.List.{ext_get_or}
use Rattle.std.proofs.lemmas.Bool.{le-ltb, lt-ltb, ltb-false, ltb-true}
use Rattle.facts.specs.Words.{has}
use Rattle.heuristic.specs.declared.estimate.Estimate.{Estimate}
use Rattle.heuristic.specs.declared.estimate.Estimate.TheVariants.{Steps, Never}
use Rattle.strips.specs.Semantics.{State}
use Rattle.strips.specs.Sound.{act}
use Rattle.strips.specs.declared.action.Action.{Action}
use Rattle.weights.specs.Tables.{cost, fact_count, weight}
use Rattle.weights.specs.Weights.{height, lowered, opening, pass, weights}
use Rattle.weights.specs.Order.{cost_capped}
use Rattle.weights.specs.Lowering.{lowered_falls, pass_falls, pass_still}
use Rattle.weights.specs.Greatest.{Between, between_opening, opening_at, opening_length}
use Rattle.weights.proofs.Greatest.{between_sweep, greatest_is, sweep_still}

-- a pass, action by action
pub pass_none : (costs : List Estimate → Action → Estimate) (acts : List Action) (w : List Estimate) → pass costs acts 0 w ≡ w
unfolding pass
pass_none costs acts w = refl

pub pass_more : (costs : List Estimate → Action → Estimate) (acts : List Action) (n : ℕ) (w : List Estimate) → pass costs acts (suc n) w ≡ lowered (costs (pass costs acts n w) (act acts n)) (act acts n).add.words (pass costs acts n w)
unfolding pass
pass_more costs acts n w = refl

-- the first n facts of the opening
abbrev pub Opened : State → ℕ → List Estimate → Type 0
Opened s n w = (length w ≡ fact_count) × ((k : ℕ) → k < n → weight w k ≡ cond (has s k) (Steps 0) Never)

pub opened_all : (s : State) (n : ℕ) (w : List Estimate) → fact_count ≤ n → Opened s n w → w ≡ opening s
opened_all s n w l p =
    ext_get_or Never w (opening s) (p.0 ∙ sym (opening_length s)) (λ k m. p.1 k (through k m p.0) ∙ sym (opening_at s k (inside k m p.0)))
  where
    inside : (k : ℕ) → k < length w → length w ≡ fact_count → k < fact_count
    inside k m q = omega arith

    through : (k : ℕ) → k < length w → length w ≡ fact_count → k < n
    through k m q = omega arith

self : (n : ℕ) → n ≤ n
self n = omega arith

pub sweep_none : (acts : List Action) (w : List Estimate) → (w ≡ pass cost acts 0 w) × (false ≡ ltb (height w) (height w))
sweep_none acts w = (sym (pass_none cost acts w), sym (le-ltb (height w) (height w) (self (height w))))

joined : (fell r : Bool) (x y z : ℕ) → x ≤ y → y ≤ z → fell ≡ ltb y z → r ≡ ltb x y → (fell || r) ≡ ltb x z
joined true r x y z p q f g = sym (lt-ltb x z (omega (arith, ltb-true y z (sym f))))
joined false true x y z p q f g = sym (lt-ltb x z (omega (arith, ltb-true x y (sym g))))
joined false false x y z p q f g = sym (le-ltb x z (omega (arith, ltb-false y z (sym f), ltb-false x y (sym g))))

-- one action more
pub sweep_more : (acts : List Action) (k : ℕ) (w u v : List Estimate) (fell r : Bool) → (u ≡ pass cost acts k w) × (fell ≡ ltb (height u) (height w)) → v ≡ lowered (cost u (act acts k)) (act acts k).add.words u → r ≡ ltb (height v) (height u) → (v ≡ pass cost acts (k + 1) w) × ((fell || r) ≡ ltb (height v) (height w))
sweep_more acts k w u v fell r inv e f =
    let c : Estimate = cost u (act acts k) in
    let low : height v ≤ height u = subst (λ (x : List Estimate). height x ≤ height u) (sym e) (lowered_falls c (act acts k).add.words u (cost_capped u (act acts k))) in
    let before : height u ≤ height w = subst (λ (x : List Estimate). height x ≤ height w) (sym inv.0) (pass_falls cost acts cost_capped k w) in (
      e ∙ ap (λ (x : List Estimate). lowered (cost x (act acts k)) (act acts k).add.words x) inv.0 ∙ sym (pass_more cost acts k w) ∙ ap (λ (n : ℕ). pass cost acts n w) (sym (add-one k)),
      joined fell r (height v) (height u) (height w) low before inv.1 f,
    )

pub settle_start : (acts : List Action) (s : State) (w : List Estimate) → w ≡ opening s → Between acts s w
settle_start acts s w e = subst (Between acts s) (sym e) (between_opening acts s)

pub settle_more : (acts : List Action) (s : State) (w u : List Estimate) → u ≡ pass cost acts (length acts) w → Between acts s w → Between acts s u
settle_more acts s w u e b = subst (Between acts s) (sym e) (between_sweep acts s w b)

-- where nothing fell
pub settle_end : (acts : List Action) (s : State) (w u : List Estimate) → u ≡ pass cost acts (length acts) w → false ≡ ltb (height u) (height w) → Between acts s w → u ≡ weights acts s
settle_end acts s w u e f b =
    let still : height w ≤ height (pass cost acts (length acts) w) = subst (λ (x : List Estimate). height w ≤ height x) e (ltb-false (height u) (height w) (sym f)) in
    e ∙ (pass_still cost acts cost_capped (length acts) w still).0 ∙ greatest_is acts s w b.size (sweep_still acts s w b still)
