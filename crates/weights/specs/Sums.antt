-- What a sum of weights tells of its parts: 0 where all weigh 0, and never where one does.
use Rattle.std.specs.Prelude.{◌≡◌, ℕ, zero, suc, ◌+◌, ◌<◌, min, Bool, true, false, List, ◌≢◌, refl}
use Rattle.std.proofs.Common.{sym, ap, ◌∙◌, ⊎_elim, arith}
use Rattle.std.proofs.lemmas.Bool.{cases_lt, false≢true}
use Rattle.facts.specs.Words.{has}
use Rattle.heuristic.specs.declared.estimate.Estimate.{Estimate}
use Rattle.heuristic.specs.declared.estimate.Estimate.TheVariants.{Steps, Never}
use Rattle.strips.specs.Semantics.{State}
use Rattle.strips.specs.declared.action.Action.{Action}
use Rattle.weights.specs.Tables.{at_most, cost, fact_count, plus, plus_if, total, weight}
use Rattle.heuristic.specs.Words.{steps_same}
use Rattle.weights.specs.Order.{steps_never}

-- one fact of those below n + 1
pub last_or : (P : ℕ → Type 0) (n f : ℕ) → f < suc n → P n → (f < n → P f) → P f
last_or P n f l here before =
    ⊎_elim before (λ m. let e : n ≡ f = omega arith in rw e at here) (cases_lt f n)

pub total_zero : (w : List Estimate) (ws : State) (n : ℕ) → ((f : ℕ) → f < n → has ws f ≡ true → weight w f ≡ Steps 0) → total w ws n ≡ Steps 0
unfolding total
total_zero w ws zero h = refl
total_zero w ws (suc n) h = add (has ws n) (h n (omega arith)) (total_zero w ws n (λ f l. h f (omega arith)))
  where
    add : (b : Bool) → (b ≡ true → weight w n ≡ Steps 0) → total w ws n ≡ Steps 0 → plus_if b (total w ws n) (weight w n) ≡ Steps 0
    add true p q = ap (λ (e : Estimate). plus e (weight w n)) q ∙ ap (plus (Steps 0)) (p refl)
    add false p q = q

plus_zero : (a b : Estimate) → plus a b ≡ Steps 0 → (a ≡ Steps 0) × (b ≡ Steps 0)
plus_zero (Steps m) (Steps n) e = let z = steps_same (min (m + n) 65534) 0 e in (ap Steps (omega arith), ap Steps (omega arith))
plus_zero (Steps m) Never e = absurd (steps_never 0 (sym e))
plus_zero Never (Steps n) e = absurd (steps_never 0 (sym e))
plus_zero Never Never e = absurd (steps_never 0 (sym e))

pub zero_total : (w : List Estimate) (ws : State) (n : ℕ) → total w ws n ≡ Steps 0 → (f : ℕ) → f < n → has ws f ≡ true → weight w f ≡ Steps 0
unfolding total
zero_total w ws zero e f l = absurd (omega arith)
zero_total w ws (suc n) e f l =
    let parts = split (has ws n) e in
    last_or (λ f. has ws f ≡ true → weight w f ≡ Steps 0) n f l parts.1 (λ m. zero_total w ws n parts.0 f m)
  where
    split : (b : Bool) → plus_if b (total w ws n) (weight w n) ≡ Steps 0 → (total w ws n ≡ Steps 0) × (b ≡ true → weight w n ≡ Steps 0)
    split true p = let both = plus_zero (total w ws n) (weight w n) p in (both.0, λ _. both.1)
    split false p = (p, λ q. absurd (false≢true q))

-- whether it is a number
abbrev pub weighed : Estimate → Bool
weighed (Steps n) = true
weighed Never = false

pub weighed_never : (e : Estimate) → e ≡ Never → weighed e ≢ true
weighed_never (Steps n) e h = steps_never n e
weighed_never Never e h = false≢true h

pub weighed_below : (e c : Estimate) → at_most e c ≡ true → weighed c ≡ true → weighed e ≡ true
weighed_below (Steps m) c p q = refl
weighed_below Never (Steps n) p q = absurd (false≢true p)
weighed_below Never Never p q = q

plus_weighed : (a b : Estimate) → weighed a ≡ true → weighed b ≡ true → weighed (plus a b) ≡ true
plus_weighed (Steps m) (Steps n) p q = refl
plus_weighed (Steps m) Never p q = q
plus_weighed Never b p q = absurd (false≢true p)

pub total_weighed : (w : List Estimate) (ws : State) (n : ℕ) → ((f : ℕ) → f < n → has ws f ≡ true → weighed (weight w f) ≡ true) → weighed (total w ws n) ≡ true
unfolding total
total_weighed w ws zero h = refl
total_weighed w ws (suc n) h = add (has ws n) (h n (omega arith)) (total_weighed w ws n (λ f l. h f (omega arith)))
  where
    add : (b : Bool) → (b ≡ true → weighed (weight w n) ≡ true) → weighed (total w ws n) ≡ true → weighed (plus_if b (total w ws n) (weight w n)) ≡ true
    add true p q = plus_weighed (total w ws n) (weight w n) q (p refl)
    add false p q = q

pub cost_weighed : (w : List Estimate) (a : Action) → ((f : ℕ) → f < fact_count → has a.pre.words f ≡ true → weighed (weight w f) ≡ true) → weighed (cost w a) ≡ true
cost_weighed w a h = plus_weighed (Steps 1) (total w a.pre.words fact_count) refl (total_weighed w a.pre.words fact_count h)
