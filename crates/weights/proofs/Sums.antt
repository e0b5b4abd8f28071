-- A sum of weights that is a number has no part that is never.
use Rattle.std.specs.Prelude.{◌≡◌, ℕ, zero, suc, ◌<◌, Bool, true, false, ◌⊎◌, List, ◌≢◌, refl}
use Rattle.std.proofs.Common.{inl, inr, arith}
use Rattle.std.proofs.lemmas.Bool.{false≢true}
use Rattle.facts.specs.Words.{has}
use Rattle.heuristic.specs.declared.estimate.Estimate.{Estimate}
use Rattle.heuristic.specs.declared.estimate.Estimate.TheVariants.{Steps, Never}
use Rattle.strips.specs.Semantics.{State}
use Rattle.strips.specs.declared.action.Action.{Action}
use Rattle.weights.specs.Tables.{cost, fact_count, plus, plus_if, total, weight}
use Rattle.weights.specs.Weights.{least_if}
use Rattle.weights.specs.Sums.{last_or, weighed}

pub never_from : (e : Estimate) → (weighed e ≢ true) → e ≡ Never
never_from (Steps n) h = absurd (h refl)
never_from Never h = refl

weighed_plus : (a b : Estimate) → weighed (plus a b) ≡ true → (weighed a ≡ true) × (weighed b ≡ true)
weighed_plus (Steps m) (Steps n) p = (refl, refl)
weighed_plus (Steps m) Never p = absurd (false≢true p)
weighed_plus Never (Steps n) p = absurd (false≢true p)
weighed_plus Never Never p = absurd (false≢true p)

pub weighed_total : (w : List Estimate) (ws : State) (n : ℕ) → weighed (total w ws n) ≡ true → (f : ℕ) → f < n → has ws f ≡ true → weighed (weight w f) ≡ true
unfolding total
weighed_total w ws zero e f l = absurd (omega arith)
weighed_total w ws (suc n) e f l =
    let parts = split (has ws n) e in
    last_or (λ f. has ws f ≡ true → weighed (weight w f) ≡ true) n f l parts.1 (λ m. weighed_total w ws n parts.0 f m)
  where
    split : (b : Bool) → weighed (plus_if b (total w ws n) (weight w n)) ≡ true → (weighed (total w ws n) ≡ true) × (b ≡ true → weighed (weight w n) ≡ true)
    split true p = let both = weighed_plus (total w ws n) (weight w n) p in (both.0, λ _. both.1)
    split false p = (p, λ q. absurd (false≢true q))

pub weighed_cost : (w : List Estimate) (a : Action) → weighed (cost w a) ≡ true → (f : ℕ) → f < fact_count → has a.pre.words f ≡ true → weighed (weight w f) ≡ true
weighed_cost w a h = weighed_total w a.pre.words fact_count (weighed_plus (Steps 1) (total w a.pre.words fact_count) h).1

pub least_if_weighed : (b : Bool) (c e : Estimate) → weighed (least_if b c e) ≡ true → (weighed e ≡ true) ⊎ ((b ≡ true) × (weighed c ≡ true))
least_if_weighed false c e h = inl h
least_if_weighed true (Steps m) e h = inr (refl, refl)
least_if_weighed true Never (Steps n) h = inl h
least_if_weighed true Never Never h = inl h
