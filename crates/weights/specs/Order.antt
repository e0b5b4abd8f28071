-- Lemmas on the order and the sums of weights.
use Rattle.std.specs.Prelude.{◌≡◌, ℕ, zero, suc, ◌<◌, ◌≤◌, min, Bool, true, false, List, ◌≢◌, refl}
use Rattle.std.proofs.Common.{ap, ◌∙◌, arith}
use Rattle.std.proofs.lemmas.Bool.{le-leb, leb-true, false≢true}
use Rattle.facts.specs.Words.{has}
use Rattle.heuristic.specs.declared.estimate.Estimate.{Estimate}
use Rattle.heuristic.specs.declared.estimate.Estimate.TheVariants.{Steps, Never}
use Rattle.heuristic.specs.Words.{steps_same}
use Rattle.strips.specs.Semantics.{State}
use Rattle.strips.specs.declared.action.Action.{Action}
use Rattle.weights.specs.Tables.{Capped, at_most, cost, fact_count, plus, plus_if, total, weight}
use Rattle.weights.specs.Weights.{least, least_if, rank}

pub steps_never : (n : ℕ) → Steps n ≢ Never
steps_never n e = let z : ◌≡◌ {A = ℕ} 0 1 = cc in omega arith

pub at_most_never : (e : Estimate) → at_most e Never ≡ true
at_most_never (Steps n) = refl
at_most_never Never = refl

pub at_most_trans : (a b c : Estimate) → at_most a b ≡ true → at_most b c ≡ true → at_most a c ≡ true
at_most_trans (Steps l) (Steps m) (Steps n) p q = le-leb l n (omega (arith, leb-true l m p, leb-true m n q))
at_most_trans (Steps l) (Steps m) Never p q = refl
at_most_trans (Steps l) Never (Steps n) p q = absurd (false≢true q)
at_most_trans (Steps l) Never Never p q = refl
at_most_trans Never (Steps m) c p q = absurd (false≢true p)
at_most_trans Never Never c p q = q

pub plus_mono : (a b c d : Estimate) → at_most a c ≡ true → at_most b d ≡ true → at_most (plus a b) (plus c d) ≡ true
plus_mono (Steps a) (Steps b) (Steps c) (Steps d) p q = le-leb _ _ (omega (arith, leb-true a c p, leb-true b d q))
plus_mono a b (Steps c) Never p q = at_most_never (plus a b)
plus_mono a b Never (Steps d) p q = at_most_never (plus a b)
plus_mono a b Never Never p q = at_most_never (plus a b)
plus_mono Never b (Steps c) (Steps d) p q = absurd (false≢true p)
plus_mono (Steps a) Never (Steps c) (Steps d) p q = absurd (false≢true q)

plus_if_mono : (x : Bool) (a b c d : Estimate) → at_most a c ≡ true → at_most b d ≡ true → at_most (plus_if x a b) (plus_if x c d) ≡ true
plus_if_mono true a b c d p q = plus_mono a b c d p q
plus_if_mono false a b c d p q = p

-- a table below another has lower sums
pub total_mono : (v w : List Estimate) (ws : State) (n : ℕ) → ((f : ℕ) → f < n → at_most (weight v f) (weight w f) ≡ true) → at_most (total v ws n) (total w ws n) ≡ true
unfolding total
total_mono v w ws zero h = refl
total_mono v w ws (suc n) h =
    plus_if_mono (has ws n) _ _ _ _ (total_mono v w ws n (λ f l. h f (omega arith))) (h n (omega arith))

pub cost_mono : (v w : List Estimate) (a : Action) → ((f : ℕ) → f < fact_count → at_most (weight v f) (weight w f) ≡ true) → at_most (cost v a) (cost w a) ≡ true
cost_mono v w a h = plus_mono (Steps 1) (total v a.pre.words fact_count) (Steps 1) (total w a.pre.words fact_count) refl (total_mono v w a.pre.words fact_count h)

pub plus_capped : (a b : Estimate) → Capped (plus a b)
plus_capped (Steps m) (Steps n) = omega arith
plus_capped (Steps m) Never = tt
plus_capped Never (Steps n) = tt
plus_capped Never Never = tt

pub cost_capped : (w : List Estimate) (a : Action) → Capped (cost w a)
cost_capped w a = plus_capped (Steps 1) (total w a.pre.words fact_count)

plus_if_capped : (x : Bool) (a b : Estimate) → Capped a → Capped (plus_if x a b)
plus_if_capped true a b h = plus_capped a b
plus_if_capped false a b h = h

pub total_capped : (w : List Estimate) (ws : State) (n : ℕ) → Capped (total w ws n)
unfolding total
total_capped w ws zero = omega arith
total_capped w ws (suc n) = plus_if_capped (has ws n) (total w ws n) (weight w n) (total_capped w ws n)

-- the lesser of two weights
least_above : (e c x : Estimate) → at_most e c ≡ true → at_most e x ≡ true → at_most e (least c x) ≡ true
least_above (Steps l) (Steps m) (Steps n) p q = le-leb _ _ (omega (arith, leb-true l m p, leb-true l n q))
least_above Never (Steps m) (Steps n) p q = absurd (false≢true p)
least_above (Steps l) (Steps m) Never p q = p
least_above Never (Steps m) Never p q = p
least_above e Never (Steps n) p q = q
least_above e Never Never p q = q

pub least_if_above : (b : Bool) (e c x : Estimate) → (b ≡ true → at_most e c ≡ true) → at_most e x ≡ true → at_most e (least_if b c x) ≡ true
least_if_above true e c x p q = least_above e c x (p refl) q
least_if_above false e c x p q = q

pub least_kept : (c e : Estimate) → least c e ≡ e → at_most e c ≡ true
least_kept (Steps m) (Steps n) h = le-leb n m (omega (arith, steps_same (min m n) n h))
least_kept (Steps m) Never h = absurd (steps_never m h)
least_kept Never (Steps n) h = refl
least_kept Never Never h = refl

least_zero : (c : Estimate) → least c (Steps 0) ≡ Steps 0
least_zero (Steps m) = ap Steps (omega arith)
least_zero Never = refl

pub least_if_zero : (b : Bool) (c e : Estimate) → e ≡ Steps 0 → least_if b c e ≡ Steps 0
least_if_zero true c e h = ap (least c) h ∙ least_zero c
least_if_zero false c e h = h

pub rank_least : (c e : Estimate) → Capped c → rank (least c e) ≤ rank e
rank_least (Steps m) (Steps n) h = omega arith
rank_least (Steps m) Never h = omega arith
rank_least Never (Steps n) h = omega arith
rank_least Never Never h = omega arith

pub rank_least_if : (b : Bool) (c e : Estimate) → Capped c → rank (least_if b c e) ≤ rank e
rank_least_if true c e h = rank_least c e h
rank_least_if false c e h = omega arith

rank_same : (c e : Estimate) → Capped c → rank e ≤ rank (least c e) → least c e ≡ e
rank_same (Steps m) (Steps n) h l = ap Steps (omega arith)
rank_same (Steps m) Never h l = absurd (omega arith)
rank_same Never (Steps n) h l = refl
rank_same Never Never h l = refl

pub rank_same_if : (b : Bool) (c e : Estimate) → Capped c → rank e ≤ rank (least_if b c e) → least_if b c e ≡ e
rank_same_if true c e h l = rank_same c e h l
rank_same_if false c e h l = refl
