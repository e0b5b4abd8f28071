-- Lemmas on ignoring deletes.
use Rattle.std.proofs.Common.{◌≡◌, ℕ, ◌%◌, ◌^◌, true, List, [], map, get_or, ap, ◌∙◌, arith}
use native.Mathlib.Nat.{zero-div}
use lib.Bits.{bit_and, bit_or}
use lib.ListN.{length-map, get_or-map}
use Rattle.facts.specs.Words.{bit, minus, subset, union, without}
use Rattle.facts.proofs.Sets.{bit-and, bit_is, bit_minus, bit-or, getD_union, getD_without, same_number, subset_from, subset_self, subset_trans, union_within, without_within}
use Rattle.strips.specs.declared.action.Action.{Action}
use Rattle.strips.specs.Semantics.{State, applicable, result, Run, stop, step}
use Rattle.strips.specs.Sound.{act}
use Rattle.heuristic.specs.Relaxation.{PlansRelax, without_deletes}

pub act_relaxed : (acts : List Action) (k : ℕ) → act (map without_deletes acts) k ≡ without_deletes (act acts k)
act_relaxed acts k = get_or-map without_deletes acts k (record { pre = record { words = [] }; add = record { words = [] }; del = record { words = [] } })

-- what lies in a union, and in a state without no deletes
pub union_left : (xs ys : List ℕ) → subset xs (union xs ys) ≡ true
union_left xs ys =
    subset_from xs (union xs ys)
    (λ k l.
    let x : ℕ = get_or xs k 0 in
    let y : ℕ = get_or ys k 0 in
    rw (getD_union xs ys k) (same_number (bit_and x (bit_or x y)) x (λ j. omega (arith, bit-and x (bit_or x y) j, bit-or x y j))))

pub union_right : (xs ys : List ℕ) → subset ys (union xs ys) ≡ true
union_right xs ys =
    subset_from ys (union xs ys)
    (λ k l.
    let x : ℕ = get_or xs k 0 in
    let y : ℕ = get_or ys k 0 in
    rw (getD_union xs ys k) (same_number (bit_and y (bit_or x y)) y (λ j. omega (arith, bit-and y (bit_or x y) j, bit-or x y j))))

all_kept : (xs : List ℕ) → subset xs (without xs []) ≡ true
all_kept xs =
    subset_from xs (without xs [])
    (λ k l.
    let x : ℕ = get_or xs k 0 in
    let none : (j : ℕ) → bit 0 j ≡ 0 = λ j. ap (λ (n : ℕ). n % 2) (zero-div (2 ^ j)) in
    rw (getD_without xs [] k)
    (same_number (bit_and x (minus x 0)) x (λ j. omega (arith, bit-and x (minus x 0) j, bit_minus x 0 j, none j, bit_is x j))))

-- with deletes ignored, more is true afterwards, if more was true before
pub more_after : (a : Action) (s t : State) → subset s t ≡ true → subset (result a s) (result (without_deletes a) t) ≡ true
more_after a s t h =
    let u : State = result (without_deletes a) t in
    let kept : subset t u ≡ true = subset_trans t (without t []) u (all_kept t) (union_left (without t []) a.add.words) in
    union_within (without s a.del.words) a.add.words u
    (subset_trans (without s a.del.words) s u (without_within s a.del.words s (subset_self s)) (subset_trans s t u h kept))
    (union_right (without t []) a.add.words)

run_relaxes : (acts : List Action) (s t u : State) (ks : List ℕ) → subset s t ≡ true → Run acts s ks u → (v : State) × Run (map without_deletes acts) t ks v × (subset u v ≡ true)
run_relaxes acts s t u ks h stop = (t, stop, h)
run_relaxes acts s t u ks h (step {k = k} {ks = ls} l p r) =
    let a : Action = act acts k in
    let e = act_relaxed acts k in
    let rest = run_relaxes acts (result a s) (result (without_deletes a) t) u ls (more_after a s t h) r in
    let can : applicable (act (map without_deletes acts) k) t ≡ true = ap (λ (b : Action). applicable b t) e ∙ subset_trans a.pre.words s t p h in
    let there : Run (map without_deletes acts) (result (act (map without_deletes acts) k) t) ls rest.0 = rw e rest.1 in
    (rest.0, step (rw (length-map acts without_deletes) l) can there, rest.2)

pub plans_relax : PlansRelax
plans_relax acts s goal ks (t, r, g) =
    let there = run_relaxes acts s s t ks (subset_self s) r in
    (there.0, there.1, subset_trans goal t there.0 g there.2)
