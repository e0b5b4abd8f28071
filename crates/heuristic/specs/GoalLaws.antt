-- Goal count keeps the laws.
use Rattle.std.specs.Prelude.{◌≡◌, ℕ, ◌^◌, ◌<◌, ◌≤◌, true, length, bit_and, bit_xor, slice_index}
use Rattle.std.proofs.Common.{sym, ap, ◌∙◌, arith}
use Rattle.std.specs.Int.Bits.{xor_assoc, xor_self, xor_zero_l, xor_zero_r}
use Rattle.std.proofs.lemmas.Nat.{and_le_l, xor_lt}
use Rattle.std.proofs.lemmas.Bool.{and_parts, ltb-true}
use Rattle.facts.specs.Words.{subset, size, without, minus}
use Rattle.facts.proofs.Sets.{subset_from, subset_word, getD_without}
use Rattle.strips.specs.Semantics.{State}
use Rattle.heuristic.specs.declared.estimate.Estimate.TheVariants.{Steps}
use Rattle.heuristic.specs.Laws.{Laws}
use Rattle.heuristic.specs.Useful.{useful}
use Rattle.heuristic.specs.Words.{steps_same, size_bound, size_zero, within_small, within_few}
use Rattle.heuristic.specs.GoalCount.{goals_missing, adds_missing}

minus_none : (a b : ℕ) → minus a b ≡ 0 → bit_and a b ≡ a
minus_none a b e =
    let c : ℕ = bit_and a b in
    sym (sym (xor_zero_r a) ∙ ap (bit_xor a) (sym (xor_self c)) ∙ sym (xor_assoc a c c) ∙ ap (λ (x : ℕ). bit_xor x c) e ∙ xor_zero_l c)

minus_small : (a b : ℕ) → a < 2 ^ 64 → minus a b < 2 ^ 64
minus_small a b l = let m = and_le_l a b in xor_lt 64 a (bit_and a b) l (omega arith)

left_small : (goal s : State) → ((k : ℕ) → slice_index goal k < 2 ^ 64) → (k : ℕ) → slice_index (without goal s) k < 2 ^ 64
left_small goal s small k = let e = getD_without goal s k in let m = minus_small (slice_index goal k) (slice_index s k) (small k) in omega arith

none_left : (goal s : State) → subset goal s ≡ true → (k : ℕ) → slice_index (without goal s) k ≡ 0
none_left goal s e k = getD_without goal s k ∙ ap (bit_xor (slice_index goal k)) (subset_word goal s e k) ∙ xor_self (slice_index goal k)

few_left : (goal s : State) → ((k : ℕ) → 4 ≤ k → slice_index goal k ≡ 0) → (k : ℕ) → 4 ≤ k → slice_index (without goal s) k ≡ 0
few_left goal s none k l =
    let e = getD_without goal s k in
    let z = none k l in
    let m = and_le_l (slice_index goal k) (slice_index s k) in
    let y : bit_and (slice_index goal k) (slice_index s k) ≡ 0 = omega arith in
    e ∙ ap (λ (x : ℕ). bit_xor x (bit_and (slice_index goal k) (slice_index s k))) z ∙ ap (bit_xor 0) y ∙ xor_self 0

pub goal_laws : Laws goals_missing adds_missing
unfolding goals_missing adds_missing useful
goal_laws = record {
  reached = λ facts acts goal s q e.
      let b = size_bound (without goal s) 0 (left_small goal s (within_small facts goal q.small q.goal_in)) (λ k _. none_left goal s e k) in
      let z : size (without goal s) ≡ 0 = omega arith in
      ap Steps z;
  zero = λ facts acts goal s q e.
      let z = steps_same (size (without goal s)) 0 e in
      let h = size_zero (without goal s) (left_small goal s (within_small facts goal q.small q.goal_in)) z in
      subset_from goal s (λ k l. minus_none (slice_index goal k) (slice_index s k) (sym (getD_without goal s k) ∙ h k));
  never = λ facts acts goal s q e ks p. let z : ◌≡◌ {A = ℕ} 0 1 = cc in omega arith;
  most = λ facts acts goal s n q e.
      let z = steps_same (size (without goal s)) n e in
      let b = size_bound (without goal s) 4 (left_small goal s (within_small facts goal q.small q.goal_in)) (few_left goal s (within_few facts goal 4 q.few q.goal_in)) in
      omega arith;
  can = λ facts acts goal s k q e.
      let p = and_parts _ _ e in
      (ltb-true k (length acts) p.0, (and_parts _ _ p.1).1);
}
