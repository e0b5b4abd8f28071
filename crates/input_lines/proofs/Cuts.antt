-- Lemmas on cutting a list at a byte.
use Rattle.std.proofs.Common.{◌≡◌, ℕ, suc, ◌+◌, ◌-◌, ◌<◌, ◌≤◌, true, false, cond, eqb, not, List, [], ◌∷◌, ◌++◌, ◌≢◌, length, get_or, take, drop, Some, None, refl, ap, ⊎_elim, arith, position}
use Rattle.std.proofs.lemmas.Bool.{cases_Bool, cond_both, eq-eqb, eqb-true, eqb-false, ne_eqb}
use Rattle.std.proofs.lemmas.List.{take_rest}
use Rattle.std.proofs.lemmas.List.Sums.{fails_before_first, passes_at_first}
use Rattle.std.specs.List.{AllByRecursion, position_or_len}
use Rattle.std.proofs.lemmas.Grind.{common_steps}
use Rattle.input_lines.specs.Cuts.{before, behind}

-- where the first c stands, or the length
abbrev place : ℕ → List ℕ → ℕ
place c bs = position_or_len (λ b. eqb b c) bs

before_at : (c : ℕ) (bs : List ℕ) → take (place c bs) bs ≡ before c bs
before_at c [] = refl
before_at c (b ∷ bs) =
    elim (eqb b c) as (λ t. take (cond (not t) (1 + place c bs) 0) (b ∷ bs) ≡ cond t [] (b ∷ before c bs)) [
      | true ↦ refl
      | false ↦ grind (arith, common_steps, before_at c bs)
    ]

behind_at : (c : ℕ) (bs : List ℕ) → drop (place c bs + 1) bs ≡ behind c bs
behind_at c [] = refl
behind_at c (b ∷ bs) =
    elim (eqb b c) as (λ t. drop (cond (not t) (1 + place c bs) 0 + 1) (b ∷ bs) ≡ cond t bs (behind c bs)) [
      | true ↦ refl
      | false ↦ grind (arith, common_steps, behind_at c bs)
    ]

module _ (c : ℕ) (bs : List ℕ) where
  pub before_place : (i : ℕ) → Some i ≡ position (λ b. eqb b c) bs → take i bs ≡ before c bs
  before_place i e = let at : place c bs ≡ i = grind (arith, common_steps) in rw (← at) (before_at c bs)

  pub behind_place : (i : ℕ) → Some i ≡ position (λ b. eqb b c) bs → take (length bs - (i + 1)) (drop (i + 1) bs) ≡ behind c bs
  behind_place i e = let at : place c bs ≡ i = grind (arith, common_steps) in rw (take_rest bs (i + 1), ← at) (behind_at c bs)

  pub before_absent : None ≡ position (λ b. eqb b c) bs → bs ≡ before c bs
  before_absent e = let at : length bs ≤ place c bs = grind (arith, common_steps) in grind (arith, common_steps, before_at c bs)

  pub behind_absent : None ≡ position (λ b. eqb b c) bs → ◌≡◌ {A = List ℕ} [] (behind c bs)
  behind_absent e = let at : length bs ≤ place c bs = grind (arith, common_steps) in grind (arith, common_steps, behind_at c bs)

-- the first c stands where the bytes before it end
module _ (c : ℕ) (bs : List ℕ) where
  length_before : length (before c bs) ≡ place c bs
  length_before = grind (arith, common_steps, ap length (before_at c bs))

  pub before_within : length (before c bs) ≤ length bs
  before_within = grind (arith, common_steps, ap length (before_at c bs))

  pub before_lacks : (k : ℕ) → k < length (before c bs) → get_or bs k 0 ≢ c
  before_lacks k l = eqb-false (get_or bs k 0) c (fails_before_first (λ b. eqb b c) bs k 0 (omega (arith, length_before)))

  pub before_stops : length (before c bs) < length bs → get_or bs (length (before c bs)) 0 ≡ c
  before_stops l = rw length_before (eqb-true (get_or bs (place c bs) 0) c (passes_at_first (λ b. eqb b c) bs 0 (omega (arith, length_before))))

-- where a list ends, nothing is left
pub behind_le : (c : ℕ) (bs : List ℕ) → length (behind c bs) ≤ length bs
behind_le c [] = omega arith
behind_le c (b ∷ bs) =
    let less = behind_le c bs in
    cond_both (eqb b c) bs (behind c bs) (λ (ys : List ℕ). length ys ≤ suc (length bs)) (λ e. omega arith) (λ e. omega arith)

pub behind_lt : (c : ℕ) (bs : List ℕ) → 0 < length bs → length (behind c bs) < length bs
behind_lt c [] some = absurd (omega arith)
behind_lt c (b ∷ bs) some =
    let less = behind_le c bs in
    cond_both (eqb b c) bs (behind c bs) (λ (ys : List ℕ). length ys < suc (length bs)) (λ e. omega arith) (λ e. omega arith)

-- what a cut took apart, put together again
pub rejoined : (c : ℕ) (bs : List ℕ) → 0 < length (behind c bs) → bs ≡ before c bs ++ c ∷ behind c bs
rejoined c [] some = absurd (omega arith)
rejoined c (b ∷ bs) some =
    ⊎_elim
    (λ e. rw e (ap (λ (k : ℕ). k ∷ bs) (eqb-true b c e)))
    (λ e. rw e (ap (λ (ys : List ℕ). b ∷ ys) (rejoined c bs (rw e at some))))
    (cases_Bool (eqb b c))

-- what was put together, taken apart again
pub before_joined : (c : ℕ) (xs ys : List ℕ) → AllByRecursion (λ b. b ≡ c → ⊥) xs → before c (xs ++ c ∷ ys) ≡ xs
before_joined c [] ys lacks = rw (eq-eqb c c refl)
before_joined c (x ∷ xs) ys lacks = rw (ne_eqb x c lacks.0) (ap (λ (zs : List ℕ). x ∷ zs) (before_joined c xs ys lacks.1))

pub behind_joined : (c : ℕ) (xs ys : List ℕ) → AllByRecursion (λ b. b ≡ c → ⊥) xs → behind c (xs ++ c ∷ ys) ≡ ys
behind_joined c [] ys lacks = rw (eq-eqb c c refl)
behind_joined c (x ∷ xs) ys lacks = rw (ne_eqb x c lacks.0) (behind_joined c xs ys lacks.1)
