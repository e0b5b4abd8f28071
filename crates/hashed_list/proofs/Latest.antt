-- The greatest number below a limit that a function takes to a value.
use Rattle.std.proofs.Common.{◌≡◌, ℕ, zero, suc, ◌+◌, ◌<◌, ◌≤◌, true, false, cond, eqb, Some, None, Option, sym, refl, ap, ◌∙◌, add-one, arith, eq-eqb, ne_eqb, eqb-true}
use native.Mathlib.Decide.{dec_lt}
use borrow.Author.Tests.{eqb-false}
use Rattle.hashed_list.specs.Buckets.{latest}

-- no number that is meant lies above where we stand
abbrev pub UpTo : Option ℕ → ℕ → Type 0
UpTo None k = ⊥
UpTo (Some i) k = k ≤ i

-- how far down it still goes
abbrev pub height : Option ℕ → ℕ
height None = 0
height (Some i) = i + 1

pub latest_top : (f : ℕ → ℕ) (b n k : ℕ) → k < n → f k ≡ b → UpTo (latest f b n) k
unfolding latest
latest_top f b zero k lt e = absurd (omega arith)
latest_top f b (suc n) k lt e =
    elim (eqb (f n) b) as (λ t. eqb (f n) b ≡ t → UpTo (cond t (Some n) (latest f b n)) k) [
      | true ↦ λ h. omega arith
      | false ↦ λ h. elim (dec_lt k n) [
        | yes l ↦ latest_top f b n k l e
        | no ge ↦ let k-n : k ≡ n = omega arith in absurd (eqb-false (f n) b h (ap f (sym k-n) ∙ e))
      ]
    ] refl

pub latest_at : (f : ℕ → ℕ) (b n i : ℕ) → latest f b n ≡ Some i → (i < n) × (f i ≡ b)
unfolding latest
latest_at f b zero i e = let z : ◌≡◌ {A = ℕ} 0 1 = cc in absurd (omega arith)
latest_at f b (suc n) i e =
    elim (eqb (f n) b) as (λ t. eqb (f n) b ≡ t → cond t (Some n) (latest f b n) ≡ Some i → (i < suc n) × (f i ≡ b)) [
      | true ↦ λ h e'. let n-i : n ≡ i = cc in (omega arith, ap f (sym n-i) ∙ eqb-true (f n) b h)
      | false ↦ λ h e'. let r = latest_at f b n i e' in (omega (arith, r.0), r.1)
    ] refl e

pub latest_height : (f : ℕ → ℕ) (b n : ℕ) → height (latest f b n) ≤ n
unfolding latest
latest_height f b zero = omega arith
latest_height f b (suc n) =
    elim (eqb (f n) b) as (λ t. height (cond t (Some n) (latest f b n)) ≤ suc n) [ true ↦ omega arith | false ↦ omega (arith, latest_height f b n) ]

-- it looks at no number from the limit on
pub latest_same : (f g : ℕ → ℕ) (b n : ℕ) → ((k : ℕ) → k < n → f k ≡ g k) → latest f b n ≡ latest g b n
unfolding latest
latest_same f g b zero same = refl
latest_same f g b (suc n) same =
    ap (λ x. cond (eqb x b) (Some n) (latest f b n)) (same n (omega arith)) ∙ ap (λ x. cond (eqb (g n) b) (Some n) x) (latest_same f g b n (λ k lt. same k (omega arith)))

pub latest_here : (f : ℕ → ℕ) (b n : ℕ) → f n ≡ b → latest f b (n + 1) ≡ Some n
unfolding latest
latest_here f b n e = rw add-one (ap (λ t. cond t (Some n) (latest f b n)) (eq-eqb (f n) b e))

pub latest_not_here : (f : ℕ → ℕ) (b n : ℕ) → (f n ≡ b → ⊥) → latest f b (n + 1) ≡ latest f b n
unfolding latest
latest_not_here f b n ne = rw add-one (ap (λ t. cond t (Some n) (latest f b n)) (ne_eqb (f n) b ne))
