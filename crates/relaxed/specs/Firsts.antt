-- The least number that passes.
use Rattle.std.specs.Prelude.{◌≡◌, ℕ, zero, suc, ◌<◌, ◌≤◌, Bool, true, false, cond, refl}
use Rattle.std.proofs.Common.{ap, ◌∙◌, ⊎_elim, arith}
use Rattle.std.proofs.lemmas.Bool.{cases_lt, cases_Bool, lt-ltb, le-ltb}
use Rattle.relaxed.specs.Layers.{first}

pub first_keep : (p : ℕ → Bool) (k : ℕ) → first p k < k → first p (suc k) ≡ first p k
unfolding first
first_keep p k l = ap (λ (b : Bool). cond b (first p k) (cond (p k) k (suc k))) (lt-ltb (first p k) k l)

pub first_skip : (p : ℕ → Bool) (k : ℕ) → first p k ≡ k → p k ≡ false → first p (suc k) ≡ suc k
unfolding first
first_skip p k e h = ap (λ (b : Bool). cond b (first p k) (cond (p k) k (suc k))) (le-ltb (first p k) k (omega arith)) ∙ ap (λ (b : Bool). cond b k (suc k)) h

pub first_take : (p : ℕ → Bool) (k : ℕ) → first p k ≡ k → p k ≡ true → first p (suc k) ≡ k
unfolding first
first_take p k e h = ap (λ (b : Bool). cond b (first p k) (cond (p k) k (suc k))) (le-ltb (first p k) k (omega arith)) ∙ ap (λ (b : Bool). cond b k (suc k)) h

pub first_zero : (p : ℕ → Bool) → first p 0 ≡ 0
unfolding first
first_zero p = refl

pub first_none : (p : ℕ → Bool) (n : ℕ) → ((j : ℕ) → j < n → p j ≡ false) → first p n ≡ n
first_none p zero h = first_zero p
first_none p (suc n) h = first_skip p n (first_none p n (λ j l. h j (omega arith))) (h n (omega arith))

pub first_at : (p : ℕ → Bool) (n i : ℕ) → i < n → ((j : ℕ) → j < i → p j ≡ false) → p i ≡ true → first p n ≡ i
first_at p zero i l h e = absurd (omega arith)
first_at p (suc n) i l h e =
    ⊎_elim
    (λ m. let r = first_at p n i m h e in first_keep p n (omega arith) ∙ r)
    (λ m. let q : n ≡ i = omega arith in first_take p n (first_none p n (λ j k. h j (omega arith))) (ap p q ∙ e) ∙ q)
    (cases_lt i n)

pub first_le : (p : ℕ → Bool) (n : ℕ) → first p n ≤ n
first_le p zero = let e = first_zero p in omega arith
first_le p (suc n) =
    let h = first_le p n in
    ⊎_elim (λ l. let e = first_keep p n l in omega arith)
    (λ l. let q : first p n ≡ n = omega arith in ⊎_elim (λ y. let e = first_take p n q y in omega arith) (λ y. let e = first_skip p n q y in omega arith) (cases_Bool (p n)))
    (cases_lt (first p n) n)

pub first_passes : (p : ℕ → Bool) (n : ℕ) → first p n < n → p (first p n) ≡ true
first_passes p zero l = absurd (omega arith)
first_passes p (suc n) l =
    let h = first_le p n in
    ⊎_elim (λ m. ap p (first_keep p n m) ∙ first_passes p n m)
    (λ m.
    let q : first p n ≡ n = omega arith in
    ⊎_elim (λ y. ap p (first_take p n q y) ∙ y) (λ y. let e = first_skip p n q y in absurd (omega arith)) (cases_Bool (p n)))
    (cases_lt (first p n) n)

pub first_before : (p : ℕ → Bool) (n k : ℕ) → k < first p n → p k ≡ false
first_before p zero k l = let e = first_zero p in absurd (omega arith)
first_before p (suc n) k l =
    let h = first_le p n in
    ⊎_elim (λ m. let e = first_keep p n m in first_before p n k (omega arith))
    (λ m.
    let q : first p n ≡ n = omega arith in
    ⊎_elim (λ y. let e = first_take p n q y in first_before p n k (omega arith))
    (λ y. let e = first_skip p n q y in ⊎_elim (λ x. first_before p n k (omega arith)) (λ x. let z : k ≡ n = omega arith in ap p z ∙ y) (cases_lt k n))
    (cases_Bool (p n)))
    (cases_lt (first p n) n)
