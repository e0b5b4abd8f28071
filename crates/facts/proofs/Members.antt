-- Lemmas on the next member of a set.
use Rattle.std.proofs.Common.{◌≡◌, ℕ, zero, suc, ◌+◌, ◌-◌, ◌*◌, ◌/◌, ◌%◌, ◌^◌, ◌<◌, ◌≤◌, true, false, eqb, List, Option, get_or, sym, subst, refl, ap, ◌∙◌, ⊎_elim, lt_of_lt_of_le, lt_of_le_of_lt, div-one, arith, pow_mono, shr-shr}
use native.Mathlib.Nat.{div-eq_of_lt, zero-div}
use lib.Count.{count_trailing_zeros, under}
use lib.Pow.{shr_le}
use Rattle.std.proofs.lemmas.Bool.{cases_lt}
use Rattle.facts.specs.declared.set.BitSet.{BitSet}
use Rattle.facts.specs.Members.{Next}
use Rattle.facts.specs.Words.{bit, has}
use Rattle.facts.proofs.Sets.{half_bit, pow_two_suc}

-- what an iterator's set has next, where that set is the caller's
pub next_in : (s t : BitSet 4) (from : ℕ) (r : Option ℕ) → s ≡ t → Next s.words from r → Next t.words from r
next_in s t from r e next = subst (λ (x : BitSet 4). Next x.words from r) e next

-- t is the place of the lowest bit
abbrev Lowest : ℕ → ℕ → Type 0
Lowest n t = (bit n t ≡ 1) × ((j : ℕ) → j < t → bit n j ≡ 0)

lowest_step : (n t d : ℕ) → n % 2 ≡ d → (d ≡ 0 → Lowest (n / 2) t) → Lowest n (under d t)
lowest_step n t (suc d) e h = (ap (λ (m : ℕ). m % 2) (div-one n) ∙ omega arith, λ j m. absurd (omega arith))
lowest_step n t zero e h = (sym (half_bit n t) ∙ (h refl).0, below (h refl).1)
  where
    below : ((j : ℕ) → j < t → bit (n / 2) j ≡ 0) → (j : ℕ) → j < suc t → bit n j ≡ 0
    below r zero m = ap (λ (m : ℕ). m % 2) (div-one n) ∙ e
    below r (suc j) m = sym (half_bit n j) ∙ r j (omega arith)

trailing_bits : (k n : ℕ) → n < 2 ^ k → (n ≡ 0 → ⊥) → Lowest n (count_trailing_zeros k n)
unfolding count_trailing_zeros
trailing_bits zero n l h = absurd (h (omega arith))
trailing_bits (suc k) n l h =
    lowest_step n (count_trailing_zeros k (n / 2)) (n % 2) refl
    (λ e. let s = pow_two_suc k in trailing_bits k (n / 2) (omega arith) (λ z. h (omega arith)))

bit_shift : (w k j : ℕ) → bit (w / 2 ^ k) j ≡ bit w (k + j)
bit_shift w k j = ap (λ (n : ℕ). n % 2) (shr-shr w k j)

-- a bit past the 64th of a word
bit_past : (w k : ℕ) → w < 2 ^ 64 → 64 ≤ k → bit w k ≡ 0
bit_past w k l m =
    let big : 2 ^ 64 ≤ 2 ^ k = pow_mono m in
    ap (λ (n : ℕ). n % 2) (div-eq_of_lt (lt_of_lt_of_le l big))

-- the members of a word from the place `at` on
has_place : (ws : List ℕ) (at j : ℕ) → at % 64 + j < 64 → has ws (at + j) ≡ eqb (bit (get_or ws (at / 64) 0 / 2 ^ (at % 64)) j) 1
unfolding has
has_place ws at j l =
    let p : (at + j) / 64 ≡ at / 64 = omega arith in
    let q : (at + j) % 64 ≡ at % 64 + j = omega arith in
    rw (p, q) (ap (λ (b : ℕ). eqb b 1) (sym (bit_shift (get_or ws (at / 64) 0) (at % 64) j)))

module _ (ws : List ℕ) (at : ℕ) where
  abbrev rest : ℕ
  rest = get_or ws (at / 64) 0 / 2 ^ (at % 64)

  pub next_skips : rest ≡ 0 → (n : ℕ) → at ≤ n → n < (at / 64 + 1) * 64 → has ws n ≡ false
  next_skips e n l m =
      let j : ℕ = n - at in
      let same : at + j ≡ n = omega arith in
      ap (has ws) (sym same) ∙ has_place ws at j (omega arith) ∙ ap (λ (w : ℕ). eqb (bit w j) 1) e ∙ ap (λ (b : ℕ). eqb (b % 2) 1) (zero-div (2 ^ j))

  pub next_fits : get_or ws (at / 64) 0 < 2 ^ 64 → (rest ≡ 0 → ⊥) → at % 64 + count_trailing_zeros 64 rest < 64
  next_fits l h =
      let small : rest < 2 ^ 64 = lt_of_le_of_lt (shr_le (get_or ws (at / 64) 0) (at % 64)) l in
      let one : bit rest (count_trailing_zeros 64 rest) ≡ 1 = (trailing_bits 64 rest small h).0 in
      ⊎_elim (λ m. m)
      (λ m. absurd (two (bit rest (count_trailing_zeros 64 rest)) (bit_shift (get_or ws (at / 64) 0) (at % 64) (count_trailing_zeros 64 rest) ∙ bit_past (get_or ws (at / 64) 0) (at % 64 + count_trailing_zeros 64 rest) l m) one))
      (cases_lt (at % 64 + count_trailing_zeros 64 rest) 64)
    where
      two : (b : ℕ) → b ≡ 0 → b ≡ 1 → ⊥
      two b p q = omega arith

  pub next_found : get_or ws (at / 64) 0 < 2 ^ 64 → (rest ≡ 0 → ⊥) → (has ws (at + count_trailing_zeros 64 rest) ≡ true) × ((n : ℕ) → at ≤ n → n < at + count_trailing_zeros 64 rest → has ws n ≡ false)
  next_found l h =
      let small : rest < 2 ^ 64 = lt_of_le_of_lt (shr_le (get_or ws (at / 64) 0) (at % 64)) l in
      let fits = next_fits l h in
      let bits = trailing_bits 64 rest small h in (
        has_place ws at (count_trailing_zeros 64 rest) fits ∙ ap (λ (b : ℕ). eqb b 1) bits.0,
        between (count_trailing_zeros 64 rest) fits bits.1,
      )
    where
      between : (t : ℕ) → at % 64 + t < 64 → ((j : ℕ) → j < t → bit rest j ≡ 0) → (n : ℕ) → at ≤ n → n < at + t → has ws n ≡ false
      between t fits none n l m =
          let j : ℕ = n - at in
          let same : at + j ≡ n = omega arith in
          ap (has ws) (sym same) ∙ has_place ws at j (omega arith) ∙ ap (λ (b : ℕ). eqb b 1) (none j (omega arith))
