-- The size of a set is the number of its members.
use Rattle.std.proofs.Common.{◌≡◌, ℕ, zero, suc, ◌+◌, ◌*◌, ◌/◌, ◌%◌, ◌^◌, ◌<◌, Bool, cond, eqb, List, [], ◌∷◌, length, sym, refl, ap, ◌∙◌, add-zero, add-suc, div-one, one-add, arith}
use lib.Count.{ones, ones_step}
use Rattle.std.specs.List.{AllByRecursion}
use Rattle.std.proofs.lemmas.List.Sums.{sum_by-cons}
use Rattle.facts.specs.Words.{bit, has, size, tally}
use Rattle.facts.proofs.Sets.{half_bit, bit_is, pow_two_suc}

pub tally_same : (p q : ℕ → Bool) (n : ℕ) → ((k : ℕ) → k < n → p k ≡ q k) → tally p n ≡ tally q n
tally_same p q zero h = refl
tally_same p q (suc n) h =
    let a = tally_same p q n (λ k l. h k (omega arith)) in
    let b = h n (omega arith) in
    cc

pub tally_split : (p : ℕ → Bool) (m n : ℕ) → tally p (m + n) ≡ tally p m + tally (λ k. p (m + k)) n
tally_split p m zero = ap (tally p) (add-zero m) ∙ sym (add-zero (tally p m))
tally_split p m (suc n) =
    let a = tally_split p m n in
    ap (tally p) (add-suc m n) ∙ omega arith

low_count : (x : ℕ) → x < 2 → cond (eqb x 1) 1 0 ≡ x
low_count zero l = refl
low_count (suc zero) l = refl
low_count (suc (suc x)) l = absurd (omega arith)

ones_zero : ones 0 ≡ 0
unfolding ones
ones_zero = refl

ones_tally : (n w : ℕ) → w < 2 ^ n → ones w ≡ tally (λ k. eqb (bit w k) 1) n
ones_tally zero w l = let e : w ≡ 0 = omega arith in ap ones e ∙ ones_zero
ones_tally (suc n) w l =
    let s = pow_two_suc n in
    let p : ℕ → Bool = λ k. eqb (bit w k) 1 in
    let ih = ones_tally n (w / 2) (omega arith) in
    let low : cond (p 0) 1 0 ≡ w % 2 = low_count (bit w 0) (bit_is w 0) ∙ ap (λ (x : ℕ). x % 2) (div-one w) in
    let same = tally_same (λ k. eqb (bit (w / 2) k) 1) (λ k. p (1 + k)) n (λ k m. ap (λ (x : ℕ). eqb x 1) (half_bit w k ∙ ap (bit w) (sym (one-add k)))) in
    let split = tally_split p 1 n in
    let joined : tally p (1 + n) ≡ w % 2 + ones (w / 2) = omega arith in
    ones_step w ∙ sym joined ∙ ap (tally p) (one-add n)

has_cons_low : (w : ℕ) (ws : List ℕ) (f : ℕ) → f < 64 → has (w ∷ ws) f ≡ eqb (bit w f) 1
unfolding has
has_cons_low w ws f l =
    let p : f / 64 ≡ 0 = omega arith in
    let q : f % 64 ≡ f = omega arith in
    rw (p, q)

has_cons_high : (w : ℕ) (ws : List ℕ) (f : ℕ) → has (w ∷ ws) (64 + f) ≡ has ws f
unfolding has
has_cons_high w ws f =
    let p : (64 + f) / 64 ≡ suc (f / 64) = omega arith in
    let q : (64 + f) % 64 ≡ f % 64 = omega arith in
    rw (p, q)

-- a `tally` up to a numeral computes, so that omega would see all its parts: it gets names here
glue : {o s a b c d t : ℕ} → o ≡ a → b ≡ a → c ≡ d → s ≡ d → t ≡ b + c → o + s ≡ t
glue p q r u v = omega arith

pub size_tally : (ws : List ℕ) → AllByRecursion (λ w. w < 2 ^ 64) ws → size ws ≡ tally (has ws) (64 * length ws)
unfolding size
size_tally [] small = refl
size_tally (w ∷ ws) small =
    let n : ℕ = 64 * length ws in
    let ih = size_tally ws small.1 in
    let a = ones_tally 64 w small.0 in
    let low = tally_same (has (w ∷ ws)) (λ k. eqb (bit w k) 1) 64 (λ k l. has_cons_low w ws k l) in
    let high = tally_same (λ k. has (w ∷ ws) (64 + k)) (has ws) n (λ k l. has_cons_high w ws k) in
    let split = tally_split (has (w ∷ ws)) 64 n in
    let e : 64 * suc (length ws) ≡ 64 + n = omega arith in
    sum_by-cons ones w ws ∙ glue a low high ih split ∙ ap (tally (has (w ∷ ws))) (sym e)
