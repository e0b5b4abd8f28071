-- Lemmas on one member of a set.
use Rattle.std.proofs.Common.{◌≡◌, ◌≤◌, ℕ, zero, suc, ◌*◌, ◌/◌, ◌%◌, ◌^◌, ◌<◌, Bool, true, false, ◌&&◌, ◌||◌, eqb, ltb, ◌≢◌, List, length, get_or, set, sym, refl, ap, ◌∙◌, ⊎_elim, div-one, arith, get_or-set_other, get_or-set_same}
use native.Mathlib.Nat.{zero-div}
use lib.Bits.{bit_and, bit_or, and_mask}
use Rattle.std.proofs.lemmas.Nat.{one_shl, mod_below}
use Rattle.std.proofs.lemmas.Bool.{cases_eq, cases_lt, eq-eqb, ne_eqb, lt-ltb, le-ltb}
use Rattle.std.proofs.lemmas.List.{set_past}
use Rattle.facts.specs.Words.{bit, has, insert}
use Rattle.facts.proofs.Sets.{bit-or, bit_is, low_or, half_bit, pow_two_suc}

or_false : (x : Bool) → x ≡ (x || false)
or_false true = refl
or_false false = refl

eqb_suc : (j k : ℕ) → eqb j k ≡ eqb (suc j) (suc k)
eqb_suc j k =
    ⊎_elim (λ p. eq-eqb j k p ∙ sym (eq-eqb (suc j) (suc k) (ap suc p)))
    (λ p. ne_eqb j k p ∙ sym (ne_eqb (suc j) (suc k) (λ e. p (omega arith))))
    (cases_eq j k)

pub bit_pow : (j k : ℕ) → eqb (bit (2 ^ j) k) 1 ≡ eqb j k
bit_pow zero zero = refl
bit_pow zero (suc k) = ap (λ (n : ℕ). eqb n 1) (sym (half_bit 1 k) ∙ ap (λ (n : ℕ). n % 2) (zero-div (2 ^ k))) ∙ sym (ne_eqb 0 (suc k) (λ e. omega arith))
bit_pow (suc j) zero = ap (λ (n : ℕ). eqb n 1) (let s = pow_two_suc j in let e : 2 ^ suc j / 1 % 2 ≡ 0 = ap (λ (n : ℕ). n % 2) (div-one (2 ^ suc j)) ∙ omega arith in e) ∙ sym (ne_eqb (suc j) 0 (λ e. omega arith))
bit_pow (suc j) (suc k) =
    let s = pow_two_suc j in
    let h : 2 ^ suc j / 2 ≡ 2 ^ j = omega arith in
    ap (λ (n : ℕ). eqb n 1) (sym (half_bit (2 ^ suc j) k) ∙ ap (λ (n : ℕ). bit n k) h) ∙ bit_pow j k ∙ eqb_suc j k

same_place : (f g : ℕ) → g / 64 ≡ f / 64 → eqb (f % 64) (g % 64) ≡ eqb f g
same_place f g e =
    ⊎_elim (λ p. ap (λ (n : ℕ). eqb n (g % 64)) (ap (λ (n : ℕ). n % 64) p) ∙ eq-eqb (g % 64) (g % 64) refl ∙ sym (eq-eqb f g p))
    (λ p. ne_eqb (f % 64) (g % 64) (λ q. p (omega arith)) ∙ sym (ne_eqb f g p))
    (cases_eq f g)

-- how the code sets and tests a bit
pub bit_set : (ws : List ℕ) (n : ℕ) → set ws (n / 64) (bit_or (get_or ws (n / 64) 0) ((1 * 2 ^ (n % 64)) % 2 ^ 64)) ≡ insert ws n
unfolding insert
bit_set ws n = rw (one_shl (n % 64) 64 (mod_below n 64 (omega arith)))

pub bit_tested : (ws : List ℕ) (n : ℕ) → eqb (bit_and (get_or ws (n / 64) 0 / 2 ^ (n % 64)) 1) 1 ≡ has ws n
unfolding has
bit_tested ws n = rw (and_mask (get_or ws (n / 64) 0 / 2 ^ (n % 64)) 1)

pub has_insert : (ws : List ℕ) (f g : ℕ) → f / 64 < length ws → has (insert ws f) g ≡ (has ws g || eqb f g)
unfolding has insert
has_insert ws f g l =
    let v : ℕ = bit_or (get_or ws (f / 64) 0) (2 ^ (f % 64)) in
    ⊎_elim
    (λ e.
    let w : ℕ = get_or ws (f / 64) 0 in
    let a : get_or (set ws (f / 64) v) (g / 64) 0 ≡ v = rw e (get_or-set_same ws (f / 64) v 0 l) in
    let b : get_or ws (g / 64) 0 ≡ w = ap (λ (n : ℕ). get_or ws n 0) e in
    ap (λ (n : ℕ). eqb (bit n (g % 64)) 1) a
    ∙ ap (λ (n : ℕ). eqb n 1) (bit-or w (2 ^ (f % 64)) (g % 64))
    ∙ low_or (bit w (g % 64)) (bit (2 ^ (f % 64)) (g % 64)) (bit_is w (g % 64)) (bit_is (2 ^ (f % 64)) (g % 64))
    ∙ ap (λ (x : Bool). eqb (bit w (g % 64)) 1 || x) (bit_pow (f % 64) (g % 64) ∙ same_place f g e)
    ∙ ap (λ (n : ℕ). eqb (bit n (g % 64)) 1 || eqb f g) (sym b))
    (λ e.
    let n : f ≢ g = λ p. e (ap (λ (x : ℕ). x / 64) (sym p)) in
    let a : get_or (set ws (f / 64) v) (g / 64) 0 ≡ get_or ws (g / 64) 0 = get_or-set_other ws (f / 64) (g / 64) v 0 e in
    ap (λ (x : ℕ). eqb (bit x (g % 64)) 1) a ∙ or_false _ ∙ ap (λ (x : Bool). eqb (bit (get_or ws (g / 64) 0) (g % 64)) 1 || x) (sym (ne_eqb f g n)))
    (cases_eq (g / 64) (f / 64))

-- a number past the last word changes nothing
pub insert_past : (ws : List ℕ) (n : ℕ) → length ws ≤ n / 64 → insert ws n ≡ ws
unfolding insert
insert_past ws n l = set_past ws (n / 64) _ l

-- the members of a set of `words` words after any number was added
pub has_inserted : (ws : List ℕ) (words m n : ℕ) → length ws ≡ words → has (insert ws m) n ≡ (has ws n || (ltb m (64 * words) && eqb m n))
has_inserted ws words m n e =
    ⊎_elim
    (λ l. has_insert ws m n (omega arith) ∙ ap (λ (b : Bool). has ws n || (b && eqb m n)) (sym (lt-ltb m (64 * words) l)))
    (λ l. ap (λ (xs : List ℕ). has xs n) (insert_past ws m (omega arith)) ∙ or_false (has ws n) ∙ ap (λ (b : Bool). has ws n || (b && eqb m n)) (sym (le-ltb m (64 * words) l)))
    (cases_lt m (64 * words))
