-- Lemmas on sets in files.
use Rattle.std.proofs.Common.{◌≡◌, ℕ, zero, suc, ◌+◌, ◌-◌, ◌*◌, ◌/◌, ◌%◌, ◌^◌, ◌<◌, ◌≤◌, eqb, List, length, get_or, drop, sym, refl, ap, ◌∙◌, ⊎_elim, arith, length-drop, length-take, add_assoc, take, get_or-drop, get_or-take}
use native.Mathlib.Nat.{pow-succ'}
use Rattle.std.proofs.lemmas.Nat.{shr-shr}
use Rattle.std.specs.List.{AllByRecursion}
use Rattle.std.proofs.lemmas.List.FromFn.{get_or-map-range_with_len, length-map-range_with_len, fill_by_all}
use Rattle.std.proofs.ByRecursion.{All-get_or, All-from_get_or}
use Rattle.std.proofs.lemmas.List.{ext_get_or, get_or_past}
use Rattle.std.proofs.lemmas.Bool.{cases_lt}
use Rattle.std.specs.Int.{from_le_bytes}
use mir.Syntax.{w64}
use Rattle.facts.specs.Words.{bit, has}
use Rattle.facts.specs.Field.{number, words, bytes, part}
use Rattle.facts.proofs.Sets.{has_past, same_bits, same_sets, length_words}

number_low : (b n j : ℕ) → j < 8 → bit (b + 256 * n) j ≡ bit b j
number_low b n zero l = omega arith
number_low b n (suc zero) l = omega arith
number_low b n (suc (suc zero)) l = omega arith
number_low b n (suc (suc (suc zero))) l = omega arith
number_low b n (suc (suc (suc (suc zero)))) l = omega arith
number_low b n (suc (suc (suc (suc (suc zero))))) l = omega arith
number_low b n (suc (suc (suc (suc (suc (suc zero)))))) l = omega arith
number_low b n (suc (suc (suc (suc (suc (suc (suc zero))))))) l = omega arith
number_low b n (suc (suc (suc (suc (suc (suc (suc (suc j)))))))) l = absurd (omega arith)

number_high : (b n j : ℕ) → b < 256 → bit (b + 256 * n) (8 + j) ≡ bit n j
number_high b n j l =
    let h : (b + 256 * n) / 256 ≡ n = omega arith in
    ap (λ (m : ℕ). m % 2) (sym (shr-shr (b + 256 * n) 8 j) ∙ ap (λ (m : ℕ). m / 2 ^ j) h)

pub bit_number : (n : ℕ) (bs : List ℕ) (at j : ℕ) → ((k : ℕ) → get_or bs k 0 < 256) → j < 8 * n → bit (number n bs at) j ≡ bit (get_or bs (at + j / 8) 0) (j % 8)
bit_number zero bs at j small l = absurd (omega arith)
bit_number (suc n) bs at j small l =
    ⊎_elim
    (λ h.
    let p : at + j / 8 ≡ at = omega arith in
    let q : j % 8 ≡ j = omega arith in
    rw (p, q) (number_low (get_or bs at 0) (number n bs (at + 1)) j h))
    (λ h.
    let p : at + j / 8 ≡ at + 1 + (j - 8) / 8 = omega arith in
    let q : j % 8 ≡ (j - 8) % 8 = omega arith in
    let e : 8 + (j - 8) ≡ j = omega arith in
    rw (p, q)
    (ap (λ (i : ℕ). bit (number (suc n) bs at) i) (sym e)
    ∙ number_high (get_or bs at 0) (number n bs (at + 1)) (j - 8) (small at)
    ∙ bit_number n bs (at + 1) (j - 8) small (omega arith)))
    (cases_lt j 8)

pub has_words : (n : ℕ) (bs : List ℕ) (at f : ℕ) → ((k : ℕ) → get_or bs k 0 < 256) → f < 64 * n → has (words n bs at) f ≡ eqb (bit (get_or bs (at + f / 8) 0) (f % 8)) 1
unfolding has words
has_words n bs at f small l =
    let w = get_or-map-range_with_len (λ k. number 8 bs (at + 8 * k)) 0 n (f / 64) (f / 64) 0 (omega arith) (omega arith) in
    let p : at + 8 * (f / 64) + (f % 64) / 8 ≡ at + f / 8 = omega arith in
    let q : (f % 64) % 8 ≡ f % 8 = omega arith in
    ap (λ (x : ℕ). eqb (bit x (f % 64)) 1) w
    ∙ ap (λ (x : ℕ). eqb x 1) (bit_number 8 bs (at + 8 * (f / 64)) (f % 64) small (omega arith))
    ∙ rw (p, q)

-- a byte of a number
bit_byte : (x m j : ℕ) → j < 8 → bit (x / 2 ^ m % 256) j ≡ bit x (m + j)
bit_byte x m j l =
    let y : ℕ = x / 2 ^ m in
    let e : y % 256 + 256 * (y / 256) ≡ y = omega arith in
    sym (number_low (y % 256) (y / 256) j l)
    ∙ ap (λ (n : ℕ). bit n j) e
    ∙ ap (λ (n : ℕ). n % 2) (shr-shr x m j)

number_small : (n : ℕ) (bs : List ℕ) (at : ℕ) → ((k : ℕ) → get_or bs k 0 < 256) → number n bs at < 256 ^ n
number_small zero bs at small = omega arith
number_small (suc n) bs at small =
    let ih = number_small n bs (at + 1) small in
    let b = small at in
    let p = pow-succ' 256 n in
    omega arith

pub each_small : (bs : List ℕ) → AllByRecursion (λ b. b < 256) bs → (k : ℕ) → get_or bs k 0 < 256
each_small bs small k =
    ⊎_elim (λ l. All-get_or (λ b. b < 256) bs k 0 l small) (λ l. let e = get_or_past bs k 0 l in omega arith) (cases_lt k (length bs))

pub words_small : (n : ℕ) (bs : List ℕ) (at : ℕ) → ((k : ℕ) → get_or bs k 0 < 256) → AllByRecursion (λ w. w < 2 ^ 64) (words n bs at)
unfolding words
words_small n bs at small =
    All-from_get_or (λ w. w < 2 ^ 64) (words n bs at) 0
    (λ k l.
    let m : k < n = omega (arith, length_words n bs at) in
    let e = get_or-map-range_with_len (λ k. number 8 bs (at + 8 * k)) 0 n k k 0 m (omega arith) in
    let s = number_small 8 bs (at + 8 * k) small in
    rw e s)

pub length_bytes : (n : ℕ) (ws : List ℕ) → length (bytes n ws) ≡ n
unfolding bytes
length_bytes n ws = length-map-range_with_len _ 0 n

getD_bytes : (n : ℕ) (ws : List ℕ) (k : ℕ) → k < n → get_or (bytes n ws) k 0 ≡ get_or ws (k / 8) 0 / 2 ^ (8 * (k % 8)) % 256
unfolding bytes
getD_bytes n ws k l = get_or-map-range_with_len (λ k. get_or ws (k / 8) 0 / 2 ^ (8 * (k % 8)) % 256) 0 n k k 0 l (omega arith)

pub bytes_small : (n : ℕ) (ws : List ℕ) (k : ℕ) → get_or (bytes n ws) k 0 < 256
bytes_small n ws k =
    ⊎_elim (λ l. let e = getD_bytes n ws k l in omega arith)
    (λ l. let e = get_or_past (bytes n ws) k 0 (omega (arith, length_bytes n ws)) in omega arith)
    (cases_lt k n)

-- a loop that writes byte by byte: all bytes
pub bytes_from : (n : ℕ) (rs ws : List ℕ) → length rs ≡ n → ((k : ℕ) → k < n → get_or rs k 0 ≡ get_or ws (k / 8) 0 / 2 ^ (8 * (k % 8)) % 256) → rs ≡ bytes n ws
unfolding bytes
bytes_from n rs ws e h = fill_by_all (λ k. get_or ws (k / 8) 0 / 2 ^ (8 * (k % 8)) % 256) rs n 0 e h

has_back : (ws : List ℕ) (f : ℕ) → f < 64 * length ws → has (words (length ws) (bytes (8 * length ws) ws) 0) f ≡ has ws f
unfolding has
has_back ws f l =
    let bs : List ℕ = bytes (8 * length ws) ws in
    let p : f / 8 / 8 ≡ f / 64 = omega arith in
    let q : 8 * (f / 8 % 8) + f % 8 ≡ f % 64 = omega arith in
    let z : 0 + f / 8 ≡ f / 8 = omega arith in
    has_words (length ws) bs 0 f (bytes_small (8 * length ws) ws) l
    ∙ ap (λ (k : ℕ). eqb (bit (get_or bs k 0) (f % 8)) 1) z
    ∙ ap (λ (b : ℕ). eqb (bit b (f % 8)) 1) (getD_bytes (8 * length ws) ws (f / 8) (omega arith))
    ∙ ap (λ (b : ℕ). eqb b 1) (bit_byte (get_or ws (f / 8 / 8) 0) (8 * (f / 8 % 8)) (f % 8) (omega arith))
    ∙ rw (p, q)

-- a set is read back from its bytes
pub words_back : (ws : List ℕ) → AllByRecursion (λ w. w < 2 ^ 64) ws → words (length ws) (bytes (8 * length ws) ws) 0 ≡ ws
words_back ws small =
    let bs : List ℕ = bytes (8 * length ws) ws in
    let len = length_words (length ws) bs 0 in
    same_sets (words (length ws) bs 0) ws len (words_small (length ws) bs 0 (bytes_small (8 * length ws) ws)) small
    (λ f.
    ⊎_elim (λ l. has_back ws f l)
    (λ l. has_past (words (length ws) bs 0) f (omega arith) ∙ sym (has_past ws f (omega arith)))
    (cases_lt f (64 * length ws)))

-- bytes that were read are written again
pub bytes_back : (n : ℕ) (bs : List ℕ) (at : ℕ) → ((k : ℕ) → get_or bs k 0 < 256) → at + 8 * n ≤ length bs → bytes (8 * n) (words n bs at) ≡ part (8 * n) bs at
unfolding words
bytes_back n bs at small l =
    let len : length (part (8 * n) bs at) ≡ 8 * n = simp (length-take, length-drop) (omega arith) in
    ext_get_or 0 (bytes (8 * n) (words n bs at)) (part (8 * n) bs at) (length_bytes (8 * n) (words n bs at) ∙ sym len)
    (λ k m.
    let lt : k < 8 * n = omega (arith, length_bytes (8 * n) (words n bs at)) in
    let w : get_or (words n bs at) (k / 8) 0 ≡ number 8 bs (at + 8 * (k / 8)) =
    get_or-map-range_with_len (λ k. number 8 bs (at + 8 * k)) 0 n (k / 8) (k / 8) 0 (omega arith) (omega arith) in
    let x : ℕ = number 8 bs (at + 8 * (k / 8)) in
    let r : get_or (part (8 * n) bs at) k 0 ≡ get_or bs (at + k) 0 = get_or-take (8 * n) (drop at bs) k 0 lt ∙ get_or-drop at bs k 0 in
    let s = small (at + k) in
    getD_bytes (8 * n) (words n bs at) k lt
    ∙ ap (λ (y : ℕ). y / 2 ^ (8 * (k % 8)) % 256) w
    ∙ same_bits 8 (x / 2 ^ (8 * (k % 8)) % 256) (get_or bs (at + k) 0) (omega arith) (omega arith)
    (λ j h.
    let p : at + 8 * (k / 8) + (8 * (k % 8) + j) / 8 ≡ at + k = omega arith in
    let q : (8 * (k % 8) + j) % 8 ≡ j = omega arith in
    bit_byte x (8 * (k % 8)) j h
    ∙ bit_number 8 bs (at + 8 * (k / 8)) (8 * (k % 8) + j) small (omega arith)
    ∙ rw (p, q))
    ∙ sym r)

-- a word of eight bytes that stand one after another
pub word_read : (fs bs : List ℕ) (at : ℕ) → fs ≡ take 8 (drop at bs) → from_le_bytes w64 fs ≡ number 8 bs at
word_read fs bs at e =
    let byte : (i : ℕ) → i < 8 → get_or fs i 0 ≡ get_or bs (at + i) 0 = λ i l. rw e (get_or-take 8 (drop at bs) i 0 l ∙ get_or-drop at bs i 0) in
    let first : get_or fs 0 0 ≡ get_or bs at 0 = byte 0 (omega arith) ∙ ap (λ (k : ℕ). get_or bs k 0) (omega arith) in
    let whole : from_le_bytes w64 fs ≡ get_or fs 0 0 + get_or fs 1 0 * 256 + get_or fs 2 0 * 65536 + get_or fs 3 0 * 16777216 + get_or fs 4 0 * 4294967296 + get_or fs 5 0 * 1099511627776 + get_or fs 6 0 * 281474976710656 + get_or fs 7 0 * 72057594037927936 = refl in
    whole ∙ simp add_assoc (omega (arith, first, byte 1 (omega arith), byte 2 (omega arith), byte 3 (omega arith), byte 4 (omega arith), byte 5 (omega arith), byte 6 (omega arith), byte 7 (omega arith)))
