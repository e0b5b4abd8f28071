-- Lemmas on sets as lists of words.
use Rattle.std.proofs.Common.{◌≡◌, ℕ, zero, suc, ◌+◌, ◌-◌, ◌*◌, ◌/◌, ◌%◌, ◌^◌, ◌<◌, ◌≤◌, min, max, Bool, true, false, not, ◌&&◌, ◌||◌, eqb, List, [], ◌∷◌, map, length, get_or, take, replicate, set, sym, refl, ap, ◌∙◌, ⊎_elim, add-one, div-one, arith, length-set, get_or-set_other, pow_mono, below_more}
use native.Mathlib.Nat.{pow-succ', zero-min, zero-div, div-div-eq-div-mul}
use lib.Bits.{bit_and, bit_or, bit_xor, and_step, or_step, xor_step, and_shr, or_shr, xor_shr, and_zero_l, and_self, differ}
use lib.Count.{ones}
use Rattle.std.specs.List.{range_with_len, AllByRecursion, list_all, list_any, zip}
use Rattle.std.proofs.lemmas.List.{take_all}
use Rattle.std.proofs.lemmas.List.Folds.{list_all_more}
use Rattle.std.proofs.lemmas.Slice.Zip.{length-zip, get_or-zip}
use Rattle.std.proofs.lemmas.List.FromFn.{fill_by_all, get_or-map-range_with_len, length-map-range_with_len}
use Rattle.std.proofs.lemmas.List.{get_or_past, get_or-replicate, ext_get_or, length-replicate}
use Rattle.std.proofs.lemmas.List.Sums.{sum_by_more}
use Rattle.std.proofs.lemmas.Nat.{mod_below, mod-mul-add, div-mul-add, and_le_l}
use Rattle.std.proofs.ByRecursion.{All-get_or}
use Rattle.std.proofs.lemmas.List.Edits.{fill_by_more}
use Rattle.std.proofs.lemmas.Bool.{and_parts, and_from, cases_Bool, cases_lt, eq-eqb, eqb-true, eqb-false}
use Rattle.std.proofs.lemmas.Slice.Eq.{slice_eq-Decides}
use Rattle.std.proofs.lemmas.Bool.Decides.{Decides-eqb}
use Rattle.std.specs.Prelude.{◌↔◌, IsTrue}
use Rattle.std.specs.Cmp.Lexicographic.{pointwise}
use Rattle.facts.specs.declared.set.BitSet.{BitSet}
use Rattle.facts.specs.Words.{bit, has, zipped, minus, union, without, common, every, subset, none, size}
use Rattle.facts.specs.Field.{number, words}

pub every_true : (p : ℕ → Bool) (n : ℕ) → every p n ≡ true → (k : ℕ) → k < n → p k ≡ true
every_true p zero e k h = absurd (omega arith)
every_true p (suc n) e k h =
    let both = and_parts (every p n) (p n) e in
    below_more (λ k. p k ≡ true) n (every_true p n both.0) both.1 k (omega arith)

pub every_from : (p : ℕ → Bool) (n : ℕ) → ((k : ℕ) → k < n → p k ≡ true) → every p n ≡ true
every_from p zero h = refl
every_from p (suc n) h = and_from (every p n) (p n) (every_from p n (λ k l. h k (omega arith))) (h n (omega arith))

-- what a loop over the words shows of `subset`
pub subset_from : (xs ys : List ℕ) → ((k : ℕ) → k < length xs → bit_and (get_or xs k 0) (get_or ys k 0) ≡ get_or xs k 0) → subset xs ys ≡ true
unfolding subset
subset_from xs ys h = every_from _ (length xs) (λ k l. eq-eqb _ _ (h k l))

pub subset_word : (xs ys : List ℕ) → subset xs ys ≡ true → (k : ℕ) → bit_and (get_or xs k 0) (get_or ys k 0) ≡ get_or xs k 0
unfolding subset
subset_word xs ys e k =
    ⊎_elim (λ l. eqb-true _ _ (every_true _ (length xs) e k l)) (λ l. rw (get_or_past xs k 0 l) (and_zero_l (get_or ys k 0))) (cases_lt k (length xs))

-- a test of each element, in their order and by their index
every_so_far : {A : Type 0} (p : A → Bool) (xs : List A) (d : A) (n : ℕ) → n ≤ length xs → list_all p (take n xs) ≡ every (λ k. p (get_or xs k d)) n
every_so_far p xs d zero l = refl
every_so_far p xs d (suc n) l =
    ap (λ (m : ℕ). list_all p (take m xs)) (sym (add-one n)) ∙ list_all_more p xs n d (omega arith) ∙ ap (λ (b : Bool). b && p (get_or xs n d)) (every_so_far p xs d n (omega arith))

every_all : {A : Type 0} (p : A → Bool) (xs : List A) (d : A) → list_all p xs ≡ every (λ k. p (get_or xs k d)) (length xs)
every_all p xs d = ap (list_all p) (sym (take_all (length xs) xs (omega arith))) ∙ every_so_far p xs d (length xs) (omega arith)

pub any_not : {A : Type 0} (p : A → Bool) (xs : List A) → list_any (λ x. not (p x)) xs ≡ not (list_all p xs)
any_not p [] = refl
any_not p (x ∷ xs) = one (p x) _ _ (any_not p xs)
  where
    one : (t a b : Bool) → a ≡ not b → (not t || a) ≡ not (t && b)
    one true a b e = e
    one false a b e = refl

every_same : (p q : ℕ → Bool) (n : ℕ) → ((k : ℕ) → k < n → p k ≡ q k) → every p n ≡ every q n
every_same p q zero h = refl
every_same p q (suc n) h = ap (λ (b : Bool). b && p n) (every_same p q n (λ k l. h k (omega arith))) ∙ ap (λ (b : Bool). every q n && b) (h n (omega arith))

pub none_all : (ws : List ℕ) → list_all (λ w. eqb w 0) ws ≡ none ws
unfolding none
none_all ws = every_all (λ w. eqb w 0) ws 0

-- the tests of two lists word by word
module _ (test : ℕ → ℕ → Bool) (xs ys : List ℕ) (long : length xs ≡ length ys) where
  pub zip_all : list_all (λ (p : ℕ × ℕ). test p.0 p.1) (zip xs ys) ≡ every (λ k. test (get_or xs k 0) (get_or ys k 0)) (length xs)
  zip_all =
      let n : length (zip xs ys) ≡ length xs = omega (arith, length-zip xs ys) in
      every_all (λ (p : ℕ × ℕ). test p.0 p.1) (zip xs ys) (0, 0)
      ∙ ap (every (λ k. test (get_or (zip xs ys) k (0, 0)).0 (get_or (zip xs ys) k (0, 0)).1)) n
      ∙ every_same _ _ (length xs) (λ k l. ap (λ (p : ℕ × ℕ). test p.0 p.1) (get_or-zip xs ys k (0, 0) l (omega arith)))

pub subset_all : (xs ys : List ℕ) → length xs ≡ length ys → list_all (λ (p : ℕ × ℕ). eqb (bit_and p.0 p.1) p.0) (zip xs ys) ≡ subset xs ys
unfolding subset
subset_all xs ys e = zip_all (λ x y. eqb (bit_and x y) x) xs ys e

-- bits
and_odd : (a b : ℕ) → bit_and a b % 2 ≡ min (a % 2) (b % 2)
and_odd a b = omega (arith, and_step a b)

or_odd : (a b : ℕ) → bit_or a b % 2 ≡ max (a % 2) (b % 2)
or_odd a b = omega (arith, or_step a b)

pub bit-and : (a b k : ℕ) → bit (bit_and a b) k ≡ min (bit a k) (bit b k)
bit-and a b k = ap (λ (x : ℕ). x % 2) (and_shr a b k) ∙ and_odd (a / 2 ^ k) (b / 2 ^ k)

pub bit-or : (a b k : ℕ) → bit (bit_or a b) k ≡ max (bit a k) (bit b k)
bit-or a b k = ap (λ (x : ℕ). x % 2) (or_shr a b k) ∙ or_odd (a / 2 ^ k) (b / 2 ^ k)

-- a loop that writes word by word: one word more
pub filled_more : (f : ℕ → ℕ) (xs : List ℕ) (i n v : ℕ) → (length xs ≡ n) × ((k : ℕ) → k < i → get_or xs k 0 ≡ f k) → i < n → v ≡ f i → (length (set xs i v) ≡ n) × ((k : ℕ) → k < i + 1 → get_or (set xs i v) k 0 ≡ f k)
filled_more f xs i n v inv l e =
    rw e (length-set xs i (f i) ∙ inv.0, fill_by_more f xs i 0 (omega arith) inv.1)

-- the same where the loop changes the words in place
pub changed_more : (f : ℕ → ℕ) (xs ys : List ℕ) (i v : ℕ) → (length xs ≡ length ys) × ((k : ℕ) → k < i → get_or xs k 0 ≡ f k) × ((k : ℕ) → i ≤ k → get_or xs k 0 ≡ get_or ys k 0) → i < length ys → v ≡ f i → (length (set xs i v) ≡ length ys) × ((k : ℕ) → k < i + 1 → get_or (set xs i v) k 0 ≡ f k) × ((k : ℕ) → i + 1 ≤ k → get_or (set xs i v) k 0 ≡ get_or ys k 0)
changed_more f xs ys i v inv l e =
    let more = filled_more f xs i (length ys) v (inv.0, inv.1) l e in (
      more.0,
      more.1,
      λ k h. get_or-set_other xs i k v 0 (λ p. omega arith) ∙ inv.2 k (omega arith),
    )

-- all words
pub zipped_from : (g : ℕ → ℕ → ℕ) (rs xs ys : List ℕ) → length rs ≡ length xs → length rs ≡ length ys → ((k : ℕ) → k < length rs → get_or rs k 0 ≡ g (get_or xs k 0) (get_or ys k 0)) → rs ≡ zipped g xs ys
zipped_from g rs xs ys p q h =
    fill_by_all (λ k. g (get_or xs k 0) (get_or ys k 0)) rs (max (length xs) (length ys)) 0 (omega arith) (λ k l. h k (omega arith))

pub union_from : (rs xs ys : List ℕ) → length rs ≡ length xs → length rs ≡ length ys → ((k : ℕ) → k < length rs → get_or rs k 0 ≡ bit_or (get_or xs k 0) (get_or ys k 0)) → rs ≡ union xs ys
unfolding union
union_from = zipped_from bit_or

pub without_from : (rs xs ys : List ℕ) → length rs ≡ length xs → length rs ≡ length ys → ((k : ℕ) → k < length rs → get_or rs k 0 ≡ minus (get_or xs k 0) (get_or ys k 0)) → rs ≡ without xs ys
unfolding without
without_from = zipped_from minus

low_not : (x y : ℕ) → x < 2 → y < 2 → min x (1 - y) ≡ differ x (min x y)
low_not zero y p q = zero-min (1 - y) ∙ sym (zero-min y)
low_not (suc zero) zero p q = refl
low_not (suc zero) (suc zero) p q = refl
low_not (suc zero) (suc (suc y)) p q = absurd (omega arith)
low_not (suc (suc x)) y p q = absurd (omega arith)

pub pow_two_suc : (k : ℕ) → 2 ^ suc k ≡ 2 * 2 ^ k
pow_two_suc k = pow-succ' 2 k

-- a test on two bits, by the four cases
pub low_or : (x y : ℕ) → x < 2 → y < 2 → eqb (max x y) 1 ≡ (eqb x 1 || eqb y 1)
low_or zero zero p q = refl
low_or zero (suc zero) p q = refl
low_or (suc zero) zero p q = refl
low_or (suc zero) (suc zero) p q = refl
low_or zero (suc (suc y)) p q = absurd (omega arith)
low_or (suc zero) (suc (suc y)) p q = absurd (omega arith)
low_or (suc (suc x)) y p q = absurd (omega arith)

low_minus : (x y : ℕ) → x < 2 → y < 2 → eqb (min x (1 - y)) 1 ≡ (eqb x 1 && not (eqb y 1))
low_minus zero zero p q = refl
low_minus zero (suc zero) p q = refl
low_minus (suc zero) zero p q = refl
low_minus (suc zero) (suc zero) p q = refl
low_minus zero (suc (suc y)) p q = absurd (omega arith)
low_minus (suc zero) (suc (suc y)) p q = absurd (omega arith)
low_minus (suc (suc x)) y p q = absurd (omega arith)

differ_lt : (x y : ℕ) → x < 2 → y < 2 → differ x y < 2
differ_lt zero y p q = q
differ_lt (suc zero) zero p q = p
differ_lt (suc zero) (suc zero) p q = omega arith
differ_lt (suc zero) (suc (suc y)) p q = absurd (omega arith)
differ_lt (suc (suc x)) y p q = absurd (omega arith)

minus_odd : (x y : ℕ) → minus x y % 2 ≡ min (x % 2) (1 - y % 2)
minus_odd x y =
    let d : minus x y % 2 ≡ differ (x % 2) (bit_and x y % 2) =
    ap (λ (n : ℕ). n % 2) (xor_step x (bit_and x y)) ∙ mod-mul-add (bit_xor (x / 2) (bit_and x y / 2)) 2 _ (differ_lt (x % 2) (bit_and x y % 2) (omega arith) (omega arith)) in
    d ∙ ap (differ (x % 2)) (and_odd x y) ∙ sym (low_not (x % 2) (y % 2) (mod_below x 2 (omega arith)) (mod_below y 2 (omega arith)))

pub bit_minus : (a b k : ℕ) → bit (minus a b) k ≡ min (bit a k) (1 - bit b k)
bit_minus a b k =
    let x : ℕ = a / 2 ^ k in
    let y : ℕ = b / 2 ^ k in
    ap (λ (n : ℕ). n % 2) (xor_shr a (bit_and a b) k ∙ ap (λ (n : ℕ). bit_xor x n) (and_shr a b k))
    ∙ minus_odd x y

-- `a & !b` on k bits
pub and_not : (k a b : ℕ) → a < 2 ^ k → b < 2 ^ k → bit_and a (2 ^ k - 1 - b) ≡ minus a b
and_not zero a b la lb =
    let za : a ≡ 0 = omega arith in rw za (and_zero_l (2 ^ zero - 1 - b))
and_not (suc k) a b la lb =
    let s : 2 ^ suc k ≡ 2 * 2 ^ k = pow_two_suc k in
    let h : (2 ^ suc k - 1 - b) / 2 ≡ 2 ^ k - 1 - b / 2 = omega arith in
    let o : (2 ^ suc k - 1 - b) % 2 ≡ 1 - b % 2 = omega arith in
    let m = low_not (a % 2) (b % 2) (omega arith) (omega arith) in
    let q : bit_and a b / 2 ≡ bit_and (a / 2) (b / 2) = and_shr a b 1 in
    let p = and_odd a b in
    let ih = and_not k (a / 2) (b / 2) (omega arith) (omega arith) in
    cc (and_step a (2 ^ suc k - 1 - b), xor_step a (bit_and a b))

pub none_from : (xs : List ℕ) → ((k : ℕ) → k < length xs → get_or xs k 0 ≡ 0) → none xs ≡ true
unfolding none
none_from xs h = every_from _ (length xs) (λ k l. eq-eqb _ _ (h k l))

-- a word of a set that is made of two; past the end all words are 0
pub getD_zipped : (g : ℕ → ℕ → ℕ) → g 0 0 ≡ 0 → (xs ys : List ℕ) (k : ℕ) → get_or (zipped g xs ys) k 0 ≡ g (get_or xs k 0) (get_or ys k 0)
getD_zipped g z xs ys k =
    let n : ℕ = max (length xs) (length ys) in
    let f : ℕ → ℕ = λ k. g (get_or xs k 0) (get_or ys k 0) in
    ⊎_elim
    (λ l. get_or-map-range_with_len f 0 n k k 0 l (omega arith))
    (λ l.
    let past : length (map f (range_with_len 0 n)) ≤ k = omega (arith, length-map-range_with_len f 0 n) in
    get_or_past (map f (range_with_len 0 n)) k 0 past ∙ sym (rw (get_or_past xs k 0 (omega arith), get_or_past ys k 0 (omega arith)) z))
    (cases_lt k n)

pub length_zipped : (g : ℕ → ℕ → ℕ) (xs ys : List ℕ) → length (zipped g xs ys) ≡ max (length xs) (length ys)
length_zipped g xs ys = length-map-range_with_len _ 0 (max (length xs) (length ys))

pub getD_without : (xs ys : List ℕ) (k : ℕ) → get_or (without xs ys) k 0 ≡ minus (get_or xs k 0) (get_or ys k 0)
unfolding without
getD_without = getD_zipped minus refl

pub length_without : (xs ys : List ℕ) → length (without xs ys) ≡ max (length xs) (length ys)
unfolding without
length_without = length_zipped minus

pub getD_union : (xs ys : List ℕ) (k : ℕ) → get_or (union xs ys) k 0 ≡ bit_or (get_or xs k 0) (get_or ys k 0)
unfolding union
getD_union = getD_zipped bit_or refl

-- a loop that counts: one word more, and all
pub size_none : 0 ≡ size []
unfolding size
size_none = refl

pub size_more : (ws : List ℕ) (i n x : ℕ) → i < length ws → n ≡ size (take i ws) → get_or ws i 0 ≡ x → n + ones x ≡ size (take (i + 1) ws)
unfolding size
size_more ws i n x l e h = let m = sum_by_more ones ws i 0 l in cc

-- what set membership says of the operations
pub bit_is : (w k : ℕ) → bit w k < 2
bit_is w k = mod_below (w / 2 ^ k) 2 (omega arith)

pub has_union : (xs ys : List ℕ) (f : ℕ) → has (union xs ys) f ≡ (has xs f || has ys f)
unfolding has
has_union xs ys f =
    let x : ℕ = get_or xs (f / 64) 0 in
    let y : ℕ = get_or ys (f / 64) 0 in
    ap (λ (w : ℕ). eqb (bit w (f % 64)) 1) (getD_union xs ys (f / 64))
    ∙ ap (λ (b : ℕ). eqb b 1) (bit-or x y (f % 64))
    ∙ low_or (bit x (f % 64)) (bit y (f % 64)) (bit_is x (f % 64)) (bit_is y (f % 64))

pub has_without : (xs ys : List ℕ) (f : ℕ) → has (without xs ys) f ≡ (has xs f && not (has ys f))
unfolding has
has_without xs ys f =
    let x : ℕ = get_or xs (f / 64) 0 in
    let y : ℕ = get_or ys (f / 64) 0 in
    ap (λ (w : ℕ). eqb (bit w (f % 64)) 1) (getD_without xs ys (f / 64))
    ∙ ap (λ (b : ℕ). eqb b 1) (bit_minus x y (f % 64))
    ∙ low_minus (bit x (f % 64)) (bit y (f % 64)) (bit_is x (f % 64)) (bit_is y (f % 64))

-- a word that is 0 has no member
pub zero_word : (ws : List ℕ) (n : ℕ) → get_or ws (n / 64) 0 ≡ 0 → has ws n ≡ false
unfolding has
zero_word ws n h = rw h (ap (λ (m : ℕ). eqb (m % 2) 1) (zero-div (2 ^ (n % 64))))

pub has_past : (ws : List ℕ) (f : ℕ) → length ws ≤ f / 64 → has ws f ≡ false
has_past ws f h = zero_word ws f (get_or_past ws (f / 64) 0 h)

low_and : (x y : ℕ) → x < 2 → y < 2 → eqb (min x y) 1 ≡ (eqb x 1 && eqb y 1)
low_and zero zero p q = refl
low_and zero (suc zero) p q = refl
low_and (suc zero) zero p q = refl
low_and (suc zero) (suc zero) p q = refl
low_and zero (suc (suc y)) p q = absurd (omega arith)
low_and (suc zero) (suc (suc y)) p q = absurd (omega arith)
low_and (suc (suc x)) y p q = absurd (omega arith)

-- the test `subset` against membership
pub subset_has : (xs ys : List ℕ) → subset xs ys ≡ true → (f : ℕ) → has xs f ≡ true → has ys f ≡ true
unfolding has
subset_has xs ys e f h =
    let x : ℕ = get_or xs (f / 64) 0 in
    let y : ℕ = get_or ys (f / 64) 0 in
    let b : bit x (f % 64) ≡ min (bit x (f % 64)) (bit y (f % 64)) = ap (λ (w : ℕ). bit w (f % 64)) (sym (subset_word xs ys e (f / 64))) ∙ bit-and x y (f % 64) in
    let one = eqb-true (bit x (f % 64)) 1 h in
    let small = bit_is y (f % 64) in
    eq-eqb (bit y (f % 64)) 1 (omega arith)

pub half_bit : (a j : ℕ) → bit (a / 2) j ≡ bit a (suc j)
half_bit a j = ap (λ (n : ℕ). n % 2) (div-div-eq-div-mul a 2 (2 ^ j) ∙ ap (λ (n : ℕ). a / n) (sym (pow_two_suc j)))

-- a number of k bits is known by them
pub same_bits : (k a b : ℕ) → a < 2 ^ k → b < 2 ^ k → ((j : ℕ) → j < k → bit a j ≡ bit b j) → a ≡ b
same_bits zero a b la lb h = omega arith
same_bits (suc k) a b la lb h =
    let s : 2 ^ suc k ≡ 2 * 2 ^ k = pow_two_suc k in
    let low : a % 2 ≡ b % 2 = simp div-one at (h 0 (omega arith)) in
    let rest : a / 2 ≡ b / 2 =
    same_bits k (a / 2) (b / 2) (omega arith) (omega arith) (λ j l. half_bit a j ∙ h (suc j) (omega arith) ∙ sym (half_bit b j)) in
    omega arith

low_within : (x y : ℕ) → x < 2 → y < 2 → (eqb x 1 ≡ true → eqb y 1 ≡ true) → min x y ≡ x
low_within zero y p q h = zero-min y
low_within (suc zero) y p q h = let e = eqb-true y 1 (h refl) in omega arith
low_within (suc (suc x)) y p q h = absurd (omega arith)

-- fact j of word k
pub has_at : (ws : List ℕ) (k j : ℕ) → j < 64 → has ws (k * 64 + j) ≡ eqb (bit (get_or ws k 0) j) 1
unfolding has
has_at ws k j l = rw (div-mul-add k 64 j l, mod-mul-add k 64 j l)

-- a word lies within another if each of its members does
pub word_from_has : (xs ys : List ℕ) (k : ℕ) → get_or xs k 0 < 2 ^ 64 → ((f : ℕ) → has xs f ≡ true → has ys f ≡ true) → bit_and (get_or xs k 0) (get_or ys k 0) ≡ get_or xs k 0
word_from_has xs ys k lx h =
    let x : ℕ = get_or xs k 0 in
    let y : ℕ = get_or ys k 0 in
    let la : bit_and x y < 2 ^ 64 = omega (arith, and_le_l x y) in
    same_bits 64 (bit_and x y) x la lx
    (λ j m.
    bit-and x y j
    ∙ low_within (bit x j) (bit y j) (bit_is x j) (bit_is y j)
    (λ t. sym (has_at ys k j m) ∙ h (k * 64 + j) (has_at xs k j m ∙ t)))

-- the test `subset` says that each member of the one is a member of the other
pub subset_from_has : (xs ys : List ℕ) → AllByRecursion (λ w. w < 2 ^ 64) xs → ((f : ℕ) → has xs f ≡ true → has ys f ≡ true) → subset xs ys ≡ true
subset_from_has xs ys small h =
    subset_from xs ys (λ k l. word_from_has xs ys k (All-get_or (λ w. w < 2 ^ 64) xs k 0 l small) h)

pub low_same : (x y : ℕ) → x < 2 → y < 2 → eqb x 1 ≡ eqb y 1 → x ≡ y
low_same x y p q e = ⊎_elim (λ h. eqb-true x 1 h ∙ sym (eqb-true y 1 (sym e ∙ h))) (λ h. let nx = eqb-false x 1 h in let ny = eqb-false y 1 (sym e ∙ h) in omega arith) (cases_Bool (eqb x 1))

-- sets of as many words are equal if they have the same members
pub same_sets : (xs ys : List ℕ) → length xs ≡ length ys → AllByRecursion (λ w. w < 2 ^ 64) xs → AllByRecursion (λ w. w < 2 ^ 64) ys → ((f : ℕ) → has xs f ≡ has ys f) → xs ≡ ys
same_sets xs ys e sx sy h =
    ext_get_or 0 xs ys e
    (λ k l.
    same_bits 64 (get_or xs k 0) (get_or ys k 0) (All-get_or (λ w. w < 2 ^ 64) xs k 0 l sx) (All-get_or (λ w. w < 2 ^ 64) ys k 0 (omega arith) sy)
    (λ j m. low_same _ _ (bit_is (get_or xs k 0) j) (bit_is (get_or ys k 0) j) (sym (has_at xs k j m) ∙ h (k * 64 + j) ∙ has_at ys k j m)))

-- a field of a file, word by word
pub words_from : (n : ℕ) (rs bs : List ℕ) (at : ℕ) → length rs ≡ n → ((k : ℕ) → k < n → get_or rs k 0 ≡ number 8 bs (at + 8 * k)) → rs ≡ words n bs at
unfolding words
words_from n rs bs at e h = fill_by_all (λ k. number 8 bs (at + 8 * k)) rs n 0 e h

pub length_words : (n : ℕ) (bs : List ℕ) (at : ℕ) → length (words n bs at) ≡ n
unfolding words
length_words n bs at = length-map-range_with_len _ 0 n

pub getD_common : (xs ys : List ℕ) (k : ℕ) → get_or (common xs ys) k 0 ≡ bit_and (get_or xs k 0) (get_or ys k 0)
unfolding common
getD_common = getD_zipped bit_and refl

pub length_common : (xs ys : List ℕ) → length (common xs ys) ≡ max (length xs) (length ys)
unfolding common
length_common = length_zipped bit_and

pub common_all : (xs ys : List ℕ) → length xs ≡ length ys → list_all (λ (p : ℕ × ℕ). eqb (bit_and p.0 p.1) 0) (zip xs ys) ≡ none (common xs ys)
unfolding none
common_all xs ys e =
    let n : length xs ≡ length (common xs ys) = omega (arith, length_common xs ys) in
    zip_all (λ x y. eqb (bit_and x y) 0) xs ys e
    ∙ every_same _ _ (length xs) (λ k l. ap (λ (w : ℕ). eqb w 0) (sym (getD_common xs ys k)))
    ∙ ap (every (λ k. eqb (get_or (common xs ys) k 0) 0)) n

pub has_common : (xs ys : List ℕ) (f : ℕ) → has (common xs ys) f ≡ (has xs f && has ys f)
unfolding has
has_common xs ys f =
    let x : ℕ = get_or xs (f / 64) 0 in
    let y : ℕ = get_or ys (f / 64) 0 in
    ap (λ (w : ℕ). eqb (bit w (f % 64)) 1) (getD_common xs ys (f / 64))
    ∙ ap (λ (b : ℕ). eqb b 1) (bit-and x y (f % 64))
    ∙ low_and (bit x (f % 64)) (bit y (f % 64)) (bit_is x (f % 64)) (bit_is y (f % 64))

-- the test `none` against membership
pub none_word : (ws : List ℕ) → none ws ≡ true → (k : ℕ) → get_or ws k 0 ≡ 0
unfolding none
none_word ws e k =
    ⊎_elim (λ l. eqb-true _ _ (every_true _ (length ws) e k l)) (λ l. get_or_past ws k 0 l) (cases_lt k (length ws))

pub none_has : (ws : List ℕ) → none ws ≡ true → (n : ℕ) → has ws n ≡ false
none_has ws e n = zero_word ws n (none_word ws e (n / 64))

pub has_nothing : (count n : ℕ) → has (replicate count 0) n ≡ false
has_nothing count n =
    zero_word (replicate count 0) n
    (⊎_elim (λ l. get_or-replicate count (n / 64) 0 0 l) (λ l. get_or_past (replicate count 0) (n / 64) 0 (omega (arith, length-replicate {A = ℕ} count 0))) (cases_lt (n / 64) count))

low_zero : (x : ℕ) → x < 2 → eqb x 1 ≡ false → x ≡ 0
low_zero x l e = let n = eqb-false x 1 e in omega arith

pub none_from_has : (ws : List ℕ) → AllByRecursion (λ w. w < 2 ^ 64) ws → ((n : ℕ) → has ws n ≡ false) → none ws ≡ true
none_from_has ws small h =
    none_from ws
    (λ k l.
    same_bits 64 (get_or ws k 0) 0 (All-get_or (λ w. w < 2 ^ 64) ws k 0 l small) (omega arith)
    (λ j m. low_zero _ (bit_is (get_or ws k 0) j) (sym (has_at ws k j m) ∙ h (k * 64 + j)) ∙ sym (ap (λ (n : ℕ). n % 2) (zero-div (2 ^ j)))))

pub subset_self : (xs : List ℕ) → subset xs xs ≡ true
subset_self xs = subset_from xs xs (λ k l. and_self (get_or xs k 0))

below_pow : (n : ℕ) → n < 2 ^ n
below_pow zero = omega arith
below_pow (suc n) = let s = pow_two_suc n in let ih = below_pow n in omega arith

-- a number is known by its bits
pub same_number : (a b : ℕ) → ((j : ℕ) → bit a j ≡ bit b j) → a ≡ b
same_number a b h =
    let la : a < 2 ^ (a + b) = omega (arith, below_pow a, pow_mono {i = a} {j = a + b} (omega arith)) in
    let lb : b < 2 ^ (a + b) = omega (arith, below_pow b, pow_mono {i = b} {j = a + b} (omega arith)) in
    same_bits (a + b) a b la lb (λ j _. h j)

word_within : (a b : ℕ) → bit_and a b ≡ a → (j : ℕ) → min (bit a j) (bit b j) ≡ bit a j
word_within a b e j = sym (bit-and a b j) ∙ ap (λ (w : ℕ). bit w j) e

pub union_within : (xs ys zs : List ℕ) → subset xs zs ≡ true → subset ys zs ≡ true → subset (union xs ys) zs ≡ true
union_within xs ys zs p q =
    subset_from (union xs ys) zs
    (λ k l.
    let x : ℕ = get_or xs k 0 in
    let y : ℕ = get_or ys k 0 in
    let z : ℕ = get_or zs k 0 in
    rw (getD_union xs ys k)
    (same_number (bit_and (bit_or x y) z) (bit_or x y)
    (λ j. omega (arith, bit-and (bit_or x y) z j, bit-or x y j, word_within x z (subset_word xs zs p k) j, word_within y z (subset_word ys zs q k) j))))

pub without_within : (xs ys zs : List ℕ) → subset xs zs ≡ true → subset (without xs ys) zs ≡ true
without_within xs ys zs p =
    subset_from (without xs ys) zs
    (λ k l.
    let x : ℕ = get_or xs k 0 in
    let y : ℕ = get_or ys k 0 in
    let z : ℕ = get_or zs k 0 in
    rw (getD_without xs ys k)
    (same_number (bit_and (minus x y) z) (minus x y)
    (λ j. omega (arith, bit-and (minus x y) z j, bit_minus x y j, word_within x z (subset_word xs zs p k) j))))

pub subset_trans : (xs ys zs : List ℕ) → subset xs ys ≡ true → subset ys zs ≡ true → subset xs zs ≡ true
subset_trans xs ys zs p q =
    subset_from xs zs
    (λ k l.
    let x : ℕ = get_or xs k 0 in
    let y : ℕ = get_or ys k 0 in
    let z : ℕ = get_or zs k 0 in
    same_number (bit_and x z) x
    (λ j. omega (arith, bit-and x z j, word_within x y (subset_word xs ys p k) j, word_within y z (subset_word ys zs q k) j)))

-- what `==` of two sets says
pub sets_equal : {N : ℕ} (s t : BitSet N) (equal : Bool) → equal ≡ pointwise eqb s.words t.words → (IsTrue equal ↔ (s ≡ t))
sets_equal s t equal e =
    let words = slice_eq-Decides Decides-eqb s.words t.words equal e in
    (λ i. ap (λ (ws : List ℕ). record { words = ws }) (words.0 i), λ i. words.1 (ap (λ x. x.words) i))
