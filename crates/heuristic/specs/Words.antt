-- Lemmas on the words of sets within the facts in use.
use Rattle.std.specs.Prelude.{◌≡◌, ℕ, zero, suc, ◌+◌, ◌*◌, ◌/◌, ◌^◌, ◌<◌, ◌≤◌, min, Bool, true, false, not, ◌&&◌, List, [], ◌∷◌, length, count_ones, nat_lt, slice_index, slice_index_or, refl}
use Rattle.std.proofs.Common.{sym, ap, ◌∙◌, ⊎_elim, arith}
use Rattle.std.specs.Int.Bits.{bit_and, and_zero_l}
use Rattle.std.proofs.lemmas.Nat.{and_le_l, and_le_r, ones-le}
use Rattle.std.specs.Int.Count.{ones_step}
use Rattle.std.proofs.lemmas.List.Sums.{sum_by-cons, get_or-le-sum_by}
use Rattle.std.proofs.lemmas.List.{get_or_past}
use Rattle.std.proofs.lemmas.Bool.{and_left, and_parts, both_ways, cases_lt, le-ltb}
use Rattle.facts.specs.Words.{bit, common, has, meets, none, subset, size}
use Rattle.facts.proofs.Sets.{bit-and, bit_is, getD_common, has_at, low_same, none_from, none_word, pow_two_suc, same_bits, subset_from, subset_word, word_from_has, zero_word}
use Rattle.strips.specs.declared.action.Action.{Action}
use Rattle.strips.specs.Semantics.{State, applicable}
use Rattle.strips.specs.Sound.{act, AllWithin, within}
use Rattle.strips.proofs.Runs.{adds_within}
use Rattle.heuristic.specs.declared.estimate.Estimate.TheVariants.{Steps}
use Rattle.heuristic.specs.Useful.{useful}

ones_none : (n w : ℕ) → w < 2 ^ n → count_ones w ≡ 0 → w ≡ 0
ones_none zero w l e = omega arith
ones_none (suc n) w l e =
    let s = pow_two_suc n in
    let t = ones_step w in
    let h = ones_none n (w / 2) (omega arith) (omega arith) in
    omega arith

-- a set of at most n words has at most 64 * n facts
pub size_bound : (ws : List ℕ) (n : ℕ) → ((k : ℕ) → slice_index ws k < 2 ^ 64) → ((k : ℕ) → n ≤ k → slice_index ws k ≡ 0) → size ws ≤ 64 * n
unfolding size
size_bound [] n small none = omega arith
size_bound (w ∷ ws) zero small none =
    let e : w ≡ 0 = none 0 (omega arith) in
    let z : count_ones w ≤ 0 = ones-le 0 w (omega arith) in
    let h = size_bound ws zero (λ k. small (suc k)) (λ k l. none (suc k) (omega arith)) in
    let c = sum_by-cons count_ones w ws in
    omega arith
size_bound (w ∷ ws) (suc n) small none =
    let z : count_ones w ≤ 64 = ones-le 64 w (small 0) in
    let h = size_bound ws n (λ k. small (suc k)) (λ k l. none (suc k) (omega arith)) in
    let c = sum_by-cons count_ones w ws in
    omega arith

pub size_zero : (ws : List ℕ) → ((k : ℕ) → slice_index ws k < 2 ^ 64) → size ws ≡ 0 → (k : ℕ) → slice_index ws k ≡ 0
unfolding size
size_zero ws small e k =
    ⊎_elim
    (λ l. let h = get_or-le-sum_by count_ones ws k 0 l in ones_none 64 (slice_index ws k) (small k) (omega arith))
    (λ l. get_or_past ws k 0 l)
    (cases_lt k (length ws))

-- words of a set within the facts in use
pub within_small : (facts ws : State) → ((k : ℕ) → slice_index facts k < 2 ^ 64) → subset ws facts ≡ true → (k : ℕ) → slice_index ws k < 2 ^ 64
within_small facts ws small e k =
    let h = subset_word ws facts e k in
    let l = and_le_r (slice_index ws k) (slice_index facts k) in
    let m = small k in
    omega arith

pub within_few : (facts ws : State) (n : ℕ) → length facts ≤ n → subset ws facts ≡ true → (k : ℕ) → n ≤ k → slice_index ws k ≡ 0
within_few facts ws n few e k l =
    let h = subset_word ws facts e k in
    let z : slice_index_or facts k 0 ≡ 0 = get_or_past facts k 0 (omega arith) in
    let m = and_le_r (slice_index ws k) (slice_index facts k) in
    omega arith

past : (facts ws : State) → length facts ≤ 4 → subset ws facts ≡ true → (f : ℕ) → 256 ≤ f → has ws f ≡ false
past facts ws few e f l = zero_word ws f (within_few facts ws 4 few e (f / 64) (omega arith))

-- a subset, by its facts
pub subset_below : (facts xs ys : State) → length facts ≤ 4 → ((k : ℕ) → slice_index facts k < 2 ^ 64) → subset xs facts ≡ true → ((f : ℕ) → f < 256 → has xs f ≡ true → has ys f ≡ true) → subset xs ys ≡ true
subset_below facts xs ys few small e h =
    subset_from xs ys
    (λ k l. word_from_has xs ys k (within_small facts xs small e k)
    (λ f y. ⊎_elim (λ m. h f m y) (λ m. absurd (both_ways (has xs f) (past facts xs few e f m) y)) (cases_lt f 256)))

pub pre_within : (facts : State) (a : Action) → within facts a ≡ true → subset a.pre.words facts ≡ true
unfolding within
pre_within facts a e = (and_parts _ _ e).0

-- whether sets have a common member depends on the members only
none_same : (xs ys : List ℕ) → ((k : ℕ) → slice_index xs k ≡ slice_index ys k) → none xs ≡ true → none ys ≡ true
none_same xs ys h e = none_from ys (λ k l. sym (h k) ∙ none_word xs e k)

same_word : (x y z : ℕ) → x < 2 ^ 64 → ((j : ℕ) → j < 64 → bit y j ≡ bit z j) → bit_and x y ≡ bit_and x z
same_word x y z l h =
    let p = and_le_l x y in
    let q = and_le_l x z in
    same_bits 64 (bit_and x y) (bit_and x z) (omega arith) (omega arith)
    (λ j m. bit-and x y j ∙ ap (min (bit x j)) (h j m) ∙ sym (bit-and x z j))

pub meets_same : (xs ys zs : List ℕ) → ((k : ℕ) → slice_index xs k < 2 ^ 64) → ((k : ℕ) → 4 ≤ k → slice_index xs k ≡ 0) → ((f : ℕ) → f < 256 → has ys f ≡ has zs f) → meets xs ys ≡ meets xs zs
meets_same xs ys zs small few h = ap not (both (none (common xs ys)) (none (common xs zs)) (none_same (common xs ys) (common xs zs) words) (none_same (common xs zs) (common xs ys) (λ k. sym (words k))))
  where
    both : (a b : Bool) → (a ≡ true → b ≡ true) → (b ≡ true → a ≡ true) → a ≡ b
    both true b f g = sym (f refl)
    both false true f g = g refl
    both false false f g = refl

    words : (k : ℕ) → slice_index (common xs ys) k ≡ slice_index (common xs zs) k
    words k =
        getD_common xs ys k
        ∙ ⊎_elim
        (λ l. same_word (slice_index xs k) (slice_index ys k) (slice_index zs k) (small k)
        (λ j m. low_same _ _ (bit_is (slice_index ys k) j) (bit_is (slice_index zs k) j) (sym (has_at ys k j m) ∙ h (k * 64 + j) (omega arith) ∙ has_at zs k j m)))
        (λ l. ap (λ (x : ℕ). bit_and x (slice_index ys k)) (few k l) ∙ and_zero_l (slice_index ys k) ∙ sym (and_zero_l (slice_index zs k)) ∙ sym (ap (λ (x : ℕ). bit_and x (slice_index zs k)) (few k l)))
        (cases_lt k 4)
        ∙ sym (getD_common xs zs k)

-- so whether an action is useful depends on the facts that are wanted only
pub useful_same : (facts : State) (acts : List Action) (s w v : State) (k : ℕ) → length facts ≤ 4 → ((k : ℕ) → slice_index facts k < 2 ^ 64) → AllWithin facts acts → ((f : ℕ) → f < 256 → has w f ≡ has v f) → useful acts s w k ≡ useful acts s v k
unfolding useful
useful_same facts acts s w v k few small ok h =
    ⊎_elim
    (λ l.
    let into = adds_within facts (act acts k) (ok k l) in
    ap (λ (b : Bool). nat_lt k (length acts) && (b && applicable (act acts k) s))
    (meets_same (act acts k).add.words w v (within_small facts (act acts k).add.words small into) (within_few facts (act acts k).add.words 4 few into) h))
    (λ l. and_left (nat_lt k (length acts)) _ (le-ltb k (length acts) l) ∙ sym (and_left (nat_lt k (length acts)) _ (le-ltb k (length acts) l)))
    (cases_lt k (length acts))

-- an estimate that is a number
pub steps_same : (m n : ℕ) → Steps m ≡ Steps n → m ≡ n
steps_same m n e = cc
