-- Lemmas on reading a number digit by digit.
use Rattle.std.proofs.Common.{◌≡◌, ℕ, suc, ◌+◌, ◌-◌, ◌*◌, ◌^◌, ◌<◌, ◌≤◌, Bool, true, false, cond, ◌&&◌, leb, List, [], ◌∷◌, length, get_or, drop, Some, None, SomeIff, sym, refl, ap, ◌∙◌, ⊎_elim, mul-le-mul_right, mul_assoc, mul_comm, add-mul, add-one, arith, lit<}
use native.Mathlib.Nat.{pow-le-pow_right, pow-succ'}
use Rattle.std.proofs.lemmas.List.{at_drop_more, at_drop_all}
use Rattle.std.proofs.lemmas.Bool.{and_from, and_left, and_parts, and_right, both_ways, cases_Bool, le-leb, leb-true}
use Rattle.std.specs.List.{AllByRecursion}
use Rattle.std.specs.Str.{all_ascii_digits}
use Rattle.std.specs.Char.{digit_value, is_ascii_digit}
use Rattle.std.proofs.lemmas.Str.{digit_value_digit}
use Rattle.std.proofs.lemmas.Str.Parse.{digit_from_value}
use Rattle.input_lines.specs.Numbers.{numeral, numeral_of, worth}

some_same : {m n : ℕ} → Some m ≡ Some n → m ≡ n
some_same e = cc

none_some : {n : ℕ} {X : Type 0} → None ≡ Some n → X
none_some e = let z : ◌≡◌ {A = ℕ} 0 1 = cc in absurd (omega arith)

-- n is what the first i digits write, and they are digits
pub record Reading (xs : List ℕ) (i n : ℕ) : Type 0 where
  pub total : n * 10 ^ length (drop i xs) + worth (drop i xs) ≡ worth xs
  pub rest : all_ascii_digits (drop i xs) ≡ all_ascii_digits xs
  pub small : n < 10 ^ i

raised : (n d P w : ℕ) → (10 * n + d) * P + w ≡ n * (10 * P) + (d * P + w)
raised n d P w =
    let a = add-mul (10 * n) d P in
    let b = mul_assoc 10 n P in
    let e = mul_assoc n 10 P in
    let f = mul_comm n 10 in
    let g = ap (λ (k : ℕ). k * P) f in
    omega arith

module _ (xs : List ℕ) (i n : ℕ) (l : i < length xs) (so_far : Reading xs i n) where
  -- one more digit
  pub digit_more : (b r m : ℕ) → b ≡ get_or xs i 0 → SomeIff (Some r) (digit_value b < 10) (digit_value b) → m ≡ 10 * n + r → Reading xs (i + 1) m
  digit_more b r m is_b found is_m =
      let range = digit_from_value (get_or xs i 0) (rw is_b at found.0) in
      let e : r ≡ get_or xs i 0 - 48 = omega (arith, digit_value_digit (get_or xs i 0) range, rw is_b at found.1) in
      let is : is_ascii_digit (get_or xs i 0) ≡ true = and_from _ _ (le-leb 48 (get_or xs i 0) range.0) (le-leb (get_or xs i 0) 57 range.1) in
      let ds : List ℕ = drop (i + 1) xs in
      let d : ℕ = get_or xs i 0 in
      let P : ℕ = 10 ^ length ds in
      let step : n * 10 ^ length (drop i xs) + worth (drop i xs) ≡ n * 10 ^ suc (length ds) + ((d - 48) * P + worth ds) = at_drop_more (λ (ys : List ℕ). n * 10 ^ length ys + worth ys) xs i 0 l in
      let tests : all_ascii_digits (drop i xs) ≡ (is_ascii_digit d && all_ascii_digits ds) = at_drop_more all_ascii_digits xs i 0 l in
      let parts = and_parts _ _ is in
      let least = leb-true 48 d parts.0 in
      let high = leb-true d 57 parts.1 in
      let p : 10 ^ (i + 1) ≡ 10 * 10 ^ i = ap (λ (k : ℕ). 10 ^ k) (add-one i) ∙ pow-succ' 10 i in
      let s = so_far.small in
      record {
        total =
            ap (λ (k : ℕ). k * P + worth ds) (is_m ∙ ap (λ (k : ℕ). 10 * n + k) e)
            ∙ raised n (d - 48) P (worth ds)
            ∙ ap (λ (k : ℕ). n * k + ((d - 48) * P + worth ds)) (sym (pow-succ' 10 (length ds)))
            ∙ sym step
            ∙ so_far.total;
        rest = sym (tests ∙ ap (λ (t : Bool). t && all_ascii_digits ds) is) ∙ so_far.rest;
        small = omega arith;
      }

  -- there is room for one more digit
  pub digit_fits : length xs ≤ 9 → n < 100000000
  digit_fits few =
      let low : i ≤ 8 = omega arith in
      let p : 10 ^ i ≤ 10 ^ 8 = pow-le-pow_right (lit< tt) low in
      let s = so_far.small in
      omega arith

  pub digit_stop : (most : ℕ) → is_ascii_digit (get_or xs i 0) ≡ false → None ≡ numeral_of most xs
  digit_stop most is =
      let tests : all_ascii_digits (drop i xs) ≡ (is_ascii_digit (get_or xs i 0) && all_ascii_digits (drop (i + 1) xs)) = at_drop_more all_ascii_digits xs i 0 l in
      let out : all_ascii_digits xs ≡ false = sym so_far.rest ∙ tests ∙ and_left _ _ is in
      sym (ap (λ (t : Bool). cond t (Some (worth xs)) None) (and_right (leb 1 (length xs)) _ (and_right (leb (length xs) most) _ out)))

pub digits_end : (most : ℕ) (xs : List ℕ) (i n : ℕ) → length xs ≤ i → 0 < length xs → length xs ≤ most → Reading xs i n → Some n ≡ numeral_of most xs
digits_end most xs i n l some few so_far =
    let all : n * 10 ^ length (drop i xs) + worth (drop i xs) ≡ n * 10 ^ 0 + 0 = at_drop_all (λ (ys : List ℕ). n * 10 ^ length ys + worth ys) xs i l in
    let tests : all_ascii_digits (drop i xs) ≡ true = at_drop_all all_ascii_digits xs i l in
    let total = so_far.total in
    let is : n ≡ worth xs = omega arith in
    ap Some is
    ∙ sym (ap (λ (t : Bool). cond t (Some (worth xs)) None) (and_from _ _ (le-leb 1 (length xs) some) (and_from _ _ (le-leb (length xs) most few) (sym so_far.rest ∙ tests))))

-- no digit yet
pub digits_none : (xs : List ℕ) → Reading xs 0 0
digits_none xs = record { total = omega arith; rest = refl; small = lit< tt }

-- what a numeral is
pub record Numeral (most : ℕ) (ds : List ℕ) (n : ℕ) : Type 0 where
  pub some : 0 < length ds
  pub few : length ds ≤ most
  pub digits : all_ascii_digits ds ≡ true
  pub value : worth ds ≡ n

pub numeral_of_parts : (most : ℕ) (ds : List ℕ) (n : ℕ) → numeral_of most ds ≡ Some n → Numeral most ds n
numeral_of_parts most ds n e =
    let t : Bool = leb 1 (length ds) && (leb (length ds) most && all_ascii_digits ds) in
    ⊎_elim
    (λ is.
    let outer = and_parts _ _ is in
    let inner = and_parts _ _ outer.1 in
    record {
      some = leb-true 1 (length ds) outer.0;
      few = leb-true (length ds) most inner.0;
      digits = inner.1;
      value = some_same (rw is at e);
    })
    (λ is. none_some (rw is at e))
    (cases_Bool t)

pub numeral_parts : (ds : List ℕ) (n : ℕ) → numeral ds ≡ Some n → Numeral 7 ds n
numeral_parts ds n e = numeral_of_parts 7 ds n e

-- a byte that is no digit is in no list of digits
pub digits_lack : (c : ℕ) (ds : List ℕ) → is_ascii_digit c ≡ false → all_ascii_digits ds ≡ true → AllByRecursion (λ b. b ≡ c → ⊥) ds
digits_lack c [] is all = tt
digits_lack c (d ∷ ds) is all =
    let parts = and_parts _ _ all in
    (λ e. both_ways (is_ascii_digit c) is (ap is_ascii_digit (sym e) ∙ parts.0), digits_lack c ds is parts.1)

worth_lt : (ds : List ℕ) → all_ascii_digits ds ≡ true → worth ds < 10 ^ length ds
worth_lt [] all = lit< tt
worth_lt (d ∷ ds) all =
    let parts = and_parts _ _ all in
    let high = leb-true d 57 (and_parts (leb 48 d) _ parts.0).1 in
    let less = worth_lt ds parts.1 in
    let digit : d - 48 ≤ 9 = omega arith in
    let most = mul-le-mul_right (10 ^ length ds) digit in
    let p = pow-succ' 10 (length ds) in
    omega arith

-- few digits write a small number
pub numeral_of_lt : (most : ℕ) (ds : List ℕ) (n : ℕ) → numeral_of most ds ≡ Some n → n < 10 ^ most
numeral_of_lt most ds n e =
    let is = numeral_of_parts most ds n e in
    let less = worth_lt ds is.digits in
    let more : 10 ^ length ds ≤ 10 ^ most = pow-le-pow_right (lit< tt) is.few in
    let value = is.value in
    omega arith

-- the same of a number of a command, by any bound on its digits
pub numeral_lt : (k : ℕ) (ds : List ℕ) (n : ℕ) → length ds ≤ k → numeral ds ≡ Some n → n < 10 ^ k
numeral_lt k ds n few e =
    let is = numeral_parts ds n e in
    let less = worth_lt ds is.digits in
    let more : 10 ^ length ds ≤ 10 ^ k = pow-le-pow_right (lit< tt) few in
    let value = is.value in
    omega arith
