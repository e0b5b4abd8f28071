-- A relaxed plan has at most 256 actions.
use Rattle.std.specs.Prelude.{◌≡◌, ℕ, zero, suc, ◌+◌, ◌-◌, ◌<◌, ◌≤◌, Bool, true, false, cond, if◌then◌else◌, not, ◌&&◌, ◌⊎◌, List, length, ◌≢◌, refl}
use Rattle.std.proofs.Common.{ap, subst, ◌∙◌, arith, ⊎_elim, inl, inr}
use Rattle.std.proofs.lemmas.Bool.{both_ways, cases_lt, cases_eq}
use Rattle.facts.specs.Words.{has}
use Rattle.strips.specs.declared.action.Action.{Action}
use Rattle.strips.specs.Semantics.{State}
use Rattle.strips.specs.Sound.{act}
use Rattle.relaxed.specs.Layers.{layer, new_fact}
use Rattle.relaxed.specs.Extract.{Marks, adder, chosen, pass, lower, treated}
use Rattle.relaxed.specs.Growing.{layer_suc, grown_keeps}

-- how many numbers below n pass
pub amount : (ℕ → Bool) → ℕ → ℕ
amount p zero = 0
amount p (suc n) = amount p n + (if p n then 1 else 0)

at_most_one : (b : Bool) → cond b 1 0 ≤ 1
at_most_one true = omega arith
at_most_one false = omega arith

pub amount_le : (p : ℕ → Bool) (n : ℕ) → amount p n ≤ n
unfolding amount
amount_le p zero = omega arith
amount_le p (suc n) = let h = amount_le p n in let o = at_most_one (p n) in omega arith

pub amount_three : (p q r : ℕ → Bool) (n : ℕ) → ((k : ℕ) → cond (p k) 1 0 + cond (q k) 1 0 ≤ cond (r k) 1 0) → amount p n + amount q n ≤ amount r n
unfolding amount
amount_three p q r zero h = omega arith
amount_three p q r (suc n) h = let a = amount_three p q r n h in let o = h n in omega arith

visit_cost : (w n h : Bool) (a : Action) (m : Marks) → (cond (w && (n && h)) (chosen a m) m).count ≤ m.count + cond n 1 0
visit_cost true true true a m = omega arith
visit_cost true true false a m = omega arith
visit_cost true false h a m = omega arith
visit_cost false n h a m = omega arith

pass_cost : (acts : List Action) (s : State) (i n : ℕ) (m : Marks) → (pass acts s i n m).count ≤ m.count + amount (new_fact acts s i) n
unfolding pass amount
pass_cost acts s i zero m = omega arith
pass_cost acts s i (suc n) m =
    let h = pass_cost acts s i n m in
    let p : Marks = pass acts s i n m in
    let v = visit_cost (has p.wanted n) (new_fact acts s i n) (not (has p.here n)) (act acts (adder acts s i n)) p in
    omega arith

pub lacking : List Action → State → ℕ → ℕ → Bool
lacking acts s i f = not (has (layer acts s i) f)

pub grows : (acts : List Action) (s : State) (i f : ℕ) → has (layer acts s i) f ≡ true → has (layer acts s (suc i)) f ≡ true
grows acts s i f h = ap (λ (x : State). has x f) (layer_suc acts s i) ∙ grown_keeps acts (layer acts s i) (length acts) f h

pub three : (a b : Bool) → (b ≡ true → a ≡ true) → cond (a && not b) 1 0 + cond (not a) 1 0 ≤ cond (not b) 1 0
three true true h = omega arith
three true false h = omega arith
three false false h = omega arith
three false true h = absurd (both_ways false refl (h refl))

treated_few : (acts : List Action) (s goal : State) (top n : ℕ) → n ≤ top → (treated acts s goal top n).count ≤ amount (lacking acts s (top - n)) 256
unfolding treated lacking
treated_few acts s goal top zero l = omega arith
treated_few acts s goal top (suc n) l =
    let m : Marks = treated acts s goal top n in
    let i : ℕ = top - suc n in
    let d : top - n ≡ suc i = omega arith in
    let h : m.count ≤ amount (lacking acts s (suc i)) 256 = subst (λ (x : ℕ). m.count ≤ amount (lacking acts s x) 256) d (treated_few acts s goal top n (omega arith)) in
    let c = pass_cost acts s i 256 (lower m) in
    let t = amount_three (new_fact acts s i) (lacking acts s (suc i)) (lacking acts s i) 256 (λ f. three (has (layer acts s (suc i)) f) (has (layer acts s i) f) (grows acts s i f)) in
    omega arith

pub few_actions : (acts : List Action) (s goal : State) (top : ℕ) → (treated acts s goal top top).count ≤ 256
few_actions acts s goal top =
    let h = treated_few acts s goal top top (omega arith) in
    let a = amount_le (lacking acts s (top - top)) 256 in
    omega arith

pub amount_none : (p : ℕ → Bool) (n : ℕ) → amount p n ≡ 0 → (k : ℕ) → k < n → p k ≡ false
unfolding amount
amount_none p zero e k l = absurd (omega arith)
amount_none p (suc n) e k l =
    ⊎_elim (λ m. amount_none p n (omega arith) k m)
    (λ m. let q : k ≡ n = omega arith in ap p q ∙ is_false (p n) (omega arith))
    (cases_lt k n)
  where
    is_false : (b : Bool) → ◌≡◌ {A = ℕ} (cond b 1 0) 0 → b ≡ false
    is_false true h = absurd (omega arith)
    is_false false h = refl

fewer : (acts : List Action) (s : State) (i : ℕ) → amount (new_fact acts s i) 256 + amount (lacking acts s (suc i)) 256 ≤ amount (lacking acts s i) 256
unfolding lacking
fewer acts s i = amount_three (new_fact acts s i) (lacking acts s (suc i)) (lacking acts s i) 256 (λ f. three (has (layer acts s (suc i)) f) (has (layer acts s i) f) (grows acts s i f))

-- a layer repeats, or each layer has a fact more
pub repeats : (acts : List Action) (s : State) (n : ℕ) → ((i : ℕ) × ((i < n) × (amount (new_fact acts s i) 256 ≡ 0))) ⊎ (amount (lacking acts s n) 256 + n ≤ 256)
repeats acts s zero = let a = amount_le (lacking acts s 0) 256 in inr (omega arith)
repeats acts s (suc n) =
    ⊎_elim
    (λ x. inl (x.0, (let l = x.1.0 in omega arith, x.1.1)))
    (λ h.
    let t = fewer acts s n in
    ⊎_elim (λ z. inl (n, (omega arith, z))) (λ z. inr (pos (amount (new_fact acts s n) 256) (amount (lacking acts s (suc n)) 256) (amount (lacking acts s n) 256) n z t h)) (cases_eq (amount (new_fact acts s n) 256) 0))
    (repeats acts s n)
  where
    pos : (a b c n : ℕ) → (a ≢ 0) → a + b ≤ c → c + n ≤ 256 → b + suc n ≤ 256
    pos zero b c n z t h = absurd (z refl)
    pos (suc a) b c n z t h = omega arith
