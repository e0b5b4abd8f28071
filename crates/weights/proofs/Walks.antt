-- Lemmas on walks over the members of a set.
use Rattle.std.proofs.Common.{◌≡◌, ℕ, zero, suc, ◌+◌, ◌-◌, ◌<◌, ◌≤◌, Bool, true, false, not, ◌&&◌, ◌||◌, ltb, ◌≢◌, ◌⊎◌, List, length, get_or, set, Some, None, sym, refl, ap, ◌∙◌, inl, inr, ⊎_elim, add-zero, add-suc, add-one, arith}
use Rattle.std.proofs.lemmas.List.{ext_get_or, get_or_default, get_or-set_other, get_or-set_same, length-set}
use Rattle.std.proofs.lemmas.List.Sums.{sum_by-set}
use Rattle.std.proofs.Math.Bool.{or-false, or-true}
use Rattle.std.proofs.lemmas.Bool.{and_right, cases_eq, cases_lt, le-leb, le-ltb, lt-leb, lt-ltb, ltb-true, ltb-false}
use Rattle.facts.specs.Members.{Next}
use Rattle.facts.specs.Words.{has}
use Rattle.heuristic.specs.declared.estimate.Estimate.{Estimate}
use Rattle.heuristic.specs.declared.estimate.Estimate.TheVariants.{Steps, Never}
use Rattle.strips.specs.Semantics.{State}
use Rattle.weights.specs.Tables.{Capped, at_most, fact_count, plus, plus_if, total, weight}
use Rattle.weights.specs.Weights.{height, least, least_if, lowered, rank}
use Rattle.weights.specs.Lowering.{lowered_at, lowered_length}
use Rattle.weights.specs.Order.{rank_least}

total_skip : (w : List Estimate) (ws : State) (n d : ℕ) → ((f : ℕ) → n ≤ f → f < n + d → has ws f ≡ false) → total w ws (n + d) ≡ total w ws n
unfolding total
total_skip w ws n zero h = ap (total w ws) (add-zero n)
total_skip w ws n (suc d) h =
    ap (total w ws) (add-suc n d)
    ∙ ap (λ (b : Bool). plus_if b (total w ws (n + d)) (weight w (n + d))) (h (n + d) (omega arith) (omega arith))
    ∙ total_skip w ws n d (λ f l m. h f l (omega arith))

total_gap : (w : List Estimate) (ws : State) (n m : ℕ) → n ≤ m → ((f : ℕ) → n ≤ f → f < m → has ws f ≡ false) → total w ws m ≡ total w ws n
total_gap w ws n m l h =
    let e : n + (m - n) ≡ m = omega arith in
    ap (total w ws) (sym e) ∙ total_skip w ws n (m - n) (λ f p q. h f p (omega arith))

-- one member more, and the end
pub total_next : (w : List Estimate) (ws : State) (from m : ℕ) (sum : Estimate) → Next ws from (Some m) → sum ≡ total w ws from → plus sum (weight w m) ≡ total w ws (m + 1)
unfolding total
total_next w ws from m sum next e =
    sym (ap (total w ws) (add-one m)
    ∙ ap (λ (b : Bool). plus_if b (total w ws m) (weight w m)) next.1
    ∙ ap (λ (t : Estimate). plus t (weight w m)) (total_gap w ws from m next.0 next.2 ∙ sym e))

pub total_end : (w : List Estimate) (ws : State) (from : ℕ) (sum : Estimate) → from ≤ fact_count → Next ws from None → sum ≡ total w ws from → sum ≡ total w ws fact_count
total_end w ws from sum l none e = e ∙ sym (total_gap w ws from fact_count l (λ f p q. none f p))

-- a table in which the set's facts below n are lowered to c
pub record Partly (c : Estimate) (ws : State) (n : ℕ) (w u : List Estimate) : Type 0 where
  pub size : length u ≡ fact_count
  pub at : (f : ℕ) → f < fact_count → weight u f ≡ least_if (ltb f n && has ws f) c (weight w f)

pub partly_next : (c : Estimate) (ws : State) (from m : ℕ) (w u : List Estimate) → m < fact_count → Next ws from (Some m) → Partly c ws from w u → Partly c ws (m + 1) w (set u m (least c (weight u m)))
partly_next c ws from m w u l next p = record {
  size = length-set u m (least c (weight u m)) ∙ p.size;
  at = λ f k. ⊎_elim (λ e. here f e) (λ e. get_or-set_other u m f (least c (weight u m)) Never e ∙ p.at f k ∙ ap (λ (b : Bool). least_if b c (weight w f)) (tests f e)) (cases_eq f m);
}
  where
    inside : m < length u
    inside = omega (arith, p.size)

    before : weight u m ≡ weight w m
    before = p.at m l ∙ ap (λ (b : Bool). least_if (b && has ws m) c (weight w m)) (le-ltb m from next.0)

    at_m : weight (set u m (least c (weight u m))) m ≡ least_if (ltb m (m + 1) && has ws m) c (weight w m)
    at_m =
        get_or-set_same u m (least c (weight u m)) Never inside ∙ ap (least c) before
        ∙ sym (ap (λ (b : Bool). least_if (b && has ws m) c (weight w m)) (lt-ltb m (m + 1) (omega arith)) ∙ ap (λ (b : Bool). least_if b c (weight w m)) next.1)

    here : (f : ℕ) → f ≡ m → weight (set u m (least c (weight u m))) f ≡ least_if (ltb f (m + 1) && has ws f) c (weight w f)
    here f e = rw e at_m

    tests : (f : ℕ) → f ≢ m → (ltb f from && has ws f) ≡ (ltb f (m + 1) && has ws f)
    tests f e =
        let low = next.0 in
        ⊎_elim
        (λ a. ap (λ (b : Bool). b && has ws f) (lt-ltb f from a ∙ sym (lt-ltb f (m + 1) (omega arith))))
        (λ a. ⊎_elim
        (λ b. and_right (ltb f from) (has ws f) (next.2 f a b) ∙ sym (and_right (ltb f (m + 1)) (has ws f) (next.2 f a b)))
        (λ b. ap (λ (b : Bool). b && has ws f) (le-ltb f from a ∙ sym (le-ltb f (m + 1) (omega arith))))
        (cases_lt f m))
        (cases_lt f from)

pub partly_end : (c : Estimate) (ws : State) (from : ℕ) (w u : List Estimate) → length w ≡ fact_count → Next ws from None → Partly c ws from w u → u ≡ lowered c ws w
partly_end c ws from w u e none p =
    ext_get_or Never u (lowered c ws w) (p.size ∙ sym (lowered_length c ws w ∙ e))
    (λ f l. p.at f (inside f l) ∙ ap (λ (b : Bool). least_if b c (weight w f)) (test f) ∙ sym (lowered_at c ws w f (within f l)))
  where
    inside : (f : ℕ) → f < length u → f < fact_count
    inside f l = omega (arith, p.size)

    within : (f : ℕ) → f < length u → f < length w
    within f l = omega (arith, p.size)

    test : (f : ℕ) → (ltb f from && has ws f) ≡ has ws f
    test f =
        ⊎_elim (λ a. ap (λ (b : Bool). b && has ws f) (lt-ltb f from a)) (λ a. and_right (ltb f from) (has ws f) (none f a) ∙ sym (none f a)) (cases_lt f from)

-- whether a table fell, one weight more
falls_rank : (c e : Estimate) → Capped c → not (at_most e c) ≡ ltb (rank (least c e)) (rank e)
falls_rank (Steps m) (Steps n) h =
    ⊎_elim (λ l. ap not (le-leb n m l) ∙ sym (le-ltb _ _ (omega arith))) (λ l. ap not (lt-leb n m l) ∙ sym (lt-ltb _ _ (omega arith))) (cases_le n m)
  where
    cases_le : (n m : ℕ) → (n ≤ m) ⊎ (m < n)
    cases_le n m = ⊎_elim inr inl (cases_lt m n)
falls_rank (Steps m) Never h = sym (lt-ltb m 65535 (omega arith))
falls_rank Never (Steps n) h = sym (le-ltb n n (omega arith))
falls_rank Never Never h = refl

pub fell_next : (c : Estimate) (w u : List Estimate) (m : ℕ) (fell : Bool) → Capped c → m < length u → (fell ≡ ltb (height u) (height w)) × (height u ≤ height w) → ((fell || not (at_most (weight u m) c)) ≡ ltb (height (set u m (least c (weight u m)))) (height w)) × (height (set u m (least c (weight u m))) ≤ height w)
unfolding height
fell_next c w u m fell h l inv =
    let sum = sum_by-set rank u m (least c (weight u m)) Never l in
    let low = rank_least c (weight u m) h in
    step (ltb (rank (least c (weight u m))) (rank (weight u m))) fell _ _ _ _ _ (falls_rank c (weight u m) h) refl inv.0 sum low inv.1
  where
    step : (b fell : Bool) (x r e s t : ℕ) → not (at_most (weight u m) c) ≡ b → ltb r e ≡ b → fell ≡ ltb s t → x + e ≡ s + r → r ≤ e → s ≤ t → ((fell || not (at_most (weight u m) c)) ≡ ltb x t) × (x ≤ t)
    step true fell x r e s t p q f sum low le =
        let less = ltb-true r e q in
        (ap (λ (b : Bool). fell || b) p ∙ or-true fell ∙ sym (lt-ltb x t (omega arith)), omega arith)
    step false fell x r e s t p q f sum low le =
        let more = ltb-false r e q in
        let same : s ≡ x = omega arith in
        (ap (λ (b : Bool). fell || b) p ∙ or-false fell ∙ f ∙ ap (λ (y : ℕ). ltb y t) same, omega arith)

-- the same with the terms of the code: i is the fact, j the next place, and d is what is read past the table
module _ (w u : List Estimate) (ws : State) (from m i j : ℕ) (d : Estimate) (size : length u ≡ fact_count) (ei : i ≡ m) (ej : j ≡ m + 1) (l : m < fact_count) (next : Next ws from (Some m)) where
  read : get_or u i d ≡ weight u m
  read = let inside : m < length u = omega (arith, size) in ap (λ (k : ℕ). get_or u k d) ei ∙ get_or_default u m d Never inside

  pub total_step : (sum r : Estimate) → r ≡ plus sum (get_or u i d) → sum ≡ total u ws from → r ≡ total u ws j
  total_step sum r e h = e ∙ ap (plus sum) read ∙ total_next u ws from m sum next h ∙ ap (total u ws) (sym ej)

  pub partly_step : (c x : Estimate) → x ≡ least c (get_or u i d) → Partly c ws from w u → Partly c ws j w (set u i x)
  partly_step c x e p = rw (e, read, ei, ej) (partly_next c ws from m w u l next p)

  pub fell_step : (c x : Estimate) (fell r : Bool) → Capped c → x ≡ least c (get_or u i d) → r ≡ not (at_most (get_or u i d) c) → (fell ≡ ltb (height u) (height w)) × (height u ≤ height w) → ((fell || r) ≡ ltb (height (set u i x)) (height w)) × (height (set u i x) ≤ height w)
  fell_step c x fell r h e q inv = rw (e, q, read, ei) (fell_next c w u m fell h (omega (arith, size)) inv)
