-- The table follows the layers.
use Rattle.std.specs.Prelude.{◌≡◌, ℕ, zero, suc, ◌+◌, ◌<◌, ◌≤◌, Bool, true, false, cond, not, ◌&&◌, ◌||◌, leb, List, length, ◌≢◌, nat_le, nat_lt, refl}
use Rattle.std.proofs.Common.{sym, ap, subst, ◌∙◌, ⊎_elim, arith, add-one}
use Rattle.std.proofs.Math.Bool.{and-true}
use Rattle.std.proofs.lemmas.Bool.{cases_Bool, cases_lt, lt-ltb, le-ltb, le-leb, lt-leb, leb-true, leb-false, and_parts, both_ways, not-true, and_right}
use Rattle.facts.specs.Words.{has, union, subset}
use Rattle.facts.proofs.Sets.{has_union}
use Rattle.strips.specs.declared.action.Action.{Action}
use Rattle.strips.specs.Semantics.{State, applicable}
use Rattle.strips.specs.Sound.{act}
use Rattle.relaxed.specs.declared.graph.FactNode.{FactNode}
use Rattle.relaxed.specs.Layers.{brings, layer, first, grown, new_fact}
use Rattle.relaxed.specs.Extract.{adder}
use Rattle.relaxed.specs.Plan.{last}
use Rattle.relaxed.specs.Nodes.{node, Each, opened, offered, joined}
use Rattle.relaxed.specs.Graph.{Graph, Fresh}
use Rattle.relaxed.specs.Firsts.{first_keep, first_skip, first_take, first_zero, first_none}
use Rattle.relaxed.specs.Growing.{layer_suc, grown_stays, grown_keeps, brings_new, grown_adds, grown_has}

pub first_same : (p q : ℕ → Bool) (n : ℕ) → ((k : ℕ) → k < n → p k ≡ q k) → first p n ≡ first q n
unfolding first
first_same p q zero h = refl
first_same p q (suc n) h =
    let r = first_same p q n (λ k l. h k (omega arith)) in
    ap (λ (x : ℕ). cond (nat_lt x n) x (cond (p n) n (suc n))) r ∙ ap (λ (b : Bool). cond (nat_lt (first q n) n) (first q n) (cond b n (suc n))) (h n (omega arith))

pub layer_more : (acts : List Action) (s ws ws' : State) (i : ℕ) → ws ≡ layer acts s i → ws' ≡ grown acts ws (length acts) → ws' ≡ layer acts s (i + 1)
layer_more acts s ws ws' i e h =
    h ∙ ap (λ (x : State). grown acts x (length acts)) e ∙ sym (layer_suc acts s i) ∙ ap (layer acts s) (sym (add-one i))

pub layer_stuck : (acts : List Action) (s : State) (i j : ℕ) → layer acts s (suc i) ≡ layer acts s i → i ≤ j → layer acts s j ≡ layer acts s i
layer_stuck acts s i zero e l = ap (layer acts s) (let q : 0 ≡ i = omega arith in q)
layer_stuck acts s i (suc j) e l =
    ⊎_elim
    (λ m. layer_suc acts s j ∙ ap (λ (x : State). grown acts x (length acts)) (layer_stuck acts s i j e (omega arith)) ∙ sym (layer_suc acts s i) ∙ e)
    (λ m. ap (layer acts s) (let q : suc j ≡ i = omega arith in q))
    (cases_lt i (suc j))

pub last_none : (acts : List Action) (goal s : State) → ((j : ℕ) → j < 257 → subset goal (layer acts s j) ≡ false) → last acts goal s ≡ 257
unfolding last
last_none acts goal s h = first_none (λ i. subset goal (layer acts s i)) 257 h

pub below_again : (acts : List Action) (goal s ws : State) (i : ℕ) → ws ≡ layer acts s i → ((j : ℕ) → j < i → subset goal (layer acts s j) ≡ false) → false ≡ subset goal ws → (j : ℕ) → j < i + 1 → subset goal (layer acts s j) ≡ false
below_again acts goal s ws i e h t j l =
    ⊎_elim (λ m. h j m) (λ m. let q : j ≡ i = omega arith in ap (λ (x : ℕ). subset goal (layer acts s x)) q ∙ ap (subset goal) (sym e) ∙ sym t) (cases_lt j i)

pub last_stuck : (acts : List Action) (goal s ws ws' : State) (i : ℕ) → ws ≡ layer acts s i → ws' ≡ grown acts ws (length acts) → ws' ≡ ws → ((j : ℕ) → j < i → subset goal (layer acts s j) ≡ false) → false ≡ subset goal ws → last acts goal s ≡ 257
last_stuck acts goal s ws ws' i e h same below t =
    let stop : layer acts s (suc i) ≡ layer acts s i = layer_suc acts s i ∙ ap (λ (x : State). grown acts x (length acts)) (sym e) ∙ sym h ∙ same ∙ e in
    last_none acts goal s (λ j l.
    ⊎_elim (λ m. below j m) (λ m. ap (subset goal) (layer_stuck acts s i j stop m ∙ sym e) ∙ sym t) (cases_lt j i))

-- the start
start_level : (b : Bool) → nat_le (cond b 0 65535) 0 ≡ b
start_level true = refl
start_level false = refl

start_far : (b : Bool) → nat_le (cond b 0 65535) 0 ≡ false → ◌≡◌ {A = ℕ} (cond b 0 65535) 65535
start_far true e = absurd (both_ways (nat_le 0 0) e refl)
start_far false e = refl

pub graph_start : (acts : List Action) (goal s : State) (ns ns' : List FactNode) → Each (opened goal s) ns ns' → Graph acts s 0 ns'
unfolding layer
graph_start acts goal s ns ns' e = record {
  level = λ f j q l.
      let z : j ≡ 0 = omega arith in
      ap (λ (x : ℕ). leb (node ns' f).level x) z ∙ ap (λ (n : FactNode). leb n.level 0) (e.at f q) ∙ start_level (has s f) ∙ ap (λ (x : ℕ). has (layer acts s x) f) (sym z);
  far = λ f q h. ap (λ (n : FactNode). n.level) (e.at f q) ∙ start_far (has s f) (sym (ap (λ (n : FactNode). leb n.level 0) (e.at f q)) ∙ h);
  by = λ f j q l h. absurd (omega arith);
}

pub fresh_start : (goal s : State) (ns ns' : List FactNode) → Each (opened goal s) ns ns' → Fresh goal ns'
fresh_start goal s ns ns' e = record { marked = λ f q. ap (λ (n : FactNode). n.marked) (e.at f q); wanted = λ f q. ap (λ (n : FactNode). n.wanted) (e.at f q) }

-- what an action does not touch
cond_marked : (b d : Bool) (n m : FactNode) → n.marked ≡ m.marked → (cond b (cond d n m) m).marked ≡ m.marked
cond_marked true true n m e = e
cond_marked true false n m e = refl
cond_marked false d n m e = refl

cond_wanted : (b d : Bool) (n m : FactNode) → n.wanted ≡ m.wanted → (cond b (cond d n m) m).wanted ≡ m.wanted
cond_wanted true true n m e = e
cond_wanted true false n m e = refl
cond_wanted false d n m e = refl

joined_marked : (acts : List Action) (base : State) (i k f : ℕ) (n : FactNode) → (joined acts base i k f n).marked ≡ n.marked
unfolding joined
joined_marked acts base i zero f n = refl
joined_marked acts base i (suc k) f n =
    let m : FactNode = joined acts base i k f n in
    cond_marked (brings acts base (grown acts base k) k) (has (act acts k).add.words f && nat_lt i m.level) (record { level = i; marked = m.marked; adder = k; wanted = m.wanted }) m refl ∙ joined_marked acts base i k f n

joined_wanted : (acts : List Action) (base : State) (i k f : ℕ) (n : FactNode) → (joined acts base i k f n).wanted ≡ n.wanted
unfolding joined
joined_wanted acts base i zero f n = refl
joined_wanted acts base i (suc k) f n =
    let m : FactNode = joined acts base i k f n in
    cond_wanted (brings acts base (grown acts base k) k) (has (act acts k).add.words f && nat_lt i m.level) (record { level = i; marked = m.marked; adder = k; wanted = m.wanted }) m refl ∙ joined_wanted acts base i k f n

pub fresh_more : (acts : List Action) (goal base : State) (i k : ℕ) (ns ns' : List FactNode) → Each (joined acts base i k) ns ns' → Fresh goal ns → Fresh goal ns'
fresh_more acts goal base i k ns ns' e h = record {
  marked = λ f q. ap (λ (n : FactNode). n.marked) (e.at f q) ∙ joined_marked acts base i k f (node ns f) ∙ h.marked f q;
  wanted = λ f q. ap (λ (n : FactNode). n.wanted) (e.at f q) ∙ joined_wanted acts base i k f (node ns f) ∙ h.wanted f q;
}

stay : (b a t : Bool) (n m : FactNode) → t ≡ false → cond b (cond (a && t) n m) m ≡ m
stay true true t n m e = ap (λ (x : Bool). cond x n m) e
stay true false t n m e = refl
stay false a t n m e = refl

-- a fact that a layer before has is left alone
joined_known : (acts : List Action) (base : State) (i k f : ℕ) (n : FactNode) → n.level ≤ i → joined acts base i k f n ≡ n
unfolding joined
joined_known acts base i zero f n l = refl
joined_known acts base i (suc k) f n l =
    let r = joined_known acts base i k f n l in
    ap (offered acts base (grown acts base k) i k f) r ∙ stay (brings acts base (grown acts base k) k) (has (act acts k).add.words f) (nat_lt i n.level) _ n (le-ltb i n.level l)

grown_lacks : (acts : List Action) (base : State) (k f : ℕ) → (applicable (act acts k) base && has (act acts k).add.words f) ≡ false → has (grown acts base k) f ≡ false → has (grown acts base (suc k)) f ≡ false
unfolding grown
grown_lacks acts base k f n h = lack (applicable (act acts k) base) (not (subset (act acts k).add.words (grown acts base k))) n
  where
    lack : (b t : Bool) → (b && has (act acts k).add.words f) ≡ false → has (cond (b && t) (union (grown acts base k) (act acts k).add.words) (grown acts base k)) f ≡ false
    lack true true e = has_union (grown acts base k) (act acts k).add.words f ∙ ap (λ (x : Bool). x || has (act acts k).add.words f) h ∙ e
    lack true false e = h
    lack false t e = h

-- a fact that no layer before has: not brought yet, or brought by the first action that adds it
abbrev adds : List Action → State → ℕ → ℕ → Bool
adds acts base f k = applicable (act acts k) base && has (act acts k).add.words f

data At (acts : List Action) (base : State) (i k f : ℕ) (n : FactNode) : Type 0 where
  out : n.level ≡ 65535 → has (grown acts base k) f ≡ false → first (adds acts base f) k ≡ k → At acts base i k f n
  brought : n.level ≡ i → has (grown acts base k) f ≡ true → n.adder ≡ first (adds acts base f) k → first (adds acts base f) k < k → At acts base i k f n

take : (b a t : Bool) (n m : FactNode) → b ≡ true → a ≡ true → t ≡ true → cond b (cond (a && t) n m) m ≡ n
take b a t n m p q r =
    ap (λ (x : Bool). cond x (cond (a && t) n m) m) p ∙ ap (λ (x : Bool). cond (x && t) n m) q ∙ ap (λ (x : Bool). cond x n m) r

skip_new : (b t a u : Bool) (n m : FactNode) → (b && a) ≡ false → cond (b && t) (cond (a && u) n m) m ≡ m
skip_new true true a u n m e = ap (λ (x : Bool). cond (x && u) n m) e
skip_new true false a u n m e = refl
skip_new false t a u n m e = refl

at_more : (acts : List Action) (base : State) (i k f : ℕ) (n : FactNode) → i < 65535 → At acts base i k f n → At acts base i (suc k) f (offered acts base (grown acts base k) i k f n)
at_more acts base i k f n l (brought e h a m) =
    let same : offered acts base (grown acts base k) i k f n ≡ n = stay (brings acts base (grown acts base k) k) (has (act acts k).add.words f) (nat_lt i n.level) _ n (le-ltb i n.level (omega arith)) in
    let fk = first_keep (adds acts base f) k m in
    brought (ap (λ (x : FactNode). x.level) same ∙ e) (grown_stays acts base k f h) (ap (λ (x : FactNode). x.adder) same ∙ a ∙ sym fk) (omega arith)
at_more acts base i k f n l (out e h a) =
    ⊎_elim
    (λ y.
    let both = and_parts (applicable (act acts k) base) (has (act acts k).add.words f) y in
    let new : FactNode = record { level = i; marked = n.marked; adder = k; wanted = n.wanted } in
    let is : offered acts base (grown acts base k) i k f n ≡ new = take (brings acts base (grown acts base k) k) (has (act acts k).add.words f) (nat_lt i n.level) new n (brings_new acts base (grown acts base k) k f both.0 both.1 h) both.1 (lt-ltb i n.level (omega arith)) in
    let ft = first_take (adds acts base f) k a y in
    brought (ap (λ (x : FactNode). x.level) is) (grown_adds acts base k f both.0 both.1) (ap (λ (x : FactNode). x.adder) is ∙ sym ft) (omega arith))
    (λ y.
    let is : offered acts base (grown acts base k) i k f n ≡ n = skip_new (applicable (act acts k) base) (not (subset (act acts k).add.words (grown acts base k))) (has (act acts k).add.words f) (nat_lt i n.level) _ n y in
    out (ap (λ (x : FactNode). x.level) is ∙ e) (grown_lacks acts base k f y h) (first_skip (adds acts base f) k a y))
    (cases_Bool (adds acts base f k))

at_all : (acts : List Action) (base : State) (i k f : ℕ) (n : FactNode) → i < 65535 → n.level ≡ 65535 → has base f ≡ false → At acts base i k f (joined acts base i k f n)
unfolding joined grown
at_all acts base i zero f n l e h = out e h (first_zero (adds acts base f))
at_all acts base i (suc k) f n l e h = at_more acts base i k f (joined acts base i k f n) l (at_all acts base i k f n l e h)

-- an action that adds a new fact has its preconditions in no layer before
adder_same : (acts : List Action) (s : State) (i f : ℕ) → has (layer acts s i) f ≡ false → first (adds acts (layer acts s i) f) (length acts) ≡ adder acts s i f
unfolding layer
adder_same acts s zero f h = refl
adder_same acts s (suc i) f h = first_same _ _ (length acts) (λ k l. same k l (applicable (act acts k) (layer acts s i)) refl)
  where
    same : (k : ℕ) → k < length acts → (b : Bool) → applicable (act acts k) (layer acts s i) ≡ b → (applicable (act acts k) (layer acts s (suc i)) && has (act acts k).add.words f) ≡ ((applicable (act acts k) (layer acts s (suc i)) && not (applicable (act acts k) (layer acts s i))) && has (act acts k).add.words f)
    same k l true e =
        ⊎_elim
        (λ a. absurd (both_ways (has (layer acts s (suc i)) f) h (grown_has acts (layer acts s i) (length acts) k f l e a)))
        (λ a. and_right _ _ a ∙ sym (and_right _ _ a))
        (cases_Bool (has (act acts k).add.words f))
    same k l false e = ap (λ (x : Bool). x && has (act acts k).add.words f) (sym (and-true (applicable (act acts k) (layer acts s (suc i)))) ∙ ap (λ (x : Bool). applicable (act acts k) (layer acts s (suc i)) && not x) (sym e))

-- one fact, one layer more
pub record Knows (acts : List Action) (s : State) (i f : ℕ) (n : FactNode) : Type 0 where
  pub level : (j : ℕ) → j ≤ i → nat_le n.level j ≡ has (layer acts s j) f
  pub far : leb n.level i ≡ false → n.level ≡ 65535
  pub by : (j : ℕ) → j < i → new_fact acts s j f ≡ true → (n.adder ≡ adder acts s j f) × (adder acts s j f < length acts)

not_new : (acts : List Action) (s : State) (j f : ℕ) → has (layer acts s (suc j)) f ≡ false → new_fact acts s j f ≢ true
not_new acts s j f h e = both_ways (has (layer acts s (suc j)) f) h (and_parts _ _ e).0

knows_old : (acts : List Action) (s : State) (i f : ℕ) (n : FactNode) → Knows acts s i f n → nat_le n.level i ≡ true → Knows acts s (suc i) f n
knows_old acts s i f n g h =
    let low = leb-true n.level i h in
    let now : has (layer acts s i) f ≡ true = sym (g.level i (omega arith)) ∙ h in
    let next : has (layer acts s (suc i)) f ≡ true = ap (λ (x : State). has x f) (layer_suc acts s i) ∙ grown_keeps acts (layer acts s i) (length acts) f now in
    record {
      level = λ j l. ⊎_elim (λ m. g.level j (omega arith)) (λ m. let q : j ≡ suc i = omega arith in le-leb n.level j (omega arith) ∙ sym (ap (λ (x : ℕ). has (layer acts s x) f) q ∙ next)) (cases_lt j (suc i));
      far = λ e. let x = leb-false n.level (suc i) e in absurd (omega arith);
      by = λ j l e. ⊎_elim (λ m. g.by j m e) (λ m. let q : j ≡ i = omega arith in absurd (both_ways (has (layer acts s i) f) (not-true _ (and_parts _ _ (subst (λ (x : ℕ). new_fact acts s x f ≡ true) q e)).1) now)) (cases_lt j i);
    }

knows_new : (acts : List Action) (s : State) (i f : ℕ) (n n' : FactNode) → i < 65534 → Knows acts s i f n → n.level ≡ 65535 → has (layer acts s i) f ≡ false → At acts (layer acts s i) (suc i) (length acts) f n' → Knows acts s (suc i) f n'
knows_new acts s i f n n' small g e h (out a c d) =
    let next : has (layer acts s (suc i)) f ≡ false = ap (λ (x : State). has x f) (layer_suc acts s i) ∙ c in
    record {
      level = λ j l. ⊎_elim (λ m. ap (λ (x : ℕ). leb x j) (a ∙ sym e) ∙ g.level j (omega arith)) (λ m. let q : j ≡ suc i = omega arith in lt-leb n'.level j (omega arith) ∙ sym (ap (λ (x : ℕ). has (layer acts s x) f) q ∙ next)) (cases_lt j (suc i));
      far = λ x. a;
      by = λ j l x.
          ⊎_elim (λ m. absurd (not_new acts s j f (sym (g.level (suc j) (omega arith)) ∙ lt-leb n.level (suc j) (omega arith)) x))
          (λ m. let q : j ≡ i = omega arith in absurd (not_new acts s i f next (subst (λ (y : ℕ). new_fact acts s y f ≡ true) q x)))
          (cases_lt j i);
    }
knows_new acts s i f n n' small g e h (brought a c d m) =
    let next : has (layer acts s (suc i)) f ≡ true = ap (λ (x : State). has x f) (layer_suc acts s i) ∙ c in
    let who = adder_same acts s i f h in
    record {
      level = λ j l. ⊎_elim (λ k. lt-leb n'.level j (omega arith) ∙ sym (lt-leb n.level j (omega arith)) ∙ g.level j (omega arith)) (λ k. let q : j ≡ suc i = omega arith in le-leb n'.level j (omega arith) ∙ sym (ap (λ (x : ℕ). has (layer acts s x) f) q ∙ next)) (cases_lt j (suc i));
      far = λ x. let y = leb-false n'.level (suc i) x in absurd (omega arith);
      by = λ j l x.
          ⊎_elim (λ k. absurd (not_new acts s j f (sym (g.level (suc j) (omega arith)) ∙ lt-leb n.level (suc j) (omega arith)) x))
          (λ k. let q : i ≡ j = omega arith in subst (λ (y : ℕ). (n'.adder ≡ adder acts s y f) × (adder acts s y f < length acts)) q (d ∙ who, subst (λ (y : ℕ). y < length acts) who m))
          (cases_lt j i);
    }

knows_more : (acts : List Action) (s : State) (i f : ℕ) (n : FactNode) → i < 65534 → Knows acts s i f n → Knows acts s (suc i) f (joined acts (layer acts s i) (suc i) (length acts) f n)
knows_more acts s i f n small g =
    ⊎_elim
    (λ h. let low = leb-true n.level i h in subst (Knows acts s (suc i) f) (sym (joined_known acts (layer acts s i) (suc i) (length acts) f n (omega arith))) (knows_old acts s i f n g h))
    (λ h. knows_new acts s i f n _ small g (g.far h) (sym (g.level i (omega arith)) ∙ h) (at_all acts (layer acts s i) (suc i) (length acts) f n (omega arith) (g.far h) (sym (g.level i (omega arith)) ∙ h)))
    (cases_Bool (nat_le n.level i))

pub graph_more : (acts : List Action) (s base : State) (i : ℕ) (ns ns' : List FactNode) → i < 257 → base ≡ layer acts s i → Graph acts s i ns → Each (joined acts base (i + 1) (length acts)) ns ns' → Graph acts s (i + 1) ns'
graph_more acts s base i ns ns' small eb g e =
    let new : (f : ℕ) → f < 256 → Knows acts s (suc i) f (node ns' f) = λ f q.
    let old : Knows acts s i f (node ns f) = record { level = λ j l. g.level f j q l; far = g.far f q; by = λ j l h. g.by f j q l h } in
    let is : node ns' f ≡ joined acts (layer acts s i) (suc i) (length acts) f (node ns f) =
    e.at f q ∙ ap (λ (x : ℕ). joined acts base x (length acts) f (node ns f)) (add-one i) ∙ ap (λ (x : State). joined acts x (suc i) (length acts) f (node ns f)) eb in
    subst (Knows acts s (suc i) f) (sym is) (knows_more acts s i f (node ns f) (omega arith) old) in
    let all : Graph acts s (suc i) ns' = record { level = λ f j q l. (new f q).level j l; far = λ f q. (new f q).far; by = λ f j q l h. (new f q).by j l h } in
    subst (λ (x : ℕ). Graph acts s x ns') (sym (add-one i)) all
