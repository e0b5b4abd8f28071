-- The table follows extraction.
use Rattle.std.specs.Prelude.{◌≡◌, ℕ, suc, ◌+◌, ◌-◌, ◌<◌, ◌≤◌, Bool, true, false, cond, not, ◌&&◌, ◌||◌, ltb, leb, List, [], length, ◌==◌, nat_eq, nat_le, nat_lt, refl}
use Rattle.std.proofs.Common.{sym, ap, subst, ◌∙◌, ⊎_elim, arith, add-zero, add_assoc, add-one}
use Rattle.std.proofs.Math.Bool.{or-false, or-true}
use Rattle.std.proofs.lemmas.Bool.{cases_order, cases_lt, lt-ltb, le-ltb, le-leb, lt-leb, eq-eqb, ne_eqb, and_parts}
use Rattle.facts.specs.Words.{has, without}
use Rattle.facts.proofs.Sets.{has_union, has_without, has_past}
use Rattle.strips.specs.declared.action.Action.{Action}
use Rattle.strips.specs.Semantics.{State}
use Rattle.strips.specs.Sound.{act}
use Rattle.relaxed.specs.declared.graph.FactNode.{FactNode}
use Rattle.relaxed.specs.Layers.{layer, new_fact}
use Rattle.relaxed.specs.Extract.{Marks, adder, chosen, visit, pass, lower, treated}
use Rattle.relaxed.specs.Nodes.{node, Each, selected, due}
use Rattle.relaxed.specs.Graph.{Graph, Fresh, Shows, Treats, Descends}

-- tests
above : (i x : ℕ) → nat_lt i x ≡ not (nat_le x i)
above i x = ⊎_elim (λ l. lt-ltb i x l ∙ ap not (sym (lt-leb x i l))) (λ l. le-ltb i x l ∙ ap not (sym (le-leb x i l))) (cases_lt i x)

pub level_is : (x i : ℕ) → (x == i + 1) ≡ (nat_le x (suc i) && not (nat_le x i))
level_is x i =
    ⊎_elim (λ e. eq-eqb x (i + 1) e ∙ sym (both true false (le-leb x (suc i) (omega arith)) (lt-leb x i (omega arith))))
    (⊎_elim
    (λ l. ne_eqb x (i + 1) (λ e. omega arith) ∙ sym (both true true (le-leb x (suc i) (omega arith)) (le-leb x i (omega arith))))
    (λ l. ne_eqb x (i + 1) (λ e. omega arith) ∙ sym (both false false (lt-leb x (suc i) (omega arith)) (lt-leb x i (omega arith)))))
    (cases_order x (i + 1))
  where
    both : (b d : Bool) → nat_le x (suc i) ≡ b → nat_le x i ≡ d → (nat_le x (suc i) && not (nat_le x i)) ≡ (b && not d)
    both b d p q = ap (λ (y : Bool). y && not (nat_le x i)) p ∙ ap (λ (y : Bool). b && not y) q

pub due_same : (acts : List Action) (s : State) (top i f : ℕ) (m : Marks) (ns : List FactNode) → Graph acts s top ns → i < top → Shows i m ns → f < 256 → due i (node ns f) ≡ (has m.wanted f && (new_fact acts s i f && not (has m.here f)))
due_same acts s top i f m ns g l w q =
    let a : nat_eq (node ns f).level (i + 1) ≡ new_fact acts s i f =
    level_is (node ns f).level i ∙ ap (λ (y : Bool). y && not (nat_le (node ns f).level i)) (g.level f (suc i) q (omega arith)) ∙ ap (λ (y : Bool). has (layer acts s (suc i)) f && not y) (g.level f i q (omega arith)) in
    let b : ltb (i + 1) (node ns f).marked ≡ not (has m.here f) = above (i + 1) (node ns f).marked ∙ ap not (w.here f q) in
    ap (λ (y : Bool). y && ((node ns f).level == i + 1 && nat_lt (i + 1) (node ns f).marked)) (w.wanted f q)
    ∙ ap (λ (y : Bool). has m.wanted f && (y && nat_lt (i + 1) (node ns f).marked)) a
    ∙ ap (λ (y : Bool). has m.wanted f && (new_fact acts s i f && y)) b

-- one action selected
graph_selected : (acts : List Action) (s : State) (top i : ℕ) (a : Action) (ns ns' : List FactNode) → Each (selected a i) ns ns' → Graph acts s top ns → Graph acts s top ns'
graph_selected acts s top i a ns ns' e g = record {
  level = λ f j q l. ap (λ (n : FactNode). leb n.level j) (e.at f q) ∙ g.level f j q l;
  far = λ f q h. ap (λ (n : FactNode). n.level) (e.at f q) ∙ g.far f q (sym (ap (λ (n : FactNode). leb n.level top) (e.at f q)) ∙ h);
  by = λ f j q l h. let r = g.by f j q l h in (ap (λ (n : FactNode). n.adder) (e.at f q) ∙ r.0, r.1);
}

either : (b : Bool) (i x j : ℕ) → i ≤ j → nat_le (cond b i x) j ≡ (nat_le x j || b)
either true i x j l = le-leb i j l ∙ sym (or-true (nat_le x j))
either false i x j l = sym (or-false (nat_le x j))

low_still : (b : Bool) (i x : ℕ) → i ≤ x → i ≤ cond b i x
low_still true i x l = omega arith
low_still false i x l = l

shows_selected : (i : ℕ) (a : Action) (m : Marks) (ns ns' : List FactNode) → Each (selected a i) ns ns' → Shows i m ns → Shows i (chosen a m) ns'
shows_selected i a m ns ns' e w = record {
  wanted = λ f q.
      ap (λ (n : FactNode). n.wanted) (e.at f q)
      ∙ ap (λ (y : Bool). y || (has a.pre.words f && nat_lt i (node ns f).marked)) (w.wanted f q)
      ∙ ap (λ (y : Bool). has m.wanted f || (has a.pre.words f && y)) (above i (node ns f).marked ∙ ap not (w.below f q))
      ∙ ap (λ (y : Bool). has m.wanted f || y) (sym (has_without a.pre.words m.below f))
      ∙ sym (has_union m.wanted (without a.pre.words m.below) f);
  here = λ f q.
      ap (λ (n : FactNode). leb n.marked (i + 1)) (e.at f q)
      ∙ either (has a.add.words f) i (node ns f).marked (i + 1) (omega arith)
      ∙ ap (λ (y : Bool). y || has a.add.words f) (w.here f q)
      ∙ sym (has_union m.here a.add.words f);
  below = λ f q.
      ap (λ (n : FactNode). leb n.marked i) (e.at f q)
      ∙ either (has a.add.words f) i (node ns f).marked i (omega arith)
      ∙ ap (λ (y : Bool). y || has a.add.words f) (w.below f q)
      ∙ sym (has_union m.below a.add.words f);
  low = λ f q. subst (λ (n : FactNode). i ≤ n.marked) (sym (e.at f q)) (low_still (has a.add.words f) i (node ns f).marked (w.low f q));
}

-- one fact: nothing to do
visit_none : (acts : List Action) (s : State) (i f : ℕ) (m : Marks) → (has m.wanted f && (new_fact acts s i f && not (has m.here f))) ≡ false → visit acts s i f m ≡ m
visit_none acts s i f m e = ap (λ (b : Bool). cond b (chosen (act acts (adder acts s i f)) m) m) e

visit_some : (acts : List Action) (s : State) (i f : ℕ) (m : Marks) → (has m.wanted f && (new_fact acts s i f && not (has m.here f))) ≡ true → visit acts s i f m ≡ chosen (act acts (adder acts s i f)) m
visit_some acts s i f m e = ap (λ (b : Bool). cond b (chosen (act acts (adder acts s i f)) m) m) e

pub treat_else : (acts : List Action) (i f : ℕ) (ns : List FactNode) → f < 256 → due i (node ns f) ≡ false → Treats acts i (λ s m. visit acts s i f m) ns ns 0
treat_else acts i f ns q d = record {
  graph = λ s top g. g;
  shows = λ s top m g l w. subst (λ (x : Marks). Shows i x ns) (sym (visit_none acts s i f m (sym (due_same acts s top i f m ns g l w q) ∙ d))) w;
  count = λ s top m g l w. ap (λ (x : Marks). x.count) (visit_none acts s i f m (sym (due_same acts s top i f m ns g l w q) ∙ d)) ∙ sym (add-zero m.count);
}

-- the fact is of this level, so its adder is known
of_level : (i : ℕ) (n : FactNode) → due i n ≡ true → (n.level == i + 1) ≡ true
of_level i n d = (and_parts _ _ (and_parts _ _ d).1).0

new_here : (acts : List Action) (s : State) (top i f : ℕ) (ns : List FactNode) → Graph acts s top ns → i < top → f < 256 → due i (node ns f) ≡ true → new_fact acts s i f ≡ true
new_here acts s top i f ns g l q d =
    sym (level_is (node ns f).level i ∙ ap (λ (y : Bool). y && not (nat_le (node ns f).level i)) (g.level f (suc i) q (omega arith)) ∙ ap (λ (y : Bool). has (layer acts s (suc i)) f && not y) (g.level f i q (omega arith))) ∙ of_level i (node ns f) d

pub treat_none : (acts : List Action) (i f : ℕ) (ns : List FactNode) → f < 256 → due i (node ns f) ≡ true → length acts ≤ (node ns f).adder → Treats acts i (λ s m. visit acts s i f m) ns ns 0
treat_none acts i f ns q d past = record {
  graph = λ s top g. g;
  shows = λ s top m g l w. absurd (no s top g l);
  count = λ s top m g l w. absurd (no s top g l);
}
  where
    no : (s : State) (top : ℕ) → Graph acts s top ns → i < top → ⊥
    no s top g l = let r = g.by f i q l (new_here acts s top i f ns g l q d) in let a = r.0 in let b = r.1 in omega arith

pub treat_some : (acts : List Action) (i f k : ℕ) (a : Action) (ns ns' : List FactNode) → f < 256 → due i (node ns f) ≡ true → k ≡ (node ns f).adder → k < length acts → a ≡ act acts k → Each (selected a i) ns ns' → Treats acts i (λ s m. visit acts s i f m) ns ns' 1
treat_some acts i f k a ns ns' q d ek lk ea e = record {
  graph = λ s top g. graph_selected acts s top i a ns ns' e g;
  shows = λ s top m g l w. subst (λ (x : Marks). Shows i x ns') (sym (is s top m g l w)) (shows_selected i a m ns ns' e w);
  count = λ s top m g l w. ap (λ (x : Marks). x.count) (is s top m g l w);
}
  where
    is : (s : State) (top : ℕ) (m : Marks) → Graph acts s top ns → i < top → Shows i m ns → visit acts s i f m ≡ chosen a m
    is s top m g l w =
        let r = g.by f i q l (new_here acts s top i f ns g l q d) in
        visit_some acts s i f m (sym (due_same acts s top i f m ns g l w q) ∙ d)
        ∙ ap (λ (x : ℕ). chosen (act acts x) m) (sym (ek ∙ r.0))
        ∙ ap (λ (x : Action). chosen x m) (sym ea)

-- the facts of a layer
pub pass_none : (acts : List Action) (i : ℕ) (ns : List FactNode) → Treats acts i (λ s m. pass acts s i 0 m) ns ns 0
unfolding pass
pass_none acts i ns = record { graph = λ s top g. g; shows = λ s top m g l w. w; count = λ s top m g l w. sym (add-zero m.count) }

pub pass_more : (acts : List Action) (i n r r' : ℕ) (ns ns' ns'' : List FactNode) → Treats acts i (λ s m. pass acts s i n m) ns ns' r → Treats acts i (λ s m. visit acts s i n m) ns' ns'' r' → Treats acts i (λ s m. pass acts s i (n + 1) m) ns ns'' (r + r')
unfolding pass
pass_more acts i n r r' ns ns' ns'' a b = record {
  graph = λ s top g. b.graph s top (a.graph s top g);
  shows = λ s top m g l w. subst (λ (x : ℕ). Shows i (pass acts s i x m) ns'') (sym (add-one n)) (b.shows s top (pass acts s i n m) (a.graph s top g) l (a.shows s top m g l w));
  count = λ s top m g l w.
      ap (λ (x : ℕ). (pass acts s i x m).count) (add-one n)
      ∙ b.count s top (pass acts s i n m) (a.graph s top g) l (a.shows s top m g l w)
      ∙ ap (λ (x : ℕ). x + r') (a.count s top m g l w) ∙ add_assoc m.count r r';
}

pub pass_all : (acts : List Action) (i n r : ℕ) (ns ns' : List FactNode) → n ≡ 256 → Treats acts i (λ s m. pass acts s i n m) ns ns' r → Treats acts i (λ s m. pass acts s i 256 m) ns ns' r
pass_all acts i n r ns ns' e t = subst (λ (x : ℕ). Treats acts i (λ s m. pass acts s i x m) ns ns' r) e t

-- one layer down
lower_shows : (i : ℕ) (m : Marks) (ns : List FactNode) → Shows (i + 1) m ns → Shows i (lower m) ns
lower_shows i m ns w = record {
  wanted = w.wanted;
  here = w.below;
  below = λ f q. let l = w.low f q in lt-leb (node ns f).marked i (omega arith) ∙ sym (has_past [] f (omega arith));
  low = λ f q. let l = w.low f q in omega arith;
}

pub descend_none : (acts : List Action) (top : ℕ) (ns : List FactNode) → top ≤ 256 → Descends acts top 0 ns ns 0
unfolding treated
descend_none acts top ns l = record {
  graph = λ s g. g;
  shows = λ s goal g h. record {
    wanted = h.wanted;
    here = λ f q. let e = h.marked f q in lt-leb (node ns f).marked (top - 0 + 1) (omega arith) ∙ sym (has_past [] f (omega arith));
    below = λ f q. let e = h.marked f q in lt-leb (node ns f).marked (top - 0) (omega arith) ∙ sym (has_past [] f (omega arith));
    low = λ f q. let e = h.marked f q in omega arith;
  };
  count = λ s goal g h. refl;
}

pub descend_more : (acts : List Action) (top n r r' : ℕ) (ns ns' ns'' : List FactNode) → n < top → Descends acts top n ns ns' r → Treats acts (top - (n + 1)) (λ s m. pass acts s (top - (n + 1)) 256 m) ns' ns'' r' → Descends acts top (n + 1) ns ns'' (r + r')
unfolding treated
descend_more acts top n r r' ns ns' ns'' l a b =
    let e : n + 1 ≡ suc n = add-one n in
    let d : top - n ≡ (top - (n + 1)) + 1 = omega arith in
    let low : (s goal : State) → Graph acts s top ns → Fresh goal ns → Shows (top - (n + 1)) (lower (treated acts s goal top n)) ns' =
    λ s goal g h. lower_shows (top - (n + 1)) (treated acts s goal top n) ns' (subst (λ (x : ℕ). Shows x (treated acts s goal top n) ns') d (a.shows s goal g h)) in
    let is : (s goal : State) → treated acts s goal top (n + 1) ≡ pass acts s (top - (n + 1)) 256 (lower (treated acts s goal top n)) =
    λ s goal. ap (treated acts s goal top) e ∙ ap (λ (x : ℕ). pass acts s (top - x) 256 (lower (treated acts s goal top n))) (sym e) in
    record {
      graph = λ s g. b.graph s top (a.graph s g);
      shows = λ s goal g h. subst (λ (x : Marks). Shows (top - (n + 1)) x ns'') (sym (is s goal)) (b.shows s top (lower (treated acts s goal top n)) (a.graph s g) (omega arith) (low s goal g h));
      count = λ s goal g h.
          ap (λ (x : ℕ). x + r') (a.count s goal g h)
          ∙ sym (b.count s top (lower (treated acts s goal top n)) (a.graph s g) (omega arith) (low s goal g h))
          ∙ ap (λ (x : Marks). x.count) (sym (is s goal));
    }

-- the same for the layer above b - 1, where b counts down
pub descend_down : (acts : List Action) (top b r r' : ℕ) (ns ns' ns'' : List FactNode) → 0 < b → b ≤ top → Descends acts top (top - b) ns ns' r → Treats acts (b - 1) (λ s m. pass acts s (b - 1) 256 m) ns' ns'' r' → Descends acts top (top - (b - 1)) ns ns'' (r + r')
descend_down acts top b r r' ns ns' ns'' p l a t =
    let e : (top - b) + 1 ≡ top - (b - 1) = omega arith in
    let d : b - 1 ≡ top - ((top - b) + 1) = omega arith in
    subst (λ (x : ℕ). Descends acts top x ns ns'' (r + r')) e
    (descend_more acts top (top - b) r r' ns ns' ns'' (omega arith) a (subst (λ (x : ℕ). Treats acts x (λ s m. pass acts s x 256 m) ns' ns'' r') d t))
