-- From the table to the answer.
use Rattle.std.specs.Prelude.{◌≡◌, ℕ, zero, suc, ◌<◌, ◌≤◌, Bool, true, false, cond, not, ◌&&◌, List, length, nat_le, nat_lt, ◌^◌, set, ◌==◌, slice_index}
use Rattle.std.proofs.Common.{sym, ap, ◌∙◌, ⊎_elim, arith}
use Rattle.std.proofs.lemmas.Bool.{cases_Bool, lt-ltb, le-ltb, leb-true, and_left, and_right, ne_eqb}
use Rattle.facts.specs.Words.{has, subset, without}
use Rattle.facts.proofs.Sets.{subset_has, has_common, has_without}
use Rattle.strips.specs.declared.action.Action.{Action}
use Rattle.strips.specs.Semantics.{State}
use Rattle.relaxed.specs.declared.graph.FactNode.{FactNode}
use Rattle.relaxed.specs.Layers.{layer, new_fact}
use Rattle.relaxed.specs.Plan.{last, first_wanted, relaxed_plan, helpful}
use Rattle.relaxed.specs.Nodes.{node, wanted_first}
use Rattle.relaxed.specs.Graph.{Graph, Fresh, Extracts}
use Rattle.heuristic.specs.declared.estimate.Estimate.TheVariants.{Steps, Never}
use Rattle.strips.specs.Sound.{AllWithin}
use Rattle.heuristic.specs.Useful.{useful}
use Rattle.heuristic.specs.Words.{useful_same}
use Rattle.relaxed.specs.Extract.{extracted, treated}
use Rattle.relaxed.proofs.Marking.{level_is}
use Rattle.relaxed.specs.Growing.{layer_none, last_passes}

pub plan_never : (acts : List Action) (goal s : State) → last acts goal s ≡ 257 → Never ≡ relaxed_plan acts goal s
unfolding relaxed_plan
plan_never acts goal s e = sym (ap (λ (t : ℕ). cond (nat_lt t 257) (Steps (extracted acts s goal t).count) Never) e)

pub helpful_never : (acts : List Action) (goal s : State) (k : ℕ) → last acts goal s ≡ 257 → false ≡ helpful acts goal s k
unfolding helpful
helpful_never acts goal s k e = sym (and_left (nat_lt (last acts goal s) 257) _ (le-ltb (last acts goal s) 257 (omega arith)))

-- facts wanted at level 1
level_one : (acts : List Action) (goal s : State) (top : ℕ) (ns : List FactNode) → Graph acts s top ns → 0 < top → (f : ℕ) → f < 256 → ((node ns f).level == 1) ≡ new_fact acts s 0 f
level_one acts goal s top ns g l f q =
    level_is (node ns f).level 0
    ∙ ap (λ (y : Bool). y && not (nat_le (node ns f).level 0)) (g.level f 1 q (omega arith))
    ∙ ap (λ (y : Bool). has (layer acts s 1) f && not y) (g.level f 0 q (omega arith))

-- what the task's type says of its actions, and that the facts in use are at most 256
pub record Sized (facts : State) (acts : List Action) : Type 0 where
  pub few : length facts ≤ 4
  pub small : (k : ℕ) → slice_index facts k < 2 ^ 64
  pub within : AllWithin facts acts

has_first : (acts : List Action) (goal s : State) (top f : ℕ) → has (first_wanted acts goal s top) f ≡ (has (extracted acts s goal top).wanted f && new_fact acts s 0 f)
has_first acts goal s top f =
    has_common (extracted acts s goal top).wanted (without (layer acts s 1) s) f
    ∙ ap (λ (b : Bool). has (extracted acts s goal top).wanted f && b) (has_without (layer acts s 1) s f)
    ∙ ap (λ (w : State). has (extracted acts s goal top).wanted f && (has (layer acts s 1) f && not (has w f))) (layer_none acts s)

pub helpful_some : (facts : State) (acts : List Action) (goal s : State) (top k r : ℕ) (ns ns' : List FactNode) (set : State) (b : Bool) → Sized facts acts → last acts goal s ≡ top → top ≤ 256 → 0 < top → Graph acts s top ns → Fresh goal ns → Extracts acts top top ns ns' r → ((f : ℕ) → f < 256 → has set f ≡ wanted_first (node ns' f)) → b ≡ useful acts s set k → b ≡ helpful acts goal s k
unfolding helpful
helpful_some facts acts goal s top k r ns ns' set b z e l pos g h x w u =
    u
    ∙ useful_same facts acts s set (first_wanted acts goal s top) k z.few z.small z.within
    (λ f q. w f q ∙ ap (λ (y : Bool). y && (node ns' f).level == 1) (x.wanted s goal g h f q)
    ∙ ap (λ (y : Bool). has (extracted acts s goal top).wanted f && y) (level_one acts goal s top ns' (x.graph s g) pos f q)
    ∙ sym (has_first acts goal s top f))
    ∙ sym (ap (λ (y : Bool). y && useful acts s (first_wanted acts goal s top) k) (lt-ltb top 257 (omega arith)))
    ∙ sym (ap (λ (t : ℕ). nat_lt t 257 && useful acts s (first_wanted acts goal s t) k) e)

none_one : (acts : List Action) (s : State) (ns : List FactNode) → Graph acts s 0 ns → (f : ℕ) → f < 256 → ((node ns f).level == 1) ≡ false
none_one acts s ns g f q =
    ⊎_elim (λ y. let l = leb-true (node ns f).level 0 y in ne_eqb (node ns f).level 1 (λ e. omega arith))
    (λ y. let l = g.far f q y in ne_eqb (node ns f).level 1 (λ e. omega arith))
    (cases_Bool (nat_le (node ns f).level 0))

none_new : (acts : List Action) (goal s : State) (f : ℕ) → subset goal (layer acts s 0) ≡ true → (has (extracted acts s goal 0).wanted f && new_fact acts s 0 f) ≡ false
unfolding treated
none_new acts goal s f t =
    ⊎_elim
    (λ y. and_right (has goal f) (new_fact acts s 0 f) (and_right (has (layer acts s 1) f) (not (has (layer acts s 0) f)) (ap not (subset_has goal (layer acts s 0) t f y))))
    (λ y. and_left (has goal f) (new_fact acts s 0 f) y)
    (cases_Bool (has goal f))

pub helpful_all : (facts : State) (acts : List Action) (goal s : State) (top k r : ℕ) (ns ns' : List FactNode) (set : State) (b : Bool) → Sized facts acts → last acts goal s ≡ top → top ≤ 256 → Graph acts s top ns → Fresh goal ns → Extracts acts top top ns ns' r → ((f : ℕ) → f < 256 → has set f ≡ wanted_first (node ns' f)) → b ≡ useful acts s set k → b ≡ helpful acts goal s k
unfolding helpful
helpful_all facts acts goal s (suc top) k r ns ns' set b z e l g h x w u = helpful_some facts acts goal s (suc top) k r ns ns' set b z e l (omega arith) g h x w u
helpful_all facts acts goal s zero k r ns ns' set b z e l g h x w u =
    let t = last_passes acts goal s 0 e (omega arith) in
    u
    ∙ useful_same facts acts s set (first_wanted acts goal s 0) k z.few z.small z.within
    (λ f q. w f q ∙ and_right (node ns' f).wanted ((node ns' f).level == 1) (none_one acts s ns' (x.graph s g) f q) ∙ sym (has_first acts goal s 0 f ∙ none_new acts goal s f t))
    ∙ sym (ap (λ (t : ℕ). nat_lt t 257 && useful acts s (first_wanted acts goal s t) k) e)
