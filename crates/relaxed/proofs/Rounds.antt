-- Making one layer.
use Rattle.std.proofs.Common.{◌≡◌, ℕ, ◌+◌, Bool, true, false, cond, List, sym, refl, ap, ◌∙◌, add-one}
use Rattle.strips.specs.declared.action.Action.{Action}
use Rattle.strips.specs.Semantics.{State}
use Rattle.strips.specs.Sound.{act}
use Rattle.relaxed.specs.declared.graph.FactNode.{FactNode}
use Rattle.relaxed.specs.Layers.{brings, grown, with_adds}
use Rattle.relaxed.specs.Nodes.{node, Each, brought, offered, joined}

pub grown_none : (acts : List Action) (base : State) → grown acts base 0 ≡ base
unfolding grown
grown_none acts base = refl

pub grown_more : (acts : List Action) (base : State) (k : ℕ) (ws ws' : State) → ws ≡ grown acts base k → ws' ≡ with_adds acts base k ws → ws' ≡ grown acts base (k + 1)
unfolding grown
grown_more acts base k ws ws' e h = h ∙ ap (with_adds acts base k) e ∙ sym (ap (grown acts base) (add-one k))

pub joined_none : (acts : List Action) (base : State) (i : ℕ) (ns : List FactNode) → Each (joined acts base i 0) ns ns
unfolding joined
joined_none acts base i ns = record { at = λ f l. refl }

pub joined_more : (acts : List Action) (base ws : State) (i k : ℕ) (ns ns' ns'' : List FactNode) → ws ≡ grown acts base k → Each (joined acts base i k) ns ns' → Each (offered acts base ws i k) ns' ns'' → Each (joined acts base i (k + 1)) ns ns''
unfolding joined
joined_more acts base ws i k ns ns' ns'' e p q =
    record {
      at = λ f l.
          q.at f l
          ∙ ap (λ (x : State). offered acts base x i k f (node ns' f)) e
          ∙ ap (offered acts base (grown acts base k) i k f) (p.at f l)
          ∙ sym (ap (λ (n : ℕ). joined acts base i n f (node ns f)) (add-one k));
    }

-- one action: it brings something, or not
pub offered_then : (acts : List Action) (base ws : State) (i k : ℕ) (a : Action) (ns ns' : List FactNode) → a ≡ act acts k → brings acts base ws k ≡ true → Each (brought a.add.words i k) ns ns' → Each (offered acts base ws i k) ns ns'
offered_then acts base ws i k a ns ns' e p q =
    record {
      at = λ f m. q.at f m
          ∙ ap (λ (x : Action). brought x.add.words i k f (node ns f)) e
          ∙ sym (ap (λ (b : Bool). cond b (brought (act acts k).add.words i k f (node ns f)) (node ns f)) p);
    }

pub offered_else : (acts : List Action) (base ws : State) (i k : ℕ) (ns : List FactNode) → brings acts base ws k ≡ false → Each (offered acts base ws i k) ns ns
offered_else acts base ws i k ns p =
    record { at = λ f m. sym (ap (λ (b : Bool). cond b (brought (act acts k).add.words i k f (node ns f)) (node ns f)) p) }
