-- What the table of facts says of the layers and of extraction.
use Rattle.std.specs.Prelude.{◌≡◌, ℕ, ◌+◌, ◌-◌, ◌<◌, ◌≤◌, true, false, List, length, Some, None, Option, nat_le}
use Rattle.facts.specs.Words.{has}
use Rattle.strips.specs.declared.action.Action.{Action}
use Rattle.strips.specs.Semantics.{State}
use Rattle.relaxed.specs.declared.graph.FactNode.{FactNode}
use Rattle.relaxed.specs.Layers.{layer, new_fact}
use Rattle.relaxed.specs.Extract.{Marks, adder, treated}
use Rattle.relaxed.specs.Plan.{last}
use Rattle.relaxed.specs.Nodes.{node}

-- levels and adders up to layer `top`
pub record Graph (acts : List Action) (s : State) (top : ℕ) (ns : List FactNode) : Type 0 where
  pub level : (f j : ℕ) → f < 256 → j ≤ top → nat_le (node ns f).level j ≡ has (layer acts s j) f
  pub far : (f : ℕ) → f < 256 → nat_le (node ns f).level top ≡ false → (node ns f).level ≡ 65535
  pub by : (f j : ℕ) → f < 256 → j < top → new_fact acts s j f ≡ true → ((node ns f).adder ≡ adder acts s j f) × (adder acts s j f < length acts)

-- nothing is marked, and the goals are wanted
pub record Fresh (goal : State) (ns : List FactNode) : Type 0 where
  pub marked : (f : ℕ) → f < 256 → (node ns f).marked ≡ 65535
  pub wanted : (f : ℕ) → f < 256 → (node ns f).wanted ≡ has goal f

-- what building finds
abbrev pub Found : List Action → State → State → Option ℕ → List FactNode → Type 0
Found acts goal s None ns = last acts goal s ≡ 257
Found acts goal s (Some i) ns = (last acts goal s ≡ i) × (i ≤ 256) × Graph acts s i ns × Fresh goal ns

-- the marks of the table, while layer i + 1 is treated
pub record Shows (i : ℕ) (m : Marks) (ns : List FactNode) : Type 0 where
  pub wanted : (f : ℕ) → f < 256 → (node ns f).wanted ≡ has m.wanted f
  pub here : (f : ℕ) → f < 256 → nat_le (node ns f).marked (i + 1) ≡ has m.here f
  pub below : (f : ℕ) → f < 256 → nat_le (node ns f).marked i ≡ has m.below f
  pub low : (f : ℕ) → f < 256 → i ≤ (node ns f).marked

-- a step of the code at layer i + 1 that does what g does to the marks, and selects r actions
pub record Treats (acts : List Action) (i : ℕ) (g : State → Marks → Marks) (ns ns' : List FactNode) (r : ℕ) : Type 0 where
  pub graph : (s : State) (top : ℕ) → Graph acts s top ns → Graph acts s top ns'
  pub shows : (s : State) (top : ℕ) (m : Marks) → Graph acts s top ns → i < top → Shows i m ns → Shows i (g s m) ns'
  pub count : (s : State) (top : ℕ) (m : Marks) → Graph acts s top ns → i < top → Shows i m ns → (g s m).count ≡ m.count + r

-- the first n layers from `top` down
pub record Extracts (acts : List Action) (top n : ℕ) (ns ns' : List FactNode) (r : ℕ) : Type 0 where
  pub graph : (s : State) → Graph acts s top ns → Graph acts s top ns'
  pub wanted : (s goal : State) → Graph acts s top ns → Fresh goal ns → (f : ℕ) → f < 256 → (node ns' f).wanted ≡ has (treated acts s goal top n).wanted f
  pub count : (s goal : State) → Graph acts s top ns → Fresh goal ns → r ≡ (treated acts s goal top n).count

-- the same, while layers are left: the table shows the marks as they are before layer top - n is treated
pub record Descends (acts : List Action) (top n : ℕ) (ns ns' : List FactNode) (r : ℕ) : Type 0 where
  pub graph : (s : State) → Graph acts s top ns → Graph acts s top ns'
  pub shows : (s goal : State) → Graph acts s top ns → Fresh goal ns → Shows (top - n) (treated acts s goal top n) ns'
  pub count : (s goal : State) → Graph acts s top ns → Fresh goal ns → r ≡ (treated acts s goal top n).count
