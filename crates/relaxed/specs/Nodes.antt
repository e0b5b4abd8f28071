-- What the code does to one fact's record.
use Rattle.std.specs.Prelude.{◌≡◌, ℕ, zero, suc, ◌+◌, ◌<◌, Bool, false, if◌then◌else◌, ◌&&◌, ◌||◌, List, ◌==◌, nat_lt, slice_index_or}
use Rattle.facts.specs.Words.{has}
use Rattle.strips.specs.declared.action.Action.{Action}
use Rattle.strips.specs.Semantics.{State}
use Rattle.strips.specs.Sound.{act}
use Rattle.relaxed.specs.declared.graph.FactNode.{FactNode}
use Rattle.relaxed.specs.Layers.{brings, grown}

abbrev pub blank : FactNode
blank = record { level = 0; marked = 0; adder = 0; wanted = false }

abbrev pub node : List FactNode → ℕ → FactNode
node ns f = slice_index_or ns f blank

-- each record is changed by a function of its fact's number
pub record Each (g : ℕ → FactNode → FactNode) (ns ns' : List FactNode) : Type 0 where
  pub at : (f : ℕ) → f < 256 → node ns' f ≡ g f (node ns f)

-- at the start
abbrev pub opened_as : Bool → Bool → FactNode
opened_as is_goal is_true = record { level = (if is_true then 0 else 65535); marked = 65535; adder = 0; wanted = is_goal }

abbrev pub opened : State → State → ℕ → FactNode → FactNode
opened goal s f n = opened_as (has goal f) (has s f)

-- action k brings its adds into layer i
abbrev pub brought_as : Bool → ℕ → ℕ → FactNode → FactNode
brought_as added i k n =
    if added && nat_lt i n.level then record { level = i; marked = n.marked; adder = k; wanted = n.wanted } else n

abbrev pub brought : State → ℕ → ℕ → ℕ → FactNode → FactNode
brought adds i k f n = brought_as (has adds f) i k n

-- an action is selected at layer i + 1
abbrev pub selected_as : Bool → Bool → ℕ → FactNode → FactNode
selected_as needed added i n =
    record { level = n.level; marked = (if added then i else n.marked); adder = n.adder; wanted = n.wanted || (needed && nat_lt i n.marked) }

abbrev pub selected : Action → ℕ → ℕ → FactNode → FactNode
selected a i f n = selected_as (has a.pre.words f) (has a.add.words f) i n

-- whether a fact is treated at layer i + 1
abbrev pub due : ℕ → FactNode → Bool
due i n = n.wanted && (n.level == i + 1 && nat_lt (i + 1) n.marked)

-- whether a fact is wanted at level 1
abbrev pub wanted_first : FactNode → Bool
wanted_first n = n.wanted && n.level == 1

-- action k at layer i, which has the facts `ws` so far
abbrev pub offered : List Action → State → State → ℕ → ℕ → ℕ → FactNode → FactNode
offered acts base ws i k f n = if brings acts base ws k then brought (act acts k).add.words i k f n else n

-- layer i is made by the first n actions
unfoldable pub joined : List Action → State → ℕ → ℕ → ℕ → FactNode → FactNode
joined acts base i zero f n = n
joined acts base i (suc k) f n = offered acts base (grown acts base k) i k f (joined acts base i k f n)
