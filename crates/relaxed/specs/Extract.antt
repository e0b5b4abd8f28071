-- Extraction of a relaxed plan from the layers.
use Rattle.std.specs.Prelude.{ℕ, zero, suc, ◌+◌, ◌-◌, if◌then◌else◌, not, ◌&&◌, List, [], length}
use Rattle.facts.specs.Words.{has, union, without}
use Rattle.strips.specs.declared.action.Action.{Action}
use Rattle.strips.specs.Semantics.{State}
use Rattle.strips.specs.Sound.{act}
use Rattle.relaxed.specs.Layers.{first, new_fact, new_action}

-- the lowest-numbered action of level i that adds fact f
abbrev pub adder : List Action → State → ℕ → ℕ → ℕ
adder acts s i f = first (λ k. new_action acts s i k && has (act acts k).add.words f) (length acts)

-- What extraction knows while it treats layer i + 1: the facts wanted so far, those marked true at i + 1 and at i, and how many actions it has selected.
pub record Marks : Type 0 where
  pub wanted : State
  pub here : State
  pub below : State
  pub count : ℕ

abbrev pub chosen : Action → Marks → Marks
chosen a m = record { wanted = union m.wanted (without a.pre.words m.below); here = union m.here a.add.words; below = union m.below a.add.words; count = m.count + 1 }

-- fact f at layer i + 1: where it is wanted, of this level, and not marked true here, an action that adds it is selected
abbrev pub visit : List Action → State → ℕ → ℕ → Marks → Marks
visit acts s i f m =
    if has m.wanted f && (new_fact acts s i f && not (has m.here f)) then chosen (act acts (adder acts s i f)) m else m

-- the first n facts at layer i + 1, in rising number
unfoldable pub pass : List Action → State → ℕ → ℕ → Marks → Marks
pass acts s i zero m = m
pass acts s i (suc n) m = visit acts s i n (pass acts s i n m)

-- one layer down
abbrev pub lower : Marks → Marks
lower m = record { wanted = m.wanted; here = m.below; below = []; count = m.count }

-- the first n layers from `top` down
unfoldable pub treated : List Action → State → State → ℕ → ℕ → Marks
treated acts s goal top zero = record { wanted = goal; here = []; below = []; count = 0 }
treated acts s goal top (suc n) = pass acts s (top - suc n) 256 (lower (treated acts s goal top n))

abbrev pub extracted : List Action → State → State → ℕ → Marks
extracted acts s goal top = treated acts s goal top top
