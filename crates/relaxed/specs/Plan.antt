-- The relaxed plan estimate.
use Rattle.std.specs.Prelude.{ℕ, Bool, if◌then◌else◌, ◌&&◌, List, nat_lt}
use Rattle.facts.specs.Words.{common, subset, without}
use Rattle.strips.specs.declared.action.Action.{Action}
use Rattle.strips.specs.Semantics.{State}
use Rattle.heuristic.specs.declared.estimate.Estimate.{Estimate}
use Rattle.heuristic.specs.declared.estimate.Estimate.TheVariants.{Steps, Never}
use Rattle.heuristic.specs.Useful.{useful}
use Rattle.relaxed.specs.Layers.{layer, first}
use Rattle.relaxed.specs.Extract.{extracted}

-- the first layer that has all goals, and 257 where none has: layers grow by a fact until they repeat, so layer 256 has all that any has
unfoldable pub last : List Action → State → State → ℕ
last acts goal s = first (λ i. subset goal (layer acts s i)) 257

unfoldable pub relaxed_plan : List Action → State → State → Estimate
relaxed_plan acts goal s =
    let top : ℕ = last acts goal s in
    if nat_lt top 257 then Steps (extracted acts s goal top).count else Never

-- the facts wanted at level 1
abbrev pub first_wanted : List Action → State → State → ℕ → State
first_wanted acts goal s top = common (extracted acts s goal top).wanted (without (layer acts s 1) s)

-- helpful actions: the applicable ones that add a fact wanted at level 1
unfoldable pub helpful : List Action → State → State → ℕ → Bool
helpful acts goal s k =
    let top : ℕ = last acts goal s in
    nat_lt top 257 && useful acts s (first_wanted acts goal s top) k
