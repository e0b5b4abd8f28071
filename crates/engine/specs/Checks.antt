-- The checks of a plan call, in their order, and the number of each refusal.
use Rattle.std.specs.Prelude.{ℕ, ◌<◌, ◌≤◌, not, ◌&&◌, Option, ◌==◌, nat_le}
use Rattle.facts.specs.Checks.{or_else, unless}
use Rattle.facts.specs.Words.{subset}
use Rattle.strips.specs.Semantics.{State}
use Rattle.engine.specs.declared.model.Refusal.{Refusal}
use Rattle.engine.specs.declared.model.Refusal.TheVariants.{OutsideFacts, StorePlaces, FrontierPlaces, Budget}

abbrev pub refusal_number : Refusal → ℕ
refusal_number OutsideFacts = 6
refusal_number StorePlaces = 7
refusal_number FrontierPlaces = 8
refusal_number Budget = 9

abbrev pub most_places : ℕ
most_places = 4096

-- as many places as a closed list may have
abbrev pub HasPlaces : ℕ → Type 0
HasPlaces n = (0 < n) × (n ≤ most_places)

abbrev pub most_budget : ℕ
most_budget = 1000000

-- the first check of the places and budgets that fails
unfoldable pub limits : ℕ → ℕ → ℕ → ℕ → Option Refusal
limits store frontier hill fallback =
    or_else (unless (not (store == 0) && nat_le store most_places) StorePlaces)
    (or_else (unless (nat_le store frontier) FrontierPlaces)
    (unless (nat_le hill most_budget && nat_le fallback most_budget) Budget))

-- the first check of a plan call that fails: state and goal within the facts in use come first
unfoldable pub refusal : State → State → State → ℕ → ℕ → ℕ → ℕ → Option Refusal
refusal facts s goal store frontier hill fallback =
    or_else (unless (subset s facts && subset goal facts) OutsideFacts) (limits store frontier hill fallback)
