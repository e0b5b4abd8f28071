-- What holds of every task.
use Rattle.std.specs.Prelude.{◌≡◌, ℕ, ◌<◌, Bool, true, ◌&&◌, List, [], length, slice_index_or}
use Rattle.facts.specs.Words.{subset, common, none}
use Rattle.strips.specs.declared.action.Action.{Action}

abbrev pub most_actions : ℕ
most_actions = 512

-- action k; past the last, one that needs and changes nothing
abbrev pub act : List Action → ℕ → Action
act acts k = slice_index_or acts k (record { pre = record { words = [] }; add = record { words = [] }; del = record { words = [] } })

-- the sets of an action lie within the facts in use
unfoldable pub within : List ℕ → Action → Bool
within facts a = subset a.pre.words facts && (subset a.add.words facts && subset a.del.words facts)

-- the action deletes no fact that it adds
unfoldable pub is_clash_free : Action → Bool
is_clash_free a = none (common a.add.words a.del.words)

abbrev pub AllWithin : List ℕ → List Action → Type 0
AllWithin facts acts = (k : ℕ) → k < length acts → within facts (act acts k) ≡ true

abbrev pub AllClashFree : List Action → Type 0
AllClashFree acts = (k : ℕ) → k < length acts → is_clash_free (act acts k) ≡ true
