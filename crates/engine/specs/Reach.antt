-- How many states a state reaches.
use Rattle.std.specs.Prelude.{◌≡◌, ℕ, ◌<◌, ◌≤◌, true, List, [], length, slice_index_or}
use Rattle.strips.specs.declared.action.Action.{Action}
use Rattle.strips.specs.Semantics.{State, Reaches, applicable}
use Rattle.strips.specs.Sound.{act}

-- action k exists and is applicable in s
abbrev pub Can : List Action → ℕ → State → Type 0
Can acts k s = (k < length acts) × (applicable (act acts k) s ≡ true)

-- s reaches at most n states: every list of different states that it reaches has at most n members
abbrev pub AtMost : List Action → State → ℕ → Type 0
AtMost acts s n = (ts : List State) → ((j : ℕ) → j < length ts → Reaches acts s (slice_index_or ts j []))
    → ((i j : ℕ) → i < length ts → j < length ts → slice_index_or ts i [] ≡ slice_index_or ts j [] → i ≡ j) → length ts ≤ n
