-- The file of a plan: a record for each action, with its number in two bytes, the low byte first, and the state after it.
use Rattle.std.specs.Prelude.{ℕ, ◌+◌, ◌*◌, ◌/◌, ◌%◌, List, [], ◌∷◌, ◌++◌, map, length, slice_index}
use Rattle.std.specs.List.{range_with_len}
use Rattle.std.specs.Simd.{first_chunks}
use Rattle.facts.specs.Field.{bytes, field_bytes, part}
use Rattle.strips.specs.declared.action.Action.{Action}
use Rattle.strips.specs.Semantics.{State, result}
use Rattle.strips.specs.Sound.{act}

abbrev pub record_bytes : ℕ
record_bytes = 2 + field_bytes

-- the records that a plan file may have
abbrev pub most_records : ℕ
most_records = 4095

-- the record of action k that leads to t
abbrev pub entry : ℕ → State → List ℕ
entry k t = k % 256 ∷ k / 256 ∷ bytes field_bytes t

-- the file of a list of actions from s on
unfoldable pub file : List Action → State → List ℕ → List ℕ
file acts s [] = []
file acts s (k ∷ ks) = entry k (result (act acts k) s) ++ file acts (result (act acts k) s) ks

-- how many records bytes have, the records, the action number of record i, the bytes of its state, and all action numbers
abbrev pub record_count : List ℕ → ℕ
record_count bs = length bs / record_bytes

abbrev pub records : List ℕ → List (List ℕ)
records bs = first_chunks record_bytes (record_count bs) bs

abbrev pub action_at : List ℕ → ℕ → ℕ
action_at bs i = slice_index bs (record_bytes * i) + 256 * slice_index bs (record_bytes * i + 1)

abbrev pub state_at : List ℕ → ℕ → List ℕ
state_at bs i = part field_bytes bs (record_bytes * i + 2)

abbrev pub actions_of : List ℕ → List ℕ
actions_of bs = map (action_at bs) (range_with_len 0 (record_count bs))
