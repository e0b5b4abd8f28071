-- The task that bytes describe, and the first fault of those that describe none.
-- A file is a run of records of three fields, each of them a set. Record 0 has the initial state, the goal and the facts in use;
-- each later record is an action, with its preconditions, adds and deletes.
use Rattle.std.specs.Prelude.{ℕ, zero, suc, ◌+◌, ◌-◌, ◌*◌, ◌/◌, ◌%◌, not, ◌&&◌, List, [], map, length, None, Option, ◌==◌, nat_le, slice_index_or}
use Rattle.std.specs.List.{range_with_len}
use Rattle.std.specs.Simd.{first_chunks}
use Rattle.facts.specs.Checks.{unless, or_else}
use Rattle.facts.specs.Field.{words, set_words, field_bytes}
use Rattle.facts.specs.Words.{subset}
use Rattle.strips.specs.Sound.{is_clash_free, most_actions}
use Rattle.strips.specs.declared.action.Action.{Action}
use Rattle.strips.specs.declared.fault.Fault.{Fault}
use Rattle.strips.specs.declared.fault.Cause.{Cause}
use Rattle.strips.specs.declared.fault.Cause.TheVariants.{Length, TooManyRecords, HeaderOutside, ActionOutside, AddsAndDeletes}

abbrev pub record_bytes : ℕ
record_bytes = 3 * field_bytes

abbrev pub most_records : ℕ
most_records = most_actions + 1

abbrev pub fault : Cause → ℕ → ℕ → Fault
fault c i j = record { cause = c; «record» = i; field = j }

-- field j of record i
unfoldable pub field : List ℕ → ℕ → ℕ → List ℕ
field bs i j = words set_words bs (record_bytes * i + field_bytes * j)

-- how many records follow the first
abbrev pub action_count : List ℕ → ℕ
action_count bs = length bs / record_bytes - 1

-- the action of record i
abbrev pub action : List ℕ → ℕ → Action
action bs i = record { pre = record { words = field bs i 0 }; add = record { words = field bs i 1 }; del = record { words = field bs i 2 } }

abbrev pub actions : List ℕ → List Action
actions bs = map (λ k. action bs (k + 1)) (range_with_len 0 (action_count bs))

-- the records, each as its bytes, and the action of one
abbrev pub records : List ℕ → List (List ℕ)
records bs = first_chunks record_bytes (length bs / record_bytes) bs

abbrev pub action_of : List ℕ → Action
action_of bs = action bs 0

-- the first fault of an action, where `facts` are the facts in use and the action stands in record i
unfoldable pub action_fault : Action → List ℕ → ℕ → Option Fault
action_fault a facts i =
    or_else (unless (subset a.pre.words facts) (fault ActionOutside i 0))
    (or_else (unless (subset a.add.words facts) (fault ActionOutside i 1))
    (or_else (unless (subset a.del.words facts) (fault ActionOutside i 2))
    (unless (is_clash_free a) (fault AddsAndDeletes i 3))))

-- the first fault of n checks
abbrev pub first_fault : (ℕ → Option Fault) → ℕ → Option Fault
first_fault check zero = None
first_fault check (suc n) = or_else (first_fault check n) (check n)

-- the first fault of the n records that follow the first
abbrev pub actions_fault : List ℕ → List ℕ → ℕ → Option Fault
actions_fault bs facts = first_fault (λ k. action_fault (action bs (k + 1)) facts (k + 1))

-- the same of records that are given one by one
abbrev pub records_fault : List (List ℕ) → List ℕ → ℕ → Option Fault
records_fault rs facts = first_fault (λ k. action_fault (action_of (slice_index_or rs k [])) facts (k + 1))

-- the first fault of the size of a file, and of its first record
unfoldable pub size_fault : List ℕ → Option Fault
size_fault bs =
    or_else (unless (not (length bs == 0) && length bs % record_bytes == 0) (fault Length 0 0))
    (unless (nat_le (length bs / record_bytes) most_records) (fault TooManyRecords 0 0))

unfoldable pub header_fault : List ℕ → Option Fault
header_fault bs =
    or_else (unless (subset (field bs 0 0) (field bs 0 2)) (fault HeaderOutside 0 0))
    (unless (subset (field bs 0 1) (field bs 0 2)) (fault HeaderOutside 0 1))

-- the first fault of a task file
unfoldable pub task_fault : List ℕ → Option Fault
task_fault bs = or_else (size_fault bs) (or_else (header_fault bs) (actions_fault bs (field bs 0 2) (action_count bs)))
