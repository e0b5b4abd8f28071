-- First laws of runs, and what an accepted task file is.
use Rattle.std.specs.Prelude.{◌≡◌, ℕ, ◌+◌, ◌*◌, ◌/◌, ◌%◌, ◌<◌, ◌≤◌, true, List, ◌++◌, length, None, ◌==◌, slice_index}
use Rattle.facts.specs.Field.{field_bytes}
use Rattle.facts.specs.Words.{bit, has, subset}
use Rattle.strips.specs.Records.{action, action_count, field, most_records, record_bytes, task_fault}
use Rattle.strips.specs.Semantics.{Reaches, Run, State}
use Rattle.strips.specs.Sound.{AllWithin, is_clash_free, within}
use Rattle.strips.specs.declared.action.Action.{Action}

abbrev pub RunsJoin : Type 0
RunsJoin = (acts : List Action) (s t u : State) (ks ls : List ℕ) → Run acts s ks t → Run acts t ls u → Run acts s (ks ++ ls) u

-- a list leads from a state to one state at most
abbrev pub RunsAgree : Type 0
RunsAgree = (acts : List Action) (s t u : State) (ks : List ℕ) → Run acts s ks t → Run acts s ks u → t ≡ u

-- runs stay within the facts in use
abbrev pub RunsStay : Type 0
RunsStay = (facts : State) (acts : List Action) (s t : State) (ks : List ℕ) → AllWithin facts acts → subset s facts ≡ true → Run acts s ks t → subset t facts ≡ true

-- what a state reaches is where lists lead from it
abbrev pub ReachedByRun : Type 0
ReachedByRun = (acts : List Action) (s t : State) → Reaches acts s t → (ks : List ℕ) × Run acts s ks t

abbrev pub RunReaches : Type 0
RunReaches = (acts : List Action) (s t : State) (ks : List ℕ) → Run acts s ks t → Reaches acts s t

-- a task file: a whole number of records, from 1 to as many as a task may have, in which all sets lie within the facts in use and no action adds and deletes one fact
pub record TaskFile (bs : List ℕ) : Type 0 where
  pub some : 0 < length bs
  pub whole : length bs % record_bytes ≡ 0
  pub few : length bs / record_bytes ≤ most_records
  pub initial_in : subset (field bs 0 0) (field bs 0 2) ≡ true
  pub goal_in : subset (field bs 0 1) (field bs 0 2) ≡ true
  pub actions_in : (k : ℕ) → k < action_count bs → within (field bs 0 2) (action bs (k + 1)) ≡ true
  pub is_clash_free : (k : ℕ) → k < action_count bs → is_clash_free (action bs (k + 1)) ≡ true

abbrev pub FaultlessIsTask : Type 0
FaultlessIsTask = (bs : List ℕ) → task_fault bs ≡ None → TaskFile bs

abbrev pub TaskIsFaultless : Type 0
TaskIsFaultless = (bs : List ℕ) → TaskFile bs → task_fault bs ≡ None

-- fact f of a field is bit f % 8 of its byte f / 8
abbrev pub FieldBits : Type 0
FieldBits = (bs : List ℕ) (i j f : ℕ) → ((k : ℕ) → slice_index bs k < 256) → f < 256 → has (field bs i j) f ≡ (bit (slice_index bs (record_bytes * i + field_bytes * j + f / 8)) (f % 8) == 1)
