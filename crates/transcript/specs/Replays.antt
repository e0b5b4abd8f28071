-- The lines that carrying out a plan file gives.
use Rattle.std.specs.Prelude.{◌≡◌, ℕ, ◌+◌, List, [], ◌∷◌, ◌++◌, map, Some, None, Err}
use Rattle.std.specs.List.{range_with_len}
use Rattle.strips.specs.declared.action.Action.{Action}
use Rattle.strips.specs.declared.fault.Fault.{Fault}
use Rattle.strips.specs.Records.{actions, field, task_fault}
use Rattle.strips.specs.Semantics.{State}
use Rattle.planfile.specs.declared.answer.Flaw.{Flaw}
use Rattle.planfile.specs.declared.answer.Fault.TheVariants as faults
use Rattle.planfile.specs.declared.answer.Refusal.{Refusal}
use Rattle.planfile.specs.File.{action_at, most_records, record_count}
use Rattle.planfile.specs.Reads.{read_refusal, Reads, ReadsGood}
use Rattle.transcript.specs.declared.line.Line.{Line}
use Rattle.transcript.specs.declared.line.Line.TheVariants.{Task, Refused, Did, Plan, Bad}

-- a line for each record, and one for the end
abbrev pub most_lines : ℕ
most_lines = most_records + 1

-- the actions of the first n records, a line each
abbrev pub did : List ℕ → ℕ → List Line
did bs n = map (λ i. Did (action_at bs i)) (range_with_len 0 n)

-- the actions that the file carries out rightly, and how it ends
pub data Ends (facts : State) (acts : List Action) (s goal : State) (bs : List ℕ) : List Line → Line → Type 0 where
  file_refused : {r : Refusal} → read_refusal facts s goal bs ≡ Some r → Ends facts acts s goal bs [] (Refused r)
  whole : read_refusal facts s goal bs ≡ None → ReadsGood acts s goal bs → Ends facts acts s goal bs (did bs (record_count bs)) (Plan (record_count bs))
  flawed : {i : ℕ} {f : Flaw} → read_refusal facts s goal bs ≡ None → Reads acts s goal bs (Err (faults.Bad i f)) → Ends facts acts s goal bs (did bs i) (Bad i f)

-- all lines for a task file and a plan file
pub data Replays (task plan : List ℕ) : List Line → Type 0 where
  task_refused : {f : Fault} → task_fault task ≡ Some f → Replays task plan (Task f.cause f.«record» ∷ [])
  carried_out : {ls : List Line} {l : Line} → task_fault task ≡ None → Ends (field task 0 2) (actions task) (field task 0 0) (field task 0 1) plan ls l → Replays task plan (ls ++ l ∷ [])
