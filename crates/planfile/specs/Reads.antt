-- What reading a plan file answers.
use Rattle.std.specs.Prelude.{◌≡◌, ℕ, ◌*◌, ◌%◌, ◌<◌, true, false, ◌&&◌, List, length, take, Some, None, Ok, Err, Option, Result, ◌==◌, ◌≢◌, nat_le}
use Rattle.facts.specs.Checks.{or_else, unless}
use Rattle.facts.specs.Field.{bytes, field_bytes}
use Rattle.facts.specs.Words.{subset}
use Rattle.strips.specs.declared.action.Action.{Action}
use Rattle.strips.specs.Semantics.{State, Run, applicable, result}
use Rattle.strips.specs.Sound.{act}
use Rattle.planfile.specs.Blocked.{Blocked}
use Rattle.planfile.specs.File.{action_at, file, most_records, record_bytes, record_count, state_at}
use Rattle.planfile.specs.declared.answer.Fault.{Fault}
use Rattle.planfile.specs.declared.answer.Fault.TheVariants.{Refused, Bad}
use Rattle.planfile.specs.declared.answer.Flaw.{Flaw}
use Rattle.planfile.specs.declared.answer.Flaw.TheVariants.{NoSuchAction, PreconditionFalse, StateDiffers, GoalsFalse}
use Rattle.planfile.specs.declared.answer.Refusal.{Refusal}
use Rattle.planfile.specs.declared.answer.Refusal.TheVariants.{OutsideFacts, FileSize}

-- the first check that bytes, a start and a goal fail
unfoldable pub read_refusal : State → State → State → List ℕ → Option Refusal
read_refusal facts s goal bs =
    or_else (unless (length bs % record_bytes == 0 && nat_le (record_count bs) most_records) FileSize)
    (or_else (unless (subset s facts) OutsideFacts) (unless (subset goal facts) OutsideFacts))

-- the first i records are the file of a run from s to t
pub record Follows (acts : List Action) (s : State) (bs : List ℕ) (i : ℕ) (t : State) : Type 0 where
  pub ks : List ℕ
  pub run : Run acts s ks t
  pub long : length ks ≡ i
  pub bytes : take (record_bytes * i) bs ≡ file acts s ks

-- record i is that of an action that leads from t to u
pub record Right (acts : List Action) (bs : List ℕ) (i : ℕ) (t u : State) : Type 0 where
  pub exists : action_at bs i < length acts
  pub applies : applicable (act acts (action_at bs i)) t ≡ true
  pub leads : u ≡ result (act acts (action_at bs i)) t
  pub bytes : state_at bs i ≡ bytes field_bytes u

-- what is wrong with record i where the records before it lead to t
abbrev pub Flawed : List Action → List ℕ → ℕ → State → Flaw → Type 0
Flawed acts bs i t NoSuchAction = Blocked acts t (action_at bs i) NoSuchAction
Flawed acts bs i t PreconditionFalse = Blocked acts t (action_at bs i) PreconditionFalse
Flawed acts bs i t StateDiffers =
    (action_at bs i < length acts) × (applicable (act acts (action_at bs i)) t ≡ true) × (state_at bs i ≢ bytes field_bytes (result (act acts (action_at bs i)) t))
Flawed acts bs i t GoalsFalse = ⊥

abbrev pub Answer : Type 0
Answer = Result (Unit {0}) Fault

-- the refusal that an answer tells
abbrev pub refusal_in : Answer → Option Refusal
refusal_in (Ok u) = None
refusal_in (Err (Refused r)) = Some r
refusal_in (Err (Bad i f)) = None

-- the answer: all records are right and the goals are true at their end; or the first record that is wrong; or the goals are false
pub data Reads (acts : List Action) (s goal : State) (bs : List ℕ) : Answer → Type 0 where
  good : {t : State} → Follows acts s bs (record_count bs) t → subset goal t ≡ true → Reads acts s goal bs (Ok tt)
  bad : {i : ℕ} {t : State} {f : Flaw} → i < record_count bs → Follows acts s bs i t → Flawed acts bs i t f → Reads acts s goal bs (Err (Bad i f))
  goals_false : {t : State} → Follows acts s bs (record_count bs) t → subset goal t ≡ false → Reads acts s goal bs (Err (Bad (record_count bs) GoalsFalse))

-- the records and the end are right
abbrev pub ReadsGood : List Action → State → State → List ℕ → Type 0
ReadsGood acts s goal bs = Reads acts s goal bs (Ok tt)
