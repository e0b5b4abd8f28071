-- What writing a plan file answers and leaves in the buffer.
use Rattle.std.specs.Prelude.{◌≡◌, ℕ, ◌*◌, ◌<◌, ◌≤◌, true, false, List, ◌++◌, length, take, drop, Ok, Err, Result, slice_index}
use Rattle.facts.specs.Words.{subset}
use Rattle.strips.specs.declared.action.Action.{Action}
use Rattle.strips.specs.Semantics.{State, Run}
use Rattle.planfile.specs.Blocked.{Blocked}
use Rattle.planfile.specs.File.{file, most_records, record_bytes}
use Rattle.planfile.specs.declared.answer.Fault.{Fault}
use Rattle.planfile.specs.declared.answer.Fault.TheVariants.{Refused, Bad}
use Rattle.planfile.specs.declared.answer.Flaw.{Flaw}
use Rattle.planfile.specs.declared.answer.Refusal.TheVariants.{OutsideFacts, FileSize, BufferTooShort}

-- the list runs up to place i, and no further
pub record Stops (acts : List Action) (s : State) (ks : List ℕ) (i : ℕ) (f : Flaw) : Type 0 where
  pub within : i < length ks
  pub at : State
  pub before : Run acts s (take i ks) at
  pub blocked : Blocked acts at (slice_index ks i) f

-- the place at which a list stops is named, and nothing else
abbrev pub Names : List Action → State → List ℕ → Fault → Type 0
Names acts s ks (Refused r) = ⊥
Names acts s ks (Bad i f) = Stops acts s ks i f

-- the answer, and the buffer after it: the file in front of what stood behind it, or the buffer as it was
pub data Writes (facts : State) (acts : List Action) (s : State) (ks before : List ℕ) : Result ℕ Fault → List ℕ → Type 0 where
  too_long : most_records < length ks → Writes facts acts s ks before (Err (Refused FileSize)) before
  outside : length ks ≤ most_records → subset s facts ≡ false → Writes facts acts s ks before (Err (Refused OutsideFacts)) before
  stuck : {i : ℕ} {f : Flaw} → length ks ≤ most_records → subset s facts ≡ true → Stops acts s ks i f → Writes facts acts s ks before (Err (Bad i f)) before
  too_short : {t : State} → length ks ≤ most_records → subset s facts ≡ true → Run acts s ks t → length before < record_bytes * length ks → Writes facts acts s ks before (Err (Refused BufferTooShort)) before
  written : {t : State} → length ks ≤ most_records → subset s facts ≡ true → Run acts s ks t → record_bytes * length ks ≤ length before
      → Writes facts acts s ks before (Ok (record_bytes * length ks)) (file acts s ks ++ drop (record_bytes * length ks) before)
