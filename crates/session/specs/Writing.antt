-- What writing the held plan answers and leaves in the buffer.
use Rattle.std.specs.Prelude.{◌≡◌, ℕ, ◌*◌, ◌<◌, ◌≤◌, List, ◌++◌, length, take, drop, Ok, Err, vec_items, Result, ◌≢◌}
use Rattle.strips.specs.declared.problem.Task.{Task}
use Rattle.planfile.specs.File.{actions_of, file, record_bytes}
use Rattle.planfile.specs.Reads.{ReadsGood}
use Rattle.engine.specs.Answers.{plan}
use Rattle.session.specs.Account.{Account, holds}
use Rattle.session.specs.declared.model.Refusal.{Refusal}
use Rattle.session.specs.declared.model.Refusal.TheVariants.{BufferTooShort, NothingToGive}

-- no plan is held; or its file does not fit; or the file stands in front of what stood behind it, and its bytes are answered
pub data Writes (t : Task) (a : Account) (before : List ℕ) : Result ℕ Refusal → List ℕ → Type 0 where
  no_plan : ((ks : List ℕ) → a.held ≢ holds (plan ks)) → Writes t a before (Err NothingToGive) before
  too_short : {ks : List ℕ} → a.held ≡ holds (plan ks) → length before < record_bytes * length ks → Writes t a before (Err BufferTooShort) before
  written : {ks : List ℕ} → a.held ≡ holds (plan ks) → record_bytes * length ks ≤ length before
      → Writes t a before (Ok (record_bytes * length ks)) (file (vec_items t.actions) a.state ks ++ drop (record_bytes * length ks) before)

-- the first n bytes are accepted by the reader for the told state and goals, and their list is the plan held
abbrev pub Accepted : Task → Account → ℕ → List ℕ → Type 0
Accepted t a n after =
    (ks : List ℕ) → a.held ≡ holds (plan ks) → ReadsGood (vec_items t.actions) a.state a.goals (take n after) × (actions_of (take n after) ≡ ks)
