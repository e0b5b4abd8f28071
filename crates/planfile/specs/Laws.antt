-- Plan files and plans are the same thing.
use Rattle.std.specs.Prelude.{◌≡◌, ℕ, ◌%◌, List, length}
use Rattle.strips.specs.declared.action.Action.{Action}
use Rattle.strips.specs.Semantics.{State, IsPlan}
use Rattle.planfile.specs.File.{actions_of, file, record_bytes}
use Rattle.planfile.specs.Reads.{Answer, Reads, ReadsGood}

-- bytes are the file of some plan
abbrev pub PlanFile : List Action → State → State → List ℕ → Type 0
PlanFile acts s goal bs = (ks : List ℕ) × IsPlan acts s goal ks × (bs ≡ file acts s ks)

-- what is written for a list: where the list is a plan it reads back good and as the same list, and no other bytes read good as that list
pub record RoundTrip (acts : List Action) (s : State) (ks bs : List ℕ) : Type 0 where
  pub good : (goal : State) → IsPlan acts s goal ks → ReadsGood acts s goal bs
  pub same : actions_of bs ≡ ks
  pub only : (goal : State) (cs : List ℕ) → length cs % record_bytes ≡ 0 → ReadsGood acts s goal cs → actions_of cs ≡ ks → cs ≡ bs

-- no other answer is right
abbrev pub Only : List Action → State → State → List ℕ → Answer → Type 0
Only acts s goal bs x = (y : Answer) → Reads acts s goal bs y → y ≡ x

-- bytes have one answer
abbrev pub OneReading : Type 0
OneReading = (acts : List Action) (s goal : State) (bs : List ℕ) (x y : Answer) → Reads acts s goal bs x → Reads acts s goal bs y → x ≡ y
