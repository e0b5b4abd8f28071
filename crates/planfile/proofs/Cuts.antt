-- Lemmas on a file as a list of records.
use Rattle.std.proofs.Common.{◌≡◌, ℕ, ◌+◌, ◌*◌, ◌<◌, List, [], get_or, take, drop, ap, ◌∙◌, arith, drop-drop, take-take}
use Rattle.std.proofs.lemmas.List.{drop-take}
use Rattle.facts.specs.Field.{field_bytes, part}
use Rattle.strips.specs.declared.action.Action.{Action}
use Rattle.strips.specs.Semantics.{State}
use Rattle.strips.proofs.Split.{get_or-first_chunks}
use Rattle.planfile.specs.File.{action_at, record_bytes, record_count, records, state_at}
use Rattle.planfile.specs.Reads.{Flawed, Right}
use Rattle.planfile.specs.declared.answer.Flaw.{Flaw}
use Rattle.planfile.specs.declared.answer.Flaw.TheVariants.{NoSuchAction, PreconditionFalse, StateDiffers, GoalsFalse}
use Rattle.planfile.proofs.Files.{get_d_part}

number_cut : (bs : List ℕ) (i : ℕ) → action_at (part record_bytes bs (record_bytes * i)) 0 ≡ action_at bs i
number_cut bs i =
    let low = get_d_part record_bytes bs (record_bytes * i) 0 (omega arith) in
    let high = get_d_part record_bytes bs (record_bytes * i) 1 (omega arith) in
    let z : record_bytes * i + 0 ≡ record_bytes * i = omega arith in
    let e = low ∙ ap (λ (n : ℕ). get_or bs n 0) z in
    omega arith

state_cut : (bs : List ℕ) (i : ℕ) → state_at (part record_bytes bs (record_bytes * i)) 0 ≡ state_at bs i
state_cut bs i =
    ap (take field_bytes) (drop-take 2 field_bytes (drop (record_bytes * i) bs))
    ∙ take-take field_bytes field_bytes _ (omega arith)
    ∙ ap (take field_bytes) (drop-drop 2 (record_bytes * i) bs)

-- what is said of a record in a list says it of the file
module _ (bs : List ℕ) (rs : List (List ℕ)) (e : rs ≡ records bs) (i : ℕ) (l : i < record_count bs) where
  record_at : get_or rs i [] ≡ part record_bytes bs (record_bytes * i)
  record_at = ap (λ (xs : List (List ℕ)). get_or xs i []) e ∙ get_or-first_chunks record_bytes (record_count bs) i bs l

  pub number_there : action_at (get_or rs i []) 0 ≡ action_at bs i
  number_there = ap (λ (r : List ℕ). action_at r 0) record_at ∙ number_cut bs i

  state_there : state_at (get_or rs i []) 0 ≡ state_at bs i
  state_there = ap (λ (r : List ℕ). state_at r 0) record_at ∙ state_cut bs i

  pub right_there : (acts : List Action) (t u : State) → Right acts (get_or rs i []) 0 t u → Right acts bs i t u
  right_there acts t u r =
      let n = number_there in
      let s = state_there in
      record { exists = rw n at r.exists; applies = rw n at r.applies; leads = rw n at r.leads; bytes = rw s at r.bytes }

  pub flawed_there : (acts : List Action) (t : State) (f : Flaw) → Flawed acts (get_or rs i []) 0 t f → Flawed acts bs i t f
  flawed_there acts t NoSuchAction h = rw number_there at h
  flawed_there acts t PreconditionFalse h = rw number_there at h
  flawed_there acts t StateDiffers h = rw (number_there, state_there) at h
  flawed_there acts t GoalsFalse h = h
