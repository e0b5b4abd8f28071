-- Lemmas that make an ending from what the code holds.
use Rattle.std.proofs.Common.{◌≡◌, ℕ, ◌≤◌, List, [], ◌∷◌, ◌++◌, map, length, take, Some, None, Err, sym, ap, ◌∙◌, arith, length-take, take_all}
use Rattle.std.proofs.lemmas.List.{get_or-map, get_or-take, length-map}
use Rattle.std.proofs.lemmas.List.FromFn.{fill_by_all}
use Rattle.strips.specs.declared.action.Action.{Action}
use Rattle.strips.specs.declared.fault.Fault.{Fault}
use Rattle.strips.specs.Records.{actions, field, task_fault}
use Rattle.strips.specs.Semantics.{State}
use Rattle.planfile.specs.declared.answer.Flaw.{Flaw}
use Rattle.planfile.specs.declared.answer.Fault.TheVariants as faults
use Rattle.planfile.specs.declared.answer.Refusal.{Refusal}
use Rattle.planfile.specs.File.{action_at, record_count, records}
use Rattle.planfile.specs.Reads.{Answer, read_refusal, Reads, ReadsGood, refusal_in}
use Rattle.planfile.proofs.Cuts.{number_there}
use Rattle.planfile.proofs.Sizes.{bad_within}
use Rattle.transcript.specs.declared.line.Line.{Line}
use Rattle.transcript.specs.declared.line.Line.TheVariants.{Task, Refused, Did, Plan, Bad}
use Rattle.transcript.specs.Replays.{did, Ends, file_refused, whole, flawed, Replays, task_refused, carried_out}

-- the lines of the first n records
pub did_of : (bs : List ℕ) (rs : List (List ℕ)) (n : ℕ) → rs ≡ records bs → length rs ≡ record_count bs → n ≤ record_count bs → map (λ r. Did (action_at r 0)) (take n rs) ≡ did bs n
did_of bs rs n e m l =
    let line : List ℕ → Line = λ r. Did (action_at r 0) in
    let long : length (take n rs) ≡ n = length-take n rs ∙ omega arith in
    fill_by_all (λ i. Did (action_at bs i)) (map line (take n rs)) n (line []) (length-map (take n rs) line ∙ long)
    (λ k h.
    get_or-map line (take n rs) k [] (line []) (omega arith)
    ∙ ap line (get_or-take n rs k [] h)
    ∙ ap (λ (a : ℕ). Did a) (number_there bs rs e k (omega arith)))

pub did_all : (bs : List ℕ) (rs : List (List ℕ)) → rs ≡ records bs → length rs ≡ record_count bs → map (λ r. Did (action_at r 0)) rs ≡ did bs (length rs)
did_all bs rs e m = ap (map (λ r. Did (action_at r 0))) (sym (take_all (length rs) rs (omega arith))) ∙ did_of bs rs (length rs) e m (omega arith)

-- what is known of the answer Bad
pub bad_known : (facts s goal : State) (acts : List Action) (bs : List ℕ) (x : Answer) (i : ℕ) (f : Flaw) → x ≡ Err (faults.Bad i f) → refusal_in x ≡ read_refusal facts s goal bs → (refusal_in x ≡ None → Reads acts s goal bs x) → (None ≡ read_refusal facts s goal bs) × Reads acts s goal bs (Err (faults.Bad i f)) × (i ≤ record_count bs)
bad_known facts s goal acts bs x i f e r d =
    let there = rw e at (d (ap refusal_in e)) in
    (rw e at r, there, bad_within acts s goal bs i f there)

module _ (facts : State) (acts : List Action) (s t goal aim : State) (bs : List ℕ) (es : s ≡ t) (eg : goal ≡ aim) where
  pub ends_refused : (r : Refusal) (ls : List Line) → Some r ≡ read_refusal facts s goal bs → ls ≡ [] → Ends facts acts t aim bs ls (Refused r)
  ends_refused r ls h el = rw (el, ← es, ← eg) (file_refused (sym h))

  pub ends_whole : (ls : List Line) (n : ℕ) → None ≡ read_refusal facts s goal bs → ReadsGood acts s goal bs → ls ≡ did bs n → n ≡ record_count bs → Ends facts acts t aim bs ls (Plan n)
  ends_whole ls n h r el en = rw (el, en, ← es, ← eg) (whole (sym h) r)

  pub ends_flawed : (ls : List Line) (i : ℕ) (f : Flaw) → None ≡ read_refusal facts s goal bs → Reads acts s goal bs (Err (faults.Bad i f)) → ls ≡ did bs i → Ends facts acts t aim bs ls (Bad i f)
  ends_flawed ls i f h r el = rw (el, ← es, ← eg) (flawed (sym h) r)

-- a list that begins empty
pub from_empty : {X : Type 0} {was now xs : List X} → was ≡ [] → now ≡ was ++ xs → now ≡ xs
from_empty e f = rw e at f

-- all lines
pub replayed : (task plan : List ℕ) (facts s goal : State) (acts : List Action) (ls lines : List Line) (l : Line) → None ≡ task_fault task → facts ≡ field task 0 2 → acts ≡ actions task → s ≡ field task 0 0 → goal ≡ field task 0 1 → Ends facts acts s goal plan ls l → lines ≡ ls ++ l ∷ [] → Replays task plan lines
replayed task plan facts s goal acts ls lines l n ef ea es eg e el = rw el (carried_out (sym n) (rw (ef, ea, es, eg) at e))

pub not_replayed : (task plan : List ℕ) (was lines : List Line) (f : Fault) → Some f ≡ task_fault task → was ≡ [] → lines ≡ was ++ Task f.cause f.«record» ∷ [] → Replays task plan lines
not_replayed task plan was lines f h ew el = rw (el, ew) (task_refused (sym h))
