-- Lemmas on carrying out a list of actions place by place.
use Rattle.std.proofs.Common.{◌≡◌, ℕ, zero, suc, ◌+◌, ◌*◌, ◌<◌, ◌≤◌, true, List, [], ◌∷◌, ◌++◌, length, get_or, take, drop, Ok, Err, Result, IsOk, IfErr, sym, refl, ap, ◌∙◌, append_assoc, arith, length-take, drop-drop, take_at, drop_at}
use borrow.Rule.Slice.PartMut.{put_mid}
use Rattle.std.proofs.lemmas.List.{take_more}
use Rattle.strips.specs.declared.action.Action.{Action}
use Rattle.strips.specs.Semantics.{State, Run, stop, step, applicable, result}
use Rattle.strips.specs.Sound.{act}
use Rattle.strips.proofs.Runs.{run_more}
use Rattle.std.proofs.lemmas.Bool.{both_ways}
use Rattle.facts.specs.Words.{subset}
use Rattle.planfile.specs.Blocked.{Blocked}
use Rattle.planfile.specs.File.{entry, file, most_records, record_bytes}
use Rattle.planfile.specs.Writes.{Names, Writes, stuck}
use Rattle.planfile.specs.declared.answer.Flaw.{Flaw}
use Rattle.planfile.specs.declared.answer.Flaw.TheVariants.{NoSuchAction, PreconditionFalse, StateDiffers, GoalsFalse}
use Rattle.planfile.specs.declared.answer.Fault.{Fault}
use Rattle.planfile.specs.declared.answer.Fault.TheVariants.{Refused, Bad}
use Rattle.planfile.proofs.Files.{file_more, length_file}

-- one place more of the list
pub run_further : (acts : List Action) (s t u : State) (ks : List ℕ) (i k : ℕ) → i < length ks → k ≡ get_or ks i 0 → Run acts s (take i ks) t → k < length acts → applicable (act acts k) t ≡ true → u ≡ result (act acts k) t → Run acts s (take (i + 1) ks) u
run_further acts s t u ks i k l e r lk p eu = rw (take_more ks i 0 l, ← e, eu) (run_more acts s t k (take i ks) r lk p)

-- each place of a run can be carried out where its turn comes
pub run_at : (acts : List Action) (s t u : State) (ks : List ℕ) (i : ℕ) → Run acts s ks t → Run acts s (take i ks) u → i < length ks → (get_or ks i 0 < length acts) × (applicable (act acts (get_or ks i 0)) u ≡ true)
run_at acts s t u [] i stop q l = absurd (omega arith)
run_at acts s t u (k ∷ ks) zero (step h p r) stop l = (h, p)
run_at acts s t u (k ∷ ks) (suc i) (step h p r) (step h' p' q) l = run_at acts (result (act acts k) s) t u ks i r q (omega arith)

-- one record more of the file, in front of what stood in the buffer
pub file_further : (acts : List Action) (s t u : State) (ks : List ℕ) (i k : ℕ) (now before : List ℕ) → i < length ks → k ≡ get_or ks i 0 → Run acts s (take i ks) t → u ≡ result (act acts k) t → now ≡ file acts s (take i ks) ++ drop (record_bytes * i) before → put_mid (record_bytes * i) record_bytes now (entry k u) ≡ file acts s (take (i + 1) ks) ++ drop (record_bytes * (i + 1)) before
file_further acts s t u ks i k now before l e r eu en =
    let js : List ℕ = take i ks in
    let front : List ℕ = file acts s js in
    let n : length front ≡ record_bytes * i = length_file acts s js ∙ ap (λ (m : ℕ). record_bytes * m) (length-take i ks ∙ omega arith) in
    let a : take (record_bytes * i) now ≡ front = ap (take (record_bytes * i)) en ∙ take_at front (drop (record_bytes * i) before) (record_bytes * i) n in
    let b : drop (record_bytes * i) now ≡ drop (record_bytes * i) before = ap (drop (record_bytes * i)) en ∙ drop_at front (drop (record_bytes * i) before) (record_bytes * i) n in
    let z : record_bytes * i + record_bytes ≡ record_bytes * (i + 1) = omega arith in
    let c : drop record_bytes (drop (record_bytes * i) now) ≡ drop (record_bytes * (i + 1)) before =
    ap (drop record_bytes) b ∙ drop-drop record_bytes (record_bytes * i) before ∙ ap (λ (m : ℕ). drop m before) z in
    let d : file acts s (take (i + 1) ks) ≡ front ++ entry k u =
    ap (file acts s) (take_more ks i 0 l) ∙ ap (λ (j : ℕ). file acts s (js ++ j ∷ [])) (sym e) ∙ file_more acts s t js k r ∙ ap (λ (v : State). front ++ entry k v) (sym eu) in
    let x : put_mid (record_bytes * i) record_bytes now (entry k u) ≡ front ++ (entry k u ++ drop (record_bytes * (i + 1)) before) = cc in
    x ∙ sym (append_assoc front (entry k u) (drop (record_bytes * (i + 1)) before)) ∙ ap (λ (xs : List ℕ). xs ++ drop (record_bytes * (i + 1)) before) (sym d)

-- an action that can be carried out is not blocked
not_blocked : (acts : List Action) (t : State) (k : ℕ) (f : Flaw) → k < length acts → applicable (act acts k) t ≡ true → Blocked acts t k f → ⊥
not_blocked acts t k NoSuchAction l p h = omega arith
not_blocked acts t k PreconditionFalse l p h = both_ways _ h.1 p
not_blocked acts t k StateDiffers l p h = h
not_blocked acts t k GoalsFalse l p h = h

pub step_is_ok : {X : Type 0} (acts : List Action) (t : State) (k : ℕ) (r : Result X Flaw) → k < length acts → applicable (act acts k) t ≡ true → IfErr r (Blocked acts t k) → IsOk r
step_is_ok acts t k (Ok x) l p h = refl
step_is_ok acts t k (Err f) l p h = absurd (not_blocked acts t k f l p h)

-- a list that stops is named as the answer
pub stuck_there : (facts : State) (acts : List Action) (s : State) (ks before : List ℕ) (e : Fault) → length ks ≤ most_records → subset s facts ≡ true → Names acts s ks e → Writes facts acts s ks before (Err e) before
stuck_there facts acts s ks before (Refused r) l p h = absurd h
stuck_there facts acts s ks before (Bad i f) l p h = stuck l p h
