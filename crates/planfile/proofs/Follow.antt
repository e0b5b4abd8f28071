-- Lemmas on following a file record by record.
use Rattle.std.proofs.Common.{◌≡◌, ℕ, zero, suc, ◌+◌, ◌-◌, ◌*◌, ◌%◌, ◌<◌, ◌≤◌, true, false, List, [], ◌∷◌, ◌++◌, length, get_or, take, Ok, Err, OnOk, IsOk, is_ok, sym, refl, ap, ◌∙◌, ⊎_elim, arith, length-append, length-take, take_all, take-take, take_at, take-add}
use mathlib.Core.List.{append_cancel_left}
use Rattle.std.proofs.lemmas.List.{length_push, take_more}
use Rattle.std.proofs.lemmas.Bool.{both_ways, cases_lt}
use Rattle.facts.specs.Field.{bytes, field_bytes, part}
use Rattle.facts.specs.Words.{subset}
use Rattle.strips.specs.declared.action.Action.{Action}
use Rattle.strips.specs.Semantics.{State, Run, stop, step, result, applicable, IsPlan}
use Rattle.strips.specs.Sound.{act}
use Rattle.strips.proofs.Runs.{run_more, runs_agree}
use Rattle.planfile.specs.File.{action_at, actions_of, entry, file, record_bytes, record_count}
use Rattle.planfile.specs.Laws.{PlanFile, RoundTrip, OneReading}
use Rattle.planfile.specs.Reads.{Answer, Flawed, Follows, Right, Reads, ReadsGood, good, bad, goals_false}
use Rattle.planfile.specs.declared.answer.Flaw.{Flaw}
use Rattle.planfile.specs.declared.answer.Flaw.TheVariants.{NoSuchAction, PreconditionFalse, StateDiffers, GoalsFalse}
use Rattle.planfile.specs.declared.answer.Fault.TheVariants.{Bad}
use Rattle.planfile.proofs.Files.{entry_back, entry_is, file_actions, file_count, file_fixes, file_more, length_entry, length_file}

pub follows_none : (acts : List Action) (s : State) (bs : List ℕ) → Follows acts s bs 0 s
unfolding file
follows_none acts s bs = record { ks = []; run = stop; long = refl; bytes = refl }

-- one record more
pub follows_more : (acts : List Action) (s : State) (bs : List ℕ) (i : ℕ) (t u : State) → ((k : ℕ) → get_or bs k 0 < 256) → record_bytes * i + record_bytes ≤ length bs → Follows acts s bs i t → Right acts bs i t u → Follows acts s bs (i + 1) u
follows_more acts s bs i t u small l f r =
    let k : ℕ = action_at bs i in
    let e = entry_is bs (record_bytes * i) u l (small (record_bytes * i)) (small (record_bytes * i + 1)) r.bytes in
    let p : record_bytes * (i + 1) ≡ record_bytes * i + record_bytes = omega arith in
    record {
      ks = f.ks ++ k ∷ [];
      run = rw r.leads (run_more acts s t k f.ks f.run r.exists r.applies);
      long = length_push f.ks k ∙ ap (λ (n : ℕ). n + 1) f.long;
      bytes =
          ap (λ (n : ℕ). take n bs) p
          ∙ take-add (record_bytes * i) record_bytes bs
          ∙ ap (λ (xs : List ℕ). xs ++ part record_bytes bs (record_bytes * i)) f.bytes
          ∙ ap (λ (xs : List ℕ). file acts s f.ks ++ xs) (e ∙ ap (entry k) r.leads)
          ∙ sym (file_more acts s t f.ks k f.run);
    }

-- the last action of a run
run_last : (acts : List Action) (s : State) (ks : List ℕ) (k : ℕ) (u : State) → Run acts s (ks ++ k ∷ []) u → (t : State) × Run acts s ks t × (k < length acts) × (applicable (act acts k) t ≡ true) × (u ≡ result (act acts k) t)
run_last acts s [] k u (step l p stop) = (s, stop, l, p, refl)
run_last acts s (j ∷ js) k u (step l p r) =
    let before = run_last acts (result (act acts j) s) js k u r in
    (before.0, step l p before.1, before.2, before.3, before.4)

-- one record fewer: the last one is right
pub follows_last : (acts : List Action) (s : State) (bs : List ℕ) (i : ℕ) (u : State) → Follows acts s bs (i + 1) u → (t : State) × Follows acts s bs i t × Right acts bs i t u
follows_last acts s bs i u f =
    let k : ℕ = get_or f.ks i 0 in
    let js : List ℕ = take i f.ks in
    let n : length js ≡ i = length-take i f.ks ∙ omega (arith, f.long) in
    let split : f.ks ≡ js ++ k ∷ [] = sym (take_all (i + 1) f.ks (omega (arith, f.long))) ∙ take_more f.ks i 0 (omega (arith, f.long)) in
    let whole : Run acts s (js ++ k ∷ []) u = rw split at f.run in
    let last = run_last acts s js k u whole in
    let t : State = last.0 in
    let v : State = result (act acts k) t in
    let long : length (file acts s js) ≡ record_bytes * i = length_file acts s js ∙ ap (λ (m : ℕ). record_bytes * m) n in
    let e : take (record_bytes * (i + 1)) bs ≡ file acts s js ++ entry k v = f.bytes ∙ ap (file acts s) split ∙ file_more acts s t js k last.1 in
    let p : record_bytes * (i + 1) ≡ record_bytes * i + record_bytes = omega arith in
    let cut : take (record_bytes * i) bs ++ part record_bytes bs (record_bytes * i) ≡ file acts s js ++ entry k v =
    sym (take-add (record_bytes * i) record_bytes bs) ∙ ap (λ (m : ℕ). take m bs) (sym p) ∙ e in
    let front : take (record_bytes * i) bs ≡ file acts s js =
    sym (take-take (record_bytes * i) (record_bytes * (i + 1)) bs (omega arith)) ∙ ap (take (record_bytes * i)) e ∙ take_at (file acts s js) (entry k v) (record_bytes * i) long in
    let back : part record_bytes bs (record_bytes * i) ≡ entry k v =
    append_cancel_left (file acts s js) (part record_bytes bs (record_bytes * i)) (entry k v)
    (ap (λ (xs : List ℕ). xs ++ part record_bytes bs (record_bytes * i)) (sym front) ∙ cut) in
    let fits : record_bytes * i + record_bytes ≤ length bs =
    omega (arith, ap length e ∙ length-append (file acts s js) (entry k v), length_entry k v, long, length-take (record_bytes * (i + 1)) bs) in
    let there = entry_back bs i k v fits back in
    let same : k ≡ action_at bs i = sym there.0 in (
      t,
      record { ks = js; run = last.1; long = n; bytes = front },
      record {
        exists = rw there.0 last.2;
        applies = ap (λ (m : ℕ). applicable (act acts m) t) there.0 ∙ last.3;
        leads = last.4 ∙ ap (λ (m : ℕ). result (act acts m) t) same;
        bytes = there.1 ∙ ap (bytes field_bytes) (sym last.4);
      },
    )

-- where the records lead is fixed
follows_agree : (acts : List Action) (s : State) (bs : List ℕ) (i : ℕ) (t u : State) → Follows acts s bs i t → Follows acts s bs i u → t ≡ u
follows_agree acts s bs i t u f g =
    let same : f.ks ≡ g.ks = file_fixes acts s f.ks g.ks (f.long ∙ sym g.long) (sym f.bytes ∙ g.bytes) in
    let moved : Run acts s f.ks u = rw same g.run in
    runs_agree acts s t u f.ks f.run moved

-- the record before a place that was followed is right
followed : (acts : List Action) (s : State) (bs : List ℕ) (i d : ℕ) (u : State) → Follows acts s bs (i + 1 + d) u → (t v : State) × Follows acts s bs i t × Right acts bs i t v
followed acts s bs i zero u f =
    let last = follows_last acts s bs i u (let z : i + 1 + 0 ≡ i + 1 = omega arith in rw z at f) in
    (last.0, u, last.1, last.2)
followed acts s bs i (suc d) u f =
    let last = follows_last acts s bs (i + 1 + d) u (let z : i + 1 + suc d ≡ i + 1 + d + 1 = omega arith in rw z at f) in
    followed acts s bs i d last.0 last.1

right_flawed : (acts : List Action) (bs : List ℕ) (i : ℕ) (t u : State) (f : Flaw) → Right acts bs i t u → Flawed acts bs i t f → ⊥
right_flawed acts bs i t u NoSuchAction r h = let l = r.exists in omega arith
right_flawed acts bs i t u PreconditionFalse r h = both_ways _ h.1 r.applies
right_flawed acts bs i t u StateDiffers r h = h.2 (r.bytes ∙ ap (bytes field_bytes) r.leads)
right_flawed acts bs i t u GoalsFalse r h = h

-- no record after a flawed one is followed
no_further : (acts : List Action) (s : State) (bs : List ℕ) (i j : ℕ) (t u : State) (f : Flaw) → i < j → Follows acts s bs i t → Flawed acts bs i t f → Follows acts s bs j u → ⊥
no_further acts s bs i j t u f l before h after =
    let z : j ≡ i + 1 + (j - (i + 1)) = omega arith in
    let there = followed acts s bs i (j - (i + 1)) u (rw z at after) in
    let same : t ≡ there.0 = follows_agree acts s bs i t there.0 before there.2 in
    right_flawed acts bs i there.0 there.1 f there.3 (rw same at h)

flaws_agree : (acts : List Action) (bs : List ℕ) (i : ℕ) (t : State) (f g : Flaw) → Flawed acts bs i t f → Flawed acts bs i t g → f ≡ g
flaws_agree acts bs i t NoSuchAction NoSuchAction p q = refl
flaws_agree acts bs i t NoSuchAction PreconditionFalse p q = absurd (omega (arith, q.0))
flaws_agree acts bs i t NoSuchAction StateDiffers p q = absurd (omega (arith, q.0))
flaws_agree acts bs i t NoSuchAction GoalsFalse p q = absurd q
flaws_agree acts bs i t PreconditionFalse NoSuchAction p q = absurd (omega (arith, p.0))
flaws_agree acts bs i t PreconditionFalse PreconditionFalse p q = refl
flaws_agree acts bs i t PreconditionFalse StateDiffers p q = absurd (both_ways _ p.1 q.1)
flaws_agree acts bs i t PreconditionFalse GoalsFalse p q = absurd q
flaws_agree acts bs i t StateDiffers NoSuchAction p q = absurd (omega (arith, p.0))
flaws_agree acts bs i t StateDiffers PreconditionFalse p q = absurd (both_ways _ q.1 p.1)
flaws_agree acts bs i t StateDiffers StateDiffers p q = refl
flaws_agree acts bs i t StateDiffers GoalsFalse p q = absurd q
flaws_agree acts bs i t GoalsFalse g p q = absurd p

abbrev answered : ℕ → Flaw → Answer
answered i f = Err (Bad i f)

-- bytes have one answer
same_flaw : (acts : List Action) (s : State) (bs : List ℕ) (i j : ℕ) (t u : State) (f g : Flaw) → Follows acts s bs i t → Flawed acts bs i t f → Follows acts s bs j u → Flawed acts bs j u g → answered i f ≡ answered j g
same_flaw acts s bs i j t u f g a p b q =
    ⊎_elim
    (λ l. absurd (no_further acts s bs i j t u f l a p b))
    (λ l.
    ⊎_elim
    (λ m. absurd (no_further acts s bs j i u t g m b q a))
    (λ m.
    let e : i ≡ j = omega arith in
    let moved : Follows acts s bs i u = rw e b in
    let same : u ≡ t = follows_agree acts s bs i u t moved a in
    let there : Flawed acts bs i u g = rw e q in
    let h = flaws_agree acts bs i t f g p (rw same at there) in
    ap (λ (n : ℕ). answered n f) e ∙ ap (answered j) h)
    (cases_lt j i))
    (cases_lt i j)

goals_agree : (acts : List Action) (s goal : State) (bs : List ℕ) (n : ℕ) (t u : State) → Follows acts s bs n t → subset goal t ≡ true → Follows acts s bs n u → subset goal u ≡ false → ⊥
goals_agree acts s goal bs n t u a p b q = both_ways (subset goal u) q (ap (subset goal) (sym (follows_agree acts s bs n t u a b)) ∙ p)

pub one_reading : OneReading
one_reading acts s goal bs x y (good a p) (good b q) = refl
one_reading acts s goal bs x y (good {t = t} a p) (bad {i = i} {t = u} {f = f} l b q) = absurd (no_further acts s bs i (record_count bs) u t f l b q a)
one_reading acts s goal bs x y (good {t = t} a p) (goals_false {t = u} b q) = absurd (goals_agree acts s goal bs (record_count bs) t u a p b q)
one_reading acts s goal bs x y (bad {i = i} {t = t} {f = f} l a p) (good {t = u} b q) = absurd (no_further acts s bs i (record_count bs) t u f l a p b)
one_reading acts s goal bs x y (bad {i = i} {t = t} {f = f} l a p) (bad {i = j} {t = u} {f = g} m b q) = same_flaw acts s bs i j t u f g a p b q
one_reading acts s goal bs x y (bad {i = i} {t = t} {f = f} l a p) (goals_false {t = u} b q) = absurd (no_further acts s bs i (record_count bs) t u f l a p b)
one_reading acts s goal bs x y (goals_false {t = t} a p) (good {t = u} b q) = absurd (goals_agree acts s goal bs (record_count bs) u t b q a p)
one_reading acts s goal bs x y (goals_false {t = t} a p) (bad {i = i} {t = u} {f = f} l b q) = absurd (no_further acts s bs i (record_count bs) u t f l b q a)
one_reading acts s goal bs x y (goals_false a p) (goals_false b q) = refl

-- a good file is that of a plan
good_is_plan : (acts : List Action) (s goal : State) (bs : List ℕ) → length bs % record_bytes ≡ 0 → ReadsGood acts s goal bs → PlanFile acts s goal bs
good_is_plan acts s goal bs w (good {t = t} f g) =
    (f.ks, (t, f.run, g), sym (take_all (record_bytes * record_count bs) bs (omega arith)) ∙ f.bytes)

pub ok_is_plan : (acts : List Action) (s goal : State) (bs : List ℕ) (x : Answer) → length bs % record_bytes ≡ 0 → Reads acts s goal bs x → OnOk x (PlanFile acts s goal bs)
ok_is_plan acts s goal bs x w (good f g) = good_is_plan acts s goal bs w (good f g)
ok_is_plan acts s goal bs x w (bad l a p) = tt
ok_is_plan acts s goal bs x w (goals_false a p) = tt

-- the file of a plan is good
file_good : (acts : List Action) (s goal : State) (ks bs : List ℕ) → IsPlan acts s goal ks → bs ≡ file acts s ks → ReadsGood acts s goal bs
file_good acts s goal ks bs p e =
    let n : record_count bs ≡ length ks = ap record_count e ∙ file_count acts s ks in
    let l : length bs ≡ record_bytes * length ks = ap length e ∙ length_file acts s ks in
    good (record { ks = ks; run = p.1; long = sym n; bytes = take_all (record_bytes * record_count bs) bs (omega arith) ∙ e }) p.2

pub plan_is_ok : (acts : List Action) (s goal : State) (bs : List ℕ) (x : Answer) → Reads acts s goal bs x → PlanFile acts s goal bs → IsOk x
plan_is_ok acts s goal bs x r p = ap is_ok (one_reading acts s goal bs x (Ok tt) r (file_good acts s goal p.0 bs p.1 p.2))

-- what is written reads back
pub round_trip : (acts : List Action) (s : State) (ks bs : List ℕ) → bs ≡ file acts s ks → RoundTrip acts s ks bs
round_trip acts s ks bs e =
    record {
      good = λ goal p. file_good acts s goal ks bs p e;
      same = ap actions_of e ∙ file_actions acts s ks;
      only = λ goal cs w r h.
          let p = good_is_plan acts s goal cs w r in
          let same : p.0 ≡ ks = sym (file_actions acts s p.0) ∙ ap actions_of (sym p.2) ∙ h in
          p.2 ∙ ap (file acts s) same ∙ sym e;
    }
