-- The held plan as a list, and as a file.
use Rattle.std.proofs.Common.{◌≡◌, ℕ, zero, suc, ◌<◌, ◌≤◌, Bool, true, false, ◌⊎◌, List, [], ◌∷◌, length, get_or, take, Ok, Err, Result, IfOk, MatchResult, sym, refl, ap, ◌∙◌, inl, inr, subst, arith}
use Rattle.std.specs.Result.{IsErrAnd}
use Rattle.facts.specs.Words.{subset}
use Rattle.strips.specs.declared.action.Action.{Action}
use Rattle.strips.specs.declared.problem.Task.{Task}
use Rattle.strips.specs.Semantics.{Run, State, applicable, result, step, stop}
use Rattle.strips.specs.Sound.{act}
use Rattle.planfile.specs.Blocked.{Blocked}
use Rattle.planfile.specs.File.{most_records}
use Rattle.planfile.specs.Laws.{RoundTrip}
use Rattle.planfile.specs.Writes as files
use Rattle.planfile.specs.Writes.{Stops, outside, stuck, too_long}
use Rattle.planfile.specs.declared.answer.Flaw.{Flaw}
use Rattle.planfile.specs.declared.answer.Flaw.TheVariants.{NoSuchAction, PreconditionFalse, StateDiffers, GoalsFalse}
use Rattle.planfile.specs.declared.answer.Fault.{Fault}
use Rattle.engine.specs.Answers.{plan}
use Rattle.session.specs.Account.{Account, held_as, holds}
use Rattle.session.specs.Writing.{Accepted, Writes, too_short, written}
use Rattle.session.specs.declared.model.Phase.{Phase}
use Rattle.session.specs.declared.model.Phase.TheVariants as phase
use Rattle.session.specs.declared.model.Refusal.{Refusal}
use Rattle.session.specs.declared.model.Refusal.TheVariants.{BufferTooShort}
use Rattle.session.proofs.Laws.{acts_of}
use Rattle.session.proofs.Plans.{Leads, leads_plan}

pub held_plan : (f : Phase) (l : List ℕ) → (f ≡ phase.Ready) ⊎ (f ≡ phase.Ordered) → held_as f l ≡ holds (plan l)
held_plan f l (inl e) = ap (λ (z : Phase). held_as z l) e
held_plan f l (inr e) = ap (λ (z : Phase). held_as z l) e

pub held_none : (f : Phase) (l ks : List ℕ) → (f ≡ phase.Ready → ⊥) → (f ≡ phase.Ordered → ⊥) → held_as f l ≡ holds (plan ks) → ⊥
held_none phase.Unasked l ks n m e = let z : ◌≡◌ {A = ℕ} 0 1 = cc in omega arith
held_none phase.Unsolvable l ks n m e = let z : ◌≡◌ {A = ℕ} 0 1 = cc in omega arith
held_none phase.Spent l ks n m e = let z : ◌≡◌ {A = ℕ} 0 1 = cc in omega arith
held_none phase.Full l ks n m e = let z : ◌≡◌ {A = ℕ} 0 1 = cc in omega arith
held_none phase.Ready l ks n m e = n refl
held_none phase.Ordered l ks n m e = m refl

not_both : (b : Bool) → b ≡ true → b ≡ false → ⊥
not_both b p n = let z : ◌≡◌ {A = ℕ} 0 1 = cc in omega arith

free_to_go : (acts : List Action) (s : State) (k : ℕ) (f : Flaw) → k < length acts → applicable (act acts k) s ≡ true → Blocked acts s k f → ⊥
free_to_go acts s k NoSuchAction l p b = omega (arith, b)
free_to_go acts s k PreconditionFalse l p b = not_both (applicable (act acts k) s) p b.1
free_to_go acts s k StateDiffers l p b = b
free_to_go acts s k GoalsFalse l p b = b

-- a plan does not stop on the way
goes_on : (acts : List Action) (g s at : State) (ks : List ℕ) (i : ℕ) (f : Flaw) → Leads acts g s ks → i < length ks → Run acts s (take i ks) at → Blocked acts at (get_or ks i 0) f → ⊥
goes_on acts g s at [] i f h l r b = omega arith
goes_on acts g s at (k ∷ ks) zero f h l stop b = free_to_go acts s k f h.0 h.1 b
goes_on acts g s at (k ∷ ks) (suc i) f h l (step _ _ r) b = goes_on acts g (result (act acts k) s) at ks i f h.2 (omega arith) r b

module _ (t : Task) (a : Account) (ks before : List ℕ) (e : a.held ≡ holds (plan ks)) where
  pub wrote : {n : ℕ} {after : List ℕ} → files.Writes t.facts.words (acts_of t) a.state ks before (Ok n) after → Writes t a before (Ok n) after
  wrote (files.Writes.written few i r fits) = written e fits

  pub refused_short : {x : Fault} {after : List ℕ} → Leads (acts_of t) a.goals a.state ks → subset a.state t.facts.words ≡ true → length ks ≤ most_records
      → files.Writes t.facts.words (acts_of t) a.state ks before (Err x) after → Writes t a before (Err BufferTooShort) after
  refused_short h i few (too_long m) = absurd (omega arith)
  refused_short h i few (outside m o) = absurd (not_both (subset a.state t.facts.words) i o)
  refused_short h i few (stuck {i = place} {f = f} m o st) = absurd (goes_on (acts_of t) a.goals a.state st.at ks place f h st.within st.before st.blocked)
  refused_short h i few (files.Writes.too_short m o r s) = too_short e s

  -- the writer's answer, whatever it refuses retold as a buffer that is too short
  pub retold : (Q : Fault → Refusal → Type 0) (after : List ℕ) (w : Result ℕ Fault) (r : Result ℕ Refusal) → MatchResult w (λ n. r ≡ Ok n) (λ x. IsErrAnd r (Q x))
      → ((x : Fault) (y : Refusal) → Q x y → y ≡ BufferTooShort) → Leads (acts_of t) a.goals a.state ks → subset a.state t.facts.words ≡ true → length ks ≤ most_records
      → files.Writes t.facts.words (acts_of t) a.state ks before w after → Writes t a before r after
  retold Q after (Ok n) r m q h i few x = subst (λ r. Writes t a before r after) (sym m) (wrote x)
  retold Q after (Err e) (Err y) m q h i few x = subst (λ y. Writes t a before (Err y) after) (sym (q e y m)) (refused_short h i few x)
  retold Q after (Err e) (Ok n) m q h i few x = absurd m

-- what follows from a number answered holds where the error is retold
pub if_retold : {A B : Type 0} (P R : ℕ → Type 0) (Q : A → B → Type 0) (w : Result ℕ A) (r : Result ℕ B) → MatchResult w (λ n. r ≡ Ok n) (λ x. IsErrAnd r (Q x)) → IfOk w R → ((n : ℕ) → R n → P n) → IfOk r P
if_retold P R Q (Ok n) r m h f = subst (λ r. IfOk r P) (sym m) (f n h)
if_retold P R Q (Err e) (Err y) m h f = tt
if_retold P R Q (Err e) (Ok n) m h f = absurd m

-- what was written for the plan held reads back as it
pub accepted : (t : Task) (a : Account) (n : ℕ) (after ks : List ℕ) → a.held ≡ holds (plan ks) → Leads (acts_of t) a.goals a.state ks → RoundTrip (acts_of t) a.state ks (take n after) → Accepted t a n after
accepted t a n after ks e h r ls d =
    let same : ks ≡ ls = let w = e in cc in
    (r.good a.goals (leads_plan (acts_of t) a.goals a.state ks h), r.same ∙ same)
