-- A session's fields and its account: the plan's first action, and what an accepted call says of them.
use Rattle.std.proofs.Common.{◌≡◌, ℕ, ◌<◌, true, false, ◌&&◌, ◌==◌, List, [], ◌∷◌, length, drop, Some, None, slice_get, vec_items, Option, sym, refl, ap, subst, arith, take_all}
use native.Mathlib.Bridge.{le_prop}
use mathlib.Core.Bool.{Bool-set}
use mathlib.Core.Logic.{∥∥₁_elim}
use Rattle.facts.specs.Checks.{unless}
use Rattle.facts.specs.Words.{subset}
use Rattle.strips.specs.declared.problem.Task.{Task}
use Rattle.strips.specs.Semantics.{State, result}
use Rattle.strips.specs.Sound.{act}
use Rattle.engine.specs.Answers.{plan, said}
use Rattle.engine.specs.declared.model.Verdict.{Verdict}
use Rattle.engine.specs.declared.model.Verdict.TheVariants as verdicts
use Rattle.session.specs.Account.{account_of, any, first, held_as, holds, kept, names, out_as, remaining, ruling}
use Rattle.session.specs.Histories.{Asking, Replied, answers, done, issue, moved, planned, refused, reply, rest, settled}
use Rattle.session.specs.Opening.{next}
use Rattle.session.specs.Standing.{account}
use Rattle.session.specs.Verdicts.{length_for, phase_for}
use Rattle.session.specs.declared.model.Call.{Call}
use Rattle.session.specs.declared.model.Call.TheVariants.{Report, Issue}
use Rattle.session.specs.declared.model.Order.{Order}
use Rattle.session.specs.declared.model.Phase.{Phase}
use Rattle.session.specs.declared.model.Phase.TheVariants as phase
use Rattle.session.specs.declared.session.Session.{Session}
use Rattle.session.proofs.Laws.{Fronts, Right, acts_of, behind_good, impossible}
use Rattle.session.proofs.Plans.{Leads}

pub first_of : (l : List ℕ) → 0 < length l → slice_get l 0 ≡ Some (first l)
first_of [] h = absurd (omega (arith, h))
first_of (k ∷ ks) h = refl

-- a list with an action left is its first action, and the rest
pub cons_first : (l : List ℕ) → 0 < length l → l ≡ first l ∷ drop 1 l
cons_first [] h = absurd (omega (arith, h))
cons_first (k ∷ ks) h = refl

fronts_front : (l : List ℕ) (k : ℕ) → Fronts (holds (plan l)) (Some k) → 0 < length l
fronts_front l k f = let e : l ≡ k ∷ f.0 = let g = f.1 in cc in omega (arith, ap length e)

-- while an order is out, the plan has an action left
pub ordered_front : (s : Session) → s.phase ≡ phase.Ordered → 0 < length s.plan
ordered_front s e =
    ∥∥₁_elim s.history le_prop (λ b.
    let o : Fronts (holds (plan s.plan)) (Some (first s.plan)) =
    subst (λ (q : Phase). Fronts (held_as q s.plan) (out_as q (first s.plan))) e (behind_good b).fronts
    in fronts_front s.plan (first s.plan) o)

-- the told state and goals lie within the facts in use
pub state_in : (s : Session) → subset s.state.words s.task.now.facts.words ≡ true
state_in s = ∥∥₁_elim s.history (Bool-set _ _) (λ b. (behind_good b).state_in)

pub goals_in : (s : Session) → subset s.goals.words s.task.now.facts.words ≡ true
goals_in s = ∥∥₁_elim s.history (Bool-set _ _) (λ b. (behind_good b).goals_in)

-- an accepted issue: a plan is held, nothing is out, and an action is left
some_left : (l : List ℕ) → answers tt ≡ settled (unless (any l) 22) → 0 < length l
some_left [] e = impossible e
some_left (k ∷ ks) e = omega arith

issue_ready' : (t : Task) (n : ℕ) (s g : State) (f : Phase) (l : List ℕ) → answers tt ≡ settled (ruling t n (kept s g f l) Issue) → (f ≡ phase.Ready) × (0 < length l)
issue_ready' t n s g phase.Unasked l e = impossible e
issue_ready' t n s g phase.Unsolvable l e = impossible e
issue_ready' t n s g phase.Spent l e = impossible e
issue_ready' t n s g phase.Full l e = impossible e
issue_ready' t n s g phase.Ready l e = (refl, some_left l e)
issue_ready' t n s g phase.Ordered l e = impossible e

pub issue_ready : (s : Session) → answers tt ≡ settled (ruling s.task.now s.number (account s) Issue) → (s.phase ≡ phase.Ready) × (0 < length s.plan)
issue_ready s = issue_ready' s.task.now s.number s.state.words s.goals.words s.phase s.plan

pub issue_moves : (s : Session) (o : Order) → s.phase ≡ phase.Ready → kept s.state.words s.goals.words phase.Ordered s.plan ≡ moved s.task.now (account s) (issue (answers o))
issue_moves s o e = subst (λ (f : Phase). kept s.state.words s.goals.words phase.Ordered s.plan ≡ moved s.task.now (kept s.state.words s.goals.words f s.plan) (issue (answers o))) (sym e) refl

pub issue_replies : (s : Session) → s.phase ≡ phase.Ready → 0 < length s.plan → Replied s.task.now s.number (account s) (issue (answers (next s)))
issue_replies s e h =
    subst (λ (f : Phase). answers (next s) ≡ reply (ruling s.task.now s.number (kept s.state.words s.goals.words f s.plan) Issue) (order s.number (first (remaining (held_as f s.plan))))) (sym e)
    (subst (λ (l : List ℕ). answers (order s.number (first l)) ≡ reply (unless (any l) 22) (order s.number (first l))) (sym (cons_first s.plan h)) refl)
  where
    order : ℕ → ℕ → Order
    order n k = record { session = n; action = k }

-- an accepted report: the order is out
ordered' : (n k : ℕ) (o : Order) (f : Phase) → answers tt ≡ settled (unless (names n (out_as f k) o) 21) → f ≡ phase.Ordered
ordered' n k o phase.Unasked e = impossible e
ordered' n k o phase.Unsolvable e = impossible e
ordered' n k o phase.Spent e = impossible e
ordered' n k o phase.Full e = impossible e
ordered' n k o phase.Ready e = impossible e
ordered' n k o phase.Ordered e = refl

pub ordered : (s : Session) (o : Order) → answers tt ≡ settled (unless (names s.number (out_as s.phase (first s.plan)) o) 21) → s.phase ≡ phase.Ordered
ordered s o = ordered' s.number (first s.plan) o s.phase

-- a slip that does not name the order that is out
pub misnamed : (s : Session) (q : Call) (o : Order) → s.phase ≡ phase.Ordered → q ≡ Report o → false ≡ (s.number == o.session && first s.plan == o.action) → refused 21 ≡ settled (ruling s.task.now s.number (account s) q)
misnamed s q o e d n =
    subst (λ (q : Call). refused 21 ≡ settled (ruling s.task.now s.number (account s) q)) (sym d)
    (subst (λ (f : Phase). refused 21 ≡ settled (unless (names s.number (out_as f (first s.plan)) o) 21)) (sym e) (ap (λ b. settled (unless b 21)) n))

-- the action that is out is one of the task's
pub ordered_action : (s : Session) → s.phase ≡ phase.Ordered → first s.plan < length (vec_items s.task.now.actions)
ordered_action s e =
    ∥∥₁_elim s.history le_prop (λ b.
    let w : Right (acts_of s.task.now) s.goals.words s.state.words (holds (plan s.plan)) =
    subst (λ (q : Phase). Right (acts_of s.task.now) s.goals.words s.state.words (held_as q s.plan)) e (behind_good b).right
    in
    let v = subst (Leads (acts_of s.task.now) s.goals.words s.state.words) (cons_first s.plan (ordered_front s e)) w in
    v.0)

pub done_moves : (s : Session) (o : Order) (u : State) → s.phase ≡ phase.Ordered → u ≡ result (act (vec_items s.task.now.actions) (first s.plan)) s.state.words
    → kept u s.goals.words phase.Ready (drop 1 s.plan) ≡ moved s.task.now (account s) (done o (answers tt))
done_moves s o u e d =
    subst (λ (f : Phase). kept u s.goals.words phase.Ready (drop 1 s.plan) ≡ moved s.task.now (kept s.state.words s.goals.words f s.plan) (done o (answers tt))) (sym e)
    (subst (λ (l : List ℕ). kept u s.goals.words phase.Ready (drop 1 l) ≡ account_of (result (act (acts_of s.task.now) (first l)) s.state.words) s.goals.words (rest (holds (plan l))) None) (sym (cons_first s.plan (ordered_front s e)))
    (ap (λ (v : State). kept v s.goals.words phase.Ready (drop 1 s.plan)) d))

pub passed_of : (r : Option ℕ) → answers tt ≡ settled r → r ≡ None
passed_of None e = refl
passed_of (Some n) e = impossible e

-- what is held after a verdict
planned_account : (s g : State) (v : Verdict) (l : List ℕ) → length l ≡ length_for v → kept s g (phase_for v) l ≡ account_of s g (holds (said v l)) None
planned_account s g (verdicts.Plan n) l e = ap (λ (m : List ℕ). account_of s g (holds (plan m)) None) (sym (take_all n l (omega arith)))
planned_account s g verdicts.None l e = refl
planned_account s g verdicts.Spent l e = refl
planned_account s g verdicts.Full l e = refl

kept_said : (s g : State) (v : Verdict) (f : Phase) (l : List ℕ) → f ≡ phase_for v → length l ≡ length_for v → kept s g f l ≡ account_of s g (holds (said v l)) None
kept_said s g v f l e d = subst (λ (f : Phase). kept s g f l ≡ account_of s g (holds (said v l)) None) (sym e) (planned_account s g v l d)

pub planned_moves : (s : Session) (q : Asking) (n m : ℕ) (v : Verdict) (f : Phase) (l : List ℕ) → f ≡ phase_for v → length l ≡ length_for v
    → kept s.state.words s.goals.words f l ≡ moved s.task.now (account s) (planned q (answers (record { answer = said v l; hill = n; fallback = m })))
planned_moves s q n m v f l e d = kept_said s.state.words s.goals.words v f l e d
