-- Histories of calls with their replies, from the opening of a session on.
use Rattle.std.specs.Prelude.{◌≡◌, ℕ, Bool, List, [], ◌∷◌, Some, None, vec_items, Option}
use Rattle.strips.specs.declared.action.Action.{Action}
use Rattle.strips.specs.declared.problem.Task.{Task}
use Rattle.strips.specs.Semantics.{State, result}
use Rattle.strips.specs.Sound.{act}
use Rattle.heuristic.specs.Laws.{Laws}
use Rattle.heuristic.specs.declared.estimate.Estimate.{Estimate}
use Rattle.engine.specs.Answers.{Answer, MayAnswer, plan, none, spent, full}
use Rattle.engine.specs.Generation.{posed}
use Rattle.engine.specs.declared.limits.Limits.{Limits}
use Rattle.session.specs.Account.{Account, Held, account_of, first, holds, remaining, ruling, unasked}
use Rattle.session.specs.declared.model.Call.TheVariants.{Correct, Aim, Plan, Issue, Report}
use Rattle.session.specs.declared.model.Order.{Order}

-- a plan call: what its estimator means, the places of its tables, and its budgets
pub record Asking : Type 0 where
  pub estimate : List Action → State → State → Estimate
  pub prefers : List Action → State → State → ℕ → Bool
  pub limits : Limits

-- what a plan call answers, with the expansions of its two phases
pub record Outcome : Type 0 where
  pub answer : Answer
  pub hill : ℕ
  pub fallback : ℕ

-- a call is refused under a number, or answers
pub data Reply (A : Type 0) : Type 0 where
  refused : ℕ → Reply A
  answers : A → Reply A

-- what a call that would answer x replies under a ruling
abbrev pub reply : {A : Type 0} → Option ℕ → A → Reply A
reply None x = answers x
reply (Some n) x = refused n

-- the same for a call that answers nothing more
abbrev pub settled : Option ℕ → Reply (Unit {0})
settled r = reply r tt

-- a call with its arguments and its reply
pub data Event : Type 0 where
  correct : State → Reply (Unit {0}) → Event
  aim : State → Reply (Unit {0}) → Event
  planned : Asking → Reply Outcome → Event
  issue : Reply Order → Event
  done : Order → Reply (Unit {0}) → Event
  not_done : Order → Reply (Unit {0}) → Event

-- what is held without its first action
abbrev pub rest : Held → Held
rest unasked = unasked
rest (holds (plan [])) = holds (plan [])
rest (holds (plan (k ∷ ks))) = holds (plan ks)
rest (holds none) = holds none
rest (holds spent) = holds spent
rest (holds full) = holds full

-- the state after the action that is out
abbrev pub after_order : Task → Option ℕ → State → State
after_order t None s = s
after_order t (Some k) s = result (act (vec_items t.actions) k) s

abbrev pub opened : Task → Account
opened t = account_of t.initial.words t.goal.words unasked None

-- the account after a call: a refused one leaves it
abbrev pub moved : Task → Account → Event → Account
moved t a (correct s (refused n)) = a
moved t a (correct s (answers _)) = account_of s a.goals unasked None
moved t a (aim g (refused n)) = a
moved t a (aim g (answers _)) = account_of a.state g unasked None
moved t a (planned q (refused n)) = a
moved t a (planned q (answers o)) = account_of a.state a.goals (holds o.answer) None
moved t a (issue (refused n)) = a
moved t a (issue (answers p)) = account_of a.state a.goals a.held (Some (first (remaining a.held)))
moved t a (done p (refused n)) = a
moved t a (done p (answers _)) = account_of (after_order t a.out a.state) a.goals (rest a.held) None
moved t a (not_done p (refused n)) = a
moved t a (not_done p (answers _)) = account_of a.state a.goals unasked None

-- the answer is one that a plan call may give from the told state to the told goals, by an estimator that keeps its laws
pub record May (t : Task) (a : Account) (q : Asking) (o : Outcome) : Type 0 where
  pub lawful : Laws q.estimate q.prefers
  pub may : MayAnswer (posed q.estimate q.prefers (vec_items t.actions) a.goals q.limits.store) q.limits.budgets.hill q.limits.budgets.fallback a.state o.answer o.hill o.fallback

-- the reply is the account's; of an accepted plan call, one that such a call may give
abbrev pub Replied : Task → ℕ → Account → Event → Type 0
Replied t n a (correct s r) = r ≡ settled (ruling t n a (Correct (record { words = s })))
Replied t n a (aim g r) = r ≡ settled (ruling t n a (Aim (record { words = g })))
Replied t n a (planned q (refused m)) = ruling t n a (Plan q.limits) ≡ Some m
Replied t n a (planned q (answers o)) = (ruling t n a (Plan q.limits) ≡ None) × May t a q o
Replied t n a (issue r) = r ≡ reply (ruling t n a Issue) (record { session = n; action = first (remaining a.held) })
Replied t n a (done p r) = r ≡ settled (ruling t n a (Report p))
Replied t n a (not_done p r) = r ≡ settled (ruling t n a (Report p))

-- the account after a list of events, the newest first
abbrev pub after : Task → List Event → Account
after t [] = opened t
after t (e ∷ es) = moved t (after t es) e

-- the events, the newest first, are a history of session n from its opening on the task: every reply is as it has to be
abbrev pub History : Task → ℕ → List Event → Type 0
History t n [] = Unit {0}
History t n (e ∷ es) = History t n es × Replied t n (after t es) e

-- a history that ends in the account
abbrev pub Behind : Task → ℕ → Account → Type 0
Behind t n a = (es : List Event) × History t n es × (after t es ≡ a)
