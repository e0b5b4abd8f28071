-- The account of a session: what it keeps, and the first check that applies to a call.
use Rattle.std.specs.Prelude.{ℕ, Bool, true, false, ◌&&◌, List, [], ◌∷◌, Some, None, Option, ◌==◌}
use Rattle.std.specs.Option.{option_map}
use Rattle.facts.specs.Checks.{or_else, unless}
use Rattle.facts.specs.Words.{subset}
use Rattle.strips.specs.declared.problem.Task.{Task}
use Rattle.strips.specs.Semantics.{State}
use Rattle.engine.specs.Answers.{Answer, plan, none, spent, full}
use Rattle.engine.specs.Checks.{limits, refusal_number}
use Rattle.session.specs.declared.model.Call.{Call}
use Rattle.session.specs.declared.model.Call.TheVariants.{Correct, Aim, Plan, Issue, Report}
use Rattle.session.specs.declared.model.Order.{Order}
use Rattle.session.specs.declared.model.Phase.{Phase}
use Rattle.session.specs.declared.model.Phase.TheVariants as phase

-- nothing was planned since the last change, or what the last plan call answered is held: of a plan, the actions that remain
pub data Held : Type 0 where
  unasked : Held
  holds : Answer → Held

-- the told state and goals, what is held, and the action that is out
pub record Account : Type 0 where
  pub state : State
  pub goals : State
  pub held : Held
  pub out : Option ℕ

abbrev pub account_of : State → State → Held → Option ℕ → Account
account_of s g h o = record { state = s; goals = g; held = h; out = o }

-- no action is out
abbrev pub free : Option ℕ → Bool
free None = true
free (Some k) = false

-- the order is the one that session n has out
abbrev pub names : ℕ → Option ℕ → Order → Bool
names n None o = false
names n (Some k) o = n == o.session && k == o.action

abbrev pub remaining : Held → List ℕ
remaining unasked = []
remaining (holds (plan ks)) = ks
remaining (holds none) = []
remaining (holds spent) = []
remaining (holds full) = []

abbrev pub any : List ℕ → Bool
any [] = false
any (k ∷ ks) = true

-- the number of the first check that refuses the call, in their order; nothing where all pass
abbrev pub ruling : Task → ℕ → Account → Call → Option ℕ
ruling t n a (Correct s) = or_else (unless (free a.out) 20) (unless (subset s.words t.facts.words) 6)
ruling t n a (Aim g) = or_else (unless (free a.out) 20) (unless (subset g.words t.facts.words) 6)
ruling t n a (Plan q) = or_else (unless (free a.out) 20) (option_map refusal_number (limits q.store q.frontier q.budgets.hill q.budgets.fallback))
ruling t n a Issue = or_else (unless (free a.out) 20) (unless (any (remaining a.held)) 22)
ruling t n a (Report o) = unless (names n a.out o) 21

-- the first of some actions
abbrev pub first : List ℕ → ℕ
first [] = 0
first (k ∷ ks) = k

-- the account that a session's fields stand for, by the actions that remain of its plan
abbrev pub held_as : Phase → List ℕ → Held
held_as phase.Unasked ks = unasked
held_as phase.Unsolvable ks = holds none
held_as phase.Spent ks = holds spent
held_as phase.Full ks = holds full
held_as phase.Ready ks = holds (plan ks)
held_as phase.Ordered ks = holds (plan ks)

abbrev pub out_as : Phase → ℕ → Option ℕ
out_as phase.Unasked k = None
out_as phase.Unsolvable k = None
out_as phase.Spent k = None
out_as phase.Full k = None
out_as phase.Ready k = None
out_as phase.Ordered k = Some k

abbrev pub kept : State → State → Phase → List ℕ → Account
kept s g f ks = account_of s g (held_as f ks) (out_as f (first ks))
