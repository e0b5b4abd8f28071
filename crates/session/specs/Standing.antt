-- What a session stands for, and what its calls say.
use Rattle.std.specs.Prelude.{◌≡◌, ℕ, List, ◌∷◌, length, Some, None, Ok, Err, Result}
use Rattle.engine.specs.Answers.{full, none, plan, said, spent}
use Rattle.engine.specs.declared.model.Verdict.{Verdict}
use Rattle.engine.specs.declared.model.Verdict.TheVariants as verdicts
use Rattle.session.specs.Account.{Account, holds, kept, remaining, unasked}
use Rattle.session.specs.Histories.{Behind, Event, History, Outcome, Replied, Reply, after, aim, answers, correct, done, issue, moved, not_done, planned, refused}
use Rattle.session.specs.Numbers.{refusal_number}
use Rattle.session.specs.Promise.{HistoriesSound, Sound}
use Rattle.session.specs.declared.model.Order.{Order}
use Rattle.session.specs.declared.model.Phase.{Phase}
use Rattle.session.specs.declared.model.Phase.TheVariants as phase
use Rattle.session.specs.declared.model.Refusal.{Refusal}
use Rattle.session.specs.declared.session.Session.{Session}
use Rattle.session.specs.declared.session.Slip.{Slip}
use Rattle.session.specs.declared.session.Returned.{Returned}

-- the account that the session stands for
abbrev pub account : Session → Account
account s = kept s.state.words s.goals.words s.phase s.plan

-- the reply that a result stands for
abbrev pub plainly : {A : Type 0} → Result A Refusal → Reply (Unit {0})
plainly (Ok x) = answers tt
plainly (Err e) = refused (refusal_number e)

abbrev pub handed : Result Slip Refusal → Reply Order
handed (Ok p) = answers p.order
handed (Err e) = refused (refusal_number e)

abbrev pub reported : {A : Type 0} → Result A Returned → Reply (Unit {0})
reported (Ok x) = answers tt
reported (Err e) = refused (refusal_number e.refusal)

-- a refused slip comes back
abbrev pub Back : {A : Type 0} → Slip → Result A Returned → Type 0
Back p (Ok x) = Unit {0}
Back p (Err e) = e.slip ≡ p

-- the reply of a plan call, with the list that the session holds after it
abbrev pub outcome : Session → Result (Verdict × ℕ × ℕ) Refusal → Reply Outcome
outcome s (Ok v) = answers (record { answer = said v.0 s.plan; hill = v.1; fallback = v.2 })
outcome s (Err e) = refused (refusal_number e)

-- the length that a verdict names is that of the plan held
abbrev pub Counts : Verdict → Account → Type 0
Counts (verdicts.Plan n) a = n ≡ length (remaining a.held)
Counts verdicts.None a = Unit {0}
Counts verdicts.Spent a = Unit {0}
Counts verdicts.Full a = Unit {0}

abbrev pub IfRefused : {A : Type 0} → Reply A → Type 0 → Type 0
IfRefused (refused n) P = P
IfRefused (answers x) P = Unit {0}

abbrev pub Refuses : Event → Type 0 → Type 0
Refuses (correct s r) P = IfRefused r P
Refuses (aim g r) P = IfRefused r P
Refuses (planned q r) P = IfRefused r P
Refuses (issue r) P = IfRefused r P
Refuses (done p r) P = IfRefused r P
Refuses (not_done p r) P = IfRefused r P

-- one call: the event e leads from the session s to the session s'
pub record Called (s : Session) (e : Event) (s' : Session) : Type 0 where
  -- the reply is the account's, and the account after the call is the session's
  pub replies : Replied s.task.now s.number (account s) e
  pub moves : account s' ≡ moved s.task.now (account s) e
  -- any history behind s, with this call and its reply added, is behind s'
  pub continues : (es : List Event) → History s.task.now s.number es → after s.task.now es ≡ account s
      → History s.task.now s.number (e ∷ es) × (after s.task.now (e ∷ es) ≡ account s')
  pub same_task : s'.task ≡ s.task
  pub same_number : s'.number ≡ s.number
  -- a refused call leaves the session as it was
  pub unchanged : Refuses e (s' ≡ s)

-- behind the session there is a history whose account it holds; of every history the promise holds, and so it does here
pub record Stands (s : Session) : Type 0 where
  pub behind : ∥ Behind s.task.now s.number (account s) ∥₁
  pub every : HistoriesSound
  pub here : Sound s.task.now s.number (account s)

-- what the place where a session stands says of its account
abbrev pub Shows : Phase → Account → Type 0
Shows phase.Unasked a = (a.held ≡ unasked) × (a.out ≡ None)
Shows phase.Unsolvable a = (a.held ≡ holds none) × (a.out ≡ None)
Shows phase.Spent a = (a.held ≡ holds spent) × (a.out ≡ None)
Shows phase.Full a = (a.held ≡ holds full) × (a.out ≡ None)
Shows phase.Ready a = ((ks : List ℕ) × (a.held ≡ holds (plan ks))) × (a.out ≡ None)
Shows phase.Ordered a = (k : ℕ) × ((ks : List ℕ) × (a.held ≡ holds (plan (k ∷ ks)))) × (a.out ≡ Some k)
