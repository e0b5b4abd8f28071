-- The promise at a session, out of the history that stands behind it.
use Rattle.std.proofs.Common.{◌≡◌, ℕ, List, subst}
use mathlib.Core.HLevel.{⊥_prop}
use mathlib.Core.Logic.{∥∥₁_elim}
use Rattle.engine.specs.Answers.{plan, none}
use Rattle.engine.specs.Generation.{posed}
use Rattle.engine.proofs.Decided.{answers_decided}
use Rattle.session.specs.Account.{holds}
use Rattle.session.specs.Promise.{Sound}
use Rattle.session.specs.Standing.{Stands, account}
use Rattle.session.specs.declared.session.Session.{Session}
use Rattle.session.proofs.Laws.{Right, acts_of, behind_good, sound}
use Rattle.session.proofs.Plans.{Leads, leads_plan, leads_prop, plan_leads}

-- that a list leads to the goals has one proof at most
module _ (s : Session) where
  pub leads_here : (ks : List ℕ) → (account s).held ≡ holds (plan ks) → Leads (acts_of s.task.now) s.goals.words s.state.words ks
  leads_here ks e = ∥∥₁_elim s.history (leads_prop _ _ _ ks) (λ b. subst (Right (acts_of s.task.now) s.goals.words s.state.words) e (behind_good b).right)

  none_here : (account s).held ≡ holds none → (ks : List ℕ) → Leads (acts_of s.task.now) s.goals.words s.state.words ks → ⊥
  none_here e ks h = ∥∥₁_elim s.history ⊥_prop (λ b. subst (Right (acts_of s.task.now) s.goals.words s.state.words) e (behind_good b).right ks h)

  sound_here : Sound s.task.now s.number (account s)
  sound_here =
      record {
        plan_runs = λ ks e. leads_plan (acts_of s.task.now) s.goals.words s.state.words ks (leads_here ks e);
        none_exists = λ e ks h. none_here e ks (plan_leads (acts_of s.task.now) s.goals.words s.state.words ks h);
        decides = λ q o m r most le le'. answers_decided (posed q.estimate q.prefers (acts_of s.task.now) s.goals.words q.limits.store) q.limits.budgets.hill q.limits.budgets.fallback s.state.words o.answer o.hill o.fallback m r.1.may most le le';
      }

  pub stands : Stands s
  stands = record { behind = s.history; every = sound; here = sound_here }
