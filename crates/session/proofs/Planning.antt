-- The plan call of a session: what its checks leave to the engine.
use Rattle.std.proofs.Common.{◌≡◌, ℕ, true, ◌&&◌, Some, None, Option, sym, ap, ◌∙◌, subst}
use Rattle.std.specs.Option.{option_map}
use Rattle.facts.specs.Checks.{or_else, unless}
use Rattle.facts.specs.Words.{subset}
use Rattle.strips.specs.declared.problem.Task.{Task}
use Rattle.strips.specs.Semantics.{State}
use Rattle.engine.specs.Checks.{limits, refusal, refusal_number}
use Rattle.engine.specs.declared.limits.Budgets.{Budgets}
use Rattle.engine.specs.declared.limits.Limits.{Limits}
use Rattle.engine.specs.declared.model.Refusal.{Refusal}
use Rattle.engine.specs.declared.model.Refusal.TheVariants.{OutsideFacts}
use Rattle.session.specs.Account.{Account, free, ruling}
use Rattle.session.specs.Histories.{answers, settled}
use Rattle.session.specs.Standing.{account}
use Rattle.session.specs.declared.model.Call.TheVariants.{Plan}
use Rattle.session.specs.declared.session.Session.{Session}
use Rattle.session.proofs.Fields.{goals_in, state_in}
use Rattle.session.proofs.Laws.{impossible}

-- the places that were asked for are those of the tables
pub ruled_at : (t : Task) (n : ℕ) (a : Account) (q : Limits) (st fr : ℕ) (b : Budgets) → q.store ≡ st → q.frontier ≡ fr → q.budgets ≡ b → answers tt ≡ settled (ruling t n a (Plan q))
    → answers tt ≡ settled (ruling t n a (Plan (record { store = st; frontier = fr; budgets = b })))
ruled_at t n a q st fr b d e f r =
    let free_and = λ (x : ℕ) (y : ℕ) (z : Budgets). answers tt ≡ settled (or_else (unless (free a.out) 20) (option_map refusal_number (limits x y z.hill z.fallback))) in
    subst (λ (z : Budgets). free_and st fr z) f (subst (λ (y : ℕ). free_and st y q.budgets) e (subst (λ (x : ℕ). free_and x q.frontier q.budgets) d r))

limits_pass : (o : Option ℕ) (l : Option Refusal) (e : Refusal) → answers tt ≡ settled (or_else (unless (free o) 20) (option_map refusal_number l)) → Some e ≡ l → ⊥
limits_pass (Some k) l e r d = impossible r
limits_pass None l e r d = impossible (r ∙ ap (λ (z : Option Refusal). settled (option_map refusal_number z)) (sym d))

-- of sets within the facts in use only the limits are checked
inside : (facts s goal : State) (st fr h f : ℕ) → subset s facts ≡ true → subset goal facts ≡ true → refusal facts s goal st fr h f ≡ limits st fr h f
unfolding refusal
inside facts s goal st fr h f e e' = ap (λ b. or_else (unless (b && subset goal facts) OutsideFacts) (limits st fr h f)) e ∙ ap (λ b. or_else (unless b OutsideFacts) (limits st fr h f)) e'

-- where the session's checks pass, the engine refuses nothing
pub never_refused : (s : Session) (q : Limits) (e : Refusal) → answers tt ≡ settled (ruling s.task.now s.number (account s) (Plan q))
    → Some e ≡ refusal s.task.now.facts.words s.state.words s.goals.words q.store q.frontier q.budgets.hill q.budgets.fallback → ⊥
never_refused s q e r d =
    limits_pass (account s).out (limits q.store q.frontier q.budgets.hill q.budgets.fallback) e r
    (d ∙ inside s.task.now.facts.words s.state.words s.goals.words q.store q.frontier q.budgets.hill q.budgets.fallback (state_in s) (goals_in s))
