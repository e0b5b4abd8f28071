-- What every history keeps, and how a session's history grows by a call.
use Rattle.std.proofs.Common.{◌≡◌, ℕ, Bool, true, false, List, [], ◌∷◌, Some, None, vec_items, Option, sym, refl, ap, ◌∙◌, subst, arith}
use mathlib.Core.Logic.{∥∥₁_map}
use Rattle.facts.specs.Checks.{or_else, unless}
use Rattle.facts.specs.Words.{subset}
use Rattle.strips.specs.declared.action.Action.{Action}
use Rattle.strips.specs.declared.problem.Task.{Task}
use Rattle.strips.specs.Semantics.{State, result}
use Rattle.strips.specs.Sound.{act}
use Rattle.strips.proofs.Runs.{result_within}
use Rattle.heuristic.specs.Laws.{Asked}
use Rattle.engine.specs.Answers.{Answer, Excludes, Plans, plan, none, spent, full}
use Rattle.engine.specs.Generation.{posed}
use Rattle.engine.proofs.Right.{answers_none, answers_plans}
use Rattle.engine.proofs.Decided.{answers_decided}
use Rattle.session.specs.Account.{Account, Held, any, first, free, holds, names, remaining, unasked}
use Rattle.session.specs.Histories.{Asking, Behind, Event, History, May, Outcome, Replied, after, after_order, aim, answers, correct, done, issue, moved, not_done, planned, refused, reply, rest, settled}
use Rattle.session.specs.Promise.{HistoriesSound, Sound}
use Rattle.session.specs.declared.model.Order.{Order}
use Rattle.session.proofs.Plans.{Leads, leads_plan, plan_leads}

abbrev pub acts_of : Task → List Action
acts_of t = vec_items t.actions

-- what is held is right
abbrev pub Right : List Action → State → State → Held → Type 0
Right acts g s unasked = Unit {0}
Right acts g s (holds (plan ks)) = Leads acts g s ks
Right acts g s (holds none) = (ks : List ℕ) → Leads acts g s ks → ⊥
Right acts g s (holds spent) = Unit {0}
Right acts g s (holds full) = Unit {0}

-- an order out is the first action of the plan held
abbrev pub Fronts : Held → Option ℕ → Type 0
Fronts h None = Unit {0}
Fronts h (Some k) = (ks : List ℕ) × (h ≡ holds (plan (k ∷ ks)))

pub record Good (t : Task) (a : Account) : Type 0 where
  pub right : Right (acts_of t) a.goals a.state a.held
  pub fronts : Fronts a.held a.out
  pub state_in : subset a.state t.facts.words ≡ true
  pub goals_in : subset a.goals t.facts.words ≡ true

pub impossible : {A : Type 0} {x : A} {n : ℕ} {P : Type 0} → answers x ≡ refused n → P
impossible {A} {x} {n} e = let z : ◌≡◌ {A = ℕ} 0 1 = cc in absurd (omega arith)

-- a question to the estimator of a plan call
pub asked : (t : Task) (a : Account) → Good t a → Asked t.facts.words (acts_of t) a.goals a.state
asked t a g = record { few = omega (arith, t.wide); small = t.small; within = t.actions_within; goal_in = g.goals_in; state_in = g.state_in }

answer_right : (acts : List Action) (g s : State) (x : Answer) → Plans acts g s x → Excludes acts g s x → Right acts g s (holds x)
answer_right acts g s (plan ks) p n = plan_leads acts g s ks p
answer_right acts g s none p n = λ ks h. n ks (leads_plan acts g s ks h)
answer_right acts g s spent p n = tt
answer_right acts g s full p n = tt

may_right : (t : Task) (a : Account) (q : Asking) (o : Outcome) → Good t a → May t a q o → Right (acts_of t) a.goals a.state (holds o.answer)
may_right t a q o g m =
    answer_right (acts_of t) a.goals a.state o.answer
    (answers_plans q.estimate q.prefers m.lawful t.facts.words (acts_of t) a.goals q.limits.store q.limits.budgets.hill q.limits.budgets.fallback a.state o.answer o.hill o.fallback (asked t a g) m.may)
    (answers_none q.estimate q.prefers m.lawful t.facts.words (acts_of t) a.goals q.limits.store q.limits.budgets.hill q.limits.budgets.fallback a.state o.answer o.hill o.fallback (asked t a g) m.may)

passes : (b : Bool) → answers tt ≡ settled (unless b 6) → b ≡ true
passes true e = refl
passes false e = impossible e

-- an accepted set lies within the facts in use
set_in : (o : Option ℕ) (s f : State) → answers tt ≡ settled (or_else (unless (free o) 20) (unless (subset s f) 6)) → subset s f ≡ true
set_in None s f e = passes (subset s f) e
set_in (Some k) s f e = impossible e

issue_fronts : {A : Type 0} (h : Held) (o : Option ℕ) (p x : A) → answers p ≡ reply (or_else (unless (free o) 20) (unless (any (remaining h)) 22)) x → Fronts h (Some (first (remaining h)))
issue_fronts h (Some k) p x e = impossible e
issue_fronts unasked None p x e = impossible e
issue_fronts (holds (plan [])) None p x e = impossible e
issue_fronts (holds (plan (k ∷ ks))) None p x e = (ks, refl)
issue_fronts (holds none) None p x e = impossible e
issue_fronts (holds spent) None p x e = impossible e
issue_fronts (holds full) None p x e = impossible e

-- the first action of a plan is carried out
module _ (t : Task) (g s : State) (k : ℕ) (ks : List ℕ) where
  done_right : (h : Held) → h ≡ holds (plan (k ∷ ks)) → Right (acts_of t) g s h → Right (acts_of t) g (result (act (acts_of t) k) s) (rest h)
  done_right h e r = subst (λ (z : Held). Right (acts_of t) g s z → Right (acts_of t) g (result (act (acts_of t) k) s) (rest z)) (sym e) (λ q. q.2) r

  done_in : (h : Held) → h ≡ holds (plan (k ∷ ks)) → Right (acts_of t) g s h → subset s t.facts.words ≡ true → subset (result (act (acts_of t) k) s) t.facts.words ≡ true
  done_in h e r i =
      let lead = subst (Right (acts_of t) g s) e r in
      result_within t.facts.words (act (acts_of t) k) s (t.actions_within k lead.0) i

report_good : (t : Task) (n : ℕ) (s g : State) (h : Held) (o : Option ℕ) (q : Order) → answers tt ≡ settled (unless (names n o q) 21) → Right (acts_of t) g s h → Fronts h o → subset s t.facts.words ≡ true
    → Right (acts_of t) g (after_order t o s) (rest h) × (subset (after_order t o s) t.facts.words ≡ true)
report_good t n s g h None q e r f i = impossible e
report_good t n s g h (Some j) q e r f i = (done_right t g s j f.0 h f.1 r, done_in t g s j f.0 h f.1 r i)

pub good_next : (t : Task) (n : ℕ) (a : Account) (e : Event) → Good t a → Replied t n a e → Good t (moved t a e)
good_next t n a (correct s (refused m)) g r = g
good_next t n a (correct s (answers u)) g r = record { right = tt; fronts = tt; state_in = set_in a.out s t.facts.words r; goals_in = g.goals_in }
good_next t n a (aim s (refused m)) g r = g
good_next t n a (aim s (answers u)) g r = record { right = tt; fronts = tt; state_in = g.state_in; goals_in = set_in a.out s t.facts.words r }
good_next t n a (planned q (refused m)) g r = g
good_next t n a (planned q (answers o)) g r = record { right = may_right t a q o g r.1; fronts = tt; state_in = g.state_in; goals_in = g.goals_in }
good_next t n a (issue (refused m)) g r = g
good_next t n a (issue (answers p)) g r = record { right = g.right; fronts = issue_fronts a.held a.out p _ r; state_in = g.state_in; goals_in = g.goals_in }
good_next t n a (done p (refused m)) g r = g
good_next t n a (done p (answers u)) g r =
    let d = report_good t n a.state a.goals a.held a.out p r g.right g.fronts g.state_in in
    record { right = d.0; fronts = tt; state_in = d.1; goals_in = g.goals_in }
good_next t n a (not_done p (refused m)) g r = g
good_next t n a (not_done p (answers u)) g r = record { right = tt; fronts = tt; state_in = g.state_in; goals_in = g.goals_in }

pub good : (t : Task) (n : ℕ) (es : List Event) → History t n es → Good t (after t es)
good t n [] h = record { right = tt; fronts = tt; state_in = t.initial_within; goals_in = t.goal_within }
good t n (e ∷ es) h = good_next t n (after t es) e (good t n es h.0) h.1

-- what is right comes to the promise
pub good_sound : (t : Task) (n : ℕ) (a : Account) → Good t a → Sound t n a
good_sound t n a g =
    record {
      plan_runs = λ ks e. leads_plan (acts_of t) a.goals a.state ks (subst (Right (acts_of t) a.goals a.state) e g.right);
      none_exists = λ e ks h. subst (Right (acts_of t) a.goals a.state) e g.right ks (plan_leads (acts_of t) a.goals a.state ks h);
      decides = λ q o m r most le le'. answers_decided (posed q.estimate q.prefers (acts_of t) a.goals q.limits.store) q.limits.budgets.hill q.limits.budgets.fallback a.state o.answer o.hill o.fallback m r.1.may most le le';
    }

pub sound : HistoriesSound
sound t n es h = good_sound t n (after t es) (good t n es h)

pub behind_good : {t : Task} {n : ℕ} {a : Account} → Behind t n a → Good t a
behind_good {t} {n} {a} b = subst (Good t) b.2 (good t n b.0 b.1)

-- one call more
pub continued : (t : Task) (n : ℕ) (a a' : Account) (e : Event) → Replied t n a e → a' ≡ moved t a e
    → (es : List Event) → History t n es → after t es ≡ a → History t n (e ∷ es) × (after t (e ∷ es) ≡ a')
continued t n a a' e r m es h is = ((h, subst (λ (x : Account). Replied t n x e) (sym is) r), ap (λ (x : Account). moved t x e) is ∙ sym m)

pub extended : {t : Task} {n : ℕ} {a a' : Account} (e : Event) → Replied t n a e → a' ≡ moved t a e → ∥ Behind t n a ∥₁ → ∥ Behind t n a' ∥₁
extended {t} {n} {a} {a'} e r m h = ∥∥₁_map h (λ b. let c = continued t n a a' e r m b.0 b.1 b.2 in (e ∷ b.0, c.0, c.1))
