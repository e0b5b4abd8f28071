use Rattle.std.proofs.Common.{rules}
use Rattle.session.specs.Histories.{Asking, answers, planned}
use Rattle.session.specs.Standing.{account}
use Rattle.session.proofs.Fields.{passed_of, planned_moves}
use Rattle.session.proofs.Laws.{extended}
use Rattle.session.proofs.Planning.{never_refused, ruled_at}
use Rattle.session.proofs.session.Session.plan_lent.Goals as goal

pub unreachable-requires : goal.unreachable-requires
unreachable-requires g c =
    let s = c.args.self.now in
    let l = c.limits.ensures in
    let first = c.in_default.ensures.first in
    never_refused s _ c.in_default.field-0 (ruled_at s.task.now s.number (account s) c.limits.result _ _ _ l.store l.frontier l.budgets c.in_ok-admit.ensures.ruled) (search rules)

pub invariant_of-self : goal.invariant_of-self
invariant_of-self g c =
    let s = c.args.self.now in
    let l = c.limits.ensures in
    let a = c.in-Ok.answer in
    let e = c.in-Ok.ensures in
    let q : Asking =
    record { estimate = g.E.Estimator.meaning; prefers = g.E.Estimator.prefers; limits = record { store = g.S.Store.room c.args.store.now; frontier = g.F.Frontier.room c.args.frontier.now; budgets = c.args.budgets } }
    in
    let ruled = ruled_at s.task.now s.number (account s) c.limits.result _ _ _ l.store l.frontier l.budgets c.in_ok-admit.ensures.ruled in
    record {
      history =
          extended (planned q (answers (record { answer = _; hill = a.1; fallback = a.2 })))
          (passed_of _ ruled, record { lawful = g.met.E.Estimator.kept; may = let may = e.may in search rules })
          (planned_moves s q a.1 a.2 a.0 c.from-self.result c.fill.new.self c.from-self.ensures e.held) s.history;
    }
