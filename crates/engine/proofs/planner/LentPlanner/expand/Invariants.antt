use Rattle.std.proofs.Common.{◌≡◌, ◌<◌, length, vec_items}
use Rattle.engine.specs.Generation.{posed}
use Rattle.engine.specs.BestFirst.{Expanding}
use Rattle.engine.proofs.planner.LentPlanner.expand.Given as goal

abbrev pub invariant-loop-k : goal.invariant-loop-k
invariant-loop-k g l =
    record {
      so_far : Expanding (posed g.E.Estimator.meaning g.E.Estimator.prefers (vec_items l.problem.task.now.actions) l.problem.goal.now.words (g.S.Store.room l.initial.self.searcher.store.now)) l.parent.number l.parent.row (g.S.Store.rows l.initial.self.searcher.store.now) (g.F.Frontier.waiting l.initial.self.frontier.now) l.k (g.S.Store.rows l.self.searcher.store.now) (g.F.Frontier.waiting l.self.frontier.now);
      store_room : g.S.Store.room l.self.searcher.store.now ≡ g.S.Store.room l.initial.self.searcher.store.now;
      frontier_room : g.F.Frontier.room l.self.frontier.now ≡ g.F.Frontier.room l.initial.self.frontier.now;
      lent : (l.self.searcher.estimator.ghost_name ≡ l.initial.self.searcher.estimator.ghost_name) × (l.self.searcher.store.ghost_name ≡ l.initial.self.searcher.store.ghost_name) × (l.self.frontier.ghost_name ≡ l.initial.self.frontier.ghost_name);
      fewer : length (g.F.Frontier.waiting l.self.frontier.now) < length (g.S.Store.rows l.self.searcher.store.now);
    }
