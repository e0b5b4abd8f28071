use Rattle.std.proofs.Common.{◌≡◌, ◌-◌, vec_items}
use Rattle.closed_list.specs.Rows.{row}
use Rattle.engine.specs.Generation.{posed}
use Rattle.engine.specs.BestFirst.{Explored}
use Rattle.engine.proofs.planner.LentPlanner.run.Given as goal

abbrev pub invariant-loop-expansions : goal.invariant-loop-expansions
invariant-loop-expansions g l =
    record {
      so_far : Explored (posed g.E.Estimator.meaning g.E.Estimator.prefers (vec_items l.problem.task.now.actions) l.problem.goal.now.words (g.S.Store.room l.initial.self.searcher.store.now)) l.initial.expansions.budget (row (g.S.Store.rows l.initial.self.searcher.store.now) 0).state.words (g.S.Store.rows l.self.searcher.store.now) (g.F.Frontier.waiting l.self.frontier.now) l.expansions.count;
      store_room : g.S.Store.room l.self.searcher.store.now ≡ g.S.Store.room l.initial.self.searcher.store.now;
      frontier_room : g.F.Frontier.room l.self.frontier.now ≡ g.F.Frontier.room l.initial.self.frontier.now;
      lent : (l.self.searcher.estimator.ghost_name ≡ l.initial.self.searcher.estimator.ghost_name) × (l.self.searcher.store.ghost_name ≡ l.initial.self.searcher.store.ghost_name) × (l.self.frontier.ghost_name ≡ l.initial.self.frontier.ghost_name);
      budget : l.expansions.budget ≡ l.initial.expansions.budget;
    }

abbrev pub decreases-loop-expansions : goal.decreases-loop-expansions
decreases-loop-expansions g l = l.expansions.budget - l.expansions.count
