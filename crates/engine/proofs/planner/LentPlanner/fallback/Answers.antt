use Rattle.std.proofs.Common.{◌≡◌, ◌<◌, ◌∷◌, length, ap, subst, arith}
use Rattle.std.specs.List.Sorted.{IsPermutation}
use Rattle.engine.specs.BestFirst.{entry}
use Rattle.engine.proofs.Bests.{put_done, begun}
use Rattle.engine.proofs.planner.LentPlanner.fallback.Goals as goal

pub run-requires-clause-begun : goal.run-requires-clause-begun
run-requires-clause-begun g c =
    let w₀ = g.F.Frontier.waiting c.clear.new.self in
    let h = c.args.start.steps in
    let none-waits : length w₀ ≡ 0 = ap length c.clear.ensures.change in
    let lt : length w₀ < g.F.Frontier.room c.clear.new.self = omega (arith, c.clear.ensures.same, c.requires.places.0, c.requires.holds) in
    let waits = put_done (g.F.Frontier.room c.clear.new.self) w₀ (entry 0 h 0) c.put-put.result (g.F.Frontier.waiting c.put-put.new.self) lt c.put-put.ensures.change in
    rw c.requires.begun
    (begun _ _ c.args.start.state h _ _ c.requires.told c.requires.above c.fresh.ensures.rows
    (subst (λ w. IsPermutation (entry 0 h 0 ∷ w) (g.F.Frontier.waiting c.put-put.new.self)) c.clear.ensures.change waits))
