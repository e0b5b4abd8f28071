use Rattle.std.proofs.Common.{length, Some, Ok, ap, ◌∙◌, arith}
use Rattle.engine.specs.Answers.{exhausted}
use Rattle.engine.proofs.Bests.{run_sound, sound_taken, turn_made, turn_sound, turn_found, turn_room, run_empty, spent_at, turned, full_at, found_at}
use Rattle.engine.proofs.Gens.{handed_on}
use Rattle.engine.proofs.planner.LentPlanner.run.Goals as goal

pub returns-in_err-count_one-clause-answer : goal.returns-in_err-count_one-clause-answer
returns-in_err-count_one-clause-answer g c =
    let inv = c.loop-expansions.invariant in
    rw (handed_on c.from_residual.result _ c.from_residual.ensures.1) (spent_at inv.so_far _ inv.budget _ (omega (arith, c.count.ensures.value, c.loop-expansions-test.true)) _ c.in_err-count_one.ensures.counts _)

pub unreachable-requires : goal.unreachable-requires
unreachable-requires g c = omega (arith, c.count.ensures.value, c.loop-expansions-test.true, ap length c.in_default.ensures.change.0)

pub unreachable-requires-in_default-row : goal.unreachable-requires-in_default-row
unreachable-requires-in_default-row g c =
    let k = sound_taken (run_sound c.loop-expansions.invariant.so_far) c.in-Some.ensures.change in
    omega (arith, k.there, c.in_default-row.ensures.found)

pub invariant_of-parent : goal.invariant_of-parent
invariant_of-parent g c =
    let inv = c.loop-expansions.invariant in
    let k = sound_taken (run_sound inv.so_far) c.in-Some.ensures.change in
    let few = g.met.S.Store.few c.loop-expansions.self.searcher.store.now in
    record { near = omega (arith, k.near, ap (λ r. r.distance) c.in-Some-row.ensures.found.1, few, inv.store_room, c.requires.places.1) }

pub expand-requires-clause-fits : goal.expand-requires-clause-fits
expand-requires-clause-fits g c = (sound_taken (run_sound c.loop-expansions.invariant.so_far) c.in-Some.ensures.change).fewer

pub returns-in_err-reached-clause-answer : goal.returns-in_err-reached-clause-answer
returns-in_err-reached-clause-answer g c =
    let inv = c.loop-expansions.invariant in
    let t = turn_room _ _ _ _ _ inv.store_room (turn_made _ _ _ _ _ _ _ _ _ c.in-Some.ensures.change c.in-Some-row.ensures.found.1 c.in_err-reached.ensures.change) in
    rw (handed_on c.from_residual-in_err-reached.result _ c.from_residual-in_err-reached.ensures.1) (full_at inv.so_far _ inv.budget _ c.in_ok-count_one.ensures.counts t)

pub write_path-requires-clause-there : goal.write_path-requires-clause-there
write_path-requires-clause-there g c =
    let t = turn_made _ _ _ _ _ _ _ _ _ c.in-Some.ensures.change c.in-Some-row.ensures.found.1 (rw c.in-Some-2.is at c.in_ok-reached.ensures.change) in
    (turn_found t).0

pub write_path-requires-clause-parents : goal.write_path-requires-clause-parents
write_path-requires-clause-parents g c =
    let inv = c.loop-expansions.invariant in
    let t = turn_room _ _ _ _ _ inv.store_room (turn_made _ _ _ _ _ _ (Ok (Some c.in-Some-2.reached)) _ (g.F.Frontier.waiting c.expand.new.self.frontier.now) c.in-Some.ensures.change c.in-Some-row.ensures.found.1 (rw c.in-Some-2.is at c.in_ok-reached.ensures.change)) in
    (turn_sound t (run_sound inv.so_far)).tree.parents

pub write_path-requires-clause-fits : goal.write_path-requires-clause-fits
write_path-requires-clause-fits g c =
    let inv = c.loop-expansions.invariant in
    let t = turn_room _ _ _ _ _ inv.store_room (turn_made _ _ _ _ _ _ _ _ _ c.in-Some.ensures.change c.in-Some-row.ensures.found.1 (rw c.in-Some-2.is at c.in_ok-reached.ensures.change)) in
    let there = (turn_found t).0 in
    let near = (turn_sound t (run_sound inv.so_far)).tree.near c.in-Some-2.reached there in
    let few = g.met.S.Store.few c.expand.new.self.searcher.store.now in
    omega (arith, near, there, few, c.in_ok-reached.ensures.store_room, inv.store_room, c.requires.places.1)

pub returns-in-Some-2-clause-answer : goal.returns-in-Some-2-clause-answer
returns-in-Some-2-clause-answer g c =
    let inv = c.loop-expansions.invariant in
    let t = turn_room _ _ _ _ _ inv.store_room (turn_made _ _ _ _ _ _ _ _ _ c.in-Some.ensures.change c.in-Some-row.ensures.found.1 (rw c.in-Some-2.is at c.in_ok-reached.ensures.change)) in
    found_at inv.so_far _ inv.budget _ c.in_ok-count_one.ensures.counts t _ c.write_path.ensures.path

pub returns-in-Some-2-clause-sized : goal.returns-in-Some-2-clause-sized
returns-in-Some-2-clause-sized g c =
    let inv = c.loop-expansions.invariant in
    let t = turn_room _ _ _ _ _ inv.store_room (turn_made _ _ _ _ _ _ _ _ _ c.in-Some.ensures.change c.in-Some-row.ensures.found.1 (rw c.in-Some-2.is at c.in_ok-reached.ensures.change)) in
    let there = (turn_found t).0 in
    let near = (turn_sound t (run_sound inv.so_far)).tree.near c.in-Some-2.reached there in
    let few = g.met.S.Store.few c.expand.new.self.searcher.store.now in
    omega (arith, c.write_path.ensures.far, near, there, few, c.in_ok-reached.ensures.store_room, inv.store_room, c.requires.places.1)

pub loop-expansions-preserved : goal.loop-expansions-preserved
loop-expansions-preserved g c =
    let inv = c.loop-expansions.invariant in
    let e = c.in_ok-reached.ensures in
    let t = turn_room _ _ _ _ _ inv.store_room (turn_made _ _ _ _ _ _ _ _ _ c.in-Some.ensures.change c.in-Some-row.ensures.found.1 (rw c.in_default-2.is at e.change)) in
    record {
      so_far = turned inv.so_far _ inv.budget _ c.in_ok-count_one.ensures.counts t;
      store_room = e.store_room ∙ inv.store_room;
      frontier_room = e.frontier_room ∙ c.in-Some.ensures.same ∙ inv.frontier_room;
      lent = (e.lent.0 ∙ inv.lent.0, e.lent.1 ∙ inv.lent.1, e.lent.2 ∙ inv.lent.2);
      budget = c.count_one.ensures.same ∙ inv.budget;
    }

pub returns-clause-answer : goal.returns-clause-answer
returns-clause-answer g c = exhausted (run_empty _ c.loop-expansions.invariant.so_far (omega (arith, c.count.ensures.value, c.loop-expansions-test.false)))
