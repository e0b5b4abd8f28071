use Rattle.std.proofs.Common.{◌<◌, length, vec_items, ap, refl, ◌∙◌, arith}
use Rattle.engine.specs.BestFirst.{start, more}
use Rattle.engine.proofs.Bests.{expanding_all, one_fewer, one_room}
use Rattle.engine.proofs.Gens.{handed_on}
use Rattle.engine.proofs.planner.LentPlanner.expand.Goals as goal

pub loop-k-init : goal.loop-k-init
loop-k-init g c = record { so_far = start; store_room = refl; frontier_room = refl; lent = (refl, refl, refl); fewer = c.requires.fits }

pub loop-k-preserved : goal.loop-k-preserved
loop-k-preserved g c =
    let inv = c.loop-k.invariant in
    let e = c.in_ok-reached.ensures in
    let one = one_room _ _ _ _ _ inv.store_room e.change in
    let within : c.loop-k.k < length (vec_items c.args.problem.task.now.actions) = omega (arith, ap length c.actions-action-items.ensures.list) in
    record {
      so_far = more inv.so_far within (rw c.in_default.is at one);
      store_room = e.store_room ∙ inv.store_room;
      frontier_room = e.frontier_room ∙ inv.frontier_room;
      lent = (e.lent.0 ∙ inv.lent.0, e.lent.1 ∙ inv.lent.1, e.lent.2 ∙ inv.lent.2);
      fewer = one_fewer e.change inv.fewer;
    }

pub consider-requires-clause-fits : goal.consider-requires-clause-fits
consider-requires-clause-fits g c = c.loop-k.invariant.fewer

pub consider-requires-clause-holds : goal.consider-requires-clause-holds
consider-requires-clause-holds g c = omega (arith, c.requires.holds, c.loop-k.invariant.store_room, c.loop-k.invariant.frontier_room)

pub returns-in_err-reached : goal.returns-in_err-reached
returns-in_err-reached g c =
    let inv = c.loop-k.invariant in
    let e = c.in_err-reached.ensures in
    let within : c.loop-k.k < length (vec_items c.args.problem.task.now.actions) = omega (arith, ap length c.actions-action-items.ensures.list) in
    record {
      change = rw (handed_on c.from_residual.result _ c.from_residual.ensures.1) (record { k = c.loop-k.k; rows = _; w = _; within = within; before = inv.so_far; last = one_room _ _ _ _ _ inv.store_room e.change });
      store_room = e.store_room ∙ inv.store_room;
      frontier_room = e.frontier_room ∙ inv.frontier_room;
      lent = (e.lent.0 ∙ inv.lent.0, e.lent.1 ∙ inv.lent.1, e.lent.2 ∙ inv.lent.2);
    }

pub returns-in-Some : goal.returns-in-Some
returns-in-Some g c =
    let inv = c.loop-k.invariant in
    let e = c.in_ok-reached.ensures in
    let one = one_room _ _ _ _ _ inv.store_room e.change in
    let within : c.loop-k.k < length (vec_items c.args.problem.task.now.actions) = omega (arith, ap length c.actions-action-items.ensures.list) in
    record {
      change = record { k = c.loop-k.k; rows = _; w = _; within = within; before = inv.so_far; last = rw c.in-Some.is at one };
      store_room = e.store_room ∙ inv.store_room;
      frontier_room = e.frontier_room ∙ inv.frontier_room;
      lent = (e.lent.0 ∙ inv.lent.0, e.lent.1 ∙ inv.lent.1, e.lent.2 ∙ inv.lent.2);
    }

pub returns : goal.returns
returns g c =
    let inv = c.loop-k.invariant in
    record {
      change = expanding_all _ _ _ _ _ _ _ _ inv.so_far (omega (arith, ap length c.actions-action-items.ensures.list));
      store_room = inv.store_room;
      frontier_room = inv.frontier_room;
      lent = inv.lent;
    }
