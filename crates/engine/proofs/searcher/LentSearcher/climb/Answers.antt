use Rattle.std.proofs.Common.{◌<◌, length, vec_items, sym, ap, ◌∙◌, arith}
use Rattle.engine.specs.HillClimbing.{start, more, over, stopped, barred}
use Rattle.engine.proofs.Gens.{handed_on}
use Rattle.engine.proofs.Hills.{tried_room, climb_all}
use Rattle.engine.proofs.searcher.LentSearcher.climb.Goals as goal

pub loop-k-init : goal.loop-k-init
loop-k-init g c = record { so_far = rw c.choose-liked.ensures.same start; same = ap g.S.Store.room c.choose-liked.ensures.same; lent = c.choose-liked.ensures.lent }

pub loop-k-preserved-then-not-is_wanted : goal.loop-k-preserved-then-not-is_wanted
loop-k-preserved-then-not-is_wanted g c =
    let inv = c.loop-k.invariant in
    let within : c.loop-k.k < length (vec_items c.args.problem.task.now.actions) = omega (arith, ap length c.actions-action-items.ensures.list) in
    record { so_far = more inv.so_far within (barred (sym (c.choose-liked.ensures.chosen c.loop-k.k) ∙ sym c.is_wanted.ensures ∙ c.if-not-is_wanted.true)); same = inv.same; lent = inv.lent }

pub loop-k-preserved : goal.loop-k-preserved
loop-k-preserved g c =
    let inv = c.loop-k.invariant in
    let e = c.in_ok-better.ensures in
    let tried = tried_room _ _ _ _ _ inv.same (e.change c.args.tries (sym (c.choose-liked.ensures.chosen c.loop-k.k) ∙ sym c.is_wanted.ensures ∙ c.if-not-is_wanted.false)) in
    let within : c.loop-k.k < length (vec_items c.args.problem.task.now.actions) = omega (arith, ap length c.actions-action-items.ensures.list) in
    record { so_far = more inv.so_far within (rw c.in_default.is at tried); same = e.same ∙ inv.same; lent = (e.lent.0 ∙ inv.lent.0, e.lent.1 ∙ inv.lent.1) }

pub returns-in_err-better : goal.returns-in_err-better
returns-in_err-better g c =
    let inv = c.loop-k.invariant in
    let e = c.in_err-better.ensures in
    let tried = tried_room _ _ _ _ _ inv.same (e.change c.args.tries (sym (c.choose-liked.ensures.chosen c.loop-k.k) ∙ sym c.is_wanted.ensures ∙ c.if-not-is_wanted.false)) in
    let within : c.loop-k.k < length (vec_items c.args.problem.task.now.actions) = omega (arith, ap length c.actions-action-items.ensures.list) in
    record { change = rw (handed_on c.from_residual.result _ c.from_residual.ensures.1) (stopped inv.so_far within tried tt); same = e.same ∙ inv.same; lent = (e.lent.0 ∙ inv.lent.0, e.lent.1 ∙ inv.lent.1) }

pub returns-in-Some : goal.returns-in-Some
returns-in-Some g c =
    let inv = c.loop-k.invariant in
    let e = c.in_ok-better.ensures in
    let tried = tried_room _ _ _ _ _ inv.same (e.change c.args.tries (sym (c.choose-liked.ensures.chosen c.loop-k.k) ∙ sym c.is_wanted.ensures ∙ c.if-not-is_wanted.false)) in
    let within : c.loop-k.k < length (vec_items c.args.problem.task.now.actions) = omega (arith, ap length c.actions-action-items.ensures.list) in
    record { change = stopped inv.so_far within (rw c.in-Some.is at tried) tt; same = e.same ∙ inv.same; lent = (e.lent.0 ∙ inv.lent.0, e.lent.1 ∙ inv.lent.1) }

pub returns : goal.returns
returns g c = record { change = over (climb_all _ _ _ _ _ _ _ _ c.loop-k.invariant.so_far (omega (arith, ap length c.actions-action-items.ensures.list))); same = c.loop-k.invariant.same; lent = c.loop-k.invariant.lent }
