use Rattle.std.proofs.Common.{vec_items, sym, ap, ◌∙◌, arith}
use Rattle.strips.specs.Sound.{act}
use Rattle.inspection.proofs.Moving.{moved}
use Rattle.inspection.proofs.moves.make_move.Goals as goal

pub returns : goal.returns
returns c =
    let item = c.in-Some-action.ensures.item in
    let same = c.from.ensures in
    let is = item.1 ∙ ap (act (vec_items c.args.task.now.actions)) same in
    moved _ _ _ _ _ _ (sym c.in-Some.ensures) (omega (arith, item.0)) is (sym c.if-not-is_applicable.ensures) cc
