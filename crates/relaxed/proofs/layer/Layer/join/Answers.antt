use Rattle.std.proofs.Common.{vec_items}
use Rattle.relaxed.proofs.Doing.{adds_in, done_grown, done_more}
use Rattle.relaxed.proofs.layer.Layer.join.Goals as goal

pub invariant_of-self-2 : goal.invariant_of-self-2
invariant_of-self-2 c =
    let acts = vec_items c.args.self.now.task.now.actions in
    record {
      are_done =
          done_more acts _ _ _ c.args.k 512 (done_grown acts _ _ _ _ c.union-self.ensures.words c.args.self.now.are_done)
          (adds_in acts c.args.k c.args.action.now _ _ c.requires.is c.union-self.ensures.words) c.insert-2.ensures.members;
    }
