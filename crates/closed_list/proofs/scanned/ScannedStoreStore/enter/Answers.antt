use Rattle.closed_list.proofs.LinkedRows.{absent_unfound, different_pushed}
use Rattle.closed_list.proofs.scanned.ScannedStoreStore.enter.Goals as goal

pub invariant_of-self : goal.invariant_of-self
invariant_of-self c =
    let new = absent_unfound _ _ _ c.if-is_some.ensures c.find.ensures.found in
    record { different = different_pushed _ _ _ _ _ c.args.self.now.different new c.push.ensures.change }
