use Rattle.session.proofs.Fields.{misnamed, ordered_front}
use Rattle.session.proofs.session.Session.check.Goals as goal

pub returns-in_default-Report : goal.returns-in_default-Report
returns-in_default-Report c =
    let s = c.args.self.now in
    let e = c.in-Ordered-Report.is-0 in
    let next = c.next_order.ensures.first (ordered_front s e) in
    record { ruled = misnamed s c.args.call.now c.in-Ordered-Report.order e c.in-Ordered-Report.is-1 (rw next at c.if-eq.ensures) }
