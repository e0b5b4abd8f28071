use Rattle.session.proofs.session.Session.done.Goals as goal

pub invariant_of-self : goal.invariant_of-self
invariant_of-self c =
    let a = c.in_ok-close.ensures.opens in
    record { history = rw c.advance.ensures.rest (a.3 _ c.next_state-self.ensures.words) }
