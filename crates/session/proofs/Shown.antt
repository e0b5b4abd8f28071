-- What the place where a session stands says of its account.
use Rattle.std.proofs.Common.{◌≡◌, ℕ, ◌<◌, List, length, drop, refl, ap}
use Rattle.strips.specs.Semantics.{State}
use Rattle.engine.specs.Answers.{plan}
use Rattle.session.specs.Account.{first, holds, kept}
use Rattle.session.specs.Standing.{Shows, account}
use Rattle.session.specs.declared.model.Phase.{Phase}
use Rattle.session.specs.declared.model.Phase.TheVariants as phase
use Rattle.session.specs.declared.session.Session.{Session}
use Rattle.session.proofs.Fields.{cons_first, ordered_front}

shown : (s g : State) (f : Phase) (l : List ℕ) → (f ≡ phase.Ordered → 0 < length l) → Shows f (kept s g f l)
shown s g phase.Unasked l h = (refl, refl)
shown s g phase.Unsolvable l h = (refl, refl)
shown s g phase.Spent l h = (refl, refl)
shown s g phase.Full l h = (refl, refl)
shown s g phase.Ready l h = ((l, refl), refl)
shown s g phase.Ordered l h = (first l, (drop 1 l, ap (λ ks. holds (plan ks)) (cons_first l (h refl))), refl)

pub shows : (s : Session) → Shows s.phase (account s)
shows s = shown s.state.words s.goals.words s.phase s.plan (ordered_front s)
