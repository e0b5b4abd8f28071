-- Where the checks pass, the history goes on.
use Rattle.std.proofs.Common.{◌≡◌, Ok, Err, OnOk, Result, refl}
use Rattle.session.specs.Account.{ruling}
use Rattle.session.specs.Histories.{aim, answers, correct, done, issue, not_done, settled}
use Rattle.session.specs.Opening.{Opens, next}
use Rattle.session.specs.Standing.{account, plainly}
use Rattle.session.specs.declared.model.Call.{Call}
use Rattle.session.specs.declared.model.Call.TheVariants.{Correct, Aim, Plan, Issue, Report}
use Rattle.session.specs.declared.model.Refusal.{Refusal}
use Rattle.session.specs.declared.session.Session.{Session}
use Rattle.session.proofs.Fields.{done_moves, issue_moves, issue_ready, issue_replies, ordered, ordered_action, ordered_front}
use Rattle.session.proofs.Laws.{extended}

passing : (s : Session) (q : Call) → answers tt ≡ settled (ruling s.task.now s.number (account s) q) → Opens s q
passing s (Correct u) e = extended (correct u.words (answers tt)) e refl s.history
passing s (Aim g) e = extended (aim g.words (answers tt)) e refl s.history
passing s (Plan q) e = tt
passing s Issue e =
    let h = issue_ready s e in
    let r = issue_replies s h.0 h.1 in
    let m = issue_moves s (next s) h.0 in
    (h.1, r, m, extended (issue (answers (next s))) r m s.history)
passing s (Report o) e =
    let h = ordered s o e in
    (ordered_front s h, ordered_action s h, (λ u d. done_moves s o u h d), (λ u d. extended (done o (answers tt)) e (done_moves s o u h d) s.history), extended (not_done o (answers tt)) e refl s.history)

pub opens : {A : Type 0} (s : Session) (q : Call) (r : Result A Refusal) → plainly r ≡ settled (ruling s.task.now s.number (account s) q) → OnOk r (Opens s q)
opens s q (Ok x) e = passing s q e
opens s q (Err x) e = tt
