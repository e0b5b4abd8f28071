-- What a call that passes its checks may make of a session.
use Rattle.std.specs.Prelude.{◌≡◌, ◌<◌, length, drop, vec_items}
use Rattle.strips.specs.Semantics.{State, result}
use Rattle.strips.specs.Sound.{act}
use Rattle.session.specs.Account.{first, kept}
use Rattle.session.specs.Histories.{Behind, Replied, answers, done, issue, moved}
use Rattle.session.specs.Standing.{account}
use Rattle.session.specs.declared.model.Call.{Call}
use Rattle.session.specs.declared.model.Call.TheVariants.{Correct, Aim, Plan, Issue, Report}
use Rattle.session.specs.declared.model.Order.{Order}
use Rattle.session.specs.declared.model.Phase.TheVariants as phase
use Rattle.session.specs.declared.session.Session.{Session}

-- the order of the first action that remains
abbrev pub next : Session → Order
next s = record { session = s.number; action = first s.plan }

-- by the call, what the session may become with a history behind it
abbrev pub Opens : Session → Call → Type 0
Opens s (Correct u) = ∥ Behind s.task.now s.number (kept u.words s.goals.words phase.Unasked s.plan) ∥₁
Opens s (Aim g) = ∥ Behind s.task.now s.number (kept s.state.words g.words phase.Unasked s.plan) ∥₁
Opens s (Plan q) = Unit {0}
Opens s Issue =
    (0 < length s.plan)
    × Replied s.task.now s.number (account s) (issue (answers (next s)))
    × (kept s.state.words s.goals.words phase.Ordered s.plan ≡ moved s.task.now (account s) (issue (answers (next s))))
    × ∥ Behind s.task.now s.number (kept s.state.words s.goals.words phase.Ordered s.plan) ∥₁
Opens s (Report o) =
    (0 < length s.plan)
    × (first s.plan < length (vec_items s.task.now.actions))
    × ((u : State) → u ≡ result (act (vec_items s.task.now.actions) (first s.plan)) s.state.words
    → kept u s.goals.words phase.Ready (drop 1 s.plan) ≡ moved s.task.now (account s) (done o (answers tt)))
    × ((u : State) → u ≡ result (act (vec_items s.task.now.actions) (first s.plan)) s.state.words
    → ∥ Behind s.task.now s.number (kept u s.goals.words phase.Ready (drop 1 s.plan)) ∥₁)
    × ∥ Behind s.task.now s.number (kept s.state.words s.goals.words phase.Unasked s.plan) ∥₁
