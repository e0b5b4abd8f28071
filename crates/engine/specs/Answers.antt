-- What a plan call may answer, and what its answers say.
use Rattle.std.specs.Prelude.{◌≡◌, ℕ, ◌+◌, ◌<◌, ◌≤◌, List, [], length, take, drop, Some, None, Ok, Err}
use Rattle.strips.specs.declared.action.Action.{Action}
use Rattle.strips.specs.Semantics.{State, IsPlan}
use Rattle.closed_list.specs.declared.row.Row.{Row}
use Rattle.open_list.specs.declared.entry.Entry.{Entry}
use Rattle.heuristic.specs.declared.estimate.Estimate.TheVariants.{Steps, Never}
use Rattle.engine.specs.declared.model.StoreFull.{StoreFull}
use Rattle.engine.specs.declared.model.Verdict.{Verdict}
use Rattle.engine.specs.declared.model.Verdict.TheVariants as verdicts
use Rattle.engine.specs.Paths.{path}
use Rattle.engine.specs.Generation.{Setting}
use Rattle.engine.specs.BestFirst.{Explored, Turn}
use Rattle.engine.specs.HillClimbing.{Climbs, longest}

-- a plan with its list of actions; no plan exists; the budget is used; a result met a full closed list
pub data Answer : Type 0 where
  plan : List ℕ → Answer
  none : Answer
  spent : Answer
  full : Answer

-- the answers of the best-first phase, with its count of expansions: nothing waits, then the budget, then an expansion that ends it
pub data Searched (q : Setting) (budget : ℕ) (s : State) : Answer → ℕ → Type 0 where
  exhausted : {rows : List Row} {n : ℕ} → Explored q budget s rows [] n → Searched q budget s none n
  out_of_budget : {rows : List Row} {w : List Entry} {n : ℕ} → Explored q budget s rows w n → 0 < length w → n ≡ budget → Searched q budget s spent n
  met_full : {e : StoreFull} {rows rows' : List Row} {w w' : List Entry} {n : ℕ} → Explored q budget s rows w n → n < budget → Turn q rows w (Err e) rows' w' → Searched q budget s full (n + 1)
  found : {rows rows' : List Row} {w w' : List Entry} {n j : ℕ} → Explored q budget s rows w n → n < budget → Turn q rows w (Ok (Some j)) rows' w' → Searched q budget s (plan (path rows' j)) (n + 1)

-- the answers of a plan call from s, with its two counts of expansions
pub data MayAnswer (q : Setting) (hill fallback : ℕ) (s : State) : Answer → ℕ → ℕ → Type 0 where
  at_goal : q.est s ≡ Steps 0 → MayAnswer q hill fallback s (plan []) 0 0
  hopeless : q.est s ≡ Never → MayAnswer q hill fallback s none 0 0
  climbed : {h n : ℕ} {p : List ℕ} → q.est s ≡ Steps h → 0 < h → Climbs q hill s (Some p) n → MayAnswer q hill fallback s (plan p) n 0
  fell_back : {h n m : ℕ} {a : Answer} → q.est s ≡ Steps h → 0 < h → Climbs q hill s None n → Searched q fallback s a m → MayAnswer q hill fallback s a n m

-- a verdict with the list at the front of the buffer
abbrev pub said : Verdict → List ℕ → Answer
said (verdicts.Plan n) buffer = plan (take n buffer)
said verdicts.None buffer = none
said verdicts.Spent buffer = spent
said verdicts.Full buffer = full

-- a plan's list is one: it runs from s, every precondition true, and ends with all goals true
abbrev pub Plans : List Action → State → State → Answer → Type 0
Plans acts goal s (plan p) = IsPlan acts s goal p
Plans acts goal s none = Unit {0}
Plans acts goal s spent = Unit {0}
Plans acts goal s full = Unit {0}

-- none says that no list, of any length, is a plan
abbrev pub Excludes : List Action → State → State → Answer → Type 0
Excludes acts goal s (plan p) = Unit {0}
Excludes acts goal s none = (p : List ℕ) → IsPlan acts s goal p → ⊥
Excludes acts goal s spent = Unit {0}
Excludes acts goal s full = Unit {0}

-- the answer is plan or none
abbrev pub Decides : Answer → Type 0
Decides (plan p) = Unit {0}
Decides none = Unit {0}
Decides spent = ⊥
Decides full = ⊥

abbrev pub Short : Answer → Type 0
Short (plan p) = length p ≤ longest
Short none = Unit {0}
Short spent = Unit {0}
Short full = Unit {0}

-- the length that a verdict names is one that a list may have
abbrev pub Sized : Verdict → Type 0
Sized (verdicts.Plan n) = n ≤ longest
Sized verdicts.None = Unit {0}
Sized verdicts.Spent = Unit {0}
Sized verdicts.Full = Unit {0}

-- what the buffer holds past the plan stays; without a plan all of it does
abbrev pub Past : Verdict → List ℕ → List ℕ → Type 0
Past (verdicts.Plan n) before after = drop n after ≡ drop n before
Past verdicts.None before after = after ≡ before
Past verdicts.Spent before after = after ≡ before
Past verdicts.Full before after = after ≡ before
