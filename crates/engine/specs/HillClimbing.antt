-- The hill phase: stretches, each from a state to one with a lower estimate.
use Rattle.std.specs.Prelude.{◌≡◌, ℕ, ◌+◌, ◌<◌, ◌≤◌, Bool, true, false, List, [], ◌∷◌, ◌++◌, length, take, Some, None, Ok, Err, Option, Result, ◌≢◌}
use Rattle.strips.specs.Semantics.{State}
use Rattle.closed_list.specs.declared.row.Row.{Row}
use Rattle.facts.specs.declared.set.BitSet.{BitSet}
use Rattle.facts.specs.Words.{has}
use Rattle.engine.specs.declared.model.Better.{Better}
use Rattle.engine.specs.declared.model.Entered.{Entered}
use Rattle.engine.specs.declared.model.Halt.{Halt}
use Rattle.engine.specs.declared.model.Halt.TheVariants as halts
use Rattle.engine.specs.declared.model.StoreFull.{StoreFull}
use Rattle.engine.specs.declared.model.Tries.{Tries}
use Rattle.engine.specs.declared.model.Tries.TheVariants.{Preferred, All}
use Rattle.heuristic.specs.declared.estimate.Estimate.TheVariants.{Steps, Never}
use Rattle.closed_list.specs.Rows.{row}
use Rattle.engine.specs.Paths.{path}
use Rattle.engine.specs.Generation.{Setting, Generates, root}

-- whether action k is tried in state s: each is, or the preferred ones
abbrev pub is_tried : (State → ℕ → Bool) → Tries → State → ℕ → Bool
is_tried pref All s k = true
is_tried pref Preferred s k = pref s k

-- whether action k is in the set; without a set each is
abbrev pub wanted : Option (BitSet 8) → ℕ → Bool
wanted (Some set) k = has set.words k
wanted None k = true

-- action k of row i, whose record is r; the first result below `bound` ends the stretch
pub data Tried (q : Setting) (tries : Tries) (bound : ℕ) (i : ℕ) (r : Row) (k : ℕ) (rows : List Row) : Result (Option Better) StoreFull → List Row → Type 0 where
  barred : is_tried q.pref tries r.state.words k ≡ false → Tried q tries bound i r k rows (Ok None) rows
  passed : {rows' : List Row} → is_tried q.pref tries r.state.words k ≡ true → Generates q i r k rows (Ok None) rows' → Tried q tries bound i r k rows (Ok None) rows'
  full : {e : StoreFull} {rows' : List Row} → is_tried q.pref tries r.state.words k ≡ true → Generates q i r k rows (Err e) rows' → Tried q tries bound i r k rows (Err e) rows'
  never : {e : Entered} {rows' : List Row} → is_tried q.pref tries r.state.words k ≡ true → Generates q i r k rows (Ok (Some e)) rows' → e.estimate ≡ Never → Tried q tries bound i r k rows (Ok None) rows'
  worse : {e : Entered} {h : ℕ} {rows' : List Row} → is_tried q.pref tries r.state.words k ≡ true → Generates q i r k rows (Ok (Some e)) rows' → e.estimate ≡ Steps h → bound ≤ h → Tried q tries bound i r k rows (Ok None) rows'
  better : {e : Entered} {h : ℕ} {rows' : List Row} → is_tried q.pref tries r.state.words k ≡ true → Generates q i r k rows (Ok (Some e)) rows' → e.estimate ≡ Steps h → h < bound
      → Tried q tries bound i r k rows (Ok (Some (record { row = e.row; steps = h }))) rows'

-- the first k actions of row i, none of which ended the stretch
pub data Climb (q : Setting) (tries : Tries) (bound : ℕ) (i : ℕ) (r : Row) (rows₀ : List Row) : ℕ → List Row → Type 0 where
  start : Climb q tries bound i r rows₀ 0 rows₀
  more : {k : ℕ} {rows rows' : List Row} → Climb q tries bound i r rows₀ k rows → k < length q.acts → Tried q tries bound i r k rows (Ok None) rows' → Climb q tries bound i r rows₀ (k + 1) rows'

abbrev pub Stops : Result (Option Better) StoreFull → Type 0
Stops (Ok None) = ⊥
Stops (Ok (Some b)) = Unit {0}
Stops (Err e) = Unit {0}

-- the whole of row i, or up to the action that ended the stretch
pub data Tops (q : Setting) (tries : Tries) (bound : ℕ) (i : ℕ) (r : Row) (rows₀ : List Row) : Result (Option Better) StoreFull → List Row → Type 0 where
  over : {rows : List Row} → Climb q tries bound i r rows₀ (length q.acts) rows → Tops q tries bound i r rows₀ (Ok None) rows
  stopped : {k : ℕ} {rows rows' : List Row} {y : Result (Option Better) StoreFull} → Climb q tries bound i r rows₀ k rows → k < length q.acts → Tried q tries bound i r k rows y rows' → Stops y → Tops q tries bound i r rows₀ y rows'

-- a stretch from s, begun after n₀ expansions: rows 0 to i - 1 are taken up or skipped, with n expansions so far
pub data Stretch (q : Setting) (tries : Tries) (bound budget n₀ : ℕ) (s : State) : ℕ → List Row → ℕ → Type 0 where
  begin : Stretch q tries bound budget n₀ s 0 (root q s ∷ []) n₀
  skip : {i n : ℕ} {rows : List Row} → Stretch q tries bound budget n₀ s i rows n → i < length rows → (row rows i).estimate ≡ Never → Stretch q tries bound budget n₀ s (i + 1) rows n
  turn : {i n : ℕ} {rows rows' : List Row} → Stretch q tries bound budget n₀ s i rows n → i < length rows → ((row rows i).estimate ≢ Never) → n < budget → Tops q tries bound i (row rows i) rows (Ok None) rows'
      → Stretch q tries bound budget n₀ s (i + 1) rows' (n + 1)

-- how a stretch ends: no row is left, the budget is used before an expansion, a result met a full store, row j is better
pub data Ended (q : Setting) (tries : Tries) (bound budget n₀ : ℕ) (s : State) : Result (Option Better) Halt → List Row → ℕ → Type 0 where
  ran_out : {n : ℕ} {rows : List Row} → Stretch q tries bound budget n₀ s (length rows) rows n → Ended q tries bound budget n₀ s (Ok None) rows n
  spent : {i n : ℕ} {rows : List Row} → Stretch q tries bound budget n₀ s i rows n → i < length rows → ((row rows i).estimate ≢ Never) → n ≡ budget → Ended q tries bound budget n₀ s (Err halts.Spent) rows n
  met_full : {e : StoreFull} {i n : ℕ} {rows rows' : List Row} → Stretch q tries bound budget n₀ s i rows n → i < length rows → ((row rows i).estimate ≢ Never) → n < budget → Tops q tries bound i (row rows i) rows (Err e) rows'
      → Ended q tries bound budget n₀ s (Err halts.Full) rows' (n + 1)
  climbed : {b : Better} {i n : ℕ} {rows rows' : List Row} → Stretch q tries bound budget n₀ s i rows n → i < length rows → ((row rows i).estimate ≢ Never) → n < budget → Tops q tries bound i (row rows i) rows (Ok (Some b)) rows'
      → Ended q tries bound budget n₀ s (Ok (Some b)) rows' (n + 1)

abbrev pub Closes : Result (Option Better) Halt → Type 0
Closes (Ok None) = ⊥
Closes (Ok (Some b)) = Unit {0}
Closes (Err halt) = Unit {0}

-- a stretch with the preferred actions and, where its rows run out, once more with all
pub data Leg (q : Setting) (bound budget n₀ : ℕ) (s : State) : Result (Option Better) Halt → List Row → ℕ → Type 0 where
  once : {y : Result (Option Better) Halt} {rows : List Row} {n : ℕ} → Ended q Preferred bound budget n₀ s y rows n → Closes y → Leg q bound budget n₀ s y rows n
  again : {y : Result (Option Better) Halt} {rows rows' : List Row} {n n' : ℕ} → Ended q Preferred bound budget n₀ s (Ok None) rows n → Ended q All bound budget n s y rows' n' → Leg q bound budget n₀ s y rows' n'

-- the most actions of a plan
abbrev pub longest : ℕ
longest = 4095

-- after some stretches from s₀: the joined list, the state that it leads to with its estimate, and the count of expansions
pub data Hill (q : Setting) (budget : ℕ) (s₀ : State) : List ℕ → State → ℕ → ℕ → Type 0 where
  start : {h : ℕ} → q.est s₀ ≡ Steps h → Hill q budget s₀ [] s₀ h 0
  on : {p : List ℕ} {s : State} {h n n' : ℕ} {b : Better} {rows : List Row} → Hill q budget s₀ p s h n → 0 < h → Leg q h budget n s (Ok (Some b)) rows n' → length p + (row rows b.row).distance ≤ longest
      → Hill q budget s₀ (p ++ path rows b.row) (row rows b.row).state.words b.steps n'

abbrev pub Fails : Result (Option Better) Halt → Type 0
Fails (Ok None) = Unit {0}
Fails (Ok (Some b)) = ⊥
Fails (Err halt) = Unit {0}

-- how the phase ends, with its count of expansions: with a plan, or without a verdict
pub data Climbs (q : Setting) (budget : ℕ) (s₀ : State) : Option (List ℕ) → ℕ → Type 0 where
  done : {p : List ℕ} {s : State} {n : ℕ} → Hill q budget s₀ p s 0 n → Climbs q budget s₀ (Some p) n
  failed : {p : List ℕ} {s : State} {h n n' : ℕ} {y : Result (Option Better) Halt} {rows : List Row} → Hill q budget s₀ p s h n → 0 < h → Leg q h budget n s y rows n' → Fails y → Climbs q budget s₀ None n'
  too_long : {p : List ℕ} {s : State} {h n n' : ℕ} {b : Better} {rows : List Row} → Hill q budget s₀ p s h n → 0 < h → Leg q h budget n s (Ok (Some b)) rows n' → longest < length p + (row rows b.row).distance
      → Climbs q budget s₀ None n'

-- a length with the list at the front of `out`
abbrev pub listed : Option ℕ → List ℕ → Option (List ℕ)
listed (Some n) out = Some (take n out)
listed None out = None
