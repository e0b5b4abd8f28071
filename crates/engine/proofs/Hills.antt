-- What the hill phase keeps.
use Rattle.std.proofs.Common.{◌≡◌, ◌≢◌, ℕ, ◌+◌, ◌<◌, ◌≤◌, Bool, List, [], ◌∷◌, ◌++◌, length, Some, None, Ok, Err, IfSome, Option, Result, sym, refl, ap, ◌∙◌, subst, arith}
use Rattle.strips.specs.Semantics.{State}
use Rattle.strips.specs.declared.action.Action.{Action}
use Rattle.facts.specs.declared.set.BitSet.{BitSet}
use Rattle.closed_list.specs.declared.row.Row.{Row}
use Rattle.heuristic.specs.declared.estimate.Estimate.{Estimate}
use Rattle.heuristic.specs.declared.estimate.Estimate.TheVariants.{Steps, Never}
use Rattle.engine.specs.declared.model.Better.{Better}
use Rattle.engine.specs.declared.model.Halt.{Halt}
use Rattle.engine.specs.declared.model.Halt.TheVariants as halts
use Rattle.engine.specs.Outcomes.{Counts}
use Rattle.engine.specs.declared.model.StoreFull.{StoreFull}
use Rattle.engine.specs.declared.model.Tries.{Tries}
use Rattle.closed_list.specs.Rows.{row}
use Rattle.engine.specs.Paths.{path}
use Rattle.engine.specs.Generation.{Setting, setting, root, first_row}
use Rattle.engine.specs.HillClimbing as hills
use Rattle.engine.specs.HillClimbing.{Closes, Fails, Hill, on, Climbs, failed, too_long, done, longest, listed, Tried, barred, passed, full, never, worse, better, Climb, more, Stops, Tops, over, stopped, Stretch, begin, skip, turn, Ended, ran_out, spent, met_full, climbed, Leg, once, again}
use Rattle.engine.proofs.Trees.{Tree, Grown, row_grown, root_tree, gen_grown, gen_longer, gen_new}

module _ {q : Setting} {tries : Tries} {bound : ℕ} {i : ℕ} {r : Row} where
  pub tried_longer : {k : ℕ} {rows : List Row} {y : Result (Option Better) StoreFull} {rows' : List Row} → Tried q tries bound i r k rows y rows' → length rows ≤ length rows'
  tried_longer (barred e) = omega arith
  tried_longer (passed e g) = gen_longer g
  tried_longer (full e g) = gen_longer g
  tried_longer (never e g n) = gen_longer g
  tried_longer (worse e g is b) = gen_longer g
  tried_longer (better e g is b) = gen_longer g

  tried_grown : {s : State} {k : ℕ} {rows : List Row} {y : Result (Option Better) StoreFull} {rows' : List Row} → Tried q tries bound i r k rows y rows' → k < length q.acts → Grown q s i r rows → Grown q s i r rows'
  tried_grown (barred e) kl t = t
  tried_grown (passed e g) kl t = gen_grown g kl t
  tried_grown (full e g) kl t = gen_grown g kl t
  tried_grown (never e g n) kl t = gen_grown g kl t
  tried_grown (worse e g is b) kl t = gen_grown g kl t
  tried_grown (better e g is b) kl t = gen_grown g kl t

  climb_longer : {rows₀ : List Row} {k : ℕ} {rows : List Row} → Climb q tries bound i r rows₀ k rows → length rows₀ ≤ length rows
  climb_longer hills.Climb.start = omega arith
  climb_longer (more c l t) = omega (arith, climb_longer c, tried_longer t)

  climb_grown : {s : State} {rows₀ : List Row} {k : ℕ} {rows : List Row} → Climb q tries bound i r rows₀ k rows → Grown q s i r rows₀ → Grown q s i r rows
  climb_grown hills.Climb.start g = g
  climb_grown (more c l t) g = tried_grown t l (climb_grown c g)

  pub tops_longer : {rows₀ : List Row} {y : Result (Option Better) StoreFull} {rows : List Row} → Tops q tries bound i r rows₀ y rows → length rows₀ ≤ length rows
  tops_longer (over c) = climb_longer c
  tops_longer (stopped c l t ne) = omega (arith, climb_longer c, tried_longer t)

  pub tops_grown : {s : State} {rows₀ : List Row} {y : Result (Option Better) StoreFull} {rows : List Row} → Tops q tries bound i r rows₀ y rows → Grown q s i r rows₀ → Grown q s i r rows
  tops_grown (over c) g = climb_grown c g
  tops_grown (stopped c l t ne) g = tried_grown t l (climb_grown c g)

  -- the better row
  tried_better : {k : ℕ} {rows : List Row} {b : Better} {rows' : List Row} → Tried q tries bound i r k rows (Ok (Some b)) rows' → (b.row < length rows') × (q.est (row rows' b.row).state.words ≡ Steps b.steps) × (b.steps < bound)
  tried_better (better e g is lt) = let n = gen_new g in (n.there, n.est ∙ is, lt)

  pub tops_better : {rows₀ : List Row} {b : Better} {rows : List Row} → Tops q tries bound i r rows₀ (Ok (Some b)) rows → (b.row < length rows) × (q.est (row rows b.row).state.words ≡ Steps b.steps) × (b.steps < bound)
  tops_better (stopped c l t ne) = tried_better t

module _ {q : Setting} {tries : Tries} {bound budget n₀ : ℕ} {s : State} where
  pub stretch_tree : {i : ℕ} {rows : List Row} {n : ℕ} → Stretch q tries bound budget n₀ s i rows n → Tree q s rows
  stretch_tree begin = root_tree q s
  stretch_tree (skip x l e) = stretch_tree x
  stretch_tree (turn x l ne lt t) = (tops_grown t (row_grown (stretch_tree x) l)).tree

  pub stretch_within : {i : ℕ} {rows : List Row} {n : ℕ} → Stretch q tries bound budget n₀ s i rows n → i ≤ length rows
  stretch_within begin = omega arith
  stretch_within (skip x l e) = omega arith
  stretch_within (turn x l ne lt t) = omega (arith, tops_longer t)

  pub stretch_counted : {i : ℕ} {rows : List Row} {n : ℕ} → Stretch q tries bound budget n₀ s i rows n → n₀ ≤ budget → n ≤ budget
  stretch_counted begin le = le
  stretch_counted (skip x l e) le = stretch_counted x le
  stretch_counted (turn x l ne lt t) le = omega arith

  pub stretch_reached : (i : ℕ) (rows : List Row) {n : ℕ} → Stretch q tries bound budget n₀ s i rows n → length rows ≤ i → Stretch q tries bound budget n₀ s (length rows) rows n
  stretch_reached i rows {n} x le = let e : i ≡ length rows = omega (arith, stretch_within x) in subst (λ m. Stretch q tries bound budget n₀ s m rows n) e x

  pub ended_tree : {y : Result (Option Better) Halt} {rows : List Row} {n : ℕ} → Ended q tries bound budget n₀ s y rows n → Tree q s rows
  ended_tree (ran_out x) = stretch_tree x
  ended_tree (spent x l ne e) = stretch_tree x
  ended_tree (met_full x l ne lt t) = (tops_grown t (row_grown (stretch_tree x) l)).tree
  ended_tree (climbed x l ne lt t) = (tops_grown t (row_grown (stretch_tree x) l)).tree

  pub ended_counted : {y : Result (Option Better) Halt} {rows : List Row} {n : ℕ} → Ended q tries bound budget n₀ s y rows n → n₀ ≤ budget → n ≤ budget
  ended_counted (ran_out x) le = stretch_counted x le
  ended_counted (spent x l ne e) le = stretch_counted x le
  ended_counted (met_full x l ne lt t) le = omega arith
  ended_counted (climbed x l ne lt t) le = omega arith

  pub ended_better : {b : Better} {rows : List Row} {n : ℕ} → Ended q tries bound budget n₀ s (Ok (Some b)) rows n → (b.row < length rows) × (q.est (row rows b.row).state.words ≡ Steps b.steps) × (b.steps < bound)
  ended_better (climbed x l ne lt t) = tops_better t

module _ {q : Setting} {bound budget n₀ : ℕ} {s : State} where
  pub leg_tree : {y : Result (Option Better) Halt} {rows : List Row} {n : ℕ} → Leg q bound budget n₀ s y rows n → Tree q s rows
  leg_tree (once x c) = ended_tree x
  leg_tree (again x y) = ended_tree y

  pub leg_counted : {y : Result (Option Better) Halt} {rows : List Row} {n : ℕ} → Leg q bound budget n₀ s y rows n → n₀ ≤ budget → n ≤ budget
  leg_counted (once x c) le = ended_counted x le
  leg_counted (again x y) le = ended_counted y (ended_counted x le)

  pub leg_better : {b : Better} {rows : List Row} {n : ℕ} → Leg q bound budget n₀ s (Ok (Some b)) rows n → (b.row < length rows) × (q.est (row rows b.row).state.words ≡ Steps b.steps) × (b.steps < bound)
  leg_better (once x c) = ended_better x
  leg_better (again x y) = ended_better y

-- the places may be named by another equal number
module _ (est : State → Estimate) (pref : State → ℕ → Bool) (acts : List Action) (m n : ℕ) (e : m ≡ n) where
  pub tried_room : {tries : Tries} {bound i : ℕ} {r : Row} {k : ℕ} {rows : List Row} {y : Result (Option Better) StoreFull} {rows' : List Row}
      → Tried (setting est pref acts m) tries bound i r k rows y rows' → Tried (setting est pref acts n) tries bound i r k rows y rows'
  tried_room {tries} {bound} {i} {r} {k} {rows} {y} {rows'} o = subst (λ z. Tried (setting est pref acts z) tries bound i r k rows y rows') e o

  pub tops_at : (r r' : Row) → r ≡ r' → {tries : Tries} {bound i : ℕ} {rows : List Row} {y : Result (Option Better) StoreFull} {rows' : List Row}
      → Tops (setting est pref acts m) tries bound i r rows y rows' → Tops (setting est pref acts n) tries bound i r' rows y rows'
  tops_at r r' e' {tries} {bound} {i} {rows} {y} {rows'} t = subst (λ z. Tops (setting est pref acts n) tries bound i z rows y rows') e' (subst (λ z. Tops (setting est pref acts z) tries bound i r rows y rows') e t)

  pub ended_at : (s s' : State) → s ≡ s' → (budget budget' : ℕ) → budget ≡ budget' → {tries : Tries} {bound n₀ : ℕ} {y : Result (Option Better) Halt} {rows : List Row} {k : ℕ}
      → Ended (setting est pref acts m) tries bound budget n₀ s y rows k → Ended (setting est pref acts n) tries bound budget' n₀ s' y rows k
  ended_at s s' e' budget budget' e'' {tries} {bound} {n₀} {y} {rows} {k} t =
      subst (λ z. Ended (setting est pref acts n) tries bound z n₀ s' y rows k) e''
      (subst (λ z. Ended (setting est pref acts n) tries bound budget n₀ z y rows k) e' (subst (λ z. Ended (setting est pref acts z) tries bound budget n₀ s y rows k) e t))

  pub leg_at : (budget budget' : ℕ) → budget ≡ budget' → {bound n₀ : ℕ} {s : State} {y : Result (Option Better) Halt} {rows : List Row} {k : ℕ}
      → Leg (setting est pref acts m) bound budget n₀ s y rows k → Leg (setting est pref acts n) bound budget' n₀ s y rows k
  leg_at budget budget' e' {bound} {n₀} {s} {y} {rows} {k} t = subst (λ z. Leg (setting est pref acts n) bound z n₀ s y rows k) e' (subst (λ z. Leg (setting est pref acts z) bound budget n₀ s y rows k) e t)

pub climb_all : (q : Setting) (tries : Tries) (bound i : ℕ) (r : Row) (rows₀ : List Row) (k : ℕ) (rows : List Row) → Climb q tries bound i r rows₀ k rows → k ≡ length q.acts → Climb q tries bound i r rows₀ (length q.acts) rows
climb_all q tries bound i r rows₀ k rows c e = subst (λ n. Climb q tries bound i r rows₀ n rows) e c

pub begins : (q : Setting) (tries : Tries) (bound budget n₀ : ℕ) (s : State) (rows : List Row) → rows ≡ root q s ∷ [] → Stretch q tries bound budget n₀ s 0 rows n₀
begins q tries bound budget n₀ s rows e = subst (λ z. Stretch q tries bound budget n₀ s 0 z n₀) (sym e) begin

-- the first row, as the code has it
pub begun_root : (q : Setting) (s : BitSet 4) (h : ℕ) (rows : List Row) → q.est s.words ≡ Steps h → rows ≡ first_row s (Steps h) ∷ [] → rows ≡ root q (row rows 0).state.words ∷ []
begun_root q s h rows told e =
    let at : root q s.words ∷ [] ≡ rows = ap (λ (z : Estimate). first_row s z ∷ []) told ∙ sym e in
    subst (λ z. z ≡ root q (row z 0).state.words ∷ []) at refl

-- row i is taken up, with what the count of expansions does
module _ {q : Setting} {tries : Tries} {bound budget n₀ : ℕ} {s : State} {i n : ℕ} {rows : List Row} (x : Stretch q tries bound budget n₀ s i rows n) (there : i < length rows) (open_row : (row rows i).estimate ≢ Never) (budget' : ℕ) (same : budget' ≡ budget) (after : ℕ) where
  pub spent_as : (halt : Halt) → Counts budget' n (Err halt) after → Ended q tries bound budget n₀ s (Err halt) rows after
  spent_as halts.Spent c = subst (λ z. Ended q tries bound budget n₀ s (Err halts.Spent) rows z) (sym c.1) (spent x there open_row (c.0 ∙ same))
  spent_as halts.Full c = absurd c

  module _ (c : Counts budget' n (Ok tt) after) {rows' : List Row} where
    pub turn_as : Tops q tries bound i (row rows i) rows (Ok None) rows' → Stretch q tries bound budget n₀ s (i + 1) rows' after
    turn_as t = subst (λ z. Stretch q tries bound budget n₀ s (i + 1) rows' z) (sym c.1) (turn x there open_row (omega (arith, c.0)) t)

    pub full_as : {e : StoreFull} → Tops q tries bound i (row rows i) rows (Err e) rows' → Ended q tries bound budget n₀ s (Err halts.Full) rows' after
    full_as t = subst (λ z. Ended q tries bound budget n₀ s (Err halts.Full) rows' z) (sym c.1) (met_full x there open_row (omega (arith, c.0)) t)

    pub climbed_as : {b : Better} → Tops q tries bound i (row rows i) rows (Ok (Some b)) rows' → Ended q tries bound budget n₀ s (Ok (Some b)) rows' after
    climbed_as {b} t = subst (λ z. Ended q tries bound budget n₀ s (Ok (Some b)) rows' z) (sym c.1) (climbed x there open_row (omega (arith, c.0)) t)

fails_not : (y : Result (Option Better) Halt) → ((b : Better) → y ≡ Ok (Some b) → ⊥) → Fails y
fails_not (Ok None) no-better = tt
fails_not (Ok (Some b)) no-better = no-better b refl
fails_not (Err halt) no-better = tt

module _ {q : Setting} {budget : ℕ} {s₀ : State} where
  pub hill_told : {p : List ℕ} {s : State} {h n : ℕ} → Hill q budget s₀ p s h n → q.est s ≡ Steps h
  hill_told (hills.Hill.start e) = e
  hill_told (on x pos l le) = (leg_better l).1

  pub hill_counted : {p : List ℕ} {s : State} {h n : ℕ} → Hill q budget s₀ p s h n → n ≤ budget
  hill_counted (hills.Hill.start e) = omega arith
  hill_counted (on x pos l le) = leg_counted l (hill_counted x)

  module _ {p : List ℕ} {s : State} {h n : ℕ} (x : Hill q budget s₀ p s h n) (pos : 0 < h) (rows : List Row) (n' : ℕ) where
    pub failed_as : (y : Result (Option Better) Halt) → Leg q h budget n s y rows n' → ((b : Better) → y ≡ Ok (Some b) → ⊥) → Climbs q budget s₀ None n'
    failed_as y l no-better = failed x pos l (fails_not y no-better)

    module _ (b : Better) (l : Leg q h budget n s (Ok (Some b)) rows n') (at : Row) (is : at ≡ row rows b.row) (len : ℕ) (len_is : length p ≡ len) where
      pub too_long_as : longest < len + at.distance → Climbs q budget s₀ None n'
      too_long_as lt = too_long x pos l (omega (arith, ap (λ z. z.distance) is))

      pub on_as : len + at.distance ≤ longest → (p' : List ℕ) → p' ≡ p ++ path rows b.row → Hill q budget s₀ p' at.state.words b.steps n'
      on_as le p' p-is =
          let t : Hill q budget s₀ (p ++ path rows b.row) (row rows b.row).state.words b.steps n' = on x pos l (omega (arith, ap (λ z. z.distance) is)) in
          subst (λ z. Hill q budget s₀ z at.state.words b.steps n') (sym p-is) (subst (λ z. Hill q budget s₀ (p ++ path rows b.row) z.state.words b.steps n') (sym is) t)

pub done_as : {q : Setting} {budget : ℕ} {s₀ : State} {p : List ℕ} {s : State} {h n : ℕ} → Hill q budget s₀ p s h n → h ≡ 0 → Climbs q budget s₀ (Some p) n
done_as {q} {budget} {s₀} {p} {s} {h} {n} x e = done (subst (λ z. Hill q budget s₀ p s z n) e x)

pub climbs_as : {q : Setting} {budget : ℕ} {s : State} {n : ℕ} (o o' : Option ℕ) (out : List ℕ) → o ≡ o' → Climbs q budget s (listed o out) n → Climbs q budget s (listed o' out) n
climbs_as {q} {budget} {s} {n} o o' out e c = subst (λ z. Climbs q budget s (listed z out) n) e c

pub sized_as : (o : Option ℕ) (n : ℕ) → o ≡ Some n → IfSome o (λ n. n ≤ longest) → n ≤ longest
sized_as o n e h = subst (λ z. IfSome z (λ n. n ≤ longest)) e h
