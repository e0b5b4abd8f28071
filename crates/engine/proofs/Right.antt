-- A plan that a call answers is one, and where it answers none there is none.
use Rattle.std.proofs.Common.{◌≡◌, ℕ, zero, suc, ◌+◌, ◌<◌, Bool, true, false, ◌⊎◌, List, [], ◌∷◌, ◌++◌, length, get_or, vec_items, Some, None, Ok, sym, refl, ap, ◌∙◌, subst, inl, inr, arith}
use native.Mathlib.Decide.{dec_lt}
use Rattle.std.specs.List.Sorted.{IsPermutation}
use Rattle.std.specs.List.{ContainsAt as Has}
use Rattle.std.proofs.ByRecursion.{has_shuffled}
use Rattle.facts.specs.Words.{subset}
use Rattle.strips.specs.declared.action.Action.{Action}
use Rattle.strips.specs.declared.problem.Task.{Task}
use Rattle.strips.specs.Semantics.{State, applicable, result, Run, stop, step, IsPlan}
use Rattle.strips.proofs.Runs.{run_more, runs_join, runs_stay}
use Rattle.open_list.specs.declared.entry.Entry.{Entry}
use Rattle.closed_list.specs.declared.row.Row.{Row}
use Rattle.heuristic.specs.declared.estimate.Estimate.{Estimate}
use Rattle.heuristic.specs.declared.estimate.Estimate.TheVariants.{Steps, Never}
use Rattle.strips.specs.Sound.{act}
use Rattle.engine.specs.Reach.{Can}
use Rattle.heuristic.specs.Laws.{Asked, Laws}
use Rattle.closed_list.specs.Rows.{row, At}
use Rattle.engine.specs.Paths.{back, path}
use Rattle.engine.specs.Generation.{Setting, posed, fits, child, child_row, cannot, known, root}
use Rattle.engine.specs.BestFirst as best
use Rattle.engine.specs.BestFirst.{entry, Considers, passed, full, reached, never, waits, Expanding, more, Stopped, Expands, Turn, begin, turn}
use Rattle.engine.specs.HillClimbing as hills
use Rattle.engine.specs.HillClimbing.{Hill, on, Climbs, done}
use Rattle.engine.specs.Answers.{Answer, Searched, exhausted, out_of_budget, met_full, found, at_goal, hopeless, climbed, fell_back, Plans, Excludes}
use Rattle.engine.specs.Theorems.{AnswersNone, AnswersPlans, HillsRun}
use Rattle.closed_list.proofs.Pushed.{each_push, length_push, row_new, row_old}
use Rattle.engine.proofs.Trees.{Tree, Grown, gen_entering}
use Rattle.engine.proofs.Bests.{turn_kept, turn_sound, turn_found, run_sound, expand_kept}
use Rattle.engine.proofs.Hills.{leg_tree, leg_better, hill_told}

-- the path of a row runs from the first state to the row's
module _ (q : Setting) (s : State) (rows : List Row) (t : Tree q s rows) where
  tree_runs : (d j : ℕ) → j < length rows → (row rows j).distance ≡ d → Run q.acts s (back rows d (row rows j)) (row rows j).state.words
  tree_runs zero j l e =
      elim (t.linked j l) [
        | inl f ↦ subst (λ z. Run q.acts s [] z) (sym f.0) stop
        | inr h ↦ absurd (omega (arith, h.far))
      ]
  tree_runs (suc d) j l e =
      let up = tree_runs d (row rows j).parent in
      elim (t.linked j l) [
        | inl f ↦ absurd (omega (arith, f.1))
        | inr h ↦
            subst (Run q.acts s (back rows d (row rows (row rows j).parent) ++ (row rows j).action ∷ [])) (sym h.is)
            (run_more q.acts s (row rows (row rows j).parent).state.words (row rows j).action (back rows d (row rows (row rows j).parent)) (up h.there (omega (arith, h.far))) h.can.0 h.can.1)
      ]

  pub path_runs : (j : ℕ) → j < length rows → Run q.acts s (path rows j) (row rows j).state.words
  path_runs j l = tree_runs _ j l refl

-- the joined list of the hill phase runs to the state where it stands
pub hill_runs : {q : Setting} {budget : ℕ} {s₀ : State} {p : List ℕ} {s : State} {h n : ℕ} → Hill q budget s₀ p s h n → Run q.acts s₀ p s
hill_runs (hills.Hill.start e) = stop
hill_runs {q} {s₀ = s₀} (on {p = p} {s = s} {b = b} {rows = rows} x pos l le) =
    runs_join q.acts s₀ s (row rows b.row).state.words p (path rows b.row) (hill_runs x) (path_runs q s rows (leg_tree l) b.row (leg_better l).0)

-- membership
has_first : (e : Entry) (w : List Entry) → Has (e ∷ w) e
has_first e w = (0, omega arith, λ d. refl)

has_more : (e x : Entry) (w : List Entry) → Has w x → Has (e ∷ w) x
has_more e x w h = (suc h.0, omega (arith, h.1), h.2)

has_cases : (e x : Entry) (w : List Entry) → Has (e ∷ w) x → (e ≡ x) ⊎ Has w x
has_cases e x w h = go h.0 h.1 h.2
  where
    go : (k : ℕ) → k < suc (length w) → ((d : Entry) → get_or (e ∷ w) k d ≡ x) → (e ≡ x) ⊎ Has w x
    go zero l at = inl (at e)
    go (suc k) l at = inr (k, omega arith, at)

-- row j waits
abbrev Waits : List Entry → ℕ → Type 0
Waits w j = (x : Entry) × Has w x × (x.row ≡ j)

-- each result of the first k actions in s has a row
abbrev Covered : Setting → List Row → State → ℕ → Type 0
Covered q rows s k = (a : ℕ) → a < k → Can q.acts a s → (j : ℕ) × At rows (result (act q.acts a) s) j

abbrev Settled : Setting → List Row → List Entry → Row → ℕ → Type 0
Settled q rows w r j = (q.est r.state.words ≡ Never) ⊎ (Waits w j ⊎ Covered q rows r.state.words (length q.acts))

at_more : (rows : List Row) (x : Row) (s : State) (j : ℕ) → At rows s j → At (rows ++ x ∷ []) s j
at_more rows x s j h = (omega (arith, h.0, length_push rows x), ap (λ z. z.state.words) (row_old rows x j h.0) ∙ h.1)

covered_more : (q : Setting) (rows : List Row) (x : Row) (s : State) (k : ℕ) → Covered q rows s k → Covered q (rows ++ x ∷ []) s k
covered_more q rows x s k c a l can = let h = c a l can in (h.0, at_more rows x _ h.0 h.1)

covered_next : (q : Setting) (rows : List Row) (s : State) (k : ℕ) → Covered q rows s k → (Can q.acts k s → (j : ℕ) × At rows (result (act q.acts k) s) j) → Covered q rows s (k + 1)
covered_next q rows s k c here a l can =
    elim (dec_lt a k) [
      | yes al ↦ c a al can
      | no an ↦ let e : k ≡ a = omega arith in subst (λ z. Can q.acts z s → (j : ℕ) × At rows (result (act q.acts z) s) j) e here can
    ]

settled_more : (q : Setting) (rows : List Row) (x : Row) (w w' : List Entry) (r : Row) (j : ℕ) → ((y : Entry) → Has w y → Has w' y) → Settled q rows w r j → Settled q (rows ++ x ∷ []) w' r j
settled_more q rows x w w' r j keep h =
    elim h [
      | inl n ↦ inl n
      | inr h' ↦ elim h' [
        | inl y ↦ inr (inl (y.0, keep y.0 y.1, y.2))
        | inr c ↦ inr (inr (covered_more q rows x r.state.words (length q.acts) c))
      ]
    ]

-- after k actions of the expansion of row i
record Mid (q : Setting) (i : ℕ) (r : Row) (k : ℕ) (rows : List Row) (w : List Entry) : Type 0 where
  settled : (j : ℕ) → j < length rows → (j ≡ i) ⊎ Settled q rows w (row rows j) j
  open_goal : (j : ℕ) → j < length rows → q.est (row rows j).state.words ≡ Steps 0 → ⊥
  covered : Covered q rows r.state.words k

mid_same : (q : Setting) (i : ℕ) (r : Row) (k : ℕ) (rows : List Row) (w : List Entry) → (Can q.acts k r.state.words → (j : ℕ) × At rows (child q r k) j) → Mid q i r k rows w → Mid q i r (k + 1) rows w
mid_same q i r k rows w here m = record { settled = m.settled; open_goal = m.open_goal; covered = covered_next q rows r.state.words k m.covered here }

mid_push : (q : Setting) (i : ℕ) (r : Row) (k : ℕ) (rows : List Row) (w w' : List Entry) → ((y : Entry) → Has w y → Has w' y) → (q.est (child q r k) ≡ Steps 0 → ⊥)
    → Settled q (rows ++ child_row q i r k ∷ []) w' (child_row q i r k) (length rows) → Mid q i r k rows w → Mid q i r (k + 1) (rows ++ child_row q i r k ∷ []) w'
mid_push q i r k rows w w' keep no-goal new m =
    let x : Row = child_row q i r k in
    record {
      settled = each_push rows x (λ j z. (j ≡ i) ⊎ Settled q (rows ++ x ∷ []) w' z j)
          (λ j l. elim (m.settled j l) [ inl e ↦ inl e | inr h ↦ inr (settled_more q rows x w w' (row rows j) j keep h) ])
          (inr new);
      open_goal = each_push rows x (λ j z. q.est z.state.words ≡ Steps 0 → ⊥) m.open_goal no-goal;
      covered = covered_next q (rows ++ x ∷ []) r.state.words k (covered_more q rows x r.state.words k m.covered)
          (λ can. (length rows, (omega (arith, length_push rows x), ap (λ z. z.state.words) (row_new rows x))));
    }

not_both : (b : Bool) → b ≡ true → b ≡ false → ⊥
not_both b p n = let z : ◌≡◌ {A = ℕ} 0 1 = cc in omega arith

one_mid : {q : Setting} {i : ℕ} {r : Row} {k : ℕ} {rows : List Row} {w : List Entry} {rows' : List Row} {w' : List Entry} → Considers q i r k rows w (Ok None) rows' w' → Mid q i r k rows w → Mid q i r (k + 1) rows' w'
one_mid {q} {i} {r} {k} {rows} {w} (passed (cannot no-fits)) m = mid_same q i r k rows w (λ can. absurd (not_both (fits q r k) can.1 no-fits)) m
one_mid {q} {i} {r} {k} {rows} {w} (passed (known j h a)) m = mid_same q i r k rows w (λ can. (j, a)) m
one_mid {q} {i} {r} {k} {rows} {w} (never g n) m =
    let en = gen_entering g in
    let e = en.est ∙ n in
    subst (λ z. Mid q i r (k + 1) z w) en.are
    (mid_push q i r k rows w w (λ y h. h) (λ z. let n : ◌≡◌ {A = ℕ} 0 1 = cc in omega arith) (inl e) m)
one_mid {q} {i} {r} {k} {rows} {w} (waits {e = entered} {h = n} {w' = w'} g is p sh) m =
    let en = gen_entering g in
    let e = en.est ∙ is in
    let y : Entry = entry entered.row n (r.distance + 1) in
    subst (λ z. Mid q i r (k + 1) z w') en.are
    (mid_push q i r k rows w w' (λ x hx. has_shuffled (y ∷ w) w' x sh (has_more y x w hx)) (λ z. let nz : n ≡ 0 = cc in omega arith)
    (inr (inl (y, has_shuffled (y ∷ w) w' y sh (has_first y w), en.last))) m)

expand_mid : {q : Setting} {i : ℕ} {r : Row} {rows₀ : List Row} {w₀ : List Entry} {k : ℕ} {rows : List Row} {w : List Entry} → Expanding q i r rows₀ w₀ k rows w → Mid q i r 0 rows₀ w₀ → Mid q i r k rows w
expand_mid best.Expanding.start m = m
expand_mid (more x l o) m = one_mid o (expand_mid x m)

-- between expansions
record Closed (q : Setting) (rows : List Row) (w : List Entry) : Type 0 where
  settled : (j : ℕ) → j < length rows → Settled q rows w (row rows j) j
  open_goal : (j : ℕ) → j < length rows → q.est (row rows j).state.words ≡ Steps 0 → ⊥

taken_mid : (q : Setting) (rows : List Row) (w : List Entry) (e : Entry) (rest : List Entry) → IsPermutation w (e ∷ rest) → Closed q rows w → Mid q e.row (row rows e.row) 0 rows rest
taken_mid q rows w e rest sh c =
    record {
      settled = λ j l. elim (c.settled j l) [
        | inl n ↦ inr (inl n)
        | inr h ↦ elim h [
          | inl y ↦ elim (has_cases e y.0 rest (has_shuffled w (e ∷ rest) y.0 sh y.1)) [
            | inl same ↦ inl (sym y.2 ∙ ap (λ z. z.row) (sym same))
            | inr hr ↦ inr (inr (inl (y.0, hr, y.2)))
          ]
          | inr cov ↦ inr (inr (inr cov))
        ]
      ];
      open_goal = c.open_goal;
      covered = λ a l can. absurd (omega arith);
    }

mid_closed : (q : Setting) (s : State) (i : ℕ) (r : Row) (rows : List Row) (w : List Entry) → Grown q s i r rows → Mid q i r (length q.acts) rows w → Closed q rows w
mid_closed q s i r rows w g m =
    record {
      settled = λ j l. elim (m.settled j l) [
        | inl e ↦ inr (inr (subst (λ z. Covered q rows z.state.words (length q.acts)) (g.is ∙ ap (row rows) (sym e)) m.covered))
        | inr h ↦ h
      ];
      open_goal = m.open_goal;
    }

run_closed : {q : Setting} {budget : ℕ} {s : State} {rows : List Row} {w : List Entry} {n : ℕ} → best.Explored q budget s rows w n → Closed q rows w
run_closed {q} {budget} {s} (begin {h} {w} e p sh) =
    let y : Entry = entry 0 h 0 in
    record {
      settled = each_push [] (root q s) (λ j z. Settled q (root q s ∷ []) w z j) (λ j l. absurd (omega arith)) (inr (inl (y, has_shuffled (y ∷ []) w y sh (has_first y []), refl)));
      open_goal = each_push [] (root q s) (λ j z. q.est z.state.words ≡ Steps 0 → ⊥) (λ j l. absurd (omega arith)) (λ z. let nz : h ≡ 0 = cc in omega arith);
    }
run_closed {q} {budget} {s} (turn {rows = rows} {rows' = rows'} {w = w} {w' = w'} r l t) =
    mid_closed q s t.e.row (row rows t.e.row) rows' w' (expand_kept t.expands (turn_kept t (run_sound r))).grown
    (expand_mid t.expands (taken_mid q rows w t.e t.rest t.taken (run_closed r)))

-- a task is asked about, where the state and the goal lie within its facts
pub asks : (task : Task) (s goal : State) → subset s task.facts.words ≡ true → subset goal task.facts.words ≡ true → Asked task.facts.words (vec_items task.actions) goal s
asks task s goal state-in goal-in = record { few = omega (arith, task.wide); small = task.small; within = task.actions_within; goal_in = goal-in; state_in = state-in }

-- a question stays one where actions lead
asked_on : (facts : State) (acts : List Action) (goal s t : State) (p : List ℕ) → Asked facts acts goal s → Run acts s p t → Asked facts acts goal t
asked_on facts acts goal s t p a r =
    record { few = a.few; small = a.small; within = a.within; goal_in = a.goal_in; state_in = runs_stay facts acts s t p a.within a.state_in r }

module _ (est : List Action → State → State → Estimate) (pref : List Action → State → State → ℕ → Bool) (laws : Laws est pref) (facts : State) (acts : List Action) (goal : State) (room : ℕ) where
  -- where all is settled and nothing waits, no row leads to the goal
  module _ (rows : List Row) (c : Closed (posed est pref acts goal room) rows []) (ask : (j : ℕ) → j < length rows → Asked facts acts goal (row rows j).state.words) where
    no_plan : (s t : State) (p : List ℕ) → Run acts s p t → (j : ℕ) → j < length rows → (row rows j).state.words ≡ s → subset goal t ≡ true → ⊥
    no_plan s t p stop j l e h = c.open_goal j l (laws.reached facts acts goal (row rows j).state.words (ask j l) (subst (λ z. subset goal z ≡ true) (sym e) h))
    no_plan s t p (step {k = k} {ks = ks} kl can r) j l e h =
        let further = no_plan (result (act acts k) s) t ks r in
        elim (c.settled j l) [
          | inl n ↦ laws.never facts acts goal s (subst (Asked facts acts goal) e (ask j l)) (ap (est acts goal) (sym e) ∙ n) (k ∷ ks) (t, step kl can r, h)
          | inr h' ↦ elim h' [
            | inl y ↦ absurd (omega (arith, y.1.1))
            | inr cov ↦ let to = cov k kl (kl, ap (applicable (act acts k)) e ∙ can) in further to.0 to.1.0 (to.1.1 ∙ ap (result (act acts k)) e) h
          ]
        ]

  module _ (s : State) (ask : Asked facts acts goal s) where
    rows_asked : (rows : List Row) → Tree (posed est pref acts goal room) s rows → (j : ℕ) → j < length rows → Asked facts acts goal (row rows j).state.words
    rows_asked rows t j l = asked_on facts acts goal s (row rows j).state.words (path rows j) ask (path_runs (posed est pref acts goal room) s rows t j l)

    searched_excludes : (budget : ℕ) (a : Answer) (m : ℕ) → Searched (posed est pref acts goal room) budget s a m → Excludes acts goal s a
    searched_excludes budget a m (exhausted {rows = rows} r) =
        let tree = (run_sound r).tree in
        λ p h. no_plan rows (run_closed r) (rows_asked rows tree) s h.0 p h.1 0 tree.top.0 tree.top.1 h.2
    searched_excludes budget a m (out_of_budget r some e) = tt
    searched_excludes budget a m (met_full r l t) = tt
    searched_excludes budget a m (found r l t) = tt

    searched_plans : (budget : ℕ) (a : Answer) (m : ℕ) → Searched (posed est pref acts goal room) budget s a m → Plans acts goal s a
    searched_plans budget a m (exhausted r) = tt
    searched_plans budget a m (out_of_budget r some e) = tt
    searched_plans budget a m (met_full r l t) = tt
    searched_plans budget a m (found {rows' = rows'} {j = j} r l t) =
        let f = turn_found t in
        let tree = (turn_sound t (run_sound r)).tree in
        ((row rows' j).state.words, path_runs (posed est pref acts goal room) s rows' tree j f.0, laws.zero facts acts goal (row rows' j).state.words (rows_asked rows' tree j f.0) f.1)

    climbs_plans : (budget : ℕ) (p : List ℕ) (m : ℕ) → Climbs (posed est pref acts goal room) budget s (Some p) m → IsPlan acts s goal p
    climbs_plans budget p m (done {s = t} x) = (t, hill_runs x, laws.zero facts acts goal t (asked_on facts acts goal s t p ask (hill_runs x)) (hill_told x))

pub answers_plans : AnswersPlans
answers_plans est pref laws facts acts goal room hill fallback s a n m ask (at_goal e) = (s, stop, laws.zero facts acts goal s ask e)
answers_plans est pref laws facts acts goal room hill fallback s a n m ask (hopeless e) = tt
answers_plans est pref laws facts acts goal room hill fallback s a n m ask (climbed {p = p} e pos c) = climbs_plans est pref laws facts acts goal room s ask hill p n c
answers_plans est pref laws facts acts goal room hill fallback s a n m ask (fell_back e pos c x) = searched_plans est pref laws facts acts goal room s ask fallback a m x

pub answers_none : AnswersNone
answers_none est pref laws facts acts goal room hill fallback s a n m ask (at_goal e) = tt
answers_none est pref laws facts acts goal room hill fallback s a n m ask (hopeless e) = laws.never facts acts goal s ask e
answers_none est pref laws facts acts goal room hill fallback s a n m ask (climbed e pos c) = tt
answers_none est pref laws facts acts goal room hill fallback s a n m ask (fell_back e pos c x) = searched_excludes est pref laws facts acts goal room s ask fallback a m x

pub hills_run : HillsRun
hills_run q budget s₀ p s h n x = hill_runs x
