-- With places and budget for all states that are reached, a plan call decides; its counts are within the budgets, and its list is short.
use Rattle.std.proofs.Common.{◌≡◌, ℕ, zero, suc, ◌+◌, ◌<◌, ◌≤◌, List, [], ◌∷◌, map, length, get_or, Some, Err, Option, sym, refl, ap, ◌∙◌, subst, inl, inr, arith, length-append}
use lib.ListN.{length-map, get_or-map}
use Rattle.std.proofs.lemmas.List.Sorted.{length_permutation}
use Rattle.strips.specs.Semantics.{State}
use Rattle.open_list.specs.declared.entry.Entry.{Entry}
use Rattle.closed_list.specs.declared.row.Row.{Row}
use Rattle.engine.specs.declared.model.StoreFull.{StoreFull}
use Rattle.engine.specs.Reach.{AtMost}
use Rattle.strips.specs.Semantics.{Reaches, here, onward}
use Rattle.closed_list.specs.Rows.{row, no_row}
use Rattle.engine.specs.Paths.{back, path}
use Rattle.engine.specs.Generation.{Setting, child_row, no_place}
use Rattle.engine.specs.BestFirst as best
use Rattle.engine.specs.BestFirst.{Considers, full, Expanding, more, Explored, begin, turn}
use Rattle.engine.specs.HillClimbing as hills
use Rattle.engine.specs.HillClimbing.{Hill, on, Climbs, done, failed, too_long, longest}
use Rattle.engine.specs.Answers.{Answer, Searched, exhausted, out_of_budget, met_full, found, at_goal, hopeless, climbed, fell_back, Decides, Short}
use Rattle.engine.specs.Theorems.{AnswersDecided, AnswersCounted, AnswersShort}
use Rattle.closed_list.proofs.Pushed.{length_push}
use Rattle.engine.proofs.Trees.{Tree, Grown, grown_push}
use Rattle.engine.proofs.Bests.{one_slack, turn_kept, turn_sound, turn_found, run_sound, run_counted, expand_kept}
use Rattle.engine.proofs.Hills.{leg_counted, hill_counted}

module _ (q : Setting) (s : State) (rows : List Row) (t : Tree q s rows) where
  tree_reaches : (d j : ℕ) → j < length rows → (row rows j).distance ≡ d → Reaches q.acts s (row rows j).state.words
  tree_reaches zero j l e =
      elim (t.linked j l) [
        | inl f ↦ subst (Reaches q.acts s) (sym f.0) here
        | inr h ↦ absurd (omega (arith, h.far))
      ]
  tree_reaches (suc d) j l e =
      let up = tree_reaches d (row rows j).parent in
      elim (t.linked j l) [
        | inl f ↦ subst (Reaches q.acts s) (sym f.0) here
        | inr h ↦ subst (Reaches q.acts s) (sym h.is) (onward (up h.there (omega (arith, h.far))) h.can.0 h.can.1)
      ]

  tree_few : (n : ℕ) → AtMost q.acts s n → length rows ≤ n
  tree_few n most =
      let ts : List State = map (λ r. r.state.words) rows in
      let len : length ts ≡ length rows = length-map rows (λ r. r.state.words) in
      let at : (j : ℕ) → get_or ts j [] ≡ (row rows j).state.words = λ j. get_or-map (λ (r : Row). r.state.words) rows j no_row in
      let h : length ts ≤ n = most ts
      (λ j l. subst (Reaches q.acts s) (sym (at j)) (tree_reaches _ j (omega arith) refl))
      (λ i j il jl same. t.different i j (omega arith) (omega arith) (sym (at i) ∙ same ∙ at j)) in
      omega arith

expand_slack : {q : Setting} {i : ℕ} {r : Row} {rows₀ : List Row} {w₀ : List Entry} {k : ℕ} {rows : List Row} {w : List Entry}
    → Expanding q i r rows₀ w₀ k rows w → length w + length rows₀ ≤ length w₀ + length rows
expand_slack best.Expanding.start = omega arith
expand_slack (more x l o) = omega (arith, one_slack o, expand_slack x)

-- each expansion has a row of its own
run_count : {q : Setting} {budget : ℕ} {s : State} {rows : List Row} {w : List Entry} {n : ℕ} → Explored q budget s rows w n → n + length w ≤ length rows
run_count (begin {w = w} e p m) = omega (arith, length_permutation _ w m)
run_count (turn {w = w} r l t) = omega (arith, run_count r, expand_slack t.expands, length_permutation w _ t.taken)

no_place_tree : {q : Setting} {s : State} {i : ℕ} {r : Row} {k : ℕ} {rows : List Row} {w : List Entry} {e : StoreFull} {rows' : List Row} {w' : List Entry} (n : ℕ)
    → Considers q i r k rows w (Err e) rows' w' → k < length q.acts → Grown q s i r rows → AtMost q.acts s n → n ≤ q.room → ⊥
no_place_tree {q} {s} {i} {r} {k} {rows} n (full (no_place h a e)) kl g most le =
    omega (arith, tree_few q s _ (grown_push q s i k r rows g (kl, h) a).tree n most, length_push rows (child_row q i r k))

searched_decided : (q : Setting) (budget : ℕ) (s : State) (a : Answer) (m N : ℕ) → Searched q budget s a m → AtMost q.acts s N → N ≤ q.room → N ≤ budget → Decides a
searched_decided q budget s a m N (exhausted r) most le le' = tt
searched_decided q budget s a m N (out_of_budget {rows = rows} r some e) most le le' = omega (arith, run_count r, tree_few q s rows (run_sound r).tree N most)
searched_decided q budget s a m N (met_full {rows = rows} {w = w} r l t) most le le' =
    no_place_tree N t.expands.last t.expands.within (expand_kept t.expands.before (turn_kept t (run_sound r))).grown most le
searched_decided q budget s a m N (found r l t) most le le' = tt

pub answers_decided : AnswersDecided
answers_decided q hill fallback s a n m N (at_goal e) most le le' = tt
answers_decided q hill fallback s a n m N (hopeless e) most le le' = tt
answers_decided q hill fallback s a n m N (climbed e pos c) most le le' = tt
answers_decided q hill fallback s a n m N (fell_back e pos c x) most le le' = searched_decided q fallback s a m N x most le le'

climbs_counted : {q : Setting} {budget : ℕ} {s : State} {o : Option (List ℕ)} {n : ℕ} → Climbs q budget s o n → n ≤ budget
climbs_counted (done x) = hill_counted x
climbs_counted (failed x pos l f) = leg_counted l (hill_counted x)
climbs_counted (too_long x pos l lt) = leg_counted l (hill_counted x)

searched_counted : {q : Setting} {budget : ℕ} {s : State} {a : Answer} {n : ℕ} → Searched q budget s a n → n ≤ budget
searched_counted (exhausted r) = run_counted r
searched_counted (out_of_budget r some e) = run_counted r
searched_counted (met_full r l t) = omega arith
searched_counted (found r l t) = omega arith

pub answers_counted : AnswersCounted
answers_counted q hill fallback s a n m (at_goal e) = (omega arith, omega arith)
answers_counted q hill fallback s a n m (hopeless e) = (omega arith, omega arith)
answers_counted q hill fallback s a n m (climbed e pos c) = (climbs_counted c, omega arith)
answers_counted q hill fallback s a n m (fell_back e pos c x) = (climbs_counted c, searched_counted x)

length_back : (rows : List Row) (d : ℕ) (r : Row) → length (back rows d r) ≡ d
length_back rows zero r = refl
length_back rows (suc d) r = length-append (back rows d (row rows r.parent)) (r.action ∷ []) ∙ ap (λ z. z + 1) (length_back rows d (row rows r.parent)) ∙ omega arith

pub hill_short : {q : Setting} {budget : ℕ} {s₀ : State} {p : List ℕ} {s : State} {h n : ℕ} → Hill q budget s₀ p s h n → length p ≤ longest
hill_short (hills.Hill.start e) = omega arith
hill_short (on {p = p} {b = b} {rows = rows} x pos l le) = omega (arith, length-append p (path rows b.row), length_back rows (row rows b.row).distance (row rows b.row))

climbs_short : {q : Setting} {budget : ℕ} {s : State} {n : ℕ} (p : List ℕ) → Climbs q budget s (Some p) n → length p ≤ longest
climbs_short p (done x) = hill_short x

searched_short : (q : Setting) (budget : ℕ) (s : State) (a : Answer) (m : ℕ) → q.room ≤ 4096 → Searched q budget s a m → Short a
searched_short q budget s a m few (exhausted r) = tt
searched_short q budget s a m few (out_of_budget r some e) = tt
searched_short q budget s a m few (met_full r l t) = tt
searched_short q budget s a m few (found {rows' = rows'} {j = j} r l t) =
    let f = turn_found t in
    omega (arith, f.2, (turn_sound t (run_sound r)).tree.near j f.0, length_back rows' (row rows' j).distance (row rows' j))

pub answers_short : AnswersShort
answers_short q hill fallback s a n m few (at_goal e) = omega arith
answers_short q hill fallback s a n m few (hopeless e) = tt
answers_short q hill fallback s a n m few (climbed {p = p} e pos c) = climbs_short p c
answers_short q hill fallback s a n m few (fell_back e pos c x) = searched_short q fallback s a m few x
