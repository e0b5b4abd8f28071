-- What the best-first search keeps of its tables.
use Rattle.std.proofs.Common.{◌≡◌, ℕ, ◌+◌, ◌<◌, ◌≤◌, Bool, List, [], ◌∷◌, length, Some, None, Ok, Err, Option, Result, sym, ap, ◌∙◌, subst, arith}
use Rattle.std.specs.List.Sorted.{IsPermutation}
use Rattle.std.specs.List.{AllByRecursion}
use Rattle.std.proofs.ByRecursion.{All-weaker, all_shuffled}
use Rattle.std.proofs.lemmas.List.Sorted.{length_permutation}
use Rattle.strips.specs.Semantics.{State}
use Rattle.facts.specs.declared.set.BitSet.{BitSet}
use Rattle.open_list.specs.declared.entry.Entry.{Entry}
use Rattle.closed_list.specs.declared.row.Row.{Row}
use Rattle.heuristic.specs.declared.estimate.Estimate.{Estimate}
use Rattle.heuristic.specs.declared.estimate.Estimate.TheVariants.{Steps}
use Rattle.engine.specs.declared.model.StoreFull.{StoreFull}
use Rattle.closed_list.specs.Rows.{row}
use Rattle.bounded_heap.specs.Waiting.{Put}
use Rattle.strips.specs.declared.action.Action.{Action}
use Rattle.engine.specs.Generation.{Setting, setting, root, first_row}
use Rattle.engine.specs.BestFirst.{entry, Considers, passed, full, reached, never, waits, Expanding, start, more, Expands, Turn, Explored, begin, turn}
use Rattle.engine.specs.Answers as answers
use Rattle.engine.specs.Answers.{Answer, Searched, said, plan, spent, out_of_budget, met_full, found}
use Rattle.engine.specs.Outcomes.{Counts, verdict_of}
use Rattle.engine.specs.Paths.{path}
use Rattle.engine.specs.declared.model.Halt.{Halt}
use Rattle.engine.specs.declared.model.Halt.TheVariants as halts
use Rattle.engine.proofs.Trees.{Tree, Grown, row_grown, root_tree, gen_grown, gen_longer, gen_new}

-- a put into a frontier that is not full
pub put_done : {Y : Type 0} (room : ℕ) (w : List Entry) (e : Entry) (r : Result (Unit {0}) Y) (w' : List Entry) → length w < room → Put room w e r w' → IsPermutation (e ∷ w) w'
put_done room w e (Ok _) w' lt p = p.1
put_done room w e (Err _) w' lt p = absurd (omega (arith, p.0))

-- an action makes at least as many rows as entries
pub one_slack : {q : Setting} {i : ℕ} {r : Row} {k : ℕ} {rows : List Row} {w : List Entry} {y : Result (Option ℕ) StoreFull} {rows' : List Row} {w' : List Entry}
    → Considers q i r k rows w y rows' w' → length w' + length rows ≤ length w + length rows'
one_slack (passed g) = omega (arith, gen_longer g)
one_slack (full g) = omega (arith, gen_longer g)
one_slack (reached g z) = omega (arith, gen_longer g)
one_slack (never g n) = omega (arith, gen_longer g)
one_slack (waits {w' = w'} g is p m) = omega (arith, (gen_new g).count, length_permutation _ w' m)

pub one_fewer : {q : Setting} {i : ℕ} {r : Row} {k : ℕ} {rows : List Row} {w : List Entry} {y : Result (Option ℕ) StoreFull} {rows' : List Row} {w' : List Entry}
    → Considers q i r k rows w y rows' w' → length w < length rows → length w' < length rows'
one_fewer o l = omega (arith, one_slack o)

-- the places may be named by another equal number
pub one_room : (est : State → Estimate) (pref : State → ℕ → Bool) (acts : List Action) (m n : ℕ) → m ≡ n → {i : ℕ} {r : Row} {k : ℕ} {rows : List Row} {w : List Entry} {y : Result (Option ℕ) StoreFull} {rows' : List Row} {w' : List Entry}
    → Considers (setting est pref acts m) i r k rows w y rows' w' → Considers (setting est pref acts n) i r k rows w y rows' w'
one_room est pref acts m n e {i} {r} {k} {rows} {w} {y} {rows'} {w'} o = subst (λ z. Considers (setting est pref acts z) i r k rows w y rows' w') e o

pub expanding_all : (q : Setting) (i : ℕ) (r : Row) (rows₀ : List Row) (w₀ : List Entry) (k : ℕ) (rows : List Row) (w : List Entry) → Expanding q i r rows₀ w₀ k rows w → k ≡ length q.acts → Expanding q i r rows₀ w₀ (length q.acts) rows w
expanding_all q i r rows₀ w₀ k rows w x e = subst (λ n. Expanding q i r rows₀ w₀ n rows w) e x

-- what an expansion keeps
pub record Kept (q : Setting) (s : State) (i : ℕ) (r : Row) (rows : List Row) (w : List Entry) : Type 0 where
  pub grown : Grown q s i r rows
  pub fewer : length w < length rows
  pub entries : AllByRecursion (λ e. e.row < length rows) w

longer_entries : (rows rows' : List Row) (w : List Entry) → length rows ≤ length rows' → AllByRecursion (λ e. e.row < length rows) w → AllByRecursion (λ e. e.row < length rows') w
longer_entries rows rows' w le a = All-weaker _ _ (λ e l. omega arith) w a

one_entries : {q : Setting} {i : ℕ} {r : Row} {k : ℕ} {rows : List Row} {w : List Entry} {y : Result (Option ℕ) StoreFull} {rows' : List Row} {w' : List Entry}
    → Considers q i r k rows w y rows' w' → AllByRecursion (λ e. e.row < length rows) w → AllByRecursion (λ e. e.row < length rows') w'
one_entries {rows = rows} {w = w} (passed {rows' = rows'} g) a = longer_entries rows rows' w (gen_longer g) a
one_entries {rows = rows} {w = w} (full {rows' = rows'} g) a = longer_entries rows rows' w (gen_longer g) a
one_entries {rows = rows} {w = w} (reached {rows' = rows'} g z) a = longer_entries rows rows' w (gen_longer g) a
one_entries {rows = rows} {w = w} (never {rows' = rows'} g n) a = longer_entries rows rows' w (gen_longer g) a
one_entries {rows = rows} {w = w} (waits {rows' = rows'} {w' = w'} g is p m) a = all_shuffled _ _ w' m ((gen_new g).there, longer_entries rows rows' w (gen_longer g) a)

one_grown : {q : Setting} {s : State} {i : ℕ} {r : Row} {k : ℕ} {rows : List Row} {w : List Entry} {y : Result (Option ℕ) StoreFull} {rows' : List Row} {w' : List Entry}
    → Considers q i r k rows w y rows' w' → k < length q.acts → Grown q s i r rows → Grown q s i r rows'
one_grown (passed g) kl t = gen_grown g kl t
one_grown (full g) kl t = gen_grown g kl t
one_grown (reached g z) kl t = gen_grown g kl t
one_grown (never g n) kl t = gen_grown g kl t
one_grown (waits g is p m) kl t = gen_grown g kl t

pub one_kept : {q : Setting} {s : State} {i : ℕ} {r : Row} {k : ℕ} {rows : List Row} {w : List Entry} {y : Result (Option ℕ) StoreFull} {rows' : List Row} {w' : List Entry}
    → Considers q i r k rows w y rows' w' → k < length q.acts → Kept q s i r rows w → Kept q s i r rows' w'
one_kept o kl h = record { grown = one_grown o kl h.grown; fewer = one_fewer o h.fewer; entries = one_entries o h.entries }

pub expand_kept : {q : Setting} {s : State} {i : ℕ} {r : Row} {rows₀ : List Row} {w₀ : List Entry} {k : ℕ} {rows : List Row} {w : List Entry}
    → Expanding q i r rows₀ w₀ k rows w → Kept q s i r rows₀ w₀ → Kept q s i r rows w
expand_kept start h = h
expand_kept (more x l o) h = one_kept o l (expand_kept x h)

pub expands_kept : (q : Setting) (s : State) (i : ℕ) (r : Row) (rows₀ : List Row) (w₀ : List Entry) (y : Result (Option ℕ) StoreFull) (rows : List Row) (w : List Entry)
    → Expands q i r rows₀ w₀ y rows w → Kept q s i r rows₀ w₀ → Kept q s i r rows w
expands_kept q s i r rows₀ w₀ (Ok None) rows w x h = expand_kept x h
expands_kept q s i r rows₀ w₀ (Ok (Some j)) rows w x h = one_kept x.last x.within (expand_kept x.before h)
expands_kept q s i r rows₀ w₀ (Err e) rows w x h = one_kept x.last x.within (expand_kept x.before h)

-- between expansions
pub record Sound (q : Setting) (s : State) (rows : List Row) (w : List Entry) : Type 0 where
  pub tree : Tree q s rows
  pub fewer : length w ≤ length rows
  pub entries : AllByRecursion (λ e. e.row < length rows) w

pub record Taken (rows : List Row) (e : Entry) (rest : List Entry) : Type 0 where
  pub there : e.row < length rows
  pub near : (row rows e.row).distance < length rows
  pub fewer : length rest < length rows
  pub entries : AllByRecursion (λ e. e.row < length rows) rest

-- one entry taken
pub sound_taken : {q : Setting} {s : State} {rows : List Row} {w : List Entry} {e : Entry} {rest : List Entry} → Sound q s rows w → IsPermutation w (e ∷ rest) → Taken rows e rest
sound_taken {w = w} {e = e} {rest = rest} h m =
    let all = all_shuffled _ w (e ∷ rest) m h.entries in
    let len = length_permutation w (e ∷ rest) m in
    let near = h.tree.near e.row all.0 in
    record { there = all.0; near = omega (arith, all.0); fewer = omega (arith, h.fewer); entries = all.1 }

pub turn_kept : {q : Setting} {s : State} {rows : List Row} {w : List Entry} {y : Result (Option ℕ) StoreFull} {rows' : List Row} {w' : List Entry} (t : Turn q rows w y rows' w') → Sound q s rows w → Kept q s t.e.row (row rows t.e.row) rows t.rest
turn_kept {rows = rows} {w = w} t h =
    let k = sound_taken h t.taken in
    record { grown = row_grown h.tree k.there; fewer = k.fewer; entries = k.entries }

pub turn_sound : {q : Setting} {s : State} {rows : List Row} {w : List Entry} {y : Result (Option ℕ) StoreFull} {rows' : List Row} {w' : List Entry} → Turn q rows w y rows' w' → Sound q s rows w → Sound q s rows' w'
turn_sound {q} {s} {rows} {w} {y} {rows'} {w'} t h =
    let k = expands_kept q s _ _ rows t.rest y rows' w' t.expands (turn_kept t h) in
    let fewer = k.fewer in
    record { tree = k.grown.tree; fewer = omega arith; entries = k.entries }

pub run_sound : {q : Setting} {budget : ℕ} {s : State} {rows : List Row} {w : List Entry} {n : ℕ} → Explored q budget s rows w n → Sound q s rows w
run_sound {q} {budget} {s} (begin {h} {w} e p m) =
    record { tree = root_tree q s; fewer = omega (arith, length_permutation _ w m); entries = all_shuffled _ _ w m (omega arith, tt) }
run_sound (turn r l t) = turn_sound t (run_sound r)

pub run_counted : {q : Setting} {budget : ℕ} {s : State} {rows : List Row} {w : List Entry} {n : ℕ} → Explored q budget s rows w n → n ≤ budget
run_counted (begin e p m) = omega arith
run_counted (turn r l t) = omega arith

pub turn_made : (q : Setting) (rows : List Row) (w : List Entry) (e : Entry) (rest : List Entry) (r : Row) (y : Result (Option ℕ) StoreFull) (rows' : List Row) (w' : List Entry)
    → IsPermutation w (e ∷ rest) → r ≡ row rows e.row → Expands q e.row r rows rest y rows' w' → Turn q rows w y rows' w'
turn_made q rows w e rest r y rows' w' m is x = record { e = e; rest = rest; taken = m; expands = subst (λ z. Expands q e.row z rows rest y rows' w') is x }

-- the row that a search found
one_found : {q : Setting} {i : ℕ} {r : Row} {k : ℕ} {rows : List Row} {w : List Entry} {j : ℕ} {rows' : List Row} {w' : List Entry}
    → Considers q i r k rows w (Ok (Some j)) rows' w' → (j < length rows') × (q.est (row rows' j).state.words ≡ Steps 0) × (j < q.room)
one_found (reached g z) = ((gen_new g).there, (gen_new g).est ∙ z, (gen_new g).less)

pub turn_found : {q : Setting} {rows : List Row} {w : List Entry} {j : ℕ} {rows' : List Row} {w' : List Entry} → Turn q rows w (Ok (Some j)) rows' w' → (j < length rows') × (q.est (row rows' j).state.words ≡ Steps 0) × (j < q.room)
turn_found t = one_found t.expands.last

pub turn_room : (est : State → Estimate) (pref : State → ℕ → Bool) (acts : List Action) (m n : ℕ) → m ≡ n → {rows : List Row} {w : List Entry} {y : Result (Option ℕ) StoreFull} {rows' : List Row} {w' : List Entry}
    → Turn (setting est pref acts m) rows w y rows' w' → Turn (setting est pref acts n) rows w y rows' w'
turn_room est pref acts m n e {rows} {w} {y} {rows'} {w'} t = subst (λ z. Turn (setting est pref acts z) rows w y rows' w') e t

pub run_empty : {q : Setting} {budget : ℕ} {s : State} {rows : List Row} (w : List Entry) {n : ℕ} → Explored q budget s rows w n → length w ≡ 0 → Explored q budget s rows [] n
run_empty [] r e = r
run_empty (x ∷ w) r e = absurd (omega arith)

pub begun : (q : Setting) (budget : ℕ) (s : BitSet 4) (h : ℕ) (rows : List Row) (w : List Entry) → q.est s.words ≡ Steps h → 0 < h
    → rows ≡ first_row s (Steps h) ∷ [] → IsPermutation (entry 0 h 0 ∷ []) w → Explored q budget (row rows 0).state.words rows w 0
begun q budget s h rows w is pos first sh =
    let same : root q s.words ∷ [] ≡ rows = ap (λ (z : Estimate). first_row s z ∷ []) is ∙ sym first in
    subst (λ rs. Explored q budget (row rs 0).state.words rs w 0) same (begin is pos sh)

pub searched_from : (est : State → Estimate) (pref : State → ℕ → Bool) (acts : List Action) (m n : ℕ) → m ≡ n → (budget : ℕ) (s t : State) (a : Answer) (k : ℕ) → s ≡ t → Searched (setting est pref acts m) budget s a k → Searched (setting est pref acts n) budget t a k
searched_from est pref acts m n e budget s t a k f h = subst (λ z. Searched (setting est pref acts n) budget z a k) f (subst (λ z. Searched (setting est pref acts z) budget s a k) e h)

-- entries wait, with what the count of expansions does
module _ {q : Setting} {budget : ℕ} {s : State} {rows : List Row} {w : List Entry} {n : ℕ} (r : Explored q budget s rows w n) (budget' : ℕ) (same : budget' ≡ budget) (after : ℕ) where
  pub spent_at : 0 < length w → (halt : Halt) → Counts budget' n (Err halt) after → (out : List ℕ) → Searched q budget s (said (verdict_of (Err halt)) out) after
  spent_at some halts.Spent c out =
      subst (λ z. Searched q budget s spent z) (sym c.1) (out_of_budget r some (c.0 ∙ same))
  spent_at some halts.Full c out = absurd c

  module _ (c : Counts budget' n (Ok tt) after) {rows' : List Row} {w' : List Entry} where
    pub turned : Turn q rows w (Ok None) rows' w' → Explored q budget s rows' w' after
    turned t = subst (λ z. Explored q budget s rows' w' z) (sym c.1) (turn r (omega (arith, c.0)) t)

    pub full_at : {e : StoreFull} → Turn q rows w (Err e) rows' w' → Searched q budget s answers.full after
    full_at t = subst (λ z. Searched q budget s answers.full z) (sym c.1) (met_full r (omega (arith, c.0)) t)

    pub found_at : {j : ℕ} → Turn q rows w (Ok (Some j)) rows' w' → (p : List ℕ) → p ≡ path rows' j → Searched q budget s (plan p) after
    found_at {j} t p e = subst (λ z. Searched q budget s (plan z) after) (sym e) (subst (λ z. Searched q budget s (plan (path rows' j)) z) (sym c.1) (found r (omega (arith, c.0)) t))
