-- The rows of either phase hang together, by what one action keeps.
use Rattle.std.proofs.Common.{◌≡◌, ℕ, ◌+◌, ◌<◌, ◌≤◌, ◌⊎◌, List, [], ◌∷◌, ◌++◌, length, Ok, Some, Option, Result, sym, refl, ap, ◌∙◌, subst, inl, inr, arith}
use Rattle.strips.specs.Semantics.{State, result}
use Rattle.closed_list.specs.declared.row.Row.{Row}
use Rattle.engine.specs.declared.model.Entered.{Entered}
use Rattle.engine.specs.declared.model.StoreFull.{StoreFull}
use Rattle.strips.specs.Sound.{act}
use Rattle.engine.specs.Reach.{Can}
use Rattle.closed_list.specs.Rows.{row, At, Absent, Different}
use Rattle.closed_list.proofs.Differ.{different_push}
use Rattle.closed_list.proofs.Pushed.{each_push, length_push, row_new, row_old}
use Rattle.engine.specs.Generation.{Setting, child, child_row, root, Generates, cannot, known, no_place, enters}

-- row r comes from row r .parent by its action
pub record Link (q : Setting) (rows : List Row) (r : Row) : Type 0 where
  pub there : r.parent < length rows
  pub far : r.distance ≡ (row rows r.parent).distance + 1
  pub can : Can q.acts r.action (row rows r.parent).state.words
  pub is : r.state.words ≡ result (act q.acts r.action) (row rows r.parent).state.words

abbrev pub First : State → Row → Type 0
First s r = (r.state.words ≡ s) × (r.distance ≡ 0) × (r.parent ≡ 0)

pub record Tree (q : Setting) (s : State) (rows : List Row) : Type 0 where
  pub top : At rows s 0
  pub linked : (j : ℕ) → j < length rows → First s (row rows j) ⊎ Link q rows (row rows j)
  pub different : Different rows
  pub near : (j : ℕ) → j < length rows → (row rows j).distance ≤ j
  pub parents : (j : ℕ) → j < length rows → (row rows j).parent < length rows
  pub told : (j : ℕ) → j < length rows → (row rows j).estimate ≡ q.est (row rows j).state.words

pub root_tree : (q : Setting) (s : State) → Tree q s (root q s ∷ [])
root_tree q s =
    record {
      top = (omega arith, refl);
      linked = each_push [] (root q s) (λ j z. First s z ⊎ Link q (root q s ∷ []) z) (λ j l. absurd (omega arith)) (inl (refl, refl, refl));
      different = λ a b al bl same. omega arith;
      near = each_push [] (root q s) (λ j x. x.distance ≤ j) (λ j l. absurd (omega arith)) (omega arith);
      parents = each_push [] (root q s) (λ j x. x.parent < 1) (λ j l. absurd (omega arith)) (omega arith);
      told = each_push [] (root q s) (λ j x. x.estimate ≡ q.est x.state.words) (λ j l. absurd (omega arith)) refl;
    }

link_more : (q : Setting) (rows : List Row) (x r : Row) → Link q rows r → Link q (rows ++ x ∷ []) r
link_more q rows x r l =
    let e : row rows r.parent ≡ row (rows ++ x ∷ []) r.parent = sym (row_old rows x r.parent l.there) in
    record {
      there = omega (arith, l.there, length_push rows x);
      far = subst (λ z. r.distance ≡ z.distance + 1) e l.far;
      can = subst (λ z. Can q.acts r.action z.state.words) e l.can;
      is = subst (λ z. r.state.words ≡ result (act q.acts r.action) z.state.words) e l.is;
    }

-- a tree in which row i has the record r
pub record Grown (q : Setting) (s : State) (i : ℕ) (r : Row) (rows : List Row) : Type 0 where
  pub tree : Tree q s rows
  pub there : i < length rows
  pub is : r ≡ row rows i

pub row_grown : {q : Setting} {s : State} {i : ℕ} {rows : List Row} → Tree q s rows → i < length rows → Grown q s i (row rows i) rows
row_grown t l = record { tree = t; there = l; is = refl }

pub grown_near : {q : Setting} {s : State} {i : ℕ} {r : Row} {rows : List Row} → Grown q s i r rows → r.distance < length rows
grown_near {i = i} {r = r} {rows = rows} g = omega (arith, g.tree.near i g.there, g.there, ap (λ z. z.distance) g.is)

pub grown_push : (q : Setting) (s : State) (i k : ℕ) (r : Row) (rows : List Row) → Grown q s i r rows → Can q.acts k r.state.words → Absent rows (child q r k) → Grown q s i r (rows ++ child_row q i r k ∷ [])
grown_push q s i k r rows g can absent =
    let x : Row = child_row q i r k in
    let t = g.tree in
    let e = g.is in
    let len = length_push rows x in
    let near : r.distance < length rows = grown_near g in
    let new : Link q rows x = record { there = g.there; far = ap (λ z. z.distance + 1) e; can = subst (λ z. Can q.acts k z.state.words) e can; is = ap (λ z. result (act q.acts k) z.state.words) e } in
    record {
      tree = record {
        top = (omega arith, ap (λ z. z.state.words) (row_old rows x 0 t.top.0) ∙ t.top.1);
        linked = each_push rows x (λ j z. First s z ⊎ Link q (rows ++ x ∷ []) z)
            (λ j l. elim (t.linked j l) [ inl f ↦ inl f | inr h ↦ inr (link_more q rows x (row rows j) h) ])
            (inr (link_more q rows x x new));
        different = different_push rows x t.different absent;
        near = each_push rows x (λ j z. z.distance ≤ j) t.near (omega arith);
        parents = each_push rows x (λ j z. z.parent < length (rows ++ x ∷ [])) (λ j l. let h = t.parents j l in omega arith) (omega (arith, g.there));
        told = each_push rows x (λ j z. z.estimate ≡ q.est z.state.words) t.told refl;
      };
      there = omega (arith, g.there);
      is = e ∙ sym (row_old rows x i g.there);
    }

-- what one action of row i keeps
pub gen_grown : {q : Setting} {s : State} {i : ℕ} {r : Row} {k : ℕ} {rows : List Row} {y : Result (Option Entered) StoreFull} {rows' : List Row}
    → Generates q i r k rows y rows' → k < length q.acts → Grown q s i r rows → Grown q s i r rows'
gen_grown (cannot no-fits) kl g = g
gen_grown (known j h a) kl g = g
gen_grown (no_place h a e) kl g = g
gen_grown {q} {s} {i} {r} {k} {rows} (enters h a l) kl g = grown_push q s i k r rows g (kl, h) a

pub gen_longer : {q : Setting} {i : ℕ} {r : Row} {k : ℕ} {rows : List Row} {y : Result (Option Entered) StoreFull} {rows' : List Row} → Generates q i r k rows y rows' → length rows ≤ length rows'
gen_longer (cannot x) = omega arith
gen_longer (known j h a) = omega arith
gen_longer (no_place h a e) = omega arith
gen_longer {q} {i} {r} {k} {rows} (enters h a l) = omega (arith, length_push rows (child_row q i r k))

-- the row that an action entered
pub record New (q : Setting) (e : Entered) (rows rows' : List Row) : Type 0 where
  pub there : e.row < length rows'
  pub last : e.row ≡ length rows
  pub count : length rows' ≡ length rows + 1
  pub less : e.row < q.room
  pub est : q.est (row rows' e.row).state.words ≡ e.estimate

pub gen_new : {q : Setting} {i : ℕ} {r : Row} {k : ℕ} {rows : List Row} {e : Entered} {rows' : List Row} → Generates q i r k rows (Ok (Some e)) rows' → New q e rows rows'
gen_new {q} {i} {r} {k} {rows} (enters h a l) =
    let c : Row = child_row q i r k in
    record { there = omega (arith, length_push rows c); last = refl; count = length_push rows c; less = l; est = ap (λ z. q.est z.state.words) (row_new rows c) }

-- what an action that entered a row says
pub record Entering (q : Setting) (i : ℕ) (r : Row) (k : ℕ) (rows : List Row) (e : Entered) (rows' : List Row) : Type 0 where
  pub last : e.row ≡ length rows
  pub est : q.est (child q r k) ≡ e.estimate
  pub are : rows ++ child_row q i r k ∷ [] ≡ rows'

pub gen_entering : {q : Setting} {i : ℕ} {r : Row} {k : ℕ} {rows : List Row} {e : Entered} {rows' : List Row} → Generates q i r k rows (Ok (Some e)) rows' → Entering q i r k rows e rows'
gen_entering (enters h a l) = record { last = refl; est = refl; are = refl }
