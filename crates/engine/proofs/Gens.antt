-- The constructors of `Generates` at the values that the code computes.
use Rattle.std.proofs.Common.{◌≡◌, ℕ, ◌+◌, ◌<◌, true, false, List, [], ◌∷◌, ◌++◌, length, Ok, Err, IsErrAnd, Result, Some, None, sym, ap, ◌∙◌, subst}
use Rattle.facts.specs.declared.set.BitSet.{BitSet}
use Rattle.closed_list.specs.declared.row.Row.{Row}
use Rattle.heuristic.specs.declared.estimate.Estimate.{Estimate}
use Rattle.engine.specs.declared.model.StoreFull.{StoreFull}
use Rattle.strips.specs.declared.action.Action.{Action}
use Rattle.strips.specs.Semantics.{applicable, result}
use Rattle.closed_list.specs.Rows.{At, Absent}
use Rattle.engine.specs.Generation.{Setting, IsAction, fits, child, child_row, Generates, cannot, known, no_place, enters}

abbrev pub entered : ℕ → Row → ℕ → BitSet 4 → Estimate → Row
entered i r k s x = record { state = s; parent = i; action = k; distance = r.distance + 1; estimate = x }

module _ (q : Setting) (i : ℕ) (r : Row) (k : ℕ) (a : Action) (is : IsAction q.acts k a) (rows : List Row) where
  pub cannot_at : applicable a r.state.words ≡ false → Generates q i r k rows (Ok None) rows
  cannot_at not-can = cannot (ap (λ z. applicable z r.state.words) (sym is.1) ∙ not-can)

  module _ (s : BitSet 4) (can : applicable a r.state.words ≡ true) (made : s.words ≡ result a r.state.words) where
    fit : fits q r k ≡ true
    fit = ap (λ z. applicable z r.state.words) (sym is.1) ∙ can

    same : s.words ≡ child q r k
    same = made ∙ ap (λ z. result z r.state.words) is.1

    pub known_at : (j : ℕ) → At rows s.words j → Generates q i r k rows (Ok None) rows
    known_at j at = known j fit (subst (λ x. At rows x j) same at)

    pub full_at : (full : StoreFull) → Absent rows s.words → length rows ≡ q.room → Generates q i r k rows (Err full) rows
    full_at full new e = no_place fit (subst (Absent rows) same new) e

    pub enters_at : Absent rows s.words → length rows < q.room → (x : Estimate) → x ≡ q.est s.words → (rows' : List Row) → rows' ≡ rows ++ entered i r k s x ∷ [] → (j : ℕ) → j ≡ length rows
        → Generates q i r k rows (Ok (Some (record { row = j; estimate = x }))) rows'
    enters_at new lt x x-is rows' are j j-is =
        let est : q.est (child q r k) ≡ x = ap q.est (sym same) ∙ sym x-is in
        let one : child_row q i r k ≡ entered i r k s x = ap (λ w. entered i r k (record { words = w }) (q.est (child q r k))) (sym same) ∙ ap (entered i r k s) est in
        let all : rows ++ child_row q i r k ∷ [] ≡ rows' = ap (λ y. rows ++ y ∷ []) one ∙ sym are in
        subst (λ n. Generates q i r k rows (Ok (Some (record { row = n; estimate = x }))) rows') (sym j-is)
        (subst (λ y. Generates q i r k rows (Ok (Some (record { row = length rows; estimate = y }))) rows') est
        (subst (λ z. Generates q i r k rows (Ok (Some (record { row = length rows; estimate = q.est (child q r k) }))) z) all (enters fit (subst (Absent rows) same new) lt)))

-- the error that `?` hands on
pub handed_on : {X Y : Type 0} (r : Result X Y) (y : Y) → IsErrAnd r (λ e. e ≡ y) → r ≡ Err y
handed_on (Ok x) y h = absurd h
handed_on (Err e) y h = ap Err h
