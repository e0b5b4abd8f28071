-- Rows with one more at the end.
use Rattle.std.proofs.Common.{◌≡◌, ℕ, ◌+◌, ◌<◌, List, [], ◌∷◌, ◌++◌, length, sym, subst, arith, length-append}
use native.Mathlib.Decide.{dec_lt}
use lib.ListN.{get_or-append}
use lib.Seq.{get_or-append_seam}
use Rattle.closed_list.specs.declared.row.Row.{Row}
use Rattle.closed_list.specs.Rows.{no_row, row}

pub length_push : {X : Type 0} (xs : List X) (x : X) → length (xs ++ x ∷ []) ≡ length xs + 1
length_push xs x = length-append xs (x ∷ [])

module _ (rows : List Row) (r : Row) where
  pub row_old : (j : ℕ) → j < length rows → row (rows ++ r ∷ []) j ≡ row rows j
  row_old j lt = get_or-append rows (r ∷ []) no_row j lt

  pub row_new : row (rows ++ r ∷ []) (length rows) ≡ r
  row_new = get_or-append_seam rows r [] no_row

  -- what holds of each old row and of the new one holds of each
  pub each_push : (P : ℕ → Row → Type 0) → ((j : ℕ) → j < length rows → P j (row rows j)) → P (length rows) r → (j : ℕ) → j < length (rows ++ r ∷ []) → P j (row (rows ++ r ∷ []) j)
  each_push P old new j lt =
      elim (dec_lt j (length rows)) [
        | yes l ↦ subst (P j) (sym (row_old j l)) (old j l)
        | no ge ↦ let e : length rows ≡ j = omega (arith, length_push rows r) in subst (λ m. P m (row (rows ++ r ∷ []) m)) e (subst (P (length rows)) (sym row_new) new)
      ]
