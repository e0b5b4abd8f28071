-- Rows whose states are all different.
use Rattle.std.proofs.Common.{◌≡◌, List, [], ◌∷◌, ◌++◌, length, sym, ap, ◌∙◌, arith}
use native.Mathlib.Decide.{dec_lt}
use Rattle.closed_list.specs.declared.row.Row.{Row}
use Rattle.closed_list.specs.Rows.{Absent, Different, row}
use Rattle.closed_list.proofs.Pushed.{length_push, row_new, row_old}

pub different_nil : (rows : List Row) → rows ≡ [] → Different rows
different_nil rows e i j il jl same = absurd (omega (arith, il, ap length e))

pub different_push : (rows : List Row) (x : Row) → Different rows → Absent rows x.state.words → Different (rows ++ x ∷ [])
different_push rows x d absent a b al bl same =
    let len = length_push rows x in
    elim (dec_lt a (length rows)) [
      | yes al' ↦ elim (dec_lt b (length rows)) [
        | yes bl' ↦ d a b al' bl' (ap (λ z. z.state.words) (sym (row_old rows x a al')) ∙ same ∙ ap (λ z. z.state.words) (row_old rows x b bl'))
        | no bn ↦
            let be : b ≡ length rows = omega arith in
            let at_b : row (rows ++ x ∷ []) b ≡ x = ap (row (rows ++ x ∷ [])) be ∙ row_new rows x in
            absurd (absent a (al', ap (λ z. z.state.words) (sym (row_old rows x a al')) ∙ same ∙ ap (λ z. z.state.words) at_b))
      ]
      | no an ↦
          let ae : a ≡ length rows = omega arith in
          let at_a : row (rows ++ x ∷ []) a ≡ x = ap (row (rows ++ x ∷ [])) ae ∙ row_new rows x in
          elim (dec_lt b (length rows)) [
            | yes bl' ↦ absurd (absent b (bl', ap (λ z. z.state.words) (sym (row_old rows x b bl')) ∙ sym same ∙ ap (λ z. z.state.words) at_a))
            | no bn ↦ omega arith
          ]
    ]
