-- The way back from a row, written from its end.
use Rattle.std.proofs.Common.{◌≡◌, ℕ, zero, suc, ◌-◌, ◌<◌, ◌≤◌, List, [], ◌∷◌, ◌++◌, length, take, drop, set, sym, ap, ◌∙◌, subst, append_assoc, append-nil, arith, length-set, drop_of_length-le, length-take, drop-cons, get_or-set_same, drop-set-lt}
use lib.Seq.{take-set-lt}
use Rattle.closed_list.specs.declared.row.Row.{Row}
use Rattle.closed_list.specs.Rows.{row}
use Rattle.engine.specs.Paths.{back}

pub trace_start : (rows : List Row) (r : Row) (n : ℕ) (out p : List ℕ) → back rows n r ≡ p → back rows n r ++ drop n (take n out) ≡ p
trace_start rows r n out p e =
    ap (λ z. back rows n r ++ z) (drop_of_length-le (take n out) {i = n} (omega (arith, length-take n out))) ∙ append-nil (back rows n r) ∙ e

written : (n m : ℕ) (out : List ℕ) (a : ℕ) → m < n → n ≤ length out → drop m (take n (set out m a)) ≡ a ∷ drop (suc m) (take n out)
written n m out a lt fits =
    let T : List ℕ = take n out in
    let in' : m < length T = omega (arith, length-take n out) in
    ap (drop m) (take-set-lt n out m a lt)
    ∙ drop-cons (set T m a) m 0 (omega (arith, length-set T m a))
    ∙ ap (λ x. x ∷ drop (suc m) (set T m a)) (get_or-set_same T m a 0 in')
    ∙ ap (λ z. a ∷ z) (drop-set-lt (suc m) T m a (omega arith))

pub trace_next : (rows : List Row) (r : Row) (d n : ℕ) (out p : List ℕ) (next : Row) → 0 < d → d ≤ n → n ≤ length out → next ≡ row rows r.parent
    → back rows d r ++ drop d (take n out) ≡ p → back rows (d - 1) next ++ drop (d - 1) (take n (set out (d - 1) r.action)) ≡ p
trace_next rows r zero n out p next pos le fits is e = absurd (omega arith)
trace_next rows r (suc m) n out p next pos le fits is e =
    let less : m ≡ suc m - 1 = omega arith in
    subst (λ k. back rows k next ++ drop k (take n (set out k r.action)) ≡ p) less
    (ap (λ z. back rows m next ++ z) (written n m out r.action (omega arith) fits)
    ∙ ap (λ x. back rows m x ++ (r.action ∷ drop (suc m) (take n out))) is
    ∙ sym (append_assoc (back rows m (row rows r.parent)) (r.action ∷ []) (drop (suc m) (take n out)))
    ∙ e)
