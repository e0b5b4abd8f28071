-- Lemmas on the lines of an input.
use Rattle.std.proofs.Common.{◌≡◌, ℕ, ◌<◌, Bool, true, false, cond, eqb, ◌⊎◌, List, [], ◌∷◌, ◌++◌, ◌≢◌, length, refl, ap, ◌∙◌, inl, inr, ⊎_elim, append_assoc, arith, length-append}
use Rattle.std.proofs.lemmas.Bool.{cond_both, eqb-true, eqb-false, ne_eqb}
use Rattle.std.proofs.lemmas.List.Elements.{All-cons, All-head, All-nil, All-tail}
use Rattle.std.specs.List.{flat_map, All}
use Rattle.input_lines.specs.Cuts.{before, behind}
use Rattle.input_lines.specs.Lines.{ended, First, lines, onto, Whole, EndedLines, OpenLastLine, WholeLines, NothingElse}
use Rattle.input_lines.proofs.Cuts.{before_lacks, before_stops, before_within, behind_lt}

onto_next : (b : ℕ) (bs : List ℕ) → (0 < length bs → lines bs ≡ before 10 bs ∷ lines (behind 10 bs)) → onto b (lines bs) ≡ (b ∷ before 10 bs) ∷ lines (behind 10 bs)
onto_next b [] next = refl
onto_next b (a ∷ bs) next = ap (onto b) (next (omega arith))

pub lines_next : (bs : List ℕ) → 0 < length bs → lines bs ≡ before 10 bs ∷ lines (behind 10 bs)
lines_next [] some = absurd (omega arith)
lines_next (b ∷ bs) some =
    elim (eqb b 10) as (λ (t : Bool). cond t ([] ∷ lines bs) (onto b (lines bs)) ≡ cond t [] (b ∷ before 10 bs) ∷ lines (cond t bs (behind 10 bs))) [
      | true ↦ refl
      | false ↦ onto_next b bs (lines_next bs)
    ]

pub first_line : (input line rest : List ℕ) → 0 < length input → line ≡ before 10 input → rest ≡ behind 10 input → First input line rest
first_line input line rest some el er =
    record {
      line_is = el;
      rest_is = er;
      all = rw (el, er) (lines_next input some);
      shorter = rw er (behind_lt 10 input some);
      end = rw el (record { within = before_within 10 input; before = before_lacks 10 input; there = before_stops 10 input });
    }

-- no line end
abbrev Other : ℕ → Type 0
Other b = b ≢ 10

-- a line that is ended
lines_line : (l bs : List ℕ) → Whole l → lines (l ++ 10 ∷ bs) ≡ l ∷ lines bs
lines_line [] bs w = refl
lines_line (b ∷ l) bs w =
    ap (λ (t : Bool). cond t ([] ∷ lines (l ++ 10 ∷ bs)) (onto b (lines (l ++ 10 ∷ bs)))) (ne_eqb b 10 (All-head Other b l w)) ∙ ap (onto b) (lines_line l bs (All-tail Other b l w))

-- one that is not
lines_open : (b : ℕ) (l : List ℕ) → Whole (b ∷ l) → lines (b ∷ l) ≡ (b ∷ l) ∷ []
lines_open b [] w = ap (λ (t : Bool). cond t ([] ∷ []) ((b ∷ []) ∷ [])) (ne_eqb b 10 (All-head Other b [] w))
lines_open b (a ∷ l) w = ap (λ (t : Bool). cond t ([] ∷ lines (a ∷ l)) (onto b (lines (a ∷ l)))) (ne_eqb b 10 (All-head Other b (a ∷ l) w)) ∙ ap (onto b) (lines_open a l (All-tail Other b (a ∷ l) w))

pub ended_lines : EndedLines
ended_lines [] w = refl
ended_lines (l ∷ ls) w =
    ap lines (append_assoc l (10 ∷ []) (flat_map ended ls)) ∙ lines_line l (flat_map ended ls) (All-head Whole l ls w) ∙ ap (λ (ms : List (List ℕ)). l ∷ ms) (ended_lines ls (All-tail Whole l ls w))

pub open_last_line : OpenLastLine
open_last_line [] [] w v some = absurd (omega arith)
open_last_line [] (b ∷ l) w v some = lines_open b l v
open_last_line (m ∷ ls) l w v some =
    ap lines (append_assoc (ended m) (flat_map ended ls) l ∙ append_assoc m (10 ∷ []) (flat_map ended ls ++ l))
    ∙ lines_line m (flat_map ended ls ++ l) (All-head Whole m ls w)
    ∙ ap (λ (ms : List (List ℕ)). m ∷ ms) (open_last_line ls l (All-tail Whole m ls w) v some)

whole_onto : (b : ℕ) (ls : List (List ℕ)) → (b ≡ 10 → ⊥) → All Whole ls → All Whole (onto b ls)
whole_onto b [] differs w = All-cons Whole (b ∷ []) [] (All-cons Other b [] differs (All-nil Other)) (All-nil Whole)
whole_onto b (l ∷ ls) differs w = All-cons Whole (b ∷ l) ls (All-cons Other b l differs (All-head Whole l ls w)) (All-tail Whole l ls w)

pub whole_lines : WholeLines
whole_lines [] = All-nil Whole
whole_lines (b ∷ bs) =
    cond_both (eqb b 10) ([] ∷ lines bs) (onto b (lines bs)) (All Whole) (λ e. All-cons Whole [] (lines bs) (All-nil Other) (whole_lines bs)) (λ e. whole_onto b (lines bs) (eqb-false b 10 e) (whole_lines bs))

-- the lines ls make up bs, the last one ended or not
abbrev Makes : List (List ℕ) → List ℕ → Type 0
Makes ls bs = (flat_map ended ls ≡ bs) ⊎ (flat_map ended ls ≡ bs ++ 10 ∷ [])

makes_onto : (b : ℕ) (ls : List (List ℕ)) (bs : List ℕ) → Makes ls bs → Makes (onto b ls) (b ∷ bs)
makes_onto b [] bs m =
    ⊎_elim (λ e. inr (ap (λ (ys : List ℕ). b ∷ ys ++ 10 ∷ []) e)) (λ e. absurd (omega (arith, ap length e, length-append bs (10 ∷ [])))) m
makes_onto b (l ∷ ls) bs m = ⊎_elim (λ e. inl (ap (λ (ys : List ℕ). b ∷ ys) e)) (λ e. inr (ap (λ (ys : List ℕ). b ∷ ys) e)) m

makes_end : (b : ℕ) (ls : List (List ℕ)) (bs : List ℕ) → b ≡ 10 → Makes ls bs → Makes ([] ∷ ls) (b ∷ bs)
makes_end b ls bs is m =
    rw is (⊎_elim (λ e. inl (ap (λ (ys : List ℕ). 10 ∷ ys) e)) (λ e. inr (ap (λ (ys : List ℕ). 10 ∷ ys) e)) m)

pub nothing_else : NothingElse
nothing_else [] = inl refl
nothing_else (b ∷ bs) =
    cond_both (eqb b 10) ([] ∷ lines bs) (onto b (lines bs)) (λ (ls : List (List ℕ)). Makes ls (b ∷ bs))
    (λ e. makes_end b (lines bs) bs (eqb-true b 10 e) (nothing_else bs))
    (λ e. makes_onto b (lines bs) bs (nothing_else bs))
