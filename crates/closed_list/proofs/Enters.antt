-- Rows that are offered to a store one after another.
use Rattle.std.proofs.Common.{◌≡◌, ℕ, ◌+◌, ◌<◌, ◌≤◌, List, [], ◌∷◌, ◌++◌, length, get_or, Err, sym, refl, ap, ◌∙◌, subst, inl, inr, arith}
use Rattle.std.proofs.lemmas.List.{get_or_default}
use Rattle.closed_list.specs.declared.row.Row.{Row}
use Rattle.closed_list.specs.declared.row.Refusal.{Refusal}
use Rattle.closed_list.specs.declared.row.Refusal.TheVariants.{Known, Full}
use Rattle.closed_list.specs.Rows.{Absent, At, Enter, no_row, row}
use Rattle.closed_list.specs.Entered.{Entered, Entering}
use Rattle.closed_list.proofs.Pushed.{length_push}

-- after k offers the store has this room and these rows, n of them new
pub record Offered (room : ℕ) (start offered : List Row) (k room' : ℕ) (rows : List Row) (n : ℕ) : Type 0 where
  pub way : Entering room start offered k rows
  pub kept : room' ≡ room
  pub new : length start + n ≡ length rows
  pub few : n ≤ k

pub offered_none : (room : ℕ) (start offered : List Row) → Offered room start offered 0 room start 0
offered_none room start offered = record { way = Entering.begins; kept = refl; new = omega arith; few = omega arith }

module _ {room : ℕ} {start offered : List Row} {k room' : ℕ} {rows : List Row} {n : ℕ} (so_far : Offered room start offered k room' rows n) where
  pub offered_entered : (d : Row) (room'' : ℕ) (rows' : List Row) (n' : ℕ) → k < length offered → Absent rows (get_or offered k d).state.words → length rows < room' → rows' ≡ rows ++ get_or offered k d ∷ [] → room'' ≡ room' → n' ≡ n + 1 → Offered room start offered (k + 1) room'' rows' n'
  offered_entered d room'' rows' n' lt absent few e same count =
      let at = get_or_default offered k no_row d lt in
      let way : Entering room start offered (k + 1) (rows ++ row offered k ∷ []) = Entering.entered so_far.way (subst (λ y. Absent rows y.state.words) (sym at) absent) (omega (arith, so_far.kept)) in
      let is : rows ++ row offered k ∷ [] ≡ rows' = ap (λ y. rows ++ y ∷ []) at ∙ sym e in
      record {
        way = subst (Entering room start offered (k + 1)) is way;
        kept = same ∙ so_far.kept;
        new = omega (arith, so_far.new, length_push rows (get_or offered k d), ap length e);
        few = omega (arith, so_far.few);
      }

  pub offered_known : (d : Row) (why : Refusal) (room'' : ℕ) (rows' : List Row) (n' : ℕ) → k < length offered → Enter room' rows (get_or offered k d) (Err why) rows' → why ≡ Known → room'' ≡ room' → n' ≡ n → Offered room start offered (k + 1) room'' rows' n'
  offered_known d why room'' rows' n' lt h is same count =
      let e : Enter room' rows (get_or offered k d) (Err Known) rows' = subst (λ w. Enter room' rows (get_or offered k d) (Err w) rows') is h in
      let at = get_or_default offered k no_row d lt in
      let way : Entering room start offered (k + 1) rows = Entering.passed e.0.0 so_far.way (subst (λ y. At rows y.state.words e.0.0) (sym at) e.0.1) in
      record {
        way = subst (Entering room start offered (k + 1)) (sym e.1) way;
        kept = same ∙ so_far.kept;
        new = omega (arith, so_far.new, ap length e.1);
        few = omega (arith, so_far.few);
      }

  pub offered_full : (d : Row) (why : Refusal) (rows' : List Row) → k < length offered → Enter room' rows (get_or offered k d) (Err why) rows' → why ≡ Full → Entered room start offered n rows'
  offered_full d why rows' lt h is =
      let e : Enter room' rows (get_or offered k d) (Err Full) rows' = subst (λ w. Enter room' rows (get_or offered k d) (Err w) rows') is h in
      let at = get_or_default offered k no_row d lt in
      let same : length rows ≡ room = e.1 ∙ so_far.kept in
      let still : Entered room start offered n rows = record {
        offers = k;
        way = so_far.way;
        ends = inr (lt, subst (λ y. Absent rows y.state.words) (sym at) e.0, same);
        new = so_far.new;
      } in
      subst (Entered room start offered n) (sym e.2) still

  pub offered_all : k ≡ length offered → Entered room start offered n rows
  offered_all all = record { offers = k; way = so_far.way; ends = inl all; new = so_far.new }
