-- A line is a command exactly where it is written as one.
use Rattle.std.proofs.Common.{◌≡◌, ℕ, ◌<◌, ◌≤◌, cond, eqb, List, [], ◌∷◌, length, Some, None, Option, sym, refl, ⊎_elim, arith, length-append}
use Rattle.std.proofs.lemmas.Bool.{cases_Bool, eqb-true}
use Rattle.input_lines.specs.Cuts.{before, behind}
use Rattle.input_lines.specs.Numbers.{numeral}
use Rattle.input_lines.proofs.Cuts.{before_joined, behind_joined, rejoined}
use Rattle.input_lines.proofs.Digits.{digits_lack, numeral_parts}
use Rattle.console_lines.specs.declared.command.Command.{Command}
use Rattle.console_lines.specs.declared.command.Command.TheVariants.{Step, Skip}
use Rattle.console_lines.specs.Commands.{alone, both, budgets, command}
use Rattle.console_lines.specs.Written.{Written, plan, step, skip}

none_some : {c : Command} {X : Type 0} → None ≡ Some c → X
none_some e = let z : ◌≡◌ {A = ℕ} 0 1 = cc in absurd (omega arith)

some_same : {c d : Command} → Some c ≡ Some d → c ≡ d
some_same e = cc

-- what is written is read
pub written_read : (line : List ℕ) (c : Command) → Written line c → command line ≡ Some c
written_read line c (plan hs fs {h} {f} eh ef) =
    let lacks = digits_lack 32 hs refl (numeral_parts hs h eh).digits in
    rw (before_joined 32 hs fs lacks, behind_joined 32 hs fs lacks, eh, ef)
written_read line c step = refl
written_read line c skip = refl

-- two numbers with a space between
two_written : (ns : List ℕ) (c : Command) (oh of : Option ℕ) → numeral (before 32 ns) ≡ oh → numeral (behind 32 ns) ≡ of → both oh of ≡ Some c → Written (80 ∷ 32 ∷ ns) c
two_written ns c None of eh ef e = none_some e
two_written ns c (Some h) None eh ef e = none_some e
two_written ns c (Some h) (Some f) eh ef e =
    let there = rejoined 32 ns (numeral_parts (behind 32 ns) f ef).some in
    rw (← some_same e, there) (plan (before 32 ns) (behind 32 ns) eh ef)

budgets_written : (bs : List ℕ) (c : Command) → budgets bs ≡ Some c → Written (80 ∷ bs) c
budgets_written [] c e = none_some e
budgets_written (b ∷ bs) c e =
    ⊎_elim
    (λ is. rw (eqb-true b 32 is) (two_written bs c _ _ refl refl (rw is at e)))
    (λ is. none_some (rw is at e))
    (cases_Bool (eqb b 32))

alone_written : (b : ℕ) (d c : Command) (bs : List ℕ) → Written (b ∷ []) d → alone d bs ≡ Some c → Written (b ∷ bs) c
alone_written b d c [] w e = rw (← some_same e) w
alone_written b d c (a ∷ bs) w e = none_some e

-- what is read was written
pub read_written : (line : List ℕ) (c : Command) → command line ≡ Some c → Written line c
read_written [] c e = none_some e
read_written (b ∷ bs) c e =
    ⊎_elim
    (λ is. rw (eqb-true b 80 is) (budgets_written bs c (rw is at e)))
    (λ p.
    let e₁ : cond (eqb b 83) (alone Step bs) (cond (eqb b 88) (alone Skip bs) None) ≡ Some c = rw p at e in
    ⊎_elim
    (λ is. rw (eqb-true b 83 is) (alone_written 83 Step c bs step (rw is at e₁)))
    (λ s.
    let e₂ : cond (eqb b 88) (alone Skip bs) None ≡ Some c = rw s at e₁ in
    ⊎_elim (λ is. rw (eqb-true b 88 is) (alone_written 88 Skip c bs skip (rw is at e₂))) (λ x. none_some (rw x at e₂)) (cases_Bool (eqb b 88)))
    (cases_Bool (eqb b 83)))
    (cases_Bool (eqb b 80))

-- a command is a short line
written_short : (line : List ℕ) (c : Command) → Written line c → length line ≤ 17
written_short line c (plan hs fs {h} {f} eh ef) =
    let lh = (numeral_parts hs h eh).few in
    let lf = (numeral_parts fs f ef).few in
    let l = length-append hs (32 ∷ fs) in
    omega arith
written_short line c step = omega arith
written_short line c skip = omega arith

pub long_none : (line : List ℕ) (r : Option Command) → r ≡ command line → 32 < length line → r ≡ None
long_none line None e l = refl
long_none line (Some c) e l = absurd (let s = written_short line c (read_written line c (sym e)) in omega arith)
