use Rattle.std.proofs.Common.{◌≡◌, ℕ, List, length, get_or, sym, ap, ◌∙◌, arith}
use Rattle.std.proofs.lemmas.List.{length-map}
use Rattle.strips.specs.Records.{action_of, field}
use Rattle.strips.proofs.Faults.{header_none, size_first, all_within, all_clash_free, field_wide, field_small}
use Rattle.strips.proofs.Split.{faults_in, header_fields, records_actions}
use Rattle.strips.proofs.problem.Task.read.Goals as goal

pub returns-in_err-header-clause-fault : goal.returns-in_err-header-clause-fault
returns-in_err-header-clause-fault c = grind (arith, size_first)

pub returns-in_err-check_header-clause-fault : goal.returns-in_err-check_header-clause-fault
returns-in_err-check_header-clause-fault c = let e = faults_in _ _ _ c.in_ok-header.ensures.records in grind arith

pub returns-in_err-check_actions-clause-fault : goal.returns-in_err-check_actions-clause-fault
returns-in_err-check_actions-clause-fault c = let e = faults_in _ _ _ c.in_ok-header.ensures.records in grind arith

pub invariant_of-self : goal.invariant_of-self
invariant_of-self c =
    let bs : List ℕ = c.args.bytes.now in
    let header = header_none _ (sym c.in_ok-check_header.ensures) in
    let facts : c.read_field-facts.result.words ≡ field bs 0 2 = c.read_field-facts.ensures ∙ header_fields _ _ _ c.in_ok-header.ensures.records 2 (omega arith) in
    record {
      wide = ap length facts ∙ field_wide bs 0 2;
      small = λ k. let e = ap (λ (ws : List ℕ). get_or ws k 0) facts in let s = field_small bs 0 2 (λ k. (c.type_inv.bytes k).fits) k in omega arith;
      initial_within = rw (c.read_field-facts.ensures, c.read_field-self.ensures) header.0;
      goal_within = rw (c.read_field-facts.ensures, c.read_field-self-2.ensures) header.1;
      actions_within = rw c.fill_actions.ensures.items (all_within _ _ (sym c.in_ok-check_actions.ensures));
      clash_free = rw c.fill_actions.ensures.items (all_clash_free _ _ (sym c.in_ok-check_actions.ensures));
      few = omega (arith, c.in_ok-header.ensures.few, ap length c.fill_actions.ensures.items, length-map c.in_ok-header.actions.now action_of);
      room = omega arith;
    }

pub returns-clause-fault : goal.returns-clause-fault
returns-clause-fault c = let e = faults_in _ _ _ c.in_ok-header.ensures.records in grind arith

pub returns-clause-taken : goal.returns-clause-taken
returns-clause-taken c =
    let r = c.in_ok-header.ensures.records in
    record {
      facts = c.read_field-facts.ensures ∙ header_fields _ _ _ r 2 (omega arith);
      initial = c.read_field-self.ensures ∙ header_fields _ _ _ r 0 (omega arith);
      goal = c.read_field-self-2.ensures ∙ header_fields _ _ _ r 1 (omega arith);
      actions = c.fill_actions.ensures.items ∙ records_actions _ _ _ r;
    }
