use Rattle.std.proofs.Common.{length, Err, sym, refl, ap, ◌∙◌, arith, length-take}
use Rattle.facts.specs.declared.set.BitSet.{BitSet}
use Rattle.planfile.proofs.Sizes.{few_records}
use Rattle.transcript.proofs.Ending.{bad_known, did_all, did_of, ends_refused, ends_whole, ends_flawed, from_empty}
use Rattle.transcript.proofs.run.follow.Goals as goal

pub list-requires : goal.list-requires
list-requires c =
    let few = few_records _ _ _ c.args.bytes.now (sym c.in-Ok.ensures.refusal) in
    let none = ap length c.requires.lines_value in
    omega arith

pub list-requires-in-Err-Bad : goal.list-requires-in-Err-Bad
list-requires-in-Err-Bad c =
    let known = bad_known _ _ _ _ c.args.bytes.now _ _ _ (c.in-Err-Bad.is ∙ ap Err c.in-Err-Bad.field-0-is) c.read.ensures.refusal c.read.ensures.reading in
    let few = few_records _ _ _ c.args.bytes.now (sym known.0) in
    let none = ap length c.requires.lines_value in
    omega (arith, length-take c.in-Err-Bad.record c.records-records.result.now)

pub returns-in-Ok-clause-ends : goal.returns-in-Ok-clause-ends
returns-in-Ok-clause-ends c =
    ends_whole _ _ _ _ _ _ _ (ap (λ (x : BitSet 4). x.words) c.initial.ensures.value) (ap (λ (x : BitSet 4). x.words) c.goal.ensures.value) _ _
    c.in-Ok.ensures.refusal (c.in-Ok.ensures.reading refl)
    (from_empty c.requires.lines_value c.list.ensures.items ∙ did_all _ _ c.records-records.ensures.list c.records-records.ensures.count) c.records-records.ensures.count

pub returns-in-Ok-clause-len : goal.returns-in-Ok-clause-len
returns-in-Ok-clause-len c =
    let few = few_records _ _ _ c.args.bytes.now (sym c.in-Ok.ensures.refusal) in
    let none = ap length c.requires.lines_value in
    omega arith

pub returns-in-Err-Refused-clause-ends : goal.returns-in-Err-Refused-clause-ends
returns-in-Err-Refused-clause-ends c =
    ends_refused _ _ _ _ _ _ _ (ap (λ (x : BitSet 4). x.words) c.initial.ensures.value) (ap (λ (x : BitSet 4). x.words) c.goal.ensures.value) c.in-Err-Refused.refusal _
    (rw c.in-Err-Refused.field-0-is at c.in-Err-Refused.ensures.refusal) c.requires.lines_value

pub returns-in-Err-Bad-clause-ends : goal.returns-in-Err-Bad-clause-ends
returns-in-Err-Bad-clause-ends c =
    let known = bad_known _ _ _ _ c.args.bytes.now _ _ _ (c.in-Err-Bad.is ∙ ap Err c.in-Err-Bad.field-0-is) c.read.ensures.refusal c.read.ensures.reading in
    ends_flawed _ _ _ _ _ _ _ (ap (λ (x : BitSet 4). x.words) c.initial.ensures.value) (ap (λ (x : BitSet 4). x.words) c.goal.ensures.value) _ _ _ known.0 known.1
    (from_empty c.requires.lines_value c.list-in-Err-Bad.ensures.items ∙ did_of _ _ _ c.records-records.ensures.list c.records-records.ensures.count known.2)

pub returns-in-Err-Bad-clause-len : goal.returns-in-Err-Bad-clause-len
returns-in-Err-Bad-clause-len c =
    let known = bad_known _ _ _ _ c.args.bytes.now _ _ _ (c.in-Err-Bad.is ∙ ap Err c.in-Err-Bad.field-0-is) c.read.ensures.refusal c.read.ensures.reading in
    let few = few_records _ _ _ c.args.bytes.now (sym known.0) in
    let none = ap length c.requires.lines_value in
    omega (arith, length-take c.in-Err-Bad.record c.records-records.result.now)
