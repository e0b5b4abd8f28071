use Rattle.std.proofs.Common.{ap, sym, ◌∙◌}
use Rattle.std.proofs.lemmas.Slice.Eq.{slice_eq-Decides}
use Rattle.std.proofs.lemmas.Bool.Decides.{Decides-eqb}
use Rattle.closed_list.proofs.LinkedRows.{row_at}
use Rattle.closed_list.proofs.scanned.has_state.Goals as goal

pub returns : goal.returns
returns c =
    let same = slice_eq-Decides Decides-eqb _ c.args.state.now.words c.eq.result c.eq.ensures in
    let at = ap (λ r. r.state.words) (row_at c.args.entries.now c.args.number _ c.requires) in
    (λ e. at ∙ same.0 e, λ e. same.1 (sym at ∙ e))
