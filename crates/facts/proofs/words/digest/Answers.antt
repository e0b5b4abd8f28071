use Rattle.std.proofs.Common.{◌≡◌, fold, ap, ◌∙◌, rules}
use Rattle.facts.specs.Digest.{digest, stirred}
use Rattle.facts.proofs.words.digest.Goals as goal

pub returns : goal.returns
unfolding digest
returns c =
    let mixed : c.fold-mixed.result ≡ fold stirred 0 c.args.words.now = search rules in
    c.stir.ensures ∙ ap (λ h. stirred h 0) mixed
