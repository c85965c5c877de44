use Rattle.std.proofs.Common.{◌≡◌, ◌∙◌, ap, min, pos, neg_ℤ, if◌then◌else◌, to_z, of_z, rules}
use Rattle.std.specs.Int.{w128}
use Rattle.value_meaning.proofs.Kept.{residue-is, residue-cut}
use Rattle.value_meaning.specs.declared.digits.TheConstants.{TOO_GREAT}
use Rattle.grammar.specs.Looks.{number_in}
use Rattle.value_meaning.specs.Spelled.{residue}
use Rattle.value_meaning.proofs.number.kept_number.Goals as goal

pub returns : goal.returns
returns c =
    let kind = c.args.kind in
    let negative = c.args.negative in
    let n = number_in c.args.digits.now in
    let number : c.signed.result
    ≡ (if negative then neg_ℤ (pos (min n TOO_GREAT)) else pos (min n TOO_GREAT)) = cc in
    let passed : to_z w128 (of_z w128 c.signed.result) ≡ c.signed.result = search rules in
    residue-is kind _ c.residue.result c.residue.ensures.some c.residue.ensures.none
    ∙ ap (residue kind) (passed ∙ number) ∙ residue-cut kind negative n
