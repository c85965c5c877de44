use Rattle.std.proofs.Common.{◌≡◌, ◌∙◌, sym, FitsSigned, w64, ℤ, to_z, of_z, rules, is_some, false}
use Rattle.std.specs.Int.{w128}
use Rattle.std.specs.Prelude.{Some}
use Rattle.std.proofs.lemmas.Int.{to_z-of_z}
use Rattle.attr_value.specs.declared.kind.IntKind.TheVariants.{Signless}
use Rattle.generic_syntax.specs.declared.cst.ItemCst.{ItemCst}
use Rattle.value_meaning.proofs.Kept.{residue-kept, kept-fits}
use Rattle.value_meaning.proofs.Items.{dense_item-number}
use Rattle.value_meaning.specs.Spelled.{looked_up, residue, signed_number, truths}
use Rattle.value_meaning.proofs.dense.dense_item.Goals as goal

-- the number that is kept fits 64 bits
fits : (width : _) (item : ItemCst) (n : ℤ)
    → residue (Signless width) (signed_number item.negative item.spelling) ≡ Some n
    → FitsSigned w64 n
fits width item n is = kept-fits width n
    (residue-kept (Signless width) (signed_number item.negative item.spelling) n is)

pub overflow_cast-result : goal.overflow_cast-result
overflow_cast-result c =
    let n = c.in-Some.n in
    let passed : to_z w128 (of_z w128 n) ≡ n = search rules in
    let kept = sym c.kept_number.ensures ∙ c.in-Some.is in
    rw passed (fits c.args.width c.args.item.now n kept)

pub returns-in-Some : goal.returns-in-Some
returns-in-Some c =
    let n = c.in-Some.n in
    let passed : to_z w128 (of_z w128 n) ≡ n = search rules in
    let kept = sym c.kept_number.ensures ∙ c.in-Some.is in
    let small : to_z w64 (of_z w64 n) ≡ n =
    to_z-of_z w64 n (fits c.args.width c.args.item.now n kept) in
    let none : is_some (looked_up truths c.args.item.now.spelling) ≡ false = search rules in
    rw (passed, small)
    (dense_item-number c.args.width c.args.item.now n c.if-width-eq1.false none kept)
