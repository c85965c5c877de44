use Rattle.std.proofs.Common.{◌≡◌, ◌+◌, ◌∷◌, [], map, sym, ◌∙◌, subst}
use Rattle.std.specs.declared.option.Option.TheVariants.{Some, None}
use Rattle.attr_value.specs.declared.head.Head.TheVariants as h
use Rattle.value_meaning.specs.Judging.{Judges}
use Rattle.value_meaning.specs.Meaning.{claim_at, measures}
use Rattle.value_meaning.specs.Meaning as claim
use Rattle.value_meaning.specs.Spelled.{all_some, dim_of}
use Rattle.value_meaning.proofs.Parts.{kids-and, measured, shape-of, made-of-one}
use Rattle.value_meaning.proofs.Results.{ok-map}
use Rattle.value_meaning.proofs.part.shape.Goals as goal

pub returns-in-Some-clause-judged : goal.returns-in-Some-clause-judged
returns-in-Some-clause-judged c = λ g n spelled ms least x.
    let is : all_some (map (dim_of c.args.kind) c.args.dims.now) ≡ Some c.in-Some.dims =
    sym c.in_ok-dims.ensures ∙ c.in-Some.is in
    let mark = claim_at c.args.place (measures c.args.kind c.args.dims.now spelled) in
    rw is (ok-map c.of_types.result
    (λ j y. subst (λ whole. Judges g n whole
    (claim_at c.args.place (claim.types (spelled ∷ [])) ∷ mark ∷ ms) c.of_types.new.u j)
    (made-of-one g n c.args.place c.args.u.now (h.Shaped c.args.kind c.in-Some.dims) spelled) y)
    (c.of_types.ensures.judged g n (spelled ∷ []) (mark ∷ ms) least (λ kind e. absurd (cc))
    (shape-of g n c.args.place c.args.u.now c.args.kind c.args.dims.now c.in-Some.dims is)
    (kids-and g (n + 1) c.args.place c.args.u.now (spelled ∷ []) mark ms c.args.element
    (measured g (n + 1) c.args.place c.args.u.now c.args.kind c.args.dims.now c.in-Some.dims
    spelled is) x)))

pub returns-in-None-clause-judged : goal.returns-in-None-clause-judged
returns-in-None-clause-judged c = λ g n spelled ms least x.
    let is : all_some (map (dim_of c.args.kind) c.args.dims.now) ≡ None =
    sym c.in_ok-dims.ensures ∙ c.in-None.is in
    rw is (c.wrong_shape.ensures.judged g n spelled ms c.args.kind c.args.dims.now is x)
