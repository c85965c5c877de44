use Rattle.value_meaning.proofs.Placed.{placed-decides}
use Rattle.value_meaning.proofs.definitions.have_distinct_names.Goals as goal

pub returns : goal.returns
returns c =
    placed-decides c.args.types.now c.in_ok-places.places c.is_some.result c.is_some.ensures
    c.in_ok-places.ensures.some c.in_ok-places.ensures.none
