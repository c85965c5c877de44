-- The place found, said of the map of names.
use Rattle.irdl_bytes.proofs.FirstPlaces.{is-some-map-of, first-found, named-found}
use Rattle.irdl_bytes.proofs.mem_files.index_of.Goals as goal

pub returns-clause-known : goal.returns-clause-known
returns-clause-known c =
    rw c.position_of.ensures (is-some-map-of c.args.files.now c.args.name.now)

pub returns-clause-first : goal.returns-clause-first
returns-clause-first c =
    first-found c.args.files.now c.args.name.now c.position_of.result c.position_of.ensures

pub returns-clause-named : goal.returns-clause-named
returns-clause-named c =
    named-found c.args.files.now c.args.name.now c.position_of.result c.position_of.ensures
