-- The types of some values.
--
--   ids_of types     the ids of the types, in order
use Rattle.std.specs.Prelude.{List, map}
use Rattle.attr_value.specs.declared.head.ValueId.{ValueId}
use Rattle.op_verifier.specs.declared.operands.Types.{Types}
use Rattle.op_verifier.specs.declared.operands.Types.TheVariants.{Listed, Stored}
use Rattle.op_verifier.specs.Seen.{type_in}

-- the ids of the listed types, or of the types of the values with these numbers
abbrev pub ids_of : Types → List ValueId
ids_of (Listed ids) = ids.now
ids_of (Stored store numbers) = map (type_in store.now) numbers.now
