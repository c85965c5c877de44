-- What the parts of an operation ask of an assignment.
--
--   HasSegments a entries values given    the values fall into segments, whose values are those of
--                                         the entries' variables
--   HasParts d o a                        all but the body of the definition d is met by a
--   types_from m n k                      the types of k values of a module, from the number n on
--   root_of n slot                        the variable n with its value, where it has one
--   roots_of n slots                      each variable that has a value, with it; the first
--                                         has the number n
--
-- Inside: no public clause rests on this.
use Rattle.std.specs.Prelude.{◌≡◌, ℕ, zero, suc, ◌+◌, List, [], ◌∷◌, ◌++◌, length, ℤ}
use Rattle.std.specs.List.{AllByRecursion}
use Rattle.std.specs.declared.option.Option.{Option}
use Rattle.std.specs.declared.option.Option.TheVariants.{Some, None}
use Rattle.attr_value.specs.declared.head.ValueId.{ValueId}
use Rattle.attr_value.specs.Values.{Value}
use Rattle.dialect_defs.specs.declared.body.VarId.{VarId}
use Rattle.dialect_defs.specs.declared.definition.OpDef.{OpDef}
use Rattle.dialect_defs.specs.declared.entry.Entry.{Entry}
use Rattle.dialect_defs.specs.Assignments.{Assignment}
use Rattle.dialect_defs.specs.Operations.{Operation, EntriesHave, AttrHas, RegionsHave}
use Rattle.dialect_defs.specs.Operations.{attr_at, given_sizes}
use Rattle.dialect_defs.specs.Operations.{operand_sizes_key, result_sizes_key}
use Rattle.dialect_defs.specs.Segments.{Segments, parts}
use Rattle.ir_store.specs.Store.{Module}
use Rattle.op_verifier.specs.Asked.{Slots}
use Rattle.op_verifier.specs.Seen.{type_in}

-- some sizes cut the values into segments, whose values are those of the entries' variables
pub record HasSegments (a : Assignment) (entries : List Entry) (values : List Value)
    (given : Option (List ℤ)) : Type 0 where
  pub sizes : List ℕ
  pub segments : Segments entries (length values) given sizes
  pub have : EntriesHave a entries (parts sizes values)

-- all that a definition says but its body is met by this assignment
pub record HasParts (d : OpDef) (o : Operation) (a : Assignment) : Type 0 where
  pub operands : HasSegments a d.operands o.operands
      (given_sizes (attr_at o.attrs operand_sizes_key))
  pub results : HasSegments a d.results o.results
      (given_sizes (attr_at o.attrs result_sizes_key))
  pub attrs : AllByRecursion (λ entry. AttrHas a entry (attr_at o.attrs entry.name)) d.attrs
  pub successors : o.successors ≡ length d.successors
  pub regions : RegionsHave a d.regions o.regions

-- the types of so many values of a module, from a number on
abbrev pub types_from : Module → ℕ → ℕ → List ValueId
types_from m n zero = []
types_from m n (suc k) = type_in m n ∷ types_from m (n + 1) k

-- the variable n with its value, where it has one
abbrev pub root_of : ℕ → Option ValueId → List (VarId × ValueId)
root_of n None = []
root_of n (Some id) = (record { 0 = n }, id) ∷ []

-- the same of all variables, from the number n on
abbrev pub roots_of : ℕ → Slots → List (VarId × ValueId)
roots_of n [] = []
roots_of n (slot ∷ slots) = root_of n slot ++ roots_of (n + 1) slots
