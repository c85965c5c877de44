-- Lists of an operation in generic form that aren't as long as each other.
--
--   values_named results          how many values the names of results stand for
--   GenericListsDiffer g results  uses and their types, or names and types of results, differ in
--                                 number; where no result is named, there may be any types
--
-- Inside: no public clause rests on this.
use Rattle.std.specs.Prelude.{◌≢◌, ◌⊎◌, ℕ, List, [], length, map, sum}
use Rattle.generic_syntax.specs.declared.module_cst.GenericCst.{GenericCst, out-GenericCst}
use Rattle.generic_syntax.specs.declared.module_cst.ResultCst.{ResultCst}
use Rattle.module_meaning.specs.Names.{pack_size}

-- how many values the names of results stand for
abbrev pub values_named : List ResultCst → ℕ
values_named results = sum (map (λ (r : ResultCst). pack_size r.pack) results)

-- another number of types than of uses, or than the named results stand for
abbrev pub GenericListsDiffer : GenericCst → List ResultCst → Type 0
GenericListsDiffer g results =
    (length (out-GenericCst g).operands ≢ length (out-GenericCst g).inputs)
    ⊎ ((results ≢ []) × (values_named results ≢ length (out-GenericCst g).outputs))
