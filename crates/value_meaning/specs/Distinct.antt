-- Definitions that their kinds and names tell apart.
--
--   HaveDistinctNames types     no two definitions of the list have the same kind and name
use Rattle.std.specs.Prelude.{◌≡◌, ℕ, List, slice_get}
use Rattle.std.specs.declared.option.Option.TheVariants.{Some}
use Rattle.dialect_defs.specs.declared.definition.TypeDef.{TypeDef}

-- definitions with the same kind and name stand at the same place
pub record HaveDistinctNames (types : List TypeDef) : Type 0 where
  pub same : (i j : ℕ) (d e : TypeDef) → slice_get types i ≡ Some d → slice_get types j ≡ Some e
      → d.is_type ≡ e.is_type → d.name ≡ e.name → i ≡ j
