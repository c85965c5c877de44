-- Aliases that are new, the first part of `AreAliases` of `module_meaning`.
--
--   AreNewAliases aliases xs       each is the first of its kind and name, behind these aliases
use Rattle.std.specs.Prelude.{◌≡◌, List, [], ◌∷◌}
use Rattle.std.specs.declared.option.Option.TheVariants.{None}
use Rattle.generic_syntax.specs.declared.module_cst.AliasCst.{AliasCst}
use Rattle.module_meaning.specs.AliasValues.{with_value}
use Rattle.value_meaning.specs.Meaning.{Aliases}

-- each is the first of its kind and name
abbrev pub AreNewAliases : Aliases → List AliasCst → Type 0
AreNewAliases aliases [] = Unit {0}
AreNewAliases aliases (x ∷ xs) =
    (aliases x.is_type x.name ≡ None) × AreNewAliases (with_value aliases x) xs
