use Rattle.module_meaning.specs.AliasValues.{no_aliases}
use Rattle.name_laws.proofs.NewAliases.{new-aliases, right-aliases}
use Rattle.name_laws.proofs.laws.aliases_are_new.Goals as goal

pub returns : goal.returns
returns c = record {
  new = new-aliases;
  right = λ values tests types tree none have. right-aliases values tests types no_aliases
      tree.aliases (new-aliases tree none) have;
}
