use Rattle.ir_lexer.specs.declared.class.Class.TheVariants as cls
use Rattle.grammar.specs.Rules.{◌>>◌, punct}
use Rattle.generic_syntax.specs.ModuleForms.{list1}
use Rattle.generic_syntax.specs.ModuleText.{RegionReader, modules_by}
use Rattle.generic_syntax.specs.Operations.{block_name}
use Rattle.generic_syntax.proofs.Rows.{Builds}
use Rattle.generic_syntax.proofs.module.names.block_names.Given as goal

abbrev pub invariant-each : goal.invariant-each
invariant-each g l = (regions : RegionReader) → Builds (modules_by regions.read)
    (punct cls.Comma >> block_name) (list1 block_name) (λ l. l) l.found
    (g.T.TokenSource.state l.fn.t) (g.T.TokenSource.state l.t)

abbrev pub decreases-each : goal.decreases-each
decreases-each g l = (g.T.TokenSource.state l.t).left
