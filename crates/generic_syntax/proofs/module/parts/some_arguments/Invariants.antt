use Rattle.ir_lexer.specs.declared.class.Class.TheVariants as cls
use Rattle.grammar.specs.Rules.{◌>>◌, punct}
use Rattle.generic_syntax.specs.ModuleForms.{list1}
use Rattle.generic_syntax.specs.ModuleText.{RegionReader, modules_by}
use Rattle.generic_syntax.specs.Modules.{argument}
use Rattle.generic_syntax.proofs.Rows.{Builds}
use Rattle.generic_syntax.proofs.module.parts.some_arguments.Given as goal

abbrev pub invariant-each : goal.invariant-each
invariant-each g l = (regions : RegionReader) → Builds (modules_by regions.read)
    (punct cls.Comma >> argument) (list1 argument) (λ l. l) l.found (g.T.TokenSource.state l.fn.t)
    (g.T.TokenSource.state l.t)

abbrev pub decreases-each : goal.decreases-each
decreases-each g l = (g.T.TokenSource.state l.t).left
