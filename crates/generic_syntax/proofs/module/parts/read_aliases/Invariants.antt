use Rattle.grammar.proofs.Repeats.{Goes}
use Rattle.generic_syntax.specs.ModuleText.{RegionReader, modules_by}
use Rattle.generic_syntax.specs.Modules.{alias}
use Rattle.generic_syntax.proofs.module.parts.read_aliases.Given as goal

abbrev pub invariant-each : goal.invariant-each
invariant-each g l = (regions : RegionReader) → Goes (modules_by regions.read) alias l.found
    (g.T.TokenSource.state l.fn.t) (g.T.TokenSource.state l.t)

abbrev pub decreases-each : goal.decreases-each
decreases-each g l = (g.T.TokenSource.state l.t).left
