use Rattle.std.proofs.Common.{◌-◌}
use Rattle.generic_syntax.specs.declared.parse.TheConstants.{TOO_DEEP}
use Rattle.generic_syntax.specs.Values.{a_type}
use Rattle.generic_syntax.proofs.Parsing.{parsed, all-parsed}
use Rattle.generic_syntax.proofs.parse.parse_type.Goals as goal

pub returns-clause-kept : goal.returns-clause-kept
returns-clause-kept g c = c.value.ensures.ran.kept

pub returns-clause-answer : goal.returns-clause-answer
returns-clause-answer g c = parsed (TOO_DEEP - c.args.nesting) a_type _ _ _ c.value.ensures

pub returns-clause-accepts : goal.returns-clause-accepts
returns-clause-accepts g c = all-parsed (TOO_DEEP - c.args.nesting) a_type _ _ _ c.value.ensures
