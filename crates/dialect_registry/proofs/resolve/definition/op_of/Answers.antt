use Rattle.std.proofs.Common.{◌≡◌, ◌∙◌, ap, map, subst}
use Rattle.std.specs.declared.option.Option.TheVariants.{None}
use Rattle.dialect_registry.specs.Resolved.{attr_of, attrs_in, constraints_in, entry_of, full_name, is_terminator, operands_in, region_of, regions_in, results_in, successors_in}
use Rattle.dialect_registry.specs.Resolving.{constraints_of, Names}
use Rattle.dialect_registry.proofs.BodyNames.{regions-same}
use Rattle.dialect_registry.proofs.resolve.definition.op_of.Goals as goal

pub returns : goal.returns
returns c =
    let statements = c.args.def.now.statements in
    let known = c.args.known.now in
    let same = c.as_slice-statements.ensures in
    let all : Names statements known = c.requires.known in
    let cs : constraints_of known ≡ constraints_in statements = all.constraints in
    let name = c.in_ok-full_name.ensures ∙ ap (full_name c.args.own.now) c.bytes.ensures in
    let operands = c.in_ok-entries.ensures
    ∙ ap (λ l. map (entry_of l) c.operands_in.result.now) cs
    ∙ ap (map (entry_of (constraints_in statements)))
    (c.operands_in.ensures ∙ ap operands_in same) in
    let results = c.in_ok-entries-2.ensures
    ∙ ap (λ l. map (entry_of l) c.results_in.result.now) cs
    ∙ ap (map (entry_of (constraints_in statements)))
    (c.results_in.ensures ∙ ap results_in same) in
    let attrs = c.in_ok-attrs.ensures
    ∙ ap (λ l. map (attr_of l) c.attrs_in.result.now) cs
    ∙ ap (map (attr_of (constraints_in statements)))
    (c.attrs_in.ensures ∙ ap attrs_in same) in
    let regions = c.in_ok-regions.ensures
    ∙ regions-same statements known all c.regions_in.result.now
    ∙ ap (map (region_of statements)) (c.regions_in.ensures ∙ ap regions_in same) in
    let successors = c.in_ok-successors.ensures
    ∙ ap (map (λ n. n.name)) (c.successors_in.ensures ∙ ap successors_in same) in
    let terminator = c.is_terminator.ensures ∙ ap is_terminator same in
    λ i. record {
      name = name i;
      body = c.args.body;
      operands = operands i;
      results = results i;
      attrs = attrs i;
      regions = regions i;
      successors = successors i;
      terminator = terminator i;
      format = None;
    }
