use Rattle.std.proofs.Common.{◌∙◌, ap, replicate, rules, false}
use Rattle.symbol_scopes.proofs.Lists.{map-one}
use Rattle.symbol_scopes.proofs.aliases.AliasSet.new.Goals as goal

pub returns : goal.returns
returns c =
    let types = c.in_ok-vec.ensures.items_if_clones_equal (search rules) in
    let attributes = c.in_ok-vec-2.ensures.items_if_clones_equal (search rules) in
    record {
      types = types ∙ ap (λ n. replicate n false) c.len.ensures.count ∙ map-one false c.args.names.now;
      attributes = attributes ∙ ap (λ n. replicate n false) c.len-2.ensures.count
          ∙ map-one false c.args.names.now;
    }
