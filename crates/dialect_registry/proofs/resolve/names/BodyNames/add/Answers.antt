use Rattle.std.proofs.Common.{◌∙◌, [], ◌∷◌, ◌++◌, ap, sym, refl, bytes_eq, append-nil, if◌then◌else◌}
use Rattle.std.specs.Prelude.{option_map}
use Rattle.std.specs.Option.{option_or}
use Rattle.std.specs.declared.option.Option.TheVariants.{Some, None}
use Rattle.dialect_registry.specs.Resolved.{constraint_in, region_as}
use Rattle.dialect_registry.specs.Resolving.{constraints_of, named_seen, region_at, region_seen}
use Rattle.dialect_registry.specs.Scopes.{value_at}
use Rattle.dialect_registry.proofs.BodyNames.{names-add, constraints-more, defines-nothing, region-kept, region-added}
use Rattle.dialect_registry.proofs.resolve.names.BodyNames.add.Goals as goal

pub returns-in_ok-push-in-Constraint : goal.returns-in_ok-push-in-Constraint
returns-in_ok-push-in-Constraint c = λ before names.
    let s = c.args.statement.now in
    let old = c.args.self.now in
    let new = record old { constraints = c.push.new.self } in
    names-add s new
    (ap named_seen c.in_ok-push-in-Constraint.ensures.items
    ∙ constraints-more old.constraints.items _
    ∙ ap (λ n. constraints_of old ++ record { name = n; expr = c.in-Constraint.expr } ∷ []) c.bytes-name.ensures
    ∙ ap (λ k. constraints_of old ++ constraint_in k) (sym c.in-Constraint.is))
    (λ name. region-kept old new s.kind name refl
    (ap (region_as name) c.in-Constraint.is))
    names

pub returns-in_ok-add-in-Region : goal.returns-in_ok-add-in-Region
returns-in_ok-add-in-Region c = λ before names.
    let s = c.args.statement.now in
    let old = c.args.self.now in
    let new = record old { regions = c.add.new.self } in
    names-add s new
    (sym (append-nil (constraints_of old))
    ∙ ap (λ k. constraints_of old ++ constraint_in k) (sym c.in-Region.is))
    (λ name.
    ap (option_map region_seen) (c.in_ok-add-in-Region.ensures.after name)
    ∙ region-added (value_at old.regions name) (bytes_eq c.bytes.result.now name) _
    ∙ ap (λ t. option_or (region_at old name)
    (if bytes_eq t name then Some (record { args = c.in-Region.args; size = c.in-Region.size }) else None))
    c.bytes.ensures
    ∙ ap (λ k. option_or (region_at old name) (region_as name k)) (sym c.in-Region.is))
    names

pub returns-in_default : goal.returns-in_default
returns-in_default c = λ before names.
    let s = c.args.statement.now in
    let old = c.args.self.now in
    let nothing = defines-nothing s.kind c.in_default.not-Constraint c.in_default.not-Region in
    names-add s old
    (sym (append-nil (constraints_of old))
    ∙ ap (λ l. constraints_of old ++ l) (sym nothing.0))
    (λ name. region-kept old old s.kind name refl (nothing.1 name))
    names
