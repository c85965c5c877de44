use Rattle.std.proofs.Common.{◌≡◌, ◌∙◌, sym, subst, ap, refl, List, length, map}
use Rattle.std.proofs.lemmas.List.{length-map}
use Rattle.std.specs.List.{AllByRecursion}
use Rattle.attr_value.specs.Heads.{IsType}
use Rattle.attr_value.specs.Values.{Value}
use Rattle.dialect_defs.specs.Operations.{attr_at}
use Rattle.op_verifier.specs.Seen.{attrs_seen, values_at}
use Rattle.op_verifier.specs.Views.{listed_regions}
use Rattle.op_verifier.proofs.Shown.{fronts-refl}
use Rattle.op_verifier.specs.Meets.{SameFronts}
use Rattle.generic_syntax.specs.declared.module_cst.GenericCst.{out-GenericCst}
use Rattle.op_judgement.specs.Shown.{block_counts}
use Rattle.op_judgement.proofs.Cutting.{all-parts, parts-all}
use Rattle.op_judgement.proofs.rule.is_satisfied.Goals as goal

pub returns-then-not-are_all_types : goal.returns-then-not-are_all_types
returns-then-not-are_all_types g c =
    let u = c.args.u.now in
    let args = c.args.parts.now.args in
    λ o shown. (
      λ yes. absurd (cc yes),
      λ s. c.if-not-are_all_types.ensures.1
          (subst (λ l. AllByRecursion (AllByRecursion IsType) (map (values_at u) l))
          (sym c.as_slice-3.ensures)
          (parts-all (AllByRecursion IsType) (block_counts (out-GenericCst c.args.form.now).regions)
          (map (values_at u) args) (c.requires.parts.total ∙ sym (length-map args (values_at u)))
          (subst (AllByRecursion (AllByRecursion (AllByRecursion IsType))) shown.regions
          s.arguments))),
    )

pub returns : goal.returns
returns g c =
    let u = c.args.u.now in
    λ o shown.
    let met = c.meets_definition.ensures o (record {
      operands = shown.operands ∙ ap (values_at u) (sym c.as_slice-5.ensures);
      results = shown.results ∙ ap (values_at u) (sym c.as_slice-6.ensures);
      successors = shown.successors ∙ ap length (sym c.as_slice-9.ensures);
      attrs = λ key. shown.attrs key
          ∙ ap (λ ks. attr_at (attrs_seen u ks c.args.parts.now.values) key)
          (sym c.as_slice-7.ensures)
          ∙ ap (λ vs. attr_at (attrs_seen u c.as_slice-7.result.now vs) key)
          (sym c.as_slice-8.ensures);
      regions = subst (SameFronts o.regions)
          (shown.regions
          ∙ ap (λ ns. listed_regions u ns c.args.parts.now.args)
          (sym (c.as_slice-10.ensures.value ∙ c.in_ok-counts.ensures
          ∙ ap block_counts c.as_slice-4.ensures))
          ∙ ap (λ l. listed_regions u c.as_slice-10.result.now l) (sym c.as_slice-11.ensures))
          (fronts-refl o.regions);
    }) in (
      λ yes. record {
        operands = subst (AllByRecursion IsType) (sym shown.operands)
            (rw c.as_slice.ensures at (c.if-not-are_types.ensures.0 refl));
        results = subst (AllByRecursion IsType) (sym shown.results)
            (rw c.as_slice-2.ensures at (c.if-not-are_types-2.ensures.0 refl));
        arguments = subst (AllByRecursion (AllByRecursion (AllByRecursion IsType)))
            (sym shown.regions)
            (all-parts (AllByRecursion IsType) (block_counts (out-GenericCst c.args.form.now).regions)
            (map (values_at u) c.args.parts.now.args)
            (rw c.as_slice-3.ensures at (c.if-not-are_all_types.ensures.0 refl)));
        meets = met.0 yes;
      },
      λ s. met.1 s.meets,
    )
