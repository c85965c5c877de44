use Rattle.std.proofs.Common.{◌≡◌, ◌∙◌, Some, true, false, sym, ap, refl, slice_get}
use Rattle.dialect_registry.specs.Registered.{place_of}
use Rattle.op_verifier.proofs.Walks.{all-get}
use Rattle.op_judgement.proofs.Breaking.{may-stand}
use Rattle.op_judgement.proofs.rule.judge_form.Goals as goal

pub is_satisfied-requires-clause-def : goal.is_satisfied-requires-clause-def
is_satisfied-requires-clause-def g c =
    let ops = c.args.env.now.registry.now.ops in
    let stands = ap (λ l. slice_get l c.in-Some.place) (sym c.ops.ensures)
    ∙ c.definition_at-def.ensures in
    all-get _ ops c.in-Some.place c.definition_at-def.result.now c.requires.ready.sound.ops stands

pub returns-then-lists_differ : goal.returns-then-lists_differ
returns-then-lists_differ g c =
    let ops = c.args.env.now.registry.now.ops in
    let is = ap (place_of ops) (sym c.bytes.ensures) ∙ sym c.op.ensures ∙ c.in-Some.is in
    let stands = ap (λ l. slice_get l c.in-Some.place) (sym c.ops.ensures)
    ∙ c.definition_at-def.ensures in (
      c.in-Some.place,
      c.definition_at-def.result.now,
      record { found = is; stands = stands },
      c.if-lists_differ.ensures.0 refl,
    )

pub returns-then-stands_early : goal.returns-then-stands_early
returns-then-stands_early g c =
    let ops = c.args.env.now.registry.now.ops in
    let is = ap (place_of ops) (sym c.bytes.ensures) ∙ sym c.op.ensures ∙ c.in-Some.is in
    let stands = ap (λ l. slice_get l c.in-Some.place) (sym c.ops.ensures)
    ∙ c.definition_at-def.ensures in
    let early = c.if-stands_early.ensures.0 refl in (
      c.in-Some.place,
      c.definition_at-def.result.now,
      record { found = is; stands = stands },
      λ differ. absurd (cc (c.if-lists_differ.ensures.1 differ)),
      early.0,
      early.1,
    )

pub returns-then-not-branch : goal.returns-then-not-branch
returns-then-not-branch g c =
    let ops = c.args.env.now.registry.now.ops in
    let is = ap (place_of ops) (sym c.bytes.ensures) ∙ sym c.op.ensures ∙ c.in-Some.is in
    let stands = ap (λ l. slice_get l c.in-Some.place) (sym c.ops.ensures)
    ∙ c.definition_at-def.ensures in (
      c.in-Some.place,
      c.definition_at-def.result.now,
      record { found = is; stands = stands },
      λ differ. absurd (cc (c.if-lists_differ.ensures.1 differ)),
      may-stand c.definition_at-def.result.now.terminator c.args.is_last
          (λ both. absurd (cc (c.if-stands_early.ensures.1 both))),
      λ o shown met.
          let yes : c.in_ok-is_satisfied.field-0 ≡ true =
          (c.in_ok-is_satisfied.ensures o shown).1 met in
          let none : c.in_ok-is_satisfied.field-0 ≡ false = c.if-not-branch.true in
          absurd (cc),
    )

pub returns : goal.returns
returns g c =
    let ops = c.args.env.now.registry.now.ops in
    let is = ap (place_of ops) (sym c.bytes.ensures) ∙ sym c.op.ensures ∙ c.in-Some.is in
    let stands = ap (λ l. slice_get l c.in-Some.place) (sym c.ops.ensures)
    ∙ c.definition_at-def.ensures in
    record {
      def = c.definition_at-def.result.now;
      found = record { found = is; stands = stands };
      fit = λ differ. absurd (cc (c.if-lists_differ.ensures.1 differ));
      last = may-stand c.definition_at-def.result.now.terminator c.args.is_last
          (λ both. absurd (cc (c.if-stands_early.ensures.1 both)));
      satisfied = λ o shown. (c.in_ok-is_satisfied.ensures o shown).0 c.if-not-branch.false;
    }
