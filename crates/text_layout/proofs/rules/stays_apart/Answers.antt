use Rattle.std.proofs.Common.{◌≡◌, ◌∙◌, ◌≤◌, ◌+◌, ◌++◌, arith, take, length, ap, sym, subst}
use Rattle.std.proofs.lemmas.Grind.{common_steps}
use Rattle.ir_lexer.specs.Spelling.{Spells}
use Rattle.text_layout.proofs.Single.{none-more, one-byte-more, joins, no-join, spells-with}
use Rattle.text_layout.proofs.rules.stays_apart.Goals as goal

pub returns-in-Some : goal.returns-in-Some
returns-in-Some c =
    let x = c.args.a.now in
    let front = c.first_three-front.result.now in
    let i = c.loop-byte.byte-index in
    let more = one-byte-more c.loop-byte.joined.items x front i 0 (omega arith)
    c.loop-byte.invariant.joined in
    let joined : c.push.new.self.items ≡ x ++ take (i + 1) front =
    grind (arith, common_steps, more) in
    let spelled : Spells c.in-Some.field-0 c.push.new.self.items =
    subst (Spells c.in-Some.field-0) c.deref.ensures.value
    ((c.class_of.ensures c.in-Some.field-0).0 c.in-Some.is) in
    let within : i + 1 ≤ length (take 3 c.args.b.now) =
    omega (arith, ap length c.first_three-front.ensures) in
    joins c.args.last c.in-Some.field-0 x c.args.b.now (i + 1) c.requires.spelled (omega arith)
    within
    (spells-with c.in-Some.field-0 c.push.new.self.items x front c.args.b.now (i + 1) joined
    c.first_three-front.ensures spelled)

pub loop-byte-preserved : goal.loop-byte-preserved
loop-byte-preserved c =
    let x = c.args.a.now in
    let front = c.first_three-front.result.now in
    let i = c.loop-byte.byte-index in
    let more = one-byte-more c.loop-byte.joined.items x front i 0 (omega arith)
    c.loop-byte.invariant.joined in
    let joined : c.push.new.self.items ≡ x ++ take (i + 1) front =
    grind (arith, common_steps, more) in
    record {
      joined = joined;
      none = none-more x front i c.loop-byte.invariant.none (λ class spelled.
          c.in_default.not-Some class ((c.class_of.ensures class).1
          (subst (Spells class) (sym (c.deref.ensures.value ∙ joined)) spelled)));
    }

pub returns : goal.returns
returns c =
    let front = c.first_three-front.result.now in
    let e = c.first_three-front.ensures in
    no-join c.args.last c.args.a.now c.args.b.now c.requires.spelled c.requires.others
    (λ k class more le spelled. c.loop-byte.invariant.none k class more
    (omega (arith, ap length e))
    (subst (λ t. Spells class (c.args.a.now ++ take k t)) (sym e) spelled))
