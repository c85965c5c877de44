use Rattle.std.proofs.Common.{sym, ◌∙◌, ap}
use Rattle.std.proofs.Common.{◌∷◌}
use Rattle.format_reader.specs.Ran.{now_of}
use Rattle.format_reader.proofs.step.expect_end.Goals as goal

pub returns-then-is_class : goal.returns-then-is_class
returns-then-is_class c = let passed = (sym c.is_class.ensures.passes ∙ c.if-is_class.true) in
    record {
      alone = c.is_class.ensures.some.is
          ∙ ap (λ ts. now_of c.args.t.now ∷ ts) (c.is_class.ensures.some.last passed);
      passes = passed;
    }
