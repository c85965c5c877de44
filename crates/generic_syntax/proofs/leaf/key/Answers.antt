use Rattle.std.proofs.Common.{rules, refl, sym, ◌∙◌}
use Rattle.ir_lexer.specs.declared.class.Class.TheVariants as cls
use Rattle.grammar.specs.Looks.{any_of}
use Rattle.grammar.proofs.Codes.{refuses-is}
use Rattle.grammar.proofs.Inside.{key-ok, key-deep}
use Rattle.grammar.proofs.Runs.{at-refused, left, right}
use Rattle.generic_syntax.proofs.leaf.key.Goals as goal

pub returns-then-room-eq0 : goal.returns-then-room-eq0
returns-then-room-eq0 g c = left (rw (sym c.is_class.ensures.passes ∙ c.if-is_class.true) refl) (key-deep (any_of cls.Word) (search rules) (sym c.is_class.ensures.passes ∙ c.if-is_class.true) c.too_deep.ensures)

pub returns-then-is_class : goal.returns-then-is_class
returns-then-is_class g c = left (rw (sym c.is_class.ensures.passes ∙ c.if-is_class.true) refl) (key-ok (any_of cls.Word) (search rules) c.read_text.ensures)

pub returns-then-not-is_class : goal.returns-then-not-is_class
returns-then-not-is_class g c = right (rw (sym c.is_class.ensures.passes ∙ c.if-is_class.false) refl) (at-refused (any_of cls.Str) (sym c.is_class-2.ensures.passes ∙ c.if-not-is_class.true) (refuses-is (g.T.TokenSource.state c.args.t.now).now _ c.refused.ensures))

pub returns-then-room-eq0-2 : goal.returns-then-room-eq0-2
returns-then-room-eq0-2 g c = right (rw (sym c.is_class.ensures.passes ∙ c.if-is_class.false) refl) (key-deep (any_of cls.Str) (search rules) (sym c.is_class-2.ensures.passes ∙ c.if-not-is_class.false) c.too_deep-then-room-eq0-2.ensures)

pub returns : goal.returns
returns g c = right (rw (sym c.is_class.ensures.passes ∙ c.if-is_class.false) refl) (key-ok (any_of cls.Str) (search rules) c.read_string.ensures)
