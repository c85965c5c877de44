use Rattle.std.proofs.Common.{◌≡◌, false, ◌∙◌, sym, rules, ◌==◌}
use Rattle.std.specs.List.{list_any}
use Rattle.ir_lexer.specs.Signs.{backslash}
use Rattle.ir_lexer.proofs.Unescape.{items-bytes-plain}
use Rattle.ir_lexer.proofs.names.items_bytes.Goals as goal

pub returns-then-not-contains : goal.returns-then-not-contains
returns-then-not-contains c =
    let none : list_any (λ b. b == backslash) c.args.items.now ≡ false =
    sym c.contains.ensures.value ∙ search rules in
    rw (items-bytes-plain c.args.items.now none) c.from_slice.ensures.items
