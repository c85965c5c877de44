use Rattle.std.proofs.Common.{◌≡◌, ◌-◌, false, length, take, drop, sym, ◌∙◌, arith, ◌==◌}
use Rattle.std.specs.List.{list_any}
use Rattle.ir_lexer.specs.Signs.{backslash}
use Rattle.ir_lexer.proofs.Unescape.{items-bytes-plain}
use Rattle.generic_syntax.proofs.text.string_text.Goals as goal

pub returns : goal.returns
returns c =
    let s = c.args.spelling.now in
    let n : length s - 1 - 1 ≡ length s - 2 = omega arith in
    let none : list_any (λ b. b == backslash) (take (length s - 1 - 1) (drop 1 s)) ≡ false =
    sym c.contains.ensures.value ∙ c.if-contains.false in
    rw (sym n, items-bytes-plain (take (length s - 1 - 1) (drop 1 s)) none) c.from_slice.ensures
