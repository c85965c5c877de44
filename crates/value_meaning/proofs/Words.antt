-- What head a word has, by whether it names an integer type.
use Rattle.std.proofs.Common.{◌≡◌, Bool, true, false, refl}
use Rattle.std.specs.Prelude.{Option, Some, None, cond}
use Rattle.attr_value.specs.declared.head.Head.{Head}
use Rattle.attr_value.specs.declared.head.Head.TheVariants as h
use Rattle.attr_value.specs.declared.kind.IntKind.{IntKind}
use Rattle.grammar.specs.Looks.{is_integer_word}
use Rattle.ir_lexer.specs.Spelling.{Text}
use Rattle.value_meaning.specs.Spelled.{int_kind_of, looked_up, words, word_head}

by-kind : (is : Bool) (kind found : IntKind) (rest : Option Head)
    → cond is (Some kind) None ≡ Some found → Some (h.Int found) ≡ cond is (Some (h.Int kind)) rest
by-kind true kind found rest e = let same : kind ≡ found = cc in rw same
by-kind false kind found rest e = absurd (cc)

by-word : (is : Bool) (kind : IntKind) (rest : Option Head)
    → cond is (Some kind) None ≡ None → rest ≡ cond is (Some (h.Int kind)) rest
by-word true kind rest e = absurd (cc)
by-word false kind rest e = refl

-- of the name of an integer type
pub word_head-type : (w : Text) (kind : IntKind)
    → cond (is_integer_word w) (Some (int_kind_of w)) None ≡ Some kind
    → Some (h.Int kind) ≡ word_head w
unfolding word_head
word_head-type w kind e = by-kind (is_integer_word w) (int_kind_of w) kind (looked_up words w) e

-- of another word
pub word_head-plain : (w : Text)
    → cond (is_integer_word w) (Some (int_kind_of w)) None ≡ None
    → looked_up words w ≡ word_head w
unfolding word_head
word_head-plain w e = by-word (is_integer_word w) (int_kind_of w) (looked_up words w) e
