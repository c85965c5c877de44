-- The laws of the source of a slice: the last token that it tells is the end, and no other one is.
use Rattle.std.proofs.Common.{◌≡◌, suc, ◌+◌, Bool, true, false, List, [], length, Some, refl, if◌then◌else◌}
use denote.Enum.Bare.{same_true, true_same}
use Rattle.ir_lexer.specs.contracts.class.Class.{the_type}
use Rattle.ir_lexer.specs.declared.class.Class.TheVariants as c
use Rattle.ir_lexer.specs.Spelling.{Text}
use Rattle.ir_lexer.specs.Tokens.{Token}
use Rattle.ir_lexer.specs.Reading.{Reading}
use Rattle.ir_lexer.specs.Scan.{next_token, tokens_from}
use Rattle.ir_lexer.specs.Classes.{same_class}
use Rattle.ir_lexer.specs.Slice.{slice_source}

ends_by : (src : Text) (t : Token) (b : Bool) → same_class t.class c.End ≡ b
    → Some (if b then [] else tokens_from (suc (length src)) src (t.place + length t.text))
    ≡ Some []
    → t.class ≡ c.End
unfolding same_class
ends_by src t true e f = same_true the_type tt t.class c.End e
ends_by src t false e f = absurd (cc)

-- where no token is told behind the present one, that is the end
pub slice_ends : (r : Reading) → (slice_source r).later ≡ Some []
    → (slice_source r).now.class ≡ c.End
unfolding slice_source
slice_ends r e =
    let t = next_token r.text r.place in ends_by r.text t (same_class t.class c.End) refl e

end_by : (src : Text) (t : Token) (b : Bool) (ts : List Token) → same_class t.class c.End ≡ b
    → Some (if b then [] else tokens_from (suc (length src)) src (t.place + length t.text))
    ≡ Some ts
    → t.class ≡ c.End → ts ≡ []
unfolding same_class
end_by src t true ts e f is = cc f
end_by src t false ts e f is = absurd (cc (e, true_same the_type t.class c.End is))

-- behind the end no token is told
pub slice_end_is_last : (r : Reading) (ts : List Token) → (slice_source r).later ≡ Some ts
    → (slice_source r).now.class ≡ c.End → ts ≡ []
unfolding slice_source
slice_end_is_last r ts e is =
    let t = next_token r.text r.place in end_by r.text t (same_class t.class c.End) ts refl e is
