-- Heads that `==` finds equal are equal.
use Rattle.std.proofs.Common.{◌≡◌, refl, ap}
use Rattle.std.proofs.lemmas.Map.Views.{exact_unsigned_eq}
use Rattle.attr_value.specs.declared.head.Head.TheVariants as h
use Rattle.attr_value.specs.contracts.head.HeadPartialEq.TheImpl as head
use Rattle.attr_value.proofs.Same.{TellsApart, both-true, same-list, same-text, same-int}
use Rattle.attr_value.proofs.Same.{same-bool, same-dim, same-int-kind, same-float-kind}
use Rattle.attr_value.proofs.Same.{same-shape-kind}

-- `==` of heads tells them apart
pub same-head : TellsApart head.ghosts.eq
same-head (h.Int a) (h.Int b) same = ap h.Int (same-int-kind a b same)
same-head h.NoneType h.NoneType same = refl
same-head (h.Float a) (h.Float b) same = ap h.Float (same-float-kind a b same)
same-head (h.Function a) (h.Function b) same = ap h.Function (exact_unsigned_eq a b same)
same-head h.Tuple h.Tuple same = refl
same-head (h.Shaped a s) (h.Shaped b t) same =
    let both = both-true _ _ same in
    let kind : a ≡ b = same-shape-kind a b both.0 in
    let dims : s ≡ t = same-list _ same-dim s t both.1 in
    cc
same-head h.Complex h.Complex same = refl
same-head (h.Number a s) (h.Number b t) same =
    let both = both-true _ _ same in
    let kind : a ≡ b = same-int-kind a b both.0 in
    let number : s ≡ t = same-int s t both.1 in
    cc
same-head (h.Str a) (h.Str b) same = ap h.Str (same-text a b same)
same-head h.Unit h.Unit same = refl
same-head h.Array h.Array same = refl
same-head (h.Dict a) (h.Dict b) same = ap h.Dict (same-list _ same-text a b same)
same-head (h.Symbol a) (h.Symbol b) same = ap h.Symbol (same-list _ same-text a b same)
same-head (h.Dense a s) (h.Dense b t) same =
    let both = both-true _ _ same in
    let width : a ≡ b = exact_unsigned_eq a b both.0 in
    let items : s ≡ t = same-list _ same-int s t both.1 in
    cc
same-head (h.Dialect a s) (h.Dialect b t) same =
    let both = both-true _ _ same in
    let is_type : a ≡ b = same-bool a b both.0 in
    let name : s ≡ t = same-text s t both.1 in
    cc
same-head _ _ same = cc
