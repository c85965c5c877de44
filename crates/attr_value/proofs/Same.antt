-- What `==` finds equal is equal: for texts, for lists, and for the kinds that heads are made of.
use Rattle.std.proofs.Common.{◌≡◌, Bool, true, false, [], ◌∷◌, refl, sym, ap, true≢false}
use Rattle.std.proofs.Common.{rules}
use Rattle.std.specs.Prelude.{◌&&◌, ℤ, nat_eq}
use Rattle.std.specs.Bool.{beq}
use Rattle.std.specs.Ordering.{int_eq}
use Rattle.std.specs.Cmp.Lexicographic.{pointwise}
use Rattle.std.proofs.lemmas.Map.Views.{exact_unsigned_eq}
use Rattle.attr_value.specs.declared.kind.Dim.TheVariants.{Known, Unknown}
use Rattle.attr_value.specs.declared.kind.FloatKind.TheVariants as f
use Rattle.attr_value.specs.declared.kind.IntKind.TheVariants.{Index, Signless, Signed, Unsigned}
use Rattle.attr_value.specs.declared.kind.ShapeKind.TheVariants.{Vector, Tensor, Memref}
use Rattle.attr_value.specs.contracts.kind.DimPartialEq.TheImpl as dim
use Rattle.attr_value.specs.contracts.kind.FloatKindPartialEq.TheImpl as float_kind
use Rattle.attr_value.specs.contracts.kind.IntKindPartialEq.TheImpl as int_kind
use Rattle.attr_value.specs.contracts.kind.ShapeKindPartialEq.TheImpl as shape_kind

-- a test that is true of equal values alone
abbrev pub TellsApart : {A : Type 0} → (A → A → Bool) → Type 0
TellsApart {A} eq = (x y : A) → eq x y ≡ true → x ≡ y

-- where `a && b` is true, both are
pub both-true : (a b : Bool) → (a && b) ≡ true → (a ≡ true) × (b ≡ true)
both-true true b same = (refl, same)
both-true false b same = absurd (true≢false (sym same))

-- lists are told apart where their items are
pub same-list : {A : Type 0} (eq : A → A → Bool) → TellsApart eq → TellsApart (pointwise eq)
same-list eq apart [] [] same = refl
same-list eq apart [] (y ∷ ys) same = cc
same-list eq apart (x ∷ xs) [] same = cc
same-list eq apart (x ∷ xs) (y ∷ ys) same =
    let both = both-true (eq x y) (pointwise eq xs ys) same in
    let first : x ≡ y = apart x y both.0 in
    let rest : xs ≡ ys = same-list eq apart xs ys both.1 in
    cc

-- texts are told apart
pub same-text : TellsApart (pointwise nat_eq)
same-text = same-list nat_eq exact_unsigned_eq

-- signed numbers are told apart
pub same-int : (a b : ℤ) → int_eq a b ≡ true → a ≡ b
same-int a b same = search rules

-- truth values are told apart
pub same-bool : (a b : Bool) → beq a b ≡ true → a ≡ b
same-bool true true same = refl
same-bool false false same = refl
same-bool _ _ same = cc

-- dimensions are told apart
pub same-dim : TellsApart dim.ghosts.eq
same-dim (Known a) (Known b) same = ap Known (exact_unsigned_eq a b same)
same-dim Unknown Unknown same = refl
same-dim _ _ same = cc

-- kinds of integer types are told apart
pub same-int-kind : TellsApart int_kind.ghosts.eq
same-int-kind Index Index same = refl
same-int-kind (Signless a) (Signless b) same = ap Signless (exact_unsigned_eq a b same)
same-int-kind (Signed a) (Signed b) same = ap Signed (exact_unsigned_eq a b same)
same-int-kind (Unsigned a) (Unsigned b) same = ap Unsigned (exact_unsigned_eq a b same)
same-int-kind _ _ same = cc

-- float types are told apart
pub same-float-kind : TellsApart float_kind.ghosts.eq
same-float-kind f.Bf16 f.Bf16 same = refl
same-float-kind f.F16 f.F16 same = refl
same-float-kind f.Tf32 f.Tf32 same = refl
same-float-kind f.F32 f.F32 same = refl
same-float-kind f.F64 f.F64 same = refl
same-float-kind f.F80 f.F80 same = refl
same-float-kind f.F128 f.F128 same = refl
same-float-kind _ _ same = cc

-- kinds of shaped types are told apart
pub same-shape-kind : TellsApart shape_kind.ghosts.eq
same-shape-kind Vector Vector same = refl
same-shape-kind Tensor Tensor same = refl
same-shape-kind Memref Memref same = refl
same-shape-kind _ _ same = cc
