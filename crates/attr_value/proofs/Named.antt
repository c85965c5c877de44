-- The names of the kinds of heads tell the kinds apart, and the table of kinds has them all.
use Rattle.std.proofs.Common.{◌≡◌, ℕ, Bool, true, false, List, [], ◌∷◌, refl, sym, ap, ◌∙◌}
use Rattle.std.specs.Prelude.{Option, Some, IfSome, bytes_eq, cond}
use Rattle.std.proofs.lemmas.Slice.Eq.{bytes_eq-Decides}
use Rattle.attr_value.specs.declared.base.BaseKind.{BaseKind}
use Rattle.attr_value.specs.declared.base.BaseKind.TheVariants as b
use Rattle.attr_value.specs.declared.kind.FloatKind.TheVariants as f
use Rattle.attr_value.specs.declared.base.TheConstants.{BASES}
use Rattle.attr_value.specs.Bases.{base_name, first_named}

-- the table has each kind for its name, by computing
named-name-of : (base : BaseKind) → first_named BASES (base_name base) ≡ Some base
named-name-of b.Integer = refl
named-name-of b.Index = refl
named-name-of b.NoneType = refl
named-name-of (b.Float f.Bf16) = refl
named-name-of (b.Float f.F16) = refl
named-name-of (b.Float f.Tf32) = refl
named-name-of (b.Float f.F32) = refl
named-name-of (b.Float f.F64) = refl
named-name-of (b.Float f.F80) = refl
named-name-of (b.Float f.F128) = refl
named-name-of b.Function = refl
named-name-of b.Tuple = refl
named-name-of b.Vector = refl
named-name-of b.Tensor = refl
named-name-of b.Memref = refl
named-name-of b.Complex = refl
named-name-of b.IntegerAttr = refl
named-name-of b.StrAttr = refl
named-name-of b.UnitAttr = refl
named-name-of b.ArrayAttr = refl
named-name-of b.DictAttr = refl
named-name-of b.SymbolAttr = refl
named-name-of b.DenseAttr = refl

-- the first of some kinds, by the test of its name
first-by : (base : BaseKind) (rest : Option BaseKind) (s : List ℕ) (test : Bool)
    → bytes_eq (base_name base) s ≡ test → IfSome rest (λ b. base_name b ≡ s)
    → IfSome (cond test (Some base) rest) (λ b. base_name b ≡ s)
first-by base rest s true same others = (bytes_eq-Decides (base_name base) s).0 same
first-by base rest s false differs others = others

-- what is found has the name
found : (bases : List BaseKind) (s : List ℕ)
    → IfSome (first_named bases s) (λ b. base_name b ≡ s)
found [] s = tt
found (base ∷ bases) s = first-by base _ s _ refl (found bases s)

-- what the table has for a name is a kind of that name
pub table-named : (s : List ℕ) → IfSome (first_named BASES s) (λ b. base_name b ≡ s)
table-named s = found BASES s

-- the table has each kind for its name
pub only-named : (s : List ℕ) (base : BaseKind) → base_name base ≡ s
    → first_named BASES s ≡ Some base
only-named s base same = ap (first_named BASES) (sym same) ∙ named-name-of base
