-- The kinds of heads that definitions name.
--
--   float_word kind        the word of a float type
--   base_name base         the kind's name in definition files
--   first_named bases s    the first of some kinds that has the name s
--   base_of_int kind       the kind of an integer type
--   base_of_shape kind     the kind of a shaped type
--   base_of head           the kind of a head, where it has one
--   IsOfBase head base     the head is of the kind
use Rattle.std.specs.Prelude.{◌≡◌, ℕ, List, ◌++◌, codes, find, bytes_eq}
use Rattle.std.specs.declared.option.Option.{Option}
use Rattle.std.specs.declared.option.Option.TheVariants.{Some, None}
use Rattle.attr_value.specs.declared.base.BaseKind.{BaseKind}
use Rattle.attr_value.specs.declared.base.BaseKind.TheVariants as b
use Rattle.attr_value.specs.declared.head.Head.{Head}
use Rattle.attr_value.specs.declared.head.Head.TheVariants as h
use Rattle.attr_value.specs.declared.kind.FloatKind.{FloatKind}
use Rattle.attr_value.specs.declared.kind.FloatKind.TheVariants as f
use Rattle.attr_value.specs.declared.kind.IntKind.{IntKind}
use Rattle.attr_value.specs.declared.kind.IntKind.TheVariants.{Index}
use Rattle.attr_value.specs.declared.kind.ShapeKind.{ShapeKind}
use Rattle.attr_value.specs.declared.kind.ShapeKind.TheVariants as shape

-- the word of a float type
abbrev pub float_word : FloatKind → List ℕ
float_word f.Bf16 = codes "bf16"
float_word f.F16 = codes "f16"
float_word f.Tf32 = codes "tf32"
float_word f.F32 = codes "f32"
float_word f.F64 = codes "f64"
float_word f.F80 = codes "f80"
float_word f.F128 = codes "f128"

-- types are named with `!`, attributes with `#`
abbrev pub base_name : BaseKind → List ℕ
base_name b.Integer = codes "!builtin.integer"
base_name b.Index = codes "!builtin.index"
base_name b.NoneType = codes "!builtin.none"
base_name (b.Float kind) = codes "!builtin." ++ float_word kind
base_name b.Function = codes "!builtin.function"
base_name b.Tuple = codes "!builtin.tuple"
base_name b.Vector = codes "!builtin.vector"
base_name b.Tensor = codes "!builtin.tensor"
base_name b.Memref = codes "!builtin.memref"
base_name b.Complex = codes "!builtin.complex"
base_name b.IntegerAttr = codes "#builtin.integer"
base_name b.StrAttr = codes "#builtin.string"
base_name b.UnitAttr = codes "#builtin.unit"
base_name b.ArrayAttr = codes "#builtin.array"
base_name b.DictAttr = codes "#builtin.dictionary"
base_name b.SymbolAttr = codes "#builtin.symbol_ref"
base_name b.DenseAttr = codes "#builtin.dense_array"

-- the first of some kinds that has this name
abbrev pub first_named : List BaseKind → List ℕ → Option BaseKind
first_named bases s = find (λ base. bytes_eq (base_name base) s) bases

-- the kind of an integer type
abbrev pub base_of_int : IntKind → BaseKind
base_of_int Index = b.Index
base_of_int _ = b.Integer

-- the kind of a shaped type
abbrev pub base_of_shape : ShapeKind → BaseKind
base_of_shape shape.Vector = b.Vector
base_of_shape shape.Tensor = b.Tensor
base_of_shape shape.Memref = b.Memref

-- the one kind of a head; those of dialects have none
abbrev pub base_of : Head → Option BaseKind
base_of (h.Int kind) = Some (base_of_int kind)
base_of h.NoneType = Some b.NoneType
base_of (h.Float kind) = Some (b.Float kind)
base_of (h.Function inputs) = Some b.Function
base_of h.Tuple = Some b.Tuple
base_of (h.Shaped kind dims) = Some (base_of_shape kind)
base_of h.Complex = Some b.Complex
base_of (h.Number kind n) = Some b.IntegerAttr
base_of (h.Str text) = Some b.StrAttr
base_of h.Unit = Some b.UnitAttr
base_of h.Array = Some b.ArrayAttr
base_of (h.Dict keys) = Some b.DictAttr
base_of (h.Symbol parts) = Some b.SymbolAttr
base_of (h.Dense width items) = Some b.DenseAttr
base_of (h.Dialect is_type name) = None

-- a head is of a kind
abbrev pub IsOfBase : Head → BaseKind → Type 0
IsOfBase head base = base_of head ≡ Some base
