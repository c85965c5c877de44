-- What the names in a module's tree mean: values and blocks by their numbers.
--
-- Names are looked up in scopes, as `symbol_scopes` has them, but a name stands here with the
-- number of its first value in the module, not with that of its definition.
--
--   Env                    what names mean at a place, and which were defined before it
--   nowhere                no name means anything
--   inside env scope labels    in a region with these definitions of its own
--   behind env names       behind definitions of these names
--   pack_size pack         how many values the name of a result stands for; 0 for a wrong size
--   result_number number   the number of a use in its pack
--   used env u, target env s   the value that a use means, and the block that a successor leads to
--   Names .. fact          what a fact says of the numbers of operands and successors
--   AreNew before names    names that may be defined behind those of before
--   result_scope, argument_scope, label_scope     the names that parts of a tree define
use Rattle.std.specs.Prelude.{◌≡◌, ℕ, suc, ◌+◌, false, cond, nat_lt}
use Rattle.std.specs.Prelude.{List, [], ◌∷◌, ◌++◌, map, bytes_eq, slice_get, IsSomeAnd}
use Rattle.std.specs.Prelude.{option_map, option_and_then}
use Rattle.std.specs.List.{AllByRecursion, IsDistinct}
use Rattle.std.specs.declared.option.Option.{Option}
use Rattle.std.specs.declared.option.Option.TheVariants.{Some, None}
use Rattle.dialect_defs.specs.Segments.{parts}
use Rattle.generic_syntax.specs.declared.cst.NameCst.{NameCst}
use Rattle.generic_syntax.specs.declared.module_cst.ArgCst.{ArgCst}
use Rattle.generic_syntax.specs.declared.module_cst.BlockCst.{BlockCst, out-BlockCst}
use Rattle.generic_syntax.specs.declared.module_cst.NumberCst.{NumberCst}
use Rattle.generic_syntax.specs.declared.module_cst.OpCst.{OpCst, out-OpCst}
use Rattle.generic_syntax.specs.declared.module_cst.RegionCst.{RegionCst}
use Rattle.generic_syntax.specs.declared.module_cst.ResultCst.{ResultCst}
use Rattle.generic_syntax.specs.declared.module_cst.UseCst.{UseCst}
use Rattle.grammar.specs.Looks.{is_among, decimal}
use Rattle.ir_lexer.specs.Spelling.{Text}
use Rattle.module_meaning.specs.Facts.{Fact, uses_are, all_uses_are, region_is, successor_is}
use Rattle.module_names.specs.Numbers.{pack_count}
use Rattle.symbol_scopes.specs.Regions.{RegionScope, found, looked}

-- ---- what names mean at a place

-- The scopes in which value names are looked up, the innermost first; the labels of the region; and
-- the value names that are defined before, here or in a region round it. A value name stands with
-- the number of its first value and with how many there are, a label with the number of its block.
pub record Env : Type 0 where
  pub scopes : List RegionScope
  pub labels : RegionScope
  pub before : List Text

-- no name means anything
abbrev pub nowhere : Env
nowhere = record { scopes = []; labels = []; before = [] }

-- in a region that defines these names itself, wherever in it they stand, and has these labels
abbrev pub inside : Env → RegionScope → RegionScope → Env
inside env scope labels =
    record { scopes = scope ∷ env.scopes; labels = labels; before = env.before }

-- behind definitions of these names
abbrev pub behind : Env → List Text → Env
behind env names =
    record { scopes = env.scopes; labels = env.labels; before = names ++ env.before }

-- The names differ from each other, and from those that are defined before.
pub record AreNew (before names : List Text) : Type 0 where
  pub distinct : IsDistinct bytes_eq names
  pub new : AllByRecursion (λ name. is_among before name ≡ false) names

-- ---- numbers

-- how many values the name of a result stands for: one, or as many as its pack is said to have;
-- 0 stands for a wrong size
abbrev pub pack_size : Option NumberCst → ℕ
pack_size = pack_count

-- the number of a use in its pack, from 0; that of the first where none is written
abbrev pub result_number : Option NumberCst → ℕ
result_number None = 0
result_number (Some number) = decimal 0 number.digits

-- the value with this number in a pack, by the number of the first and how many there are
abbrev pub in_pack : ℕ → ℕ × ℕ → Option ℕ
in_pack k pack = cond (nat_lt k pack.1) (Some (pack.0 + k)) None

-- the value that a use means
abbrev pub used : Env → UseCst → Option ℕ
used env u = option_and_then (in_pack (result_number u.number)) (looked env.scopes u.name)

-- the block of the region that a successor leads to
abbrev pub target : Env → NameCst → Option ℕ
target env s = option_map (λ label. label.1) (found env.labels s.name)

-- What a fact says of the numbers of an operation's operands, which are cut into segments of these
-- sizes, and of its successors: uses and labels mean them, one by one. `Region i r` is what is said
-- of the i-th region by its tree r.
abbrev pub Names : Env → List ℕ → List ℕ → List ℕ → (ℕ → RegionCst → Type 0) → Fact → Type 0
Names env sizes operands successors Region (uses_are i us) =
    IsSomeAnd (slice_get (parts sizes operands) i) (λ ns. map (used env) us ≡ map Some ns)
Names env sizes operands successors Region (all_uses_are us) =
    map (used env) us ≡ map Some operands
Names env sizes operands successors Region (successor_is i s) =
    IsSomeAnd (slice_get successors i) (λ b. target env s ≡ Some b)
Names env sizes operands successors Region (region_is i r) = Region i r
Names env sizes operands successors Region _ = Unit {0}

-- ---- names that a tree defines

-- the names of an operation's results, whose first value has the number n
abbrev pub result_scope : ℕ → List ResultCst → RegionScope
result_scope n [] = []
result_scope n (r ∷ rs) =
    record { name = r.name; at = n; number = pack_size r.pack }
    ∷ result_scope (n + pack_size r.pack) rs

-- the names of a block's arguments, of which the first has the number n
abbrev pub argument_scope : ℕ → List ArgCst → RegionScope
argument_scope n [] = []
argument_scope n (x ∷ xs) =
    record { name = x.name; at = n; number = 1 } ∷ argument_scope (n + 1) xs

-- the label of the block of this number, where it has one
abbrev pub label_of : ℕ → Option NameCst → RegionScope
label_of k None = []
label_of k (Some label) = record { name = label.name; at = k; number = k } ∷ []

-- the labels of a region's blocks, of which the first has the number k
abbrev pub label_scope : ℕ → List BlockCst → RegionScope
label_scope k [] = []
label_scope k (b ∷ bs) = label_of k (out-BlockCst b).label ++ label_scope (suc k) bs

-- the names of a scope
abbrev pub names_in : RegionScope → List Text
names_in scope = map (λ d. d.name) scope

-- the names of results
abbrev pub result_names : List ResultCst → List Text
result_names rs = map (λ r. r.name) rs

-- the names of arguments
abbrev pub argument_names : List ArgCst → List Text
argument_names xs = map (λ x. x.name) xs

-- the names of the results of operations, apart from those in their regions
abbrev pub op_names : List OpCst → List Text
op_names [] = []
op_names (c ∷ cs) = result_names (out-OpCst c).results ++ op_names cs
