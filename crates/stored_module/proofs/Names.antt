-- The names of a sound registry's definitions can be spelled: each is a bare id, a dot and a bare
-- id, so it is a bare id, a dot stands in it, and it has bytes.
--
--   between-same, ..      what is a bare id in a definition file is one in the IR
--   bare-both, dot-in     a dot and more behind a bare id
--   byte-small, bytes-of  its bytes
use Rattle.std.proofs.Common.{◌≡◌, ℕ, ◌<◌, true, not, ◌&&◌, ◌||◌, ◌==◌, List, []}
use Rattle.std.proofs.Common.{◌∷◌, ◌++◌, refl, sym, ◌∙◌, ap, ap₂, subst, arith, nat_le, nat_lt}
use Rattle.std.proofs.Common.{append_assoc}
use Rattle.std.proofs.lemmas.Bool.Decides.{nat_tests}
use Rattle.std.specs.List.{AllByRecursion, list_all}
use Rattle.derived_printer.specs.Spellable.{AreBytes, IsFullName}
use Rattle.derived_printer.specs.Spelling.{is_bare, is_bare_start, is_bare_byte, goes_on_bare}
use Rattle.dialect_defs.specs.declared.definition.OpDef.{OpDef}
use Rattle.dialect_defs.specs.declared.definition.TypeDef.{TypeDef}
use Rattle.dialect_registry.specs.NameShapes.{is_bare_id, is_dialect_name, is_start, is_inner}
use Rattle.dialect_registry.specs.NameShapes as shape
use Rattle.dialect_registry.specs.Registered.{HasFullName, IsSound, Registered}
use Rattle.grammar.specs.Looks.{has_dot}
use Rattle.grammar.proofs.Meet.{true-or, or-first}
use Rattle.ir_lexer.specs.Names.{is_between}
use Rattle.ir_lexer.specs.Spelling.{Text}
use Rattle.ir_lexer.proofs.Derive.{and-left, and-right, and-both}
use Rattle.module_meaning.specs.WholeModules.{Loaded}
use Rattle.module_text.specs.WellFormed.{NamesAreSpellable}

-- ---- bare ids

-- a byte of a range
between-same : (low high b : ℕ) → shape.is_between low high b ≡ is_between low high b
between-same low high b = ap₂ (λ p q. p && q) (not-below low b) (not-below b high)
  where
    not-below : (m n : ℕ) → not (nat_lt n m) ≡ nat_le m n
    not-below m n = grind (arith, nat_tests)

start-same : (b : ℕ) → is_start b ≡ is_bare_start b
start-same b =
    ap (λ p. p || (shape.is_between 97 122 b || (b == 95))) (between-same 65 90 b)
    ∙ ap (λ p. is_between 65 90 b || (p || (b == 95))) (between-same 97 122 b)

inner-same : (b : ℕ) → is_inner b ≡ is_bare_byte b
inner-same b =
    ap (λ p. p || (shape.is_between 48 57 b || shape.is_sign b)) (start-same b)
    ∙ ap (λ p. is_bare_start b || (p || shape.is_sign b)) (between-same 48 57 b)

-- bytes of a bare id
inner-bare : (t : Text) → list_all is_inner t ≡ true → goes_on_bare t ≡ true
inner-bare [] e = refl
inner-bare (b ∷ t) e =
    and-both (is_bare_byte b) (goes_on_bare t)
    (sym (inner-same b) ∙ and-left (is_inner b) (list_all is_inner t) e)
    (inner-bare t (and-right (is_inner b) (list_all is_inner t) e))

-- the first byte of a bare id
start-bare : (b : ℕ) (t : Text) → is_bare_id (b ∷ t) ≡ true → is_bare_start b ≡ true
start-bare b t e = sym (start-same b) ∙ and-left (is_start b) (list_all is_inner t) e

-- all bytes of a bare id may stand in one
bare-goes-on : (t : Text) → is_bare_id t ≡ true → goes_on_bare t ≡ true
bare-goes-on [] e = refl
bare-goes-on (b ∷ t) e =
    and-both (is_bare_byte b) (goes_on_bare t)
    (or-first (is_bare_start b) _ (start-bare b t e))
    (inner-bare t (and-right (is_start b) (list_all is_inner t) e))

-- more bytes behind some
goes-on-both : (s t : Text) → goes_on_bare s ≡ true → goes_on_bare t ≡ true
    → goes_on_bare (s ++ t) ≡ true
goes-on-both [] t e f = f
goes-on-both (b ∷ s) t e f =
    and-both (is_bare_byte b) (goes_on_bare (s ++ t))
    (and-left (is_bare_byte b) (goes_on_bare s) e)
    (goes-on-both s t (and-right (is_bare_byte b) (goes_on_bare s) e) f)

-- and behind a bare id
bare-both : (s t : Text) → is_bare_id s ≡ true → goes_on_bare t ≡ true → is_bare (s ++ t) ≡ true
bare-both [] t e f = absurd (cc)
bare-both (b ∷ s) t e f =
    and-both (is_bare_start b) (goes_on_bare (s ++ t))
    (start-bare b s e)
    (goes-on-both s t (inner-bare s (and-right (is_start b) (list_all is_inner s) e)) f)

-- a dot stands behind a text
dot-in : (s t : Text) → has_dot (s ++ 46 ∷ t) ≡ true
dot-in [] t = refl
dot-in (b ∷ s) t = true-or (b == 46) (has_dot (s ++ 46 ∷ t)) (dot-in s t)

-- ---- bytes

-- a byte of a bare id is one
byte-small : (b : ℕ) → is_bare_byte b ≡ true → b < 256
byte-small b e = grind (arith, e)

bytes-of : (t : Text) → goes_on_bare t ≡ true → AreBytes t
bytes-of [] e = tt
bytes-of (b ∷ t) e = (
  byte-small b (and-left (is_bare_byte b) (goes_on_bare t) e),
  bytes-of t (and-right (is_bare_byte b) (goes_on_bare t) e),
)

-- so a bare id has bytes
bare-bytes : (t : Text) → is_bare t ≡ true → AreBytes t
bare-bytes [] e = tt
bare-bytes (b ∷ t) e = bytes-of (b ∷ t) (and-both (is_bare_byte b) (goes_on_bare t)
    (or-first (is_bare_start b) _ (and-left (is_bare_start b) (goes_on_bare t) e))
    (and-right (is_bare_start b) (goes_on_bare t) e))

-- ---- full names

-- the name of a definition has its shape
full-named : (name : Text) → HasFullName name → IsFullName name
full-named name h =
    let dialect : is_bare_id h.dialect ≡ true =
    and-left (is_bare_id h.dialect) _ h.dialect_shape in
    let is : name ≡ h.dialect ++ (46 ∷ h.own) =
    h.is ∙ append_assoc h.dialect (46 ∷ []) h.own in
    record {
      bare = subst (λ (t : Text). is_bare t ≡ true) (sym is)
          (bare-both h.dialect (46 ∷ h.own) dialect
          (bare-goes-on h.own h.own_shape));
      dotted = subst (λ (t : Text). has_dot t ≡ true) (sym is) (dot-in h.dialect h.own);
    }

types-named : (types : List TypeDef) → AllByRecursion (λ (d : TypeDef). HasFullName d.name) types
    → AllByRecursion (λ (d : TypeDef). IsFullName d.name) types
types-named [] h = tt
types-named (d ∷ types) (p, h) = (full-named d.name p, types-named types h)

ops-named : (ops : List OpDef) → AllByRecursion (λ (d : OpDef). HasFullName d.name) ops
    → AllByRecursion (λ (d : OpDef). AreBytes d.name) ops
ops-named [] h = tt
ops-named (d ∷ ops) (p, h) = (bare-bytes d.name (full-named d.name p).bare, ops-named ops h)

-- The names of a sound registry's definitions can be spelled.
pub names-spellable : (len count : ℕ) (r : Registered) (loaded : Loaded) → IsSound len count r
    → loaded.types ≡ r.types → loaded.ops ≡ r.ops → NamesAreSpellable loaded
names-spellable len count r loaded sound types ops = record {
  types = record {
    each = subst (AllByRecursion (λ (d : TypeDef). IsFullName d.name)) (sym types)
        (types-named r.types sound.type_names);
  };
  ops = subst (AllByRecursion (λ (d : OpDef). AreBytes d.name)) (sym ops)
      (ops-named r.ops sound.op_names);
}
