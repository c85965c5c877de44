-- The rules that judged files keep or break: all that is used of the two words for them.
use Rattle.std.proofs.Common.{◌≡◌, ◌<◌, ℕ, List, length, sym, ◌∙◌, ap, subst}
use Rattle.irdl_ops.specs.declared.raw.RawDefs.{RawDefs}
use Rattle.dialect_registry.specs.declared.code.DefCode.{DefCode}
use Rattle.dialect_registry.specs.declared.loading.DefStop.{DefStop}
use Rattle.dialect_registry.specs.declared.loading.DefStop.TheVariants.{Refused}
use Rattle.dialect_registry.specs.declared.refusal.DefRefusal.{DefRefusal}
use Rattle.ir_lexer.specs.Spelling.{Text}
use Rattle.dialect_registry.specs.Details.{detail}
use Rattle.dialect_registry.specs.Refusals.{Refuses}
use Rattle.dialect_registry.proofs.Codes.{code_number-same}
use Rattle.dialect_registry.proofs.OneRefusal as one
use Rattle.irdl_engine.specs.Judged.{Predicates, AreAccepted, IsRefusedBy, IsToldAs}

-- files that keep all rules aren't refused
pub not-accepted-and-refused : (natives : Predicates) (defs : List RawDefs) (r : DefRefusal)
    → AreAccepted natives defs → IsRefusedBy natives defs r → ⊥
not-accepted-and-refused natives defs r accepted some =
    one.not-loaded-and-refused defs natives.names natives.tests accepted.values accepted.types
    accepted.ops r accepted.loaded some.refused

-- a refusal stands in one of the files
pub refused-within : (natives : Predicates) (defs : List RawDefs) (r : DefRefusal)
    → IsRefusedBy natives defs r → r.file < length defs
refused-within natives defs r some =
    one.refused-within defs natives.names natives.tests r some.refused

-- files are refused in one place, by one rule
pub refused-once : (natives : Predicates) (defs : List RawDefs) (r s : DefRefusal)
    → IsRefusedBy natives defs r → IsRefusedBy natives defs s → r ≡ s
refused-once natives defs r s x y =
    one.refused-once defs natives.names natives.tests r s x.refused y.refused

-- the same of what is told of them
pub one-refusal : (natives : Predicates) (defs : List RawDefs) (r s : DefRefusal)
    (m n p q : ℕ) (c e : DefCode) (a b : Text) → IsRefusedBy natives defs r
    → IsRefusedBy natives defs s → IsToldAs r m p c a → IsToldAs s n q e b
    → (m ≡ n) × (p ≡ q) × (c ≡ e) × (a ≡ b)
one-refusal natives defs r s m n p q c e a b x y t u =
    let same = refused-once natives defs r s x y in
    let rule = code_number-same c e
    (sym t.rule ∙ ap (λ (z : DefRefusal). z.code) same ∙ u.rule) in (
      sym t.in_file ∙ ap (λ (z : DefRefusal). z.file) same ∙ u.in_file,
      sym t.at ∙ ap (λ (z : DefRefusal). z.place) same ∙ u.at,
      rule,
      t.told_is ∙ ap (λ z. detail z r) rule ∙ ap (detail e) same ∙ sym u.told_is,
    )

-- what holds of a stop that is a refusal holds of the refusal
pub refuses-this : (P : DefRefusal → Type 0) {stop : DefStop} {r : DefRefusal} → stop ≡ Refused r
    → Refuses P stop → P r
refuses-this P is refuses = subst (Refuses P) is refuses
