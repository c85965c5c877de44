-- Aliases that become known one after another.
use Rattle.std.proofs.Common.{◌≡◌, ◌<◌, ℕ, Bool, true, false, List, [], ◌∷◌, ◌++◌, length, take, drop}
use Rattle.std.proofs.Common.{refl, sym, ◌∙◌, ap, subst}
use Rattle.std.specs.Prelude.{◌&&◌, bytes_eq, cond, option_map}
use Rattle.std.specs.declared.option.Option.{Option}
use Rattle.std.specs.declared.option.Option.TheVariants.{Some, None}
use Rattle.attr_value.specs.declared.head.ValueId.{ValueId}
use Rattle.attr_value.specs.Ids.{at}
use Rattle.attr_value.specs.Values.{Value}
use Rattle.constraint_solver.specs.Definitions.{AreSoundDefs}
use Rattle.constraint_solver.specs.Grown.{Extends}
use Rattle.dialect_defs.specs.declared.definition.TypeDef.{TypeDef}
use Rattle.dialect_defs.specs.Assignments.{Tests}
use Rattle.elaborate.specs.Aliases.{AreKnownSo, HasNone, IsFaultyAlias}
use Rattle.first_fault.specs.declared.fault.Fault.{Fault}
use Rattle.first_fault.specs.Firsts.{IsFirst}
use Rattle.first_fault.proofs.Firsts.{first-same}
use Rattle.generic_syntax.specs.declared.module_cst.AliasCst.{AliasCst}
use Rattle.ir_lexer.specs.Spelling.{Text}
use Rattle.module_meaning.specs.AliasValues.{HaveValues, no_aliases, values_under, with_value}
use Rattle.symbol_scopes.specs.Faults.{same_kind}
use Rattle.value_meaning.specs.declared.env.Aliases.{Aliases}
use Rattle.value_meaning.specs.AliasTable.{AliasIds, AreGoodAliases, alias_values, id_of, with_alias}
use Rattle.value_meaning.specs.Faults.{IsFault, Means}
use Rattle.value_meaning.specs.Meaning as meaning
use Rattle.value_meaning.proofs.FaultsGrow.{fault-grows, fault-shrinks}
use Rattle.value_meaning.proofs.Meant.{alias_values-grow, means-shrinks}

-- one alias more behind others
pub values-more : (aliases : meaning.Aliases) (xs : List AliasCst) (x : AliasCst)
    → values_under aliases (xs ++ x ∷ []) ≡ with_value (values_under aliases xs) x
values-more aliases [] x = refl
values-more aliases (y ∷ xs) x = values-more (with_value aliases y) xs x

pub have-more : (old : List Value) (tests : Tests) (types : List TypeDef)
    (aliases : meaning.Aliases) (xs : List AliasCst) (x : AliasCst) (v : Value)
    → HaveValues old tests types aliases xs
    → Means old tests types (values_under aliases xs) x.value v
    → HaveValues old tests types aliases (xs ++ x ∷ [])
have-more old tests types aliases [] x v h means = ((v, means), tt)
have-more old tests types aliases (y ∷ xs) x v h means =
    (h.0, have-more old tests types (with_value aliases y) xs x v h.1 means)

-- no alias is known
pub known-none : (old now : List Value) (tests : Tests) (types : List TypeDef) (aliases : Aliases)
    → HasNone aliases → AreKnownSo old tests types [] now aliases
known-none old now tests types aliases none = record {
  valued = tt;
  same = λ i is_type name. sym (ap (option_map (λ (id : ValueId). at now id.0)) (none is_type name)) i;
}

-- an alias that becomes known has its value
value-of-more : (table : List Value) (ids : AliasIds) (is_type : Bool) (name : Text)
    (id : ValueId) (kind : Bool) (other : Text)
    → option_map (λ (i : ValueId). at table i.0) (with_alias ids is_type name id kind other)
    ≡ cond (same_kind is_type kind && bytes_eq name other) (Some (at table id.0))
    (option_map (λ (i : ValueId). at table i.0) (ids kind other))
value-of-more table ids true name id true other = go (bytes_eq name other)
  where
    go : (same : Bool) → option_map (λ (i : ValueId). at table i.0)
        (cond same (Some id) (ids true other))
        ≡ cond same (Some (at table id.0)) (option_map (λ (i : ValueId). at table i.0)
        (ids true other))
    go true = refl
    go false = refl
value-of-more table ids true name id false other = refl
value-of-more table ids false name id true other = refl
value-of-more table ids false name id false other = go (bytes_eq name other)
  where
    go : (same : Bool) → option_map (λ (i : ValueId). at table i.0)
        (cond same (Some id) (ids false other))
        ≡ cond same (Some (at table id.0)) (option_map (λ (i : ValueId). at table i.0)
        (ids false other))
    go true = refl
    go false = refl

-- with one alias more, which means a value over the table that is there
pub known-more : (old now new : List Value) (count : ℕ) (tests : Tests) (types : List TypeDef)
    (xs : List AliasCst) (x : AliasCst) (aliases after : Aliases) (id : ValueId)
    → AreSoundDefs (length old) count types → Extends old now → Extends now new
    → AreGoodAliases now tests types aliases
    → AreKnownSo old tests types xs now aliases
    → Means now tests types (alias_values now aliases) x.value (at new id.0)
    → ((kind : Bool) (other : Text) → id_of after kind other
    ≡ with_alias (id_of aliases) x.is_type x.name id kind other)
    → AreKnownSo old tests types (xs ++ x ∷ []) new after
known-more old now new count tests types xs x aliases after id sound grown more good known means
    defined =
    let means_old : Means old tests types (values_under no_aliases xs) x.value (at new id.0) =
    subst (λ al. Means old tests types al x.value (at new id.0)) (sym known.same)
    (means-shrinks grown sound means) in
    record {
      valued = have-more old tests types no_aliases xs x (at new id.0) known.valued means_old;
      same = values-more no_aliases xs x ∙ (λ i kind other. same kind other i);
    }
  where
    spelled : meaning.value_of (values_under no_aliases xs) x.value ≡ Some (at new id.0)
    spelled = subst (λ al. meaning.value_of al x.value ≡ Some (at new id.0)) (sym known.same)
        means.spells

    kept : values_under no_aliases xs ≡ alias_values new aliases
    kept = known.same ∙ sym (alias_values-grow more good)

    same : (kind : Bool) (other : Text) → with_value (values_under no_aliases xs) x kind other
        ≡ alias_values new after kind other
    same kind other =
        (λ i. cond (same_kind x.is_type kind && bytes_eq x.name other) (spelled i)
        (kept i kind other))
        ∙ sym (value-of-more new (id_of aliases) x.is_type x.name id kind other)
        ∙ ap (option_map (λ (i : ValueId). at new i.0)) (sym (defined kind other))

-- the first fault of the next alias
pub faulty-next : (old now : List Value) (count : ℕ) (tests : Tests) (types : List TypeDef)
    (xs after : List AliasCst) (x : AliasCst) (aliases : Aliases) (f : Fault)
    → AreSoundDefs (length old) count types → Extends old now
    → AreKnownSo old tests types xs now aliases
    → IsFirst (IsFault now tests types (alias_values now aliases) 1 x.value) (Some f)
    → IsFaultyAlias old tests types (xs ++ x ∷ after) f
faulty-next old now count tests types xs after x aliases f sound grown known first = record {
  before = xs;
  alias = x;
  after = after;
  cut = refl;
  valued = known.valued;
  first = subst (λ al. IsFirst (IsFault old tests types al 1 x.value) (Some f)) (sym known.same)
      (first-same (IsFault now tests types (alias_values now aliases) 1 x.value)
      (IsFault old tests types (alias_values now aliases) 1 x.value) (Some f)
      (λ g. fault-shrinks grown sound (alias_values now aliases) 1 x.value g)
      (λ g. fault-grows grown sound (alias_values now aliases) 1 x.value g) first);
}
