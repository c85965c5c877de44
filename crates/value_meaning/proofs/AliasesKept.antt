-- Aliases stay good: none, one more, and as the table grows.
use Rattle.std.proofs.Common.{◌≡◌, ◌<◌, Bool, true, false, List, length, sym, ◌∙◌, subst, arith, ℕ}
use Rattle.std.specs.Prelude.{bytes_eq, cond}
use Rattle.std.specs.declared.option.Option.TheVariants.{Some, None}
use Rattle.attr_value.specs.declared.head.ValueId.{ValueId}
use Rattle.attr_value.specs.Ids.{at}
use Rattle.attr_value.specs.Values.{Value}
use Rattle.constraint_solver.specs.Definitions.{AreSoundDefs}
use Rattle.constraint_solver.specs.Grown.{Extends}
use Rattle.constraint_solver.proofs.Grows.{good-at-grows, length-grows}
use Rattle.dialect_defs.specs.declared.definition.TypeDef.{TypeDef}
use Rattle.dialect_defs.specs.Assignments.{Tests}
use Rattle.dialect_defs.specs.Goodness.{Good}
use Rattle.ir_lexer.specs.Spelling.{Text}
use Rattle.value_meaning.specs.declared.env.Aliases.{Aliases}
use Rattle.value_meaning.specs.AliasTable.{AliasIds, AreGoodAliases, id_of, with_alias}

-- no alias is known
pub aliases-none : (table : List Value) (tests : Tests) (types : List TypeDef) (aliases : Aliases)
    → ((is_type : Bool) (name : Text) → id_of aliases is_type name ≡ None)
    → AreGoodAliases table tests types aliases
aliases-none table tests types aliases none = record {
  known = λ is_type name id is.
      let no : None ≡ Some id = sym (none is_type name) ∙ is in absurd (cc);
  good = λ is_type name id is.
      let no : None ≡ Some id = sym (none is_type name) ∙ is in absurd (cc);
}

-- the table is longer
pub aliases-grow : {old new : List Value} {count : ℕ} {tests : Tests} {types : List TypeDef}
    {aliases : Aliases} → Extends old new → AreSoundDefs (length old) count types
    → AreGoodAliases old tests types aliases → AreGoodAliases new tests types aliases
aliases-grow {tests = tests} grown sound x = record {
  known = λ is_type name id is.
      let less = x.known is_type name id is in
      let longer = length-grows grown in omega (arith, less, longer);
  good = λ is_type name id is.
      good-at-grows grown sound tests id.0 (x.known is_type name id is)
      (x.good is_type name id is);
}

-- what holds of each id that was there and of one more holds of each that is there
one-more : (P : ValueId → Type 0) (ids : AliasIds) (is_type : Bool) (name : Text) (id : ValueId)
    → ((kind : Bool) (other : Text) (i : ValueId) → ids kind other ≡ Some i → P i) → P id
    → (kind : Bool) (other : Text) (i : ValueId)
    → with_alias ids is_type name id kind other ≡ Some i → P i
one-more P ids true name id all last true other i is =
    go (bytes_eq name other) is
  where
    go : (same : Bool) → cond same (Some id) (ids true other) ≡ Some i → P i
    go true is = let it : id ≡ i = cc in subst P it last
    go false is = all true other i is
one-more P ids true name id all last false other i is = all false other i is
one-more P ids false name id all last true other i is = all true other i is
one-more P ids false name id all last false other i is =
    go (bytes_eq name other) is
  where
    go : (same : Bool) → cond same (Some id) (ids false other) ≡ Some i → P i
    go true is = let it : id ≡ i = cc in subst P it last
    go false is = all false other i is

-- one more is known, which is good
pub aliases-more : (table : List Value) (tests : Tests) (types : List TypeDef)
    (old new : Aliases) (is_type : Bool) (name : Text) (id : ValueId)
    → AreGoodAliases table tests types old
    → ((kind : Bool) (other : Text)
    → id_of new kind other ≡ with_alias (id_of old) is_type name id kind other)
    → id.0 < length table → Good table tests types (at table id.0)
    → AreGoodAliases table tests types new
aliases-more table tests types old new is_type name id x are known good = record {
  known = λ kind other i is.
      one-more (λ (k : ValueId). k.0 < length table) (id_of old) is_type name id x.known known kind
      other i (sym (are kind other) ∙ is);
  good = λ kind other i is.
      one-more (λ (k : ValueId). Good table tests types (at table k.0)) (id_of old) is_type name id
      x.good good kind other i (sym (are kind other) ∙ is);
}

-- they are the same
pub aliases-same : (table : List Value) (tests : Tests) (types : List TypeDef) (old new : Aliases)
    → AreGoodAliases table tests types old
    → ((kind : Bool) (other : Text) → id_of new kind other ≡ id_of old kind other)
    → AreGoodAliases table tests types new
aliases-same table tests types old new x are = record {
  known = λ kind other i is. x.known kind other i (sym (are kind other) ∙ is);
  good = λ kind other i is. x.good kind other i (sym (are kind other) ∙ is);
}
