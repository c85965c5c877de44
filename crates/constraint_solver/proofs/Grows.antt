-- Tables that grow. What was sound or good over a table is so over a longer one (`-grows`), and
-- what is met or good over the longer one was so over the first, where bodies were sound over it
-- (`-shrinks`).
use Rattle.std.proofs.Common.{◌≡◌, ◌∙◌, ℕ, ◌<◌, ◌≤◌, ◌⊎◌, inl, inr, Bool, List, [], ◌∷◌, ◌++◌}
use Rattle.std.proofs.Common.{length, ap, sym, subst, arith, length-append, append_assoc}
use Rattle.std.proofs.Math.ListN.{get_or-append}
use Rattle.std.proofs.lemmas.List.{append-nil}
use Rattle.std.specs.List.{AllByRecursion}
use Rattle.std.specs.Prelude.{slice_get}
use Rattle.std.specs.declared.option.Option.TheVariants.{Some}
use Rattle.attr_value.specs.declared.head.Head.{Head}
use Rattle.attr_value.specs.declared.head.Head.TheVariants as h
use Rattle.attr_value.specs.declared.head.ValueId.{ValueId}
use Rattle.attr_value.specs.Ids.{at, kids_at, AreKnown}
use Rattle.attr_value.specs.Values.{Value, Values, none, more, value, list_of}
use Rattle.attr_uniquer.specs.Interned.{Interned}
use Rattle.attr_uniquer.proofs.Grown.{kids-at-same, known-more}
use Rattle.dialect_defs.specs.declared.body.Body.{Body}
use Rattle.dialect_defs.specs.declared.body.Constraint.{Constraint}
use Rattle.dialect_defs.specs.declared.body.Constraint.TheVariants.{Is, Any, Base, Parametric}
use Rattle.dialect_defs.specs.declared.body.Constraint.TheVariants.{AnyOf, AllOf, Native}
use Rattle.dialect_defs.specs.declared.definition.TypeDef.{TypeDef}
use Rattle.dialect_defs.specs.Assignments.{Tests, Assignment, Keeps, MeetsBody}
use Rattle.dialect_defs.specs.Bodies.{IsSoundAt, IsSoundBody}
use Rattle.dialect_defs.specs.Goodness.{IsDefinedAs, IsInstance, IsDefined, IsGoodNode}
use Rattle.dialect_defs.specs.Goodness.{AreGoodNodes, Good}
use Rattle.constraint_solver.specs.Definitions.{IsSoundDef, AreSoundDefs, IsInstanceOf}
use Rattle.constraint_solver.specs.Grown.{Extends}
use Rattle.constraint_solver.proofs.Filled.{all-at}
use Rattle.constraint_solver.proofs.Unconstrained.{sound-at}

-- a table is itself with nothing behind it
pub extends-refl : (vs : List Value) → Extends vs vs
extends-refl vs = record { more = []; is = sym (append-nil vs) }

-- what grows twice has grown
pub extends-trans : {a b c : List Value} → Extends a b → Extends b c → Extends a c
extends-trans {a} {b} {c} first then = record {
  more = first.more ++ then.more;
  is = then.is ∙ ap (λ vs. vs ++ then.more) first.is ∙ append_assoc a first.more then.more;
}

-- a table in which a value was kept is as it was, or has the value behind it
pub extends-of-interned : {old new : List Value} {v : Value} {i : ℕ} → Interned old new v i
    → Extends old new
extends-of-interned {old} {new} {v} {i} interned = by interned.kept
  where
    by : (new ≡ old) ⊎ (new ≡ old ++ v ∷ []) → Extends old new
    by (inl same) = record { more = []; is = same ∙ sym (append-nil old) }
    by (inr added) = record { more = v ∷ []; is = added }

-- a table that grew isn't shorter
pub length-grows : {old new : List Value} → Extends old new → length old ≤ length new
length-grows {old} {new} e = omega (arith, ap length e.is, length-append old e.more)

-- earlier values stay
pub at-grows : {old new : List Value} → Extends old new → (i : ℕ) → i < length old
    → at new i ≡ at old i
at-grows {old} {new} e i within =
    ap (λ vs. at vs i) e.is ∙ get_or-append old e.more (value h.Unit none) i within

-- and so do the kids that they are
pub kids_at-grows : {old new : List Value} → Extends old new → (ids : List ValueId)
    → AreKnown (length old) ids → kids_at new ids ≡ kids_at old ids
kids_at-grows {old} {new} e ids known = kids-at-same old new ids (at-grows e) known

-- ids that are known stay known
pub known-grows : {old new : List Value} → Extends old new → (ids : List ValueId)
    → AreKnown (length old) ids → AreKnown (length new) ids
known-grows {old} {new} e ids known =
    known-more (length old) (length new) ids (length-grows e) known

-- a constraint that a variable may have where m values are, it may have where there are more
sound-at-grows : (m n count v : ℕ) (c : Constraint) → m ≤ n → IsSoundAt m count v c
    → IsSoundAt n count v c
sound-at-grows m n count v (Is id) longer sound = omega (arith, longer, sound)
sound-at-grows m n count v Any longer sound = sound
sound-at-grows m n count v (Base base) longer sound = sound
sound-at-grows m n count v (Parametric is_type name parts) longer sound = sound
sound-at-grows m n count v (AnyOf members) longer sound = sound
sound-at-grows m n count v (AllOf members) longer sound = sound
sound-at-grows m n count v (Native i) longer sound = sound

-- a body that is sound over a table is so over a longer one
pub sound-body-grows : {m n count : ℕ} {body : Body} → m ≤ n → IsSoundBody m count body
    → IsSoundBody n count body
sound-body-grows {m} {n} {count} {body} longer sound = record {
  few = sound.few;
  each = λ v c is. sound-at-grows m n count v c longer (sound.each v c is);
}

-- and so is a definition
pub sound-def-grows : {m n count : ℕ} {d : TypeDef} → m ≤ n → IsSoundDef m count d
    → IsSoundDef n count d
sound-def-grows {m} {n} {count} {d} longer sound = record {
  either = elim sound.either [
    | inl body ↦ inl (record {
      body = sound-body-grows longer body.body;
      params = body.params;
    })
    | inr free ↦ inr free
  ];
}

each-sound-grows : (m n count : ℕ) (types : List TypeDef) → m ≤ n
    → AllByRecursion (IsSoundDef m count) types → AllByRecursion (IsSoundDef n count) types
each-sound-grows m n count [] longer sound = tt
each-sound-grows m n count (d ∷ types) longer sound =
    (sound-def-grows longer sound.0, each-sound-grows m n count types longer sound.1)

-- and each of a list of them
pub sound-defs-grows : {m n count : ℕ} {types : List TypeDef} → m ≤ n
    → AreSoundDefs m count types → AreSoundDefs n count types
sound-defs-grows {m} {n} {count} {types} longer sound =
    record { each = each-sound-grows m n count types longer sound.each }

-- a definition of a list of sound ones is sound
pub sound-def-listed : {len count : ℕ} {types : List TypeDef} {is_type : Bool} {name : List ℕ}
    {d : TypeDef} → AreSoundDefs len count types → IsDefinedAs types is_type name d
    → IsSoundDef len count d
sound-def-listed {len} {count} {types} {is_type} {name} {d} sound defined =
    let listed = defined.listed in
    subst (IsSoundDef len count) listed.2
    (all-at (IsSoundDef len count) types listed.0 d listed.1 sound.each)

-- two tables have the same values at their first n places
record AgreeBelow (n : ℕ) (vs ws : List Value) : Type 0 where
  pub same : (i : ℕ) → i < n → at ws i ≡ at vs i

agree-grown : {old new : List Value} → Extends old new → AgreeBelow (length old) old new
agree-grown e = record { same = at-grows e }

agree-sym : {n : ℕ} {vs ws : List Value} → AgreeBelow n vs ws → AgreeBelow n ws vs
agree-sym agree = record { same = λ i within. sym (agree.same i within) }

-- what is so over a table, where it names values of the first n places alone, is so over every
-- table that has the same values there
module _ (n count : ℕ) (vs ws : List Value) (agree : AgreeBelow n vs ws) (tests : Tests) where
  keeps-agrees : (v : ℕ) (c : Constraint) (a : Assignment) (x : Value) → IsSoundAt n count v c
      → Keeps vs tests a c x → Keeps ws tests a c x
  keeps-agrees v (Is id) a x sound kept = kept ∙ sym (agree.same id.0 sound)
  keeps-agrees v Any a x sound kept = kept
  keeps-agrees v (Base base) a x sound kept = kept
  keeps-agrees v (Parametric is_type name parts) a x sound kept = kept
  keeps-agrees v (AnyOf members) a x sound kept = kept
  keeps-agrees v (AllOf members) a x sound kept = kept
  keeps-agrees v (Native i) a x sound kept = kept

  meets-agrees : (body : Body) (a : Assignment)
      → ((v : ℕ) (c : Constraint) → slice_get body.vars v ≡ Some c → IsSoundAt n count v c)
      → MeetsBody vs tests body a → MeetsBody ws tests body a
  meets-agrees body a sound met = record {
    size = met.size;
    each = λ v c x is has. keeps-agrees v.0 c a x (sound v.0 c is) (met.each v c x is has);
  }

  instance-of-agrees : (d : TypeDef) (kids : List Value) → IsSoundDef n count d
      → IsInstanceOf vs tests d kids → IsInstanceOf ws tests d kids
  instance-of-agrees d kids sound instance = record {
    assignment = instance.assignment;
    meets = meets-agrees d.body instance.assignment (sound-at sound) instance.meets;
    params = instance.params;
  }

  module _ (types : List TypeDef) (sound : AreSoundDefs n count types) where
    instance-agrees : (is_type : Bool) (name : List ℕ) (kids : List Value)
        → IsInstance vs tests types is_type name kids
        → IsInstance ws tests types is_type name kids
    instance-agrees is_type name kids instance = record {
      definition = instance.definition;
      defined = instance.defined;
      assignment = instance.assignment;
      meets = meets-agrees instance.definition.body instance.assignment
          (sound-at (sound-def-listed sound instance.defined)) instance.meets;
      params = instance.params;
    }

    defined-agrees : (head : Head) (kids : List Value) → IsDefined vs tests types head kids
        → IsDefined ws tests types head kids
    defined-agrees (h.Dialect is_type name) kids defined =
        instance-agrees is_type name kids defined
    defined-agrees _ kids defined = tt

    node-agrees : (head : Head) (kids : List Value) → IsGoodNode vs tests types head kids
        → IsGoodNode ws tests types head kids
    node-agrees head kids node =
        record { rule = node.rule; defined = defined-agrees head kids node.defined }

    nodes-agree : (kids : Values) → AreGoodNodes vs tests types kids
        → AreGoodNodes ws tests types kids
    nodes-agree none good = tt
    nodes-agree (more head kids rest) good =
        (node-agrees head (list_of kids) good.0, nodes-agree kids good.1, nodes-agree rest good.2)

    good-agrees : (v : Value) → Good vs tests types v → Good ws tests types v
    good-agrees v good = record {
      shallow = good.shallow;
      node = node-agrees v.head (list_of v.kids) good.node;
      kids = nodes-agree v.kids good.kids;
    }

-- an assignment that meets a sound body goes on to
pub meets-grows : {old new : List Value} {count : ℕ} {tests : Tests} {body : Body}
    {a : Assignment} → Extends old new → IsSoundBody (length old) count body
    → MeetsBody old tests body a → MeetsBody new tests body a
meets-grows {old} {new} {count} {tests} {body} {a} e sound met =
    meets-agrees (length old) count old new (agree-grown e) tests body a sound.each met

-- and did before
pub meets-shrinks : {old new : List Value} {count : ℕ} {tests : Tests} {body : Body}
    {a : Assignment} → Extends old new → IsSoundBody (length old) count body
    → MeetsBody new tests body a → MeetsBody old tests body a
meets-shrinks {old} {new} {count} {tests} {body} {a} e sound met =
    meets-agrees (length old) count new old (agree-sym (agree-grown e)) tests body a sound.each met

-- an instance of a sound definition stays one
pub instance-of-grows : {old new : List Value} {count : ℕ} {tests : Tests} {d : TypeDef}
    {kids : List Value} → Extends old new → IsSoundDef (length old) count d
    → IsInstanceOf old tests d kids → IsInstanceOf new tests d kids
instance-of-grows {old} {new} {count} {tests} {d} {kids} e sound instance =
    instance-of-agrees (length old) count old new (agree-grown e) tests d kids sound instance

-- and was one before
pub instance-of-shrinks : {old new : List Value} {count : ℕ} {tests : Tests} {d : TypeDef}
    {kids : List Value} → Extends old new → IsSoundDef (length old) count d
    → IsInstanceOf new tests d kids → IsInstanceOf old tests d kids
instance-of-shrinks {old} {new} {count} {tests} {d} {kids} e sound instance =
    instance-of-agrees (length old) count new old (agree-sym (agree-grown e)) tests d kids sound
    instance

-- so does an instance of a kind and name, where all definitions are sound
pub instance-grows : {old new : List Value} {count : ℕ} {tests : Tests} {types : List TypeDef}
    {is_type : Bool} {name : List ℕ} {kids : List Value} → Extends old new
    → AreSoundDefs (length old) count types → IsInstance old tests types is_type name kids
    → IsInstance new tests types is_type name kids
instance-grows {old} {new} {count} {tests} {types} {is_type} {name} {kids} e sound instance =
    instance-agrees (length old) count old new (agree-grown e) tests types sound is_type name kids
    instance

-- and was one before
pub instance-shrinks : {old new : List Value} {count : ℕ} {tests : Tests} {types : List TypeDef}
    {is_type : Bool} {name : List ℕ} {kids : List Value} → Extends old new
    → AreSoundDefs (length old) count types → IsInstance new tests types is_type name kids
    → IsInstance old tests types is_type name kids
instance-shrinks {old} {new} {count} {tests} {types} {is_type} {name} {kids} e sound instance =
    instance-agrees (length old) count new old (agree-sym (agree-grown e)) tests types sound is_type
    name kids instance

-- a head and kids that keep to their own rules go on to
pub good-node-grows : {old new : List Value} {count : ℕ} {tests : Tests} {types : List TypeDef}
    {head : Head} {kids : List Value} → Extends old new → AreSoundDefs (length old) count types
    → IsGoodNode old tests types head kids → IsGoodNode new tests types head kids
good-node-grows {old} {new} {count} {tests} {types} {head} {kids} e sound node =
    node-agrees (length old) count old new (agree-grown e) tests types sound head kids node

-- and did before
pub good-node-shrinks : {old new : List Value} {count : ℕ} {tests : Tests} {types : List TypeDef}
    {head : Head} {kids : List Value} → Extends old new → AreSoundDefs (length old) count types
    → IsGoodNode new tests types head kids → IsGoodNode old tests types head kids
good-node-shrinks {old} {new} {count} {tests} {types} {head} {kids} e sound node =
    node-agrees (length old) count new old (agree-sym (agree-grown e)) tests types sound head kids
    node

-- values that do, with all in them, go on to
pub good-nodes-grows : {old new : List Value} {count : ℕ} {types : List TypeDef} → Extends old new
    → AreSoundDefs (length old) count types → (tests : Tests) (kids : Values)
    → AreGoodNodes old tests types kids → AreGoodNodes new tests types kids
good-nodes-grows {old} {new} {count} {types} e sound tests kids nodes =
    nodes-agree (length old) count old new (agree-grown e) tests types sound kids nodes

-- and did before
pub good-nodes-shrinks : {old new : List Value} {count : ℕ} {types : List TypeDef}
    → Extends old new → AreSoundDefs (length old) count types → (tests : Tests) (kids : Values)
    → AreGoodNodes new tests types kids → AreGoodNodes old tests types kids
good-nodes-shrinks {old} {new} {count} {types} e sound tests kids nodes =
    nodes-agree (length old) count new old (agree-sym (agree-grown e)) tests types sound kids nodes

-- a good value stays good
pub good-grows : {old new : List Value} {count : ℕ} {tests : Tests} {types : List TypeDef}
    {v : Value} → Extends old new → AreSoundDefs (length old) count types
    → Good old tests types v → Good new tests types v
good-grows {old} {new} {count} {tests} {types} {v} e sound good =
    good-agrees (length old) count old new (agree-grown e) tests types sound v good

-- and was good before
pub good-shrinks : {old new : List Value} {count : ℕ} {tests : Tests} {types : List TypeDef}
    {v : Value} → Extends old new → AreSoundDefs (length old) count types
    → Good new tests types v → Good old tests types v
good-shrinks {old} {new} {count} {tests} {types} {v} e sound good =
    good-agrees (length old) count new old (agree-sym (agree-grown e)) tests types sound v good

-- each good value of a list stays good
pub each-good-grows : {old new : List Value} {count : ℕ} {types : List TypeDef}
    → Extends old new → AreSoundDefs (length old) count types → (tests : Tests)
    (vs : List Value) → AllByRecursion (Good old tests types) vs
    → AllByRecursion (Good new tests types) vs
each-good-grows e sound tests [] good = tt
each-good-grows e sound tests (v ∷ vs) good =
    (good-grows e sound good.0, each-good-grows e sound tests vs good.1)

-- and so does the value of an id
pub good-at-grows : {old new : List Value} {count : ℕ} {types : List TypeDef} → Extends old new
    → AreSoundDefs (length old) count types → (tests : Tests) (i : ℕ) → i < length old
    → Good old tests types (at old i) → Good new tests types (at new i)
good-at-grows {old} {new} {count} {types} e sound tests i within good =
    subst (Good new tests types) (sym (at-grows e i within)) (good-grows e sound good)
