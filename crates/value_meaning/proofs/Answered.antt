-- What is answered of a tree that was judged by itself.
use Rattle.std.proofs.Common.{◌≡◌, refl, subst, arith, ℕ, List, length, IfNone, IfSome, IsSome}
use Rattle.std.specs.declared.option.Option.{Option}
use Rattle.std.specs.declared.option.Option.TheVariants.{Some, None}
use Rattle.attr_value.specs.declared.head.ValueId.{ValueId}
use Rattle.attr_value.specs.Ids.{at}
use Rattle.attr_value.specs.Values.{Value}
use Rattle.constraint_solver.specs.Definitions.{AreSoundDefs}
use Rattle.constraint_solver.proofs.Grows.{extends-refl}
use Rattle.dialect_defs.specs.declared.definition.TypeDef.{TypeDef}
use Rattle.dialect_defs.specs.Assignments.{Tests}
use Rattle.first_fault.specs.declared.fault.Fault.{Fault}
use Rattle.first_fault.specs.Firsts.{IsFirst}
use Rattle.generic_syntax.specs.declared.cst.ValueCst.{ValueCst}
use Rattle.value_meaning.specs.declared.env.Aliases.{Aliases}
use Rattle.value_meaning.specs.declared.judged.Judged.{Judged}
use Rattle.value_meaning.specs.AliasTable.{alias_values, id_of, AreGoodAliases}
use Rattle.value_meaning.specs.Faults.{HasGood, IsFault, Means}
use Rattle.value_meaning.specs.Judging.{basis, Basis, ByEach, CanJudge, IsIdOf, IsJudged, IsReady}
use Rattle.value_meaning.specs.Judging.{with_table}
use Rattle.value_meaning.specs.Meaning.{seen}
use Rattle.value_meaning.proofs.Faultless.{means-faultless}

module _ (table : List Value) (tests : Tests) (count : ℕ) (types : List TypeDef)
    (aliases : Aliases) (defs : AreSoundDefs (length table) count types)
    (good : AreGoodAliases table tests types aliases) where
  -- what the tree is judged by
  abbrev pub all : Basis
  all = basis tests count types (id_of aliases)

  pub can : CanJudge (length table) all
  can = record { defs = defs; known = good.known }

  ready : IsReady all table
  ready = record { can = can; good = good.good }

  module _ (c : ValueCst) (new : List Value) (j : Judged)
      (x : ByEach all table 1 (λ g n al. IsJudged g n (seen al c) new j)) where
    it : IsJudged (with_table all table) 1 (seen (alias_values table aliases) c) new j
    it = x table 1 ready (extends-refl table) (omega (arith)) refl

    abbrev Fails : Fault → Type 0
    Fails = IsFault table tests types (alias_values table aliases) 1 c

    -- the first fault is the judgement's
    pub answered-first : (first : Option Fault) → j.first ≡ first → IsFirst Fails first
    answered-first first is = subst (IsFirst Fails) is it.judges.first

    -- where there is none, the tree has a good value
    pub answered-good : j.first ≡ None
        → HasGood table tests types (seen (alias_values table aliases) c).value
    answered-good none =
        let right = it.right none in
        record { value = right.value; is = right.spells; good = right.right.good }

    -- whose id is known
    pub answered-some : j.first ≡ None → IsSome j.value
    answered-some none = go j.value it.judges.none (answered-good none)
      where
        go : (v : Option ValueId)
            → IfNone v (HasGood table tests types (seen (alias_values table aliases) c).value → ⊥)
            → HasGood table tests types (seen (alias_values table aliases) c).value → IsSome v
        go (Some id) bad good = refl
        go None bad good = absurd (bad good)

    -- and stands for it
    pub answered-means : (id : ValueId) → j.value ≡ Some id
        → Means table tests types (alias_values table aliases) c (at new id.0)
    answered-means id is =
        let some = subst (λ v. IfSome v (IsIdOf (with_table all table)
        (seen (alias_values table aliases) c).value new)) is it.judges.some in
        record { spells = some.spells; good = some.good }

    -- a tree with a fault means no value
    pub answered-unmeant : (f : Fault) → j.first ≡ Some f → (v : Value)
        → Means table tests types (alias_values table aliases) c v → ⊥
    answered-unmeant f is v means =
        means-faultless defs good c v means f (answered-first (Some f) is).0
