-- What loadings that are alike say of values and of their trees.
use Rattle.std.proofs.Common.{ℕ, inl, inr, List, [], ◌∷◌, sym}
use Rattle.std.specs.List.{AllByRecursion}
use Rattle.std.specs.declared.option.Option.TheVariants.{Some, None}
use Rattle.attr_value.specs.Values.{Value}
use Rattle.dialect_defs.specs.declared.definition.OpDef.{OpDef}
use Rattle.first_fault.specs.declared.fault.Fault.{Fault}
use Rattle.generic_syntax.specs.declared.module_cst.AliasCst.{AliasCst}
use Rattle.loading_laws.specs.Alike.{IsOpAlike, AreAlike}
use Rattle.loading_laws.proofs.Pairs.{each-flipped}
use Rattle.module_meaning.specs.AliasValues.{with_value, AreAliases, HaveValues}
use Rattle.module_meaning.specs.WholeModules.{Loaded, IsGood, IsGoodType}
use Rattle.symbol_scopes.proofs.Lists.{all-weaker}
use Rattle.value_meaning.specs.Faults.{Breaks, IsFaultAmong}
use Rattle.value_meaning.specs.Meaning.{Aliases, Claim, Mark, stands, mentions, spells, types}
use Rattle.value_meaning.specs.Meaning.{counts, holds, measures, keys, names}

-- ---- the other way round

pub op-back : (one two : Loaded) (d e : OpDef) → IsOpAlike one two d e → IsOpAlike two one e d
op-back one two d e alike = record {
  name = sym alike.name;
  body = λ a. ((alike.body a).1, (alike.body a).0);
  operands = sym alike.operands;
  results = sym alike.results;
  attrs = sym alike.attrs;
  regions = sym alike.regions;
  successors = sym alike.successors;
  terminator = sym alike.terminator;
}

-- the second loading is like the first
pub alike-back : (one two : Loaded) → AreAlike one two → AreAlike two one
alike-back one two alike = record {
  good = λ v. ((alike.good v).1, (alike.good v).0);
  named = λ is_type name. ((alike.named is_type name).1, (alike.named is_type name).0);
  instances = λ is_type name kids.
      ((alike.instances is_type name kids).1, (alike.instances is_type name kids).0);
  ops = each-flipped (IsOpAlike one two) (IsOpAlike two one) (op-back one two) one.ops two.ops
      alike.ops;
}

-- ---- values

module _ (one two : Loaded) (alike : AreAlike one two) where
  -- good values are good
  pub all-good : (vs : List Value) → AllByRecursion (IsGood one) vs
      → AllByRecursion (IsGood two) vs
  all-good vs good = all-weaker (IsGood one) (IsGood two) vs (λ v. (alike.good v).0) good

  -- good types are good types
  pub all-good-types : (ts : List Value) → AllByRecursion (IsGoodType one) ts
      → AllByRecursion (IsGoodType two) ts
  all-good-types ts good = all-weaker (IsGoodType one) (IsGoodType two) ts
      (λ t g. record { good = (alike.good t).0 g.good; type = g.type }) good

  -- aliases are right
  pub aliases-alike : (aliases : Aliases) (xs : List AliasCst)
      → AreAliases one.values one.tests one.types aliases xs
      → AreAliases two.values two.tests two.types aliases xs
  aliases-alike aliases [] right = tt
  aliases-alike aliases (x ∷ xs) (new, (v, means), right) = (
    new,
    (v, record { spells = means.spells; good = (alike.good v).0 means.good }),
    aliases-alike (with_value aliases x) xs right,
  )

  -- aliases have good values
  pub valued-alike : (aliases : Aliases) (xs : List AliasCst)
      → HaveValues one.values one.tests one.types aliases xs
      → HaveValues two.values two.tests two.types aliases xs
  valued-alike aliases [] valued = tt
  valued-alike aliases (x ∷ xs) ((v, means), valued) = (
    (v, record { spells = means.spells; good = (alike.good v).0 means.good }),
    valued-alike (with_value aliases x) xs valued,
  )

  -- ---- what trees claim

  -- a claim breaks the same rules
  breaks-alike : (claim : Claim) (code : ℕ)
      → Breaks one.values one.tests one.types claim code
      → Breaks two.values two.tests two.types claim code
  breaks-alike (stands n) code broken = broken
  breaks-alike (mentions n None) code broken = broken
  breaks-alike (mentions n (Some v)) code broken = broken
  breaks-alike (spells b) code broken = broken
  breaks-alike (types kids) code (is, broken) = (
    is,
    record {
      kids_good = record {
        values_are = broken.kids_good.values_are;
        are = broken.kids_good.are;
        good = all-good broken.kids_good.values_are broken.kids_good.good;
      };
      wrong = broken.wrong;
    },
  )
  breaks-alike (counts negative digits type) code broken = broken
  breaks-alike (holds width item) code broken = broken
  breaks-alike (measures kind dims element) code (is, has, wrong) = (
    is,
    record { value = has.value; is = has.is; good = (alike.good has.value).0 has.good },
    wrong,
  )
  breaks-alike (keys before key) code broken = broken
  breaks-alike (names is_type name args) code (inl (is, unnamed)) =
      inl (is, λ named. unnamed ((alike.named is_type name).1 named))
  breaks-alike (names is_type name args) code (inr (is, broken)) = inr (
    is,
    record {
      named = (alike.named is_type name).0 broken.named;
      parameters = record {
        values_are = broken.parameters.values_are;
        are = broken.parameters.are;
        good = all-good broken.parameters.values_are broken.parameters.good;
      };
      wrong = λ instance. broken.wrong
          ((alike.instances is_type name broken.parameters.values_are).1 instance);
    },
  )

  -- trees have the same faults
  pub fault-alike : (ms : List Mark) (f : Fault)
      → IsFaultAmong one.values one.tests one.types ms f
      → IsFaultAmong two.values two.tests two.types ms f
  fault-alike ms f fault = record {
    mark = fault.mark;
    among = fault.among;
    is = record {
      place = fault.is.place;
      breaks = breaks-alike fault.mark.claim f.code fault.is.breaks;
    };
  }
