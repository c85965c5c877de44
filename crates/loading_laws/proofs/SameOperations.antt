-- What loadings that are alike say of one operation.
use Rattle.std.proofs.Common.{◌≡◌, ◌<◌, ◌∙◌, ◌⊎◌, ◌↔◌, ℕ, true, false, List, length, sym, ap, subst}
use Rattle.std.specs.Prelude.{slice_get, Contains}
use Rattle.std.specs.List.{AllByRecursion}
use Rattle.dialect_defs.specs.declared.definition.OpDef.{OpDef}
use Rattle.dialect_defs.specs.declared.entry.Entry.{Entry}
use Rattle.dialect_defs.specs.Assignments.{Assignment}
use Rattle.dialect_defs.specs.Operations.{Operation, EntriesHave, AttrHas, RegionsHave, MeetsBy}
use Rattle.dialect_defs.specs.Operations.{attr_at, given_sizes, operand_sizes_key}
use Rattle.dialect_defs.specs.Operations.{result_sizes_key}
use Rattle.dialect_defs.specs.Segments.{Segments, is_single, parts}
use Rattle.generic_syntax.specs.declared.module_cst.OpCst.{OpCst}
use Rattle.generic_syntax.specs.declared.module_cst.RegionCst.{RegionCst}
use Rattle.loading_laws.specs.Alike.{IsOpAlike, AreAlike}
use Rattle.loading_laws.proofs.Pairs.{each-partner}
use Rattle.loading_laws.proofs.SameValues.{all-good-types, alike-back, op-back}
use Rattle.module_meaning.specs.Completes.{OpCompletes, OpSays, IsUnsatisfied}
use Rattle.module_meaning.specs.Facts.{CustomForms, Fact, Hides, operand_topic, result_topic, tells}
use Rattle.module_meaning.specs.Facts.{all_uses_topic}
use Rattle.module_meaning.specs.Names.{Env}
use Rattle.module_meaning.specs.Says.{Covers, Shows}
use Rattle.module_meaning.specs.WholeModules.{IsGoodType, Loaded, WholeHead}
use Rattle.std.specs.declared.option.Option.TheVariants.{Some}
use Rattle.symbol_scopes.proofs.Lists.{all-weaker}
use Rattle.value_meaning.specs.Meaning.{Aliases}

module _ (one two : Loaded) (d e : OpDef) (alike : IsOpAlike one two d e) where
  -- an operation that meets the one definition meets the other
  meets-other : (o : Operation) (operand_sizes result_sizes : List ℕ) (a : Assignment)
      → MeetsBy one.values one.tests d o operand_sizes result_sizes a
      → MeetsBy two.values two.tests e o operand_sizes result_sizes a
  meets-other o operand_sizes result_sizes a met = record {
    operand_segments = subst
        (λ es. Segments es (length o.operands) (given_sizes (attr_at o.attrs operand_sizes_key))
        operand_sizes) alike.operands met.operand_segments;
    result_segments = subst
        (λ es. Segments es (length o.results) (given_sizes (attr_at o.attrs result_sizes_key))
        result_sizes) alike.results met.result_segments;
    body = (alike.body a).0 met.body;
    operands = subst (λ es. EntriesHave a es (parts operand_sizes o.operands)) alike.operands
        met.operands;
    results = subst (λ es. EntriesHave a es (parts result_sizes o.results)) alike.results
        met.results;
    attrs = subst
        (λ es. AllByRecursion (λ entry. AttrHas a entry (attr_at o.attrs entry.name)) es)
        alike.attrs met.attrs;
    successors = met.successors ∙ ap length alike.successors;
    regions = subst (λ es. RegionsHave a es o.regions) alike.regions met.regions;
  }

  -- facts cover it by the one where they do by the other
  covers-other : (hides : Hides) (facts : List Fact) (o : Operation) → Covers d hides facts o
      → Covers e hides facts o
  covers-other hides facts o covers = record {
    dict = covers.dict;
    regions = covers.regions;
    successors = covers.successors;
    keys = covers.keys;
    uses = subst
        (λ (es : List Entry). (tells facts all_uses_topic ≡ true)
        ⊎ ((i : ℕ) → i < length es → tells facts (operand_topic i) ≡ true))
        alike.operands covers.uses;
    operands = subst
        (λ (es : List Entry). hides.operand_sizes ≡ true → (i : ℕ) → i < length es
        → tells facts (operand_topic i) ≡ true) alike.operands covers.operands;
    results = subst
        (λ (es : List Entry). hides.result_sizes ≡ true → (i : ℕ) (entry : Entry)
        → slice_get es i ≡ Some entry → is_single entry.arity ≡ false
        → tells facts (result_topic i) ≡ true) alike.results covers.results;
  }

  -- and it is what they say
  shows-other : (aliases : Aliases) (hides : Hides) (facts : List Fact) (o : Operation)
      (operand_sizes result_sizes : List ℕ)
      → Shows aliases d hides facts o operand_sizes result_sizes
      → Shows aliases e hides facts o operand_sizes result_sizes
  shows-other aliases hides facts o operand_sizes result_sizes shows = record {
    said = shows.said;
    covers = covers-other hides facts o shows.covers;
    others = shows.others;
    distinct = shows.distinct;
    free = shows.free;
    operand_sizes_are = shows.operand_sizes_are;
    result_sizes_are = shows.result_sizes_are;
  }

-- operations meet definitions that are alike by the same sizes and assignments
pub meets-alike : (one two : Loaded) (d e : OpDef) → IsOpAlike one two d e → (o : Operation)
    (operand_sizes result_sizes : List ℕ) (a : Assignment)
    → (MeetsBy one.values one.tests d o operand_sizes result_sizes a
    ↔ MeetsBy two.values two.tests e o operand_sizes result_sizes a)
meets-alike one two d e alike o operand_sizes result_sizes a = (
  meets-other one two d e alike o operand_sizes result_sizes a,
  meets-other two one e d (op-back one two d e alike) o operand_sizes result_sizes a,
)

module _ (one two : Loaded) (alike : AreAlike one two) where
  -- the definition that is like one of these
  pub partner : (d : OpDef) → Contains one.ops d
      → (e : OpDef) × Contains two.ops e × IsOpAlike one two d e
  partner d known = each-partner (IsOpAlike one two) one.ops two.ops alike.ops d known

  module _ (forms : CustomForms) (aliases : Aliases) where
    -- an operation completes its tree by the definition that is like its own
    abbrev completes-by : (c : OpCst) (o : Operation) (p : OpCompletes one forms aliases c o)
        (e : OpDef) → Contains two.ops e → IsOpAlike one two p.def e
        → OpCompletes two forms aliases c o
    completes-by c o p e known like = record {
      def = e;
      operand_sizes = p.operand_sizes;
      result_sizes = p.result_sizes;
      assignment = p.assignment;
      known = known;
      named = p.named ∙ like.name;
      shows = shows-other one two p.def e like aliases _ _ o p.operand_sizes p.result_sizes p.shows;
      results = p.results;
      operand_types = all-good-types one two alike o.operands p.operand_types;
      result_types = all-good-types one two alike o.results p.result_types;
      argument_types = all-weaker (AllByRecursion (AllByRecursion (IsGoodType one)))
          (AllByRecursion (AllByRecursion (IsGoodType two))) o.regions
          (λ blocks. all-weaker (AllByRecursion (IsGoodType one))
          (AllByRecursion (IsGoodType two)) blocks (all-good-types one two alike))
          p.argument_types;
      meets = meets-other one two p.def e like o p.operand_sizes p.result_sizes p.assignment
          p.meets;
    }

    -- what completes a tree by one loading does so by the other
    pub completes-alike : (c : OpCst) (o : Operation) → OpCompletes one forms aliases c o
        → OpCompletes two forms aliases c o
    completes-alike c o p =
        let found = partner p.def p.known in completes-by c o p found.0 found.1 found.2

    -- also where it stands in a module
    pub says-alike : (env : Env) (c : OpCst) (head : WholeHead) (o : Operation)
        (Region : ℕ → RegionCst → Type 0) → OpSays one forms aliases env c head o Region
        → OpSays two forms aliases env c head o Region
    says-alike env c head o Region p =
        let found = partner p.completes.def p.completes.known in
        record {
          completes = completes-by c o p.completes found.0 found.1 found.2;
          named = sym found.2.name ∙ p.named;
          names = p.names;
          packs = p.packs;
        }

-- a tree that nothing completes by one loading is completed by nothing by the other
pub unsatisfied-alike : (one two : Loaded) → AreAlike one two → (forms : CustomForms)
    (aliases : Aliases) (c : OpCst) → IsUnsatisfied one forms aliases c
    → IsUnsatisfied two forms aliases c
unsatisfied-alike one two alike forms aliases c none o p =
    none o (completes-alike two one (alike-back one two alike) forms aliases c o p)
