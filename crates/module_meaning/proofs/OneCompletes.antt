-- At most one operation completes the tree of an operation, where the tree determines its types;
-- and the generic form does.
use Rattle.std.proofs.Common.{◌≡◌, ℕ, List, length, refl, sym, ◌∙◌, ap, subst, Option, Some, ℤ}
use Rattle.std.proofs.Common.{true, ◌≤◌, inl, inr, None}
use Rattle.std.proofs.lemmas.Bool.{cases_lt}
use Rattle.std.specs.List.{AllByRecursion}
use Rattle.attr_value.specs.Heads.{Ascend}
use Rattle.attr_value.specs.Values.{Value}
use Rattle.dialect_defs.specs.declared.definition.OpDef.{OpDef}
use Rattle.dialect_defs.specs.declared.entry.Entry.{Entry}
use Rattle.dialect_defs.specs.Operations.{Operation, attr_at, given_sizes, MeetsBy}
use Rattle.dialect_defs.specs.Operations.{operand_sizes_key}
use Rattle.dialect_defs.specs.Segments.{Segments}
use Rattle.generic_syntax.specs.declared.cst.ValueCst.{ValueCst}
use Rattle.generic_syntax.specs.declared.module_cst.FormCst.{out-FormCst}
use Rattle.generic_syntax.specs.declared.module_cst.FormCst.TheOpen.{FormCst-F}
use Rattle.generic_syntax.specs.declared.module_cst.GenericCst.{out-GenericCst}
use Rattle.generic_syntax.specs.declared.module_cst.OpCst.{OpCst, out-OpCst}
use Rattle.ir_lexer.specs.Spelling.{Text}
use Rattle.module_meaning.proofs.Attributes.{attr_at-exact}
use Rattle.module_meaning.proofs.OneOperation as one
use Rattle.module_meaning.proofs.Places.{map-some}
use Rattle.module_meaning.specs.Completes.{OpCompletes, HaveDistinctOps, HaveOneTyping}
use Rattle.module_meaning.specs.Facts.{CustomForms, FormSeen, facts_in, form_facts, form_hides}
use Rattle.module_meaning.specs.Facts.{no_forms, tells, dict_topic}
use Rattle.module_meaning.specs.Says.{Says, Shows, SpellTypes}
use Rattle.module_meaning.specs.WholeModules.{Loaded, keys_in_order}
use Rattle.segment_match.specs.Spread.{flexible}
use Rattle.segment_match.proofs.Unique.{determined, naturals-same, given-is, given-none}
use Rattle.value_meaning.specs.Meaning.{Aliases}

-- an operation is its parts
operation-same : (o p : Operation) → o.operands ≡ p.operands → o.results ≡ p.results
    → o.successors ≡ p.successors → o.attrs ≡ p.attrs → o.regions ≡ p.regions → o ≡ p
operation-same o p a b c d e =
    ap (λ x. record {
      operands = x;
      results = o.results;
      successors = o.successors;
      attrs = o.attrs;
      regions = o.regions;
    }) a
    ∙ (ap (λ x. record {
      operands = p.operands;
      results = x;
      successors = o.successors;
      attrs = o.attrs;
      regions = o.regions;
    }) b
    ∙ (ap (λ x. record {
      operands = p.operands;
      results = p.results;
      successors = x;
      attrs = o.attrs;
      regions = o.regions;
    }) c
    ∙ (ap (λ x. record {
      operands = p.operands;
      results = p.results;
      successors = p.successors;
      attrs = x;
      regions = o.regions;
    }) d
    ∙ ap (λ x. record {
      operands = p.operands;
      results = p.results;
      successors = p.successors;
      attrs = p.attrs;
      regions = x;
    }) e)))

module _ (loaded : Loaded) (forms : CustomForms) (aliases : Aliases)
    (distinct : HaveDistinctOps loaded.ops) where
  abbrev Completing : OpCst → Operation → Type 0
  Completing c o = OpCompletes loaded forms aliases c o

  -- what completes a tree is of one definition
  pub same-def : (c : OpCst) (o p : Operation) (a : Completing c o) (b : Completing c p)
      → a.def ≡ b.def
  same-def c o p a b = distinct.same a.def b.def a.known b.known (sym a.named ∙ b.named)

  -- what two operations that complete a tree share, whatever their types
  pub record SameParts (o p : Operation) : Type 0 where
    pub attrs : (key : Text) → attr_at o.attrs key ≡ attr_at p.attrs key
    pub regions : o.regions ≡ p.regions
    pub successors : o.successors ≡ p.successors

  pub same-parts : (c : OpCst) (o p : Operation) → Completing c o → Completing c p → SameParts o p
  same-parts c o p a b = go a.def (same-def c o p a b) a.shows a.meets
    where
      go : (d : OpDef) → d ≡ b.def
          → Shows aliases d (form_hides forms c) (form_facts forms c) o
          a.operand_sizes a.result_sizes
          → MeetsBy loaded.values loaded.tests d o a.operand_sizes a.result_sizes a.assignment
          → SameParts o p
      go d e shows meets =
          let s = subst (λ (x : OpDef). Shows aliases x (form_hides forms c)
          (form_facts forms c) o a.operand_sizes a.result_sizes) e shows in
          let m = subst (λ (x : OpDef). MeetsBy loaded.values loaded.tests x o a.operand_sizes
          a.result_sizes a.assignment) e meets in
          record {
            attrs = one.same-attrs aliases loaded.values loaded.tests b.def
                (form_hides forms c) (form_facts forms c) o p
                a.operand_sizes a.result_sizes b.operand_sizes b.result_sizes a.assignment
                b.assignment s b.shows m b.meets;
            regions = one.same-regions aliases loaded.values loaded.tests b.def
                (form_hides forms c) (form_facts forms c) o p
                a.operand_sizes a.result_sizes b.operand_sizes b.result_sizes a.assignment
                b.assignment s b.shows m b.meets;
            successors = one.same-successors aliases loaded.values loaded.tests b.def
                (form_hides forms c) (form_facts forms c) o p
                a.operand_sizes a.result_sizes b.operand_sizes b.result_sizes a.assignment
                b.assignment s b.shows m b.meets;
          }

-- ---- sizes

-- the sizes of segments are determined by how many values there are and by what is given
segments-same : (es : List Entry) (n : ℕ) (given : Option (List ℤ)) (s t : List ℕ)
    → Segments es n given s → Segments es n given t → s ≡ t
segments-same es n given s t a b = elim (cases_lt (flexible es) 2) [
  | inl few ↦
      determined es s n _ few a.total refl a.fit ∙ sym (determined es t n _ few b.total refl b.fit)
  | inr many ↦ by given refl a b many
]
  where
    by : (g : Option (List ℤ)) → given ≡ g → Segments es n given s → Segments es n given t
        → 2 ≤ flexible es → s ≡ t
    by None e a b many = absurd (given-none es n given s many e a)
    by (Some l) e a b many =
        naturals-same s t
        (sym (given-is es n given l s many e a) ∙ given-is es n given l t many e b)

module _ (loaded : Loaded) (forms : CustomForms) (aliases : Aliases)
    (distinct : HaveDistinctOps loaded.ops) (typing : HaveOneTyping loaded forms) where
  -- operands are cut alike
  pub same-cut : (c : OpCst) (o p : Operation) (a : OpCompletes loaded forms aliases c o)
      (b : OpCompletes loaded forms aliases c p) → a.operand_sizes ≡ b.operand_sizes
  same-cut c o p a b =
      let parts = same-parts loaded forms aliases distinct c o p a b in
      let entries : a.def.operands ≡ b.def.operands =
      ap (λ (d : OpDef). d.operands) (same-def loaded forms aliases distinct c o p a b) in
      let long : length o.operands ≡ length p.operands =
      ap length (typing.operands aliases c o p a b) in
      let given : given_sizes (attr_at o.attrs operand_sizes_key)
      ≡ given_sizes (attr_at p.attrs operand_sizes_key) =
      ap given_sizes (parts.attrs operand_sizes_key) in
      let first = subst (λ (es : List Entry). Segments es (length o.operands)
      (given_sizes (attr_at o.attrs operand_sizes_key)) a.operand_sizes) entries
      a.meets.operand_segments in
      let second = subst (λ (n : ℕ). Segments b.def.operands n
      (given_sizes (attr_at o.attrs operand_sizes_key)) a.operand_sizes) long first in
      let third = subst (λ (g : Option (List ℤ)). Segments b.def.operands (length p.operands) g
      a.operand_sizes) given second in
      segments-same b.def.operands (length p.operands) _ a.operand_sizes b.operand_sizes third
      b.meets.operand_segments

  -- at most one operation completes a tree, attributes being listed by ascending key
  pub one-completes : (c : OpCst) (o p : Operation) → OpCompletes loaded forms aliases c o
      → OpCompletes loaded forms aliases c p → Ascend (keys_in_order o)
      → Ascend (keys_in_order p)
      → o ≡ p
  one-completes c o p a b ascend ascend2 =
      let parts = same-parts loaded forms aliases distinct c o p a b in
      operation-same o p (typing.operands aliases c o p a b) (typing.results aliases c o p a b)
      parts.successors (attr_at-exact o.attrs p.attrs ascend ascend2 parts.attrs) parts.regions

-- ---- the generic form

module _ (loaded : Loaded) (aliases : Aliases) where
  abbrev Shown : OpCst → Operation → Type 0
  Shown c o = OpCompletes loaded no_forms aliases c o

  -- the types that trees spell are one list
  spell-same : (trees : List ValueCst) (ts us : List Value) → SpellTypes aliases trees ts
      → SpellTypes aliases trees us → ts ≡ us
  spell-same trees ts us a b = map-some ts us (sym a ∙ b)

  -- the generic form tells all types
  generic-types : (c : OpCst) (o p : Operation) → Shown c o → Shown c p
      → (o.operands ≡ p.operands) × (o.results ≡ p.results)
  generic-types c o p a b = by (out-FormCst (out-OpCst c).form) refl
    where
      by : (f : FormSeen) → out-FormCst (out-OpCst c).form ≡ f
          → (o.operands ≡ p.operands) × (o.results ≡ p.results)
      by (FormCst-F.Generic g) e =
          let said = subst (λ (f : FormSeen).
          AllByRecursion (Says aliases a.operand_sizes a.result_sizes o)
          (facts_in no_forms f)) e a.shows.said in
          let said2 = subst (λ (f : FormSeen).
          AllByRecursion (Says aliases b.operand_sizes b.result_sizes p)
          (facts_in no_forms f)) e b.shows.said in (
            spell-same (out-GenericCst g).inputs o.operands p.operands said.1.0 said2.1.0,
            spell-same (out-GenericCst g).outputs o.results p.results said.1.1.0 said2.1.1.0,
          )
      by (FormCst-F.Custom k) e =
          let told = subst (λ (f : FormSeen). tells (facts_in no_forms f) dict_topic ≡ true) e
          a.shows.covers.dict in
          absurd (cc)

-- without custom forms a tree determines the types of its operation
pub generic-typing : (loaded : Loaded) → HaveOneTyping loaded no_forms
generic-typing loaded = record {
  operands = λ aliases c o p a b. (generic-types loaded aliases c o p a b).0;
  results = λ aliases c o p a b. (generic-types loaded aliases c o p a b).1;
}
