-- The values of an operation in generic form, together.
use Rattle.std.proofs.Common.{◌≡◌, ◌∙◌, ◌⊎◌, inl, inr, List, map, IfSome, sym, subst}
use Rattle.std.specs.declared.option.Option.{Option}
use Rattle.std.specs.declared.option.Option.TheVariants.{None}
use Rattle.attr_value.specs.declared.head.ValueId.{ValueId}
use Rattle.attr_value.specs.Values.{Value}
use Rattle.dialect_registry.specs.Parts.{Among}
use Rattle.first_fault.specs.declared.fault.Fault.{Fault}
use Rattle.first_fault.specs.Firsts.{earlier_of, IsFirst}
use Rattle.first_fault.proofs.Firsts.{earlier_of-both-none, first-either}
use Rattle.generic_syntax.specs.declared.module_cst.GenericCst.{GenericCst, out-GenericCst}
use Rattle.ir_lexer.specs.Spelling.{Text}
use Rattle.module_meaning.specs.WholeModules.{Loaded}
use Rattle.op_judgement.specs.declared.args.Args.{Args}
use Rattle.op_judgement.specs.declared.entries.Entries.{Entries}
use Rattle.op_judgement.specs.declared.parts.Types.{Types}
use Rattle.op_judgement.specs.Entered.{AreEntered, IsFaultOfEntries}
use Rattle.op_judgement.specs.Found.{AreArgsFound, AreFound, IsTreeFault}
use Rattle.op_judgement.specs.Parts.{ArePartsOf, AreTypesFound, IsGenericFault, entries_of}
use Rattle.op_judgement.specs.Shown.{block_trees}
use Rattle.op_judgement.proofs.Attributes.{attrs-are}
use Rattle.value_meaning.specs.Dicts.{keyed}
use Rattle.value_meaning.specs.Meaning.{Aliases}
use Rattle.value_meaning.specs.Spelled.{sorted_entries}

module _ (loaded : Loaded) (al : Aliases) (g : GenericCst) (now : List Value) where
  -- types of operands and of results
  pub types-found : (types : Types) (a b : Option Fault)
      → AreFound loaded al (out-GenericCst g).inputs now types.operands.items a
      → AreFound loaded al (out-GenericCst g).outputs now types.results.items b
      → types.first ≡ earlier_of a b → AreTypesFound loaded al g now types
  types-found types a b ins outs is = record {
    first_is = subst (IsFirst _) (sym is)
        (first-either (Among (IsTreeFault loaded al) (out-GenericCst g).inputs)
        (Among (IsTreeFault loaded al) (out-GenericCst g).outputs) a b ins.first_is outs.first_is);
    operands = λ none. ins.values (earlier_of-both-none a b (sym is ∙ none)).0;
    results = λ none. outs.values (earlier_of-both-none a b (sym is ∙ none)).1;
  }

  module _ (types : Types) (entries : Entries) (args : Args)
      (t : AreTypesFound loaded al g now types)
      (e : AreEntered loaded al (entries_of g) now entries)
      (a : AreArgsFound loaded al (block_trees (out-GenericCst g).regions) now args) where
    -- the first fault of all
    pub first-of-all : IsFirst (IsGenericFault loaded al g)
        (earlier_of types.first (earlier_of entries.first args.first))
    first-of-all =
        first-either
        (λ f. Among (IsTreeFault loaded al) (out-GenericCst g).inputs f
        ⊎ Among (IsTreeFault loaded al) (out-GenericCst g).outputs f)
        (λ f. IsFaultOfEntries loaded al (entries_of g) f
        ⊎ Among (Among (IsTreeFault loaded al)) (block_trees (out-GenericCst g).regions) f)
        types.first (earlier_of entries.first args.first) t.first_is
        (first-either (IsFaultOfEntries loaded al (entries_of g))
        (Among (Among (IsTreeFault loaded al)) (block_trees (out-GenericCst g).regions))
        entries.first args.first e.first_is a.first_is)

    -- where there is none, the ids are those of what is shown
    pub parts-are : (keys : List Text) (values : List ValueId)
        → earlier_of types.first (earlier_of entries.first args.first) ≡ None
        → IfSome (sorted_entries (keyed entries.pairs.items)) (λ sorted. keys ≡ map (λ p. p.0) sorted)
        → IfSome (sorted_entries (keyed entries.pairs.items))
        (λ sorted. values ≡ map (λ p. p.1) sorted)
        → ArePartsOf loaded al g now (record {
          operands = types.operands;
          results = types.results;
          keys = keys;
          values = values;
          args = args.types;
        })
    parts-are keys values none k v =
        let both = earlier_of-both-none types.first (earlier_of entries.first args.first) none in
        let others = earlier_of-both-none entries.first args.first both.1 in
        let right : (f : Fault) → IsGenericFault loaded al g f → ⊥ =
        subst (IsFirst (IsGenericFault loaded al g)) none first-of-all in
        record {
          operands = t.operands both.0;
          results = t.results both.0;
          attrs = attrs-are loaded al (entries_of g) now (keyed entries.pairs.items) keys values
              (e.values others.0) (λ f key. right f (inr (inl (inl key)))) k v;
          args = a.values others.1;
          right = right;
        }
