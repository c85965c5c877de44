-- What the judgement of a mention shows.
use Rattle.std.proofs.Common.{◌≡◌, ◌<◌, ◌≤◌, ℕ, ◌-◌, Bool, List, [], ◌∷◌, length, option_map}
use Rattle.std.proofs.Common.{refl, sym, ◌∙◌, ap, subst, arith}
use Rattle.std.specs.declared.option.Option.{Option}
use Rattle.std.specs.declared.option.Option.TheVariants.{Some, None}
use Rattle.attr_value.specs.declared.head.ValueId.{ValueId}
use Rattle.attr_value.specs.Ids.{at}
use Rattle.attr_value.specs.Values.{Value, depth}
use Rattle.constraint_solver.specs.Grown.{Extends}
use Rattle.constraint_solver.proofs.Grows.{at-grows, length-grows}
use Rattle.first_fault.specs.declared.fault.Fault.{Fault}
use Rattle.generic_syntax.specs.declared.parse.TheConstants.{TOO_DEEP}
use Rattle.ir_lexer.specs.Spelling.{Text}
use Rattle.value_meaning.specs.declared.code.TheConstants.{ALIAS_UNKNOWN, NESTING}
use Rattle.value_meaning.specs.declared.judged.Judged.{Judged}
use Rattle.value_meaning.specs.Judging.{IsGood, Judges, Basis, with_table, values_at, IsReady}
use Rattle.value_meaning.specs.Judging.{counted}
use Rattle.value_meaning.specs.Meaning.{Mark, claim_at, mentions}
use Rattle.value_meaning.proofs.Among.{first-nil, first-single, first-right, first-wrong}
use Rattle.value_meaning.proofs.Nodes.{judged, judges-wrong}

-- the fault of a mention at a place
abbrev pub fault_at : ℕ → ℕ → Fault
fault_at place code = record { place = place; code = code }

module _ (b : Basis) (table now : List Value) (ready : IsReady b table) (grown : Extends table now)
    (is_type : Bool) (name : Text) (place n : ℕ) where
  abbrev value : Option Value
  value = values_at table b.ids is_type name

  abbrev Says : Option Value → Judged → Type 0
  Says v = Judges (with_table b table) n v (claim_at place (mentions n v) ∷ []) now

  -- there is no such alias
  pub mention-unknown : None ≡ b.ids is_type name
      → Says value (judged None (Some (fault_at place ALIAS_UNKNOWN)))
  mention-unknown missing =
      let none : None ≡ value = ap (option_map (λ id. at table id.0)) missing in
      subst (λ v. Says v (judged None (Some (fault_at place ALIAS_UNKNOWN)))) none
      (judges-wrong (with_table b table) n now None (claim_at place (mentions n None)) []
      (fault_at place ALIAS_UNKNOWN) None
      (first-wrong table b.tests b.types (claim_at place (mentions n None))
      (fault_at place ALIAS_UNKNOWN) (record { place = refl; breaks = refl }) (λ code is. sym is))
      (first-nil table b.tests b.types)
      (λ good. let never : None ≡ Some good.value = good.is in absurd (cc))
      (λ v kind e int. absurd (cc)))

  -- its value stands there, where there is one
  mention-is : (id : ValueId) → Some id ≡ b.ids is_type name → value ≡ Some (at now id.0)
  mention-is id there =
      ap (option_map (λ id. at table id.0)) (sym there)
      ∙ ap Some (sym (at-grows grown id.0 (ready.can.known is_type name id (sym there))))

  -- and is good
  mention-good : (id : ValueId) → Some id ≡ b.ids is_type name → IsGood (with_table b table) (at now id.0)
  mention-good id there =
      subst (IsGood (with_table b table))
      (sym (at-grows grown id.0 (ready.can.known is_type name id (sym there))))
      (ready.good is_type name id (sym there))

  -- its id is that of a value
  mention-known : (id : ValueId) → Some id ≡ b.ids is_type name → id.0 < length now
  mention-known id there =
      let less = ready.can.known is_type name id (sym there) in
      let longer = length-grows grown in
      omega (arith, less, longer)

  -- it nests too deep
  pub mention-deep : (id : ValueId) → Some id ≡ b.ids is_type name → 1 ≤ n
      → TOO_DEEP - counted n < depth (at now id.0)
      → Says value (judged (Some id) (Some (fault_at place NESTING)))
  mention-deep id there least deep =
      subst (λ v. Says v (judged (Some id) (Some (fault_at place NESTING))))
      (sym (mention-is id there)) (record {
        some = record {
          known = mention-known id there;
          spells = refl;
          good = mention-good id there;
        };
        none = tt;
        first = first-single table b.tests b.types mark (Some (fault_at place NESTING))
            (first-wrong table b.tests b.types mark (fault_at place NESTING)
            (record { place = refl; breaks = (refl, omega (arith, deep, least)) })
            (λ code breaks. sym breaks.0));
        right = λ e room. absurd (cc);
        integer = λ v kind e int.
            let same : at now id.0 ≡ v = cc in
            subst (IsGood (with_table b table)) same (mention-good id there);
      })
    where
      mark : Mark
      mark = claim_at place (mentions n (Some (at now id.0)))

  -- there is room for it
  pub mention-fits : (id : ValueId) → Some id ≡ b.ids is_type name → 1 ≤ n
      → depth (at now id.0) ≤ TOO_DEEP - counted n → Says value (judged (Some id) None)
  mention-fits id there least shallow =
      subst (λ v. Says v (judged (Some id) None)) (sym (mention-is id there)) (record {
        some = record {
          known = mention-known id there;
          spells = refl;
          good = mention-good id there;
        };
        none = tt;
        first = first-single table b.tests b.types mark None
            (first-right table b.tests b.types mark
            (λ code breaks. let deep = breaks.1 in omega (arith, deep, shallow, least)));
        right = λ e room. record {
          value = at now id.0;
          spells = refl;
          right = record {
            good = mention-good id there;
            fits = omega (arith, shallow, least, room);
          };
        };
        integer = λ v kind e int.
            let same : at now id.0 ≡ v = cc in
            subst (IsGood (with_table b table)) same (mention-good id there);
      })
    where
      mark : Mark
      mark = claim_at place (mentions n (Some (at now id.0)))
