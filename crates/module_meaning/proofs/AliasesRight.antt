-- Where a module completes the tree of a file without custom forms, no alias in the tree is at
-- fault, nor a size of a pack: an alias that has a value is defined before.
--
--   IsFine past ms     no mark of these, behind those of past, breaks a rule on aliases and packs
--   AreKnown past al   the aliases that have values are those that marks of past define
use Rattle.std.proofs.Common.{◌≡◌, Bool, true, false, ◌&&◌, ◌||◌, not, List, [], ◌∷◌, ◌++◌}
use Rattle.std.proofs.Common.{refl, sym, ◌∙◌, ap, subst, append_assoc, Some, None, bytes_eq}
use Rattle.std.proofs.Common.{cond, is_some, inl, inr, Contains}
use Rattle.std.proofs.lemmas.List.Folds.{list_any-append}
use Rattle.std.specs.List.{AllByRecursion}
use Rattle.attr_value.specs.Values.{Value}
use Rattle.dialect_defs.specs.declared.definition.TypeDef.{TypeDef}
use Rattle.dialect_defs.specs.Assignments.{Tests}
use Rattle.first_fault.specs.declared.fault.Fault.{Fault}
use Rattle.first_fault.specs.Firsts.{IsFaultBy}
use Rattle.generic_syntax.specs.declared.module_cst.AliasCst.{AliasCst}
use Rattle.generic_syntax.specs.declared.module_cst.ModuleCst.{ModuleCst}
use Rattle.ir_lexer.specs.Spelling.{Text}
use Rattle.module_meaning.proofs.LabelsRight.{no-label-fault, proper-targets}
use Rattle.module_meaning.proofs.MentionsKnown.{AreTold, value-told}
use Rattle.module_meaning.proofs.NamesRight.{no-value-fault}
use Rattle.module_meaning.proofs.PacksRight.{ops-told}
use Rattle.module_meaning.proofs.Places.{all-joined}
use Rattle.module_meaning.proofs.LabelNotes as label
use Rattle.module_meaning.proofs.ValueNotes as value
use Rattle.module_meaning.specs.AliasValues.{no_aliases, with_value, values_under, AreAliases}
use Rattle.module_meaning.specs.Completes.{NearlyCompletes, aliases_of, top_level}
use Rattle.module_meaning.specs.Facts.{no_forms}
use Rattle.module_meaning.specs.WholeModules.{WholeModule, Loaded}
use Rattle.module_names.proofs.Saying.{marks-joined}
use Rattle.module_names.proofs.Whole.{told-ops}
use Rattle.module_names.proofs.Whole as whole
use Rattle.module_names.specs.Mentions.{value_mentions}
use Rattle.module_names.specs.ModuleNotes.{alias_noted, module_notes, ops_notes}
use Rattle.module_names.specs.Said.{noted}
use Rattle.symbol_scopes.specs.declared.call.NameKind.TheVariants.{Values, Labels}
use Rattle.symbol_scopes.specs.Faults.{alias_fault, fault_if, same_kind, defines_it}
use Rattle.symbol_scopes.specs.Faults.{is_alias_known}
use Rattle.symbol_scopes.specs.Regions.{Notes, no_notes, note, in_region, defines, uses}
use Rattle.symbol_scopes.specs.Regions.{labels, leads_to, bad_pack, defines_alias, mentions_alias}
use Rattle.symbol_scopes.specs.Regions.{IsWrong, marks}
use Rattle.symbol_scopes.specs.ScopeMarks.{ScopeMark, AliasName}
use Rattle.symbol_scopes.specs.ScopeMarks as mark
use Rattle.value_meaning.proofs.Among.{contains-nil}
use Rattle.value_meaning.specs.Meaning.{Aliases, value_of}

-- ---- marks that break no rule

abbrev IsFine : List ScopeMark → List ScopeMark → Type 0
IsFine past [] = Unit {0}
IsFine past (m ∷ ms) = (alias_fault past m ≡ None) × IsFine (past ++ m ∷ []) ms

fine-both : (past a b : List ScopeMark) → IsFine past a → IsFine (past ++ a) b
    → IsFine past (a ++ b)
fine-both past [] b h k = subst (λ w. IsFine w b) (nothing-behind past) k
  where
    nothing-behind : (xs : List ScopeMark) → xs ++ [] ≡ xs
    nothing-behind [] = refl
    nothing-behind (x ∷ xs) = ap (λ w. x ∷ w) (nothing-behind xs)
fine-both past (m ∷ a) b (p, h) k = (
  p,
  fine-both (past ++ m ∷ []) a b h
      (subst (λ w. IsFine w b) (sym (append_assoc past (m ∷ []) a)) k),
)

fine-at : (past ms before after : List ScopeMark) (m : ScopeMark) → IsFine past ms
    → ms ≡ before ++ m ∷ after → alias_fault (past ++ before) m ≡ None
fine-at past [] [] after m h e = absurd (cc)
fine-at past [] (b ∷ before) after m h e = absurd (cc)
fine-at past (x ∷ ms) [] after m (p, h) e =
    let same : x ≡ m = cc in
    ap (λ w. alias_fault w m) (nothing-behind past) ∙ (ap (alias_fault past) (sym same) ∙ p)
  where
    nothing-behind : (xs : List ScopeMark) → xs ++ [] ≡ xs
    nothing-behind [] = refl
    nothing-behind (x ∷ xs) = ap (λ w. x ∷ w) (nothing-behind xs)
fine-at past (x ∷ ms) (b ∷ before) after m (p, h) e =
    let same : x ≡ b = cc in
    let rest : ms ≡ before ++ m ∷ after = cc in
    ap (λ w. alias_fault w m) (sym (append_assoc past (b ∷ []) before))
    ∙ (ap (λ w. alias_fault ((past ++ w ∷ []) ++ before) m) (sym same)
    ∙ fine-at (past ++ x ∷ []) ms before after m h rest)

fine-fault : (ms : List ScopeMark) → IsFine [] ms → (f : Fault) → IsFaultBy alias_fault ms f → ⊥
fine-fault ms h f by =
    let none : alias_fault by.before by.mark ≡ None =
    fine-at [] ms by.before by.after by.mark h by.cut in
    let there : None ≡ Some f = sym none ∙ by.is in
    absurd (cc)

-- ---- aliases that are known

abbrev AreKnown : List ScopeMark → Aliases → Type 0
AreKnown past al = (is_type : Bool) (name : Text)
    → is_some (al is_type name) ≡ is_alias_known past is_type name

-- a mark of notes that are told
abbrev IsToldMark : Aliases → ScopeMark → Type 0
IsToldMark al (mark.bad_pack p) = ⊥
IsToldMark al (mark.defines_alias a) = ⊥
IsToldMark al (mark.mentions_alias a) = is_some (al a.is_type a.name) ≡ true
IsToldMark al _ = Unit {0}

told-marks : (al : Aliases) (ns : Notes) → AreTold al ns
    → AllByRecursion (IsToldMark al) (marks ns)
told-marks al no_notes h = tt
told-marks al (note (defines d) ns) (p, h) = (tt, told-marks al ns h)
told-marks al (note (uses d) ns) (p, h) = (tt, told-marks al ns h)
told-marks al (note (labels d) ns) (p, h) = (tt, told-marks al ns h)
told-marks al (note (leads_to d) ns) (p, h) = (tt, told-marks al ns h)
told-marks al (note (bad_pack d) ns) (p, h) = absurd p
told-marks al (note (defines_alias d) ns) (p, h) = absurd p
told-marks al (note (mentions_alias d) ns) (p, h) = (p, told-marks al ns h)
told-marks al (in_region inner ns) (p, h) = (
  tt,
  all-joined (IsToldMark al) (marks inner) (mark.leaves ∷ marks ns) (told-marks al inner p)
      (tt, told-marks al ns h),
)

told-fine : (al : Aliases) (past : List ScopeMark) (m : ScopeMark) → AreKnown past al
    → IsToldMark al m → alias_fault past m ≡ None
told-fine al past (mark.mentions_alias a) known h =
    ap (λ b. fault_if (not b) a.place 5) (sym (known a.is_type a.name) ∙ h)
told-fine al past (mark.bad_pack p) known h = absurd h
told-fine al past (mark.defines_alias a) known h = absurd h
told-fine al past mark.enters known h = refl
told-fine al past mark.leaves known h = refl
told-fine al past (mark.defines d) known h = refl
told-fine al past (mark.uses d) known h = refl
told-fine al past (mark.labels d) known h = refl
told-fine al past (mark.leads_to d) known h = refl

no-definition : (al : Aliases) (m : ScopeMark) (is_type : Bool) (name : Text) → IsToldMark al m
    → defines_it is_type name m ≡ false
no-definition al (mark.mentions_alias a) is_type name h = refl
no-definition al (mark.bad_pack p) is_type name h = absurd h
no-definition al (mark.defines_alias a) is_type name h = absurd h
no-definition al mark.enters is_type name h = refl
no-definition al mark.leaves is_type name h = refl
no-definition al (mark.defines d) is_type name h = refl
no-definition al (mark.uses d) is_type name h = refl
no-definition al (mark.labels d) is_type name h = refl
no-definition al (mark.leads_to d) is_type name h = refl

or-false : (b : Bool) → (b || (false || false)) ≡ b
or-false true = refl
or-false false = refl

known-behind : (al : Aliases) (past : List ScopeMark) (m : ScopeMark) → AreKnown past al
    → IsToldMark al m → AreKnown (past ++ m ∷ []) al
known-behind al past m known h is_type name =
    known is_type name
    ∙ sym (list_any-append (defines_it is_type name) past (m ∷ [])
    ∙ (ap (λ b. is_alias_known past is_type name || (b || false))
    (no-definition al m is_type name h) ∙ or-false (is_alias_known past is_type name)))

marks-fine : (al : Aliases) (past ms : List ScopeMark) → AreKnown past al
    → AllByRecursion (IsToldMark al) ms → IsFine past ms × AreKnown (past ++ ms) al
marks-fine al past [] known h = (
  tt,
  λ is_type name. known is_type name
      ∙ sym (list_any-append (defines_it is_type name) past []
      ∙ or-nothing (is_alias_known past is_type name)),
)
  where
    or-nothing : (b : Bool) → (b || false) ≡ b
    or-nothing true = refl
    or-nothing false = refl
marks-fine al past (m ∷ ms) known (p, h) =
    let more = marks-fine al (past ++ m ∷ []) ms (known-behind al past m known p) h in (
      (told-fine al past m known p, more.0),
      subst (λ w. AreKnown w al) (append_assoc past (m ∷ []) ms) more.1,
    )

-- behind the definition of an alias that has a value
known-defined : (al : Aliases) (past : List ScopeMark) (x : AliasCst) → AreKnown past al
    → is_some (value_of al x.value) ≡ true
    → AreKnown (past ++ mark.defines_alias (record {
      is_type = x.is_type;
      name = x.name;
      place = x.place;
    }) ∷ []) (with_value al x)
known-defined al past x known spelled is_type name =
    by (same_kind x.is_type is_type && bytes_eq x.name name)
    ∙ sym (list_any-append (defines_it is_type name) past (mark.defines_alias (record {
      is_type = x.is_type;
      name = x.name;
      place = x.place;
    }) ∷ []))
  where
    by : (b : Bool) → is_some (cond b (value_of al x.value) (al is_type name))
        ≡ (is_alias_known past is_type name || (b || false))
    by true = spelled ∙ always (is_alias_known past is_type name)
      where
        always : (b : Bool) → true ≡ (b || (true || false))
        always true = refl
        always false = refl
    by false = known is_type name ∙ sym (or-false (is_alias_known past is_type name))

module _ (values : List Value) (tests : Tests) (types : List TypeDef) where
  aliases-fine : (al : Aliases) (past : List ScopeMark) (xs : List AliasCst)
      → AreAliases values tests types al xs → AreKnown past al
      → IsFine past (marks (noted alias_noted xs))
      × AreKnown (past ++ marks (noted alias_noted xs)) (values_under al xs)
  aliases-fine al past [] h known = marks-fine al past [] known tt
  aliases-fine al past (x ∷ xs) (new, (v, means), h) known =
      let a : AliasName = record { is_type = x.is_type; name = x.name; place = x.place } in
      let said = marks (value_mentions x.value) in
      let spelled : is_some (value_of al x.value) ≡ true = ap is_some means.spells in
      let first = marks-fine al past said known
      (told-marks al (value_mentions x.value) (value-told al x.value spelled)) in
      let unknown : is_alias_known (past ++ said) x.is_type x.name ≡ false =
      sym (first.1 x.is_type x.name) ∙ ap is_some new in
      let here : alias_fault (past ++ said) (mark.defines_alias a) ≡ None =
      ap (λ b. fault_if b a.place 6) unknown in
      let own = said ++ mark.defines_alias a ∷ [] in
      let behind : AreKnown (past ++ own) (with_value al x) =
      subst (λ w. AreKnown w (with_value al x)) (append_assoc past said (mark.defines_alias a ∷ []))
      (known-defined al (past ++ said) x first.1 spelled) in
      let more = aliases-fine (with_value al x) (past ++ own) xs h behind in
      let cut : marks (noted alias_noted (x ∷ xs)) ≡ own ++ marks (noted alias_noted xs) =
      marks-joined (alias_noted x) (noted alias_noted xs)
      ∙ ap (λ w. w ++ marks (noted alias_noted xs)) (marks-joined (value_mentions x.value) _) in (
        subst (IsFine past) (sym cut) (fine-both past own (marks (noted alias_noted xs))
            (fine-both past said (mark.defines_alias a ∷ []) first.0 (here, tt)) more.0),
        subst (λ w. AreKnown w (values_under al (x ∷ xs)))
            (append_assoc past own (marks (noted alias_noted xs))
            ∙ ap (λ w. past ++ w) (sym cut)) more.1,
      )

-- ---- the law

no-alias-fault : (loaded : Loaded) (tree : ModuleCst) (m : WholeModule)
    → NearlyCompletes loaded no_forms tree m → (f : Fault)
    → IsFaultBy alias_fault (marks (module_notes tree)) f → ⊥
no-alias-fault loaded tree m p =
    let al = aliases_of tree in
    let aliases = marks (noted alias_noted tree.aliases) in
    let first = aliases-fine loaded.values loaded.tests loaded.types no_aliases [] tree.aliases
    p.aliases (λ is_type name. refl) in
    let ops = marks-fine al aliases (marks (ops_notes tree.ops)) first.1
    (told-marks al (ops_notes tree.ops)
    (ops-told loaded al (top_level tree.ops m) 0 tree.ops m p.says)) in
    fine-fault (marks (module_notes tree))
    (subst (IsFine []) (sym (marks-joined (noted alias_noted tree.aliases) (ops_notes tree.ops)))
    (fine-both [] aliases (marks (ops_notes tree.ops)) first.0 ops.0))

pub no-fault : (loaded : Loaded) (tree : ModuleCst) (m : WholeModule)
    → NearlyCompletes loaded no_forms tree m → (f : Fault) → IsWrong (module_notes tree) f → ⊥
no-fault loaded tree m p f at = elim at [
  | inl names ↦ elim names [
    | inl values ↦ none-of (subst (λ (l : List Fault). Contains l f)
        (told-ops Values value.wrong whole.no-value-fault tree
        ∙ no-value-fault loaded (aliases_of tree) tree.ops m p.says) values)
    | inr blocks ↦ none-of (subst (λ (l : List Fault). Contains l f)
        (told-ops Labels label.wrong whole.no-block-fault tree
        ∙ no-label-fault loaded (aliases_of tree) tree.ops m
        (proper-targets loaded _ 0 0 m p.proper.each) p.says) blocks)
  ]
  | inr others ↦ no-alias-fault loaded tree m p f others
]
  where
    none-of : Contains [] f → ⊥
    none-of has = contains-nil f has
