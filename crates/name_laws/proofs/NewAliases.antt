-- Where no name of a tree is at fault, each alias is the first of its kind and name.
use Rattle.std.proofs.Common.{◌≡◌, Bool, true, false, ◌&&◌, ◌||◌, List, [], ◌∷◌, ◌++◌}
use Rattle.std.proofs.Common.{refl, sym, ◌∙◌, ap, append_assoc, None, bytes_eq}
use Rattle.std.proofs.Common.{cond, inr}
use Rattle.std.proofs.lemmas.List.Folds.{list_any-append}
use Rattle.attr_value.specs.Values.{Value}
use Rattle.dialect_defs.specs.declared.definition.TypeDef.{TypeDef}
use Rattle.dialect_defs.specs.Assignments.{Tests}
use Rattle.first_fault.specs.declared.fault.Fault.{Fault}
use Rattle.first_fault.specs.Firsts.{IsFaultBy}
use Rattle.generic_syntax.specs.declared.module_cst.AliasCst.{AliasCst}
use Rattle.generic_syntax.specs.declared.module_cst.ModuleCst.{ModuleCst}
use Rattle.ir_lexer.specs.Spelling.{Text}
use Rattle.module_meaning.specs.AliasValues.{no_aliases, with_value, HaveValues, AreAliases}
use Rattle.module_names.proofs.Saying.{marks-joined}
use Rattle.module_names.specs.Mentions.{value_mentions}
use Rattle.module_names.specs.ModuleNotes.{alias_noted, module_notes, ops_notes}
use Rattle.module_names.specs.Said.{noted}
use Rattle.name_laws.specs.NewAliases.{AreNewAliases}
use Rattle.symbol_scopes.specs.Faults.{alias_fault, fault, fault_if, same_kind, defines_it}
use Rattle.symbol_scopes.specs.Faults.{is_alias_known}
use Rattle.symbol_scopes.specs.Regions.{IsWrong, marks}
use Rattle.symbol_scopes.specs.ScopeMarks.{ScopeMark, AliasName}
use Rattle.symbol_scopes.specs.ScopeMarks as mark
use Rattle.value_meaning.specs.Meaning.{Aliases, value_of}

-- an alias that no mark defines has no value
abbrev AreNamed : List ScopeMark → Aliases → Type 0
AreNamed past aliases = (is_type : Bool) (name : Text) → is_alias_known past is_type name ≡ false
    → aliases is_type name ≡ None

either-false : (a b : Bool) → (a || b) ≡ false → (a ≡ false) × (b ≡ false)
either-false true b e = absurd (cc)
either-false false b e = (refl, e)

unknown-both : (past more : List ScopeMark) (is_type : Bool) (name : Text)
    → is_alias_known (past ++ more) is_type name ≡ false
    → (is_alias_known past is_type name ≡ false) × (is_alias_known more is_type name ≡ false)
unknown-both past more is_type name e =
    either-false (is_alias_known past is_type name) (is_alias_known more is_type name)
    (sym (list_any-append (defines_it is_type name) past more) ∙ e)

-- behind one more alias
named-more : (past more : List ScopeMark) (aliases : Aliases) (x : AliasCst) → AreNamed past aliases
    → AreNamed (past ++ (more
    ++ mark.defines_alias (record { is_type = x.is_type; name = x.name; place = x.place }) ∷ []))
    (with_value aliases x)
named-more past more aliases x named is_type name e =
    let last : ScopeMark =
    mark.defines_alias (record { is_type = x.is_type; name = x.name; place = x.place }) in
    let two = unknown-both past (more ++ last ∷ []) is_type name e in
    let here = unknown-both more (last ∷ []) is_type name two.1 in
    let other = either-false (same_kind x.is_type is_type && bytes_eq x.name name) false here.1 in
    ap (λ b. cond b (value_of aliases x.value) (aliases is_type name)) other.0
    ∙ named is_type name two.0

module _ (all : List ScopeMark) (none : (f : Fault) → IsFaultBy alias_fault all f → ⊥) where
  -- the alias is the first of its kind and name
  first-alias : (past rest : List ScopeMark) (a : AliasName)
      → all ≡ past ++ mark.defines_alias a ∷ rest → is_alias_known past a.is_type a.name ≡ false
  first-alias past rest a e = go (is_alias_known past a.is_type a.name) refl
    where
      go : (b : Bool) → is_alias_known past a.is_type a.name ≡ b
          → is_alias_known past a.is_type a.name ≡ false
      go true is = absurd (none (fault a.place 6) (record {
        before = past;
        mark = mark.defines_alias a;
        after = rest;
        cut = e;
        is = ap (λ b. fault_if b a.place 6) is;
      }))
      go false is = is

  aliases-new : (past rest : List ScopeMark) (aliases : Aliases) (xs : List AliasCst)
      → all ≡ past ++ (marks (noted alias_noted xs) ++ rest) → AreNamed past aliases
      → AreNewAliases aliases xs
  aliases-new past rest aliases [] e named = tt
  aliases-new past rest aliases (x ∷ xs) e named =
      let a : AliasName = record { is_type = x.is_type; name = x.name; place = x.place } in
      let said = marks (value_mentions x.value) in
      let later = marks (noted alias_noted xs) in
      let own : marks (noted alias_noted (x ∷ xs))
      ≡ (marks (value_mentions x.value) ++ mark.defines_alias a ∷ [])
      ++ marks (noted alias_noted xs) =
      marks-joined (alias_noted x) (noted alias_noted xs)
      ∙ ap (λ w. w ++ marks (noted alias_noted xs)) (marks-joined (value_mentions x.value) _) in
      let behind = said ++ mark.defines_alias a ∷ [] in
      let cut : all ≡ (past ++ behind) ++ (later ++ rest) =
      e ∙ (ap (λ w. past ++ (w ++ rest)) own
      ∙ (ap (λ w. past ++ w) (append_assoc behind later rest)
      ∙ sym (append_assoc past behind (later ++ rest)))) in
      let here : all ≡ (past ++ said) ++ mark.defines_alias a ∷ (later ++ rest) =
      cut
      ∙ (ap (λ w. w ++ (later ++ rest)) (sym (append_assoc past said (mark.defines_alias a ∷ [])))
      ∙ append_assoc (past ++ said) (mark.defines_alias a ∷ []) (later ++ rest)) in
      let first = first-alias (past ++ said) (later ++ rest) a here in (
        named x.is_type x.name (unknown-both past said x.is_type x.name first).0,
        aliases-new (past ++ behind) rest (with_value aliases x) xs cut
            (named-more past said aliases x named),
      )

pub new-aliases : (tree : ModuleCst) → ((f : Fault) → IsWrong (module_notes tree) f → ⊥)
    → AreNewAliases no_aliases tree.aliases
new-aliases tree right =
    aliases-new (marks (module_notes tree)) (λ f at. right f (inr at)) []
    (marks (ops_notes tree.ops)) no_aliases tree.aliases
    (marks-joined (noted alias_noted tree.aliases) (ops_notes tree.ops)) (λ is_type name e. refl)

-- new aliases with values are right
pub right-aliases : (values : List Value) (tests : Tests) (types : List TypeDef) (aliases : Aliases)
    (xs : List AliasCst) → AreNewAliases aliases xs → HaveValues values tests types aliases xs
    → AreAliases values tests types aliases xs
right-aliases values tests types aliases [] new have = tt
right-aliases values tests types aliases (x ∷ xs) (n, new) (h, have) =
    (n, h, right-aliases values tests types (with_value aliases x) xs new have)
