-- Where no name of a module's tree is at fault, and its notes mean the operands and successors of a
-- module of its shape, the module's names are right.
use Rattle.std.proofs.Common.{◌≡◌, ℕ, List, [], ◌∷◌, ◌++◌, map, Contains}
use Rattle.std.proofs.Common.{refl, sym, ◌∙◌, ap, arith, append_assoc, inl, inr, Some}
use Rattle.std.proofs.Common.{option_map}
use Rattle.std.specs.List.{AllByRecursion}
use Rattle.first_fault.specs.declared.fault.Fault.{Fault}
use Rattle.first_fault.specs.Firsts.{IsFaultBy}
use Rattle.generic_syntax.specs.declared.module_cst.ModuleCst.{ModuleCst}
use Rattle.ir_store.specs.Numbering.{ops_in}
use Rattle.ir_store.specs.Numbering.{first_numbers}
use Rattle.module_faults.specs.ModuleFaults.{operands_in}
use Rattle.module_faults.specs.Shape.{HasShape, definitions_in}
use Rattle.module_meaning.proofs.GenericFacts.{all-apart}
use Rattle.module_meaning.proofs.NotesJoined.{listed_in}
use Rattle.module_meaning.specs.Completes.{top_level}
use Rattle.module_meaning.specs.WholeModules.{WholeModule}
use Rattle.module_names.proofs.Cut.{told-map, AllNotes, notes-right}
use Rattle.module_names.proofs.Whole.{told-ops, no-value, no-block, no-value-fault, no-block-fault}
use Rattle.module_names.specs.ModuleNotes.{alias_noted, module_notes, ops_notes}
use Rattle.module_names.specs.Said.{noted}
use Rattle.name_laws.proofs.Naming.{ops-named}
use Rattle.name_laws.proofs.Early.{own-early}
use Rattle.name_laws.proofs.NewNames.{value_faults, block_faults}
use Rattle.name_laws.proofs.OwnNames.{own-is-ops, ops-unlabelled}
use Rattle.name_laws.proofs.Pieces.{Piece}
use Rattle.name_laws.proofs.Scoped.{IsNoBadPack, stands-all}
use Rattle.module_builder.specs.Built.{successors_at, value_number}
use Rattle.completion_laws.specs.Named.{OpsNamed}
use Rattle.symbol_scopes.specs.declared.call.NameKind.TheVariants.{Values, Labels}
use Rattle.symbol_scopes.specs.Faults.{alias_fault, fault}
use Rattle.symbol_scopes.specs.Regions.{Notes, no_notes, note, in_region, defines, uses}
use Rattle.symbol_scopes.specs.Regions.{labels, leads_to, bad_pack, defines_alias, mentions_alias}
use Rattle.symbol_scopes.specs.Regions.{RegionScope, IsWrong, own, told_in, marks}
use Rattle.symbol_scopes.specs.Regions.{value_meant, block_meant}
use Rattle.symbol_scopes.specs.ScopeMarks.{ScopeMark}
use Rattle.symbol_scopes.specs.ScopeMarks as mark
use Rattle.name_laws.proofs.InOrder.{operands_of, successors_of, both-ops}

-- ---- no fault

nothing-in : {A : Type 0} (xs : List A) → ((x : A) → Contains xs x → ⊥) → xs ≡ []
nothing-in [] h = refl
nothing-in (x ∷ xs) h = absurd (h x (0, omega arith, refl))

abbrev IsNoBadMark : ScopeMark → Type 0
IsNoBadMark (mark.bad_pack p) = ⊥
IsNoBadMark _ = Unit {0}

all-cut : {A : Type 0} (P : A → Type 0) (past ms : List A)
    → ((before : List A) (m : A) (after : List A) → past ++ ms ≡ before ++ m ∷ after → P m)
    → AllByRecursion P ms
all-cut P past [] each = tt
all-cut P past (m ∷ ms) each = (
  each past m ms refl,
  all-cut P (past ++ m ∷ []) ms (λ before x after e. each before x after
      (sym (append_assoc past (m ∷ []) ms) ∙ e)),
)

marks-free : (ns : Notes) → AllByRecursion IsNoBadMark (marks ns) → AllNotes IsNoBadPack ns
marks-free no_notes h = tt
marks-free (note (bad_pack p) ns) h = absurd h.0
marks-free (note (defines d) ns) (p, h) = (tt, marks-free ns h)
marks-free (note (uses d) ns) (p, h) = (tt, marks-free ns h)
marks-free (note (labels d) ns) (p, h) = (tt, marks-free ns h)
marks-free (note (leads_to d) ns) (p, h) = (tt, marks-free ns h)
marks-free (note (defines_alias d) ns) (p, h) = (tt, marks-free ns h)
marks-free (note (mentions_alias d) ns) (p, h) = (tt, marks-free ns h)
marks-free (in_region inner ns) (p, h) =
    let two = all-apart IsNoBadMark (marks inner) (mark.leaves ∷ marks ns) h in
    (marks-free inner two.0, marks-free ns two.1.1)

free-notes : (ns : Notes) → ((f : Fault) → IsFaultBy alias_fault (marks ns) f → ⊥)
    → AllNotes IsNoBadPack ns
free-notes ns none = marks-free ns (all-cut IsNoBadMark [] (marks ns) at)
  where
    at : (before : List ScopeMark) (m : ScopeMark) (after : List ScopeMark)
        → marks ns ≡ before ++ m ∷ after → IsNoBadMark m
    at before (mark.bad_pack p) after e = none (fault p 9) (record {
      before = before;
      mark = mark.bad_pack p;
      after = after;
      cut = e;
      is = refl;
    })
    at before (mark.enters) after e = tt
    at before (mark.leaves) after e = tt
    at before (mark.defines d) after e = tt
    at before (mark.uses d) after e = tt
    at before (mark.labels d) after e = tt
    at before (mark.leads_to d) after e = tt
    at before (mark.defines_alias d) after e = tt
    at before (mark.mentions_alias d) after e = tt

-- ---- the law

maps-some : {A B : Type 0} (f : A → B) (xs : List A)
    → map (option_map f) (map Some xs) ≡ map Some (map f xs)
maps-some f [] = refl
maps-some f (x ∷ xs) = ap (λ w. Some (f x) ∷ w) (maps-some f xs)

pub names-right : (tree : ModuleCst) (m : WholeModule) → HasShape tree.ops m
    → ((f : Fault) → IsWrong (module_notes tree) f → ⊥) → (values : List (ℕ × ℕ)) (blocks : List ℕ)
    → told_in Values value_meant (module_notes tree) ≡ map Some values
    → told_in Labels block_meant (module_notes tree) ≡ map Some blocks
    → operands_in m ≡ map (value_number (definitions_in 0 tree.ops m)) values
    → successors_at (ops_in m) ≡ blocks → OpsNamed (top_level tree.ops m) 0 tree.ops m
names-right tree m shape right values blocks values_are blocks_are operands successors =
    let firsts = definitions_in 0 tree.ops m in
    let ns = ops_notes tree.ops in
    let scope = own Values 0 (ops_notes tree.ops) in
    let labelled = own Labels 0 (ops_notes tree.ops) in
    let both = both-ops first_numbers m in
    let free = notes-right IsNoBadPack (noted alias_noted tree.aliases) ns
    (free-notes (module_notes tree) (λ f at. right f (inr at))) in
    let names = own-is-ops firsts 0 0 tree.ops m shape (stands-all firsts) free in
    let piece : Piece firsts (scope ∷ []) (labelled ∷ []) 0 0 ns (operands_of m)
    (successors_of m) = record {
      values = told-map Values value_meant (option_map (value_number firsts)) (scope ∷ []) 0 ns
          ∙ (ap (map (option_map (value_number firsts)))
          (sym (told-ops Values value_meant no-value tree) ∙ values_are)
          ∙ (maps-some (value_number firsts) values
          ∙ ap (map Some) (sym operands ∙ both.operands)));
      blocks = sym (told-ops Labels block_meant no-block tree)
          ∙ (blocks_are ∙ ap (map Some) (sym successors ∙ both.successors));
      value_right = sym (told-ops Values value_faults no-value-fault tree)
          ∙ nothing-in _ (λ f at. right f (inl (inl at)));
      block_right = sym (told-ops Labels block_faults no-block-fault tree)
          ∙ nothing-in _ (λ f at. right f (inl (inr at)));
      free = free;
      early = own-early Values 0 ns;
    } in
    ops-named firsts (top_level tree.ops m) (scope ∷ []) (labelled ∷ []) 0 0 0 tree.ops m (record {
      scopes = ap (λ (s : RegionScope). s ∷ []) names.same;
      sizes = (names.sizes, tt);
      labels = ap listed_in (ops-unlabelled 0 tree.ops m shape);
      knows = λ w e. absurd (cc);
    }) shape (stands-all firsts) piece
