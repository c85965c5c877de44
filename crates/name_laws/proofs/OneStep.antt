-- One operation and one block whose notes mean what a module has: their own names are right, and
-- what is below them is left.
--
--   op-named, op-regions, op-knows      an operation, the notes of its regions, and the names that
--                                       are known there
--   block-new, block-ops, block-knows   a block's arguments, the notes of its operations, and the
--                                       names that are known there
use Rattle.std.proofs.Common.{◌≡◌, ℕ, ◌+◌, ◌<◌, List, [], ◌++◌, length, map}
use Rattle.std.proofs.Common.{refl, sym, ◌∙◌, subst, arith, Some}
use Rattle.std.specs.List.{AllByRecursion, range_with_len}
use Rattle.attr_value.specs.Values.{Value}
use Rattle.generic_syntax.specs.declared.module_cst.BlockCst.{BlockCst, out-BlockCst}
use Rattle.generic_syntax.specs.declared.module_cst.FormCst.{out-FormCst}
use Rattle.generic_syntax.specs.declared.module_cst.FormCst.TheOpen.{FormCst-F}
use Rattle.generic_syntax.specs.declared.module_cst.GenericCst.{GenericCst, out-GenericCst}
use Rattle.generic_syntax.specs.declared.module_cst.OpCst.{OpCst, out-OpCst}
use Rattle.ir_lexer.specs.Spelling.{Text}
use Rattle.ir_store.specs.Modules.{Regions}
use Rattle.module_faults.specs.Shape.{FormFits}
use Rattle.module_faults.specs.Shape.{result_firsts}
use Rattle.module_meaning.specs.Facts.{FormSeen}
use Rattle.module_meaning.specs.Names.{Env, AreNew, behind, names_in}
use Rattle.module_meaning.specs.Names.{result_scope, argument_scope, result_names, argument_names}
use Rattle.module_meaning.specs.Names.{target}
use Rattle.module_meaning.specs.WholeModules.{WholeHead}
use Rattle.module_names.proofs.Opening.{block-opens}
use Rattle.module_names.specs.ModuleNotes.{use_noted, successor_noted, result_noted, op_notes}
use Rattle.module_names.specs.ModuleNotes.{region_notes, block_notes, ops_notes}
use Rattle.module_names.specs.ModuleNotes.{argument_noted, label_noted}
use Rattle.module_names.specs.Said.{joined, noted}
use Rattle.name_laws.proofs.Counted.{Counted, counted-label}
use Rattle.name_laws.proofs.Counted.{counted-arguments, counted-results, counted-uses}
use Rattle.name_laws.proofs.Counted.{counted-successors, counted-silent}
use Rattle.name_laws.proofs.InOrder.{region_operands}
use Rattle.name_laws.proofs.InOrder.{region_successors}
use Rattle.name_laws.proofs.Early.{Knows, knows-more, knows-behind}
use Rattle.name_laws.proofs.NewNames.{values-new}
use Rattle.module_names.proofs.Opened.{op-opened, form_mentions, form-silent}
use Rattle.name_laws.proofs.OwnNames.{own-is-results, own-is-arguments}
use Rattle.name_laws.proofs.OwnNames.{names-results, names-arguments, names-of-own}
use Rattle.name_laws.proofs.OwnNames.{packs-right}
use Rattle.name_laws.proofs.Pieces.{Piece, State, piece-left, piece-right}
use Rattle.name_laws.proofs.Scoped.{Stands, uses-named}
use Rattle.name_laws.proofs.Scoped.{successors-named}
use Rattle.completion_laws.specs.Named.{FormNamed, OpNamed}
use Rattle.symbol_scopes.specs.declared.call.NameKind.TheVariants.{Values, Labels}
use Rattle.symbol_scopes.specs.Regions.{Notes, RegionScope}
use Rattle.symbol_scopes.specs.Regions.{own, count}

module _ (firsts : List ℕ) where
  -- behind names of which this is known
  pub state-behind : (env : Env) (ss ls : List RegionScope) (n m : ℕ) (names : List Text)
      → State firsts env ss ls n → Knows ss m (names ++ env.before)
      → State firsts (behind env names) ss ls m
  state-behind env ss ls n m names s knows = record {
    scopes = s.scopes;
    sizes = s.sizes;
    labels = s.labels;
    knows = knows;
  }

  -- ---- one operation

  module _ (env : Env) (ss ls : List RegionScope) (n l v : ℕ) (c : OpCst) (g : GenericCst)
      (head : WholeHead) (rs : Regions Text Value)
      (is : out-FormCst (out-OpCst c).form ≡ FormCst-F.Generic g)
      (fits : FormFits (FormCst-F.Generic g) head) (s : State firsts env ss ls n)
      (stands : Stands firsts n (result_firsts v (out-OpCst c).results))
      (p : Piece firsts ss ls n l (op_notes c) (head.operands ++ region_operands rs)
      (head.successors ++ region_successors rs)) where
    abbrev results : Notes
    results = noted result_noted (out-OpCst c).results

    abbrev us : Notes
    us = noted use_noted (out-GenericCst g).operands

    abbrev ts : Notes
    ts = noted successor_noted (out-GenericCst g).successors

    abbrev regions : Notes
    regions = noted region_notes (out-GenericCst g).regions

    abbrev past : ℕ
    past = n + length (out-OpCst c).results

    abbrev l1 : ℕ
    l1 = l + count Labels results

    abbrev l2 : ℕ
    l2 = l + count Labels results + count Labels us

    abbrev l3 : ℕ
    l3 = l + count Labels results + count Labels us + count Labels ts

    abbrev pub regions_label : ℕ
    regions_label = l + count Labels results + count Labels us + count Labels ts
        + count Labels (form_mentions g)

    abbrev rest : Notes
    rest = joined us (joined ts (joined (form_mentions g) regions))

    opened : Piece firsts ss ls n l (joined results rest) (head.operands ++ region_operands rs)
        (head.successors ++ region_successors rs)
    opened = subst (λ (ns : Notes). Piece firsts ss ls n l ns
        (head.operands ++ region_operands rs) (head.successors ++ region_successors rs))
        (op-opened c g is) p

    counted1 : Counted results (length (out-OpCst c).results) 0 0
    counted1 = counted-results (out-OpCst c).results

    next1 : past ≡ n + count Values results
    next1 = let e = counted1.definitions in omega (arith, e)

    own_results : Piece firsts ss ls n l results [] []
    own_results = piece-left firsts ss ls n past l l1 results rest []
        (head.operands ++ region_operands rs) [] (head.successors ++ region_successors rs) next1
        refl counted1.uses counted1.targets opened

    behind1 : Piece firsts ss ls past l1 rest (head.operands ++ region_operands rs)
        (head.successors ++ region_successors rs)
    behind1 = piece-right firsts ss ls n past l l1 results rest []
        (head.operands ++ region_operands rs) [] (head.successors ++ region_successors rs) next1
        refl counted1.uses counted1.targets opened

    counted2 : Counted us 0 (length (out-GenericCst g).operands) 0
    counted2 = counted-uses (out-GenericCst g).operands

    next2 : past ≡ past + count Values us
    next2 = let e = counted2.definitions in omega (arith, e)

    own_uses : Piece firsts ss ls past l1 us head.operands []
    own_uses = piece-left firsts ss ls past past l1 l2 us
        (joined ts (joined (form_mentions g) regions)) head.operands (region_operands rs) []
        (head.successors ++ region_successors rs) next2 refl (counted2.uses ∙ fits.0)
        counted2.targets behind1

    behind2 : Piece firsts ss ls past l2 (joined ts (joined (form_mentions g) regions))
        (region_operands rs) (head.successors ++ region_successors rs)
    behind2 = piece-right firsts ss ls past past l1 l2 us
        (joined ts (joined (form_mentions g) regions)) head.operands (region_operands rs) []
        (head.successors ++ region_successors rs) next2 refl (counted2.uses ∙ fits.0)
        counted2.targets behind1

    counted3 : Counted ts 0 0 (length (out-GenericCst g).successors)
    counted3 = counted-successors (out-GenericCst g).successors

    next3 : past ≡ past + count Values ts
    next3 = let e = counted3.definitions in omega (arith, e)

    own_targets : Piece firsts ss ls past l2 ts [] head.successors
    own_targets = piece-left firsts ss ls past past l2 l3 ts (joined (form_mentions g) regions) []
        (region_operands rs) head.successors (region_successors rs) next3 refl counted3.uses
        (counted3.targets ∙ fits.1) behind2

    behind3 : Piece firsts ss ls past l3 (joined (form_mentions g) regions) (region_operands rs)
        (region_successors rs)
    behind3 = piece-right firsts ss ls past past l2 l3 ts (joined (form_mentions g) regions) []
        (region_operands rs) head.successors (region_successors rs) next3 refl counted3.uses
        (counted3.targets ∙ fits.1) behind2

    counted4 : Counted (form_mentions g) 0 0 0
    counted4 = counted-silent (form_mentions g) (form-silent g)

    next4 : past ≡ past + count Values (form_mentions g)
    next4 = let e = counted4.definitions in omega (arith, e)

    pub op-regions : Piece firsts ss ls past regions_label regions (region_operands rs)
        (region_successors rs)
    op-regions = piece-right firsts ss ls past past l3 regions_label (form_mentions g) regions []
        (region_operands rs) [] (region_successors rs) next4 refl counted4.uses counted4.targets
        behind3

    names_are : names_in (own Values n results) ≡ result_names (out-OpCst c).results
    names_are = names-of-own firsts n results (result_scope v (out-OpCst c).results)
        (result_names (out-OpCst c).results)
        (own-is-results firsts n v (out-OpCst c).results stands own_results.free)
        (names-results v (out-OpCst c).results)

    pub op-knows : Knows ss past (result_names (out-OpCst c).results ++ env.before)
    op-knows = subst (λ (w : List Text). Knows ss past (w ++ env.before)) names_are
        (knows-more ss (n + count Values results) past (names_in (own Values n results)
        ++ env.before) (let e = counted1.definitions in omega (arith, e))
        (knows-behind ss n env.before results own_results.early s.knows))

    targets_are : (map (target env) (out-GenericCst g).successors
        ≡ map Some head.successors)
        × AllByRecursion (λ b. 0 < b) head.successors
    targets_are = successors-named env ls s.labels l2 (out-GenericCst g).successors head.successors
        own_targets.blocks own_targets.block_right

    pub op-named : OpNamed env c head
    op-named = record {
      new = subst (AreNew env.before) names_are
          (values-new ss n env.before results s.knows own_results.early own_results.value_right);
      packs = packs-right (out-OpCst c).results own_results.free;
      form = subst (λ (f : FormSeen). FormNamed env f head) (sym is) (
        uses-named firsts env ss s.scopes s.sizes past (out-GenericCst g).operands head.operands
            own_uses.values own_uses.value_right,
        targets_are.0,
      );
      targets = targets_are.1;
    }

  -- ---- one block

  module _ (env : Env) (ss ls : List RegionScope) (n l v j many : ℕ) (c : BlockCst)
      (xs us : List ℕ) (long : length (out-BlockCst c).args ≡ many) (s : State firsts env ss ls n)
      (stands : Stands firsts n (range_with_len v many))
      (p : Piece firsts ss ls n l (block_notes c j) xs us) where
    abbrev label : Notes
    label = label_noted (out-BlockCst c).label j

    abbrev args : Notes
    args = noted argument_noted (out-BlockCst c).args

    abbrev ops : Notes
    ops = ops_notes (out-BlockCst c).ops

    abbrev inside_it : ℕ
    inside_it = n + length (out-BlockCst c).args

    abbrev m1 : ℕ
    m1 = l + count Labels label

    abbrev pub ops_label : ℕ
    ops_label = l + count Labels label + count Labels args

    block_opened : Piece firsts ss ls n l (joined label (joined args ops)) xs us
    block_opened = subst (λ (ns : Notes). Piece firsts ss ls n l ns xs us) (block-opens c j) p

    counted_label : Counted label 0 0 0
    counted_label = counted-label (out-BlockCst c).label j

    behind_label : Piece firsts ss ls n m1 (joined args ops) xs us
    behind_label = piece-right firsts ss ls n n l m1 label (joined args ops) [] xs [] us
        (let e = counted_label.definitions in omega (arith, e)) refl counted_label.uses
        counted_label.targets block_opened

    counted_args : Counted args (length (out-BlockCst c).args) 0 0
    counted_args = counted-arguments (out-BlockCst c).args

    next_args : inside_it ≡ n + count Values args
    next_args = let e = counted_args.definitions in omega (arith, e)

    own_args : Piece firsts ss ls n m1 args [] []
    own_args = piece-left firsts ss ls n inside_it m1 ops_label args ops [] xs [] us next_args refl
        counted_args.uses counted_args.targets behind_label

    pub block-ops : Piece firsts ss ls inside_it ops_label ops xs us
    block-ops = piece-right firsts ss ls n inside_it m1 ops_label args ops [] xs [] us next_args
        refl counted_args.uses counted_args.targets behind_label

    args_are : names_in (own Values n args) ≡ argument_names (out-BlockCst c).args
    args_are = names-of-own firsts n args (argument_scope v (out-BlockCst c).args)
        (argument_names (out-BlockCst c).args)
        (own-is-arguments firsts n v many (out-BlockCst c).args long stands)
        (names-arguments v (out-BlockCst c).args)

    pub block-new : AreNew env.before (argument_names (out-BlockCst c).args)
    block-new = subst (AreNew env.before) args_are
        (values-new ss n env.before args s.knows own_args.early own_args.value_right)

    pub block-knows : Knows ss inside_it (argument_names (out-BlockCst c).args ++ env.before)
    block-knows = subst (λ (w : List Text). Knows ss inside_it (w ++ env.before)) args_are
        (knows-more ss (n + count Values args) inside_it (names_in (own Values n args)
        ++ env.before) (let e = counted_args.definitions in omega (arith, e))
        (knows-behind ss n env.before args own_args.early s.knows))
