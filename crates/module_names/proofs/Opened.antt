-- What the trees of generic forms say, one level of them opened.
use Rattle.std.proofs.Common.{◌≡◌, sym, ◌∙◌, ap}
use Rattle.generic_syntax.specs.declared.module_cst.FormCst.{out-FormCst}
use Rattle.generic_syntax.specs.declared.module_cst.FormCst.TheOpen.{FormCst-F}
use Rattle.generic_syntax.specs.declared.module_cst.GenericCst.{GenericCst, out-GenericCst}
use Rattle.generic_syntax.specs.declared.module_cst.OpCst.{OpCst, out-OpCst}
use Rattle.module_names.proofs.Cut.{IsSilent, joined-assoc, silent-joined}
use Rattle.module_names.proofs.Opening.{op-opens, form-generic, generic-opens}
use Rattle.module_names.proofs.Silent.{values-silent, entries-silent}
use Rattle.module_names.specs.Mentions.{value_mentions, entry_mentions}
use Rattle.module_names.specs.ModuleNotes.{use_noted, successor_noted, result_noted, op_notes}
use Rattle.module_names.specs.ModuleNotes.{region_notes, generic_notes}
use Rattle.module_names.specs.Said.{joined, noted}
use Rattle.symbol_scopes.specs.Regions.{Notes}

-- the mentions of aliases in a generic form
abbrev pub form_mentions : GenericCst → Notes
form_mentions g =
    joined (noted entry_mentions (out-GenericCst g).props)
    (joined (noted entry_mentions (out-GenericCst g).attrs)
    (joined (noted value_mentions (out-GenericCst g).inputs)
    (noted value_mentions (out-GenericCst g).outputs)))

pub form-silent : (g : GenericCst) → IsSilent (form_mentions g)
form-silent g =
    silent-joined (noted entry_mentions (out-GenericCst g).props) _
    (entries-silent (out-GenericCst g).props)
    (silent-joined (noted entry_mentions (out-GenericCst g).attrs) _
    (entries-silent (out-GenericCst g).attrs)
    (silent-joined (noted value_mentions (out-GenericCst g).inputs) _
    (values-silent (out-GenericCst g).inputs) (values-silent (out-GenericCst g).outputs)))

-- the generic form says its uses, its successors, its mentions of aliases, and its regions
pub generic-opened : (g : GenericCst) → generic_notes g
    ≡ joined (noted use_noted (out-GenericCst g).operands)
    (joined (noted successor_noted (out-GenericCst g).successors)
    (joined (form_mentions g) (noted region_notes (out-GenericCst g).regions)))
generic-opened g =
    let props = noted entry_mentions (out-GenericCst g).props in
    let attrs = noted entry_mentions (out-GenericCst g).attrs in
    let inputs = noted value_mentions (out-GenericCst g).inputs in
    let outputs = noted value_mentions (out-GenericCst g).outputs in
    let regions = noted region_notes (out-GenericCst g).regions in
    generic-opens g
    ∙ ap (λ (ns : Notes). joined (noted use_noted (out-GenericCst g).operands)
    (joined (noted successor_noted (out-GenericCst g).successors) ns))
    (sym (joined-assoc props (joined attrs (joined inputs outputs)) regions
    ∙ ap (joined props) (joined-assoc attrs (joined inputs outputs) regions
    ∙ ap (joined attrs) (joined-assoc inputs outputs regions))))

-- an operation says its results before that
pub op-opened : (c : OpCst) (g : GenericCst) → out-FormCst (out-OpCst c).form ≡ FormCst-F.Generic g
    → op_notes c ≡ joined (noted result_noted (out-OpCst c).results)
    (joined (noted use_noted (out-GenericCst g).operands)
    (joined (noted successor_noted (out-GenericCst g).successors)
    (joined (form_mentions g) (noted region_notes (out-GenericCst g).regions))))
op-opened c g e =
    op-opens c
    ∙ ap (λ (ns : Notes). joined (noted result_noted (out-OpCst c).results) ns)
    (form-generic (out-OpCst c).form g e ∙ generic-opened g)
