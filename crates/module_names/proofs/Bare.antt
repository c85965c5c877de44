-- Which names the notes of parts of trees define themselves: of values, and labels of blocks.
use Rattle.std.proofs.Common.{◌≡◌, ℕ, ◌+◌, List, [], ◌∷◌, ◌++◌, refl, ap, ◌∙◌, Option, Some, None}
use Rattle.std.proofs.lemmas.List.{append-nil}
use Rattle.generic_syntax.specs.declared.cst.NameCst.{NameCst}
use Rattle.generic_syntax.specs.declared.module_cst.ArgCst.{ArgCst}
use Rattle.generic_syntax.specs.declared.module_cst.FormCst.{out-FormCst}
use Rattle.generic_syntax.specs.declared.module_cst.FormCst.TheOpen.{FormCst-F}
use Rattle.generic_syntax.specs.declared.module_cst.GenericCst.{GenericCst, out-GenericCst}
use Rattle.generic_syntax.specs.declared.module_cst.NumberCst.{NumberCst}
use Rattle.generic_syntax.specs.declared.module_cst.OpCst.{OpCst, out-OpCst}
use Rattle.generic_syntax.specs.declared.module_cst.RegionCst.{RegionCst, out-RegionCst}
use Rattle.generic_syntax.specs.declared.module_cst.ResultCst.{ResultCst}
use Rattle.generic_syntax.specs.declared.module_cst.UseCst.{UseCst}
use Rattle.module_names.proofs.Cut.{own-joined, own-behind}
use Rattle.module_names.proofs.Opened.{op-opened, form_mentions, form-silent}
use Rattle.module_names.proofs.Opening.{region-opens}
use Rattle.module_names.proofs.Silent.{value-silent}
use Rattle.module_names.specs.Mentions.{value_mentions}
use Rattle.module_names.specs.ModuleNotes.{use_noted, successor_noted, result_noted, op_notes}
use Rattle.module_names.specs.ModuleNotes.{region_notes, blocks_notes, argument_noted, size_noted}
use Rattle.module_names.specs.ModuleNotes.{wrong_size}
use Rattle.module_names.specs.Numbers.{pack_count}
use Rattle.module_names.specs.Numbers as number
use Rattle.module_names.specs.Said.{joined, noted}
use Rattle.symbol_scopes.specs.declared.call.NameKind.{NameKind}
use Rattle.symbol_scopes.specs.declared.call.NameKind.TheVariants.{Values, Labels}
use Rattle.symbol_scopes.specs.Regions.{Notes, no_notes, note, defines, RegionScope, own, count}

-- two lists of which neither has anything
pub two-none : (s t : RegionScope) → s ≡ [] → t ≡ [] → s ++ t ≡ []
two-none s t a b = ap (λ w. w ++ t) a ∙ b

-- ---- what defines no name

pub own-uses : (k : NameKind) (n : ℕ) (us : List UseCst) → own k n (noted use_noted us) ≡ []
own-uses k n [] = refl
own-uses Values n (u ∷ us) = own-uses Values (n + 0) us
own-uses Labels n (u ∷ us) = own-uses Labels (n + 0) us

pub own-successors : (k : NameKind) (n : ℕ) (ss : List NameCst)
    → own k n (noted successor_noted ss) ≡ []
own-successors k n [] = refl
own-successors Values n (s ∷ ss) = own-successors Values (n + 0) ss
own-successors Labels n (s ∷ ss) = own-successors Labels (n + 0) ss

pub own-regions : (k : NameKind) (n : ℕ) (rs : List RegionCst)
    → own k n (noted region_notes rs) ≡ []
own-regions k n [] = refl
own-regions k n (r ∷ rs) =
    ap (λ (ns : Notes). own k n (joined ns (noted region_notes rs))) (region-opens r)
    ∙ own-regions k (n + count k (blocks_notes (out-RegionCst r).blocks)) rs

-- an operation defines its results alone
pub own-op : (k : NameKind) (n : ℕ) (c : OpCst) (g : GenericCst)
    → out-FormCst (out-OpCst c).form ≡ FormCst-F.Generic g
    → own k n (op_notes c) ≡ own k n (noted result_noted (out-OpCst c).results)
own-op k n c g e =
    let results = noted result_noted (out-OpCst c).results in
    let us = noted use_noted (out-GenericCst g).operands in
    let ls = noted successor_noted (out-GenericCst g).successors in
    let regions = noted region_notes (out-GenericCst g).regions in
    let m = n + count k results in
    let i = n + count k results + count k us in
    ap (own k n) (op-opened c g e)
    ∙ (own-joined k n m results (joined us (joined ls (joined (form_mentions g) regions))) refl
    ∙ (ap (λ (w : RegionScope). own k n results ++ w)
    (own-joined k m i us (joined ls (joined (form_mentions g) regions)) refl
    ∙ two-none (own k m us) (own k i (joined ls (joined (form_mentions g) regions)))
    (own-uses k m (out-GenericCst g).operands)
    (own-joined k i (i + count k ls) ls (joined (form_mentions g) regions) refl
    ∙ two-none (own k i ls) (own k (i + count k ls) (joined (form_mentions g) regions))
    (own-successors k i (out-GenericCst g).successors)
    (own-behind k (i + count k ls) (form_mentions g) regions (form-silent g)
    ∙ own-regions k (i + count k ls) (out-GenericCst g).regions)))
    ∙ append-nil (own k n results)))

-- ---- labels

own-size : (n : ℕ) (p : Option NumberCst) → own Labels n (size_noted p) ≡ []
own-size n None = refl
own-size n (Some k) = go (number.pack_size k.digits)
  where
    go : (o : Option ℕ) → own Labels n (wrong_size k.place o) ≡ []
    go None = refl
    go (Some m) = refl

pub results-unlabelled : (n : ℕ) (rs : List ResultCst) → own Labels n (noted result_noted rs) ≡ []
results-unlabelled n [] = refl
results-unlabelled n (r ∷ rs) =
    let one : Notes = note (defines (record {
      name = r.name;
      place = r.place;
      count = pack_count r.pack;
    })) no_notes in
    let m = n + count Labels (size_noted r.pack) in
    own-joined Labels n (n + count Labels (result_noted r)) (result_noted r)
    (noted result_noted rs) refl
    ∙ two-none (own Labels n (result_noted r))
    (own Labels (n + count Labels (result_noted r)) (noted result_noted rs))
    (own-joined Labels n m (size_noted r.pack) one refl
    ∙ two-none (own Labels n (size_noted r.pack)) (own Labels m one) (own-size n r.pack) refl)
    (results-unlabelled (n + count Labels (result_noted r)) rs)

pub arguments-unlabelled : (n : ℕ) (xs : List ArgCst) → own Labels n (noted argument_noted xs) ≡ []
arguments-unlabelled n [] = refl
arguments-unlabelled n (x ∷ xs) =
    own-behind Labels (n + 0) (value_mentions x.ty) (noted argument_noted xs) (value-silent x.ty)
    ∙ arguments-unlabelled (n + 0) xs
