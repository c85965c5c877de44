use Rattle.std.proofs.Common.{◌≡◌, length, take, drop, ◌++◌, sym, subst, ap, ◌∙◌}
use Rattle.std.proofs.Math.Seq.{take-append_seam}
use Rattle.std.specs.List.Sorted.{IsPermutation}
use Rattle.std.proofs.lemmas.List.Sorted.{IsPermutation-map, length_permutation}
use Rattle.attr_value.specs.Ids.{AreKnown}
use Rattle.value_meaning.specs.declared.dict.Entry.{Entry}
use Rattle.value_meaning.proofs.Permuted.{known-permuted}
use Rattle.value_meaning.proofs.Results.{ok-map}
use Rattle.value_meaning.proofs.dict.dict_parts.Goals as goal

pub returns-clause-known : goal.returns-clause-known
returns-clause-known c =
    let items = c.args.entries.items in
    let sorted = c.sort_by_key.new.entries in
    let count : length sorted ≡ c.args.entries.len =
    length_permutation c.as_mut_slice.result.now sorted c.sort_by_key.ensures.moved
    ∙ c.as_mut_slice.ensures.len in
    let same : c.as_slice.result.now ≡ sorted =
    c.as_slice.ensures.value
    ∙ ap (λ n. take n (sorted ++ drop (length sorted) items)) (sym count)
    ∙ take-append_seam sorted (drop (length sorted) items) in
    let moved = subst (λ l. IsPermutation l c.as_slice.result.now) c.as_mut_slice.ensures.value
    (subst (IsPermutation c.as_mut_slice.result.now) (sym same)
    c.sort_by_key.ensures.moved) in
    λ n known. ok-map c.head_and_kids.result
    (λ parts is. subst (AreKnown n) (sym is)
    (known-permuted n _ _
    (IsPermutation-map (λ e. e.1) _ _
    (IsPermutation-map (λ (e : Entry). (e.key.now, e.value)) _ _ moved)) known))
    c.head_and_kids.ensures.kids
