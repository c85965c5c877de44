use Rattle.std.proofs.Common.{◌≡◌, refl, rules, Option, Some, None, IfSome}
use Rattle.std.proofs.lemmas.Cmp.{nat_list_cmp_total}
use Rattle.std.proofs.lemmas.List.Sorted.{answers_always, ranks_by}
use Rattle.std.specs.Ordering.{is_lt}
use Rattle.value_meaning.specs.declared.dict.Entry.{Entry}
use Rattle.value_meaning.proofs.Rising.{sorted-rising}
use Rattle.value_meaning.proofs.TextOrder.{text_cmp}
use Rattle.value_meaning.proofs.dict.sort_by_key.Goals as goal

if-some : {X : Type 0} {P : X → Type 0} (o : Option X) → ((x : X) → o ≡ Some x → P x) → IfSome o P
if-some None f = tt
if-some (Some x) f = f x refl

pub returns-clause-sorted : goal.returns-clause-sorted
returns-clause-sorted c =
    let up = c.sort_unstable_by.ensures.sorted (λ x y. is_lt (text_cmp x.key.now y.key.now))
    (ranks_by nat_list_cmp_total (λ (e : Entry). e.key.now))
    (answers_always _ _ _ (λ f a r g h. search rules)) in
    if-some _ (sorted-rising (λ (e : Entry). e.key.now) (λ e. e.value) _ _
    c.sort_unstable_by.ensures.permutation up)
