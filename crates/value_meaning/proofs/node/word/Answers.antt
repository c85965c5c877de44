use Rattle.std.proofs.Common.{◌≡◌, refl, sym, ◌∙◌, true, false}
use Rattle.std.specs.declared.option.Option.TheVariants.{Some, None}
use Rattle.value_meaning.specs.Spelled.{word_head}
use Rattle.value_meaning.proofs.Leaves.{word-good, form-right, form-wrong}
use Rattle.value_meaning.proofs.Results.{ok-map}
use Rattle.value_meaning.proofs.node.word.Goals as goal

pub returns-in-Some-clause-judged : goal.returns-in-Some-clause-judged
returns-in-Some-clause-judged c = λ g n.
    let is : word_head c.args.word.now ≡ Some c.in-Some.head =
    sym c.head_of_word.ensures ∙ c.in-Some.is in
    rw is (ok-map c.leaf_of.result
    (λ j x. form-right g n c.args.place c.leaf_of.new.u true _ j refl x)
    (c.leaf_of.ensures.judged g n (word-good g c.args.word.now c.in-Some.head is)))

pub returns-in-None-clause-judged : goal.returns-in-None-clause-judged
returns-in-None-clause-judged c = λ g n.
    let is : word_head c.args.word.now ≡ None = sym c.head_of_word.ensures ∙ c.in-None.is in
    rw c.wrong.ensures.value (rw c.wrong.ensures.first (rw is
    (form-wrong g n c.args.place c.args.u.now false None refl
    (λ good. absurd (none-good good.is)) (λ v kind e int. absurd (cc)))))
  where
    none-good : {A : Type 0} {x : A} → None ≡ Some x → ⊥
    none-good e = cc
