-- Operations in generic form, in a grammar in which operations may have custom forms too: the
-- generic form is the last of the choices, and no operation in it ends the others.
use Rattle.std.proofs.Common.{◌≡◌, ℕ, List, [], ◌∷◌, ◌++◌, refl, sym, subst, append_assoc}
use Rattle.derived_printer.specs.ValueMarks.{Marks}
use Rattle.generic_syntax.specs.declared.module_cst.OpCst.{OpCst}
use Rattle.generic_syntax.specs.declared.module_cst.ResultCst.{ResultCst}
use Rattle.generic_syntax.specs.ModuleForms.{OfModules}
use Rattle.generic_syntax.specs.Operations.{Customs, Formed, generic_form, form_of, op_of}
use Rattle.generic_syntax.specs.Operations.{ops_with, result_names}
use Rattle.module_text.proofs.Parts.{Given}
use Rattle.text_layout.proofs.Gives.{gives-both, gives-right, gives-same, gives-no-more, gives-more}
use Rattle.text_layout.proofs.Gives.{gives-no-links, gives-link}

module _ (cs : Customs) (k : ℕ) where
  -- an operation in generic form, where it may have one of these forms
  form-chosen : (gs : List (OfModules Formed)) {ms : Marks} {P : Formed → Type 0}
      → Given cs k generic_form ms P → Given cs k (form_of gs) ms P
  form-chosen [] x = x
  form-chosen (g ∷ gs) x = gives-right (form-chosen gs x)

  -- no operations
  pub none-given : (gs ls : List (OfModules Formed)) {R : List OpCst → Type 0} → R []
      → Given cs k (ops_with gs ls) [] R
  none-given gs [] r = gives-no-more r
  none-given gs (l ∷ ls) r = gives-no-links r

  -- the tree of an operation, by its names and its form
  record IsOp (P : List ResultCst → Type 0) (Q : Formed → Type 0) (o : OpCst) : Type 0 where
    names : List ResultCst
    form : Formed
    is : o ≡ op_of names form
    named : P names
    formed : Q form

  -- an operation, and those behind it
  pub more-given : (gs ls : List (OfModules Formed)) {ms ns rest : Marks}
      {P : List ResultCst → Type 0} {Q : Formed → Type 0} {R S : List OpCst → Type 0}
      → Given cs k result_names ms P → Given cs k generic_form ns Q
      → Given cs k (ops_with gs ls) rest R
      → ((names : List ResultCst) (f : Formed) (os : List OpCst) → P names → Q f → R os
      → S (op_of names f ∷ os))
      → Given cs k (ops_with gs ls) ((ms ++ ns) ++ rest) S
  more-given gs [] {ms = ms} {ns = ns} {rest = rest} {P = P} {Q = Q} {S = S} x y z s =
      gives-more {ms = ms ++ ns} {ns = rest} {P = IsOp P Q}
      (gives-both {R = IsOp P Q} x (form-chosen gs y)
      (λ names f p q. record { names = names; form = f; is = refl; named = p; formed = q }))
      z
      (λ o os p r. subst (λ (o : OpCst). S (o ∷ os)) (sym p.is)
      (s p.names p.form os p.named p.formed r))
  more-given gs (l ∷ ls) {ms = ms} {ns = ns} {rest = rest} x y z s =
      gives-same (sym (append_assoc ms ns rest))
      (gives-link x (form-chosen gs y) z (λ names f os p q r. s names f os p q r))
