-- Operations in generic form.
--
--   IsGenericOp c     the tree of an operation has the generic form
use Rattle.generic_syntax.specs.declared.module_cst.FormCst.{out-FormCst}
use Rattle.generic_syntax.specs.declared.module_cst.FormCst.TheOpen.{FormCst-F}
use Rattle.generic_syntax.specs.declared.module_cst.OpCst.{OpCst, out-OpCst}
use Rattle.module_meaning.specs.Facts.{FormSeen}

-- the form is generic
abbrev pub IsGenericForm : FormSeen → Type 0
IsGenericForm (FormCst-F.Generic g) = Unit {0}
IsGenericForm (FormCst-F.Custom k) = ⊥

-- that of an operation is
abbrev pub IsGenericOp : OpCst → Type 0
IsGenericOp c = IsGenericForm (out-FormCst (out-OpCst c).form)
