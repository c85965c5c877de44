-- Uses that have another type than their values, by ids.
--
--   HasOperands form site    the operation has as many operands as its form shows uses
--   HasItsUses c site        the same of its tree
--   IsWrongUse types uses shown numbers f    f is the fault of a use whose shown type isn't that of
--                            the value of its number, where values have these types
--
-- Inside: no public clause rests on this.
use Rattle.std.specs.Prelude.{◌≡◌, ◌≢◌, ℕ, List, length, slice_get}
use Rattle.std.specs.declared.option.Option.TheVariants.{Some}
use Rattle.attr_value.specs.declared.head.ValueId.{ValueId}
use Rattle.first_fault.specs.declared.fault.Fault.{Fault}
use Rattle.generic_syntax.specs.declared.module_cst.FormCst.{out-FormCst}
use Rattle.generic_syntax.specs.declared.module_cst.OpCst.{OpCst, out-OpCst}
use Rattle.generic_syntax.specs.declared.module_cst.UseCst.{UseCst}
use Rattle.ir_store.specs.Numbering.{OpSite}
use Rattle.ir_store.specs.Store.{OpName}
use Rattle.module_builder.specs.Fit.{uses_in}
use Rattle.module_faults.specs.declared.rule.TheConstants.{USE_TYPE}
use Rattle.module_meaning.specs.Facts.{FormSeen}

-- an operation of a store has as many operands as the form shows uses
pub record HasOperands (form : FormSeen) (site : OpSite OpName ValueId) : Type 0 where
  pub many : length (uses_in form) ≡ length site.head.operands

-- as its tree shows
abbrev pub HasItsUses : OpCst → OpSite OpName ValueId → Type 0
HasItsUses c site = HasOperands (out-FormCst (out-OpCst c).form) site

-- the use at a place is shown with another type than that of the value that it means
pub record IsWrongUse (types : List ValueId) (uses : List UseCst) (shown : List ValueId)
    (numbers : List ℕ) (f : Fault) : Type 0 where
  pub at : ℕ
  pub use_there : UseCst
  pub type : ValueId
  pub number : ℕ
  pub stands : slice_get uses at ≡ Some use_there
  pub typed : slice_get shown at ≡ Some type
  pub means : slice_get numbers at ≡ Some number
  pub differs : slice_get types number ≢ Some type
  pub place : f.place ≡ use_there.place
  pub code : f.code ≡ USE_TYPE
