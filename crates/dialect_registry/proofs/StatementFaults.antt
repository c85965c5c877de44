-- The first fault of the statements of files, file by file.
use Rattle.std.proofs.Common.{◌≡◌, ◌∙◌, ℕ, ◌<◌, ◌≤◌, List, length, sym, subst, arith}
use Rattle.std.specs.Prelude.{slice_get}
use Rattle.std.specs.declared.option.Option.{Option}
use Rattle.std.specs.declared.option.Option.TheVariants.{Some}
use Rattle.first_fault.specs.declared.fault.Fault.{Fault}
use Rattle.first_fault.specs.Firsts.{IsFirst}
use Rattle.first_fault.proofs.Firsts.{first-same}
use Rattle.irdl_ops.specs.declared.raw.RawDefs.{RawDefs}
use Rattle.irdl_ops.specs.declared.raw.StatementKind.{StatementKind}
use Rattle.dialect_registry.specs.declared.refusal.FileFault.{FileFault}
use Rattle.dialect_registry.specs.ConstantFaults.{IsFaultOfFile, IsFaultIn}
use Rattle.dialect_registry.specs.DefFaults.{IsFirstIn}
use Rattle.dialect_registry.proofs.Files.{FaultBelow, first-in-same, slice_get-below}

module _ (P : StatementKind → Fault → Type 0) (files : List RawDefs) where
  -- a fault of a file is one of the file with its number
  pub in-file-first : (i : ℕ) (defs : RawDefs) (fault : Option Fault)
      → slice_get files i ≡ Some defs → IsFirst (IsFaultOfFile P defs) fault
      → IsFirst (IsFaultIn P files i) fault
  in-file-first i defs fault at first =
      first-same (IsFaultOfFile P defs) (IsFaultIn P files i) fault (λ f p. (defs, at, p)) back
      first
    where
      back : (f : Fault) → IsFaultIn P files i f → IsFaultOfFile P defs f
      back f (other, there, p) =
          let both : Some other ≡ Some defs = sym there ∙ at in
          let same : other ≡ defs = cc in
          subst (λ d. IsFaultOfFile P d f) same p

  -- all files have been judged
  pub in-files-all : (i : ℕ) (first : Option FileFault) → length files ≤ i
      → IsFirstIn (FaultBelow (IsFaultIn P files) i) first → IsFirstIn (IsFaultIn P files) first
  in-files-all i first whole found =
      first-in-same (FaultBelow (IsFaultIn P files) i) (IsFaultIn P files) first
      (λ n f q. q.1)
      (λ n f p. let less : n < length files = slice_get-below files n p.0 p.1 in (omega (arith, less, whole), p))
      found
