-- A constant that means nothing is a fault of its file.
use Rattle.std.proofs.Common.{ℕ, inl, inr, List, [], refl, sym, subst, arith}
use Rattle.std.specs.List.{Contains}
use Rattle.dialect_defs.specs.declared.definition.TypeDef.{TypeDef}
use Rattle.dialect_defs.specs.Assignments.{Tests}
use Rattle.first_fault.specs.declared.fault.Fault.{Fault}
use Rattle.irdl_ops.specs.declared.raw.RawDefs.{RawDefs}
use Rattle.irdl_ops.specs.declared.raw.RawExpr.{RawExpr}
use Rattle.irdl_ops.specs.declared.raw.RawExpr.TheVariants as raw
use Rattle.irdl_ops.specs.declared.raw.StatementKind.{StatementKind}
use Rattle.irdl_ops.specs.declared.raw.StatementKind.TheVariants as k
use Rattle.dialect_registry.specs.declared.code.DefCode.TheVariants.{ConstantBad}
use Rattle.dialect_registry.specs.Codes.{refusal}
use Rattle.dialect_registry.specs.ConstantFaults.{IsConstantFault, IsExprConstantFault, IsFaultIn}
use Rattle.dialect_registry.specs.Resolved.{Named, constraint_in}
use Rattle.dialect_registry.specs.Resolving.{HasOne, IsBad, IsBadFile}
use Rattle.dialect_registry.proofs.Faultless.{stands-at}
use Rattle.dialect_registry.proofs.Members.{contains-cases, of-flat_map}

module _ (tests : Tests) (shapes : List TypeDef) where
  expr-fault : (e : RawExpr) → IsBad tests shapes e
      → (f : Fault) × IsExprConstantFault [] tests shapes e f
  expr-fault (raw.Is cst) bad = (refusal cst.place ConstantBad, (bad, refl))
  expr-fault raw.Any bad = absurd bad
  expr-fault (raw.Pred p) bad = absurd bad
  expr-fault (raw.BaseRef r) bad = absurd bad
  expr-fault (raw.BaseName b) bad = absurd bad
  expr-fault (raw.Parametric r parts) bad = absurd bad
  expr-fault (raw.AnyOf members) bad = absurd bad
  expr-fault (raw.AllOf members) bad = absurd bad

  kind-fault : (x : StatementKind) (c : Named) → Contains (constraint_in x) c
      → IsBad tests shapes c.expr → (f : Fault) × IsConstantFault [] tests shapes x f
  kind-fault (k.Constraint n e) c has bad =
      elim (contains-cases (record { name = n.name; expr = e }) c [] has) [
        | inl same ↦ expr-fault e (subst (λ y. IsBad tests shapes y.expr) (sym same) bad)
        | inr (j, less, is) ↦ absurd (omega (arith, less))
      ]
  kind-fault (k.Region n args size) c (j, less, is) bad = absurd (omega (arith, less))
  kind-fault (k.Parameters entries) c (j, less, is) bad = absurd (omega (arith, less))
  kind-fault (k.Operands entries) c (j, less, is) bad = absurd (omega (arith, less))
  kind-fault (k.Results entries) c (j, less, is) bad = absurd (omega (arith, less))
  kind-fault (k.Attributes attrs) c (j, less, is) bad = absurd (omega (arith, less))
  kind-fault (k.Regions entries) c (j, less, is) bad = absurd (omega (arith, less))
  kind-fault (k.Successors names) c (j, less, is) bad = absurd (omega (arith, less))
  kind-fault k.Terminator c (j, less, is) bad = absurd (omega (arith, less))
  kind-fault (k.Format text) c (j, less, is) bad = absurd (omega (arith, less))

  -- where a constant of the files means nothing, a file has a fault
  pub bad-fault : (files : List RawDefs) → HasOne (IsBadFile tests shapes) files
      → (n : ℕ) × (f : Fault) × IsFaultIn (IsConstantFault [] tests shapes) files n f
  bad-fault files (file, in_files, (dialect, in_file, (def, in_dialect, (c, in_def, bad)))) =
      let n = stands-at files file in_files in
      let s = of-flat_map (λ x. constraint_in x.kind) def.statements c in_def in
      let found = kind-fault s.0.kind c s.2 bad in (
        n.place,
        found.0,
        (file, n.is, (dialect, in_file, (def, in_dialect, (s.0, s.1, found.1)))),
      )
