-- The numbers of rules: each rule has its own, and each fault of a file has one.
use Rattle.std.proofs.Common.{◌≡◌, ℕ, ◌==◌, inl, inr, Bool, true, false, is_some, List, map, refl, sym, ◌∙◌, ap, if◌then◌else◌}
use Rattle.std.specs.Prelude.{IfSome}
use Rattle.std.specs.declared.option.Option.{Option}
use Rattle.std.specs.declared.option.Option.TheVariants.{Some, None}
use Rattle.first_fault.specs.declared.fault.Fault.{Fault}
use Rattle.dialect_defs.specs.declared.body.TheConstants.{VARIABLE_LIMIT}
use Rattle.dialect_defs.specs.declared.entry.TheConstants.{ENTRY_LIMIT}
use Rattle.ir_lexer.specs.Spelling.{Text}
use Rattle.irdl_ops.specs.declared.raw.RawDef.{RawDef}
use Rattle.irdl_ops.specs.declared.raw.RawDefs.{RawDefs}
use Rattle.irdl_ops.specs.declared.raw.RawDialect.{RawDialect}
use Rattle.irdl_ops.specs.declared.raw.RawExpr.{RawExpr}
use Rattle.irdl_ops.specs.declared.raw.RawExpr.TheVariants as e
use Rattle.irdl_ops.specs.declared.raw.StatementKind.{StatementKind}
use Rattle.irdl_ops.specs.declared.raw.StatementKind.TheVariants as s
use Rattle.dialect_registry.specs.declared.code.DefCode.{DefCode}
use Rattle.dialect_registry.specs.declared.code.DefCode.TheVariants.{Syntax, Nesting, NameRepeated, RefUnknown, ParamCount, PredicateUnknown, ChoiceLimit, ConstantBad, FormatSyntax, FormatUnknown, FormatMissing, FormatRepeated, FormatGroup, FormatAmbiguous, FormatNoType, BaseUnknown, StatementRepeated, ReservedName, VarLimit}
use Rattle.dialect_registry.specs.declared.refusal.FileFault.{FileFault}
use Rattle.dialect_registry.specs.Codes.{code_number, IsRule, Breaks, refusal}
use Rattle.dialect_registry.specs.DefFaults.{IsStatementFault, IsDefFault, IsDialectFault, IsFault, IsFirstIn, world_of}
use Rattle.dialect_registry.specs.Limits.{IsExtra, variables}
use Rattle.dialect_registry.specs.References.{IsExprFault}
use Rattle.dialect_registry.specs.NameFaults.{NameMark, defines, uses, labels, begins, fault_of, stands_for, is_label, is_begun, is_usable}
use Rattle.dialect_registry.specs.Targets.{World}

-- the rule of a number
numbered : ℕ → DefCode
numbered n =
    if n == 1 then Syntax else if n == 2 then Nesting else if n == 3 then NameRepeated
    else if n == 4 then RefUnknown else if n == 5 then ParamCount
    else if n == 6 then PredicateUnknown
    else if n == 7 then ChoiceLimit else if n == 8 then ConstantBad
    else if n == 9 then FormatSyntax else if n == 10 then FormatUnknown
    else if n == 11 then FormatMissing else if n == 12 then FormatRepeated
    else if n == 13 then FormatGroup else if n == 14 then FormatAmbiguous
    else if n == 15 then FormatNoType else if n == 16 then BaseUnknown
    else if n == 17 then StatementRepeated else if n == 18 then ReservedName else VarLimit

numbered-code_number : (c : DefCode) → numbered (code_number c) ≡ c
unfolding numbered
numbered-code_number Syntax = refl
numbered-code_number Nesting = refl
numbered-code_number NameRepeated = refl
numbered-code_number RefUnknown = refl
numbered-code_number ParamCount = refl
numbered-code_number PredicateUnknown = refl
numbered-code_number ChoiceLimit = refl
numbered-code_number ConstantBad = refl
numbered-code_number FormatSyntax = refl
numbered-code_number FormatUnknown = refl
numbered-code_number FormatMissing = refl
numbered-code_number FormatRepeated = refl
numbered-code_number FormatGroup = refl
numbered-code_number FormatAmbiguous = refl
numbered-code_number FormatNoType = refl
numbered-code_number BaseUnknown = refl
numbered-code_number StatementRepeated = refl
numbered-code_number ReservedName = refl
numbered-code_number VarLimit = refl

-- rules of one number are one rule
pub code_number-same : (c e : DefCode) → code_number c ≡ code_number e → c ≡ e
code_number-same c e is =
    sym (numbered-code_number c) ∙ ap numbered is ∙ numbered-code_number e

-- ---- the rules that files can break

breaks-rule : (B : Type 0) (place : ℕ) (code : DefCode) (f : Fault) → Breaks B place code f
    → IsRule f.code
breaks-rule B place code f p = (code, ap (λ g. g.code) p.1)

extra-rule : (limit : ℕ) (places : List ℕ) (f : Fault) → IsExtra limit places f → IsRule f.code
extra-rule limit places f p = (VarLimit, ap (λ g. g.code) p.2)

-- a refusal that a test chooses
chosen-rule : (b : Bool) (place : ℕ) (code : DefCode) (f : Fault)
    → (if b then Some (refusal place code) else None) ≡ Some f → IsRule f.code
chosen-rule true place code f e =
    (code, let same : refusal place code ≡ f = cc in ap (λ g. g.code) (sym same))
chosen-rule false place code f e = absurd (cc)

chosen-rule-not : (b : Bool) (place : ℕ) (code : DefCode) (f : Fault)
    → (if b then None else Some (refusal place code)) ≡ Some f → IsRule f.code
chosen-rule-not true place code f e = absurd (cc)
chosen-rule-not false place code f e =
    (code, let same : refusal place code ≡ f = cc in ap (λ g. g.code) (sym same))

mark-rule : (before : List NameMark) (m : NameMark) (f : Fault) → fault_of before m ≡ Some f
    → IsRule f.code
mark-rule before (defines s place name n) f e =
    chosen-rule (is_some (stands_for before name)) place NameRepeated f e
mark-rule before (uses s place name) f e =
    chosen-rule-not (is_usable (stands_for before name) s) place RefUnknown f e
mark-rule before (labels place name) f e =
    chosen-rule (is_label before name) place NameRepeated f e
mark-rule before (begins place word) f e =
    chosen-rule (is_begun before word) place StatementRepeated f e

expr-rule : (w : World) (own : Text) (x : RawExpr) (f : Fault) → IsExprFault w own x f
    → IsRule f.code
expr-rule w own (e.Is v) f p = absurd p
expr-rule w own e.Any f p = absurd p
expr-rule w own (e.Pred name) f p = breaks-rule _ name.place PredicateUnknown f p
expr-rule w own (e.BaseRef r) f p = breaks-rule _ r.place RefUnknown f p
expr-rule w own (e.BaseName name) f p = breaks-rule _ name.place BaseUnknown f p
expr-rule w own (e.Parametric r parts) f (inl p) = breaks-rule _ r.place RefUnknown f p
expr-rule w own (e.Parametric r parts) f (inr p) = breaks-rule _ r.place ParamCount f p
expr-rule w own (e.AnyOf names) f p = absurd p
expr-rule w own (e.AllOf names) f p = absurd p

statement-rule : (w : World) (own : Text) (k : StatementKind) (f : Fault)
    → IsStatementFault w own k f → IsRule f.code
statement-rule w own (s.Constraint n x) f p = expr-rule w own x f p
statement-rule w own (s.Region n args size) f p = absurd p
statement-rule w own (s.Parameters entries) f p = absurd p
statement-rule w own (s.Operands entries) f p =
    extra-rule ENTRY_LIMIT (map (λ x. x.place) entries) f p
statement-rule w own (s.Results entries) f p =
    extra-rule ENTRY_LIMIT (map (λ x. x.place) entries) f p
statement-rule w own (s.Attributes attrs) f (a, has, p) =
    breaks-rule _ a.name.place ReservedName f p
statement-rule w own (s.Regions entries) f p = absurd p
statement-rule w own (s.Successors names) f p = absurd p
statement-rule w own s.Terminator f p = absurd p
statement-rule w own (s.Format text) f p = absurd p

def-rule : (w : World) (own : Text) (before : List RawDef) (d : RawDef) (f : Fault)
    → IsDefFault w own before d f → IsRule f.code
def-rule w own before d f (inl (inl p)) = breaks-rule _ d.place NameRepeated f p
def-rule w own before d f (inl (inr p)) = breaks-rule _ d.place ReservedName f p
def-rule w own before d f (inr (inl (inl p))) = mark-rule p.before p.mark f p.is
def-rule w own before d f (inr (inl (inr p))) = breaks-rule _ d.place ChoiceLimit f p
def-rule w own before d f (inr (inr (inl p))) =
    extra-rule VARIABLE_LIMIT (variables d.statements) f p
def-rule w own before d f (inr (inr (inr (st, has, p)))) = statement-rule w own st.kind f p

dialect-rule : (w : World) (before : List RawDialect) (d : RawDialect) (f : Fault)
    → IsDialectFault w before d f → IsRule f.code
dialect-rule w before d f (inl (inl p)) = breaks-rule _ d.place NameRepeated f p
dialect-rule w before d f (inl (inr p)) = breaks-rule _ d.place ReservedName f p
dialect-rule w before d f (inr (i, below, x, at, p)) = def-rule w d.name _ x f p

-- a fault of a file breaks a rule
pub IsFault-rule : (files : List RawDefs) (natives : List Text) (n : ℕ) (f : Fault)
    → IsFault files natives n f → IsRule f.code
IsFault-rule files natives n f (defs, at, (i, below, x, there, p)) =
    dialect-rule (world_of files natives) _ x f p

-- and so does the first one
pub first-rule : (files : List RawDefs) (natives : List Text) (first : Option FileFault)
    → IsFirstIn (IsFault files natives) first → IfSome first (λ r. IsRule r.code)
first-rule files natives None x = tt
first-rule files natives (Some r) x = IsFault-rule files natives r.file _ x.0.0
