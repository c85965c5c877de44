-- What is known of elements whose names mean something.
--
-- What a name means is there, literals are words and signs, and an element of a branch is no group.
use Rattle.std.proofs.Common.{◌≡◌, ℕ, ◌<◌, Bool, true, false, ◌&&◌, List, [], ◌∷◌, length, refl, sym, ◌∙◌, ap, arith, Option, Some, None, nat_lt, if◌then◌else◌}
use Rattle.std.specs.List.{position}
use Rattle.std.specs.declared.result.Result.TheVariants.{Ok, Err}
use Rattle.std.proofs.lemmas.List.Quantifiers.{position-Some}
use Rattle.ir_lexer.specs.Spelling.{Text}
use Rattle.dialect_defs.specs.declared.definition.OpDef.{OpDef}
use Rattle.dialect_defs.specs.declared.format.ElementKind.{ElementKind}
use Rattle.dialect_defs.specs.declared.format.ElementKind.TheVariants as kind
use Rattle.dialect_defs.specs.declared.format.TypeArg.{TypeArg}
use Rattle.dialect_defs.specs.declared.format.TypeArg.TheVariants as arg
use Rattle.dialect_defs.specs.declared.raw_format.RawArg.{RawArg}
use Rattle.dialect_defs.specs.declared.raw_format.RawArg.TheVariants as raw
use Rattle.dialect_defs.specs.declared.raw_format.RawKind.TheOpen.{RawKind-F}
use Rattle.dialect_defs.specs.declared.raw_format.RawName.{RawName}
use Rattle.format_reader.specs.Spelling.{is_bare_id}
use Rattle.format_checker.specs.Accepted.{is_there, is_known, types_are_there}
use Rattle.format_checker.specs.Columns.{form_of}
use Rattle.format_checker.specs.Named as spec
use Rattle.format_checker.specs.Named.{Named, RawForm, ◌>>=◌, at_number, or_else_named, entry_named, attr_named, region_named, successor_named, is_literal_sign}
use Rattle.format_checker.proofs.Opened.{open-Word, open-Punct, open-Space, open-Newline, open-Empty, open-Operand, open-Attr, open-Region, open-Successor, open-SymbolName, open-IntText, open-Types, open-Functional, open-Dict, open-DictKeyword}

-- ---- steps

pub less-true : (a b : ℕ) → a < b → nat_lt a b ≡ true
less-true a b h = grind arith

pub and-both : (a b : Bool) → a ≡ true → b ≡ true → (a && b) ≡ true
and-both a b x y = rw (x, y) refl

-- what was found first
pub then-ok : {A B : Type 0} (n : Named A) (f : A → Named B) (y : B) → (n >>= f) ≡ Ok y
    → (x : A) × (n ≡ Ok x) × (f x ≡ Ok y)
then-ok (Ok x) f y e = (x, refl, e)
then-ok (Err at) f y e = absurd (cc)

-- the number there is
number-ok : {A : Type 0} (o : Option ℕ) (f : ℕ → A) (at : ℕ) (y : A) → at_number o f at ≡ Ok y
    → (i : ℕ) × (o ≡ Some i) × (y ≡ f i)
number-ok (Some i) f at y e = (i, refl, cc)
number-ok None f at y e = absurd (cc)

-- or what else is meant
data Either {A : Type 0} (o : Option ℕ) (f : ℕ → A) (other : Named A) (y : A) : Type 0 where
  one : (i : ℕ) → o ≡ Some i → y ≡ f i → Either o f other y
  another : other ≡ Ok y → Either o f other y

either-ok : {A : Type 0} (o : Option ℕ) (f : ℕ → A) (other : Named A) (y : A)
    → or_else_named o f other ≡ Ok y → Either o f other y
either-ok (Some i) f other y e = one i refl (cc)
either-ok None f other y e = another e

found-there : {A : Type 0} (p : A → Bool) (xs : List A) (i : ℕ) → position p xs ≡ Some i
    → is_there i xs ≡ true
found-there p [] i e = absurd (cc)
found-there p (x ∷ xs) i e =
    less-true i (length (x ∷ xs)) (position-Some p (x ∷ xs) i x e).0

-- ---- names

attr-there : (op : OpDef) (n : RawName) (i : ℕ) → spec.attr_of op n ≡ Ok i
    → is_there i op.attrs ≡ true
attr-there op n i e =
    let h = number-ok (attr_named op.attrs n.name) (λ j. j) n.at i e in
    found-there _ op.attrs i (h.1 ∙ ap (λ j. Some j) (sym h.2))

operand-there : (op : OpDef) (n : RawName) (t : TypeArg) → spec.operand_of op n ≡ Ok t
    → types_are_there op t ≡ true
operand-there op n t e =
    let h = number-ok (entry_named op.operands n.name) (λ j. arg.Operand j) n.at t e in
    ap (types_are_there op) h.2 ∙ found-there _ op.operands h.0 h.1

result-there : (op : OpDef) (n : RawName) (t : TypeArg) → spec.result_of op n ≡ Ok t
    → types_are_there op t ≡ true
result-there op n t e =
    let h = number-ok (entry_named op.results n.name) (λ j. arg.Result j) n.at t e in
    ap (types_are_there op) h.2 ∙ found-there _ op.results h.0 h.1

ok-is : {A : Type 0} (x y : A) → ◌≡◌ {A = Named A} (Ok x) (Ok y) → y ≡ x
ok-is x y e = cc

either-there : (op : OpDef) (a : RawArg) (t : TypeArg) → spec.either_side op a ≡ Ok t
    → types_are_there op t ≡ true
either-there op (raw.Variable n) t e =
    go (either-ok (entry_named op.operands n.name) (λ j. arg.Operand j) (spec.result_of op n) t e)
  where
    go : Either (entry_named op.operands n.name) (λ j. arg.Operand j) (spec.result_of op n) t
        → types_are_there op t ≡ true
    go (one i h is) = ap (types_are_there op) is ∙ found-there _ op.operands i h
    go (another h) = result-there op n t h
either-there op (raw.AllOperands at) t e = ap (types_are_there op) (ok-is arg.AllOperands t e)
either-there op (raw.AllResults at) t e = ap (types_are_there op) (ok-is arg.AllResults t e)

operands-there : (op : OpDef) (a : RawArg) (t : TypeArg) → spec.operand_side op a ≡ Ok t
    → types_are_there op t ≡ true
operands-there op (raw.Variable n) t e = operand-there op n t e
operands-there op (raw.AllOperands at) t e = ap (types_are_there op) (ok-is arg.AllOperands t e)
operands-there op (raw.AllResults at) t e = absurd (cc)

results-there : (op : OpDef) (a : RawArg) (t : TypeArg) → spec.result_side op a ≡ Ok t
    → types_are_there op t ≡ true
results-there op (raw.Variable n) t e = result-there op n t e
results-there op (raw.AllOperands at) t e = absurd (cc)
results-there op (raw.AllResults at) t e = ap (types_are_there op) (ok-is arg.AllResults t e)

-- ---- elements

abbrev knows : OpDef → ElementKind → Type 0
knows op k = is_known op (form_of k) ≡ true

-- of an element that is made so
made : (op : OpDef) (k made_so : ElementKind) → k ≡ made_so → knows op made_so → knows op k
made op k made_so is h = ap (λ x. is_known op (form_of x)) is ∙ h

bare-known : (op : OpDef) (at : ℕ) (name : Text) (k : ElementKind) → spec.bare op at name ≡ Ok k
    → knows op k
bare-known op at name k e =
    first (either-ok (entry_named op.operands name) (λ i. kind.Operand i) attrs k e)
  where
    successors : Named ElementKind
    successors = at_number (successor_named op.successors name) (λ i. kind.Successor i) at

    regions : Named ElementKind
    regions = or_else_named (region_named op.regions name) (λ i. kind.Region i) successors

    attrs : Named ElementKind
    attrs = or_else_named (attr_named op.attrs name) (λ i. kind.Attr i) regions

    last : (i : ℕ) × (successor_named op.successors name ≡ Some i) × (k ≡ kind.Successor i)
        → knows op k
    last h =
        made op k (kind.Successor h.0) h.2 (ap (is_known op) (open-Successor h.0)
        ∙ found-there _ op.successors h.0 h.1)

    third : Either (region_named op.regions name) (λ i. kind.Region i) successors k → knows op k
    third (one i h is) =
        made op k (kind.Region i) is (ap (is_known op) (open-Region i) ∙ found-there _ op.regions i h)
    third (another h) = last (number-ok (successor_named op.successors name) (λ i. kind.Successor i) at k h)

    second : Either (attr_named op.attrs name) (λ i. kind.Attr i) regions k → knows op k
    second (one i h is) =
        made op k (kind.Attr i) is (ap (is_known op) (open-Attr i) ∙ found-there _ op.attrs i h)
    second (another h) = third (either-ok (region_named op.regions name) (λ i. kind.Region i) successors k h)

    first : Either (entry_named op.operands name) (λ i. kind.Operand i) attrs k → knows op k
    first (one i h is) =
        made op k (kind.Operand i) is (ap (is_known op) (open-Operand i)
        ∙ found-there _ op.operands i h)
    first (another h) = second (either-ok (attr_named op.attrs name) (λ i. kind.Attr i) regions k h)

if-ok : {A : Type 0} (b : Bool) (x y : A) (at : ℕ)
    → ◌≡◌ {A = Named A} (if b then Ok x else Err at) (Ok y) → (b ≡ true) × (y ≡ x)
if-ok true x y at e = (refl, cc)
if-ok false x y at e = absurd (cc)

-- of an element that is no group
pub item-known : (op : OpDef) (at : ℕ) (x : RawForm) (k : ElementKind)
    → spec.item_kind op at x ≡ Ok k → is_known op (form_of k) ≡ true
item-known op at (RawKind-F.Word w) k e =
    let h = if-ok (is_bare_id w) (kind.Word w) k at e in
    made op k (kind.Word w) h.1 (ap (is_known op) (open-Word w) ∙ h.0)
item-known op at (RawKind-F.Punct class) k e =
    let h = if-ok (is_literal_sign class) (kind.Punct class) k at e in
    made op k (kind.Punct class) h.1 (ap (is_known op) (open-Punct class) ∙ h.0)
item-known op at RawKind-F.Space k e =
    made op k kind.Space (ok-is kind.Space k e) (ap (is_known op) open-Space)
item-known op at RawKind-F.Newline k e =
    made op k kind.Newline (ok-is kind.Newline k e) (ap (is_known op) open-Newline)
item-known op at RawKind-F.Empty k e =
    made op k kind.Empty (ok-is kind.Empty k e) (ap (is_known op) open-Empty)
item-known op at (RawKind-F.Variable name) k e = bare-known op at name k e
item-known op at (RawKind-F.Qualified n) k e =
    let h = then-ok (spec.attr_of op n) (λ i. Ok (kind.Attr i)) k e in
    made op k (kind.Attr h.0) (ok-is (kind.Attr h.0) k h.2)
    (ap (is_known op) (open-Attr h.0) ∙ attr-there op n h.0 h.1)
item-known op at (RawKind-F.SymbolName n) k e =
    let h = then-ok (spec.attr_of op n) (λ i. Ok (kind.SymbolName i)) k e in
    made op k (kind.SymbolName h.0) (ok-is (kind.SymbolName h.0) k h.2)
    (ap (is_known op) (open-SymbolName h.0) ∙ attr-there op n h.0 h.1)
item-known op at (RawKind-F.IntText n w) k e =
    let h = then-ok (spec.attr_of op n) (λ i. Ok (kind.IntText i w)) k e in
    made op k (kind.IntText h.0 w) (ok-is (kind.IntText h.0 w) k h.2)
    (ap (is_known op) (open-IntText h.0 w) ∙ attr-there op n h.0 h.1)
item-known op at (RawKind-F.Types a) k e =
    let h = then-ok (spec.either_side op a) (λ t. Ok (kind.Types t)) k e in
    made op k (kind.Types h.0) (ok-is (kind.Types h.0) k h.2)
    (ap (is_known op) (open-Types h.0) ∙ either-there op a h.0 h.1)
item-known op at (RawKind-F.Functional a b) k e =
    let h = then-ok (spec.operand_side op a)
    (λ t. spec.result_side op b >>= (λ u. Ok (kind.Functional t u))) k e in
    let g = then-ok (spec.result_side op b) (λ u. Ok (kind.Functional h.0 u)) k h.2 in
    made op k (kind.Functional h.0 g.0) (ok-is (kind.Functional h.0 g.0) k g.2)
    (ap (is_known op) (open-Functional h.0 g.0)
    ∙ and-both (types_are_there op h.0) (types_are_there op g.0) (operands-there op a h.0 h.1)
    (results-there op b g.0 g.1))
item-known op at RawKind-F.Dict k e =
    made op k kind.Dict (ok-is kind.Dict k e) (ap (is_known op) open-Dict)
item-known op at RawKind-F.DictKeyword k e =
    made op k kind.DictKeyword (ok-is kind.DictKeyword k e) (ap (is_known op) open-DictKeyword)
item-known op at (RawKind-F.Group first otherwise) k e = absurd (cc)
