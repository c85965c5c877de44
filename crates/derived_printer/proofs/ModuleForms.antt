-- The parts of an operation's text, by what the store lends of it.
use Rattle.std.proofs.Common.{◌≡◌, ◌≢◌, ℕ, zero, suc, ◌==◌, Bool, true, false, not, List, [], ◌∷◌, ◌++◌, length, map, slice_get, Option, Some, None, get_or, refl, sym, ◌∙◌, ap, arith, cond}
use Rattle.std.proofs.lemmas.Bool.{eqb-true}
use Rattle.std.specs.List.{zip}
use Rattle.attr_value.specs.declared.head.ValueId.{ValueId}
use Rattle.attr_value.specs.Ids.{at, kids_at}
use Rattle.attr_value.specs.Values.{Value}
use Rattle.dialect_defs.specs.declared.definition.OpDef.{OpDef}
use Rattle.ir_lexer.specs.declared.class.Class.TheVariants as c
use Rattle.ir_lexer.specs.Spelling.{Text}
use Rattle.ir_store.specs.declared.rows.OpId.{OpId}
use Rattle.ir_store.specs.Modules.{Ops, no_ops, then_op}
use Rattle.ir_store.specs.Named.{AreOps}
use Rattle.ir_store.specs.Numbering.{Numbers}
use Rattle.ir_store.specs.Store.{OpName, StoredHead, Module}
use Rattle.text_layout.specs.Lines.{break_line}
use Rattle.derived_printer.specs.ModuleMarks.{has_label, count_from, name_in, label_marks, block_name, stands_bare, outs_marks, type_list_marks}
use Rattle.derived_printer.specs.ModuleParts.{value_of_id, attrs_marks, arguments_from, argument_at}
use Rattle.derived_printer.specs.ModuleParts.{front_of, back_of, label_of}
use Rattle.derived_printer.specs.Parts.{enclosed_marks}
use Rattle.derived_printer.specs.ReadBack.{is_function}
use Rattle.derived_printer.specs.ValueMarks.{a_sign, commas, in_parens, in_braces, marks_of, kid_marks, value_marks, entry_marks}
use Rattle.derived_printer.proofs.ModulePieces.{some-marks}
use Rattle.derived_printer.proofs.ModuleStored.{list-same, attrs-same, some-attrs, HaveTypesSeen, arguments-same}

-- ---- result types

-- one type stands bare where it is no function type
pub bare-one : (vs : List Value) (ids : List ValueId) (d : ValueId) → length ids ≡ 1
    → not (is_function (at vs (get_or ids 0 d).0).head) ≡ stands_bare (map (value_of_id vs) ids)
bare-one vs [] d one = absurd (cc)
bare-one vs (id ∷ []) d one = refl
bare-one vs (id ∷ next ∷ ids) d one = absurd (cc)

-- others don't
pub bare-other : (vs : List Value) (ids : List ValueId) → length ids ≢ 1
    → false ≡ stands_bare (map (value_of_id vs) ids)
bare-other vs [] other = refl
bare-other vs (id ∷ []) other = absurd (other refl)
bare-other vs (id ∷ next ∷ ids) other = refl

-- types that stand bare
pub outs-bare : (vs : List Value) (ids : List ValueId) (b : Bool)
    → b ≡ stands_bare (map (value_of_id vs) ids) → b ≡ true
    → outs_marks (map (value_of_id vs) ids) ≡ commas (marks_of (kid_marks (kids_at vs ids)))
outs-bare vs ids b is bare = ap (λ q. cond q (commas (map value_marks (map (value_of_id vs) ids)))
    (type_list_marks (map (value_of_id vs) ids))) (sym is ∙ bare)
    ∙ ap commas (list-same vs ids)

-- types in parentheses
pub outs-listed : (vs : List Value) (ids : List ValueId) (b : Bool)
    → b ≡ stands_bare (map (value_of_id vs) ids) → b ≡ false
    → outs_marks (map (value_of_id vs) ids)
    ≡ enclosed_marks c.LParen c.RParen (kid_marks (kids_at vs ids))
outs-listed vs ids b is other =
    ap (λ q. cond q (commas (map value_marks (map (value_of_id vs) ids)))
    (type_list_marks (map (value_of_id vs) ids))) (sym is ∙ other)
    ∙ ap (λ l. in_parens (commas l)) (list-same vs ids)

-- ---- attributes

-- no keys, no attributes
pub no-attrs : (keys : List Text) (values : List Value) (r : Bool) → r ≡ (length keys == 0)
    → r ≡ true → attrs_marks (zip keys values) ≡ []
no-attrs [] values r is empty = refl
no-attrs (key ∷ keys) values r is empty =
    let none : suc (length keys) ≡ 0 = eqb-true (suc (length keys)) 0 (sym is ∙ empty) in
    absurd (omega (arith, none))

-- attributes as a dictionary
pub attrs-marks-same : (vs : List Value) (keys : List Text) (ids : List ValueId)
    → length ids ≡ length keys → keys ≢ []
    → attrs_marks (zip keys (map (value_of_id vs) ids))
    ≡ in_braces (commas (map entry_marks (zip keys (kid_marks (kids_at vs ids)))))
attrs-marks-same vs keys ids count some =
    some-marks (zip keys (map (value_of_id vs) ids)) _ (some-attrs vs keys ids count some)
    ∙ ap (λ l. in_braces (commas l)) (attrs-same vs keys ids)

-- ---- whether a block has a label

-- where it has arguments
pub label-of-args : {V N : Type 0} (k : ℕ) (args : List V) (os : Ops N V) → length args ≢ 0
    → true ≡ has_label k args os
label-of-args zero [] os some = absurd (some refl)
label-of-args zero (t ∷ args) os some = refl
label-of-args (suc k) args os some = refl

not-zero : (n : ℕ) → (suc n == 0) ≡ false
not-zero n = go (suc n == 0) refl
  where
    go : (q : Bool) → (suc n == 0) ≡ q → q ≡ false
    go true e = absurd (let none : suc n ≡ 0 = eqb-true (suc n) 0 e in omega (arith, none))
    go false e = refl

-- in the entry block without arguments, by its operations
pub label-of-ops : (m : Module) (n : Numbers) (k : ℕ) (args : List ValueId) (ids : List OpId)
    (os : Module) → k ≡ 0 → length args ≡ 0 → AreOps m n ids os
    → (length ids == 0) ≡ has_label k args os
label-of-ops m n zero [] [] no_ops first none are = refl
label-of-ops m n zero [] (id ∷ ids) (then_op head rs os) first none are = not-zero (length ids)
label-of-ops m n zero [] [] (then_op head rs os) first none are = absurd are
label-of-ops m n zero [] (id ∷ ids) no_ops first none are = absurd are
label-of-ops m n zero (t ∷ args) ids os first none are = absurd (cc)
label-of-ops m n (suc k) args ids os first none are = absurd (cc)

-- arguments, where there are some
pub some-arguments : (types : List Value) (n k : ℕ) → k ≢ 0
    → arguments_from types n k ≡ in_parens (commas (map (argument_at types) (count_from n k)))
some-arguments types n zero some = absurd (some refl)
some-arguments types n (suc k) some = refl

-- ---- what the store lends of an operation

-- the name that a definition gives
name-found : (defs : List OpDef) (name : OpName) (d : OpDef) → slice_get defs name.def ≡ Some d
    → name_in defs name ≡ d.name
name-found defs name d e =
    ap (λ (o : Option OpDef). elim o [ None ↦ [] | Some x ↦ x.name ]) e

-- the front of an operation
pub front-same : (defs : List OpDef) (h k : StoredHead) (d : OpDef) (name : Text)
    (ops succs : List ℕ) → h ≡ k → slice_get defs k.name.def ≡ Some d → name ≡ d.name
    → ops ≡ k.operands → succs ≡ k.successors
    → front_of (name_in defs h.name) h.operands h.successors ≡ front_of name ops succs
front-same defs h k d name ops succs e found is o s =
    ap (λ z. front_of (name_in defs z.name) z.operands z.successors) e
    ∙ ap (λ z. front_of z k.operands k.successors) (name-found defs k.name d found ∙ sym is)
    ∙ ap (λ z. front_of name z k.successors) (sym o)
    ∙ ap (front_of name ops) (sym s)

-- the back of an operation
pub back-same : (types vs : List Value) (h k : StoredHead) (keys : List Text)
    (ids results : List ValueId) (ops : List ℕ) → h ≡ k → keys ≡ k.keys → ids ≡ k.values
    → ops ≡ k.operands → results ≡ k.results
    → back_of types (zip h.keys (map (value_of_id vs) h.values)) h.operands
    (map (value_of_id vs) h.results)
    ≡ back_of types (zip keys (map (value_of_id vs) ids)) ops (map (value_of_id vs) results)
back-same types vs h k keys ids results ops e a b o r =
    ap (λ z. back_of types (zip z.keys (map (value_of_id vs) z.values)) z.operands
    (map (value_of_id vs) z.results)) e
    ∙ ap (λ z. back_of types (zip z (map (value_of_id vs) k.values)) k.operands
    (map (value_of_id vs) k.results)) (sym a)
    ∙ ap (λ z. back_of types (zip keys (map (value_of_id vs) z)) k.operands
    (map (value_of_id vs) k.results)) (sym b)
    ∙ ap (λ z. back_of types (zip keys (map (value_of_id vs) ids)) z
    (map (value_of_id vs) k.results)) (sym o)
    ∙ ap (λ z. back_of types (zip keys (map (value_of_id vs) ids)) ops (map (value_of_id vs) z))
    (sym r)

-- a label
pub label-same : (types vs : List Value) (indent k n first count : ℕ) (args : List ValueId)
    → HaveTypesSeen types vs n args → first ≡ n → count ≡ length args
    → label_marks indent n k (map (value_of_id vs) args) ≡ label_of types indent k first count
label-same types vs indent k n first count args have f l =
    ap (λ ms. break_line indent ∷ (block_name k ++ (ms ++ a_sign c.Colon)))
    (arguments-same types vs n args have)
    ∙ ap (λ z. label_of types indent k z (length args)) (sym f)
    ∙ ap (label_of types indent k first) (sym l)
