-- A text without labels and successors: no rule on labels is broken in it, and no block is meant.
use Rattle.std.proofs.Common.{◌≡◌, ℕ, Bool, true, false, ◌||◌, List, [], ◌∷◌, ◌++◌, length, refl, ap, ◌∙◌, subst}
use Rattle.std.specs.List.{list_any}
use Rattle.std.specs.declared.option.Option.TheVariants.{Some, None}
use Rattle.first_fault.specs.Firsts.{IsFirst, IsFaultBy}
use Rattle.symbol_scopes.specs.declared.call.Call.{Call}
use Rattle.symbol_scopes.specs.declared.call.Call.TheVariants as c
use Rattle.symbol_scopes.specs.declared.call.Said.TheVariants as s
use Rattle.symbol_scopes.specs.declared.call.NameKind.TheVariants.{Labels}
use Rattle.symbol_scopes.specs.ScopeMarks.{Name, ScopeMark, Binding, Standing, passed, along, top, standing, bindings}
use Rattle.symbol_scopes.specs.Calls.{mark_of, marks_of, is_of_blocks}
use Rattle.symbol_scopes.specs.Faults.{block_fault, blocks_rule}
use Rattle.symbol_scopes.specs.Meanings.{block_meaning, block_meanings}

either-false : (a b : Bool) → (a || b) ≡ false → (a ≡ false) × (b ≡ false)
either-false true b e = absurd (cc)
either-false false b e = (refl, e)

fault-none : (ns : List Name) (x : Call) (ls : List Binding) (round : List ℕ) (i : ℕ)
    → is_of_blocks x ≡ false → block_fault ls round i (mark_of ns x) ≡ None
fault-none ns c.Enter ls round i e = refl
fault-none ns c.Leave ls round i e = refl
fault-none ns (c.BadPack p) ls round i e = refl
fault-none ns (c.Name n (s.Define p k)) ls round i e = refl
fault-none ns (c.Name n (s.Use p k q)) ls round i e = refl
fault-none ns (c.Name n (s.Label p b)) ls round i e = absurd (cc)
fault-none ns (c.Name n (s.LeadTo p)) ls round i e = absurd (cc)
fault-none ns (c.Name n (s.DefineAlias t p)) ls round i e = refl
fault-none ns (c.Name n (s.MentionAlias t p)) ls round i e = refl

meaning-none : (ns : List Name) (x : Call) (ls : List Binding) (round : List ℕ)
    → is_of_blocks x ≡ false → block_meaning ls round (mark_of ns x) ≡ []
meaning-none ns c.Enter ls round e = refl
meaning-none ns c.Leave ls round e = refl
meaning-none ns (c.BadPack p) ls round e = refl
meaning-none ns (c.Name n (s.Define p k)) ls round e = refl
meaning-none ns (c.Name n (s.Use p k q)) ls round e = refl
meaning-none ns (c.Name n (s.Label p b)) ls round e = absurd (cc)
meaning-none ns (c.Name n (s.LeadTo p)) ls round e = absurd (cc)
meaning-none ns (c.Name n (s.DefineAlias t p)) ls round e = refl
meaning-none ns (c.Name n (s.MentionAlias t p)) ls round e = refl

along-none : (ns : List Name) (calls : List Call) (ls : List Binding) (at : Standing)
    → list_any is_of_blocks calls ≡ false
    → along (block_meaning ls) at (marks_of ns calls) ≡ []
along-none ns [] ls at e = refl
along-none ns (x ∷ calls) ls at e =
    let both = either-false (is_of_blocks x) (list_any is_of_blocks calls) e in
    ap (λ l. l ++ along (block_meaning ls) (passed at (mark_of ns x)) (marks_of ns calls))
    (meaning-none ns x ls at.round both.0)
    ∙ along-none ns calls ls (passed at (mark_of ns x)) both.1

cut-none : (ns : List Name) (calls : List Call) (before after : List ScopeMark) (m : ScopeMark)
    (ls : List Binding) (round : List ℕ) (i : ℕ) → list_any is_of_blocks calls ≡ false
    → marks_of ns calls ≡ before ++ m ∷ after → block_fault ls round i m ≡ None
cut-none ns [] [] after m ls round i e cut = absurd (cc)
cut-none ns [] (b ∷ before) after m ls round i e cut = absurd (cc)
cut-none ns (x ∷ calls) [] after m ls round i e cut =
    let both = either-false (is_of_blocks x) (list_any is_of_blocks calls) e in
    let first : mark_of ns x ≡ m = cc in
    subst (λ (y : ScopeMark). block_fault ls round i y ≡ None) first
    (fault-none ns x ls round i both.0)
cut-none ns (x ∷ calls) (b ∷ before) after m ls round i e cut =
    let both = either-false (is_of_blocks x) (list_any is_of_blocks calls) e in
    let rest : marks_of ns calls ≡ before ++ m ∷ after = cc in
    cut-none ns calls before after m ls round i both.1 rest

-- without labels and successors no rule on labels is broken
pub first-unlabelled : (ns : List Name) (calls : List Call)
    → list_any is_of_blocks calls ≡ false
    → IsFirst (IsFaultBy (blocks_rule (marks_of ns calls)) (marks_of ns calls)) None
first-unlabelled ns calls e = λ f x.
    let none : blocks_rule (marks_of ns calls) x.before x.mark ≡ None =
    cut-none ns calls x.before x.after x.mark (bindings Labels (marks_of ns calls))
    (standing x.before).round (length (bindings Labels x.before)) e x.cut in
    let some : blocks_rule (marks_of ns calls) x.before x.mark ≡ Some f = x.is in
    absurd (cc)

-- and no block is meant
pub block_meanings-unlabelled : (ns : List Name) (calls : List Call)
    → list_any is_of_blocks calls ≡ false → block_meanings (marks_of ns calls) ≡ []
block_meanings-unlabelled ns calls e = along-none ns calls _ top e
