-- The tokens with which entries begin, and what a token that was taken stands for.
use Rattle.std.proofs.Common.{◌≡◌, Bool, true, false, not, ◌&&◌, ◌||◌, codes, bytes_eq, [], ◌∷◌, Ok, if◌then◌else◌, refl, sym, ◌∙◌, ap}
use Rattle.ir_lexer.specs.declared.class.Class.TheVariants.{Word, ValueName}
use Rattle.ir_lexer.specs.Classes.{same_class}
use Rattle.ir_lexer.specs.Source.{Source}
use Rattle.ir_lexer.specs.Tokens.{Token}
use Rattle.grammar.specs.Grammar.{Tokens, done, stop, read_tok}
use Rattle.grammar.specs.Looks.{any_of, word, other_word, passes}
use Rattle.grammar.specs.Ran.{Took}
use Rattle.irdl_ops.specs.Entries.{arity_words, named_entry, entry}
use Rattle.irdl_ops.specs.Forms.{Begins}

-- an entry of parameters or regions begins with a value name or a word, and with nothing else
pub named-entry-begins : (t : Token)
    → Begins named_entry t ≡ (passes (any_of ValueName) t || passes (any_of Word) t)
named-entry-begins t = go (passes (any_of ValueName) t) (passes (any_of Word) t)
  where
    go : (value name : Bool) → (value || (name || false)) ≡ (value || name)
    go true name = refl
    go false true = refl
    go false false = refl

-- and so does an entry of operands or results: any word is one of an arity, or another one
pub entry-begins : (t : Token)
    → Begins entry t ≡ (passes (any_of ValueName) t || passes (any_of Word) t)
entry-begins t =
    go (passes (any_of ValueName) t) (same_class t.class Word) (bytes_eq t.text (codes "single"))
    (bytes_eq t.text (codes "optional")) (bytes_eq t.text (codes "variadic"))
  where
    go : (value name s o v : Bool)
        → (value || (((name && s) || false) || (((name && o) || false) || (((name && v) || false)
        || ((name && not (s || (o || (v || false)))) || false)))))
        ≡ (value || (name && true))
    go true name s o v = refl
    go false false s o v = refl
    go false true true o v = refl
    go false true false true v = refl
    go false true false false true = refl
    go false true false false false = refl

-- a word that says no arity is any other word
pub other-as : (t : Token) → passes (word (codes "single")) t ≡ false
    → passes (word (codes "optional")) t ≡ false → passes (word (codes "variadic")) t ≡ false
    → passes (any_of Word) t ≡ passes (other_word arity_words) t
other-as t s o v =
    go (same_class t.class Word) (bytes_eq t.text (codes "single"))
    (bytes_eq t.text (codes "optional")) (bytes_eq t.text (codes "variadic")) s o v
  where
    go : (name s o v : Bool) → (name && s) ≡ false → (name && o) ≡ false → (name && v) ≡ false
        → (name && true) ≡ (name && not (s || (o || (v || false))))
    go false s o v x y z = refl
    go true true o v x y z = absurd (cc)
    go true false true v x y z = absurd (cc)
    go true false false true x y z = absurd (cc)
    go true false false false x y z = refl

-- a token that was taken stands for what it says
pub took-tree : {A : Type 0} (test : Token → Bool) (f : Token → A) (a : A) (s s' : Source)
    → Took test f s (Ok a) s' → a ≡ f s.now
took-tree {A = A} test f a s s' x =
    let first = x.ran.went.gone.begins [] in
    go (test s.now) first.0 (ap (read_tok false test f) (sym first.1) ∙ x.ran.went.reads [])
  where
    go : (b : Bool) (ts : Tokens) {rest : Tokens}
        → (if b then done (f s.now) ts else stop false (s.now ∷ ts)) ≡ done a rest → a ≡ f s.now
    go true ts e = cc
    go false ts e = absurd (cc)
