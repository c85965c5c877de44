-- What the parts of a generic form say: uses and successors mean their numbers, types and
-- attributes are spelled, and keys differ.
use Rattle.std.proofs.Common.{◌≡◌, ℕ, ◌+◌, Bool, true, false, List, [], ◌∷◌, map, refl, sym, ◌∙◌}
use Rattle.std.proofs.Common.{ap, subst, Option, Some, None, option_map, option_and_then, bytes_eq}
use Rattle.std.proofs.Common.{if◌then◌else◌, arith}
use Rattle.std.proofs.lemmas.Slice.Eq.{bytes_eq-Decides}
use Rattle.std.specs.List.{AllByRecursion, AllZip, IsDistinct}
use Rattle.attr_value.specs.Heads.{text_lt, Ascend}
use Rattle.attr_value.specs.Values.{Value}
use Rattle.dialect_defs.specs.Operations.{Attrs, attr_at}
use Rattle.generic_syntax.specs.declared.cst.EntryCst.{EntryCst, out-EntryCst}
use Rattle.generic_syntax.specs.declared.cst.NameCst.{NameCst}
use Rattle.generic_syntax.specs.declared.module_cst.ResultCst.{ResultCst}
use Rattle.generic_syntax.specs.declared.module_cst.UseCst.{UseCst}
use Rattle.ir_lexer.specs.Spelling.{Text}
use Rattle.module_meaning.specs.AliasValues.{no_aliases}
use Rattle.module_meaning.specs.Completes.{IsPack}
use Rattle.module_meaning.specs.Names.{Env, used, in_pack, target, pack_size, result_number}
use Rattle.module_meaning.specs.Says.{seen_in, keys_in}
use Rattle.module_meaning.proofs.Attributes.{Above, ascend-rest}
use Rattle.module_meaning.proofs.Places.{some-same}
use Rattle.module_text.proofs.Numbers.{value_key, block_key}
use Rattle.module_text.proofs.Parts.{IsUse, IsTarget, IsResult}
use Rattle.module_text.proofs.Values.{EntryIs}
use Rattle.symbol_scopes.specs.Regions.{found, looked}
use Rattle.value_meaning.specs.Meaning.{entry_seen}
use Rattle.value_meaning.proofs.Entering.{key-seen}
use Rattle.value_meaning.proofs.TextOrder.{lt-itself}

-- ---- lists

-- lists are the same, mapped, where their items are
pub mapped-alike : {A B C : Type 0} (f : A → C) (g : B → C) (xs : List A) (ys : List B)
    → AllZip (λ x y. f x ≡ g y) xs ys → map f xs ≡ map g ys
mapped-alike f g [] [] h = refl
mapped-alike f g (x ∷ xs) (y ∷ ys) (e, h) =
    let rest : map f xs ≡ map g ys = mapped-alike f g xs ys h in cc
mapped-alike f g [] (y ∷ ys) h = absurd h
mapped-alike f g (x ∷ xs) [] h = absurd h

-- a relation of two lists gives another, where something holds of the items of the second
pub zip-with : {A B : Type 0} (R S : A → B → Type 0) (Q : B → Type 0)
    → ((a : A) (b : B) → R a b → Q b → S a b) → (xs : List A) (ys : List B) → AllZip R xs ys
    → AllByRecursion Q ys → AllZip S xs ys
zip-with R S Q f [] [] h q = tt
zip-with R S Q f (x ∷ xs) (y ∷ ys) (r, h) (p, q) = (f x y r p, zip-with R S Q f xs ys h q)
zip-with R S Q f [] (y ∷ ys) h q = absurd h
zip-with R S Q f (x ∷ xs) [] h q = absurd h

-- ---- names

-- a use of a name that means a value
use-means : (env : Env) (u : UseCst) (i : ℕ) → IsUse u i
    → looked env.scopes (value_key i) ≡ Some (i, 1) → used env u ≡ Some i
use-means env u i (p, q) h =
    let none : i + 0 ≡ i = omega arith in
    ap (λ o. option_and_then (in_pack (result_number o)) (looked env.scopes u.name)) q
    ∙ ap (λ w. option_and_then (in_pack 0) (looked env.scopes w)) p
    ∙ ap (option_and_then (in_pack 0)) h ∙ ap (λ (k : ℕ). Some k) none

-- uses mean their values
pub uses-mean : (env : Env) (us : List UseCst) (ns : List ℕ) → AllZip IsUse us ns
    → AllByRecursion (λ i. looked env.scopes (value_key i) ≡ Some (i, 1)) ns
    → map (used env) us ≡ map Some ns
uses-mean env us ns h q = mapped-alike (used env) Some us ns
    (zip-with IsUse (λ u i. used env u ≡ Some i)
    (λ i. looked env.scopes (value_key i) ≡ Some (i, 1)) (use-means env) us ns h q)

-- a successor whose label is that of a block
target-means : (env : Env) (s : NameCst) (k : ℕ) → IsTarget s k
    → found env.labels (block_key k) ≡ Some (k, k) → target env s ≡ Some k
target-means env s k p h =
    ap (λ w. option_map (λ (label : ℕ × ℕ). label.1) (found env.labels w)) p
    ∙ ap (option_map (λ (label : ℕ × ℕ). label.1)) h

-- successors lead to their blocks
pub targets-mean : (env : Env) (ss : List NameCst) (ks : List ℕ) → AllZip IsTarget ss ks
    → AllByRecursion (λ k. found env.labels (block_key k) ≡ Some (k, k)) ks
    → map (target env) ss ≡ map Some ks
targets-mean env ss ks h q = mapped-alike (target env) Some ss ks
    (zip-with IsTarget (λ s k. target env s ≡ Some k)
    (λ k. found env.labels (block_key k) ≡ Some (k, k)) (target-means env) ss ks h q)

-- each name of a result is a pack of one
pub packs-right : (rs : List ResultCst) (ns : List ℕ) → AllZip IsResult rs ns
    → AllByRecursion IsPack rs
packs-right [] [] h = tt
packs-right (r ∷ rs) (n ∷ ns) ((p, q), h) =
    let one : pack_size r.pack ≡ 1 = ap pack_size q in (omega arith, packs-right rs ns h)
packs-right [] (n ∷ ns) h = absurd h
packs-right (r ∷ rs) [] h = absurd h

-- ---- attributes

-- the key and the value of an entry
entry-parts : (e : EntryCst) (kv : Text × Value) → EntryIs e kv
    → ((out-EntryCst e).key ≡ kv.0) × ((entry_seen no_aliases e).seen.value ≡ Some kv.1)
entry-parts e kv h = go (entry_seen no_aliases e).seen.value refl h
  where
    go : (o : Option Value) → (entry_seen no_aliases e).seen.value ≡ o
        → option_map (λ v. ((entry_seen no_aliases e).key, v)) o ≡ Some kv
        → ((out-EntryCst e).key ≡ kv.0) × ((entry_seen no_aliases e).seen.value ≡ Some kv.1)
    go None is h = absurd (cc)
    go (Some v) is h =
        let same : ((entry_seen no_aliases e).key, v) ≡ kv = some-same _ kv h in
        let key : (entry_seen no_aliases e).key ≡ kv.0 = ap (λ (x : Text × Value). x.0) same in
        let value : v ≡ kv.1 = ap (λ (x : Text × Value). x.1) same in
        (sym (key-seen no_aliases e).0 ∙ key, is ∙ ap (λ (x : Value). Some x) value)

-- attributes with their values there
abbrev there : Text × Value → Text × Option Value
there a = (a.0, Some a.1)

abbrev keyed : Text → Option Value → Text × Option Value
keyed k v = (k, v)

pair-same : (k j : Text) (v w : Option Value) → k ≡ j → v ≡ w → keyed k v ≡ keyed j w
pair-same k j v w e f = ap (λ a. keyed a v) e ∙ ap (keyed j) f

-- entries are seen as the attributes
entries-seen : (es : List EntryCst) (attrs : Attrs) → AllZip EntryIs es attrs
    → seen_in no_aliases es ≡ map there attrs
entries-seen [] [] h = refl
entries-seen (e ∷ es) (a ∷ attrs) (p, h) =
    let parts = entry-parts e a p in
    let first : keyed (out-EntryCst e).key (entry_seen no_aliases e).seen.value ≡ there a =
    pair-same _ _ _ _ parts.0 parts.1 in
    let rest : seen_in no_aliases es ≡ map there attrs = entries-seen es attrs h in
    ap (λ x. x ∷ seen_in no_aliases es) first ∙ ap (λ l. there a ∷ l) rest
entries-seen [] (a ∷ attrs) h = absurd h
entries-seen (e ∷ es) [] h = absurd h

at-there : (attrs : Attrs) (key : Text)
    → attr_at (map there attrs) key ≡ option_map Some (attr_at attrs key)
at-there [] key = refl
at-there (a ∷ attrs) key = go (bytes_eq a.0 key) (at-there attrs key)
  where
    go : (b : Bool) → attr_at (map there attrs) key ≡ option_map Some (attr_at attrs key)
        → (if b then Some (Some a.1) else attr_at (map there attrs) key)
        ≡ option_map Some (if b then Some a.1 else attr_at attrs key)
    go true rest = refl
    go false rest = rest

-- each key has the attribute that its entry spells
pub attrs-said : (es : List EntryCst) (attrs : Attrs) → AllZip EntryIs es attrs → (key : Text)
    → attr_at (seen_in no_aliases es) key ≡ option_map Some (attr_at attrs key)
attrs-said es attrs h key =
    ap (λ (l : List (Text × Option Value)). attr_at l key) (entries-seen es attrs h)
    ∙ at-there attrs key

-- the keys of entries are those of the attributes
pub keys-said : (es : List EntryCst) (attrs : Attrs) → AllZip EntryIs es attrs
    → keys_in es ≡ map (λ (a : Text × Value). a.0) attrs
keys-said [] [] h = refl
keys-said (e ∷ es) (a ∷ attrs) (p, h) =
    let first : (out-EntryCst e).key ≡ a.0 = (entry-parts e a p).0 in
    let rest : keys_in es ≡ map (λ (a : Text × Value). a.0) attrs = keys-said es attrs h in
    ap (λ k. k ∷ keys_in es) first ∙ ap (λ l. a.0 ∷ l) rest
keys-said [] (a ∷ attrs) h = absurd h
keys-said (e ∷ es) [] h = absurd h

-- a text differs from those that stand behind it
above-apart : (k : Text) (ks : List Text) → Above k ks
    → AllByRecursion (λ j. bytes_eq k j ≡ false) ks
above-apart k [] h = tt
above-apart k (j ∷ ks) (less, h) = (go (bytes_eq k j) refl, above-apart k ks h)
  where
    go : (b : Bool) → bytes_eq k j ≡ b → bytes_eq k j ≡ false
    go true e =
        let same : k ≡ j = (bytes_eq-Decides k j).0 e in
        let itself : text_lt k k ≡ true =
        subst (λ (i : Text). text_lt k i ≡ true) (sym same) less in
        let never : text_lt k k ≡ false = lt-itself k in
        absurd (cc)
    go false e = e

-- keys that ascend differ
pub ascend-distinct : (ks : List Text) → Ascend ks → IsDistinct bytes_eq ks
unfolding IsDistinct
ascend-distinct [] h = tt
ascend-distinct (k ∷ ks) h =
    let (above, rest) = ascend-rest k ks h in (above-apart k ks above, ascend-distinct ks rest)
