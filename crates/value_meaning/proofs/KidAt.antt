-- The kids of a form, by their numbers.
use Rattle.std.proofs.Common.{◌≡◌, refl, sym, ◌∙◌, ap, arith, ◌⊎◌, inl, inr, Bor, ℕ, zero, suc, ◌-◌, List, [], ◌∷◌, ◌++◌, map, length}
use Rattle.std.proofs.lemmas.List.{map-append}
use Rattle.std.proofs.lemmas.Option.{slice_get-map, slice_get-get_or, slice_get_past}
use Rattle.std.specs.Prelude.{slice_get, option_map}
use Rattle.std.specs.Slice.{IsItemAt}
use Rattle.std.specs.declared.option.Option.{Option}
use Rattle.std.specs.declared.option.Option.TheVariants.{Some, None}
use Rattle.generic_syntax.specs.declared.cst.EntryCst.{EntryCst, out-EntryCst}
use Rattle.generic_syntax.specs.declared.cst.ValueCst.{ValueCst}
use Rattle.generic_syntax.specs.declared.cst.ItemCst.{ItemCst}
use Rattle.generic_syntax.specs.declared.cst.ValueNode.{ValueNode}
use Rattle.generic_syntax.specs.declared.cst.ValueNode.TheVariants as variant
use Rattle.ir_lexer.specs.Spelling.{Text}
use Rattle.value_meaning.specs.Entered.{seen_values}
use Rattle.value_meaning.specs.KidsSeen.{kids_seen}
use Rattle.value_meaning.specs.Meaning.{Aliases, seen, entry_seen, seen_entry, seen_unit}
use Rattle.value_meaning.proofs.KidsOf.{kids-word, kids-type_alias, kids-attr_alias, kids-str}
use Rattle.value_meaning.proofs.KidsOf.{kids-symbol, kids-dense}
use Rattle.value_meaning.proofs.Trees.{seen-entry}

-- what is in the first of two lists, and in the second
get-first : {X : Type 0} (xs ys : List X) (i : ℕ) (x : X) → slice_get xs i ≡ Some x
    → slice_get (xs ++ ys) i ≡ Some x
get-first [] ys i x is = absurd (cc)
get-first (y ∷ xs) ys zero x is = is
get-first (y ∷ xs) ys (suc i) x is = get-first xs ys i x is

get-second : {X : Type 0} (xs ys : List X) (i : ℕ) → slice_get xs i ≡ None
    → slice_get (xs ++ ys) i ≡ slice_get ys (i - length xs)
get-second [] ys i none = ap (slice_get ys) (omega (arith))
get-second (y ∷ xs) ys zero none = absurd (cc)
get-second (y ∷ xs) ys (suc i) none =
    get-second xs ys i none ∙ ap (slice_get ys) (omega (arith))

-- what a slice lends is in its list, and where it lends nothing there is nothing
pub lent : {X : Type 0} (xs : List X) (i : ℕ) (x : Bor X) → IsItemAt xs i (Some x)
    → slice_get xs i ≡ Some x.now
lent xs i x it = slice_get-get_or xs i x.now it.3.0 ∙ ap Some (sym it.1)

pub not-lent : {X : Type 0} (xs : List X) (i : ℕ) → IsItemAt xs i None → slice_get xs i ≡ None
not-lent xs i it = slice_get_past xs i it.3

module _ (al : Aliases) (node : ValueNode) (i : ℕ) where
  -- ---- trees

  module _ (list : List ValueCst) (are : kids_seen al node ≡ map (seen al) list) where
    is-at : slice_get (kids_seen al node) i ≡ option_map (seen al) (slice_get list i)
    is-at = ap (λ l. slice_get l i) are ∙ slice_get-map (seen al) list i

    pub tree-at : (s : List ValueCst) → s ≡ list → (x : Bor ValueCst) → IsItemAt s i (Some x)
        → Some (seen al x.now) ≡ slice_get (kids_seen al node) i
    tree-at s same x it =
        sym (is-at ∙ ap (option_map (seen al)) (ap (λ l. slice_get l i) (sym same) ∙ lent s i x it))

    pub tree-past : (s : List ValueCst) → s ≡ list → IsItemAt s i None
        → None ≡ slice_get (kids_seen al node) i
    tree-past s same it =
        sym (is-at ∙ ap (option_map (seen al)) (ap (λ l. slice_get l i) (sym same) ∙ not-lent s i it))

  module _ (xs ys : List ValueCst)
      (are : kids_seen al node ≡ map (seen al) xs ++ map (seen al) ys)
      (s : List ValueCst) (same : s ≡ xs) where
    both-at : slice_get (kids_seen al node) i ≡ option_map (seen al) (slice_get (xs ++ ys) i)
    both-at = is-at (xs ++ ys) (are ∙ sym (map-append (seen al) xs ys))

    pub input-at : (x : Bor ValueCst) → IsItemAt s i (Some x)
        → Some (seen al x.now) ≡ slice_get (kids_seen al node) i
    input-at x it =
        sym (both-at ∙ ap (option_map (seen al)) (get-first xs ys i x.now
        (ap (λ l. slice_get l i) (sym same) ∙ lent s i x it)))

    module _ (none : IsItemAt s i None) (t : List ValueCst) (same_too : t ≡ ys) (k : ℕ)
        (many : k ≡ length xs) where
      behind : slice_get (xs ++ ys) i ≡ slice_get t (i - k)
      behind =
          get-second xs ys i (ap (λ l. slice_get l i) (sym same) ∙ not-lent s i none)
          ∙ ap (λ j. slice_get ys (i - j)) (sym many)
          ∙ ap (λ l. slice_get l (i - k)) (sym same_too)

      pub output-at : (x : Bor ValueCst) → IsItemAt t (i - k) (Some x)
          → Some (seen al x.now) ≡ slice_get (kids_seen al node) i
      output-at x it =
          sym (both-at ∙ ap (option_map (seen al)) (behind ∙ lent t (i - k) x it))

      pub output-past : IsItemAt t (i - k) None → None ≡ slice_get (kids_seen al node) i
      output-past it =
          sym (both-at ∙ ap (option_map (seen al)) (behind ∙ not-lent t (i - k) it))

  -- ---- entries

  module _ (es : List EntryCst) (are : kids_seen al node ≡ seen_values (map (entry_seen al) es))
      (s : List EntryCst) (same : s ≡ es) where
    entry-at : slice_get (kids_seen al node) i
        ≡ option_map (λ e. (entry_seen al e).seen) (slice_get s i)
    entry-at =
        ap (λ l. slice_get l i) are
        ∙ slice_get-map (λ e. e.seen) (map (entry_seen al) es) i
        ∙ ap (option_map (λ e. e.seen)) (slice_get-map (entry_seen al) es i)
        ∙ twice (slice_get es i)
        ∙ ap (λ l. option_map (λ e. (entry_seen al e).seen) (slice_get l i)) (sym same)
      where
        twice : (o : Option EntryCst)
            → option_map (λ e. e.seen) (option_map (entry_seen al) o)
            ≡ option_map (λ e. (entry_seen al e).seen) o
        twice None = refl
        twice (Some e) = refl

    pub entry-past : IsItemAt s i None → None ≡ slice_get (kids_seen al node) i
    entry-past it =
        sym (entry-at ∙ ap (option_map (λ e. (entry_seen al e).seen)) (not-lent s i it))

    module _ (e : Bor EntryCst) (it : IsItemAt s i (Some e)) where
      seen-at : slice_get (kids_seen al node) i ≡ Some (seen_entry (out-EntryCst e.now).place
          (out-EntryCst e.now).key (option_map (seen al) (out-EntryCst e.now).value)).seen
      seen-at = entry-at ∙ ap (option_map (λ d. (entry_seen al d).seen)) (lent s i e it)
          ∙ ap (λ d. Some d.seen) (seen-entry al e.now)

      pub value-at : (v : ValueCst) → (out-EntryCst e.now).value ≡ Some v
          → Some (seen al v) ≡ slice_get (kids_seen al node) i
      value-at v is = sym (seen-at ∙ ap (λ o. Some (seen_entry (out-EntryCst e.now).place
          (out-EntryCst e.now).key (option_map (seen al) o)).seen) is)

      pub unit-at : (out-EntryCst e.now).value ≡ None
          → Some (seen_unit (out-EntryCst e.now).place) ≡ slice_get (kids_seen al node) i
      unit-at is = sym (seen-at ∙ ap (λ o. Some (seen_entry (out-EntryCst e.now).place
          (out-EntryCst e.now).key (option_map (seen al) o)).seen) is)

-- ---- forms without kids

-- a form that has no kid
abbrev pub HasNoKids : ValueNode → Type 0
HasNoKids node =
    ((w : Text) × node ≡ variant.Word w)
    ⊎ ((w : Text) × node ≡ variant.TypeAlias w)
    ⊎ ((w : Text) × node ≡ variant.AttrAlias w)
    ⊎ ((w : Text) × node ≡ variant.Str w)
    ⊎ ((ws : List Text) × node ≡ variant.Symbol ws)
    ⊎ ((width : ℕ) × (items : List ItemCst) × node ≡ variant.Dense width items)

pub no-kids : (al : Aliases) (node : ValueNode) (i : ℕ) → HasNoKids node
    → None ≡ slice_get (kids_seen al node) i
no-kids al node i it = ap (λ l. slice_get l i) (sym (empty it))
  where
    empty : HasNoKids node → kids_seen al node ≡ []
    empty (inl (w, is)) = ap (kids_seen al) is ∙ kids-word al w
    empty (inr (inl (w, is))) = ap (kids_seen al) is ∙ kids-type_alias al w
    empty (inr (inr (inl (w, is)))) = ap (kids_seen al) is ∙ kids-attr_alias al w
    empty (inr (inr (inr (inl (w, is))))) = ap (kids_seen al) is ∙ kids-str al w
    empty (inr (inr (inr (inr (inl (ws, is)))))) = ap (kids_seen al) is ∙ kids-symbol al ws
    empty (inr (inr (inr (inr (inr (width, items, is)))))) =
        ap (kids_seen al) is ∙ kids-dense al width items
