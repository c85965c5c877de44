-- Numbers, truth values and dense arrays are read as they are written.
use Rattle.std.proofs.Common.{◌≡◌, ℕ, suc, ◌<◌, ◌^◌, ◌==◌, Bool, true, false, List, [], ◌∷◌, ◌++◌, map, refl, sym, ◌∙◌, ap, subst, Option, Some, None, cond, option_map, codes, inl, inr, ◌⊎◌, arith, ℤ, pos, negsuc, neg_ℤ, nat_abs, bytes_eq, decimal}
use Rattle.std.proofs.lemmas.Bool.{eqb-true}
use Rattle.std.proofs.lemmas.Slice.Eq.{bytes_eq-Decides}
use Rattle.std.specs.Fmt.{digits}
use Rattle.std.specs.List.{AllByRecursion, AllZip}
use Rattle.attr_value.specs.declared.head.Head.TheVariants as h
use Rattle.attr_value.specs.declared.kind.IntKind.{IntKind}
use Rattle.attr_value.specs.declared.kind.IntKind.TheVariants.{Index, Signless, Signed, Unsigned}
use Rattle.attr_value.specs.Heads.{IsDenseWidth, IsIntType, IsTypeWidth}
use Rattle.attr_value.specs.Numbers.{IsKept}
use Rattle.generic_syntax.specs.declared.cst.ItemCst.{ItemCst}
use Rattle.generic_syntax.specs.declared.cst.ValueCst.{ValueCst}
use Rattle.generic_syntax.specs.declared.cst.ValueNode.TheVariants as node
use Rattle.generic_syntax.specs.Values as syntax
use Rattle.grammar.specs.Looks.{any_of, all_digits, is_among}
use Rattle.ir_lexer.specs.declared.class.Class.TheVariants as c
use Rattle.ir_lexer.specs.Spelling.{Text}
use Rattle.text_layout.proofs.Gives.{token_at, gives-ret, gives-tok, gives-both, gives-left, gives-right, gives-made, gives-placed, gives-same}
use Rattle.text_layout.proofs.Tidy.{tidy-token}
use Rattle.value_meaning.specs.Meaning.{Aliases, leaf}
use Rattle.value_meaning.specs.Spelled.{signed_number, residue, number_head, dense_item, looked_up, truths, all_some}
use Rattle.derived_printer.specs.Spelling.{int_text, is_truth_kind, truth_text}
use Rattle.derived_printer.specs.ValueMarks.{a_sign, a_word, commas, number_marks, item_marks, unless_empty}
use Rattle.derived_printer.proofs.Attributes.{attr-word-given}
use Rattle.derived_printer.proofs.Decimals.{wide, decimal-digits, decimal-back}
use Rattle.derived_printer.proofs.Numbers.{kept-small, kept-again, kept-bit, number-width}
use Rattle.derived_printer.proofs.Pieces.{given-angles, given-one-of}
use Rattle.derived_printer.proofs.Readable.{GivesAt, HasValue, FormHas, Readable, attr-readable, form-placed}
use Rattle.derived_printer.proofs.Signs.{pass-any, given-sign, given-word, given-before, given-some}
use Rattle.derived_printer.proofs.Spelled.{sign-spelled, word-spelled, decimal-spelled}
use Rattle.derived_printer.proofs.Nesting.{within}
use Rattle.derived_printer.proofs.Trees.{node_value, of-number, of-dense}
use Rattle.derived_printer.proofs.Types.{type-word-given}
use Rattle.derived_printer.proofs.Words.{int-word, true-head, false-head}

-- digits are neither `true` nor `false`
no-truth : (t : Text) → all_digits t ≡ true → looked_up truths t ≡ None
no-truth t e = rw (differs (codes "true") refl, differs (codes "false") refl) refl
  where
    differs : (w : Text) → all_digits w ≡ false → bytes_eq w t ≡ false
    differs w f = go (bytes_eq w t) refl
      where
        go : (p : Bool) → bytes_eq w t ≡ p → p ≡ false
        go true g = let k : all_digits w ≡ true = ap all_digits ((bytes_eq-Decides w t).0 g) ∙ e in
            absurd (cc)
        go false g = refl

module _ (al : Aliases) (room : ℕ) where
  -- ---- a number alone

  -- the digits spell the number
  abbrev Spells_number : ℤ → Bool × Text → Type 0
  Spells_number n x = (signed_number x.0 x.1 ≡ n) × (all_digits x.1 ≡ true)

  -- a number alone is read as it
  pub signed-given : (n : ℤ) → nat_abs n < 2 ^ 64
      → GivesAt room syntax.signed (number_marks n) (Spells_number n)
  signed-given (pos n) small =
      gives-both {P = λ b. b ≡ false} {Q = λ w. w ≡ decimal n} (gives-right (gives-ret false refl))
      (gives-tok false refl (any_of c.Integer) (λ t. t.text) c.Integer (decimal n)
      (tidy-token c.Integer (decimal n) (decimal-spelled n (wide n small)) refl)
      (λ place. pass-any c.Integer (decimal n) place) (λ place. refl))
      (λ b w p q. rw (p, q) (ap pos (decimal-back n small), decimal-digits n small))
  signed-given (negsuc n) small = record {
    tidy = record {
      spelled = (sign-spelled c.Minus refl, (decimal-spelled (suc n) (wide (suc n) small), tt));
      apart = refl;
      first = refl;
      last = refl;
    };
    tree = λ ts (p1, r1, e1, (p2, r2, e2, e3)). let t1 = token_at c.Minus (codes "-") p1 in
        let t2 = token_at c.Integer (decimal (suc n)) p2 in
        let is : ts ≡ (t1 ∷ []) ++ (t2 ∷ []) = cc in (
          (true, decimal (suc n)),
          (
            t1 ∷ [],
            t2 ∷ [],
            true,
            decimal (suc n),
            is,
            inl (tt, (t1, refl, pass-any c.Minus (codes "-") p1, refl, refl), refl),
            (t2, refl, pass-any c.Integer (decimal (suc n)) p2, refl, refl),
            refl,
          ),
          (ap (λ k. neg_ℤ (pos k)) (decimal-back (suc n) small), decimal-digits (suc n) small),
        );
  }

  -- ---- numbers with their type

  -- the type behind a number has this kind
  abbrev HasKind : IntKind → Option ValueCst → Type 0
  HasKind kind o = (t : ValueCst) × (o ≡ Some t) × HasValue al t (leaf (h.Int kind))

  number-value : (kind : IntKind) (n : ℤ) → residue kind n ≡ Some n
      → (negative : Bool) (w : Text) (o : Option ValueCst) → signed_number negative w ≡ n
      → HasKind kind o → FormHas al (leaf (h.Number kind n)) (node.Number negative w o)
  number-value kind n k negative w o s (t, e, v) =
      ap (λ o. node_value al (node.Number negative w o)) e ∙ of-number al negative w t
      ∙ ap (λ v. option_map leaf (number_head negative w (Some v))) v
      ∙ ap (λ m. option_map leaf (option_map (λ n. h.Number kind n) (residue kind m))) s
      ∙ ap (λ r. option_map leaf (option_map (λ n. h.Number kind n) r)) k

  type-behind-given : (kind : IntKind) → IsIntType kind
      → GivesAt room syntax.type_behind (a_sign c.Colon ++ a_word (int_text kind)) (HasKind kind)
  type-behind-given kind w = gives-left (gives-made (given-before (given-sign refl)
      (form-placed al room
      (gives-left (type-word-given al room (int_text kind) (h.Int kind) (int-word kind w)))))
      (λ t q. (t, refl, q)))

  plain-number-readable : (kind : IntKind) (n : ℤ) → is_truth_kind kind ≡ false → IsIntType kind
      → IsKept kind n → Readable al (suc room) (leaf (h.Number kind n))
  plain-number-readable kind n no_truth w k = attr-readable al room (leaf (h.Number kind n)) refl
      (λ e. absurd (cc))
      (gives-right (gives-right (gives-right (gives-left
      (gives-same (sym
      (ap (λ b. cond b (a_word (truth_text n))
      (number_marks n ++ (a_sign c.Colon ++ a_word (int_text kind)))) no_truth))
      (gives-made (gives-both {R = λ x. Spells_number n x.0 × HasKind kind x.1}
      (signed-given n (kept-small kind n k)) (type-behind-given kind w) (λ x o p q. (p, q)))
      (λ x q. number-value kind n (kept-again kind n k) x.0.0 x.0.1 x.1 q.0.0 q.1)))))))

  truth-readable : (n : ℤ) → (n ≡ pos 0) ⊎ (n ≡ negsuc 0)
      → Readable al (suc room) (leaf (h.Number (Signless 1) n))
  truth-readable n (inl e) =
      subst (λ (n : ℤ). Readable al (suc room) (leaf (h.Number (Signless 1) n))) (sym e)
      (attr-readable al room (leaf (h.Number (Signless 1) (pos 0))) refl (λ e. absurd (cc))
      (attr-word-given al room (codes "false") _ (word-spelled (codes "false") refl) refl
      false-head))
  truth-readable n (inr e) =
      subst (λ (n : ℤ). Readable al (suc room) (leaf (h.Number (Signless 1) n))) (sym e)
      (attr-readable al room (leaf (h.Number (Signless 1) (negsuc 0))) refl (λ e. absurd (cc))
      (attr-word-given al room (codes "true") _ (word-spelled (codes "true") refl) refl true-head))

  signless-readable : (b : Bool) (w : ℕ) (n : ℤ) → (w == 1) ≡ b → IsKept (Signless w) n
      → Readable al (suc room) (leaf (h.Number (Signless w) n))
  signless-readable true w n e k = let one : w ≡ 1 = eqb-true w 1 e in
      subst (λ (w : ℕ). Readable al (suc room) (leaf (h.Number (Signless w) n))) (sym one)
      (truth-readable n (kept-bit n (subst (λ (w : ℕ). IsKept (Signless w) n) one k)))
  signless-readable false w n e k = plain-number-readable (Signless w) n e (number-width w k.0) k

  -- numbers, and truth values among them
  pub number-readable : (kind : IntKind) (n : ℤ) → IsKept kind n
      → Readable al (suc room) (leaf (h.Number kind n))
  number-readable Index n k = plain-number-readable Index n refl tt k
  number-readable (Signless w) n k = signless-readable (w == 1) w n refl k
  number-readable (Signed w) n k = plain-number-readable (Signed w) n refl (number-width w k.0) k
  number-readable (Unsigned w) n k = plain-number-readable (Unsigned w) n refl (number-width w k.0)
      k

  -- ---- items of dense arrays

  -- the item keeps the number
  abbrev Keeps : ℕ → ItemCst → ℤ → Type 0
  Keeps width i n = dense_item width i ≡ Some n

  truth-item-given : (n : ℤ) → (n ≡ pos 0) ⊎ (n ≡ negsuc 0)
      → GivesAt room syntax.item (a_word (truth_text n)) (λ i. Keeps 1 i n)
  truth-item-given n (inl e) =
      subst (λ (n : ℤ). GivesAt room syntax.item (a_word (truth_text n)) (λ i. Keeps 1 i n)) (sym e)
      (gives-placed (gives-left (gives-made {Q = λ x. x.1 ≡ codes "false"}
      (given-one-of (codes "true") (codes "false" ∷ []) (codes "false")
      (word-spelled (codes "false") refl) refl) (λ w q. q)))
      (λ place x q. rw q refl))
  truth-item-given n (inr e) =
      subst (λ (n : ℤ). GivesAt room syntax.item (a_word (truth_text n)) (λ i. Keeps 1 i n)) (sym e)
      (gives-placed (gives-left (gives-made {Q = λ x. x.1 ≡ codes "true"}
      (given-one-of (codes "true") (codes "false" ∷ []) (codes "true")
      (word-spelled (codes "true") refl) refl) (λ w q. q)))
      (λ place x q. rw q refl))

  number-item-given : (width : ℕ) (n : ℤ) → (width == 1) ≡ false → IsKept (Signless width) n
      → GivesAt room syntax.item (number_marks n) (λ i. Keeps width i n)
  number-item-given width n e k =
      gives-placed (gives-right (signed-given n (kept-small (Signless width) n k)))
      (λ place x q. rw (e, no-truth x.1 q.1)
      (ap (residue (Signless width)) q.0 ∙ kept-again (Signless width) n k))

  item-given : (width : ℕ) (n : ℤ) → IsKept (Signless width) n
      → GivesAt room syntax.item (item_marks width n) (λ i. Keeps width i n)
  item-given width n k = go (width == 1) refl
    where
      go : (b : Bool) → (width == 1) ≡ b
          → GivesAt room syntax.item (cond b (a_word (truth_text n)) (number_marks n))
          (λ i. Keeps width i n)
      go true e = let one : width ≡ 1 = eqb-true width 1 e in
          subst (λ (w : ℕ). GivesAt room syntax.item (a_word (truth_text n)) (λ i. Keeps w i n))
          (sym one)
          (truth-item-given n (kept-bit n (subst (λ (w : ℕ). IsKept (Signless w) n) one k)))
      go false e = number-item-given width n e k

  each-item : (width : ℕ) (ns : List ℤ) → AllByRecursion (IsKept (Signless width)) ns
      → AllByRecursion (λ n. GivesAt room syntax.item (item_marks width n) (λ i. Keeps width i n))
      ns
  each-item width [] h = tt
  each-item width (n ∷ ns) (k, h) = (item-given width n k, each-item width ns h)

  all-kept : (width : ℕ) (is : List ItemCst) (ns : List ℤ) → AllZip (Keeps width) is ns
      → all_some (map (dense_item width) is) ≡ Some ns
  all-kept width [] [] q = refl
  all-kept width (i ∷ is) (n ∷ ns) (p, q) = rw (p, all-kept width is ns q) refl
  all-kept width [] (n ∷ ns) q = absurd q
  all-kept width (i ∷ is) [] q = absurd q

  items-given : (width : ℕ) (ns : List ℤ) → AllByRecursion (IsKept (Signless width)) ns
      → GivesAt room syntax.items_behind
      (unless_empty ns (a_sign c.Colon ++ commas (map (item_marks width) ns)))
      (λ is. AllZip (Keeps width) is ns)
  items-given width [] h = gives-right (gives-ret [] tt)
  items-given width (n ∷ ns) h = let x = each-item width (n ∷ ns) h in
      gives-left (given-before (given-sign refl)
      (given-some (within room) (room == 0) syntax.item (item_marks width) (Keeps width) n ns x.0
      x.1))

  -- ---- dense arrays

  width-readable : (width : ℕ) (ns : List ℤ) → IsTypeWidth width
      → is_among (codes "i1" ∷ syntax.dense_widths) (int_text (Signless width)) ≡ true
      → syntax.width_in (int_text (Signless width)) ≡ width
      → AllByRecursion (IsKept (Signless width)) ns
      → Readable al (suc room) (leaf (h.Dense width ns))
  width-readable width ns w among is all = attr-readable al room (leaf (h.Dense width ns)) refl
      (λ e. absurd (cc))
      (gives-right
      (gives-right (gives-right (gives-right (gives-right (gives-right (gives-right (gives-right
      (gives-made (given-before (given-word (codes "array") (word-spelled (codes "array") refl))
      (given-angles
      (gives-both {R = λ x. (x.0 ≡ width) × AllZip (Keeps width) x.1 ns}
      (gives-made {Q = λ k. k ≡ width}
      (given-one-of (codes "i1") syntax.dense_widths (int_text (Signless width))
      (int-word (Signless width) w).spelled among) (λ t e. ap syntax.width_in e ∙ is))
      (items-given width ns all) (λ k is p q. (p, q)))))
      (λ x q. of-dense al x.0 x.1
      ∙ ap (λ k. option_map (λ ns. leaf (h.Dense k ns)) (all_some (map (dense_item k) x.1))) q.0
      ∙ ap (option_map (λ ns. leaf (h.Dense width ns))) (all-kept width x.1 ns q.1)))))))))))

  pub dense-readable : (width : ℕ) (ns : List ℤ) → IsDenseWidth width
      → AllByRecursion (IsKept (Signless width)) ns
      → Readable al (suc room) (leaf (h.Dense width ns))
  unfolding int_text digits
  dense-readable width ns five all = go five all
    where
      at : (k : ℕ) → width ≡ k
          → (AllByRecursion (IsKept (Signless k)) ns → Readable al (suc room) (leaf (h.Dense k ns)))
          → AllByRecursion (IsKept (Signless width)) ns
          → Readable al (suc room) (leaf (h.Dense width ns))
      at k e f all = subst (λ (w : ℕ). Readable al (suc room) (leaf (h.Dense w ns))) (sym e)
          (f (subst (λ (w : ℕ). AllByRecursion (IsKept (Signless w)) ns) e all))

      go : IsDenseWidth width → AllByRecursion (IsKept (Signless width)) ns
          → Readable al (suc room) (leaf (h.Dense width ns))
      go (inl e) all = at 1 e (width-readable 1 ns (omega arith, omega arith) refl refl) all
      go (inr (inl e)) all = at 8 e (width-readable 8 ns (omega arith, omega arith) refl refl) all
      go (inr (inr (inl e))) all =
          at 16 e (width-readable 16 ns (omega arith, omega arith) refl refl) all
      go (inr (inr (inr (inl e)))) all =
          at 32 e (width-readable 32 ns (omega arith, omega arith) refl refl) all
      go (inr (inr (inr (inr e)))) all =
          at 64 e (width-readable 64 ns (omega arith, omega arith) refl refl) all
