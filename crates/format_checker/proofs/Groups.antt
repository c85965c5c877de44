-- The columns of a group fit its piece, since those of its elements fit theirs.
use Rattle.std.proofs.Common.{◌≡◌, ℕ, ◌+◌, Bool, true, false, ◌&&◌, ◌||◌, List, [], ◌∷◌, ◌++◌, Option, Some, None, refl, sym, ◌∙◌, ap, if◌then◌else◌}
use Rattle.ir_lexer.specs.Tokens.{Token}
use Rattle.grammar.specs.Grammar.{nullable, starts}
use Rattle.grammar.specs.Looks.{any}
use Rattle.grammar.specs.OneToken.{by_looks}
use Rattle.grammar.proofs.Meet.{any-append}
use Rattle.dialect_defs.specs.declared.definition.OpDef.{OpDef}
use Rattle.dialect_defs.specs.declared.format.Element.{Element}
use Rattle.format_checker.specs.declared.look.Look.{Look}
use Rattle.format_checker.specs.Columns.{kind_of, is_anchor, counts_empty, counts_starts, branch_empty, branch_starts}
use Rattle.format_checker.specs.Pieces.{inner_looks, piece, branch}
use Rattle.format_checker.specs.Fits.{demand, looks, AnchorFits, FitsGroup}
use Rattle.format_checker.proofs.Fitting.{fits}

-- the demands of two columns
looks-both : (ls ms : List Look) → looks (ls ++ ms) ≡ looks ls ++ looks ms
looks-both [] ms = refl
looks-both (l ∷ ls) ms = ap (λ x. demand l ∷ x) (looks-both ls ms)

pub any-both : (ls ms : List Look) (t : Token)
    → any (looks (ls ++ ms)) t ≡ (any (looks ls) t || any (looks ms) t)
any-both ls ms t =
    ap (λ x. any x t) (looks-both ls ms) ∙ any-append (looks ls) (looks ms) t

module _ (op : OpDef) (anchor : Option ℕ) where
  pub branch-null : (i : ℕ) (es : List Element) → AnchorFits anchor i es
      → nullable (branch op anchor i es) ≡ branch_empty op anchor i es
  branch-null i [] good = refl
  branch-null i (e ∷ es) good =
      let own = fits op (is_anchor anchor i) (kind_of e) good.0 in
      ap (λ b. b && nullable (branch op anchor (i + 1) es)) own.empty
      ∙ ap (λ b. counts_empty op (is_anchor anchor i) (kind_of e) && b)
      (branch-null (i + 1) es good.1)

  later : (b : Bool) (ls : List Look) (t : Token)
      → (b && any (looks ls) t) ≡ any (looks (if b then ls else [])) t
  later true ls t = refl
  later false ls t = refl

  pub branch-begins : (i : ℕ) (es : List Element) (t : Token) → AnchorFits anchor i es
      → starts (by_looks inner_looks) (branch op anchor i es) t
      ≡ any (looks (branch_starts op anchor i es)) t
  branch-begins i [] t good = refl
  branch-begins i (e ∷ es) t good =
      let k = kind_of e in
      let a = is_anchor anchor i in
      let own = fits op a k good.0 in
      let more = branch_starts op anchor (i + 1) es in
      ap (λ b. b || (nullable (piece op a k)
      && starts (by_looks inner_looks) (branch op anchor (i + 1) es) t)) (own.begins t)
      ∙ ap (λ b. any (looks (counts_starts op a k)) t
      || (b && starts (by_looks inner_looks) (branch op anchor (i + 1) es) t)) own.empty
      ∙ ap (λ b. any (looks (counts_starts op a k)) t || (counts_empty op a k && b))
      (branch-begins (i + 1) es t good.1)
      ∙ ap (λ b. any (looks (counts_starts op a k)) t || b) (later (counts_empty op a k) more t)
      ∙ sym (any-both (counts_starts op a k) (if counts_empty op a k then more else []) t)

-- where nothing is the anchor, there is nothing to ask of it
pub no-anchor : (i : ℕ) (es : List Element) → AnchorFits None i es
no-anchor i [] = tt
no-anchor i (e ∷ es) = (λ h. absurd (cc), no-anchor (i + 1) es)

pub group-fits : (op : OpDef) (first otherwise : List Element) (anchor : ℕ)
    → AnchorFits (Some anchor) 0 first → branch_empty op (Some anchor) 0 first ≡ false
    → FitsGroup op first otherwise anchor
group-fits op first otherwise anchor good full = record {
  empty = ap (λ b. b || nullable (branch op None 0 otherwise))
      (branch-null op (Some anchor) 0 first good ∙ full)
      ∙ branch-null op None 0 otherwise (no-anchor 0 otherwise);
  begins = λ t.
      ap (λ b. b || starts (by_looks inner_looks) (branch op None 0 otherwise) t)
      (branch-begins op (Some anchor) 0 first t good)
      ∙ ap (λ b. any (looks (branch_starts op (Some anchor) 0 first)) t || b)
      (branch-begins op None 0 otherwise t (no-anchor 0 otherwise))
      ∙ sym (any-both (branch_starts op (Some anchor) 0 first)
      (branch_starts op None 0 otherwise) t);
}
