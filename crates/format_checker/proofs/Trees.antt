-- The tokens of a format that one token decides have one tree.
use Rattle.std.proofs.Common.{◌≡◌, Bool, true, List, [], ◌∷◌, ◌++◌}
use Rattle.ir_lexer.specs.Tokens.{Token}
use Rattle.grammar.specs.Grammar.{Tokens}
use Rattle.grammar.specs.Looks.{any}
use Rattle.grammar.specs.OneToken.{by_looks}
use Rattle.grammar.proofs.Firsts.{Kids}
use Rattle.grammar.proofs.Known.{trees-of}
use Rattle.grammar.proofs.More.{goes, one-token}
use Rattle.grammar.proofs.Unique.{one-tree}
use Rattle.generic_syntax.specs.declared.module_cst.PartCst.{PartCst}
use Rattle.generic_syntax.specs.declared.module_cst.RegionCst.{RegionCst}
use Rattle.generic_syntax.specs.declared.pieces.TheConstants.{ROOM}
use Rattle.generic_syntax.proofs.Above.{pieces-known}
use Rattle.dialect_defs.specs.declared.definition.OpDef.{OpDef}
use Rattle.dialect_defs.specs.declared.format.Element.{Element}
use Rattle.format_checker.specs.Decided.{AreRegions, AreSound, IsInner, Shows, follow, is_one_token, shown_each}
use Rattle.format_checker.specs.Fits.{looks}
use Rattle.format_checker.specs.Pieces.{Inner, value, a_region, InnerTree, inner_looks, inner_more_looks}
use Rattle.format_checker.proofs.Clear.{Clear}
use Rattle.format_checker.proofs.Decided.{each-clear, plain-follow}

module _ (region : Tokens → RegionCst → Bool) (known : AreRegions region) where
  begins : (x : Inner) (t : Token) (ts : Tokens) (a : InnerTree x) → IsInner region x (t ∷ ts) a
      → any (inner_looks x) t ≡ true
  begins (value p) t ts a d = ((trees-of (pieces-known ROOM)).each p).first t ts a d
  begins a_region t ts a d = known.first t ts a d

  full : (x : Inner) (a : InnerTree x) → IsInner region x [] a → ⊥
  full (value p) a d = ((trees-of (pieces-known ROOM)).each p).full a d
  full a_region a d = known.full a d

  inner-goes : (x : Inner) (d : Tokens) (y : Token) (e : Tokens) (a b : InnerTree x)
      → IsInner region x d a → IsInner region x (d ++ y ∷ e) b → any (inner_more_looks x) y ≡ true
  inner-goes (value p) d y e a b u v = ((trees-of (pieces-known ROOM)).each p).goes d y e a b u v
  inner-goes a_region d y e a b u v = absurd (known.ends d y e a b u v)

  one : (x : Inner) (d : Tokens) (a b : InnerTree x) → IsInner region x d a → IsInner region x d b
      → a ≡ b
  one (value p) d a b u v = ((trees-of (pieces-known ROOM)).each p).one d a b u v
  one a_region d a b u v = known.one d a b u v

  kids : Kids (IsInner region) (by_looks inner_looks)
  kids = record { begins = begins; full = full }

  module _ (op : OpDef) (es : List Element) (sound : AreSound op es)
      (clear : is_one_token op es (follow op.terminator) ≡ true) where
    decided : Clear (shown_each op es) (any (looks (follow op.terminator)))
    decided = each-clear op es (follow op.terminator) sound clear (plain-follow op.terminator)

    -- one tree
    pub format-one : (ts : Tokens) (a b : List PartCst) → Shows region op es ts a
        → Shows region op es ts b → a ≡ b
    format-one ts a b x y =
        one-tree (by_looks inner_looks) (IsInner region) kids one (shown_each op es)
        (one-token (by_looks inner_looks) (by_looks inner_more_looks) (IsInner region) kids inner-goes
        (shown_each op es) decided.checks) ts a b x y

    -- what may follow doesn't go on
    pub format-ends : (ts more : Tokens) (next : Token) (a b : List PartCst) → Shows region op es ts a
        → Shows region op es (ts ++ next ∷ more) b → any (looks (follow op.terminator)) next ≡ true → ⊥
    format-ends ts more next a b x y e =
        decided.ends next
        (goes (by_looks inner_looks) (by_looks inner_more_looks) (IsInner region) kids inner-goes
        (shown_each op es) decided.checks ts next more a b x y) e
