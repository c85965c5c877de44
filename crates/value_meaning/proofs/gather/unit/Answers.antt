use Rattle.attr_value.specs.declared.head.Head.TheVariants as h
use Rattle.value_meaning.specs.Meaning.{seen_leaf}
use Rattle.value_meaning.proofs.Leaves.{own-leaf}
use Rattle.value_meaning.proofs.Made.{good-leaf}
use Rattle.std.proofs.Common.{refl}
use Rattle.value_meaning.proofs.gather.unit.Goals as goal

pub returns-clause-judged : goal.returns-clause-judged
returns-clause-judged c = λ g n is.
    c.stood.ensures.judged g n (seen_leaf h.Unit) c.leaf_of.new.u is
    (c.in_ok-unit.ensures.judged g n (good-leaf g h.Unit (own-leaf h.Unit refl tt) tt))
