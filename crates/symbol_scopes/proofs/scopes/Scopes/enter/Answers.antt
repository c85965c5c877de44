use Rattle.std.proofs.Common.{[], inl, refl, arith}
use Rattle.symbol_scopes.specs.declared.call.Call.TheVariants as call
use Rattle.symbol_scopes.proofs.Noting.{more-kept}
use Rattle.symbol_scopes.proofs.scopes.Scopes.enter.Goals as goal

pub invariant_of-self-2 : goal.invariant_of-self-2
invariant_of-self-2 c =
    more-kept c.self.inside.names c.self.inside.names [] c.self.inside.calls
    c.self.inside.definitions c.self.inside.uses c.self.inside.successors (inl refl)
    c.self.invariant c.push.new.self call.Enter _ _ _ c.in_ok-push.ensures.ok tt
    (λ r. omega arith) (omega arith) (omega arith)
