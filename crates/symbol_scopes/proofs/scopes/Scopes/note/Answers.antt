use Rattle.std.proofs.Common.{◌+◌, ◌++◌, ◌∷◌, [], ap, ◌∙◌, arith}
use Rattle.std.proofs.lemmas.Option.{get_or_from_slice_get, slice_get_within}
use Rattle.symbol_scopes.specs.declared.call.Call.TheVariants as call
use Rattle.symbol_scopes.specs.Calls.{numbered_name, said_mark}
use Rattle.symbol_scopes.proofs.Noting.{on-err, same-marks, same-kept, more-marks, more-kept, counts-small}
use Rattle.symbol_scopes.proofs.scopes.Scopes.note.Goals as goal

pub invariant_of-self-in_err-push : goal.invariant_of-self-in_err-push
invariant_of-self-in_err-push c =
    same-kept c.self.inside.names c.number.new.self c.args.name.now c.self.inside.calls
    c.self.inside.definitions c.self.inside.uses c.self.inside.successors c.number.ensures.kept
    c.self.invariant c.push.new.self
    c.in_err-push.ensures.err

pub returns-in_err-push-clause-err : goal.returns-in_err-push-clause-err
returns-in_err-push-clause-err c = on-err _ _
    (same-marks c.self.inside.names c.number.new.self c.args.name.now c.self.inside.calls
    c.self.inside.definitions c.self.inside.uses c.self.inside.successors c.number.ensures.kept
    c.self.invariant c.push.new.self
    c.in_err-push.ensures.err ∙ c.self.view_is)

pub overflow_add-self : goal.overflow_add-self
overflow_add-self c =
    let few = (counts-small c.self.inside.names c.self.inside.calls c.self.inside.definitions
    c.self.inside.uses c.self.inside.successors c.self.invariant).0 in
    let small = c.in_ok-push.ensures.few in
    let one = c.definitions.ensures.most in
    omega arith

pub overflow_add-self-2 : goal.overflow_add-self-2
overflow_add-self-2 c =
    let few = (counts-small c.self.inside.names c.self.inside.calls c.self.inside.definitions
    c.self.inside.uses c.self.inside.successors c.self.invariant).1 in
    let small = c.in_ok-push.ensures.few in
    let one = c.uses.ensures.most in
    omega arith

pub overflow_add-self-3 : goal.overflow_add-self-3
overflow_add-self-3 c =
    let few = (counts-small c.self.inside.names c.self.inside.calls c.self.inside.definitions
    c.self.inside.uses c.self.inside.successors c.self.invariant).2 in
    let small = c.in_ok-push.ensures.few in
    let one = c.successors.ensures.most in
    omega arith

pub invariant_of-self-2 : goal.invariant_of-self-2
invariant_of-self-2 c =
    let name = numbered_name c.number.new.self c.in_ok-name.name in
    more-kept c.self.inside.names c.number.new.self c.args.name.now c.self.inside.calls
    c.self.inside.definitions c.self.inside.uses c.self.inside.successors c.number.ensures.kept
    c.self.invariant c.push.new.self
    (call.Name c.in_ok-name.name c.args.said) _ _ _ c.in_ok-push.ensures.ok
    (slice_get_within c.number.new.self c.in_ok-name.name c.args.name.now c.in_ok-name.ensures.ok)
    (λ r. ap (λ n. c.self.inside.definitions + n) (c.definitions.ensures.count name r))
    (ap (λ n. c.self.inside.uses + n) (c.uses.ensures.count name))
    (ap (λ n. c.self.inside.successors + n) (c.successors.ensures.count name))

pub returns-clause-ok : goal.returns-clause-ok
returns-clause-ok c =
    let name = numbered_name c.number.new.self c.in_ok-name.name in
    more-marks c.self.inside.names c.number.new.self c.args.name.now c.self.inside.calls
    c.self.inside.definitions c.self.inside.uses c.self.inside.successors c.number.ensures.kept
    c.self.invariant c.push.new.self
    (call.Name c.in_ok-name.name c.args.said) c.in_ok-push.ensures.ok
    (slice_get_within c.number.new.self c.in_ok-name.name c.args.name.now c.in_ok-name.ensures.ok)
    ∙ ap (λ l. l ++ said_mark name c.args.said ∷ []) c.self.view_is
    ∙ ap (λ n. c.args.self.now ++ said_mark n c.args.said ∷ [])
    (get_or_from_slice_get c.number.new.self c.in_ok-name.name c.args.name.now []
    c.in_ok-name.ensures.ok)
