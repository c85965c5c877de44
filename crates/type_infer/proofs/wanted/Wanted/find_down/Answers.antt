use Rattle.std.proofs.Common.{◌≡◌, ◌∙◌, Some, None, ap, slice_get}
use Rattle.std.proofs.lemmas.Option.{slice_get-get_or}
use Rattle.type_infer.specs.Asked.{Slots}
use Rattle.type_infer.proofs.Downs.{down-found, down-none}
use Rattle.type_infer.proofs.wanted.Wanted.find_down.Goals as goal

pub find_under-requires-clause-id : goal.find_under-requires-clause-id
find_under-requires-clause-id c =
    let s : Slots = c.args.self.now.slots.items in
    let has : slice_get s c.args.whole.0 ≡ Some (Some c.in-Some.id) =
    slice_get-get_or s c.args.whole.0 None c.requires.whole
    ∙ ap Some (let e = c.in-Some.is in let f = c.deref.ensures.0 in cc) in
    c.requires.known c.args.whole.0 c.in-Some.id has

pub returns-in-None : goal.returns-in-None
returns-in-None c = λ says types good.
    let s : Slots = c.args.self.now.slots.items in
    let free : slice_get s c.args.whole.0 ≡ Some None =
    slice_get-get_or s c.args.whole.0 None c.requires.whole
    ∙ ap Some (let e = c.in-None.is in let f = c.deref.ensures.0 in cc) in
    down-none says types c.args.u.now s c.args.whole c.args.constraint.now c.requires.known good free

pub returns-in-Some : goal.returns-in-Some
returns-in-Some c = λ says types good.
    let s : Slots = c.args.self.now.slots.items in
    let has : slice_get s c.args.whole.0 ≡ Some (Some c.in-Some.id) =
    slice_get-get_or s c.args.whole.0 None c.requires.whole
    ∙ ap Some (let e = c.in-Some.is in let f = c.deref.ensures.0 in cc) in
    down-found says types c.args.u.now s c.find_under.new.self.slots.items c.find_under.result
    c.args.whole c.in-Some.id c.args.constraint.now has
    (c.find_under.ensures says types c.requires.known good
    (good.each c.args.whole.0 c.in-Some.id has))
