-- The two ways to give a name its bytes: in place of others, or by a file at the end.
use Rattle.std.proofs.Common.{◌≡◌, ◌++◌, ◌∷◌, [], ap, ◌∙◌}
use Rattle.std.specs.Prelude.{Some, None}
use Rattle.irdl_bytes.specs.MemFiles.{map_of}
use Rattle.irdl_bytes.specs.OpenAt.{IsFirstNamed, name_at}
use Rattle.irdl_bytes.proofs.Added.{added-has, added-others, added-firsts}
use Rattle.irdl_bytes.proofs.FirstPlaces.{none-from}
use Rattle.irdl_bytes.proofs.Replaced.{replaced-has, replaced-others, replaced-firsts}
use Rattle.irdl_bytes.proofs.mem_files.set_bytes.Goals as goal

-- the file found is the first of its name
first : (c : goal.After-drop-index_mut) → IsFirstNamed c.args.files.now.items c.in-Some.at
first c = rw c.deref.ensures.value at c.in-Some.ensures.first

-- which is the name given
named : (c : goal.After-drop-index_mut) →
    name_at c.args.files.now.items c.in-Some.at ≡ c.args.name.now
named c = (rw c.deref.ensures.value at c.in-Some.ensures.named) ∙ c.as_bytes.ensures.value

pub returns-in-Some-clause-ok : goal.returns-in-Some-clause-ok
returns-in-Some-clause-ok c =
    replaced-has c.args.files.now.items c.in-Some.at c.index_mut.result.now c.in_ok-bytes.bytes
    (first c) c.index_mut.ensures.value c.args.name.now (named c) ∙
    ap Some c.in_ok-bytes.ensures

pub returns-in-Some-clause-others : goal.returns-in-Some-clause-others
returns-in-Some-clause-others c other differ =
    replaced-others c.args.files.now.items c.in-Some.at c.index_mut.result.now c.in_ok-bytes.bytes
    (first c) c.index_mut.ensures.value c.args.name.now other (named c) differ

pub returns-in-Some-clause-firsts : goal.returns-in-Some-clause-firsts
returns-in-Some-clause-firsts c =
    replaced-firsts c.args.files.now.items c.in-Some.at c.index_mut.result.now c.in_ok-bytes.bytes
    (first c) c.index_mut.ensures.value

-- the name is new
new : (c : goal.In_ok-push-in-None) → map_of c.args.files.now.items c.args.name.now ≡ None
new c =
    none-from _ (rw (← c.deref.ensures.value, ← c.as_bytes.ensures.value) c.in-None.ensures.known)

-- its file stands at the end
added : (c : goal.In_ok-push-in-None) → c.push.new.self.items ≡
    c.args.files.now.items ++ record { name = c.args.name.now; bytes = c.args.bytes.now } ∷ []
added c =
    let name_is : c.in_ok-name-in-None.name ≡ c.args.name.now =
    c.in_ok-name-in-None.ensures ∙ c.as_bytes-in-None.ensures.value in
    let bytes_are : c.in_ok-bytes.bytes ≡ c.args.bytes.now = c.in_ok-bytes.ensures in
    rw (c.in_ok-push-in-None.ensures.items, name_is, bytes_are)

pub returns-in_ok-push-in-None-clause-ok : goal.returns-in_ok-push-in-None-clause-ok
returns-in_ok-push-in-None-clause-ok c =
    rw (added c) (added-has c.args.files.now.items c.args.name.now c.args.bytes.now (new c))

pub returns-in_ok-push-in-None-clause-others : goal.returns-in_ok-push-in-None-clause-others
returns-in_ok-push-in-None-clause-others c other differ =
    rw (added c)
    (added-others c.args.files.now.items c.args.name.now c.args.bytes.now (new c) other differ)

pub returns-in_ok-push-in-None-clause-firsts : goal.returns-in_ok-push-in-None-clause-firsts
returns-in_ok-push-in-None-clause-firsts c at is-first =
    rw (added c)
    (added-firsts c.args.files.now.items c.args.name.now c.args.bytes.now (new c) at is-first)
