use Rattle.std.proofs.Common.{◌≡◌, ◌∙◌, ◌+◌, true, false, is_some, [], map, length, zip}
use Rattle.std.proofs.Common.{refl, sym, ap, subst, option_map}
use Rattle.std.specs.declared.option.Option.TheVariants.{Some, None}
use Rattle.attr_value.specs.declared.head.Head.TheVariants as h
use Rattle.attr_value.specs.Ids.{kids_at, AreKnown}
use Rattle.attr_value.specs.Values.{list_of}
use Rattle.first_fault.specs.Firsts.{IsFirst}
use Rattle.value_meaning.specs.Dicts.{keyed}
use Rattle.value_meaning.specs.Entered.{AreKeyed}
use Rattle.value_meaning.specs.Faults.{IsFaultAmong}
use Rattle.value_meaning.specs.Judging.{Judges, IsOther, Keeps}
use Rattle.value_meaning.specs.Meaning.{dict_value, entries_marks, entry_seen, made_of}
use Rattle.value_meaning.specs.Spelled.{all_some}
use Rattle.value_meaning.proofs.Dicts.{judges-no-dict, keyed-sorts, dict-is, dict-keeps, dict-kids}
use Rattle.value_meaning.proofs.Dicts.{dict-other-head}
use Rattle.value_meaning.proofs.Entering.{entries-bad, entries-first, entries-keyed, entries-right}
use Rattle.value_meaning.proofs.Entering.{entries-twice, keys-seen, not-some, zip-known}
use Rattle.value_meaning.proofs.Made.{all_some-some}
use Rattle.value_meaning.proofs.Results.{ok-map}
use Rattle.value_meaning.proofs.entries.dict.Goals as goal

pub returns-then-not-kids-clause-judged : goal.returns-then-not-kids-clause-judged
returns-then-not-kids-clause-judged c = λ g n al least x.
    let es = map (entry_seen al) c.args.entries.now in
    let repeat = c.in_ok-repeat.repeat in
    let keys = c.in_ok-repeat.ensures al in
    rw c.earlier-first.ensures (judges-no-dict g n es c.args.u.now _
    (entries-bad g (n + 1) es c.args.u.now c.args.kids x repeat keys
    c.if-not-kids.true)
    (entries-first g (n + 1) es c.args.u.now c.args.kids x repeat keys)
    (entries-right g (n + 1) es c.args.u.now c.args.kids x repeat keys))

pub returns-then-is_some-clause-judged : goal.returns-then-is_some-clause-judged
returns-then-is_some-clause-judged c = λ g n al least x.
    let es = map (entry_seen al) c.args.entries.now in
    let repeat = c.in_ok-repeat.repeat in
    let keys = c.in_ok-repeat.ensures al in
    rw c.earlier-first.ensures (judges-no-dict g n es c.args.u.now _
    (entries-twice g (n + 1) es c.args.u.now c.args.kids x repeat keys
    (λ none. let no : true ≡ false =
    sym c.if-is_some.true ∙ c.is_some.ensures ∙ ap is_some none in absurd (cc)))
    (entries-first g (n + 1) es c.args.u.now c.args.kids x repeat keys)
    (entries-right g (n + 1) es c.args.u.now c.args.kids x repeat keys))

pub made-requires : goal.made-requires
made-requires c = record {
  known = c.in_ok-head.ensures.known (length c.args.u.now)
      (subst (λ ps. AreKnown (length c.args.u.now) (map (λ p. p.1) ps))
      (sym (c.in_ok-paired.ensures ∙ ap (zip _) c.deref.ensures.value))
      (zip-known (length c.args.u.now) _ c.args.kids.ids.items c.requires.known));
}

pub returns-clause-judged : goal.returns-clause-judged
returns-clause-judged c = λ g n al least x.
    let es = map (entry_seen al) c.args.entries.now in
    let table = c.args.u.now in
    let repeat = c.in_ok-repeat.repeat in
    let keys = c.in_ok-repeat.ensures al in
    let pairs = keyed c.in_ok-paired.field-0.items in
    let none : repeat ≡ None = not-some repeat (sym c.is_some.ensures ∙ c.if-is_some.false) in
    let are = subst (AreKeyed g es table) (sym (c.in_ok-paired.ensures
    ∙ ap (zip _) c.deref.ensures.value
    ∙ ap (λ ks. zip ks c.args.kids.ids.items) (sym (keys-seen al c.args.entries.now))))
    (entries-keyed g (n + 1) es table c.args.kids x repeat keys
    c.if-not-kids.false none) in
    let (sorted, is) = keyed-sorts g es table pairs are in
    let head = rw is at c.in_ok-head.ensures.head in
    let ids = rw is at c.in_ok-head.ensures.kids in
    let kids = list_of (kids_at table (map (λ p. p.1) sorted)) in
    let spelled = map Some kids in
    let same : option_map (made_of c.in_ok-head.head) (all_some spelled) ≡ dict_value es =
    ap (λ k. option_map (made_of k) (all_some spelled)) head
    ∙ ap (option_map (made_of (h.Dict (map (λ p. p.0) sorted)))) (all_some-some kids)
    ∙ sym (dict-is g es table pairs sorted are is) in
    ok-map c.made.result
    (λ j judges. subst
    (λ v. Judges g n v (entries_marks (n + 1) [] es) c.made.new.u j) same judges)
    (c.made.ensures.judged g n spelled (entries_marks (n + 1) [] es) least
    (subst IsOther (sym head) (dict-other-head (map (λ p. p.0) sorted)))
    (dict-kids g es table pairs sorted are is (n + 1) (entries_marks (n + 1) [] es) _ ids refl
    (subst (IsFirst (IsFaultAmong g.table g.tests g.types (entries_marks (n + 1) [] es)))
    (sym c.earlier-first.ensures)
    (entries-first g (n + 1) es table c.args.kids x repeat keys))
    (λ e. entries-right g (n + 1) es table c.args.kids x repeat keys
    (sym c.earlier-first.ensures ∙ e)))
    (λ all. subst (λ k. Keeps g k (list_of (kids_at table c.in_ok-head.ids.items))) (sym head)
    (subst (λ l. Keeps g (h.Dict (map (λ p. p.0) sorted)) (list_of (kids_at table l))) (sym ids)
    (dict-keeps g es table pairs sorted are is))))
