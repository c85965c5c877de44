use Rattle.std.proofs.Common.{◌∙◌, sym, ap, length, replicate, ◌≡◌, rules, ℕ}
use Rattle.std.proofs.lemmas.List.{length-map, length-replicate}
use Rattle.symbol_scopes.specs.declared.slots.NameSlot.{NameSlot}
use Rattle.symbol_scopes.specs.Listed.{bindings_in, binding_of}
use Rattle.symbol_scopes.proofs.Turns.{no-region}
use Rattle.symbol_scopes.proofs.slots.NameSlots.new.Goals as goal

pub returns : goal.returns
returns c =
    let slots = c.in_ok-vec.ensures.items_if_clones_equal (search rules) in
    let saved = c.in_ok-vec-2.ensures.items_if_clones_equal (search rules) in
    let ds = bindings_in c.args.names.now c.args.listed.now in
    let rows = c.args.listed.now.rows in
    let v : NameSlot = record { found = c.len-none.result; least = c.len-none.result } in
    let many : rows.len ≡ length ds =
    rows.ok.0 ∙ sym (length-map rows.items (binding_of c.args.names.now)) in
    let count : c.len-none.result ≡ length ds = c.len-none.ensures ∙ many in
    no-region c.args.names.now ds _ v (ap (λ (n : ℕ). record { found = n; least = n }) count)
    (slots ∙ ap (λ n. replicate n v) c.len.ensures.count)
    (ap length saved ∙ length-replicate c.len-2.result v ∙ c.len-2.ensures ∙ many)
