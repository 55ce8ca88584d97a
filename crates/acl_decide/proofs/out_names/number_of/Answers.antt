use Rattle.std.proofs.Common.{ap, sym, ◌+◌, ◌∙◌}
use Rattle.std.specs.Prelude.{if◌then◌else◌}
use Rattle.std.specs.BTreeMap.{btree_map_len}
use Rattle.std.specs.Option.{is_some}
use Rattle.acl_decide.proofs.NameNumbers.{marked}
use Rattle.acl_decide.proofs.out_names.number_of.Goals as goal

pub returns : goal.returns
returns c = marked c.args.known.now c.insert.new.self c.args.who.now c.len-number.result c.in_ok-insert.ensures.updates
    (sym c.in_default.ensures.value) c.len-number.ensures.len
    (c.in_ok-insert.ensures.len ∙ ap (λ found. btree_map_len c.args.known.now + (if is_some found then 0 else 1))
    (c.in_ok-insert.ensures.old ∙ sym c.in_default.ensures.value))
