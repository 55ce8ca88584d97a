use Rattle.acl_normal.proofs.Common.{ap, map, of_borrowed, ◌∙◌}
use Rattle.acl_contain.proofs.TurnedRows.{map_reversed}
use Rattle.acl_contain.proofs.holder_lines.turned.Goals as goal

pub returns : goal.returns
returns c = ap (map of_borrowed) c.reverse.ensures.items ∙ map_reversed of_borrowed c.args.rows.items
