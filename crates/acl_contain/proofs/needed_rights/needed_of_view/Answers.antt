use Rattle.acl_normal.proofs.Common.{arith}
use Rattle.acl_contain.proofs.NeededRights.{needed_left}
use Rattle.acl_contain.proofs.needed_rights.needed_of_view.Goals as goal

pub returns : goal.returns
returns c =
    let left = c.in_ok-reduced.reduced in
    let known = c.in_ok-reduced.ensures in
    record {
      needed = needed_left c.args.list.now left.aces.items left.masks.items
          (omega (arith, left.masks.ok, left.aces.ok, known.places)) known.left;
    }
