use Rattle.std.proofs.Common.{refl, sym}
use Rattle.acl_nfs4.specs.Ace.{ace}
use Rattle.acl_normal.proofs.Tables.{one_row}
use Rattle.acl_normal.proofs.right_table.add_row.Goals as goal

pub returns : goal.returns
returns c list at key =
    one_row c.args.right.bit list c.args.item (ace c.ace_of-shown.result) c.args.table.now.items
    c.push.new.self.items _ (sym c.if-not-is_in.ensures) key c.ace_of-shown.ensures at refl refl c.is_group.ensures
    c.in_ok-push.ensures.items
