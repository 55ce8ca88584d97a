use Rattle.acl_nfs4.proofs.Common.{arith, ◌∙◌}
use Rattle.acl_nfs4.proofs.list.Push.{fields_appended}
use Rattle.acl_nfs4.proofs.list.acl.append_piece.Goals as goal

pub returns : goal.returns
returns c = c.truncate.ensures.items ∙ fields_appended c.args.body.now.items _ c.args.item.now.who.now
    c.extend_from_slice.new.self.items c.extend_from_slice-2.new.self.items _ c.len.result _ _
    (rw (c.reserve.ensures.items, c.head.ensures) at c.in_ok-extend_from_slice.ensures.items)
    c.in_ok-extend_from_slice-2.ensures.items c.in_ok-extend_from_slice-3.ensures.items
    (omega arith) c.pad_len.ensures (omega arith)
