use Rattle.acl_nfs4.proofs.Common.{ace_line, append_assoc}
use Rattle.acl_nfs4.proofs.text.writer.fill.Goals as goal

-- one piece after the other, from the last
pub returns-clause-text : goal.returns-clause-text
unfolding ace_line
returns-clause-text c =
    rw (c.push-4.ensures.items, c.add-2.ensures, c.push-3.ensures.items, c.add_set-2.ensures.text)
    (rw (c.push-2.ensures.items, c.add_set.ensures.text, c.push.ensures.items, c.add.ensures, c.clear.ensures)
    (rw (c.as_bytes.ensures.value, c.kind_name.ensures.name, c.bits.ensures, c.bits-2.ensures.value)
    (simp append_assoc)))
