use Rattle.std.proofs.Common.{ap, arith, length, []}
use Rattle.acl_nfs4.specs.Ace.{ace}
use Rattle.acl_forms.specs.Acl41Ids.{id_of_digits}
use Rattle.acl_forms.specs.Letters.{nfs_flag_letters, nfs_right_letters}
use Rattle.acl_forms.specs.NfsWritten.{id_after, kind_word, nfs_entry_text, principal_text, special_word, styled_letters}
use Rattle.acl_forms.proofs.NfsWrites.{joined}
use Rattle.acl_forms.proofs.nfs_text.writer.add_entry.Goals as goal

-- one piece after the other, from the last
pub returns-clause-text : goal.returns-clause-text
unfolding nfs_entry_text
returns-clause-text c =
    let item = c.args.item in
    let letters = c.args.letters in
    rw (c.add_id.ensures.text, c.add.ensures.items, c.push-3.ensures.items, c.add_styled-2.ensures.text)
    (rw (c.push-2.ensures.items, c.add_styled.ensures.text, c.push.ensures.items, c.add_principal.ensures.text)
    (rw (
      c.kind_word.ensures.value,
      c.nfs_right_letters.ensures,
      c.nfs_flag_letters.ensures,
      c.bits.ensures.value,
      c.bits-2.ensures,
    )
    (joined c.args.line.now.items (principal_text (ace item) (special_word item.who.now))
    (styled_letters letters (nfs_right_letters []) item.mask.bits)
    (styled_letters letters (nfs_flag_letters []) item.flags.bits) (kind_word item.kind)
    (id_after item.who.now (id_of_digits item.who.now)))))

pub add_id-requires : goal.add_id-requires
add_id-requires c =
    let front = c.add_principal.ensures.len in
    let rights = ap length c.nfs_right_letters.ensures in
    let flags = ap length c.nfs_flag_letters.ensures in
    omega (
      arith,
      c.requires,
      front,
      c.push.ensures.len,
      c.add_styled.ensures.len,
      rights,
      c.push-2.ensures.len,
      c.add_styled-2.ensures.len,
      flags,
      c.push-3.ensures.len,
      c.add.ensures.len,
      c.kind_word.ensures.short,
    )

pub returns-clause-len : goal.returns-clause-len
returns-clause-len c =
    let front = c.add_principal.ensures.len in
    let rights = ap length c.nfs_right_letters.ensures in
    let flags = ap length c.nfs_flag_letters.ensures in
    omega (
      arith,
      c.requires,
      front,
      c.push.ensures.len,
      c.add_styled.ensures.len,
      rights,
      c.push-2.ensures.len,
      c.add_styled-2.ensures.len,
      flags,
      c.push-3.ensures.len,
      c.add.ensures.len,
      c.kind_word.ensures.short,
      c.add_id.ensures.len,
    )
