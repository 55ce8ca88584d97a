use Rattle.acl_nfs4.proofs.Common.{flags_of, mask_of, place, Place, profile_of, who_len_of, ◌∙◌}
use Rattle.acl_nfs4.specs.PartFault.{type_of}
unfoldable use Rattle.acl_nfs4.specs.internal.PartReading.{any_ace_at}
use Rattle.acl_nfs4.proofs.Exits.{exit_is}
use Rattle.acl_nfs4.proofs.xdr.Fields.{bind-ok}
use Rattle.acl_nfs4.proofs.xdr.ReadFields.{word_accepted}
use Rattle.acl_nfs4.proofs.xdr.Resume.{bind-err}
use Rattle.acl_nfs4.proofs.xdr.access_part.any_ace.Goals as goal

pub returns-in_err-padding-clause-exact : goal.returns-in_err-padding-clause-exact
unfolding any_ace_at
returns-in_err-padding-clause-exact c =
    let q = profile_of c.args.profile in
    let p0 : Place = place c.args.cursor.now in
    let p1 : Place = place c.word.new.cursor in
    let p2 : Place = place c.word-2.new.cursor in
    let p3 : Place = place c.word-3.new.cursor in
    let type = word_accepted type_of (λ z. z) c.in_ok-offset.offset p0 c.type_of.result c.in_ok-type_number.type_number
    c.in_ok-offset.ensures.number c.type_of.ensures c.in_ok-type_number.ensures in
    let flags = word_accepted (flags_of q) (λ z. z.bits) c.in_ok-offset-2.offset p1 c.flags_of.result
    c.in_ok-flags.flags c.in_ok-offset-2.ensures.number c.flags_of.ensures c.in_ok-flags.ensures in
    let mask = word_accepted (mask_of q c.args.weight) (λ z. z.bits) c.in_ok-offset-3.offset p2 c.mask_of.result
    c.in_ok-mask.mask c.in_ok-offset-3.ensures.number c.mask_of.ensures.exact c.in_ok-mask.ensures in
    let len = word_accepted who_len_of (λ z. z) c.in_ok-offset-4.offset p3 c.who_len_of.result c.in_ok-len.len
    c.in_ok-offset-4.ensures.number c.who_len_of.ensures.exact c.in_ok-len.ensures in
    rw (exit_is c.from_residual-in_err-padding.result c.from_residual-in_err-padding.ensures.1)
    (bind-ok _ type ∙ bind-ok _ flags ∙ bind-ok _ mask ∙ bind-ok _ len ∙ bind-ok _ c.in_ok-who.ensures.exact
    ∙ bind-err _ c.in_err-padding.ensures)
