use Rattle.acl_nfs4.proofs.Common.{false, flags_of, ap, is_no_who_len, kind_of, length, length-take-le, mask_of, place, Place, profile_of, sym, who_len_of, who_of, ◌∙◌, ◌≡◌}
use Rattle.acl_nfs4.proofs.Exits.{exit_is}
use Rattle.acl_nfs4.proofs.xdr.Fields.{bind-ok}
use Rattle.acl_nfs4.proofs.xdr.ReadFields.{field_accepted, field_cut, field_long, field_refused_here, placed_if, read_to_len, word_accepted, word_refused_here}
use Rattle.acl_nfs4.proofs.xdr.Resume.{bind-err}
use Rattle.acl_nfs4.proofs.xdr.reading.fields.Goals as goal

pub returns-in_err-len-clause-exact : goal.returns-in_err-len-clause-exact
returns-in_err-len-clause-exact c =
    let q = profile_of c.args.profile in
    let p0 : Place = place c.args.cursor.now in
    let p1 : Place = place c.word.new.cursor in
    let p2 : Place = place c.word-2.new.cursor in
    let p3 : Place = place c.word-3.new.cursor in
    let kind = word_accepted kind_of (λ z. z) c.in_ok-offset.offset p0 c.kind_of.result c.in_ok-kind.kind
    c.in_ok-offset.ensures.number c.kind_of.ensures c.in_ok-kind.ensures in
    let flags = word_accepted (flags_of q) (λ z. z.bits) c.in_ok-offset-2.offset p1 c.flags_of.result
    c.in_ok-flags.flags c.in_ok-offset-2.ensures.number c.flags_of.ensures c.in_ok-flags.ensures in
    let mask = word_accepted (mask_of q c.args.weight) (λ z. z.bits) c.in_ok-offset-3.offset p2 c.mask_of.result
    c.in_ok-mask.mask c.in_ok-offset-3.ensures.number c.mask_of.ensures.exact c.in_ok-mask.ensures in
    rw (exit_is c.from_residual-in_err-len.result c.from_residual-in_err-len.ensures.1)
    (read_to_len q c.args.weight p0 p1 p2 p3 _ _ _ kind flags mask
    ∙ bind-err _ (word_refused_here who_len_of (λ z. z) c.in_ok-offset-4.offset p3 c.who_len_of.result _
    c.in_ok-offset-4.ensures.number c.who_len_of.ensures.exact c.in_ok-offset-4.ensures.offset c.in_err-len.ensures))

pub returns-in_err-bytes-clause-exact : goal.returns-in_err-bytes-clause-exact
returns-in_err-bytes-clause-exact c =
    let q = profile_of c.args.profile in
    let p0 : Place = place c.args.cursor.now in
    let p1 : Place = place c.word.new.cursor in
    let p2 : Place = place c.word-2.new.cursor in
    let p3 : Place = place c.word-3.new.cursor in
    let kind = word_accepted kind_of (λ z. z) c.in_ok-offset.offset p0 c.kind_of.result c.in_ok-kind.kind
    c.in_ok-offset.ensures.number c.kind_of.ensures c.in_ok-kind.ensures in
    let flags = word_accepted (flags_of q) (λ z. z.bits) c.in_ok-offset-2.offset p1 c.flags_of.result
    c.in_ok-flags.flags c.in_ok-offset-2.ensures.number c.flags_of.ensures c.in_ok-flags.ensures in
    let mask = word_accepted (mask_of q c.args.weight) (λ z. z.bits) c.in_ok-offset-3.offset p2 c.mask_of.result
    c.in_ok-mask.mask c.in_ok-offset-3.ensures.number c.mask_of.ensures.exact c.in_ok-mask.ensures in
    let p4 : Place = place c.word-4.new.cursor in
    let len = word_accepted who_len_of (λ z. z) c.in_ok-offset-4.offset p3 c.who_len_of.result c.in_ok-len.len
    c.in_ok-offset-4.ensures.number c.who_len_of.ensures.exact c.in_ok-len.ensures in
    rw (exit_is c.from_residual-in_err-bytes.result c.from_residual-in_err-bytes.ensures.1)
    (read_to_len q c.args.weight p0 p1 p2 p3 _ _ _ kind flags mask ∙ bind-ok _ len
    ∙ bind-err _ (field_cut c.in_ok-len.len who_of p4 c.in_err-bytes.ensures))

pub who_of-requires : goal.who_of-requires
who_of-requires c =
    let some = placed_if (λ n. is_no_who_len n ≡ false) c.in_ok-offset-4.offset c.who_len_of.result c.in_ok-len.len
    c.in_ok-len.ensures c.who_len_of.ensures.some in
    let (long, same) = field_long c.in_ok-len.len (place c.word-4.new.cursor) c.in_ok-bytes.ensures in
    let size : c.in_ok-len.len ≡ length _ = sym (length-take-le c.in_ok-len.len _ long) ∙ ap length same in
    rw size at some

pub returns-in_err-who-clause-exact : goal.returns-in_err-who-clause-exact
returns-in_err-who-clause-exact c =
    let q = profile_of c.args.profile in
    let p0 : Place = place c.args.cursor.now in
    let p1 : Place = place c.word.new.cursor in
    let p2 : Place = place c.word-2.new.cursor in
    let p3 : Place = place c.word-3.new.cursor in
    let kind = word_accepted kind_of (λ z. z) c.in_ok-offset.offset p0 c.kind_of.result c.in_ok-kind.kind
    c.in_ok-offset.ensures.number c.kind_of.ensures c.in_ok-kind.ensures in
    let flags = word_accepted (flags_of q) (λ z. z.bits) c.in_ok-offset-2.offset p1 c.flags_of.result
    c.in_ok-flags.flags c.in_ok-offset-2.ensures.number c.flags_of.ensures c.in_ok-flags.ensures in
    let mask = word_accepted (mask_of q c.args.weight) (λ z. z.bits) c.in_ok-offset-3.offset p2 c.mask_of.result
    c.in_ok-mask.mask c.in_ok-offset-3.ensures.number c.mask_of.ensures.exact c.in_ok-mask.ensures in
    let p4 : Place = place c.word-4.new.cursor in
    let len = word_accepted who_len_of (λ z. z) c.in_ok-offset-4.offset p3 c.who_len_of.result c.in_ok-len.len
    c.in_ok-offset-4.ensures.number c.who_len_of.ensures.exact c.in_ok-len.ensures in
    rw (exit_is c.from_residual-in_err-who.result c.from_residual-in_err-who.ensures.1)
    (read_to_len q c.args.weight p0 p1 p2 p3 _ _ _ kind flags mask ∙ bind-ok _ len
    ∙ bind-err _ (field_refused_here c.in_ok-len.len (λ bytes. bytes) who_of (λ z. z.now) c.offset_of-offset.result p4
    c.who_of.result _ c.in_ok-bytes.ensures c.who_of.ensures c.offset_of-offset.ensures c.in_err-who.ensures))

pub returns-in_err-padding-clause-exact : goal.returns-in_err-padding-clause-exact
returns-in_err-padding-clause-exact c =
    let q = profile_of c.args.profile in
    let p0 : Place = place c.args.cursor.now in
    let p1 : Place = place c.word.new.cursor in
    let p2 : Place = place c.word-2.new.cursor in
    let p3 : Place = place c.word-3.new.cursor in
    let kind = word_accepted kind_of (λ z. z) c.in_ok-offset.offset p0 c.kind_of.result c.in_ok-kind.kind
    c.in_ok-offset.ensures.number c.kind_of.ensures c.in_ok-kind.ensures in
    let flags = word_accepted (flags_of q) (λ z. z.bits) c.in_ok-offset-2.offset p1 c.flags_of.result
    c.in_ok-flags.flags c.in_ok-offset-2.ensures.number c.flags_of.ensures c.in_ok-flags.ensures in
    let mask = word_accepted (mask_of q c.args.weight) (λ z. z.bits) c.in_ok-offset-3.offset p2 c.mask_of.result
    c.in_ok-mask.mask c.in_ok-offset-3.ensures.number c.mask_of.ensures.exact c.in_ok-mask.ensures in
    let p4 : Place = place c.word-4.new.cursor in
    let len = word_accepted who_len_of (λ z. z) c.in_ok-offset-4.offset p3 c.who_len_of.result c.in_ok-len.len
    c.in_ok-offset-4.ensures.number c.who_len_of.ensures.exact c.in_ok-len.ensures in
    let who = field_accepted c.in_ok-len.len (λ bytes. bytes) who_of (λ z. z.now) c.offset_of-offset.result p4
    c.who_of.result c.in_ok-who.who c.in_ok-bytes.ensures c.who_of.ensures c.in_ok-who.ensures in
    rw (exit_is c.from_residual-in_err-padding.result c.from_residual-in_err-padding.ensures.1)
    (read_to_len q c.args.weight p0 p1 p2 p3 _ _ _ kind flags mask ∙ bind-ok _ len ∙ bind-ok _ who
    ∙ bind-err _ c.in_err-padding.ensures)

pub returns-clause-exact : goal.returns-clause-exact
returns-clause-exact c =
    let q = profile_of c.args.profile in
    let p0 : Place = place c.args.cursor.now in
    let p1 : Place = place c.word.new.cursor in
    let p2 : Place = place c.word-2.new.cursor in
    let p3 : Place = place c.word-3.new.cursor in
    let kind = word_accepted kind_of (λ z. z) c.in_ok-offset.offset p0 c.kind_of.result c.in_ok-kind.kind
    c.in_ok-offset.ensures.number c.kind_of.ensures c.in_ok-kind.ensures in
    let flags = word_accepted (flags_of q) (λ z. z.bits) c.in_ok-offset-2.offset p1 c.flags_of.result
    c.in_ok-flags.flags c.in_ok-offset-2.ensures.number c.flags_of.ensures c.in_ok-flags.ensures in
    let mask = word_accepted (mask_of q c.args.weight) (λ z. z.bits) c.in_ok-offset-3.offset p2 c.mask_of.result
    c.in_ok-mask.mask c.in_ok-offset-3.ensures.number c.mask_of.ensures.exact c.in_ok-mask.ensures in
    let p4 : Place = place c.word-4.new.cursor in
    let len = word_accepted who_len_of (λ z. z) c.in_ok-offset-4.offset p3 c.who_len_of.result c.in_ok-len.len
    c.in_ok-offset-4.ensures.number c.who_len_of.ensures.exact c.in_ok-len.ensures in
    let who = field_accepted c.in_ok-len.len (λ bytes. bytes) who_of (λ z. z.now) c.offset_of-offset.result p4
    c.who_of.result c.in_ok-who.who c.in_ok-bytes.ensures c.who_of.ensures c.in_ok-who.ensures in
    read_to_len q c.args.weight p0 p1 p2 p3 _ _ _ kind flags mask ∙ bind-ok _ len ∙ bind-ok _ who
    ∙ bind-ok _ c.in_ok-padding.ensures
