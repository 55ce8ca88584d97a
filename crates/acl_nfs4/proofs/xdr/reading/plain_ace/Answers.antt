use Rattle.acl_nfs4.proofs.Common.{false, field, flags_of, is_no_who_len, kind_of, mask_of, Ok, padding_of, place, Place, profile_of, who_len_of, word_field, ◌∙◌, ◌≡◌}
use Rattle.acl_nfs4.proofs.xdr.Fields.{bind-ok}
use Rattle.acl_nfs4.proofs.xdr.ReadFields.{ok_gives, ok_if, ok_value, plain_who_read, read_to_len, word_given, zero_padding_read}
use Rattle.acl_nfs4.proofs.xdr.reading.plain_ace.Goals as goal

pub returns-clause-exact : goal.returns-clause-exact
returns-clause-exact c =
    let q = profile_of c.args.profile in
    let p0 : Place = place c.args.cursor.now in
    let p1 : Place = place c.word.new.cursor in
    let p2 : Place = place c.word-2.new.cursor in
    let p3 : Place = place c.word-3.new.cursor in
    let p4 : Place = place c.word-4.new.cursor in
    let kind : word_field kind_of p0 ≡ Ok (c.in_ok-kind.kind, p1) = word_given kind_of (λ z. z) p0 c.kind_of.result
    c.in_ok-kind.kind (ok_gives (λ x. (x.1, p1)) c.word.result (word_field (λ n. Ok n) p0) _ c.word.ensures.number
    c.in_ok-number.ensures.value) c.kind_of.ensures (ok_value _ _ c.in_ok-kind.ensures.value) in
    let flags : word_field (flags_of q) p1 ≡ Ok (c.in_ok-flags.flags.bits, p2) = word_given (flags_of q) (λ z. z.bits) p1
    c.flags_of.result c.in_ok-flags.flags (ok_gives (λ x. (x.1, p2)) c.word-2.result (word_field (λ n. Ok n) p1) _
    c.word-2.ensures.number c.in_ok-number-2.ensures.value) c.flags_of.ensures
    (ok_value _ _ c.in_ok-flags.ensures.value) in
    let mask : word_field (mask_of q c.args.weight) p2 ≡ Ok (c.in_ok-mask.mask.bits, p3) =
    word_given (mask_of q c.args.weight) (λ z. z.bits) p2 c.mask_of.result c.in_ok-mask.mask
    (ok_gives (λ x. (x.1, p3)) c.word-3.result (word_field (λ n. Ok n) p2) _ c.word-3.ensures.number
    c.in_ok-number-3.ensures.value) c.mask_of.ensures.exact (ok_value _ _ c.in_ok-mask.ensures.value) in
    let len : word_field who_len_of p3 ≡ Ok (c.in_ok-len.len, p4) = word_given who_len_of (λ z. z) p3
    c.who_len_of.result c.in_ok-len.len (ok_gives (λ x. (x.1, p4)) c.word-4.result (word_field (λ n. Ok n) p3) _
    c.word-4.ensures.number c.in_ok-number-4.ensures.value) c.who_len_of.ensures.exact
    (ok_value _ _ c.in_ok-len.ensures.value) in
    let p5 : Place = place c.bytes.new.cursor in
    let p6 : Place = place c.bytes-2.new.cursor in
    let some = ok_if (λ n. is_no_who_len n ≡ false) c.who_len_of.result c.in_ok-len.len c.in_ok-len.ensures.value
    c.who_len_of.ensures.some in
    let who = plain_who_read p4 c.in_ok-len.len some (ok_gives (λ x. (x.now, p5)) c.bytes.result
    (field c.in_ok-len.len (λ bytes. Ok bytes) p4) c.in_ok-who.who c.bytes.ensures c.in_ok-who.ensures.value)
    (c.begins_plain_ascii.ensures c.if-not-begins_plain_ascii.false) c.is_unknown_special.ensures
    c.if-is_unknown_special.false in
    let padding : field c.pad_len-pad.result padding_of p5 ≡ Ok (tt, p6) =
    zero_padding_read p5 c.pad_len-pad.result (ok_gives (λ x. (x.now, p6)) c.bytes-2.result
    (field c.pad_len-pad.result (λ bytes. Ok bytes) p5) _ c.bytes-2.ensures c.in_ok-ok.ensures.value)
    (c.begins_zero.ensures c.if-not-begins_zero.false) in
    read_to_len q c.args.weight p0 p1 p2 p3 _ _ _ kind flags mask ∙ bind-ok _ len ∙ bind-ok _ who
    ∙ bind-ok _ (rw c.pad_len-pad.ensures at padding)
