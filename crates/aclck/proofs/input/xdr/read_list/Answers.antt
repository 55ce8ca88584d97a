use Rattle.acl_perm.specs.Profile.{profile_of}
use Rattle.aclck.proofs.InputLemmas.{end_unread, first_unread, has_read_nothing, has_read_value, input_read, one_begins, one_whole}
use Rattle.aclck.proofs.input.xdr.read_list.Goals as goal

pub returns-in_err-list : goal.returns-in_err-list
returns-in_err-list g c =
    first_unread c.in_err-list.field-0.0 c.from_residual.result c.new-pulled.ensures c.from_residual.ensures.1
    (one_begins (profile_of c.args.profile)) c.in_err-list.ensures.none c.in_err-list.ensures.reads

pub returns-in_err-read_end : goal.returns-in_err-read_end
returns-in_err-read_end g c =
    let failed = g.S.Source.failure_count c.args.source.now in
    let value = c.in_ok-list.ensures.value in
    let read = has_read_value {failed = failed} (has_read_nothing c.new-pulled.ensures) value
    c.in_ok-list.ensures.reads in
    end_unread {failed = failed} c.in_err-read_end.field-0.0 c.from_residual-in_err-read_end.result
    c.from_residual-in_err-read_end.ensures.1 (one_whole (profile_of c.args.profile) _ value.text value.spelled) read
    value.is_len c.in_err-read_end.ensures.not c.in_err-read_end.ensures.reads

pub returns : goal.returns
returns g c =
    let failed = g.S.Source.failure_count c.args.source.now in
    let value = c.in_ok-list.ensures.value in
    let read = has_read_value {failed = failed} (has_read_nothing c.new-pulled.ensures) value
    c.in_ok-list.ensures.reads in
    let (none, no_more, at_end) = c.in_ok-read_end.ensures.end in
    input_read {failed = failed} (one_whole (profile_of c.args.profile) _ value.text value.spelled) value.spelled read
    none no_more at_end c.in_ok-read_end.ensures.reads
