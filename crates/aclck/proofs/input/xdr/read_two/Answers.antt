use Rattle.std.proofs.Common.{arith, refl}
use Rattle.std.proofs.lemmas.List.{length-append}
use Rattle.acl_perm.specs.Profile.{profile_of}
use Rattle.aclck.proofs.InputLemmas.{end_unread, short_offset, first_unread, has_read_nothing, has_read_value, input_read, two_begin, two_go_on, two_whole, value_unread}
use Rattle.aclck.proofs.input.xdr.read_two.Goals as goal

pub behind-requires-clause-fault : goal.behind-requires-clause-fault
behind-requires-clause-fault g c = search (short_offset, c.in-Err.ensures.none)

pub returns-in-Err : goal.returns-in-Err
returns-in-Err g c =
    let failed = g.S.Source.failure_count c.args.source.now in
    let value = c.in_ok-first.ensures.value in
    let read = has_read_value {failed = failed} (has_read_nothing c.new-pulled.ensures) value
    c.in_ok-first.ensures.reads in
    rw (c.from.ensures, c.behind.ensures, value.is_len)
    (value_unread c.in-Err.fault (two_go_on (profile_of c.args.profile) _ value.text value.spelled) read
    c.in-Err.ensures.none c.in-Err.ensures.reads)

pub returns-in_err-read_end-in-Ok : goal.returns-in_err-read_end-in-Ok
returns-in_err-read_end-in-Ok g c =
    let failed = g.S.Source.failure_count c.args.source.now in
    let first = c.in_ok-first.ensures.value in
    let second = c.in-Ok.ensures.value in
    let read_first = has_read_value {failed = failed} (has_read_nothing c.new-pulled.ensures) first
    c.in_ok-first.ensures.reads in
    let read = has_read_value {failed = failed} read_first second c.in-Ok.ensures.reads in
    end_unread {failed = failed} c.in_err-read_end-in-Ok.field-0.0 c.from_residual-in_err-read_end-in-Ok.result
    c.from_residual-in_err-read_end-in-Ok.ensures.1
    (two_whole (profile_of c.args.profile) _ _ first.text second.text first.spelled second.spelled) read
    (omega (arith, first.is_len, second.is_len, length-append first.text second.text))
    c.in_err-read_end-in-Ok.ensures.not c.in_err-read_end-in-Ok.ensures.reads

pub returns-in_ok-read_end-in-Ok : goal.returns-in_ok-read_end-in-Ok
returns-in_ok-read_end-in-Ok g c =
    let failed = g.S.Source.failure_count c.args.source.now in
    let first = c.in_ok-first.ensures.value in
    let second = c.in-Ok.ensures.value in
    let read_first = has_read_value {failed = failed} (has_read_nothing c.new-pulled.ensures) first
    c.in_ok-first.ensures.reads in
    let read = has_read_value {failed = failed} read_first second c.in-Ok.ensures.reads in
    let (none, no_more, at_end) = c.in_ok-read_end-in-Ok.ensures.end in
    input_read {failed = failed}
    (two_whole (profile_of c.args.profile) _ _ first.text second.text first.spelled second.spelled)
    (record {
      first = first.text;
      second = second.text;
      parts = refl;
      first_spelled = first.spelled;
      second_spelled = second.spelled;
    }) read none no_more at_end c.in_ok-read_end-in-Ok.ensures.reads

pub returns-in_err-first : goal.returns-in_err-first
returns-in_err-first g c =
    first_unread c.in_err-first.field-0.0 c.from_residual.result c.new-pulled.ensures c.from_residual.ensures.1
    (two_begin (profile_of c.args.profile)) c.in_err-first.ensures.none c.in_err-first.ensures.reads
