use Rattle.std.specs.Prelude.{true}
use Rattle.acl_perm.specs.Principal.{principal}
use Rattle.acl_perm.proofs.Meetings.{answer_is_overlap, two_users, first_no_user, second_no_user}
use Rattle.acl_perm.proofs.principal.overlaps.Goals as goal

pub returns-in-User-User-clause-meaning : goal.returns-in-User-User-clause-meaning
returns-in-User-User-clause-meaning c =
    answer_is_overlap (principal c.args.p) (principal c.args.q) c.eq.result
    (two_users c.args.p c.args.q c.in-User-User.name c.in-User-User.other c.eq.result c.in-User-User.is-0
    c.in-User-User.is-1 c.eq.ensures)

pub returns-in_default : goal.returns-in_default
returns-in_default c =
    let value = second_no_user c.args.p c.args.q c.in_default.not-User-1 in
    record { meaning = answer_is_overlap (principal c.args.p) (principal c.args.q) true value; value = value }

pub returns-in_default-2 : goal.returns-in_default-2
returns-in_default-2 c =
    let value = first_no_user c.args.p c.args.q c.in_default.not-User-0 in
    record { meaning = answer_is_overlap (principal c.args.p) (principal c.args.q) true value; value = value }
