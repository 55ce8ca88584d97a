use Rattle.acl_posix.proofs.Common.{IfErr, IsFaultOf, IsValidList, Miss, OnOk, pairs, refl, rules}
use Rattle.acl_posix.proofs.sorting.ValidLists.{refused_from, one_fault, no_fault}
use Rattle.acl_posix.proofs.acl.PosixAcl.from_entries.Goals as goal

pub returns-in_err-entries-clause-refused : goal.returns-in_err-entries-clause-refused
returns-in_err-entries-clause-refused c = λ fault p is.
    let found : IfErr c.from_residual.result (IsFaultOf (pairs c.args.entries.items)) = search rules in
    let valid : OnOk c.from_residual.result (IsValidList (pairs c.args.entries.items)) = search rules in
    refused_from (pairs c.args.entries.items) c.from_residual.result fault valid found p is

pub returns-in-Some-clause-refused : goal.returns-in-Some-clause-refused
returns-in-Some-clause-refused c = λ fault p is q.
    one_fault (pairs c.args.entries.items) (Miss c.in-Some.tag) fault refl p (search rules) is

pub returns-in-None-clause-refused : goal.returns-in-None-clause-refused
returns-in-None-clause-refused c = λ fault p is. no_fault (pairs c.args.entries.items) fault (search rules) p is
