use Rattle.std.proofs.Common.{rules}
use Rattle.acl_normal.proofs.five_forms.FormsOut.{after_directory, after_file, after_inner_file, cut_out, directory_out, file_out, last_out, object_out, one_out}
use Rattle.acl_normal.proofs.five_forms.put_forms.Goals as goal

pub returns-in_err-file-clause-written : goal.returns-in_err-file-clause-written
returns-in_err-file-clause-written g c =
    let f = c.args.forms.now in
    let object = object_out f c.in_ok-object.ensures.written in
    let out = cut_out _ f.file (after_file f) object c.in_err-file.ensures.written in
    search (out, rules)

pub returns-in_err-directory-clause-written : goal.returns-in_err-directory-clause-written
returns-in_err-directory-clause-written g c =
    let f = c.args.forms.now in
    let file = file_out f _ c.in_ok-object.ensures.written c.in_ok-file.ensures.written in
    let out = cut_out _ f.directory (after_directory f) file c.in_err-directory.ensures.written in
    search (out, rules)

pub returns-in_err-inner_file-clause-written : goal.returns-in_err-inner_file-clause-written
returns-in_err-inner_file-clause-written g c =
    let f = c.args.forms.now in
    let directory = directory_out f _ _ c.in_ok-object.ensures.written c.in_ok-file.ensures.written
    c.in_ok-directory.ensures.written in
    let out = cut_out _ f.file_in_directory (after_inner_file f) directory
    c.in_err-inner_file.ensures.written in
    search (out, rules)

pub returns-clause-written : goal.returns-clause-written
returns-clause-written g c =
    let f = c.args.forms.now in
    let directory = directory_out f _ _ c.in_ok-object.ensures.written c.in_ok-file.ensures.written
    c.in_ok-directory.ensures.written in
    let inner_file = one_out f.file_in_directory (after_inner_file f) directory
    c.in_ok-inner_file.ensures.written in
    last_out _ _ c.put_list-5.result inner_file c.put_list-5.ensures.written
