use Rattle.acl_normal.proofs.Common.{IsNormalFormOf, subst}
use Rattle.acl_normal.proofs.unique.FiveFormLemmas.{forms_from}
use Rattle.acl_normal.proofs.five_forms.forms_of.Goals as goal

pub returns : goal.returns
returns c =
    forms_from c.args.list.now c.args.file_list.now c.args.directory_list.now _ c.requires.file c.requires.directory
    c.in_ok-object.ensures.form c.in_ok-file.ensures.form c.in_ok-directory.ensures (subst
    (λ l. IsNormalFormOf l c.in_ok-file_in_directory.file_in_directory) c.in_ok-inner_file.ensures.ok
    c.in_ok-file_in_directory.ensures)
    (subst (λ l. IsNormalFormOf l c.in_ok-directory_in_directory.directory_in_directory)
    c.in_ok-inner_directory.ensures.ok c.in_ok-directory_in_directory.ensures)
