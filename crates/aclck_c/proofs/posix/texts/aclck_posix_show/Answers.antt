use Rattle.std.proofs.Common.{rules}
use Rattle.acl_posix.specs.Programs.{MakesOfFile, file_text}
use Rattle.aclck_c.specs.Posix.{IsShown, SpellsFile}
use Rattle.aclck_c.proofs.Endings.{in_words, writes_of_file}
use Rattle.aclck_c.proofs.FileFailures.{good_names, refused_names}
use Rattle.aclck_c.proofs.posix.texts.aclck_posix_show.Goals as goal

pub returns : goal.returns
returns c =
    let form = c.in-Some.form in
    let given = c.args.text.now in
    let options = c.args.options in
    let shown = in_words (MakesOfFile (SpellsFile given) (file_text form)) (IsShown given options) _
    (λ _ makes. record { form = form; is_form = search rules; makes = makes }) c.shown.ensures.ok in
    writes_of_file
    (λ _ h. good_names given.names.now h.makes.read.table h.makes.read.named) (refused_names _) (search rules) shown
    c.shown.ensures.err c.answer.ensures
