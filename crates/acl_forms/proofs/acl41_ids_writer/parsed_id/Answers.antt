use Rattle.std.proofs.Common.{◌∙◌}
use Rattle.acl_forms.proofs.WhoLemmas.{digits_utf8}
use Rattle.acl_forms.proofs.acl41_ids_writer.parsed_id.Goals as goal

pub returns-in-Ok : goal.returns-in-Ok
returns-in-Ok c = λ n is e. c.id_of_text.ensures n is (c.in-Ok.ensures.cases.0 ∙ e)

pub returns-in-Err : goal.returns-in-Err
returns-in-Err c = λ n is e. absurd (c.in-Err.ensures.cases.0 (digits_utf8 c.args.who.now n is e))
