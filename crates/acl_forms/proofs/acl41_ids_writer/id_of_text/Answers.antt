use Rattle.acl_forms.proofs.WhoLemmas.{made_id, parsed_err, parsed_ok}
use Rattle.acl_forms.proofs.acl41_ids_writer.id_of_text.Goals as goal

pub returns-in-Ok : goal.returns-in-Ok
returns-in-Ok c = λ n is e.
    made_id c.new.result c.in-Ok.number n
    (parsed_ok (Unit {0}) c.args.text.now n c.in-Ok.number is e c.in-Ok.ensures.value.0) is
    c.new.ensures.within c.new.ensures.value

pub returns-in-Err : goal.returns-in-Err
returns-in-Err c = λ n is e. absurd (parsed_err _ c.args.text.now n c.in-Err.field-0 is e c.in-Err.ensures.value.0)
