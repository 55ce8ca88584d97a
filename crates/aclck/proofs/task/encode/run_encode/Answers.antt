use Rattle.std.proofs.Common.{refl}
use Rattle.acl_perm.specs.Profile.{profile_of}
use Rattle.acl_nfs4.specs.AceText.{IsAceText}
use Rattle.aclck.specs.commands.Encode.{EncodeAnswer}
use Rattle.aclck.proofs.WritingLemmas.{written_answer}
use Rattle.aclck.proofs.task.encode.run_encode.Goals as goal

pub returns : goal.returns
returns g c =
    let input = c.in_ok-input in
    let list = c.in_ok-list in
    written_answer (EncodeAnswer (profile_of c.args.profile))
    {Holds = λ text. IsAceText (profile_of c.args.profile) list.list text} c.write_list_answer.result
    c.write_list_answer.ensures
    (record { input = input.input.items; is_input = input.ensures.ok; holds = list.ensures.read })
    (λ text read. (refl, record { list = list.list; read = read; is = refl })) input.ensures.end
    input.ensures.none_failed
