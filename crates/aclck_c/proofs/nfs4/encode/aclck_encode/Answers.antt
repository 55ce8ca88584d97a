use Rattle.std.proofs.Common.{rules}
use Rattle.std.specs.Prelude.{⊤}
use Rattle.acl_nfs4.specs.Programs.{Encodes}
use Rattle.aclck_c.specs.Encode.{IsRefusedText}
use Rattle.aclck_c.specs.Options.{profile_from}
use Rattle.aclck_c.proofs.Endings.{judges_input, writes_bytes}
use Rattle.aclck_c.proofs.nfs4.encode.aclck_encode.Goals as goal

pub returns : goal.returns
returns c =
    let text = c.args.text.now in
    let p = profile_from c.args.options in
    record {
      bytes = writes_bytes (Encodes p text) c.bytes_of.result (rw c.in-Some.ensures.value at c.bytes_of.ensures.ok)
          c.answer.ensures;
      input = judges_input _ ⊤ (IsRefusedText p text) c.bytes_of.result (search rules)
          (rw c.in-Some.ensures.value at c.bytes_of.ensures.err) c.answer.ensures;
    }
