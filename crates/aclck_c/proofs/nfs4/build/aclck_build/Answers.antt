use Rattle.std.proofs.Common.{rules}
use Rattle.std.specs.Prelude.{⊤}
use Rattle.aclck_c.specs.Build.{Builds, IsRefusedBuild}
use Rattle.aclck_c.specs.Options.{profile_from}
use Rattle.aclck_c.proofs.Endings.{judges_input, writes_bytes}
use Rattle.aclck_c.proofs.nfs4.build.aclck_build.Goals as goal

pub returns : goal.returns
returns c =
    let aces = c.args.aces.now in
    let p = profile_from c.args.options in
    record {
      bytes = writes_bytes (Builds p aces) c.built.result (rw c.in-Some.ensures.value at c.built.ensures.ok)
          c.answer.ensures;
      input = judges_input _ ⊤ (IsRefusedBuild p aces) c.built.result (search rules)
          (rw c.in-Some.ensures.value at c.built.ensures.err) c.answer.ensures;
    }
