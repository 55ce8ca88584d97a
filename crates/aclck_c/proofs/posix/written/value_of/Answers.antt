use Rattle.std.proofs.Common.{subst}
use Rattle.acl_forms.specs.PosixNames.{NamesOfIds}
use Rattle.aclck_c.specs.PosixWriting.{IsPosixValueOf, MakesPosixValue}
use Rattle.aclck_c.proofs.Endings.{in_words}
use Rattle.aclck_c.proofs.posix.written.value_of.Goals as goal

pub returns-clause-ok : goal.returns-clause-ok
returns-clause-ok c = in_words (IsPosixValueOf c.args.form c.in_ok-ids.ids c.in_ok-acl.acl)
    (MakesPosixValue c.args.form c.args.names.now c.args.entries.now) c.written.result
    (λ value made. record {
      named = c.in_ok-ids.ensures.0;
      acl = c.in_ok-acl.acl;
      holds = c.in_ok-acl.ensures.ok;
      made = subst (λ (ids : NamesOfIds). IsPosixValueOf c.args.form ids c.in_ok-acl.acl value)
          c.in_ok-ids.ensures.1 made;
    }) c.written.ensures.ok
