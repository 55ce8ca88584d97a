use Rattle.std.proofs.Common.{◌∙◌, ap}
use Rattle.acl_nfs4.specs.Spelling.{spelling}
use Rattle.aclck_c.proofs.posix.entries_made.bridged.Goals as goal

pub returns-clause-ok : goal.returns-clause-ok
returns-clause-ok c = record {
  acl = c.in_ok-acl.acl;
  holds = c.in_ok-acl.ensures.ok;
  spelled = record {
    accepted = c.in_ok-list.ensures.accepted;
    spelled = c.in_ok-to_bytes.ensures ∙ ap spelling c.in_ok-list.ensures.list;
  };
}
