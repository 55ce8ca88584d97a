use Rattle.aclck_c.proofs.posix.entries_made.masked.Goals as goal
use Rattle.std.proofs.Common.{◌∙◌, ap}
use Rattle.aclck_c.specs.Entries.{raws_of}

pub returns-clause-ok : goal.returns-clause-ok
returns-clause-ok c = record {
  acl = c.in_ok-acl.acl;
  holds = c.in_ok-acl.ensures.ok;
  is = c.in_ok-raws_of.ensures ∙ ap raws_of c.in_ok-calc_mask.ensures.ok;
}
