use Rattle.std.proofs.Common.{ap, sym, ◌∙◌}
use Rattle.aclck_c.specs.Entries.{raws_of_option}
use Rattle.aclck_c.proofs.posix.forms.entries_of.Goals as goal

pub returns-in-Some-clause-ok : goal.returns-in-Some-clause-ok
returns-in-Some-clause-ok c = record {
  table = c.in_ok-names.names;
  named = c.in_ok-names.ensures;
  acl = c.in_ok-acl.field-0;
  has = c.in_ok-acl.ensures.found;
  is = c.in_ok-raws_of-in-Some.ensures ∙ ap raws_of_option (sym c.in-Some.is);
}

pub returns-clause-ok : goal.returns-clause-ok
returns-clause-ok c = record {
  table = c.in_ok-names.names;
  named = c.in_ok-names.ensures;
  acl = c.in_ok-acl.field-0;
  has = c.in_ok-acl.ensures.found;
  is = c.new.ensures.items ∙ ap raws_of_option (sym c.in-None.is);
}
