use Rattle.std.proofs.Common.{refl}
use Rattle.aclck_c.proofs.posix.forms.acl_in.Goals as goal

pub returns-in_ok-read_attribute-in-Attribute-clause-found :
    goal.returns-in_ok-read_attribute-in-Attribute-clause-found
returns-in_ok-read_attribute-in-Attribute-clause-found c = rw c.in-Attribute.is (record {
  spelled = c.in_ok-read_attribute-in-Attribute.field-0;
  is_spelled = c.in_ok-read_attribute-in-Attribute.ensures.found;
  is = refl;
})

pub returns-in_ok-read_posix_text-in-Text-clause-found :
    goal.returns-in_ok-read_posix_text-in-Text-clause-found
returns-in_ok-read_posix_text-in-Text-clause-found c = rw c.in-Text.is (record {
  spelled = c.in_ok-read_posix_text-in-Text.field-0;
  is_spelled = c.in_ok-read_posix_text-in-Text.ensures.found;
  is = refl;
})

pub returns-in_ok-read_posix_text-in-DefaultOfText-clause-found :
    goal.returns-in_ok-read_posix_text-in-DefaultOfText-clause-found
returns-in_ok-read_posix_text-in-DefaultOfText-clause-found c = rw c.in-DefaultOfText.is (record {
  spelled = c.in_ok-read_posix_text-in-DefaultOfText.field-0;
  is_spelled = c.in_ok-read_posix_text-in-DefaultOfText.ensures.found;
  is = refl;
})

pub returns-in_ok-read_default_text-in-DefaultText-clause-found :
    goal.returns-in_ok-read_default_text-in-DefaultText-clause-found
returns-in_ok-read_default_text-in-DefaultText-clause-found c = rw c.in-DefaultText.is (record {
  spelled = c.in_ok-read_default_text-in-DefaultText.field-0;
  is_spelled = c.in_ok-read_default_text-in-DefaultText.ensures.found;
  is = refl;
})
