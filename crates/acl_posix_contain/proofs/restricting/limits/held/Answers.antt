use Rattle.std.proofs.Common.{◌∙◌}
use Rattle.acl_posix.specs.Tag.{tag_of}
use Rattle.acl_posix_contain.proofs.Bits.{none_held}
use Rattle.acl_posix_contain.proofs.restricting.limits.held.Goals as goal

pub returns : goal.returns
returns c = λ bit lt. c.held_or.ensures bit lt ∙ none_held c.args.acl.now (tag_of c.args.tag) bit
