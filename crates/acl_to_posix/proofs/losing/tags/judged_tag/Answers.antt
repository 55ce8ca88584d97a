use Rattle.std.proofs.Common.{◌∙◌}
use Rattle.acl_posix.specs.Tag.{tag_of}
use Rattle.acl_to_posix.proofs.losses.LossTags.{place_is}
use Rattle.acl_to_posix.proofs.losing.tags.judged_tag.Goals as goal

pub returns-clause-judged : goal.returns-clause-judged
returns-clause-judged c = record {
  first = c.decided_place-first.ensures ∙ place_is (tag_of c.args.tag) c.args.wanted.now.first.now;
  second = c.decided_place-second.ensures ∙ place_is (tag_of c.args.tag) c.args.wanted.now.second.now;
  level = c.level-level.ensures;
  lacks = c.lacks-lacks.ensures;
}
