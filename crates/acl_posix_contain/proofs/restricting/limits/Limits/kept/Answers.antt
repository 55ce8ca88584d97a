use Rattle.acl_posix.specs.Tag.{tag_of}
use Rattle.acl_posix.proofs.Exports.{tag_within}
use Rattle.acl_posix_contain.proofs.Entries.{tags_within}
use Rattle.acl_posix_contain.proofs.Keeping.{kept_is}
use Rattle.acl_posix_contain.proofs.Looking.{valid_is_complete}
use Rattle.acl_posix_contain.proofs.restricting.limits.Limits.kept.Goals as goal

pub returns : goal.returns
returns c =
    let l = c.requires.limits in
    kept_is c.args.acl.now c.args.bound.now c.args.self.now.free_user l.free_group (tag_of c.args.entry.tag)
    c.args.entry.perm.bits c.effective-granted.result.bits c.limit.result.bits c.difference-excess.result.bits
    c.difference.result.bits (record {
      list = valid_is_complete c.args.acl.now c.requires.valid;
      bound = valid_is_complete c.args.bound.now l.valid;
      tags = tags_within c.args.bound.now l.within;
      users = l.users;
      groups = l.groups;
    }) (tag_within c.args.entry.tag) c.args.entry.perm.within c.effective-granted.ensures (c.limit.ensures _ l.limits)
    c.difference-excess.ensures.meaning c.difference.ensures.meaning
