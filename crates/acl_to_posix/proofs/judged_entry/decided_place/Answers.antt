use Rattle.acl_posix.specs.Tag.{tag_of}
use Rattle.acl_to_posix.specs.internal.ShapeBody.{is_certain}
use Rattle.acl_to_posix.proofs.prunings.JudgedEntries.{place_or_len}
use Rattle.acl_to_posix.proofs.judged_entry.decided_place.Goals as goal

pub returns : goal.returns
returns c = place_or_len (λ key. is_certain (tag_of c.args.entry) (tag_of key.whom)) c.args.keys.now
    c.first_certain.result c.unwrap_or.result c.first_certain.ensures c.unwrap_or.ensures
