use Rattle.acl_posix.specs.Tag.{tag_of}
use Rattle.acl_to_posix.specs.internal.PruningBody.{is_denial}
use Rattle.acl_to_posix.proofs.prunings.JudgedEntries.{place_or_len}
use Rattle.acl_to_posix.proofs.judged_entry.denied_place.Goals as goal

pub returns : goal.returns
returns c = place_or_len (is_denial (tag_of c.args.name)) c.args.keys.now c.first_denied.result c.unwrap_or.result
    c.first_denied.ensures c.unwrap_or.ensures
