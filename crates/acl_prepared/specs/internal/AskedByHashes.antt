-- The situation of an object and a requester that are kept with their hashes: this library's own.
use Rattle.acl_perm.specs.Situation.{Situation}
use Rattle.acl_eval.specs.Situation.{situation}
use Rattle.acl_prepared.specs.declared.hash_matching.HashMatcher.{HashMatcher}

-- the situation in which the requester requests access to the object
abbrev pub situation_by_hashes : HashMatcher → Situation
situation_by_hashes matcher = situation matcher.object matcher.requester
