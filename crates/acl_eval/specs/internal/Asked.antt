-- The situation of what the code keeps about a requester and an object: this library's own.
use Rattle.acl_perm.specs.Situation.{Situation}
use Rattle.acl_eval.specs.Situation.{situation}
use Rattle.acl_eval.specs.declared.matching.Matcher.{Matcher}

-- the situation in which the requester requests access to the object
abbrev pub asked_situation : Matcher → Situation
asked_situation matcher = situation matcher.object matcher.requester
