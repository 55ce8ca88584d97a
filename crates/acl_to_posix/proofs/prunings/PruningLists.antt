-- Prunings from one shape: their order plays no part, and lists that grant the same have the same prunings.
use Rattle.std.proofs.Common.{◌≡◌, ◌≤◌, ℕ, true, List, sym, subst, length}
use Rattle.acl_perm.proofs.Bools.{same_answers}
use Rattle.acl_perm.specs.Bits.{IsPerm}
use Rattle.acl_posix.specs.Check.{Object, Requester, grants}
use Rattle.acl_posix.specs.Entries.{Entries}
use Rattle.acl_posix.specs.Excess.{AnswerAlike}
use Rattle.acl_posix.specs.Tag.{Tag}
use Rattle.acl_nfs4.specs.Ace.{Ace}
use Rattle.acl_nfs4.specs.Limits.{most_aces}
use Rattle.acl_to_posix.specs.Pruning.{LosesNothing, Prunes, PrunesTo, ShapeGrants, none, next, taken_out}
use Rattle.acl_to_posix.specs.PruningLaws.{EndsAlike, GrantSamePermissions, HasFewIds}
use Rattle.acl_to_posix.specs.ToPosix.{AlwaysHas, EntryShape, IsBest}
use Rattle.acl_to_posix.proofs.prunings.PruningOrder.{one_end}
use Rattle.acl_to_posix.proofs.prunings.PruningSituations.{IsSmall, is_small, listed, loses_of, most_listed, small_at_end, steps_of}
use Rattle.acl_to_posix.proofs.shapes.AclShapes.{best_grants, sound_entry}
use Rattle.acl_to_posix.proofs.prunings.PruningSteps.{IsPruned}
use Rattle.acl_to_posix.proofs.shapes.ShapeChecks.{best_sound}
use Rattle.acl_to_posix.proofs.columns.TagMatchings.{granted_to, one_group_denies}

-- ---- one end

-- where a pruning of a list ends, no name can be taken out under matchings, either
pub pruned_of : (list : List Ace) (s t : EntryShape) → length list ≤ most_listed → IsSmall t → PrunesTo list s t
    → IsPruned (granted_to list) t
pruned_of list s t short f p name n there below = p.last name n there (loses_of list t (taken_out name t) short f below)

-- all prunings of a list from one shape end in one shape
pub has_one_end : (list : List Ace) (one two three : EntryShape) → length list ≤ most_aces → HasFewIds one
    → PrunesTo list one two → PrunesTo list one three → two ≡ three
has_one_end list one two three short f p q =
    let s = is_small one f in
    let long = listed list short in
    one_end (granted_to list) one two (steps_of list one two p.steps long s) three (one_group_denies list)
    (record { users = f.users; groups = f.groups })
    (pruned_of list one two long (small_at_end list one two p.steps s) p)
    (steps_of list one three q.steps long s)
    (pruned_of list one three long (small_at_end list one three q.steps s) q)

-- ---- lists that grant the same

-- if two lists grant the same permissions, so they do in the other order
pub alike_back : (list second : List Ace) → GrantSamePermissions list second → GrantSamePermissions second list
alike_back list second a object requester want asked small =
    ((a object requester want asked small).1, (a object requester want asked small).0)

-- if two lists grant the same permissions, an entry always has the same for both
pub alike_always : (list second : List Ace) (s : EntryShape) (e : Tag) (want : ℕ) → GrantSamePermissions list second
    → IsPerm want → AlwaysHas list s e want → AlwaysHas second s e want
alike_always list second s e want a small has object requester asked l =
    (a object requester want asked small).0 (has object requester asked l)

-- what the ACL of a shape grants for one of them, it grants for the other
alike_gives : (list second : List Ace) (s : EntryShape) (object : Object) (requester : Requester) (want : ℕ)
    → GrantSamePermissions list second → IsPerm want → ShapeGrants list s object requester want
    → ShapeGrants second s object requester want
alike_gives list second s object requester want a small g = record {
  entry = g.entry;
  looks = g.looks;
  has = alike_always list second s g.entry want a small g.has;
}

-- where nothing is lost for one of them, nothing is lost for the other
alike_loses : (list second : List Ace) (s t : EntryShape) → GrantSamePermissions list second → LosesNothing list s t
    → LosesNothing second s t
alike_loses list second s t a loses object requester asked want small g =
    alike_gives list second t object requester want a small (loses object requester asked want small
    (alike_gives second list s object requester want (alike_back list second a) small g))

-- a pruning by one of them is a pruning by the other
alike_prunes : (list second : List Ace) (s t : EntryShape) → Prunes list s t → GrantSamePermissions list second
    → Prunes second s t
alike_prunes list second x y (none s) a = none s
alike_prunes list second x y (next s t name n there loses rest) a =
    next s t name n there (alike_loses list second s (taken_out name s) a loses)
    (alike_prunes list second (taken_out name s) t rest a)

-- if two lists grant the same permissions, a pruning of one is a pruning of the other
pub alike_prunes_to : (list second : List Ace) (s t : EntryShape) → GrantSamePermissions list second → PrunesTo list s t
    → PrunesTo second s t
alike_prunes_to list second s t a p = record {
  steps = alike_prunes list second s t p.steps a;
  last = λ name n there loses. p.last name n there
      (alike_loses second list t (taken_out name t) (alike_back list second a) loses);
}

-- what the ACL of one list grants, the ACL of the other grants
alike_grants : (list second : List Ace) (s : EntryShape) (best one_more : Entries) (object : Object)
    (requester : Requester) (want : ℕ) → GrantSamePermissions list second → IsPerm want → IsBest list s best
    → IsBest second s one_more → grants best object requester want ≡ true → grants one_more object requester want ≡ true
alike_grants list second s best one_more object requester want a small is other_is allowed =
    best_grants second s one_more object requester want other_is small
    (alike_gives list second s object requester want a small
    (sound_entry list s best object requester want is.valid is.shaped small
    (λ o r asked yes. best_sound list s best is o r asked want small yes) allowed))

-- the ACLs of one shape for both answer alike
alike_answers : (list second : List Ace) (s : EntryShape) (best one_more : Entries) → GrantSamePermissions list second
    → IsBest list s best → IsBest second s one_more → AnswerAlike best one_more
alike_answers list second s best one_more a is other_is want small object requester p = same_answers _ _
    (alike_grants list second s best one_more object requester want a small is other_is)
    (alike_grants second list s one_more best object requester want (alike_back list second a) small other_is is)

-- prunings from one shape for lists that grant the same permissions end alike
pub grants_decide : (list second : List Ace) (one two three : EntryShape) (best one_more : Entries)
    → length second ≤ most_aces → HasFewIds one → GrantSamePermissions list second → PrunesTo list one two
    → IsBest list two best
    → PrunesTo second one three → IsBest second three one_more → EndsAlike two three best one_more
grants_decide list second one two three best one_more short f a p is q other_is =
    let same = has_one_end second one two three short f (alike_prunes_to list second one two a p) q in
    record {
      shape = same;
      answers = alike_answers list second two best one_more a is
          (subst (λ (s : EntryShape). IsBest second s one_more) (sym same) other_is);
    }
