-- Where a pruning ends, no sound ACL with names of the start grants more.
use Rattle.std.proofs.Common.{◌≤◌, ℕ, List, length}
use Rattle.acl_perm.specs.Bits.{IsPerm}
use Rattle.acl_posix.specs.Entries.{Entries}
use Rattle.acl_posix.specs.Excess.{GrantsNothingMore, GrantsNothingMoreOf}
use Rattle.acl_posix.specs.Texts.{IsAcl}
use Rattle.acl_nfs4.specs.Ace.{Ace}
use Rattle.acl_nfs4.specs.Limits.{most_aces}
use Rattle.acl_eval.specs.BridgeLaws.{IsSingle}
use Rattle.acl_to_posix.specs.Pruning.{PrunesTo}
use Rattle.acl_to_posix.specs.PruningLaws.{HasFewIds, IsAmong}
use Rattle.acl_to_posix.specs.ToPosix.{EntryShape, IsBest, IsSound}
use Rattle.acl_to_posix.proofs.prunings.Losses.{IsPart}
use Rattle.acl_to_posix.proofs.Matchings.{IsMatching, Matching}
use Rattle.acl_to_posix.proofs.prunings.PruningEnds.{end_part, part_above}
use Rattle.acl_to_posix.proofs.prunings.PruningSingles.{below_singles, pruned_singles, singles_deny, granted_single, steps_singles}
use Rattle.acl_to_posix.proofs.prunings.PruningSituations.{below_at, gives_from, gives_of, is_small, listed, small_at_end, steps_of, most_listed}
use Rattle.acl_to_posix.proofs.shapes.AclShapes.{among_part, among_shape, among_small, best_grants, grants_no_more, shape_among, sound_entry}
use Rattle.acl_to_posix.proofs.prunings.PruningSteps.{Gives}
use Rattle.acl_to_posix.proofs.columns.TagMatchings.{granted_to}

-- a shape with names of the start, which gives each single permission that the last shape gives, has all its names
pub last_within : (list : List Ace) (one two t : EntryShape) → length list ≤ most_listed → HasFewIds one
    → PrunesTo list one two → IsPart one t
    → ((m : Matching) (want : ℕ) → IsMatching m → IsPerm want → IsSingle want → Gives (granted_to list) two m want
    → Gives (granted_to list) t m want)
    → IsPart t two
last_within list one two t short f p names above =
    end_part (granted_single list) one two t (singles_deny list) (record {
      ids = record { users = f.users; groups = f.groups };
      steps = steps_singles list one two (steps_of list one two p.steps short (is_small one f));
      names = names;
      above = below_singles list two t above;
    }) (pruned_singles list one two short (small_at_end list one two p.steps (is_small one f)) p)

-- the ACL of a pruning is maximal, for a list that may have four ACEs more than most_aces
longer_is_maximal : (list : List Ace) (one two : EntryShape) (best : Entries) → length list ≤ most_listed
    → HasFewIds one → PrunesTo list one two → IsBest list two best → (acl : Entries) → IsAcl acl → IsAmong one acl
    → IsSound list acl → ((want : ℕ) → IsSingle want → GrantsNothingMoreOf best acl want) → GrantsNothingMore acl best
longer_is_maximal list one two best short f p is acl valid among sound less =
    let t = shape_among one acl in
    let s = is_small one f in
    let g = among_small one acl s in
    let e = small_at_end list one two p.steps s in
    let shaped = among_shape one acl among in
    let names = among_part one acl in
    let within = last_within list one two t short f p names (λ m want ok small single given.
    below_at list two t want short e g (λ object requester asked before.
    gives_of list t object requester want short g (sound_entry list t acl object requester want valid shaped
    small (λ o r a yes. sound o r a want small yes) (less want single object requester
    (record { owner = asked.owner; group = asked.owning_group; user = asked.asker })
    (best_grants list two best object requester want is small (gives_from list two object requester want before)))))
    m ok given) in
    grants_no_more list two t best acl short e g is valid shaped sound
    (part_above (granted_to list) one two t (record { users = f.users; groups = f.groups })
    (steps_of list one two p.steps short s) names within)

-- the ACL of a pruning is maximal
pub end_is_maximal : (list : List Ace) (one two : EntryShape) (best : Entries) → length list ≤ most_aces
    → HasFewIds one → PrunesTo list one two → IsBest list two best → (acl : Entries) → IsAcl acl → IsAmong one acl
    → IsSound list acl → ((want : ℕ) → IsSingle want → GrantsNothingMoreOf best acl want) → GrantsNothingMore acl best
end_is_maximal list one two best short = longer_is_maximal list one two best (listed list short)
