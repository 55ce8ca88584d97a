-- From the list of a POSIX ACL, a pruning leads back to an ACL that grants the same.
use Rattle.std.proofs.Common.{◌≤◌, ℕ, length}
use Rattle.acl_perm.proofs.Bools.{same_answers}
use Rattle.acl_posix.specs.Entries.{Entries}
use Rattle.acl_posix.specs.Excess.{AnswerAlike, GrantsNothingMoreOf}
use Rattle.acl_posix.specs.Texts.{IsAcl}
use Rattle.acl_nfs4.specs.Limits.{most_aces}
use Rattle.acl_eval.specs.Bridge.{bridge_list}
use Rattle.acl_eval.specs.BridgeLaws.{IsSingle}
use Rattle.acl_to_posix.specs.Pruning.{PrunesTo}
use Rattle.acl_to_posix.specs.PruningLaws.{HasFewIds, IsAmong, IsExactFor}
use Rattle.acl_to_posix.specs.ToPosix.{EntryShape, IsBest}
use Rattle.acl_eval.proofs.BridgeLaws.{grants_singles, keeps_grants}
use Rattle.acl_eval.proofs.Singles.{single_small}
use Rattle.acl_to_posix.proofs.prunings.PruningGroups.{with_all_groups, with_fewer_groups}
use Rattle.acl_to_posix.proofs.prunings.PruningMaximal.{end_is_maximal}
use Rattle.acl_to_posix.proofs.prunings.PruningSets.{no_more_sets}
use Rattle.acl_to_posix.proofs.prunings.PruningSituations.{is_small, small_at_end}
use Rattle.acl_to_posix.proofs.shapes.AclShapes.{among_shape, among_small, only_asked, shape_among, with_ids_only}
use Rattle.acl_to_posix.proofs.shapes.ShapeChecks.{best_sound}

-- a single permission that the last ACL grants, the first grants
back_single : (entries : Entries) (one two : EntryShape) (back : Entries) → IsAcl entries → HasFewIds one
    → IsAmong one entries → PrunesTo (bridge_list entries) one two → IsBest (bridge_list entries) two back
    → (want : ℕ) → IsSingle want → GrantsNothingMoreOf back entries want
back_single entries one two back valid f among p is want single object requester parties allowed =
    let s = is_small one f in
    let small = single_small want single in
    let e = small_at_end (bridge_list entries) one two p.steps s in
    let asked = only_asked object requester parties in
    let fewer = with_fewer_groups back two object requester want is.valid is.shaped e parties small allowed in
    with_all_groups entries (shape_among one entries) object requester want valid (among_shape one entries among)
    (among_small one entries s) parties small
    ((grants_singles entries object (with_ids_only requester) want valid asked single).0
    (best_sound (bridge_list entries) two back is object (with_ids_only requester) asked want small fewer))

-- an ACL agrees with its list on single permissions
bridge_exact : (entries : Entries) → IsAcl entries → IsExactFor (bridge_list entries) entries
bridge_exact entries valid object requester want asked single =
    let both = grants_singles entries object requester want valid asked single in (both.1, both.0)

-- a pruning of the list of an ACL ends in an ACL that answers as the ACL does
pub leads_back : (entries : Entries) (one two : EntryShape) (back : Entries) → IsAcl entries
    → length (bridge_list entries) ≤ most_aces → HasFewIds one → IsAmong one entries
    → PrunesTo (bridge_list entries) one two → IsBest (bridge_list entries) two back → AnswerAlike entries back
leads_back entries one two back valid short f among p is want small object requester parties =
    let more = end_is_maximal (bridge_list entries) one two back short f p is entries valid among
    (λ o r asked w few yes. keeps_grants entries o r w valid asked few yes)
    (back_single entries one two back valid f among p is) in
    let less = no_more_sets (bridge_list entries) one two back entries short f p is valid among
    (bridge_exact entries valid) in
    same_answers _ _ (more want small object requester parties) (less want small object requester parties)
