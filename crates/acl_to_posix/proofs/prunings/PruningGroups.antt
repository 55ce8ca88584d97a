-- The groups of a requester that are not ids play no part in the access check.
use Rattle.std.proofs.Common.{◌≡◌, ◌++◌, ℕ, true}
use Rattle.acl_perm.specs.Bits.{IsPerm}
use Rattle.acl_posix.specs.Check.{Object, Requester, grants}
use Rattle.acl_posix.specs.Entries.{Entries}
use Rattle.acl_posix.specs.Excess.{AreParties}
use Rattle.acl_posix.specs.Texts.{IsAcl}
use Rattle.acl_to_posix.specs.ToPosix.{EntryShape, HasShape}
use Rattle.acl_to_posix.specs.internal.ShapeBody.{tag_meets}
use Rattle.acl_to_posix.proofs.prunings.PruningKept.{looks_from, looks_of}
use Rattle.acl_to_posix.proofs.prunings.PruningSituations.{IsSmall}
use Rattle.acl_to_posix.proofs.shapes.AclShapes.{shape_within, small_agree, with_ids_only}
use Rattle.acl_to_posix.proofs.RealMatchings.{agree_back, agree_looks}
use Rattle.acl_to_posix.proofs.shapes.ShapeChecks.{all_contain, granted, looked}

-- a requester is granted what the same requester is granted with only those groups that are ids
pub with_all_groups : (acl : Entries) (t : EntryShape) (object : Object) (requester : Requester) (want : ℕ) → IsAcl acl
    → HasShape t acl → IsSmall t → AreParties object requester → IsPerm want
    → grants acl object (with_ids_only requester) want ≡ true → grants acl object requester want ≡ true
with_all_groups acl t object requester want valid shaped f p small allowed =
    let at = looked t acl object (with_ids_only requester) want valid.valid shaped (all_contain want small) allowed in
    granted t acl object requester want at.entry valid.valid shaped (all_contain want small)
    (looks_from t object requester at.entry
    (agree_looks (t.users ++ t.groups) (tag_meets object (with_ids_only requester))
    (tag_meets object requester) t at.entry
    (small_agree t object requester f p) (shape_within t)
    (looks_of t object (with_ids_only requester) at.entry at.looks))) at.holds

-- and the other way round
pub with_fewer_groups : (acl : Entries) (t : EntryShape) (object : Object) (requester : Requester) (want : ℕ)
    → IsAcl acl → HasShape t acl → IsSmall t → AreParties object requester → IsPerm want
    → grants acl object requester want ≡ true → grants acl object (with_ids_only requester) want ≡ true
with_fewer_groups acl t object requester want valid shaped f p small allowed =
    let at = looked t acl object requester want valid.valid shaped (all_contain want small) allowed in
    granted t acl object (with_ids_only requester) want at.entry valid.valid shaped (all_contain want small)
    (looks_from t object (with_ids_only requester) at.entry
    (agree_looks (t.users ++ t.groups) (tag_meets object requester)
    (tag_meets object (with_ids_only requester)) t at.entry
    (agree_back (t.users ++ t.groups) (tag_meets object (with_ids_only requester)) (tag_meets object requester)
    (small_agree t object requester f p)) (shape_within t) (looks_of t object requester at.entry at.looks)))
    at.holds
