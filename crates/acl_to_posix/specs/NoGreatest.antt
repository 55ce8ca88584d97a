-- That some lists have no greatest sound POSIX ACL (this library's own): for each of three lists there are two sound
-- ACLs, and no sound ACL grants all that both grant. The users and the groups are given by ids: a user has the id 1,
-- and a group the id 2.
use Rattle.std.specs.Prelude.{◌≡◌, ℕ, ◌==◌, false, List, [], ◌∷◌, ◌++◌}
use Rattle.std.specs.FinMap as set
use Rattle.acl_perm.specs.declared.kind.Kind.TheVariants.{Allow, Deny}
use Rattle.acl_posix.specs.Entries.{Entries, as_set}
use Rattle.acl_posix.specs.Excess.{GrantsNothingMore}
use Rattle.acl_posix.specs.Id.{IsId}
use Rattle.acl_posix.specs.Tag.{user_obj, user, group_obj, group, mask, other}
use Rattle.acl_posix.specs.Texts.{IsAcl}
use Rattle.acl_nfs4.specs.Ace.{Ace}
use Rattle.acl_eval.specs.Bridge.{ace_of}
use Rattle.acl_to_posix.specs.ToPosix.{IsSound}

-- some user other than the user 1 has no entry
pub record LeavesSomeOut (entries : Entries) : Type 0 where
  pub free : ℕ
  pub is_id : IsId free
  pub another : (free == 1) ≡ false
  pub unnamed : set.contains_key entries (user free) ≡ false

-- both ACLs are sound for the list, and no sound ACL that leaves out some user grants all that both grant
pub record HaveNoneAbove (list : List Ace) (first second : Entries) : Type 0 where
  pub first_sound : IsSound list first
  pub second_sound : IsSound list second
  pub none : (above : Entries) → IsAcl above → LeavesSomeOut above → IsSound list above
      → GrantsNothingMore first above → GrantsNothingMore second above → ⊥

-- members of the group may read, the user may not, and everyone else may
unfoldable pub denied_user : List Ace
denied_user = ace_of Allow (group 2) 4 ++ ace_of Deny (user 1) 4 ++ ace_of Allow other 4

-- everyone but the user may read
unfoldable pub all_but_the_user : Entries
all_but_the_user =
    as_set ((user_obj, 0) ∷ (user 1, 0) ∷ (group_obj, 4) ∷ (group 2, 4) ∷ (mask, 4) ∷ (other, 4) ∷ [])

-- members of the group may read
unfoldable pub members_alone : Entries
members_alone = as_set ((user_obj, 0) ∷ (group_obj, 0) ∷ (group 2, 4) ∷ (mask, 4) ∷ (other, 0) ∷ [])

-- members of the group may read, and the user may write
unfoldable pub two_permissions : List Ace
two_permissions = ace_of Allow (group 2) 4 ++ ace_of Allow (user 1) 2

-- the user may write, and other members of the group may read
unfoldable pub user_writes : Entries
user_writes = as_set ((user_obj, 0) ∷ (user 1, 2) ∷ (group_obj, 0) ∷ (group 2, 4) ∷ (mask, 6) ∷ (other, 0) ∷ [])

-- members of the group may read, and everyone may write who is not in the owning group
unfoldable pub two_groups : List Ace
two_groups = ace_of Allow (group 2) 4 ++ ace_of Deny group_obj 2 ++ ace_of Allow other 2

-- members of the group may read, and everyone may write who is in neither group
unfoldable pub members_read : Entries
members_read = as_set ((user_obj, 0) ∷ (group_obj, 0) ∷ (group 2, 4) ∷ (mask, 4) ∷ (other, 2) ∷ [])

-- everyone may write who is not in the owning group
unfoldable pub others_write : Entries
others_write = as_set ((user_obj, 0) ∷ (group_obj, 0) ∷ (mask, 0) ∷ (other, 2) ∷ [])
