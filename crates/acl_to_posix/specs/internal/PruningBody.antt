-- How users and groups are taken out of a shape without loss, from what is known of each entry at the start: this
-- library's own.
use Rattle.std.specs.Prelude.{◌≡◌, ◌≤◌, ℕ, ◌&&◌, ◌||◌, not, Bool, false, true, List, [], ◌∷◌, if◌then◌else◌, nat_lt}
use Rattle.std.specs.List.{AllByRecursion, list_all, list_any, position_or_len}
use Rattle.std.specs.Ordering.{eq_by_cmp}
use Rattle.acl_perm.specs.Bits.{has_bit}
use Rattle.acl_perm.specs.Kind.{is_allow}
use Rattle.acl_posix.specs.Check.{contains}
use Rattle.acl_posix.specs.Tag.{Tag, user_obj, user, group_obj, group, mask, other, is_named, tag_cmp, tag_of}
use Rattle.acl_eval.specs.Permissions.{execute, read, write}
use Rattle.acl_to_posix.specs.Pruning.{is_shared}
use Rattle.acl_to_posix.specs.ToPosix.{EntryShape, is_in_shape, size_of}
use Rattle.acl_to_posix.specs.internal.ShapeBody.{HasPassAnswers, is_certain, most_names, users_of}
use Rattle.acl_to_posix.specs.declared.judged_entry.JudgedEntry.{JudgedEntry}
use Rattle.acl_to_posix.specs.declared.judged_entry.Places.{Places}
use Rattle.acl_to_posix.specs.declared.tag_column.TagColumns.{TagColumns}
use Rattle.acl_to_posix.specs.declared.tag_column.TagKey.{TagKey}

-- ---- what is known of an entry

-- the place of the first key that is certain for an entry, or the number of keys
abbrev pub decided_place : Tag → List TagKey → ℕ
decided_place entry keys = position_or_len (λ key. is_certain entry (tag_of key.whom)) keys

-- the same if the entry has the permission, and otherwise 0
abbrev pub decided_if : Bool → Tag → List TagKey → ℕ
decided_if has entry keys = if has then decided_place entry keys else 0

-- the key is a DENY of a principal
abbrev pub is_denial : Tag → TagKey → Bool
is_denial name key = eq_by_cmp tag_cmp (tag_of key.whom) name && not (is_allow key.kind)

-- the place of the DENY of a principal, or the number of keys
abbrev pub denied_place : Tag → List TagKey → ℕ
denied_place name keys = position_or_len (is_denial name) keys

-- the places at which the rights of these permissions are decided
pub record AreDecidedAt (columns : TagColumns) (entry : Tag) (perm : ℕ) (places : Places) : Type 0 where
  pub of_read : places.read ≡ decided_if (has_bit perm read) entry columns.read.items
  pub of_write : places.write ≡ decided_if (has_bit perm write) entry columns.write.items
  pub of_append : places.append ≡ decided_if (has_bit perm write) entry columns.append.items
  pub of_execute : places.execute ≡ decided_if (has_bit perm execute) entry columns.execute.items

-- the places at which the rights are denied to a principal
pub record AreDenied (columns : TagColumns) (name : Tag) (places : Places) : Type 0 where
  pub of_read : places.read ≡ denied_place name columns.read.items
  pub of_write : places.write ≡ denied_place name columns.write.items
  pub of_append : places.append ≡ denied_place name columns.append.items
  pub of_execute : places.execute ≡ denied_place name columns.execute.items

-- an entry of the shape, with its permissions and its places
pub record IsJudged (columns : TagColumns) (shape : EntryShape) (e : JudgedEntry) : Type 0 where
  pub there : is_in_shape shape (tag_of e.tag) ≡ true
  pub answers : HasPassAnswers columns shape (tag_of e.tag) e.perm.bits
  pub decided : AreDecidedAt columns (tag_of e.tag) e.perm.bits e.decided
  pub denied : AreDenied columns (tag_of e.tag) e.denied

-- ---- which names can go

-- the check looks at the entry in more situations when the name has no entry any more
abbrev pub is_asked_more : Tag → Tag → Bool
is_asked_more entry user_obj = false
is_asked_more entry (user id) = true
is_asked_more entry group_obj = false
is_asked_more entry (group id) = eq_by_cmp tag_cmp entry other
is_asked_more entry mask = false
is_asked_more entry other = false

-- no right is denied before the place where it is decided
abbrev pub are_before : Places → Places → Bool
are_before decided denied = not (nat_lt denied.read decided.read) && (not (nat_lt denied.write decided.write)
    && (not (nat_lt denied.append decided.append) && not (nat_lt denied.execute decided.execute)))

-- the entry keeps what it has when the name is taken out, and has what the entry of the name had
abbrev pub keeps_without : JudgedEntry → JudgedEntry → Bool
keeps_without name entry = contains entry.perm.bits name.perm.bits
    && (not (is_asked_more (tag_of entry.tag) (tag_of name.tag)) || are_before entry.decided name.denied)

-- the same, for each entry that can lose something
abbrev pub stands_without : JudgedEntry → JudgedEntry → Bool
stands_without name entry = not (is_shared (tag_of entry.tag))
    || (eq_by_cmp tag_cmp (tag_of entry.tag) (tag_of name.tag) || keeps_without name entry)

-- the entry is one of a user or a group that can go
abbrev pub can_go : List JudgedEntry → JudgedEntry → Bool
can_go left name = is_named (tag_of name.tag) && list_all (stands_without name) left

-- ---- the shape that is left

-- the ids with that of a user before them
abbrev pub user_before : Tag → List ℕ → List ℕ
user_before user_obj ids = ids
user_before (user id) ids = id ∷ ids
user_before group_obj ids = ids
user_before (group id) ids = ids
user_before mask ids = ids
user_before other ids = ids

-- the ids with that of a group before them
abbrev pub group_before : Tag → List ℕ → List ℕ
group_before user_obj ids = ids
group_before (user id) ids = ids
group_before group_obj ids = ids
group_before (group id) ids = id ∷ ids
group_before mask ids = ids
group_before other ids = ids

-- the ids of the users
abbrev pub users_left : List JudgedEntry → List ℕ
users_left [] = []
users_left (e ∷ left) = user_before (tag_of e.tag) (users_left left)

-- the ids of the groups
abbrev pub groups_left : List JudgedEntry → List ℕ
groups_left [] = []
groups_left (e ∷ left) = group_before (tag_of e.tag) (groups_left left)

-- the users and the groups of some entries
abbrev pub shape_left : List JudgedEntry → EntryShape
shape_left left = record { users = users_left left; groups = groups_left left }

-- one of the entries has the tag
abbrev pub has_entry : Tag → List JudgedEntry → Bool
has_entry tag left = list_any (λ e. eq_by_cmp tag_cmp (tag_of e.tag) tag) left

-- entries of a shape: those of GROUP_OBJ and OTHER, and those of the users and groups that are done so far
pub record AreJudgedFor (columns : TagColumns) (shape done : EntryShape) (left : List JudgedEntry) : Type 0 where
  pub each : AllByRecursion (IsJudged columns shape) left
  pub named : shape_left left ≡ done
  pub owning : has_entry group_obj left ≡ true
  pub others : has_entry other left ≡ true

-- the same once the users are done
abbrev pub AreUsersJudged : TagColumns → EntryShape → List JudgedEntry → Type 0
AreUsersJudged columns shape left = AreJudgedFor columns shape (users_of shape) left

-- the same once the users and the groups are done
abbrev pub AreAllJudged : TagColumns → EntryShape → List JudgedEntry → Type 0
AreAllJudged columns shape left = AreJudgedFor columns shape shape left

-- the entries of a shape without USER_OBJ, each with what is known of it
abbrev pub AreJudged : TagColumns → List JudgedEntry → Type 0
AreJudged columns left = AreAllJudged columns (shape_left left) left × (size_of (shape_left left) ≤ most_names)
