-- Whom an entry is for: its tag type with its qualifier (POSIX.1e draft 17, section 23.1.2; acl(5), "ACL ENTRIES").
use Rattle.std.specs.Prelude.{ℕ, Bool, true, false, List, codes, Option, Some, None, IfSome, is_some, unwrap_or}
use Rattle.std.specs.declared.cmp.Ordering.{Ordering}
use Rattle.std.specs.Ordering.{nat_cmp, ordering_then}
use Rattle.acl_posix.specs.declared.tag.Tag.{Tag as TagOfCode}
use Rattle.acl_posix.specs.declared.tag.Tag.TheVariants as code
use Rattle.acl_posix.specs.declared.field.TagWord.{TagWord}
use Rattle.acl_posix.specs.declared.field.TagWord.TheVariants.{User, Group, Mask, Other}
use Rattle.acl_posix.specs.Id.{IsId}

-- the owner, a user by id, the owning group, a group by id, the mask, or all others
pub data Tag : Type 0 where
  user_obj : Tag
  user : (id : ℕ) → Tag
  group_obj : Tag
  group : (id : ℕ) → Tag
  mask : Tag
  other : Tag

-- the facts about a tag: the place of its type in the canonical order, the name of the type in ASCII, its word in a
-- text, its qualifier, and whether the mask limits its entry, which is then one of the file group class
pub record TagRow : Type 0 where
  pub rank : ℕ
  pub name : List ℕ
  pub word : TagWord
  pub qualifier : Option ℕ
  pub masked : Bool

-- the tag types in canonical order; USER and GROUP have a qualifier, and USER, GROUP_OBJ and GROUP are limited
abbrev pub tag_row : Tag → TagRow
tag_row user_obj = record { rank = 0; name = codes "USER_OBJ"; word = User; qualifier = None; masked = false }
tag_row (user id) = record { rank = 1; name = codes "USER"; word = User; qualifier = Some id; masked = true }
tag_row group_obj = record { rank = 2; name = codes "GROUP_OBJ"; word = Group; qualifier = None; masked = true }
tag_row (group id) = record { rank = 3; name = codes "GROUP"; word = Group; qualifier = Some id; masked = true }
tag_row mask = record { rank = 4; name = codes "MASK"; word = Mask; qualifier = None; masked = false }
tag_row other = record { rank = 5; name = codes "OTHER"; word = Other; qualifier = None; masked = false }

-- the plain data of a tag of the code
abbrev pub tag_of : TagOfCode → Tag
tag_of code.UserObj = user_obj
tag_of (code.User id) = user id.value
tag_of code.GroupObj = group_obj
tag_of (code.Group id) = group id.value
tag_of code.Mask = mask
tag_of code.Other = other

-- a qualifier is the id of a user or a group
abbrev pub IsTag : Tag → Type 0
IsTag tag = IfSome (tag_row tag).qualifier IsId

-- the name of the tag type, in ASCII
abbrev pub name_of : Tag → List ℕ
name_of tag = (tag_row tag).name

-- the tag has a qualifier: USER or GROUP
abbrev pub is_named : Tag → Bool
is_named tag = is_some (tag_row tag).qualifier

-- the entries of the file group class, which the mask limits: USER, GROUP_OBJ and GROUP
abbrev pub is_masked : Tag → Bool
is_masked tag = (tag_row tag).masked

-- the place of a tag type in the canonical order: USER_OBJ, USER, GROUP_OBJ, GROUP, MASK, OTHER
abbrev pub rank : Tag → ℕ
rank tag = (tag_row tag).rank

-- the qualifier, or 0 if there is none
abbrev pub qualifier : Tag → ℕ
qualifier tag = unwrap_or (tag_row tag).qualifier 0

-- the canonical order: by tag type, then by qualifier
abbrev pub tag_cmp : Tag → Tag → Ordering
tag_cmp a b = ordering_then (nat_cmp (rank a) (rank b)) (nat_cmp (qualifier a) (qualifier b))
