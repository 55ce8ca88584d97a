-- The file mode bits of a set of entries (acl(5), "CORRESPONDENCE BETWEEN ACL ENTRIES AND FILE PERMISSION BITS";
-- POSIX.1e draft 17, section 23.1.3).
use Rattle.std.specs.Prelude.{ℕ, unwrap_or, if◌then◌else◌}
use Rattle.std.specs.FinMap as set
use Rattle.acl_perm.specs.Mode.{owner_part, group_part, others_part, mode_of_parts}
use Rattle.acl_posix.specs.Tag.{Tag, user_obj, group_obj, mask, other}
use Rattle.acl_posix.specs.Entries.{Entries}

-- the permissions of a tag, or no permissions if it has no entry
abbrev pub perm_at : Entries → Tag → ℕ
perm_at entries tag = unwrap_or (set.get entries tag) 0

-- the entry that the group bits of the mode show: MASK if there is one, else GROUP_OBJ
abbrev pub group_class : Entries → Tag
group_class entries = if set.contains_key entries mask then mask else group_obj

-- the nine bits of the mode: USER_OBJ, then the group's entry, then OTHER
abbrev pub mode_of : Entries → ℕ
mode_of entries =
    mode_of_parts (perm_at entries user_obj) (perm_at entries (group_class entries)) (perm_at entries other)

-- the three entries of the mode are set, and no others
abbrev pub with_mode : Entries → ℕ → ℕ → ℕ → Entries
with_mode entries owner class others =
    set.insert (set.insert (set.insert entries user_obj owner) (group_class entries) class) other others

-- the set after its mode is changed
abbrev pub chmoded : Entries → ℕ → Entries
chmoded entries mode = with_mode entries (owner_part mode) (group_part mode) (others_part mode)
