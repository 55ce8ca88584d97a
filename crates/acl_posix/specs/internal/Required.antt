-- Which entries a valid set cannot lose, and which it cannot get (this library's own).
use Rattle.std.specs.Prelude.{Bool, true, false, not, ◌&&◌}
use Rattle.std.specs.List.{list_any}
use Rattle.std.specs.FinMap as set
use Rattle.acl_posix.specs.Tag.{Tag, user_obj, user, group_obj, group, mask, other, is_named}
use Rattle.acl_posix.specs.Entries.{Entries}

-- a valid set is not valid without the entry of the tag: each of the three required entries, and MASK if there is a
-- USER or GROUP entry
abbrev pub is_required : Entries → Tag → Bool
is_required entries user_obj = true
is_required entries (user id) = false
is_required entries group_obj = true
is_required entries (group id) = false
is_required entries mask = list_any is_named (set.keys entries)
is_required entries other = true

-- a valid set is not valid with an entry of the tag: the tag is USER or GROUP, and there is no MASK
abbrev pub lacks_mask_for : Entries → Tag → Bool
lacks_mask_for entries tag = is_named tag && not (set.contains_key entries mask)
