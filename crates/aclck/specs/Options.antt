-- The options of the commands. An option that several commands take is in here once (this library's own).
use Rattle.std.specs.Prelude.{codes}
use Rattle.aclck.specs.Line.{Term, default, flag, optional, required}

-- ---- who asks, and about which object

-- `--owner`, the owner of the object
abbrev pub owner_term : Term
owner_term = required (codes "owner")

-- `--group`, the owning group of the object
abbrev pub group_term : Term
group_term = required (codes "group")

-- `--user`, the user who requests access
abbrev pub user_term : Term
user_term = required (codes "user")

-- `--groups`, the groups of that user
abbrev pub groups_term : Term
groups_term = optional (codes "groups")

-- ---- what is requested

-- `--mask`, the rights that are requested
abbrev pub mask_term : Term
mask_term = required (codes "mask")

-- `--want`, the permissions that are requested
abbrev pub want_term : Term
want_term = required (codes "want")

-- `--bit`, the one right of a table
abbrev pub bit_term : Term
bit_term = required (codes "bit")

-- ---- how a list is read and written

-- `--profile`, the rights and flags that a list may have
abbrev pub profile_term : Term
profile_term = default (codes "profile") (codes "full")

-- `--form`, the form of a text
abbrev pub form_term : Term
form_term = default (codes "form") (codes "canonical")

-- `--inherit`: inheritance counts
abbrev pub inherit_term : Term
inherit_term = flag (codes "inherit")

-- ---- a new mode, and a new object

-- `--mode`, the mode that is set or requested
abbrev pub mode_term : Term
mode_term = required (codes "mode")

-- `--umask`, the umask of the program that creates the object
abbrev pub umask_term : Term
umask_term = required (codes "umask")

-- `--kind`, what is created
abbrev pub kind_term : Term
kind_term = required (codes "kind")

-- `--dir`: the new object is a directory
abbrev pub dir_term : Term
dir_term = flag (codes "dir")
