-- The list of a POSIX ACL while it is made, part by part, and the weight of its entries: this library's own.
use Rattle.std.specs.Prelude.{ℕ, List, count_ones}
use Rattle.acl_posix.specs.Tag.{Tag, user_obj, user, group_obj, group, mask, other}
use Rattle.acl_posix.specs.Entries.{Entries}
use Rattle.acl_nfs4.specs.Ace.{Ace}
use Rattle.acl_eval.specs.declared.bridging.ListPart.{ListPart}
use Rattle.acl_eval.specs.declared.bridging.ListPart.TheVariants.{Users, GroupAllows, GroupDenies, Others}
use Rattle.acl_eval.specs.Bridge.{image, each, is_user_tag, is_group_tag, is_other_tag, allow_of, deny_of, decide_of}

-- the four parts of the list
abbrev pub bridged_part : Entries → ListPart → List (Tag × ℕ) → List Ace
bridged_part entries Users = each is_user_tag (decide_of entries)
bridged_part entries GroupAllows = each is_group_tag (allow_of entries)
bridged_part entries GroupDenies = each is_group_tag (deny_of entries)
bridged_part entries Others = each is_other_tag (allow_of entries)

-- the number of mask bits of an entry, over all its ACEs: the rights of read, write and execute are allowed or denied,
-- except that OTHER denies nothing and MASK has no ACE
abbrev pub cost_of : Tag → ℕ → ℕ
cost_of user_obj perm = 4
cost_of (user id) perm = 4
cost_of group_obj perm = 4
cost_of (group id) perm = 4
cost_of mask perm = 0
cost_of other perm = count_ones (image perm)

-- the number of bits of the word that holds a mask; no mask has more
abbrev pub word_bits : ℕ
word_bits = 32
