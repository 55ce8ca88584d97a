-- What a text spells with a table of ids is within the limits of ids and permissions.
use Rattle.acl_posix.proofs.Common.{[], Access, access_of, All-from_recursion, AllByRecursion, AreIds, arith, as_set, Default, default_of, Entries, group, Id, id_in, id_of, Ids, ids_of, IfSome, IsAcl, IsAclOf, IsDefault, IsDefaultOf, IsEntry, IsFile, IsId, IsNameTable, IsStrictlySortedBy, IsTag, List, nat_tests, None, Option, option_map, PartEntry, permissions_of, pieces_of, PosixFile, Reads, Some, SpellAll, SpellsTag, subst, sym, Table, Tag, tag_cmp, tags_total, TextPiece, user, Vec, ℕ, ◌<◌, ◌∷◌, ◌≡◌}
use Rattle.std.specs.FinMap as fin
use Rattle.acl_posix.proofs.sorted.Lists.{entries_in_order}
use Rattle.acl_posix.proofs.names.NameLemmas.{get_name}

-- ---- tables

-- the number of an id, if there is one, is within the limit of ids
value_within : (id : Option Id) → IfSome (option_map (λ (i : Id). i.value) id) IsId
value_within None = tt
value_within (Some id) = id.within

-- the ids of one half of the table are within the limit of ids
half_within : (entries : List (Vec ℕ × Id)) → AreIds (ids_of entries)
half_within entries name = subst (λ (o : Option ℕ). IfSome o IsId) (get_name name entries) (value_within _)

-- the table that the code holds is one of ids
pub table_within : (users groups : List (Vec ℕ × Id))
    → IsNameTable (record { users = ids_of users; groups = ids_of groups })
table_within users groups = record { users = half_within users; groups = half_within groups }

-- ---- fields

-- the permissions that a field spells are below 8
perm_within : (bytes : List ℕ) (perm : ℕ) → permissions_of bytes ≡ Some perm → perm < 8
unfolding permissions_of
perm_within bytes perm e = grind (arith, nat_tests)

-- the id that digits spell is within the limit of ids
id_within : (digits : List ℕ) (id : ℕ) → id_of digits ≡ Some id → IsId id
unfolding id_of
id_within digits id e = grind (arith, nat_tests)

-- the id that a qualifier spells is within the limit, if the ids of the names are
qualifier_within : (ids : Ids) (bytes : List ℕ) (id : ℕ) → AreIds ids → id_in ids bytes ≡ Some id → IsId id
qualifier_within ids bytes id h e = let named = h bytes in grind (arith, id_within)

-- the id of a tag that a word and a qualifier spell is within the limit, if the ids of the table are
spelled_within : (names : Table) (word qualifier : List ℕ) (tag : Tag) → IsNameTable names
    → SpellsTag names word qualifier tag → IsTag tag
spelled_within names word qualifier (user id) h s = qualifier_within names.users qualifier id h.users s.is_id
spelled_within names word qualifier (group id) h s = qualifier_within names.groups qualifier id h.groups s.is_id
spelled_within names word qualifier tag h s = tt

-- ---- entries

-- the entries that pieces spell with a table of ids are within the limits
entries_within : (names : Table) (pieces : List TextPiece) (entries : List PartEntry) → IsNameTable names
    → SpellAll names pieces entries
    → AllByRecursion IsEntry (access_of entries) × AllByRecursion IsEntry (default_of entries)
entries_within names [] [] h s = (tt, tt)
entries_within names (piece ∷ pieces) ((Access, (tag, perm)) ∷ entries) h s =
    let rest = entries_within names pieces entries h s.1 in
    (((spelled_within names _ _ tag h s.0.has_tag, perm_within _ perm s.0.is_perm), rest.0), rest.1)
entries_within names (piece ∷ pieces) ((Default, (tag, perm)) ∷ entries) h s =
    let rest = entries_within names pieces entries h s.1 in
    (rest.0, ((spelled_within names _ _ tag h s.0.has_tag, perm_within _ perm s.0.is_perm), rest.1))
entries_within names pieces entries h s = absurd s

-- ---- sets of entries

-- entries within the limits stay within them if an entry within them is put among them
put_within : (entries : List (Tag × ℕ)) (tag : Tag) (perm : ℕ) → IsEntry (tag, perm) → AllByRecursion IsEntry entries
    → AllByRecursion IsEntry (fin.put tag_cmp tag perm entries)
put_within [] tag perm new h = (new, tt)
put_within (e ∷ es) tag perm new h = let rest = put_within es tag perm new h.1 in grind arith

-- the entries of the set of a list within the limits are within the limits
set_within : (entries : List (Tag × ℕ)) → AllByRecursion IsEntry entries
    → AllByRecursion IsEntry (fin.entries (as_set entries))
unfolding IsStrictlySortedBy
set_within [] h = subst (AllByRecursion IsEntry) (sym (entries_in_order [] tt)) tt
set_within (e ∷ es) h = subst (AllByRecursion IsEntry) (sym (fin.entries-insert tags_total (as_set es) e.0 e.1))
    (put_within (fin.entries (as_set es)) e.0 e.1 h.0 (set_within es h.1))

-- the set of a valid list within the limits is an ACL that a file can have
acl_within : (entries : List (Tag × ℕ)) (acl : Entries) → AllByRecursion IsEntry entries → IsAclOf entries acl
    → IsAcl acl
acl_within entries acl h is = subst IsAcl (sym is.set) (record {
  valid = is.valid.complete;
  within = All-from_recursion IsEntry (fin.entries (as_set entries)) (set_within entries h);
})

-- the default ACL of entries within the limits is one that a file can have
default_acl_within : (entries : List (Tag × ℕ)) (acl : Option Entries) → AllByRecursion IsEntry entries
    → IsDefaultOf entries acl → IsDefault acl
default_acl_within [] None h is = tt
default_acl_within (e ∷ es) (Some acl) h is = acl_within (e ∷ es) acl h is
default_acl_within entries acl h is = absurd is

-- what a text spells with a table of ids are ACLs that a file can have
pub file_of_text : (text : List ℕ) (names : Table) (file : PosixFile) → IsNameTable names → Reads text names file
    → IsFile file
file_of_text text names file h read =
    let within = entries_within names (pieces_of text) read.entries h read.spelled in
    record {
      access = acl_within (access_of read.entries) file.access within.0 read.access;
      default = default_acl_within (default_of read.entries) file.default within.1 read.default;
    }
