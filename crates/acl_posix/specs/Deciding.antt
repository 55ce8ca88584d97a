-- Which entry decides a request (acl(5), "ACCESS CHECK ALGORITHM").
use Rattle.std.specs.Prelude.{ℕ, Bool, false, not, ◌&&◌, ◌==◌, List, Option, Some, None, find, option_map, if◌then◌else◌}
use Rattle.std.specs.FinMap as set
use Rattle.acl_posix.specs.Tag.{Tag, user_obj, user, other}
use Rattle.acl_posix.specs.Entries.{Entries}
use Rattle.acl_posix.specs.Check.{any_matches, contains, entry_contains, grants, Object, Requester, tag_matches}

-- the first entry, in canonical order, that matches by a group and contains all that is requested
abbrev pub first_match : Entries → ℕ → List ℕ → ℕ → Option (Tag × ℕ)
first_match entries owning_group groups request =
    find (λ entry. tag_matches owning_group groups entry.0 && contains entry.1 request) (set.entries entries)

-- for the owner USER_OBJ; else, for a user with an entry, that entry; else, if an entry of a group matches, the first
-- such entry that contains all that is requested, or none; else OTHER
unfoldable pub decider : Entries → Object → Requester → ℕ → Option Tag
decider entries object requester request =
    if requester.user == object.user then Some user_obj
    else (if set.contains_key entries (user requester.user) then Some (user requester.user)
    else (if any_matches entries object.group requester.groups
    then option_map (λ entry. entry.0) (first_match entries object.group requester.groups request)
    else Some other))

-- there is an entry that decides, and it contains all that is requested
abbrev pub decider_contains : Entries → Option Tag → ℕ → Bool
decider_contains entries None request = false
decider_contains entries (Some tag) request = entry_contains entries tag request

-- the entry that decides contains all that is requested, and MASK does not, so that the request is denied
abbrev pub is_masked_off : Entries → Object → Requester → ℕ → Bool
is_masked_off entries object requester request =
    decider_contains entries (decider entries object requester request) request
    && not (grants entries object requester request)
