-- The result of a search for one group (this library's own).
use Rattle.std.specs.Prelude.{ℕ, Bool, ◌&&◌, ◌||◌, ◌==◌}
use Rattle.acl_posix.specs.Tag.{group_obj, group}
use Rattle.acl_posix.specs.Entries.{Entries}
use Rattle.acl_posix.specs.Check.{entry_contains}

-- an entry that matches by one group contains all that is requested
abbrev pub group_contains : Entries → ℕ → ℕ → ℕ → Bool
group_contains entries owning_group request id =
    ((id == owning_group) && entry_contains entries group_obj request) || entry_contains entries (group id) request
