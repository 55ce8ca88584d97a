-- Which tags have an entry: this library's own.
use Rattle.std.specs.Prelude.{IsSome}
use Rattle.std.specs.FinMap as set
use Rattle.acl_posix.specs.Tag.{Tag}
use Rattle.acl_posix.specs.Entries.{Entries}

-- the tag has an entry
abbrev pub HasEntry : Entries → Tag → Type 0
HasEntry acl tag = IsSome (set.get acl tag)
