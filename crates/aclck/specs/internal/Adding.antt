-- How the program cuts the words of names, and adds the names to a table (this library's own).
use Rattle.std.specs.Prelude.{◌≡◌, Option, Some, None, Result, Ok, Err}
use Rattle.std.specs.Borrow.{Bor}
use Rattle.std.specs.Option.{option_and_then}
use Rattle.clap.specs.Words.{Text}
use Rattle.acl_posix.specs.Names.{Table}
use Rattle.acl_posix.specs.declared.names.NameFault.{NameFault}
use Rattle.acl_posix.specs.declared.names.NameFault.TheVariants as names
use Rattle.aclck.specs.declared.line.LineFault.{LineFault}
use Rattle.aclck.specs.declared.line.LineFault.TheVariants as line
use Rattle.aclck.specs.declared.words.names.Half.{Half as HeldHalf}
use Rattle.aclck.specs.declared.words.names.Half.TheVariants as held
use Rattle.aclck.specs.declared.words.names.NamedId.{NamedId as HeldNamedId}
use Rattle.aclck.specs.NameWords.{Cut, Half, NamedId, groups, users, with_name}

-- the cut of two slices
abbrev pub cut_of : Bor Text × Bor Text → Cut
cut_of sides = record { before = sides.0.now; behind = sides.1.now }

-- the half that is held
abbrev pub half_of : HeldHalf → Half
half_of held.Users = users
half_of held.Groups = groups

-- the name that is held
abbrev pub named_of : HeldNamedId → NamedId
named_of n = record { half = half_of n.half; name = n.name.now; id = n.id.value }

-- the faults of names as faults of words
abbrev pub line_fault_of : NameFault → LineFault
line_fault_of names.EmptyName = line.Usage
line_fault_of names.DigitsOnly = line.Usage
line_fault_of names.Taken = line.Usage
line_fault_of names.Memory = line.Memory

-- the result of a call that adds a name to a table, and the table after it
abbrev pub Adds : Table → Option NamedId → Table → Result (Unit {0}) LineFault → Type 0
Adds table named after (Ok done) = Some after ≡ option_and_then (with_name table) named
Adds table named after (Err line.Usage) = None ≡ option_and_then (with_name table) named
Adds table named after (Err line.Memory) = Unit {0}
