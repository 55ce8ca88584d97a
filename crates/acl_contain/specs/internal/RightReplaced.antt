-- The list that grants some rights where another list grants one right (this library's own).
use Rattle.std.specs.Prelude.{ℕ, if◌then◌else◌, List, map}
use Rattle.acl_nfs4.specs.Ace.{Ace}
use Rattle.acl_perm.specs.Bits.{has_bit}

-- the ACE with the other rights if it has the right, and else without rights
abbrev pub replaced : ℕ → ℕ → Ace → Ace
replaced right others a = record a { mask = if has_bit a.mask right then others else 0 }

-- the list of these ACEs
abbrev pub all_replaced : ℕ → ℕ → List Ace → List Ace
all_replaced right others = map (replaced right others)
