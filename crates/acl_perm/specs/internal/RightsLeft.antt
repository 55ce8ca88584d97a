-- The rights of a mask that are not given yet (this library's own).
use Rattle.std.specs.Prelude.{ℕ, ◌-◌, List, filter}
use Rattle.std.specs.List.{range_with_len}
use Rattle.acl_perm.specs.Bits.{has_bit}

-- the bits of a mask from one on, in ascending order
abbrev pub rights_from : ℕ → ℕ → List ℕ
rights_from mask from = filter (has_bit mask) (range_with_len from (21 - from))
