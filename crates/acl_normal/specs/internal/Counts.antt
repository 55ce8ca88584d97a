-- How many keys the columns of a list of ACEs have, and how many rights masks have (this library's own).
use Rattle.std.specs.Prelude.{ℕ, ◌+◌, zero, suc, count_ones, List, length}
use Rattle.std.specs.List.{sum_by}
use Rattle.acl_perm.specs.declared.mask.Mask.{Mask}
use Rattle.acl_nfs4.specs.Ace.{Ace}
use Rattle.acl_eval.specs.Column.{column}

-- the number of keys of the first n bits together
abbrev pub count_left : ℕ → List Ace → ℕ
count_left zero list = 0
count_left (suc bit) list = count_left bit list + length (column list bit)

-- the number of rights that masks have together
abbrev pub rights_together : List Mask → ℕ
rights_together masks = sum_by (λ m. count_ones m.bits) masks
