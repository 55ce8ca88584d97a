-- How the heap of the numbers of ready keys relates to their marked rights (this library's own).
use Rattle.std.specs.Prelude.{◌≡◌, ℕ, cond, ◌==◌, List, slice_index_or}
use Rattle.std.specs.BinaryHeap.{IsHeap, heap_items}
use Rattle.std.specs.List.{sum_by}
use Rattle.std.specs.Ordering.{nat_cmp}
use Rattle.std.specs.declared.cmp.Ordering.{Ordering}
use Rattle.std.specs.declared.cmp.Reverse.{Reverse}
use Rattle.acl_normal.specs.declared.emit.ready.Ready.TheInside.{Inside}

-- the order of the heap: the least number is the greatest
abbrev pub backwards : Reverse ℕ → Reverse ℕ → Ordering
backwards x y = nat_cmp y.0 x.0

-- how often the number is in the heap
abbrev pub times : ℕ → List (Reverse ℕ) → ℕ
times n = sum_by (λ r. cond (r.0 == n) 1 0)

-- the marked rights by number
abbrev pub heaped_bits : Inside → List ℕ
heaped_bits a = a.bits.items

-- a heap that has each number with marked rights once, and no other number
pub record IsHeapOf (bits : List ℕ) (heap : List (Reverse ℕ)) : Type 0 where
  pub order : IsHeap backwards heap
  pub once : (n : ℕ) → times n heap ≡ cond (slice_index_or bits n 0 == 0) 0 1

-- the fields are such a heap and the marked rights
abbrev pub IsHeaped : Inside → Type 0
IsHeaped a = IsHeapOf a.bits.items (heap_items a.numbers)
