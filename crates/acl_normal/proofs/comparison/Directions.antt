-- Two answers, and whether they differ in a direction.
use Rattle.acl_normal.proofs.Common.{arith, Bool, false, false≢true, sym, true, ◌∙◌, ◌≡◌}
use Rattle.acl_normal.specs.internal.comparison.Directions.{differ_in}
use Rattle.acl_normal.specs.declared.comparison.direction.Direction.{Direction}
use Rattle.acl_normal.specs.declared.comparison.direction.Direction.TheVariants.{Either, Over}

-- answers that equal two others differ if and only if these do
pub differ_moved : (way : Direction) {v w x y t : Bool} → x ≡ v → y ≡ w → differ_in way v w ≡ t → differ_in way x y ≡ t
differ_moved way h i e = rw (h, i) e

-- an answer does not differ from itself
pub never_itself : (way : Direction) (x : Bool) → differ_in way x x ≡ false
never_itself way x = grind arith

-- what differs is not without difference
pub both_differ : (way : Direction) (x y : Bool) → differ_in way x y ≡ true → differ_in way x y ≡ false → ⊥
both_differ way x y h i = false≢true (sym i ∙ h)

-- answers that do not differ in either direction are the same
pub same_answer : (x y : Bool) → differ_in Either x y ≡ false → x ≡ y
same_answer x y h = grind arith

-- where the first answer is not over the second, the second is true if the first is
pub not_over : (x y : Bool) → differ_in Over x y ≡ false → x ≡ true → y ≡ true
not_over x y h e = grind arith
