-- What is known about the rights of a mask before the rest of a list is read: this library's own.
use Rattle.std.specs.Prelude.{ℕ, Bool, ◌&&◌, ◌||◌, not, List}
use Rattle.std.specs.List.{list_any}
use Rattle.acl_perm.specs.Bits.{has_bit}
use Rattle.acl_perm.specs.Situation.{Situation}
use Rattle.acl_nfs4.specs.Ace.{Ace}
use Rattle.acl_eval.specs.Deciding.{decides}
use Rattle.acl_eval.specs.Grant.{grants_bit}
use Rattle.acl_eval.specs.declared.each_right.GrantedSoFar.{GrantedSoFar}

-- the bit is granted already, or it is left and the answer for the rest of the list grants it
abbrev pub decided_by : GrantedSoFar → Bool → ℕ → Bool
decided_by so_far is_granted bit = has_bit so_far.granted.bits bit || (has_bit so_far.left.bits bit && is_granted)

-- the bit is granted already, or left to the rest of the list, which grants it
abbrev pub granted_in : Situation → GrantedSoFar → List Ace → ℕ → Bool
granted_in s so_far list bit = decided_by so_far (grants_bit list s bit) bit

-- no ACE of the list decides the bit
abbrev pub is_undecided : Situation → ℕ → List Ace → Bool
is_undecided s bit list = not (list_any (decides s bit) list)

-- the bit is left, and the rest of the list does not decide it either
abbrev pub left_in : Situation → GrantedSoFar → List Ace → ℕ → Bool
left_in s so_far list bit = has_bit so_far.left.bits bit && is_undecided s bit list
