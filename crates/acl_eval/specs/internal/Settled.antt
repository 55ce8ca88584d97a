-- What is known about a class of a mode before the rest of a list is read: this library's own.
use Rattle.std.specs.Prelude.{◌≡◌, ℕ, Bool, ◌&&◌, List}
use Rattle.acl_perm.specs.Bits.{all_rights, has_bit}
use Rattle.acl_perm.specs.Principal.{Principal}
use Rattle.acl_nfs4.specs.Ace.{Ace}
use Rattle.acl_eval.specs.ListMode.{is_for_group, is_for_others, is_for_owner, is_granted_by}
use Rattle.acl_eval.specs.internal.EachRightBody.{decided_by}
use Rattle.acl_eval.specs.declared.each_right.GrantedSoFar.{GrantedSoFar}
use Rattle.acl_eval.specs.declared.mode.FileClass.{FileClass}
use Rattle.acl_eval.specs.declared.mode.FileClass.TheVariants.{Owner, Group, Others}

-- the ACEs of a principal decide for the class
abbrev pub decides_for : FileClass → Principal → Bool
decides_for Owner = is_for_owner
decides_for Group = is_for_group
decides_for Others = is_for_others

-- the bit is granted already to a class, or left to the rest of the list, which grants it
abbrev pub settled_in : FileClass → GrantedSoFar → List Ace → ℕ → Bool
settled_in class so_far list bit = decided_by so_far (is_granted_by (decides_for class) list bit) bit

-- what is known so far and the rest of a list settle for a class what the whole list grants it
pub record SettleAs (class : FileClass) (so_far : GrantedSoFar) (rest whole : List Ace) : Type 0 where
  pub same : (bit : ℕ) → settled_in class so_far rest bit
      ≡ (has_bit all_rights bit && is_granted_by (decides_for class) whole bit)
