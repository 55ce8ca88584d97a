-- What is known while a prepared list is read: this library's own.
use Rattle.std.specs.Prelude.{◌≡◌, ℕ, ◌&&◌, List, true}
use Rattle.std.specs.List.{AllByRecursion}
use Rattle.acl_perm.specs.Bits.{has_bit}
use Rattle.acl_perm.specs.Order.{principal_name}
use Rattle.acl_perm.specs.Principal.{principal}
use Rattle.acl_perm.specs.Profile.{full}
use Rattle.acl_perm.specs.Situation.{Situation}
use Rattle.acl_nfs4.specs.Ace.{Ace}
use Rattle.acl_nfs4.specs.Spelling.{IsAce}
use Rattle.acl_nfs4.specs.Who.{principal_of}
use Rattle.acl_eval.specs.Column.{takes_part}
use Rattle.acl_eval.specs.Grant.{grants_bit}
use Rattle.acl_prepared.specs.Prepared.{name_hash}
use Rattle.acl_eval.specs.internal.EachRightBody.{is_undecided}
use Rattle.acl_eval.specs.declared.each_right.GrantedSoFar.{GrantedSoFar}
use Rattle.acl_prepared.specs.declared.prepared_ace.PreparedAce.{PreparedAce}

-- how many numbers a sort can be: two kinds of each of the five principals
abbrev pub sort_count : ℕ
sort_count = 10

-- what was read is this ACE
pub record IsReadAs (a : Ace) (read : PreparedAce) : Type 0 where
  pub mask : read.mask.bits ≡ a.mask
  pub kind : read.kind ≡ a.kind
  pub whom : principal read.whom ≡ principal_of a
  pub hash : read.hash ≡ name_hash (principal_name (principal_of a))

-- a valid ACE that takes part
pub record IsPart (a : Ace) : Type 0 where
  pub valid : IsAce full a
  pub part : takes_part a ≡ true

-- valid ACEs that take part
abbrev pub AreParts : List Ace → Type 0
AreParts list = AllByRecursion IsPart list

-- what is known of the rights of a mask after the whole list
pub record DecidesAs (s : Situation) (mask : ℕ) (list : List Ace) (so_far : GrantedSoFar) : Type 0 where
  pub granted : (bit : ℕ) → has_bit so_far.granted.bits bit ≡ (has_bit mask bit && grants_bit list s bit)
  pub left : (bit : ℕ) → has_bit so_far.left.bits bit ≡ (has_bit mask bit && is_undecided s bit list)
