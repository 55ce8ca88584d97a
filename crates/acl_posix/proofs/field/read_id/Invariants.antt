use Rattle.acl_posix.proofs.Common.{digits_value, is_ascii_digit, length, list_all, true, ◌≡◌}
use Rattle.acl_posix.proofs.field.read_id.Given as goal

-- what is left has the number of all digits, and is digits if all bytes are
abbrev pub invariant-loop-left : goal.invariant-loop-left
invariant-loop-left l = record {
  value : digits_value 10 l.left ≡ digits_value 10 l.digits;
  digits : list_all is_ascii_digit l.digits ≡ true → list_all is_ascii_digit l.left ≡ true;
}

abbrev pub decreases-loop-left : goal.decreases-loop-left
decreases-loop-left l = length l.left
