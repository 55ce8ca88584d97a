use Rattle.acl_posix.proofs.Common.{digits_value, is_ascii_digit, list_all, take, true, ◌-◌, ◌≡◌, ◌≤◌}
use Rattle.acl_posix.proofs.digits.first_digits.Given as goal

-- the bytes before the place are digits, and the value is their number
abbrev pub invariant-loop-count : goal.invariant-loop-count
invariant-loop-count l = record {
  within : l.count ≤ l.most;
  digits : list_all is_ascii_digit (take l.count l.bytes) ≡ true;
  value : l.value ≡ digits_value 10 (take l.count l.bytes);
}

abbrev pub decreases-loop-count : goal.decreases-loop-count
decreases-loop-count l = l.most - l.count
