use Rattle.std.proofs.Common.{◌≡◌, ℕ, ◌<◌, ◌^◌, drop}
use Rattle.std.specs.Prelude.{◌&&◌, ◌||◌, not}
use Rattle.std.specs.List.{list_all}
use Rattle.acl_perm.specs.Bits.{has_bit}
use Rattle.acl_posix.specs.Entries.{pairs, tags}
use Rattle.acl_posix_contain.specs.internal.Limits.{all_hold, holds, is_of_class}
use Rattle.acl_posix_contain.proofs.restricting.limits.common.Given as goal

-- the permissions so far, and those that the rest has in common, are those that all have in common
abbrev pub invariant-loop-entry : goal.invariant-loop-entry
invariant-loop-entry l = record {
  rest : (k : ℕ) → k < 3 → (has_bit l.common.0 k
      && list_all (λ tag. not (is_of_class l.acl l.class tag) || holds l.bound tag (2 ^ k))
      (tags (pairs (drop l.entry-index l.entries)))) ≡ all_hold l.acl l.bound l.class (2 ^ k);
  within : l.common.0 < 8;
}
