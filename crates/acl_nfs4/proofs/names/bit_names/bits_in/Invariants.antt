use Rattle.acl_nfs4.proofs.Common.{bar, bit_names_of, bits_in, option_copied, size_after, slice_split, ◌==◌, ◌≡◌}
use Rattle.acl_nfs4.proofs.names.SetFields.{bits_from}
use Rattle.acl_nfs4.proofs.names.bit_names.bits_in.Given as goal

-- the bits so far and the rest of the field together name what the whole field names
abbrev pub invariant-loop-rest : goal.invariant-loop-rest
invariant-loop-rest l = bits_from (bit_names_of l.table) l.bits (option_copied l.rest)
    ≡ bits_in (bit_names_of l.fn.table) (slice_split (λ b. b == bar) l.fn.field)

abbrev pub decreases-loop-rest : goal.decreases-loop-rest
decreases-loop-rest l = size_after (option_copied l.rest)
