-- The evaluation in the words of RFC 8881, section 6.2.1: ACE by ACE, over the bits of the request that are left.
use Rattle.std.specs.Prelude.{ℕ, Bool, true, ◌&&◌, not, ◌==◌, if◌then◌else◌, List, [], ◌∷◌, bit_and, bit_xor}
use Rattle.acl_perm.specs.Situation.{Situation, matches}
use Rattle.acl_nfs4.specs.Ace.{Ace}
use Rattle.acl_nfs4.specs.Who.{principal_of}
use Rattle.acl_eval.specs.Column.{takes_part}
use Rattle.acl_eval.specs.Grant.{is_allow}

-- the ACE takes part, and its who matches the requester
abbrev pub applies : Situation → Ace → Bool
applies s a = takes_part a && matches s (principal_of a)

-- the bits of one set that another does not have
abbrev pub without : ℕ → ℕ → ℕ
without bits others = bit_xor bits (bit_and bits others)

-- The rest of a request is granted: ACEs are processed until all bits have been allowed. A bit that was allowed is no
-- longer looked at. A bit of the rest that is denied denies the request, and so does a bit that no ACE decides.
abbrev pub scan : List Ace → Situation → ℕ → Bool
scan [] s left = left == 0
scan (a ∷ list) s left = if left == 0 then true
    else (if not (applies s a) then scan list s left
    else (if is_allow a.kind then scan list s (without left a.mask)
    else (bit_and left a.mask == 0 && scan list s left)))
