-- One bit of a list that begins with an ACE.
use Rattle.std.proofs.Common.{◌≡◌, ℕ, Bool, true, false, List, ◌∷◌, refl}
use Rattle.std.specs.Prelude.{◌&&◌, if◌then◌else◌}
use Rattle.acl_perm.specs.Bits.{has_bit}
use Rattle.acl_perm.specs.Situation.{Situation, matches}
use Rattle.acl_nfs4.specs.Ace.{Ace}
use Rattle.acl_nfs4.specs.Who.{principal_of}
use Rattle.acl_eval.specs.Column.{takes_part}
use Rattle.acl_eval.specs.Grant.{grants_bit, is_allow}
use Rattle.acl_eval.specs.Scan.{applies}

-- an ACE that has the bit and matches the requester decides the bit; otherwise the rest of the list decides it
pub bit_at_first : (a : Ace) (list : List Ace) (s : Situation) (bit : ℕ) → grants_bit (a ∷ list) s bit
    ≡ (if has_bit a.mask bit && applies s a then is_allow a.kind else grants_bit list s bit)
bit_at_first a list s bit = by (has_bit a.mask bit) (takes_part a) (matches s (principal_of a)) refl refl refl
  where
    by : (h t m : Bool) → has_bit a.mask bit ≡ h → takes_part a ≡ t → matches s (principal_of a) ≡ m
        → grants_bit (a ∷ list) s bit
        ≡ (if has_bit a.mask bit && applies s a then is_allow a.kind else grants_bit list s bit)
    by false t m h e f = rw h refl
    by true false m h e f = rw (h, e) refl
    by true true true h e f = rw (h, e, f) refl
    by true true false h e f = rw (h, e, f) refl
