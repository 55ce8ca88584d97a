-- Which ACE decides a right (RFC 8881, section 6.2.1): the first of those that have it, take part and match the
-- requester. Places are counted from 0 (this library's own).
use Rattle.std.specs.Prelude.{◌≡◌, ◌↔◌, ℕ, Bool, IsTrue, ◌&&◌, List, Option, Some, option_map, position}
use Rattle.std.specs.List.{find}
use Rattle.acl_perm.specs.Bits.{has_bit}
use Rattle.acl_perm.specs.Situation.{Situation}
use Rattle.acl_perm.specs.declared.kind.Kind.{Kind}
use Rattle.acl_nfs4.specs.Ace.{Ace}
use Rattle.acl_eval.specs.Scan.{applies}

-- the ACE has the bit, takes part and matches the requester
abbrev pub decides : Situation → ℕ → Ace → Bool
decides s bit a = has_bit a.mask bit && applies s a

-- the place of the first ACE that decides, if there is one
abbrev pub deciding_place : List Ace → Situation → ℕ → Option ℕ
deciding_place list s bit = position (decides s bit) list

-- the kind of the first ACE that decides
abbrev pub deciding_kind : List Ace → Situation → ℕ → Option Kind
deciding_kind list s bit = option_map (λ a. a.kind) (find (decides s bit) list)

-- a set of rights has those rights of a mask that an ACE of this kind decides, and no others
abbrev pub AreDecidedBy : Kind → List Ace → Situation → ℕ → ℕ → Type 0
AreDecidedBy kind list s mask rights = (bit : ℕ) → IsTrue (has_bit rights bit)
    ↔ (IsTrue (has_bit mask bit) × (deciding_kind list s bit ≡ Some kind))
