-- What a list grants (RFC 8881, section 6.2.1): for each bit the first ACE that has it, takes part and matches the
-- requester decides; a bit that no such ACE has is denied.
use Rattle.std.specs.Prelude.{◌≡◌, ◌↔◌, ℕ, List, Bool, IsTrue}
use Rattle.acl_perm.specs.Bits.{has_bit, IsSubset}
use Rattle.acl_perm.specs.Situation.{Situation, IsSituation, matches}
pub use Rattle.acl_perm.specs.Kind.{is_allow}
use Rattle.acl_nfs4.specs.Ace.{Ace}
use Rattle.acl_eval.specs.Column.{SameVerdicts, column, verdict}

-- the list grants the requester the bit
abbrev pub grants_bit : List Ace → Situation → ℕ → Bool
grants_bit list s bit = is_allow (verdict (matches s) (column list bit))

-- the list grants the requester each bit of the request
abbrev pub Grant : List Ace → Situation → ℕ → Type 0
Grant list s request = (bit : ℕ) → IsTrue (has_bit request bit) → IsTrue (grants_bit list s bit)

-- both lists grant each bit of a set of rights in the same situations
abbrev pub SameBits : ℕ → List Ace → List Ace → Type 0
SameBits rights list other = (s : Situation) → IsSituation s → (bit : ℕ) → IsTrue (has_bit rights bit)
    → grants_bit list s bit ≡ grants_bit other s bit

-- the columns of each bit of a set of rights decide alike
abbrev pub SameColumns : ℕ → List Ace → List Ace → Type 0
SameColumns rights list other = (bit : ℕ) → IsTrue (has_bit rights bit)
    → SameVerdicts (column list bit) (column other bit)

-- in every situation, both lists grant or both deny each request within a set of rights
abbrev pub SameGrants : ℕ → List Ace → List Ace → Type 0
SameGrants rights list other = (s : Situation) → IsSituation s → (request : ℕ) → IsSubset request rights
    → Grant list s request ↔ Grant other s request

-- in every situation, the second list grants each request within a set of rights that the first list grants
abbrev pub GrantsAtMost : ℕ → List Ace → List Ace → Type 0
GrantsAtMost rights list other = (s : Situation) → IsSituation s → (request : ℕ) → IsSubset request rights
    → Grant list s request → Grant other s request
