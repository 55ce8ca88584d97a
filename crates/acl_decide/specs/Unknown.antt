-- What a list answers where it names unknown special identifiers (RFC 8881, section 6.2.1.5): nobody knows whether such
-- a name matches the requester, so what holds must hold for every assignment of matches to the names.
use Rattle.std.specs.Prelude.{◌≡◌, ◌≢◌, ℕ, Bool, ◌&&◌, if◌then◌else◌, IsTrue, List, Option, Some, option_map}
use Rattle.std.specs.List.{find}
use Rattle.acl_perm.specs.Bits.{has_bit}
use Rattle.acl_perm.specs.Situation.{Situation, matches}
use Rattle.acl_perm.specs.declared.kind.Kind.{Kind}
use Rattle.acl_perm.specs.declared.kind.Kind.TheVariants.{Allow}
use Rattle.acl_nfs4.specs.Ace.{Ace}
use Rattle.acl_nfs4.specs.Who.{is_unknown_special, principal_of}
use Rattle.acl_eval.specs.Column.{takes_part}
use Rattle.acl_decide.specs.declared.request_with_unknown.RequestAnswer.{RequestAnswer}
use Rattle.acl_decide.specs.declared.request_with_unknown.RequestAnswer.TheVariants.{Always, Never, Depends}

-- for each name, whether it matches the requester; one assignment holds for all ACEs and all rights
abbrev pub Assignment : Type 0
Assignment = List ℕ → Bool

-- the who of the ACE matches the requester: an unknown identifier as the assignment says, any other who as ever
abbrev pub matches_under : Assignment → Situation → Ace → Bool
matches_under v s a = if is_unknown_special a.who then v a.who else matches s (principal_of a)

-- the ACE has the bit, takes part and matches the requester
abbrev pub decides_under : Assignment → Situation → ℕ → Ace → Bool
decides_under v s bit a = (has_bit a.mask bit && takes_part a) && matches_under v s a

-- the kind of the first ACE that decides the bit, or none if no ACE does, which does not grant the bit
abbrev pub answer_under : Assignment → List Ace → Situation → ℕ → Option Kind
answer_under v list s bit = option_map (λ a. a.kind) (find (decides_under v s bit) list)

-- every assignment gives this answer for the bit
abbrev pub AlwaysAnswers : List Ace → Situation → ℕ → Option Kind → Type 0
AlwaysAnswers list s bit answer = (v : Assignment) → answer_under v list s bit ≡ answer

-- some assignment gives this answer for the bit
abbrev pub MayAnswer : List Ace → Situation → ℕ → Option Kind → Type 0
MayAnswer list s bit answer = (v : Assignment) × (answer_under v list s bit ≡ answer)

-- no assignment grants the bit
abbrev pub NeverGrants : List Ace → Situation → ℕ → Type 0
NeverGrants list s bit = (v : Assignment) → answer_under v list s bit ≢ Some Allow

-- some assignment does not grant the bit
abbrev pub MayNotGrant : List Ace → Situation → ℕ → Type 0
MayNotGrant list s bit = (v : Assignment) × (answer_under v list s bit ≢ Some Allow)

-- the assignment grants each bit of the request
abbrev pub GrantsUnder : Assignment → List Ace → Situation → ℕ → Type 0
GrantsUnder v list s request = (bit : ℕ) → IsTrue (has_bit request bit) → answer_under v list s bit ≡ Some Allow

-- a request is granted under every assignment, under none, or under one and not under another
abbrev pub IsRequestAnswer : List Ace → Situation → ℕ → RequestAnswer → Type 0
IsRequestAnswer list s request Always = (v : Assignment) → GrantsUnder v list s request
IsRequestAnswer list s request Never = (v : Assignment) → GrantsUnder v list s request → ⊥
IsRequestAnswer list s request Depends = ((v : Assignment) × GrantsUnder v list s request)
    × ((v : Assignment) × (GrantsUnder v list s request → ⊥))
