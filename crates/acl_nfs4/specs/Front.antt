-- A list at the front of bytes (RFC 4506 over RFC 8881, section 6.2.1): the list that a reader finds there, and how
-- many bytes spell it.
use Rattle.std.specs.Prelude.{◌≡◌, ℕ, ◌≤◌, List, length, take}
use Rattle.acl_perm.specs.Profile.{Profile}
use Rattle.acl_nfs4.specs.Ace.{Ace}
use Rattle.acl_nfs4.specs.Spelling.{Xdr}

-- this many bytes at the front spell the list
abbrev pub IsAtFront : Profile → List ℕ → List Ace × ℕ → Type 0
IsAtFront p bytes found = (found.1 ≤ length bytes) × Xdr p found.0 (take found.1 bytes)

-- what was found is this list, in as many bytes as the text has
abbrev pub IsListOf : List Ace → List ℕ → List Ace × ℕ → Type 0
IsListOf list text found = (found.0 ≡ list) × (found.1 ≡ length text)
