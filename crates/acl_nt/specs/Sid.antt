-- Security identifiers (MS-DTYP, section 2.4.2).
use Rattle.std.specs.Prelude.{ℕ, ◌<◌, ◌≤◌, ◌^◌, List, length}
use Rattle.std.specs.List.{AllByRecursion}
use Rattle.acl_nt.specs.declared.sid.Sid.{Sid as SidOfCode}

-- an authority, and the sub-authorities in order
pub record Sid : Type 0 where
  pub authority : ℕ
  pub words : List ℕ

-- the SID of a `Sid` of the code
abbrev pub sid : SidOfCode → Sid
sid s = record { authority = s.authority; words = s.words.items }

-- the greatest number of sub-authorities
abbrev pub most_words : ℕ
most_words = 15

-- the authority has six bytes, and there are at most 15 sub-authorities of four bytes
pub record IsSid (s : Sid) : Type 0 where
  pub authority : s.authority < 2 ^ 48
  pub count : length s.words ≤ most_words
  pub words : AllByRecursion (λ w. w < 2 ^ 32) s.words
