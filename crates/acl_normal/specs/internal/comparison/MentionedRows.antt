-- The principals that lists mention, by row and by number (this library's own).
use Rattle.std.specs.Prelude.{◌≡◌, ℕ, ◌<◌, true, if◌then◌else◌, List, [], ◌∷◌, ◌++◌, Option, Some, None, length, option_map, slice_index_or, slice_set, take}
use Rattle.acl_perm.specs.Principal.{Principal, everyone, principal}
use Rattle.acl_perm.specs.declared.principal.Principal.{Principal as PrincipalRef}
use Rattle.acl_eval.specs.Column.{takes_part}
use Rattle.acl_nfs4.specs.Ace.{Ace}
use Rattle.acl_nfs4.specs.Who.{principal_of}
use Rattle.acl_normal.specs.Keys.{principal_eq}
use Rattle.acl_normal.specs.SmallSets.{is_mentioning, mentioned, mentioned_in}
use Rattle.acl_normal.specs.SmallSituations.{is_among}
use Rattle.acl_normal.specs.declared.comparison.mentioned_principals.Mentions.{Mentions}
use Rattle.acl_normal.specs.declared.comparison.placing.Whom.{Whom}
use Rattle.acl_normal.specs.declared.comparison.placing.Whom.TheVariants.{Everyone, Nobody, One}
use Rattle.acl_normal.specs.internal.comparison.FirstPlaces.{AreWhoms, no_ace}
use Rattle.acl_normal.specs.internal.rows.Rows.{is_principal_of, row_of}
use Rattle.acl_normal.specs.internal.comparison.SetSearch.{IsRisingSet, principals}

-- whom the ACE mentions, if it mentions anyone
abbrev pub mentioned_by : Ace → Option Principal
mentioned_by a = if is_mentioning a then Some (principal_of a) else None

-- the principal in a row of a table, if there is one
abbrev pub at_row : List (Option PrincipalRef) → ℕ → Option Principal
at_row table row = option_map principal (slice_index_or table row None)

-- a list mentions the principal, whose row this is
pub record IsMentionedAt (xs : List Ace) (row : ℕ) (p : Principal) : Type 0 where
  pub row_is : row ≡ row_of p xs
  pub named : is_principal_of p xs ≡ true
  pub mentioned : is_among p (mentioned_in xs) ≡ true

-- by row, just the principals that the first n ACEs of a list mention, and others that it mentions
pub record AreByRow (xs : List Ace) (n : ℕ) (table : List (Option PrincipalRef)) : Type 0 where
  pub count : length table ≡ length xs
  pub only : (row : ℕ) (p : Principal) → at_row table row ≡ Some p → IsMentionedAt xs row p
  pub each : (i : ℕ) → i < n → is_mentioning (slice_index_or xs i no_ace) ≡ true
      → at_row table (row_of (principal_of (slice_index_or xs i no_ace)) xs)
      ≡ Some (principal_of (slice_index_or xs i no_ace))

-- a table with someone in a row, if anyone is found
abbrev pub noted : List (Option PrincipalRef) → ℕ → Option PrincipalRef → List (Option PrincipalRef)
noted table row None = table
noted table row (Some p) = slice_set table row (Some p)

-- names with one more, if anyone is found
abbrev pub with_found : List PrincipalRef → Option PrincipalRef → List PrincipalRef
with_found names None = names
with_found names (Some p) = names ++ p ∷ []

-- the principals of a table, in its order
abbrev pub held : List (Option PrincipalRef) → List Principal
held [] = []
held (None ∷ table) = held table
held (Some p ∷ table) = principal p ∷ held table

-- the principals of the first n rows, and how many of them are before each of these rows
pub record AreMentionedNumbers (table : List (Option PrincipalRef)) (n : ℕ)
    (whole : List Principal) (numbers : List ℕ) :
    Type 0 where
  pub whole_is : whole ≡ held (take n table)
  pub count : length numbers ≡ n
  pub at : (row : ℕ) → row < n → slice_index_or numbers row 0 ≡ length (held (take row table))

-- by its number, whom an ACE names
abbrev pub whom_of : Ace → ℕ → Whom
whom_of a number =
    if takes_part a then (if principal_eq (principal_of a) everyone then Everyone else One number) else Nobody

-- the principal has this number
pub record HasNumber (whole : List Principal) (p : Principal) (number : ℕ) : Type 0 where
  pub within : number < length whole
  pub is : p ≡ slice_index_or whole number everyone

-- by place, a row each, and by row the number of the principal whom the ACE mentions
pub record AreMentionedRows (xs : List Ace) (rows : List ℕ) (whole : List Principal) (numbers : List ℕ) : Type 0 where
  pub rising : IsRisingSet whole
  pub count : length rows ≡ length xs
  pub within : (i : ℕ) → i < length xs → slice_index_or rows i 0 < length numbers
  pub number : (i : ℕ) → i < length xs → is_mentioning (slice_index_or xs i no_ace) ≡ true
      → HasNumber whole (principal_of (slice_index_or xs i no_ace)) (slice_index_or numbers (slice_index_or rows i 0) 0)

-- the principals that a list mentions, in order, and whom of these each ACE names
pub record AreMentionsOf (xs : List Ace) (found : Mentions) : Type 0 where
  pub in_order : principals found.principals.items ≡ mentioned_in xs
  pub whoms : AreWhoms (principals found.principals.items) xs found.whoms.items

-- the principals that two lists mention, in order, and whom of these each ACE names: of the first list, and then of the
-- second
pub record AreMentioned (list other : List Ace) (found : Mentions) : Type 0 where
  pub in_order : principals found.principals.items ≡ mentioned list other
  pub whoms : AreWhoms (principals found.principals.items) (list ++ other) found.whoms.items
