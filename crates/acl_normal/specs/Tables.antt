-- The table of one right: the ACEs of a normal form that have it, and where they come from (this library's own; the
-- rights are those of RFC 8881, section 6.2.1.3.1).
use Rattle.std.specs.Prelude.{⊤, ◌≡◌, ℕ, List, [], ◌∷◌, filter, map, Bool, Some}
use Rattle.acl_perm.specs.Bits.{has_bit, identifier_group}
use Rattle.acl_perm.specs.declared.kind.Kind.{Kind}
use Rattle.acl_nfs4.specs.Ace.{Ace}
use Rattle.acl_nfs4.specs.Who.{principal_of}
use Rattle.acl_normal.specs.NormalForm.{IsNormalFormOf}
use Rattle.acl_normal.specs.Places.{first_at}
use Rattle.acl_normal.specs.declared.right_table.BorrowedRow.{BorrowedRow}
use Rattle.acl_normal.specs.declared.right_table.Row.{Row}

-- the ACEs that have the right, in order
abbrev pub with_bit : ℕ → List Ace → List Ace
with_bit bit list = filter (λ a. has_bit a.mask bit) list

-- what a row says: a kind, a who, whether that is the name of a group, and a place in the given list, from 0
pub record TableRow : Type 0 where
  pub kind : Kind
  pub who : List ℕ
  pub group : Bool
  pub source : ℕ

-- what a row with a copied who says
abbrev pub of_row : Row → TableRow
of_row r = record { kind = r.kind; who = r.who.items; group = r.group; source = r.source }

-- what a row with a borrowed who says
abbrev pub of_borrowed : BorrowedRow → TableRow
of_borrowed r = record { kind = r.kind; who = r.who.now; group = r.group; source = r.source }

-- the row shows the ACE: its kind, its who, and whether that is the name of a group; and the first ACE of the source
-- that names the same, takes part and has the right has that kind and is at that place
pub record IsRow (bit : ℕ) (source : List Ace) (a : Ace) (r : TableRow) : Type 0 where
  pub kind : r.kind ≡ a.kind
  pub who : r.who ≡ a.who
  pub group : r.group ≡ has_bit a.flags identifier_group
  pub place : first_at bit (principal_of a) source ≡ Some (r.kind, r.source)

-- a row for each ACE, in order
abbrev pub AreRows : ℕ → List Ace → List Ace → List TableRow → Type 0
AreRows bit source [] [] = ⊤
AreRows bit source [] (r ∷ rows) = ⊥
AreRows bit source (a ∷ list) [] = ⊥
AreRows bit source (a ∷ list) (r ∷ rows) = IsRow bit source a r × AreRows bit source list rows

-- the rows say which ACEs of the source's normal form have the right
pub record IsTableOf (bit : ℕ) (source : List Ace) (rows : List TableRow) : Type 0 where
  pub form : List Ace
  pub is_form : IsNormalFormOf source form
  pub shown : AreRows bit source (with_bit bit form) rows

-- the rows of the ACEs of the source's normal form that have the right
abbrev pub IsTable : ℕ → List Ace → List Row → Type 0
IsTable bit source rows = IsTableOf bit source (map of_row rows)

-- the rows with borrowed whos are the table of the list at this right
abbrev pub IsBorrowedTable : ℕ → List Ace → List BorrowedRow → Type 0
IsBorrowedTable bit source rows = IsTableOf bit source (map of_borrowed rows)
