-- How the rows of the table of one right come about (this library's own).
use Rattle.std.specs.Prelude.{◌≡◌, true, ℕ, List, [], ◌∷◌, ◌++◌, map, slice_index_or, All, Some}
use Rattle.acl_perm.specs.Principal.{Principal}
use Rattle.acl_nfs4.specs.Ace.{Ace}
use Rattle.acl_nfs4.specs.Who.{principal_of}
use Rattle.acl_eval.specs.Column.{column, first_kind}
use Rattle.acl_normal.specs.internal.Alike.{is_either}
use Rattle.acl_normal.specs.internal.rows.Rows.{IsRowOf, first_place_of}
use Rattle.acl_normal.specs.internal.emit.Emitted.{AreInRows, emitted_ace, emitted_aces}
use Rattle.acl_normal.specs.internal.emit.Rising.{all_cleared}
use Rattle.acl_normal.specs.Left.{left}
use Rattle.acl_normal.specs.Normal.{counts}
use Rattle.acl_normal.specs.declared.right_table.BorrowedRow.{BorrowedRow}
use Rattle.acl_normal.specs.declared.emit.emission.Emitted.{Emitted}
use Rattle.acl_normal.specs.Tables.{with_bit, of_borrowed, AreRows}

-- by row, the place of the first ACE of the principal that has the right, where one has it
abbrev pub HasFirstPlaces : ℕ → List Ace → List ℕ → Type 0
HasFirstPlaces bit list places = (row : ℕ) (p : Principal) (place : ℕ) → IsRowOf row p list
    → first_place_of bit p list ≡ Some place → slice_index_or places row 0 ≡ place

-- where the ACE has the right, its key is in the list
abbrev pub HasKey : ℕ → List Ace → Ace → Type 0
HasKey bit list a =
    counts bit a ≡ true → first_kind (is_either (principal_of a) (principal_of a)) (column list bit) ≡ Some a.kind

-- the row of an ACE was added, where it has the right
abbrev pub AddsRow : ℕ → List Ace → Ace → List BorrowedRow → List BorrowedRow → Type 0
AddsRow bit source a old new = (list : List Ace) → AreRows bit source list (map of_borrowed old)
    → AreRows bit source (list ++ with_bit bit (a ∷ [])) (map of_borrowed new)

-- whatever list has the key of the ACE, and the ACE's principal first at the place: the row of the ACE was added
abbrev pub AddsRowOfPlace : ℕ → ℕ → Ace → List BorrowedRow → List BorrowedRow → Type 0
AddsRowOfPlace bit place a old new = (list : List Ace)
    → ((first : ℕ) → first_place_of bit (principal_of a) list ≡ Some first → place ≡ first) → HasKey bit list a
    → AddsRow bit list a old new

-- whatever list has these places and the keys of the emitted ACEs: the rows are those of the emitted ACEs
abbrev pub AreRowsOfPlaces : ℕ → List ℕ → List Emitted → List BorrowedRow → Type 0
AreRowsOfPlaces bit places form rows = (list : List Ace) → HasFirstPlaces bit list places → AreInRows list form
    → All (λ e. HasKey bit list (emitted_ace e)) form
    → AreRows bit list (with_bit bit (emitted_aces form)) (map of_borrowed rows)

-- the rows are those of the list's own ACEs that have the right, in their order
abbrev pub AreRowsInPlace : ℕ → List Ace → List BorrowedRow → Type 0
AreRowsInPlace bit list rows = AreRows bit list (with_bit bit (all_cleared (left list))) (map of_borrowed rows)
