-- Rows of principals (this library's own): how they are numbered in a list, and the place of each of their rights.
use Rattle.std.specs.Prelude.{◌≡◌, ℕ, ◌+◌, ◌*◌, ◌<◌, ◌≤◌, suc, Bool, true, false, cond, ◌||◌, List, [], ◌∷◌, Option, option_map, length, slice_index_or}
use Rattle.std.specs.Ordering.{is_le, is_lt}
use Rattle.acl_perm.specs.Order.{principal_cmp, kind_rank}
use Rattle.acl_perm.specs.Principal.{Principal}
use Rattle.acl_nfs4.specs.Ace.{Ace}
use Rattle.acl_nfs4.specs.Who.{principal_of}
use Rattle.acl_normal.specs.Keys.{ColumnKey, principal_eq}
use Rattle.acl_normal.specs.Places.{first_at}
use Rattle.acl_normal.specs.internal.Places.{key_here}

-- an ACE of the list names the principal
abbrev pub is_principal_of : Principal → List Ace → Bool
is_principal_of p [] = false
is_principal_of p (a ∷ xs) = principal_eq (principal_of a) p || is_principal_of p xs

-- the number of a principal's row: how many ACEs of the list name a principal below it
abbrev pub row_of : Principal → List Ace → ℕ
row_of p [] = 0
row_of p (a ∷ xs) = cond (is_lt (principal_cmp (principal_of a) p)) (suc (row_of p xs)) (row_of p xs)

-- the number of a key: by row, and then by kind
abbrev pub key_number : ColumnKey → List Ace → ℕ
key_number k xs = 2 * row_of k.0 xs + kind_rank k.1

-- if a key of the list has the number, it is this
abbrev pub IsNumberOf : List Ace → ℕ → ColumnKey → Type 0
IsNumberOf xs number found = (k : ColumnKey) → is_principal_of k.0 xs ≡ true → number ≡ key_number k xs → found ≡ k

-- the principal is named, and this is its row
pub record IsRowOf (row : ℕ) (p : Principal) (xs : List Ace) : Type 0 where
  pub named : is_principal_of p xs ≡ true
  pub is : row ≡ row_of p xs

-- by place, the row of the principal that the ACE names
pub record AreRowNumbers (xs : List Ace) (rows : List ℕ) : Type 0 where
  pub count : length rows ≡ length xs
  pub at : (i : ℕ) → i < length xs → slice_index_or rows i 0 ≡ row_of (key_here xs i).0 xs

-- all places of the list, in the order of the principals that their ACEs name: the row of each principal begins with
-- it, and all places that name it are from there on
pub record IsByPrincipal (xs : List Ace) (order : List ℕ) : Type 0 where
  pub count : length order ≡ length xs
  pub within : (i : ℕ) → i < length xs → slice_index_or order i 0 < length xs
  pub rising : (i j : ℕ) → i ≤ j → j < length xs
      → is_le (principal_cmp (key_here xs (slice_index_or order i 0)).0
      (key_here xs (slice_index_or order j 0)).0) ≡ true
  pub first : (p : Principal) → is_principal_of p xs ≡ true → (key_here xs (slice_index_or order (row_of p xs) 0)).0 ≡ p
  pub whole : (i : ℕ) → i < length xs
      → (k : ℕ) × (row_of (key_here xs i).0 xs ≤ k) × (k < length xs) × (slice_index_or order k 0 ≡ i)

-- the place of the first ACE of a principal with the right
abbrev pub first_place_of : ℕ → Principal → List Ace → Option ℕ
first_place_of b p xs = option_map (λ e. e.1) (first_at b p xs)

-- the place of the first ACE with the right that names the principal of the row
abbrev pub IsFirstOfRow : ℕ → ℕ → List Ace → Option ℕ → Type 0
IsFirstOfRow row b xs place = (p : Principal) → IsRowOf row p xs → place ≡ first_place_of b p xs
