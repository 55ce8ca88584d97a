-- The places of the ACEs that have a right, noted by row, place by place.
use Rattle.acl_normal.proofs.Common.{Ace, ap, AreRowNumbers, arith, Bool, eqb-false, eqb-true, false, false≢true, first_place_of, get_or-set_other, has_bit, HasFirstPlaces, IsRowOf, IsTidy, key_here, length, List, mask_here, Principal, principal_here, refl, row_of, same_Some, slice_index_or, slice_set, Some, sym, true, ℕ, ⊎_elim, ◌+◌, ◌<◌, ◌==◌, ◌∙◌, ◌≡◌, ◌≢◌, ◌≤◌}
use Rattle.std.proofs.lemmas.Grind.{get_or-set_at}
use Rattle.acl_normal.proofs.rows.FirstPlaces.{first_by_place, first_in, has_first, named_there, row_has}
use Rattle.acl_normal.proofs.rows.Rows.{named_here, row_below}
use Rattle.acl_normal.proofs.Each.{before_or_at}

-- by row, the place of the first ACE of its principal with the bit, where that place is before the given one
abbrev pub NotesTo : ℕ → List Ace → List ℕ → ℕ → Type 0
NotesTo b xs places to = (row : ℕ) (p : Principal) (i : ℕ) → IsRowOf row p xs → first_place_of b p xs ≡ Some i → i < to
    → slice_index_or places row 0 ≡ i

-- the row of a place is less than the number of places
pub row_inside : (xs : List Ace) (rows : List ℕ) (i : ℕ) → AreRowNumbers xs rows → i < length xs
    → slice_index_or rows i 0 < length xs
row_inside xs rows i numbers l =
    let row = numbers.at i l in
    let below = row_below (key_here xs i).0 xs (named_here xs i l) in
    omega (arith, row, below)

-- if the ACE at the next place has the bit, its place is noted in its row
pub noted_more : (b : ℕ) (xs : List Ace) (rows places : List ℕ) (i : ℕ) → AreRowNumbers xs rows → IsTidy xs
    → i < length xs → length places ≡ length xs → has_bit (mask_here xs i) b ≡ true → NotesTo b xs places i
    → NotesTo b xs (slice_set places (slice_index_or rows i 0) i) (i + 1)
noted_more b xs rows places i numbers tidy l count has so row p j at first below =
    go (slice_index_or rows i 0 == row) refl
  where
    own : ℕ
    own = slice_index_or rows i 0

    go : (t : Bool) → (own == row) ≡ t → slice_index_or (slice_set places own i) row 0 ≡ j
    go true e =
        let same : own ≡ row = eqb-true own row e in
        let here = row_has b xs rows row i p numbers at (tidy.once b) tidy.quiet l same has in
        let is : i ≡ j = same_Some i j (sym here ∙ first) in
        let inside : own < length places = omega (arith, row_inside xs rows i numbers l, count) in
        get_or-set_at places own row i 0 (sym same) inside ∙ is
    go false e =
        let other : own ≢ row = eqb-false own row e in
        get_or-set_other places own row i 0 (λ f. other (sym f))
        ∙ ⊎_elim (λ (s : j < i). so row p j at first s)
        (λ (f : j ≡ i).
        let whose : principal_here xs i ≡ p = ap (principal_here xs) (sym f) ∙ named_there b p xs j first in
        absurd (other (numbers.at i l ∙ ap (λ v. row_of v xs) whose ∙ sym at.is)))
        (before_or_at j i below)

-- if the ACE at the next place lacks the bit, nothing has to be noted
pub noted_past : (b : ℕ) (xs : List Ace) (places : List ℕ) (i : ℕ) → has_bit (mask_here xs i) b ≡ false
    → NotesTo b xs places i → NotesTo b xs places (i + 1)
noted_past b xs places i lacks so row p j at first below =
    ⊎_elim (λ (s : j < i). so row p j at first s)
    (λ (f : j ≡ i). absurd (false≢true (sym lacks ∙ ap (λ v. has_bit (mask_here xs v) b) (sym f)
    ∙ has_first b p xs _ j (first_by_place b p xs j first))))
    (before_or_at j i below)

-- after the last place the first places of all principals are noted
pub noted_all : (b : ℕ) (xs : List Ace) (places : List ℕ) (i : ℕ) → length xs ≤ i → NotesTo b xs places i
    → HasFirstPlaces b xs places
noted_all b xs places i end so row p j at first =
    let within = first_in b p xs _ (first_by_place b p xs j first) in
    so row p j at first (omega (arith, within, end))
