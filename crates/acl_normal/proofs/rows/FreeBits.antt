-- Whether a principal is free at a bit, by its place.
use Rattle.acl_normal.proofs.Common.{Ace, Allow, ap, Bool, column, Deny, false, first_at, is_blocked, is_free, is_user, IsOnce, Kind, List, None, not, other_kind, Principal, refl, Some, sym, true, ℕ, ◌||◌, ◌∙◌, ◌≡◌}
use Rattle.acl_normal.proofs.rows.FreeByPlaces.{free_at_first, none_free}

-- a principal is not free at a bit that none of its ACEs has
pub free_none : (xs : List Ace) (b : ℕ) (p : Principal) → first_at b p xs ≡ None
    → false ≡ (is_free (column xs b) (p, Deny) || is_free (column xs b) (p, Allow))
free_none xs b p first = rw (none_free b p Deny xs first, none_free b p Allow xs first) refl

-- a test that is false where another is true, and true where it is false, is its opposite
pub not_from : (t x : Bool) → (t ≡ true → x ≡ false) → (t ≡ false → x ≡ true) → t ≡ not x
not_from true x up down = sym (ap not (up refl))
not_from false x up down = sym (ap not (down refl))

-- a principal is free at a bit if and only if nothing blocks the place of its first ACE with it
pub free_some : (xs : List Ace) (b : ℕ) (p : Principal) (j : Kind) (i : ℕ) (t : Bool) → IsOnce (column xs b)
    → first_at b p xs ≡ Some (j, i) → t ≡ not (is_blocked j (is_user p) b xs i)
    → t ≡ (is_free (column xs b) (p, Deny) || is_free (column xs b) (p, Allow))
free_some xs b p j i t once first clear =
    let both = free_at_first b p xs j i once first in
    clear ∙ sym both.0 ∙ split j both.1
  where
    or_false : (x : Bool) → x ≡ (x || false)
    or_false true = refl
    or_false false = refl

    split : (j : Kind) → is_free (column xs b) (p, other_kind j) ≡ false
        → is_free (column xs b) (p, j)
        ≡ (is_free (column xs b) (p, Deny) || is_free (column xs b) (p, Allow))
    split Deny n = rw n (or_false (is_free (column xs b) (p, Deny)))
    split Allow n = rw n refl
