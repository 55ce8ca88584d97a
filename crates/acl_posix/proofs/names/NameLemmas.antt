-- The id that a map with byte strings as keys has for a name.
use Rattle.acl_posix.proofs.Common.{[], ap, arith, cond, eq_by_cmp, find-put, Id, ids_of, insert_entry, is_at, is_some, List, lookup, map, nat_cmp, nat_cmp-IsAntisymmetric, nat_list_cmp_total, option_map, Ordering, refl, slice_cmp, slice_cmp-IsAntisymmetric, Some, sym, Vec, ℕ, ◌∙◌, ◌∷◌, ◌≡◌}
use Rattle.std.specs.FinMap as fin

-- the entries of a map, as names and numbers
abbrev numbers : List (Vec ℕ × Id) → List (List ℕ × ℕ)
numbers es = map (λ e. (e.0.items, e.1.value)) es

-- looking up a name among the entries of a map finds the number of its id
find_name : (q : List ℕ) (es : List (Vec ℕ × Id)) → option_map (λ (id : Id). id.value)
    (lookup (is_at (λ (k : Vec ℕ). slice_cmp nat_cmp q k.items)) es) ≡ fin.find (slice_cmp nat_cmp) q (numbers es)
find_name q [] = refl
find_name q (e ∷ es) = let rest = find_name q es in grind arith

-- the id that a map has for a name is the one that the half of the table has
pub get_name : (q : List ℕ) (es : List (Vec ℕ × Id))
    → option_map (λ (id : Id). id.value) (lookup (is_at (λ (k : Vec ℕ). slice_cmp nat_cmp q k.items)) es)
    ≡ fin.get (ids_of es) q
get_name q es = find_name q es ∙ sym (fin.get-from_entries nat_list_cmp_total (numbers es) q)

-- a map has a name if and only if the half of the table has it
pub has_name : (q : List ℕ) (es : List (Vec ℕ × Id))
    → is_some (lookup (is_at (λ (k : Vec ℕ). slice_cmp nat_cmp q k.items)) es) ≡ fin.contains_key (ids_of es) q
has_name q es = let same = get_name q es in grind arith

-- ---- a name added

-- the order of vectors by their bytes
abbrev by_items : Vec ℕ → Vec ℕ → Ordering
by_items a b = slice_cmp nat_cmp a.items b.items

-- after a name is inserted into a map, its names and numbers are those before, with the name put in its place
numbers_inserted : (es : List (Vec ℕ × Id)) (k : Vec ℕ) (v : Id)
    → numbers (insert_entry by_items es k v) ≡ fin.put (slice_cmp nat_cmp) k.items v.value (numbers es)
numbers_inserted [] k v = refl
numbers_inserted (e ∷ es) k v = let rest = numbers_inserted es k v in grind arith

-- inserting a name into a map inserts it into the half of the table
pub name_added : (es : List (Vec ℕ × Id)) (k : Vec ℕ) (v : Id)
    → ids_of (insert_entry by_items es k v) ≡ fin.insert (ids_of es) k.items v.value
name_added es k v = fin.same_map nat_list_cmp_total (slice_cmp-IsAntisymmetric nat_cmp-IsAntisymmetric) _ _ (λ q.
    fin.get-from_entries nat_list_cmp_total (numbers (insert_entry by_items es k v)) q
    ∙ ap (λ (xs : List (List ℕ × ℕ)). fin.find (slice_cmp nat_cmp) q xs) (numbers_inserted es k v)
    ∙ find-put (slice_cmp nat_cmp) nat_list_cmp_total q k.items v.value (numbers es)
    ∙ sym (fin.get-insert nat_list_cmp_total (ids_of es) k.items v.value q
    ∙ ap (cond (eq_by_cmp (slice_cmp nat_cmp) q k.items) (Some v.value))
    (fin.get-from_entries nat_list_cmp_total (numbers es) q)))
