-- The name that a map with ids as keys has for an id.
use Rattle.std.proofs.Common.{◌≡◌, ◌∙◌, ◌∷◌, ℕ, List, [], Bor, None, Option, Some, ap, arith, cond, refl, sym}
use Rattle.std.specs.Prelude.{is_some, map, option_map}
use Rattle.std.specs.BTreeMap.{insert_entry, is_at}
use Rattle.std.specs.Cmp.{nat_cmp_total}
use Rattle.std.specs.FinMap as fin
use Rattle.std.specs.FinMap.{nat_cmp-IsAntisymmetric}
use Rattle.std.specs.FinMap.Entries.{find-put}
use Rattle.std.specs.Global.{Vec}
use Rattle.std.specs.Map.{lookup}
use Rattle.std.specs.Option.{option_copied}
use Rattle.std.specs.Ordering.{eq_by_cmp, nat_cmp}
use Rattle.acl_forms.specs.internal.NamesOfIds.{names_by_id}

-- the entries of a map, as ids and names
abbrev named : List (ℕ × Vec ℕ) → List (ℕ × List ℕ)
named es = map (λ e. (e.0, e.1.items)) es

-- looking up an id among the entries of a map finds its name
find_id : (q : ℕ) (es : List (ℕ × Vec ℕ))
    → option_map (λ (name : Vec ℕ). name.items) (lookup (is_at (λ (k : ℕ). nat_cmp q k)) es)
    ≡ fin.find nat_cmp q (named es)
find_id q [] = refl
find_id q (e ∷ es) = let rest = find_id q es in grind arith

-- the name that a map has for an id is the one of the finite map
pub get_id : (q : ℕ) (es : List (ℕ × Vec ℕ))
    → option_map (λ (name : Vec ℕ). name.items) (lookup (is_at (λ (k : ℕ). nat_cmp q k)) es)
    ≡ fin.get (names_by_id es) q
get_id q es = find_id q es ∙ sym (fin.get-from_entries nat_cmp_total (named es) q)

-- the name that a map returns for an id is the one of the finite map
pub got_id : (q : ℕ) (es : List (ℕ × Vec ℕ)) (found : Option (Bor (Vec ℕ)))
    → option_copied found ≡ lookup (is_at (λ (k : ℕ). nat_cmp q k)) es
    → option_map (λ (name : Bor (Vec ℕ)). name.now.items) found ≡ fin.get (names_by_id es) q
got_id q es None same = ap (option_map (λ (name : Vec ℕ). name.items)) same ∙ get_id q es
got_id q es (Some name) same = ap (option_map (λ (name : Vec ℕ). name.items)) same ∙ get_id q es

-- a map has an id if and only if the finite map has it
pub has_id : (q : ℕ) (es : List (ℕ × Vec ℕ))
    → is_some (lookup (is_at (λ (k : ℕ). nat_cmp q k)) es) ≡ fin.contains_key (names_by_id es) q
has_id q es = let same = get_id q es in grind arith

-- after a name is inserted into a map, its ids and names are those before, with the name put in its place
named_inserted : (es : List (ℕ × Vec ℕ)) (k : ℕ) (v : Vec ℕ)
    → named (insert_entry nat_cmp es k v) ≡ fin.put nat_cmp k v.items (named es)
named_inserted [] k v = refl
named_inserted (e ∷ es) k v = let rest = named_inserted es k v in grind arith

-- inserting a name into a map inserts it into the finite map
pub id_added : (es : List (ℕ × Vec ℕ)) (k : ℕ) (v : Vec ℕ)
    → names_by_id (insert_entry nat_cmp es k v) ≡ fin.insert (names_by_id es) k v.items
id_added es k v = fin.same_map nat_cmp_total nat_cmp-IsAntisymmetric _ _ (λ q.
    fin.get-from_entries nat_cmp_total (named (insert_entry nat_cmp es k v)) q
    ∙ ap (λ (xs : List (ℕ × List ℕ)). fin.find nat_cmp q xs) (named_inserted es k v)
    ∙ find-put nat_cmp nat_cmp_total q k v.items (named es)
    ∙ sym (fin.get-insert nat_cmp_total (names_by_id es) k v.items q
    ∙ ap (cond (eq_by_cmp nat_cmp q k) (Some v.items)) (fin.get-from_entries nat_cmp_total (named es) q)))
