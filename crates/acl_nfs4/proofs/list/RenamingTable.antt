-- The names of a table of renamings, row by row.
use Rattle.acl_nfs4.proofs.Common.{[], and_true, ap, arith, Bool, bytes_eq, bytes_eq_same, cond, drop, false, get_or, get_or_default, length, List, None, Option, refl, Some, suc, sym, take, true, ℕ, ◌&&◌, ◌++◌, ◌+◌, ◌<◌, ◌∙◌, ◌∷◌, ◌≡◌}
use Rattle.std.specs.Option.{is_none}
use Rattle.std.proofs.lemmas.List.{map-append}
use Rattle.std.proofs.Math.Seq.{drop-cons, take-suc}
use Rattle.acl_nfs4.specs.Renamed.{bad_row, bad_row_after, is_account, is_good_row, is_row_of, new_name, NameRow, rows, same_sort, name_row}
use Rattle.acl_nfs4.specs.declared.list.renaming.Renaming.{Renaming}
use Rattle.acl_nfs4.specs.internal.NameMap.{with_new_name}

-- the names that a map or a table has
abbrev pub Names : Type 0
Names = Bool → List ℕ → Option (List ℕ)

-- two sorts that the test finds the same are the same
pub same_is : (a b : Bool) → same_sort a b ≡ true → a ≡ b
same_is true b e = sym e
same_is false true e = absurd cc
same_is false false e = refl

-- a sort is the same as itself
pub same_self : (a : Bool) → same_sort a a ≡ true
same_self true = refl
same_self false = refl

-- a row that is not for a name changes nothing for it
push_other : (before : List NameRow) (r : NameRow) (g : Bool) (q : List ℕ) → is_row_of g q r ≡ false
    → new_name (before ++ r ∷ []) g q ≡ new_name before g q
push_other [] r g q e = rw e refl
push_other (x ∷ before) r g q e = ap (cond (is_row_of g q x) (Some x.to)) (push_other before r g q e)

-- a name that no row is for gets that of a row at the end
push_none : (before : List NameRow) (r : NameRow) (g : Bool) (q : List ℕ) → is_row_of g q r ≡ true
    → new_name before g q ≡ None → new_name (before ++ r ∷ []) g q ≡ Some r.to
push_none [] r g q e none = rw e refl
push_none (x ∷ before) r g q e none = by (is_row_of g q x) refl (push_none before r g q e)
  where
    by : (t : Bool) → is_row_of g q x ≡ t
        → (new_name before g q ≡ None → new_name (before ++ r ∷ []) g q ≡ Some r.to)
        → new_name ((x ∷ before) ++ r ∷ []) g q ≡ Some r.to
    by true is rest =
        let some : Some x.to ≡ None = sym (ap (λ (t : Bool). cond t (Some x.to) (new_name before g q)) is) ∙ none in
        absurd cc
    by false is rest = ap (λ (t : Bool). cond t (Some x.to) (new_name (before ++ r ∷ []) g q)) is
        ∙ rest (sym (ap (λ (t : Bool). cond t (Some x.to) (new_name before g q)) is) ∙ none)

-- nothing is there if the test says so
pub none_is : (o : Option (List ℕ)) → is_none o ≡ true → o ≡ None
none_is None e = refl
none_is (Some x) e = absurd cc

-- the names of a table with one more row, for a name that no row is for
pub name_push : (before : List NameRow) (r : NameRow) → is_none (new_name before r.is_group r.from) ≡ true
    → (g : Bool) (q : List ℕ)
    → new_name (before ++ r ∷ []) g q ≡ with_new_name (new_name before) r.is_group r.from r.to g q
name_push before r free g q = by (is_row_of g q r) refl
  where
    by : (t : Bool) → is_row_of g q r ≡ t
        → new_name (before ++ r ∷ []) g q ≡ with_new_name (new_name before) r.is_group r.from r.to g q
    by true is =
        let both = and_true (same_sort r.is_group g) (bytes_eq r.from q) is in
        let none : new_name before g q ≡ None =
        ap (λ (k : Bool). new_name before k q) (sym (same_is r.is_group g both.0))
        ∙ ap (new_name before r.is_group) (sym (bytes_eq_same r.from q both.1))
        ∙ none_is (new_name before r.is_group r.from) free in
        push_none before r g q is none ∙ sym (ap (λ (t : Bool). cond t (Some r.to) (new_name before g q)) is)
    by false is = push_other before r g q is
        ∙ sym (ap (λ (t : Bool). cond t (Some r.to) (new_name before g q)) is)

-- a row that is good has a first name that no row before it is for
good_is_free : (names : Names) (r : NameRow) → is_good_row names r ≡ true → is_none (names r.is_group r.from) ≡ true
good_is_free names r e = (and_true (is_account r.to) (is_none (names r.is_group r.from))
    (and_true (is_account r.from) _ e).1).1

-- what is known of a table whose first rows were read
pub record IsReading (names : Names) (place : ℕ) (table : List Renaming) : Type 0 where
  pub known : (g : Bool) (q : List ℕ) → names g q ≡ new_name (rows (take place table)) g q
  pub judged : bad_row_after (rows (take place table)) (rows (drop place table)) ≡ bad_row (rows table)

-- the names after one more are known
with_same : (f h : Names) (g : Bool) (name value : List ℕ) → ((k : Bool) (q : List ℕ) → f k q ≡ h k q)
    → (k : Bool) (q : List ℕ) → with_new_name f g name value k q ≡ with_new_name h g name value k q
with_same f h g name value same k q = ap (cond (same_sort g k && bytes_eq name q) (Some value)) (same k q)

-- a row is good for names that are the same
good_same : (f h : Names) (r : NameRow) → ((g : Bool) (q : List ℕ) → f g q ≡ h g q) → is_good_row f r ≡ is_good_row h r
good_same f h r same =
    ap (λ (o : Option (List ℕ)). is_account r.from && (is_account r.to && is_none o)) (same r.is_group r.from)

-- the rows from a place on
rows_from : (table : List Renaming) (place : ℕ) (x : Renaming) → place < length table → x ≡ get_or table place x
    → rows (drop place table) ≡ name_row x ∷ rows (drop (place + 1) table)
rows_from table place x lt is =
    let next : suc place ≡ place + 1 = omega arith in
    ap rows (drop-cons table place x lt) ∙ ap (λ (y : Renaming). name_row y ∷ rows (drop (suc place) table)) (sym is)
    ∙ ap (λ (k : ℕ). name_row x ∷ rows (drop k table)) next

-- the rows up to the next place
rows_to : (table : List Renaming) (place : ℕ) (x : Renaming) → place < length table → x ≡ get_or table place x
    → rows (take (place + 1) table) ≡ rows (take place table) ++ name_row x ∷ []
rows_to table place x lt is =
    let next : place + 1 ≡ suc place = omega arith in
    ap (λ (k : ℕ). rows (take k table)) next ∙ ap rows (take-suc table place x lt)
    ∙ map-append name_row (take place table) (get_or table place x ∷ [])
    ∙ ap (λ (y : Renaming). rows (take place table) ++ name_row y ∷ []) (sym is)

-- one more row was read
pub reading_more : (names after : Names) (place : ℕ) (table : List Renaming) (x : Renaming) → place < length table
    → IsReading names place table → is_good_row names (name_row (get_or table place x)) ≡ true
    → ((g : Bool) (q : List ℕ) → after g q ≡ with_new_name names (get_or table place x).is_group
    (get_or table place x).from.now (get_or table place x).to.now g q)
    → IsReading after (place + 1) table
reading_more names after place table d lt s good put =
    let x : Renaming = get_or table place d in
    let is : x ≡ get_or table place x = get_or_default table place d x lt in
    let before : List NameRow = rows (take place table) in
    let r : NameRow = name_row x in
    let fine : is_good_row (new_name before) r ≡ true = sym (good_same names (new_name before) r s.known) ∙ good in
    record {
      known = λ g q. put g q ∙ with_same names (new_name before) r.is_group r.from r.to s.known g q
          ∙ sym (name_push before r (good_is_free (new_name before) r fine) g q)
          ∙ ap (λ (t : List NameRow). new_name t g q) (sym (rows_to table place x lt is));
      judged = ap (λ (t : List NameRow). bad_row_after t (rows (drop (place + 1) table))) (rows_to table place x lt is)
          ∙ sym (ap (λ (t : Bool). cond t (bad_row_after (before ++ r ∷ []) (rows (drop (place + 1) table)))
          (Some (length before))) fine)
          ∙ sym (ap (bad_row_after before) (rows_from table place x lt is)) ∙ s.judged;
    }
