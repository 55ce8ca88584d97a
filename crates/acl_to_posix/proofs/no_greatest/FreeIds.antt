-- Users and groups that neither a shape nor the keys of a right name: there are some, since no list has so many ACEs.
use Rattle.std.proofs.Common.{◌≡◌, ◌≤◌, ◌<◌, ◌+◌, ℕ, zero, suc, Bool, true, false, List, [], ◌∷◌, ◌++◌, refl, sym, ap, ◌∙◌, arith, length}
use Rattle.std.proofs.lemmas.Bool.{eq-eqb, eqb-true, or_parts}
use Rattle.std.proofs.lemmas.Bool.Decides.{nat_tests}
use Rattle.std.proofs.lemmas.List.{length-append, length-map}
use Rattle.std.proofs.lemmas.List.Folds.{list_any-append}
use Rattle.std.specs.Prelude.{◌==◌, ◌||◌, if◌then◌else◌}
use Rattle.std.specs.Ordering.{eq_by_cmp}
use Rattle.acl_perm.proofs.Bools.{or_true_right}
use Rattle.acl_posix.specs.Check.{is_member}
use Rattle.acl_posix.specs.Id.{IsId, greatest_id}
use Rattle.acl_posix.specs.Tag.{Tag, user, group, tag_cmp, qualifier}
use Rattle.acl_posix.proofs.Exports.{same_tag}
use Rattle.acl_nfs4.specs.Limits.{most_aces}
use Rattle.acl_to_posix.specs.ToPosix.{EntryShape}
use Rattle.acl_to_posix.specs.internal.ShapeBody.{TagColumn, has_tag, most_names}
use Rattle.acl_to_posix.specs.internal.LossBody.{key_numbers}

-- the list without the first place of a number
abbrev removed : ℕ → List ℕ → List ℕ
removed n [] = []
removed n (x ∷ xs) = if x == n then xs else x ∷ removed n xs

-- it is shorter by one
length-removed : (n : ℕ) (xs : List ℕ) → is_member n xs ≡ true → length xs ≡ suc (length (removed n xs))
length-removed n [] h = absurd cc
length-removed n (x ∷ xs) h = by (length-removed n xs) (x == n) h
  where
    by : (is_member n xs ≡ true → length xs ≡ suc (length (removed n xs))) → (b : Bool) → (b || is_member n xs) ≡ true
        → suc (length xs) ≡ suc (length (if b then xs else x ∷ removed n xs))
    by rest true h = refl
    by rest false h = ap suc (rest h)

-- a number that is not left is not there, unless it is the one that was removed
is_member-removed : (n m : ℕ) (xs : List ℕ) → is_member m (removed n xs) ≡ false → (n == m) ≡ false
    → is_member m xs ≡ false
is_member-removed n m [] h d = refl
is_member-removed n m (x ∷ xs) h d = by (λ g. is_member-removed n m xs g d) (x == n) refl h
  where
    by : (is_member m (removed n xs) ≡ false → is_member m xs ≡ false) → (b : Bool) → (x == n) ≡ b
        → is_member m (if b then xs else x ∷ removed n xs) ≡ false → is_member m (x ∷ xs) ≡ false
    by rest true e h = rw (ap (λ (y : ℕ). y == m) (eqb-true x n e) ∙ d, h) refl
    by rest false e h = let two = or_parts (x == m) (is_member m (removed n xs)) h in rw (two.0, rest two.1) refl

-- a number that is less than another is not the same
eqb-gt : (k n : ℕ) → n < k → (k == n) ≡ false
eqb-gt k n lt = grind (arith, nat_tests)

-- a list of fewer key_numbers than a bound lacks a number below the bound
pub free_below : (k : ℕ) (xs : List ℕ) → length xs < k → (n : ℕ) × (n < k) × (is_member n xs ≡ false)
free_below zero xs lt = absurd (omega (arith, lt))
free_below (suc k) xs lt = by (free_below k) (is_member k xs) refl
  where
    by : ((ys : List ℕ) → length ys < k → (n : ℕ) × (n < k) × (is_member n ys ≡ false)) → (b : Bool)
        → is_member k xs ≡ b → (n : ℕ) × (n < suc k) × (is_member n xs ≡ false)
    by rest true e =
        let short : length xs ≡ suc (length (removed k xs)) = length-removed k xs e in
        let (n, below, lacking) = rest (removed k xs) (omega (arith, lt, short)) in
        (n, omega (arith, below), is_member-removed k n xs lacking (eqb-gt k n below))
    by rest false e = (k, omega arith, e)

-- two key_numbers are the same in either order
pub eqb_comm : (m n : ℕ) → (m == n) ≡ (n == m)
eqb_comm m n = grind (arith, nat_tests)

-- a number that is not in a list differs from each number that is
pub eqb-not_member : (n m : ℕ) (xs : List ℕ) → is_member n xs ≡ false → is_member m xs ≡ true → (n == m) ≡ false
eqb-not_member n m [] lacking has = absurd cc
eqb-not_member n m (x ∷ xs) lacking has =
    let two = or_parts (x == n) (is_member n xs) lacking in by (eqb-not_member n m xs two.1) two.0 (x == m) refl has
  where
    by : (is_member m xs ≡ true → (n == m) ≡ false) → (x == n) ≡ false → (b : Bool) → (x == m) ≡ b
        → (b || is_member m xs) ≡ true → (n == m) ≡ false
    by rest differs true e h = eqb_comm n m ∙ ap (λ (y : ℕ). y == n) (sym (eqb-true x m e)) ∙ differs
    by rest differs false e h = rest h

-- a member of the first of two lists is a member of both together
pub is_member-append_left : (n : ℕ) (xs ys : List ℕ) → is_member n xs ≡ true → is_member n (xs ++ ys) ≡ true
is_member-append_left n xs ys h = list_any-append (λ (x : ℕ). x == n) xs ys ∙ ap (λ (b : Bool). b || is_member n ys) h

-- a member of the second of two lists is a member of both together
pub is_member-append_right : (n : ℕ) (xs ys : List ℕ) → is_member n ys ≡ true → is_member n (xs ++ ys) ≡ true
is_member-append_right n xs ys h = list_any-append (λ (x : ℕ). x == n) xs ys ∙ ap (λ (b : Bool). is_member n xs || b) h
    ∙ or_true_right (is_member n xs)

-- the number of the tag of a key is among the numbers of the tags of the keys
pub is_member-numbers : (t : Tag) (keys : TagColumn) → has_tag t keys ≡ true
    → is_member (qualifier t) (key_numbers keys) ≡ true
is_member-numbers t [] h = absurd cc
is_member-numbers t ((u, k) ∷ keys) h = by (is_member-numbers t keys) (eq_by_cmp tag_cmp t u) refl h
  where
    by : (has_tag t keys ≡ true → is_member (qualifier t) (key_numbers keys) ≡ true) → (b : Bool)
        → eq_by_cmp tag_cmp t u ≡ b → (b || has_tag t keys) ≡ true
        → is_member (qualifier t) (key_numbers ((u, k) ∷ keys)) ≡ true
    by rest true e h = ap (λ (b : Bool). b || is_member (qualifier t) (key_numbers keys))
        (eq-eqb (qualifier u) (qualifier t) (ap qualifier (sym (same_tag t u e))))
    by rest false e h = ap (λ (b : Bool). (qualifier u == qualifier t) || b) (rest h)
        ∙ or_true_right (qualifier u == qualifier t)

-- two users and a group that neither the shape nor the keys name
pub record AreFree (shape : EntryShape) (keys : TagColumn) (free next own : ℕ) : Type 0 where
  pub free_id : IsId free
  pub next_id : IsId next
  pub own_id : IsId own
  pub free_user : is_member free shape.users ≡ false
  pub free_key : (id : ℕ) → has_tag (user id) keys ≡ true → (free == id) ≡ false
  pub differ : (free == next) ≡ false
  pub next_user : (id : ℕ) → is_member id shape.users ≡ true → (id == next) ≡ false
  pub next_key : (id : ℕ) → has_tag (user id) keys ≡ true → (id == next) ≡ false
  pub own_group : (id : ℕ) → is_member id shape.groups ≡ true → (own == id) ≡ false
  pub own_key : (id : ℕ) → has_tag (group id) keys ≡ true → (own == id) ≡ false

-- there are such ids, since no list has so many ACEs
pub free_ids : (shape : EntryShape) (keys : TagColumn) → length shape.users + length shape.groups ≤ most_names
    → length keys ≤ most_aces + 1 → (free : ℕ) × (next : ℕ) × (own : ℕ) × AreFree shape keys free next own
free_ids shape keys small few =
    let ns = key_numbers keys in
    let all = shape.users ++ (shape.groups ++ ns) in
    let long : length all ≡ length shape.users + (length shape.groups + length keys) =
    length-append shape.users (shape.groups ++ ns)
    ∙ ap (λ (n : ℕ). length shape.users + n) (length-append shape.groups ns
    ∙ ap (λ (n : ℕ). length shape.groups + n) (length-map keys (λ key. qualifier key.0))) in
    let (free, f, no_free) = free_below greatest_id all (omega (arith, small, few, long)) in
    let (next, n, no_next) = free_below greatest_id (free ∷ all) (omega (arith, small, few, long)) in
    let two = or_parts (free == next) (is_member next all) no_next in
    let in_users = λ (id : ℕ) (h : is_member id shape.users ≡ true).
    is_member-append_left id shape.users (shape.groups ++ ns) h in
    let in_groups = λ (id : ℕ) (h : is_member id shape.groups ≡ true).
    is_member-append_right id shape.users (shape.groups ++ ns) (is_member-append_left id shape.groups ns h) in
    let in_keys = λ (t : Tag) (h : has_tag t keys ≡ true).
    is_member-append_right (qualifier t) shape.users (shape.groups ++ ns)
    (is_member-append_right (qualifier t) shape.groups ns (is_member-numbers t keys h)) in (
      free,
      next,
      free,
      record {
        free_id = omega (arith, f);
        next_id = omega (arith, n);
        own_id = omega (arith, f);
        free_user = (or_parts (is_member free shape.users) (is_member free (shape.groups ++ ns))
            (sym (list_any-append (λ (x : ℕ). x == free) shape.users (shape.groups ++ ns)) ∙ no_free)).0;
        free_key = λ id h. eqb-not_member free id all no_free (in_keys (user id) h);
        differ = two.0;
        next_user = λ id h. eqb_comm id next ∙ eqb-not_member next id all two.1 (in_users id h);
        next_key = λ id h. eqb_comm id next ∙ eqb-not_member next id all two.1 (in_keys (user id) h);
        own_group = λ id h. eqb-not_member free id all no_free (in_groups id h);
        own_key = λ id h. eqb-not_member free id all no_free (in_keys (group id) h);
      },
    )
