-- The table of one bit, row by row.
use Rattle.std.proofs.Common.{◌≡◌, ℕ, ◌+◌, ◌<◌, true, List, [], ◌∷◌, ◌++◌, length, take, drop, refl}
use Rattle.acl_normal.proofs.Common.{Ace, AddsRow, All, ap, AreRows, arith, column, counts, Emitted, emitted_ace, emitted_aces, first_at, first_place_of, has_bit, HasKey, HasFirstPlaces, identifier_group, IsAlike, IsOnce, KeepsFirsts, Kind, map, map-append, None, of_borrowed, Option, plain_key, Principal, principal_of, slice_index_or, Some, AreInRows, subst, sym, take_more, with_bit, ◌∙◌, same_Some}
use Rattle.std.proofs.lemmas.List.Elements.{filter-append}
use Rattle.acl_normal.specs.Tables.{IsRow, TableRow}
use Rattle.acl_normal.specs.declared.right_table.BorrowedRow.{BorrowedRow}
use Rattle.acl_normal.proofs.unique.Columns.{column_has, column-append, no_inherit_only}
use Rattle.acl_normal.proofs.unique.Names.{overlaps_itself}
use Rattle.acl_normal.proofs.unique.SameOrder.{once_has}
use Rattle.acl_normal.proofs.five_forms.Writing.{split_at}
use Rattle.acl_normal.proofs.rows.Rows.{row_below}
use Rattle.acl_normal.proofs.rows.FirstAces.{kind_in, kind_first}

-- the rows of a list and the row of one more ACE are the rows of the list with that ACE
rows_push : (b : ℕ) (xs list : List Ace) (a : Ace) (rows : List TableRow) (r : TableRow) → AreRows b xs list rows
    → IsRow b xs a r → AreRows b xs (list ++ a ∷ []) (rows ++ r ∷ [])
rows_push b xs [] a [] r so is = (is, tt)
rows_push b xs [] a (s ∷ rows) r so is = absurd so
rows_push b xs (c ∷ list) a [] r so is = absurd so
rows_push b xs (c ∷ list) a (s ∷ rows) r so is = (so.0, rows_push b xs list a rows r so.1 is)

-- an ACE with the bit adds its row after the rows before it
pub row_pushed : (b : ℕ) (xs : List Ace) (a : Ace) (old new : List BorrowedRow) (r : BorrowedRow)
    → has_bit a.mask b ≡ true → IsRow b xs a (of_borrowed r) → new ≡ old ++ r ∷ [] → AddsRow b xs a old new
row_pushed b xs a old new r has is more list so =
    rw has (subst (λ v. AreRows b xs (list ++ a ∷ []) v)
    (sym (ap (map of_borrowed) more ∙ map-append of_borrowed old (r ∷ [])))
    (rows_push b xs list a (map of_borrowed old) (of_borrowed r) so is))

-- an ACE of a normal form takes part with each bit of its mask
emitted_counts : (b : ℕ) (e : Emitted) → has_bit e.mask.bits b ≡ true → counts b (emitted_ace e) ≡ true
emitted_counts b e h = rw (h, no_inherit_only (plain_key e.key).0) refl

-- the kind of a principal's key and the place of its first ACE are what the first ACE gives
first_ace_gives : (b : ℕ) (p : Principal) (xs : List Ace) (kind : Kind) (source : ℕ)
    → kind_in (first_at b p xs) ≡ Some kind
    → ((place : ℕ) → first_place_of b p xs ≡ Some place → source ≡ place)
    → first_at b p xs ≡ Some (kind, source)
first_ace_gives b p xs kind source there at = go (first_at b p xs) refl
  where
    go : (o : Option (Kind × ℕ)) → first_at b p xs ≡ o → first_at b p xs ≡ Some (kind, source)
    go None e = cc (rw e at there)
    go (Some (k, i)) e =
        let same : k ≡ kind = same_Some k kind (rw e at there) in
        let is : source ≡ i = at i (rw e refl) in
        e ∙ ap (λ v. Some (v, i)) same ∙ ap (λ v. Some (kind, v)) (sym is)

-- a row that shows an emitted ACE, whose key is in the list, is the row that the ACE adds
pub one_row : (b : ℕ) (xs : List Ace) (e : Emitted) (a : Ace) (old new : List BorrowedRow) (r : BorrowedRow)
    → has_bit e.mask.bits b ≡ true → HasKey b xs (emitted_ace e) → a ≡ emitted_ace e
    → ((place : ℕ) → first_place_of b (principal_of (emitted_ace e)) xs ≡ Some place → r.source ≡ place)
    → r.kind ≡ a.kind → r.who.now ≡ a.who → r.group ≡ has_bit a.flags identifier_group → new ≡ old ++ r ∷ []
    → AddsRow b xs (emitted_ace e) old new
one_row b xs e a old new r has key is at own who group more =
    row_pushed b xs (emitted_ace e) old new r has (record {
      kind = own ∙ ap (λ v. v.kind) is;
      who = who ∙ ap (λ v. v.who) is;
      group = group ∙ ap (λ v. has_bit v.flags identifier_group) is;
      place = first_ace_gives b p xs (emitted_ace e).kind r.source
          (sym (kind_first b p xs) ∙ key (emitted_counts b e has)) at
          ∙ ap (λ k. Some (k, r.source)) (sym (own ∙ ap (λ v. v.kind) is));
    }) more
  where
    p : Principal
    p = principal_of (emitted_ace e)

-- ---- the loop

-- if the next ACE adds its row, the rows are those of the ACEs up to it
pub rows_on : (b : ℕ) (xs : List Ace) (es : List Emitted) (i : ℕ) (d : Emitted) (old new : List BorrowedRow)
    → i < length es
    → AreRows b xs (with_bit b (emitted_aces (take i es))) (map of_borrowed old)
    → AddsRow b xs (emitted_ace (slice_index_or es i d)) old new
    → AreRows b xs (with_bit b (emitted_aces (take (i + 1) es))) (map of_borrowed new)
rows_on b xs es i d old new l so adds =
    let next = emitted_ace (slice_index_or es i d) in
    subst (λ v. AreRows b xs v (map of_borrowed new))
    (sym (filter-append (λ (a : Ace). has_bit a.mask b) (emitted_aces (take i es)) (next ∷ []))
    ∙ ap (with_bit b) (sym (map-append emitted_ace (take i es) (slice_index_or es i d ∷ []))
    ∙ sym (ap emitted_aces (take_more es i d l))))
    (adds (with_bit b (emitted_aces (take i es))) so)

-- ---- the table

-- a list whose columns are alike those of the emitted ACEs has the key of each of these ACEs
pub key_there : (b : ℕ) (xs : List Ace) (es : List Emitted) → IsOnce (column (emitted_aces es) b)
    → IsAlike (column xs b) (column (emitted_aces es) b) → (i : ℕ) (d : Emitted) → i < length es
    → HasKey b xs (emitted_ace (slice_index_or es i d))
key_there b xs es once alike i d l has =
    let a = emitted_ace (slice_index_or es i d) in
    let front = emitted_aces (take i es) in
    let back = emitted_aces (drop (i + 1) es) in
    let whole : column (emitted_aces es) b ≡ column front b ++ (principal_of a, a.kind) ∷ column back b =
    ap (λ v. column v b) (split_at es i d l) ∙ column-append b front (a ∷ back)
    ∙ ap (λ v. column front b ++ v) (column_has b a back has) in
    alike (principal_of a) (principal_of a) (overlaps_itself (principal_of a))
    ∙ once_has (column (emitted_aces es) b) (principal_of a) a.kind once
    (record { before = column front b; after = column back b; is = whole })

-- rows that show first places of a list show first places of its source, if the list keeps them
pub rows_from : (b : ℕ) (xs ys list : List Ace) (rows : List TableRow) → KeepsFirsts xs ys → AreRows b ys list rows
    → AreRows b xs list rows
rows_from b xs ys [] [] keeps so = tt
rows_from b xs ys [] (r ∷ rows) keeps so = absurd so
rows_from b xs ys (a ∷ list) [] keeps so = absurd so
rows_from b xs ys (a ∷ list) (r ∷ rows) keeps so = (
  record {
    kind = so.0.kind;
    who = so.0.who;
    group = so.0.group;
    place = keeps b (principal_of a) r.kind r.source so.0.place;
  },
  rows_from b xs ys list rows keeps so.1,
)

-- the row of each emitted ACE is less than the number of ACEs of the list
pub row_there : (xs : List Ace) (es shown : List Emitted) (n : ℕ) → AreInRows xs es → shown ≡ es → n ≡ length xs
    → All (λ e. e.row < n) shown
row_there xs es shown n stand is count = subst (λ v. All (λ e. e.row < n) v) (sym is) below
  where
    below : (k : ℕ) (d : Emitted) → k < length es → (slice_index_or es k d).row < n
    below k d l = let at = stand k d l in
        omega (arith, count, at.is, row_below (principal_of (emitted_ace (slice_index_or es k d))) xs at.named)

-- what holds of rows made from copies of the first places and of the emitted ACEs holds of these
pub rows_shown : (b : ℕ) (xs : List Ace) (places held : List ℕ) (es shown : List Emitted) (rows : List TableRow)
    → held ≡ places → shown ≡ es
    → ((list : List Ace) → HasFirstPlaces b list held → AreInRows list shown
    → All (λ e. HasKey b list (emitted_ace e)) shown → AreRows b list (with_bit b (emitted_aces shown)) rows)
    → HasFirstPlaces b xs places → AreInRows xs es → All (λ e. HasKey b xs (emitted_ace e)) es
    → AreRows b xs (with_bit b (emitted_aces es)) rows
rows_shown b xs places held es shown rows same is so at stand keys =
    subst (λ v. AreRows b xs (with_bit b (emitted_aces v)) rows) is
    (so xs (subst (λ v. HasFirstPlaces b xs v) (sym same) at) (subst (λ v. AreInRows xs v) (sym is) stand)
    (subst (λ v. All (λ e. HasKey b xs (emitted_ace e)) v) (sym is) keys))
