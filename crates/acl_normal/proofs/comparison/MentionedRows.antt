-- The principals that a list mentions, by row.
use Rattle.acl_normal.proofs.Common.{Ace, ace, AceRef, aces_in, ap, AreRowNumbers, arith, Bool, cases_eq, cases_lt, false, get_or-map, get_or-set_other, get_or-set_same, get_or_default, inl, inr, is_among, is_mentioning, is_principal_of, key_here, length, length-map, length-set, List, mentioned_in, no_ace, None, Option, option_map, Principal, principal, principal_of, refl, row_of, same_Some, slice_index_or, slice_set, Some, subst, sym, true, ℕ, ◌+◌, ◌<◌, ◌∙◌, ◌≡◌, ◌≤◌, ◌⊎◌, ColumnKey}
use Rattle.acl_normal.proofs.Each.{all_at}
use Rattle.acl_normal.proofs.rows.Rows.{named_here, row_below, row_same}
use Rattle.acl_normal.proofs.comparison.MentionedPrincipals.{among_mentioned}
use Rattle.acl_normal.specs.internal.comparison.MentionedRows.{AreByRow, IsMentionedAt, at_row, mentioned_by, noted}
use Rattle.acl_perm.specs.declared.principal.Principal.{Principal as PrincipalRef}
use Rattle.acl_normal.proofs.rows.ByPlace.{key_at_index}

-- ---- a list's ACEs by place

-- the ACE at a place, and the empty one after the last place
abbrev pub ace_at : List Ace → ℕ → Ace
ace_at xs i = slice_index_or xs i no_ace

-- the code's ACE at a place is the ACE of the list there
pub ace_here : (aces : List AceRef) (a z : AceRef) (i : ℕ) → i < length aces → a ≡ slice_index_or aces i z
    → ace a ≡ ace_at (aces_in aces) i
ace_here aces a z i l e = ap ace e ∙ sym (get_or-map ace aces i z no_ace l)

-- the principal of the key at a place is that of the ACE there
key_is : (xs : List Ace) (i : ℕ) → i < length xs → (key_here xs i).0 ≡ principal_of (ace_at xs i)
key_is xs i l = ap (λ (k : ColumnKey). k.0) (key_at_index xs i no_ace l)

-- a list names the principal of the ACE at a place
named_there : (xs : List Ace) (i : ℕ) → i < length xs → is_principal_of (principal_of (ace_at xs i)) xs ≡ true
named_there xs i l = subst (λ p. is_principal_of p xs ≡ true) (key_is xs i l) (named_here xs i l)

-- the row of a place is that of the principal of the ACE there
pub row_there : (xs : List Ace) (rows : List ℕ) (i : ℕ) → AreRowNumbers xs rows → i < length xs
    → slice_index_or rows i 0 ≡ row_of (principal_of (ace_at xs i)) xs
row_there xs rows i r l = r.at i l ∙ ap (λ p. row_of p xs) (key_is xs i l)

-- the row of an ACE's principal is below the number of ACEs
pub row_fits : (xs : List Ace) (i : ℕ) → i < length xs → row_of (principal_of (ace_at xs i)) xs < length xs
row_fits xs i l = row_below (principal_of (ace_at xs i)) xs (named_there xs i l)

-- a principal that an ACE of the list mentions is mentioned
pub mentioned_there : (xs : List Ace) (i : ℕ) → i < length xs → is_mentioning (ace_at xs i) ≡ true
    → is_among (principal_of (ace_at xs i)) (mentioned_in xs) ≡ true
mentioned_there xs i l m = all_at (λ a. is_mentioning a ≡ true
    → is_among (principal_of a) (mentioned_in xs) ≡ true) xs i no_ace l (among_mentioned xs) m

-- ---- the table by row

-- an ACE that mentions a principal mentions its own
mentioned_is : (a : Ace) (p : Principal) → Some p ≡ mentioned_by a → (is_mentioning a ≡ true) × (p ≡ principal_of a)
mentioned_is a p e = go (is_mentioning a) refl
  where
    go : (b : Bool) → is_mentioning a ≡ b → (is_mentioning a ≡ true) × (p ≡ principal_of a)
    go true m = (m, same_Some p (principal_of a) (rw m at e))
    go false m = absurd (cc (rw m at e))

-- after an ACE that mentions nobody, the table is that of one ACE more
table_skip : (xs : List Ace) (table : List (Option PrincipalRef)) (i : ℕ) → mentioned_by (ace_at xs i) ≡ None
    → AreByRow xs i table → AreByRow xs (i + 1) table
table_skip xs table i none t = record {
  count = t.count;
  only = t.only;
  each = λ j l m. go j m (cases_lt j i) l;
}
  where
    go : (j : ℕ) → is_mentioning (ace_at xs j) ≡ true → (j < i) ⊎ (i ≤ j) → j < i + 1
        → at_row table (row_of (principal_of (ace_at xs j)) xs) ≡ Some (principal_of (ace_at xs j))
    go j m (inl l) u = t.each j l m
    go j m (inr l) u =
        let this : j ≡ i = omega (arith, l, u) in
        let here : mentioned_by (ace_at xs j) ≡ None = subst (λ v. mentioned_by (ace_at xs v) ≡ None) (sym this) none in
        absurd (cc (rw m at here))

-- the ACE at a place mentions the principal, whose row is within the table
record IsMentionedIn (xs : List Ace) (table : List (Option PrincipalRef)) (p : PrincipalRef) (i row : ℕ) : Type 0 where
  within : i < length xs
  mentions : is_mentioning (ace_at xs i) ≡ true
  is : principal p ≡ principal_of (ace_at xs i)
  named : is_principal_of (principal p) xs ≡ true
  row_is : row ≡ row_of (principal p) xs
  fits : row < length table

-- with the principal in its row, the table has it there
row_put : {xs : List Ace} {table : List (Option PrincipalRef)} {p : PrincipalRef} {i row : ℕ}
    → IsMentionedIn xs table p i row → at_row (slice_set table row (Some p)) row ≡ Some (principal p)
row_put {table = table} {p = p} {row = row} h =
    ap (option_map principal) (get_or-set_same table row (Some p) None h.fits)

-- with the principal in its row, the table has only mentioned principals, each in its row
only_put : {xs : List Ace} {table : List (Option PrincipalRef)} {p : PrincipalRef} {i row : ℕ}
    → IsMentionedIn xs table p i row → AreByRow xs i table → (other : ℕ) (q : Principal)
    → (other ≡ row) ⊎ (other ≡ row → ⊥) → at_row (slice_set table row (Some p)) other ≡ Some q
    → IsMentionedAt xs other q
only_put {xs = xs} {table = table} {p = p} {i = i} {row = row} h t other q (inl e) there =
    let same : principal p ≡ q =
    same_Some (principal p) q (sym (row_put h) ∙ ap (at_row (slice_set table row (Some p))) (sym e) ∙ there) in
    subst (IsMentionedAt xs other) same
    (record {
      row_is = e ∙ h.row_is;
      named = h.named;
      mentioned =
          subst (λ v. is_among v (mentioned_in xs) ≡ true) (sym h.is) (mentioned_there xs i h.within h.mentions);
    })
only_put {table = table} {p = p} {row = row} h t other q (inr d) there =
    t.only other q (sym (ap (option_map principal) (get_or-set_other table row other (Some p) None d)) ∙ there)

-- with the principal in its row, the table has the principal of an ACE that it had, and of the ACE at the place
own_put : {xs : List Ace} {table : List (Option PrincipalRef)} {p : PrincipalRef} {i row : ℕ}
    → IsMentionedIn xs table p i row → (j : ℕ) → j < length xs
    → (row_of (principal_of (ace_at xs j)) xs ≡ row) ⊎ (row_of (principal_of (ace_at xs j)) xs ≡ row → ⊥)
    → (at_row table (row_of (principal_of (ace_at xs j)) xs) ≡ Some (principal_of (ace_at xs j))) ⊎ (j ≡ i)
    → at_row (slice_set table row (Some p)) (row_of (principal_of (ace_at xs j)) xs)
    ≡ Some (principal_of (ace_at xs j))
own_put {xs = xs} {table = table} {p = p} {row = row} h j lj (inl e) there =
    ap (at_row (slice_set table row (Some p))) e ∙ row_put h
    ∙ ap Some (row_same (principal p) (principal_of (ace_at xs j)) xs h.named (named_there xs j lj)
    (sym h.row_is ∙ sym e))
own_put {xs = xs} {table = table} {p = p} {row = row} h j lj (inr d) (inl there) =
    ap (option_map principal)
    (get_or-set_other table row (row_of (principal_of (ace_at xs j)) xs) (Some p) None d) ∙ there
own_put {xs = xs} h j lj (inr d) (inr e) =
    absurd (d (ap (λ v. row_of (principal_of (ace_at xs v)) xs) e ∙ ap (λ v. row_of v xs) (sym h.is) ∙ sym h.row_is))

-- after an ACE that mentions a principal, the table with that principal in its row is that of one ACE more
table_more : (xs : List Ace) (rows : List ℕ) (table : List (Option PrincipalRef)) (p : PrincipalRef) (i row : ℕ)
    → AreRowNumbers xs rows → i < length xs → row ≡ slice_index_or rows i 0
    → Some (principal p) ≡ mentioned_by (ace_at xs i) → AreByRow xs i table
    → AreByRow xs (i + 1) (slice_set table row (Some p))
table_more xs rows table p i row r l at mentions t = record {
  count = length-set table row (Some p) ∙ t.count;
  only = λ other q e. only_put here t other q (cases_eq other row) e;
  each = λ j lj m. each j m (cases_lt j i) lj;
}
  where
    is : (is_mentioning (ace_at xs i) ≡ true) × (principal p ≡ principal_of (ace_at xs i))
    is = mentioned_is (ace_at xs i) (principal p) mentions

    place : row ≡ row_of (principal p) xs
    place = at ∙ row_there xs rows i r l ∙ ap (λ v. row_of v xs) (sym is.1)

    named : is_principal_of (principal p) xs ≡ true
    named = subst (λ v. is_principal_of v xs ≡ true) (sym is.1) (named_there xs i l)

    here : IsMentionedIn xs table p i row
    here = record {
      within = l;
      mentions = is.0;
      is = is.1;
      named = named;
      row_is = place;
      fits = omega (arith, place, row_below (principal p) xs named, t.count);
    }

    each : (j : ℕ) → is_mentioning (ace_at xs j) ≡ true → (j < i) ⊎ (i ≤ j) → j < i + 1
        → at_row (slice_set table row (Some p)) (row_of (principal_of (ace_at xs j)) xs)
        ≡ Some (principal_of (ace_at xs j))
    each j m (inl lj) u = own_put here j (omega (arith, l, lj)) (cases_eq _ _) (inl (t.each j lj m))
    each j m (inr lj) u = own_put here j (omega (arith, l, u)) (cases_eq _ _) (inr (omega (arith, lj, u)))

-- after one more ACE, the table that the code makes is that of one ACE more
pub table_noted : (aces : List AceRef) (rows : List ℕ) (old new : List (Option PrincipalRef))
    (found : Option PrincipalRef) (a z : AceRef) (i row d : ℕ) → AreRowNumbers (aces_in aces) rows → i < length aces
    → row ≡ slice_index_or rows i d → a ≡ slice_index_or aces i z → option_map principal found ≡ mentioned_by (ace a)
    → new ≡ noted old row found → AreByRow (aces_in aces) i old → AreByRow (aces_in aces) (i + 1) new
table_noted aces rows old new found a z i row d r l ri at mentions is t =
    subst (AreByRow (aces_in aces) (i + 1)) (sym is) (go found (mentions ∙ ap mentioned_by (ace_here aces a z i l at)))
  where
    inside : i < length (aces_in aces)
    inside = omega (arith, l, length-map aces ace)

    row_is : row ≡ slice_index_or rows i 0
    row_is = ri ∙ get_or_default rows i d 0 (omega (arith, inside, r.count))

    go : (found : Option PrincipalRef) → option_map principal found ≡ mentioned_by (ace_at (aces_in aces) i)
        → AreByRow (aces_in aces) (i + 1) (noted old row found)
    go None m = table_skip (aces_in aces) old i (sym m) t
    go (Some p) m = table_more (aces_in aces) rows old p i row r inside row_is m t

-- the row of the next place is one of the table
pub row_inside : (aces : List AceRef) (rows : List ℕ) (table : List (Option PrincipalRef)) (i row d end : ℕ)
    → AreRowNumbers (aces_in aces) rows → i < length aces → row ≡ slice_index_or rows i d → end ≡ length table
    → AreByRow (aces_in aces) i table → row < end
row_inside aces rows table i row d end r l ri e t =
    omega (
      arith,
      ri,
      get_or_default rows i d 0 (omega (arith, inside, r.count)),
      row_there (aces_in aces) rows i r inside,
      row_fits (aces_in aces) i inside,
      e,
      t.count,
    )
  where
    inside : i < length (aces_in aces)
    inside = omega (arith, l, length-map aces ace)
