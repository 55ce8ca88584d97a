-- Whom the ACEs of two lists name, by the numbers of the principals.
use Rattle.acl_normal.proofs.Common.{[], Ace, ace, AceRef, aces_in, all_mentioned, ap, AreRowNumbers, AreWhoms, arith, drop, everyone, get_or_default, is_among, is_mentioning, IsRisingSet, IsWhom, length, length-append, length-map, List, map-append, mentioned_in, no_ace, Option, or_left, or_right, Principal, principal, principal_eq, principal_of, row_of, slice_index_or, Some, subst, suc, sym, take, take_more, true, Whom, zero, ℕ, ◌++◌, ◌+◌, ◌<◌, ◌∙◌, ◌∷◌, ◌≡◌, ◌≤◌, same_answers}
use Rattle.std.proofs.Math.Seq.{take-length}
use Rattle.acl_normal.proofs.Each.{all_from, zip_length, zip_push}
use Rattle.acl_normal.proofs.comparison.MentionedPrincipals.{all_in, rising_in}
use Rattle.acl_normal.proofs.comparison.Numbers.{whom_is}
use Rattle.acl_normal.proofs.comparison.Ordered.{rising_same, below_one}
use Rattle.acl_normal.proofs.unique.Names.{principal_eq_itself}
use Rattle.acl_normal.specs.internal.comparison.MentionedRows.{AreByRow, AreMentionedRows, AreMentionedNumbers, HasNumber, at_row, held, whom_of}
use Rattle.acl_normal.specs.internal.comparison.ListPair.{IsListPair, lists_in}
use Rattle.acl_normal.specs.declared.comparison.list_pair.ListPair.TheInside.{Inside}
use Rattle.acl_perm.specs.declared.principal.Principal.{Principal as PrincipalRef}
use Rattle.acl_normal.proofs.comparison.MentionedRows.{ace_at, ace_here, row_fits, row_there}
use Rattle.acl_normal.proofs.comparison.MentionedNumbers.{all_held, held_at, rising_held}

-- the principal at a place of a list is among its principals
pub among_at : (ps : List Principal) (k : ℕ) → k < length ps → is_among (slice_index_or ps k everyone) ps ≡ true
among_at [] k l = absurd (omega (arith, l))
among_at (p ∷ ps) zero l = or_left _ _ (principal_eq_itself p)
among_at (p ∷ ps) (suc k) l =
    or_right (principal_eq (slice_index_or ps k everyone) p) _ (among_at ps k (omega (arith, l)))

-- for a table that has the principal of each row of a list
module _ (xs : List Ace) (table : List (Option PrincipalRef)) (t : AreByRow xs (length xs) table) where
  -- the principals of the table rise
  table_rises : IsRisingSet (held table)
  table_rises =
      rising_held xs table 0 (λ row p e. let o = t.only row p e in (omega (arith, o.row_is), o.named))

  -- the principals of the table are those that the list mentions
  table_mentions : held table ≡ mentioned_in xs
  table_mentions =
      rising_same (held table) (mentioned_in xs) table_rises (rising_in xs)
      (λ s. same_answers (is_among s (held table)) (is_among s (mentioned_in xs))
      (λ h. below_one (λ p. is_among p (mentioned_in xs) ≡ true) (held table) s
      (all_held (λ p. is_among p (mentioned_in xs) ≡ true) table (λ row p e. (t.only row p e).mentioned)) h)
      (λ h. below_one (λ p. is_among p (held table) ≡ true) (mentioned_in xs) s
      (all_in (λ p. is_among p (held table) ≡ true) xs (all_from _ xs no_ace there)) h))
    where
      there : (i : ℕ) → i < length xs → is_mentioning (ace_at xs i) ≡ true
          → is_among (principal_of (ace_at xs i)) (held table) ≡ true
      there i l m =
          let at = held_at table (row_of (principal_of (ace_at xs i)) xs) (principal_of (ace_at xs i)) (t.each i l m) in
          subst (λ p. is_among p (held table) ≡ true) (sym at.is) (among_at (held table) _ at.within)

-- the numbers of a table give each ACE the number of the principal that it mentions
rows_mentioned : (xs : List Ace) (rows : List ℕ) (table : List (Option PrincipalRef)) (whole : List Principal)
    (numbers : List ℕ) → AreRowNumbers xs rows → AreByRow xs (length xs) table
    → AreMentionedNumbers table (length table) whole numbers → AreMentionedRows xs rows whole numbers
rows_mentioned xs rows table whole numbers r t n = record {
  rising = subst IsRisingSet (sym all) (table_rises xs table t);
  count = r.count;
  within = λ i l. omega (arith, row_there xs rows i r l, row_fits xs i l, t.count, n.count);
  number = λ i l m. at i l (t.each i l m);
}
  where
    all : whole ≡ held table
    all = n.whole_is ∙ ap held (take-length table)

    at : (i : ℕ) → i < length xs
        → at_row table (row_of (principal_of (ace_at xs i)) xs) ≡ Some (principal_of (ace_at xs i))
        → HasNumber whole (principal_of (ace_at xs i)) (slice_index_or numbers (slice_index_or rows i 0) 0)
    at i l e =
        let row = row_of (principal_of (ace_at xs i)) xs in
        let here : slice_index_or numbers (slice_index_or rows i 0) 0 ≡ length (held (take row table)) =
        ap (λ v. slice_index_or numbers v 0) (row_there xs rows i r l)
        ∙ n.at row (omega (arith, row_fits xs i l, t.count)) in
        subst (λ v. HasNumber v (principal_of (ace_at xs i)) (slice_index_or numbers (slice_index_or rows i 0) 0))
        (sym all)
        (subst (HasNumber (held table) (principal_of (ace_at xs i))) (sym here)
        (held_at table row (principal_of (ace_at xs i)) e))

-- the value of the next ACE, after those before it, says whom the ACEs up to it name
pub whoms_more : (ps : List Principal) (refs : List AceRef) (a z : AceRef) (rows numbers : List ℕ) (ws new : List Whom)
    (w : Whom) (number row i d e : ℕ) → i < length refs → a ≡ slice_index_or refs i z
    → AreMentionedRows (aces_in refs) rows ps numbers → row ≡ slice_index_or rows i d
    → number ≡ slice_index_or numbers row e → w ≡ whom_of (ace a) number → new ≡ ws ++ w ∷ []
    → AreWhoms ps (aces_in (take i refs)) ws → AreWhoms ps (aces_in (take (i + 1) refs)) new
whoms_more ps refs a z rows numbers ws new w number row i d e lt at r ri ni wi is all =
    subst (λ v. AreWhoms ps (aces_in (take (i + 1) refs)) v) (sym is)
    (subst (λ v. AreWhoms ps v (ws ++ w ∷ []))
    (sym (ap aces_in (take_more refs i z lt) ∙ map-append ace (take i refs) (slice_index_or refs i z ∷ [])))
    (zip_push (IsWhom ps) (aces_in (take i refs)) ws (ace (slice_index_or refs i z)) w all
    (subst (λ v. IsWhom ps (ace v) w) at named)))
  where
    inside : i < length (aces_in refs)
    inside = omega (arith, lt, length-map refs ace)

    here : ace a ≡ ace_at (aces_in refs) i
    here = ace_here refs a z i lt at

    row_is : row ≡ slice_index_or rows i 0
    row_is = ri ∙ get_or_default rows i d 0 (omega (arith, inside, r.count))

    number_is : number ≡ slice_index_or numbers (slice_index_or rows i 0) 0
    number_is = ni ∙ get_or_default numbers row e 0 (omega (arith, row_is, r.within i inside))
        ∙ ap (λ v. slice_index_or numbers v 0) row_is

    named : IsWhom ps (ace a) w
    named =
        subst (IsWhom ps (ace a)) (sym wi)
        (whom_is ps (ace a) number r.rising
        (λ m. subst (HasNumber ps (principal_of (ace a))) (sym number_is)
        (subst (λ v. HasNumber ps (principal_of v) (slice_index_or numbers (slice_index_or rows i 0) 0)) (sym here)
        (r.number i inside (subst (λ v. is_mentioning v ≡ true) here m)))))

-- of the values of two lists together, the first ones say whom the ACEs of the first list name
whoms_front : (ps : List Principal) (xs ys : List Ace) (ws : List Whom) → AreWhoms ps (xs ++ ys) ws
    → AreWhoms ps xs (take (length xs) ws)
whoms_front ps [] ys ws h = tt
whoms_front ps (a ∷ xs) ys [] h = absurd h
whoms_front ps (a ∷ xs) ys (w ∷ ws) h = (h.0, whoms_front ps xs ys ws h.1)

-- of the values of two lists together, the others say whom the ACEs of the second list name
whoms_back : (ps : List Principal) (xs ys : List Ace) (ws : List Whom) → AreWhoms ps (xs ++ ys) ws
    → AreWhoms ps ys (drop (length xs) ws)
whoms_back ps [] ys ws h = h
whoms_back ps (a ∷ xs) ys [] h = absurd h
whoms_back ps (a ∷ xs) ys (w ∷ ws) h = whoms_back ps xs ys ws h.1

-- the rows that the code made and the numbers of its table give each ACE the number of its principal
pub whoms_ready : {aces a b c : List AceRef} {rows r : List ℕ} {table t : List (Option PrincipalRef)}
    {whole : List Principal} {numbers : List ℕ} → a ≡ aces → b ≡ aces → c ≡ aces → r ≡ rows → t ≡ table
    → AreRowNumbers (aces_in a) rows → AreByRow (aces_in b) (length b) table
    → AreMentionedNumbers t (length t) whole numbers → AreMentionedRows (aces_in c) r whole numbers
whoms_ready {aces} {a} {b} {c} {rows} {r} {table} {t} {whole} {numbers} ae be ce re te rn by n =
    subst (λ v. AreMentionedRows (aces_in v) r whole numbers) (sym ce)
    (subst (λ v. AreMentionedRows (aces_in aces) v whole numbers) (sym re)
    (rows_mentioned (aces_in aces) rows table whole numbers (subst (λ v. AreRowNumbers (aces_in v) rows) ae rn)
    (subst (λ v. AreByRow (aces_in aces) v table) (sym (length-map aces ace))
    (subst (λ v. AreByRow (aces_in v) (length v) table) be by))
    (subst (λ v. AreMentionedNumbers v (length v) whole numbers) te n)))

-- the principals that the code gathered are those that the list mentions
pub whole_ready : (aces : List AceRef) {table t : List (Option PrincipalRef)} {whole : List Principal}
    {numbers : List ℕ} → t ≡ table → AreByRow (aces_in aces) (length aces) table
    → AreMentionedNumbers t (length t) whole numbers → whole ≡ mentioned_in (aces_in aces)
whole_ready aces {table} te by n =
    n.whole_is ∙ ap (λ v. held (take (length v) v)) te ∙ ap held (take-length table)
    ∙ table_mentions (aces_in aces) table
    (subst (λ v. AreByRow (aces_in aces) v table) (sym (length-map aces ace)) by)

-- of the code's values, the first ones say whom the ACEs of the first list name
pub whoms_first : (ps : List Principal) (list other : List AceRef) (ws : List Whom) {part : List Whom} {n : ℕ}
    → n ≡ length list
    → part ≡ take n ws → AreWhoms ps (aces_in list ++ aces_in other) ws → AreWhoms ps (aces_in list) part
whoms_first ps list other ws is e h =
    subst (AreWhoms ps (aces_in list)) (sym (e ∙ ap (λ v. take v ws) (is ∙ sym (length-map list ace))))
    (whoms_front ps (aces_in list) (aces_in other) ws h)

-- of the code's values, the others say whom the ACEs of the second list name
pub whoms_second : (ps : List Principal) (list other : List AceRef) (ws : List Whom) {part : List Whom} {n : ℕ}
    → n ≡ length list
    → part ≡ drop n ws → AreWhoms ps (aces_in list ++ aces_in other) ws → AreWhoms ps (aces_in other) part
whoms_second ps list other ws is e h =
    subst (AreWhoms ps (aces_in other)) (sym (e ∙ ap (λ v. drop v ws) (is ∙ sym (length-map list ace))))
    (whoms_back ps (aces_in list) (aces_in other) ws h)

-- the code has at least as many values as the first list has ACEs
pub whoms_cover : (ps : List Principal) (list other : List AceRef) (ws : List Whom)
    → AreWhoms ps (aces_in list ++ aces_in other) ws → length list ≤ length ws
whoms_cover ps list other ws h = omega (
  arith,
  zip_length (IsWhom ps) (aces_in list ++ aces_in other) ws h,
  length-append (aces_in list) (aces_in other),
  length-map list ace,
)

-- the code holds as many principals as the lists mention
pub all_there : (c : Inside) → IsListPair c → length c.mentioned.now ≡ length (all_mentioned (lists_in c))
all_there c h = sym (length-map c.mentioned.now principal) ∙ ap length h.mentioned

-- whom the ACEs of either list name
pub ruleset list_pair_parts = (whoms_first, whoms_second)
