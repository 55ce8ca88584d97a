-- The first pair of principals at which two lists differ on one right.
use Rattle.acl_normal.proofs.Common.{[], ace, aces_in, AgreesAt, all_mentioned, AllByRecursion, ap, ArePlacings, arith, drop, everyone, false, false_from_ne_true, get_or-map, get_or_read, inl, inr, inverts, inverts_any, is_granted_to, IsPlacing, length, length-map, List, may_overlap, no_placing, Placing, Principal, principals, refl, SameAlone, slice_index_or, subst, sym, true, TwoLists, ℕ, ◌+◌, ◌-◌, ◌<◌, ◌∙◌, ◌∷◌, ◌≡◌, ◌≤◌, ◌⊎◌}
use Rattle.std.proofs.lemmas.Bool.{cases_order}
use Rattle.std.proofs.lemmas.List.{get_or-drop, length-drop}
use Rattle.acl_normal.proofs.Each.{all_at, all_from}
use Rattle.acl_normal.proofs.comparison.Assembly.{pair_swapped}
use Rattle.acl_normal.proofs.comparison.UnnamedPrincipals.{granted_kept, unnamed_pair}
use Rattle.acl_normal.proofs.comparison.Directions.{differ_moved}
use Rattle.acl_normal.proofs.comparison.PairGrants.{agrees_from_rows, inverted_differ, not_agrees_from_rows, not_inverted}
use Rattle.acl_normal.proofs.comparison.RowFacts.{not_alone_from_row, row_at, rows_length}
use Rattle.acl_normal.proofs.comparison.PlacesWithin.{rows_within}
use Rattle.acl_normal.specs.internal.comparison.PlaceTables.{IsPlacingWithin}
use Rattle.acl_normal.specs.internal.comparison.Columns.{AreColumnsOf, IsLeftOut, IsNumberOr}
use Rattle.acl_normal.specs.internal.comparison.FirstPlaces.{AlikeAlone, IsFirstBelow, IsLeast, is_unlike}
use Rattle.acl_normal.specs.internal.comparison.FirstPair.{AlikeToLater, IsFoundOn, IsNothing, mentioned_count}
use Rattle.acl_normal.specs.internal.comparison.SetSearch.{AlikeAt}
use Rattle.acl_normal.specs.internal.comparison.TwoLists.{AlikeToOne, AlikeToPairs, principal_at}
use Rattle.acl_normal.specs.declared.comparison.columns.Columns.{Columns}
use Rattle.acl_normal.specs.declared.comparison.direction.Direction.{Direction}
use Rattle.acl_normal.specs.declared.comparison.first_pair.FirstPair.{FirstPair}
use Rattle.acl_normal.proofs.comparison.LeastNumber.{least_number}

-- for the columns of two lists on one right, with the places of their principals
module _ (both : TwoLists) (bit : ℕ) (c : Columns) (rows : List Placing) (columns : AreColumnsOf both bit c)
    (placed : ArePlacings (principals c.principals.items) (aces_in c.first.aces.items) (aces_in c.second.aces.items) bit
    rows) where
  -- the principals of the columns, and the number of one among all
  abbrev pub ps : List Principal
  ps = principals c.principals.items

  abbrev pub number_at : ℕ → ℕ
  number_at j = slice_index_or c.numbers.items j 0

  -- there are as many principals, numbers and placings
  pub counts : (length ps ≡ length c.numbers.items) × (length rows ≡ length c.numbers.items)
  counts =
      let first : length ps ≡ length c.numbers.items =
      ap length columns.whole ∙ length-map c.numbers.items (principal_at both) in
      (first, rows_length ps placed ∙ first)

  -- the principal at a place of the columns is the mentioned one of its number
  numbered : (j : ℕ) → j < length c.numbers.items → slice_index_or ps j everyone ≡ principal_at both (number_at j)
  numbered j l = ap (λ v. slice_index_or v j everyone) columns.whole
      ∙ get_or-map (principal_at both) c.numbers.items j 0 everyone l

  -- the columns grant what the lists grant
  here_granted : (set : List Principal)
      → is_granted_to (aces_in c.first.aces.items) set bit ≡ is_granted_to both.first set bit
  here_granted set = ap (λ v. is_granted_to v set bit) columns.first ∙ granted_kept bit both.first set

  there_granted : (set : List Principal)
      → is_granted_to (aces_in c.second.aces.items) set bit ≡ is_granted_to both.second set bit
  there_granted set = ap (λ v. is_granted_to v set bit) columns.second ∙ granted_kept bit both.second set

  -- the lists do not differ where the columns do not, and the other way round
  to_lists : (set : List Principal)
      → AlikeAt both.direction (aces_in c.first.aces.items) (aces_in c.second.aces.items) set bit
      → AlikeAt both.direction both.first both.second set bit
  to_lists set = differ_moved both.direction (sym (here_granted set)) (sym (there_granted set))

  to_columns : (set : List Principal) → AlikeAt both.direction both.first both.second set bit
      → AlikeAt both.direction (aces_in c.first.aces.items) (aces_in c.second.aces.items) set bit
  to_columns set = differ_moved both.direction (here_granted set) (there_granted set)

  -- the lists do not differ for one that is left out and another one, if they do not differ for that one alone
  out_second : (k m : ℕ) → AlikeToOne both bit k → IsLeftOut both bit m
      → AlikeAt both.direction both.first both.second (principal_at both k ∷ principal_at both m ∷ []) bit
  out_second k m alone out =
      differ_moved both.direction
      (unnamed_pair both.first bit (principal_at both k) (principal_at both m) out.first)
      (unnamed_pair both.second bit (principal_at both k) (principal_at both m) out.second) alone

  out_first : (k m : ℕ) → AlikeToOne both bit m → IsLeftOut both bit k
      → AlikeAt both.direction both.first both.second (principal_at both k ∷ principal_at both m ∷ []) bit
  out_first k m alone out =
      differ_moved both.direction (pair_swapped both.first (principal_at both k) (principal_at both m) bit)
      (pair_swapped both.second (principal_at both k) (principal_at both m) bit) (out_second m k alone out)

  -- the columns do not differ for the principal of a number alone if the lists do not
  one_to_columns : (j : ℕ) → j < length c.numbers.items → AlikeToOne both bit (number_at j)
      → AlikeAlone both.direction (aces_in c.first.aces.items) (aces_in c.second.aces.items) ps bit j
  one_to_columns j l h =
      subst (λ p. AlikeAt both.direction (aces_in c.first.aces.items) (aces_in c.second.aces.items) (p ∷ []) bit)
      (sym (numbered j l)) (to_columns (principal_at both (number_at j) ∷ []) h)

  -- if two may overlap, the columns do not differ for both together
  abbrev pub ColumnsAlike : Principal → Principal → Type 0
  ColumnsAlike p q = may_overlap p q ≡ true
      → AlikeAt both.direction (aces_in c.first.aces.items) (aces_in c.second.aces.items) (p ∷ q ∷ []) bit

  -- nor do the lists
  abbrev pub ListsAlike : Principal → Principal → Type 0
  ListsAlike p q = may_overlap p q ≡ true → AlikeAt both.direction both.first both.second (p ∷ q ∷ []) bit

  pair_to_lists : (i j : ℕ) → i < length c.numbers.items → j < length c.numbers.items
      → ColumnsAlike (slice_index_or ps i everyone) (slice_index_or ps j everyone)
      → ListsAlike (principal_at both (number_at i)) (principal_at both (number_at j))
  pair_to_lists i j li lj h =
      let moved : ColumnsAlike (principal_at both (number_at i)) (principal_at both (number_at j)) =
      subst (λ p. ColumnsAlike p (principal_at both (number_at j))) (numbered i li)
      (subst (λ q. ColumnsAlike (slice_index_or ps i everyone) q) (numbered j lj) h) in
      λ o. to_lists (principal_at both (number_at i) ∷ principal_at both (number_at j) ∷ []) (moved o)

  pair_to_columns : (i j : ℕ) → i < length c.numbers.items → j < length c.numbers.items
      → ListsAlike (principal_at both (number_at i)) (principal_at both (number_at j))
      → ColumnsAlike (slice_index_or ps i everyone) (slice_index_or ps j everyone)
  pair_to_columns i j li lj h =
      subst (λ p. ColumnsAlike p (slice_index_or ps j everyone)) (sym (numbered i li))
      (subst (λ q. ColumnsAlike (principal_at both (number_at i)) q) (sym (numbered j lj))
      (λ o. to_columns (principal_at both (number_at i) ∷ principal_at both (number_at j) ∷ []) (h o)))

  -- the placing of the principal at a place of the columns
  placing_at : (j : ℕ) → j < length c.numbers.items
      → IsPlacing (aces_in c.first.aces.items) (aces_in c.second.aces.items) bit (slice_index_or ps j everyone)
      (slice_index_or rows j no_placing)
  placing_at j l = row_at ps (aces_in c.first.aces.items) (aces_in c.second.aces.items) bit j rows
      (omega (arith, l, counts.0)) placed.each

  module _ (alone : (k : ℕ) → k < mentioned_count both → AlikeToOne both bit k) where
    -- a principal of the columns that agrees with all of them agrees with all mentioned ones
    agrees_in_lists : (j : ℕ) → j < length c.numbers.items
        → AgreesAt both.direction (aces_in c.first.aces.items) (aces_in c.second.aces.items) ps bit
        (slice_index_or ps j everyone) → AlikeToPairs both bit (number_at j)
    agrees_in_lists j lj h = all_from (ListsAlike (principal_at both (number_at j))) (all_mentioned both) everyone
        (λ m lm. elim (columns.others m lm) [
          | inl (i, li, e) ↦ subst (λ v. ListsAlike (principal_at both (number_at j)) (principal_at both v)) e
              (pair_to_lists j i lj li (all_at (ColumnsAlike (slice_index_or ps j everyone)) ps i everyone
              (omega (arith, li, counts.0)) h))
          | inr out ↦ λ o. out_second (number_at j) m (alone (number_at j) (columns.below j lj)) out
        ])

    agrees_in_columns : (j : ℕ) → j < length c.numbers.items → AlikeToPairs both bit (number_at j)
        → AgreesAt both.direction (aces_in c.first.aces.items) (aces_in c.second.aces.items) ps bit
        (slice_index_or ps j everyone)
    agrees_in_columns j lj h = all_from (ColumnsAlike (slice_index_or ps j everyone)) ps everyone
        (λ i li.
        let inside : i < length c.numbers.items = omega (arith, li, counts.0) in
        pair_to_columns j i lj inside
        (all_at (ListsAlike (principal_at both (number_at j))) (all_mentioned both) (number_at i) everyone
        (columns.below i inside) h))

    -- one that is left out agrees with all
    out_agrees : (k : ℕ) → IsLeftOut both bit k → AlikeToPairs both bit k
    out_agrees k out = all_from (ListsAlike (principal_at both k)) (all_mentioned both) everyone
        (λ m lm o. out_first k m (alone m lm) out)

    -- the number of the first placing that inverts another is that of the first member
    pub member_found : {own : Direction} {place least end : ℕ} {shown : List Placing} → own ≡ both.direction
        → shown ≡ rows → end ≡ length rows → AllByRecursion (SameAlone own) shown
        → IsFirstBelow (λ r. inverts_any own r shown) shown end place
        → IsNumberOr c.numbers.items place (mentioned_count both) least
        → IsLeast (AlikeToPairs both bit) (mentioned_count both) least
    member_found {own} {place} {least} {end} {shown} way is all same found number =
        let alike : AllByRecursion (SameAlone both.direction) rows =
        subst (λ v. AllByRecursion (SameAlone both.direction) v) is
        (subst (λ v. AllByRecursion (SameAlone v) shown) way same) in
        let first : IsFirstBelow (λ r. inverts_any both.direction r rows) rows end place =
        subst (λ v. IsFirstBelow (λ r. inverts_any both.direction r v) v end place) is
        (subst (λ v. IsFirstBelow (λ r. inverts_any v r shown) shown end place) way found) in
        least_number c.numbers.items (mentioned_count both) place least (AlikeToPairs both bit) columns.below
        columns.rising
        (λ k l. elim (columns.others k l) [
          | inl there ↦ inl there
          | inr out ↦ inr (out_agrees k out)
        ])
        (λ j lj inside. agrees_in_lists j inside
        (agrees_from_rows both.direction (aces_in c.first.aces.items) (aces_in c.second.aces.items) bit
        (slice_index_or ps j everyone) (slice_index_or rows j no_placing) ps rows (placing_at j inside)
        (all_at (SameAlone both.direction) rows j no_placing (omega (arith, inside, counts.1)) alike) placed.each
        (first.before j lj)))
        (λ inside agrees. not_agrees_from_rows both.direction (aces_in c.first.aces.items)
        (aces_in c.second.aces.items) bit
        (slice_index_or ps place everyone) (slice_index_or rows place no_placing) ps rows (placing_at place inside)
        placed.each (first.at (omega (arith, inside, all, counts.1))) (agrees_in_columns place inside agrees))
        number

    -- the number of the first later placing that the placing of a member inverts is that of its first partner
    pub partner_found : {own : Direction} {at place least end : ℕ} {row : Placing} {shown others : List Placing}
        → own ≡ both.direction → shown ≡ rows → at < length c.numbers.items → row ≡ slice_index_or rows at no_placing
        → others ≡ drop (at + 1) rows → end ≡ length others → AllByRecursion (SameAlone own) shown
        → IsFirstBelow (inverts own row) others end place
        → IsNumberOr c.numbers.items (at + 1 + place) (mentioned_count both) least
        → IsLeast (AlikeToLater both (number_at at) bit) (mentioned_count both) least
    partner_found {own} {at} {place} {least} {end} {row} {shown} {others} way is lt own_row rest all same found number =
        least_number c.numbers.items (mentioned_count both) (at + 1 + place) least
        (AlikeToLater both (number_at at) bit) columns.below columns.rising
        (λ k l. elim (columns.others k l) [
          | inl there ↦ inl there
          | inr out ↦ inr (λ later o. out_second (number_at at) k (alone (number_at at) (columns.below at lt)) out)
        ])
        (λ j lj inside. earlier j lj inside (cases_order j at))
        (λ inside agrees. differs (at + 1 + place) inside (omega arith)
        (subst (λ v. inverts both.direction row v ≡ true) (other_at place (at + 1 + place) refl)
        (first.at (omega (arith, inside, all, long)))) agrees)
        number
      where
        alike : SameAlone both.direction row
        alike = subst (SameAlone both.direction) (sym own_row)
            (all_at (SameAlone both.direction) rows at no_placing (omega (arith, lt, counts.1))
            (subst (λ v. AllByRecursion (SameAlone both.direction) v) is
            (subst (λ v. AllByRecursion (SameAlone v) shown) way same)))

        first : IsFirstBelow (inverts both.direction row) others end place
        first = subst (λ v. IsFirstBelow (inverts v row) others end place) way found

        long : length others + (at + 1) ≡ length c.numbers.items
        long = omega (arith, ap length rest, length-drop (at + 1) rows, counts.1, lt)

        other_at : (i j : ℕ) → j ≡ at + 1 + i → slice_index_or others i no_placing ≡ slice_index_or rows j no_placing
        other_at i j e = ap (λ v. slice_index_or v i no_placing) rest ∙ get_or-drop (at + 1) rows i no_placing
            ∙ ap (λ v. slice_index_or rows v no_placing) (sym e)

        own_placing : IsPlacing (aces_in c.first.aces.items) (aces_in c.second.aces.items) bit
            (slice_index_or ps at everyone) row
        own_placing = subst (λ v. IsPlacing (aces_in c.first.aces.items) (aces_in c.second.aces.items) bit
            (slice_index_or ps at everyone) v) (sym own_row) (placing_at at lt)

        earlier : (j : ℕ) → j < at + 1 + place → j < length c.numbers.items → (j ≡ at) ⊎ ((j < at) ⊎ (at < j))
            → AlikeToLater both (number_at at) bit (number_at j)
        earlier j lj inside (inl e) later = absurd (omega (arith, later, ap number_at e))
        earlier j lj inside (inr (inl less)) later = absurd (omega (arith, later, columns.rising j at less lt))
        earlier j lj inside (inr (inr more)) later =
            let i : ℕ = j - (at + 1) in
            let there : j ≡ at + 1 + i = omega (arith, more) in
            pair_to_lists at j lt inside
            (not_inverted both.direction (aces_in c.first.aces.items) (aces_in c.second.aces.items) bit
            (slice_index_or ps at everyone) (slice_index_or ps j everyone) row (slice_index_or rows j no_placing)
            own_placing (placing_at j inside) alike
            (subst (λ v. inverts both.direction row v ≡ false) (other_at i j there)
            (first.before i (omega (arith, there, lj)))))

        differs : (j : ℕ) → j < length c.numbers.items → at < j
            → inverts both.direction row (slice_index_or rows j no_placing) ≡ true
            → AlikeToLater both (number_at at) bit (number_at j) → ⊥
        differs j inside more inverted agrees =
            let d = inverted_differ both.direction (aces_in c.first.aces.items) (aces_in c.second.aces.items) bit
            (slice_index_or ps at everyone) (slice_index_or ps j everyone) row (slice_index_or rows j no_placing)
            own_placing (placing_at j inside) inverted in
            d.1 (pair_to_columns at j lt inside (agrees (columns.rising at j more inside)) d.0)

  -- the places of the placings are within the columns
  pub within_columns : {size : ℕ} {shown : List Placing} → shown ≡ rows → length c.first.aces.items ≤ size
      → length c.second.aces.items ≤ size → AllByRecursion (IsPlacingWithin size) shown
  within_columns {size} {shown} is first second = subst (AllByRecursion (IsPlacingWithin size)) (sym is)
      (rows_within ps (aces_in c.first.aces.items) (aces_in c.second.aces.items) bit size rows
      (omega (arith, first, length-map c.first.aces.items ace))
      (omega (arith, second, length-map c.second.aces.items ace)) placed.each)

  -- after the last place there is the number of all principals
  past_end : {place number : ℕ} → length c.numbers.items ≤ place → number ≡ mentioned_count both
      → IsNumberOr c.numbers.items place (mentioned_count both) number
  past_end past is = record { inside = λ l. absurd (omega (arith, l, past)); past = λ _. is }

  module _ (alone : (k : ℕ) → k < mentioned_count both → AlikeToOne both bit k) {own : Direction} {shown : List Placing}
      (way : own ≡ both.direction) (is : shown ≡ rows) where
    -- the lists do not differ for anyone of the columns alone
    pub none_unlike : AllByRecursion (SameAlone own) shown
    none_unlike = subst (λ v. AllByRecursion (SameAlone v) shown) (sym way)
        (subst (AllByRecursion (SameAlone both.direction)) (sym is)
        (all_from (SameAlone both.direction) rows no_placing (λ j lj.
        let inside : j < length c.numbers.items = omega (arith, lj, counts.1) in
        false_from_ne_true (is_unlike both.direction (slice_index_or rows j no_placing)) (λ unlike.
        not_alone_from_row both.direction ps (aces_in c.first.aces.items) (aces_in c.second.aces.items) bit j rows
        (omega (arith, inside, counts.0)) placed unlike
        (one_to_columns j inside (alone (number_at j) (columns.below j inside)))))))

    module _ {end : ℕ} (all : end ≡ length rows) where
      -- if no placing inverts another, nothing is found
      pub found_nothing : {member : ℕ} {f : FirstPair} → end ≤ member
          → IsFirstBelow (λ r. inverts_any own r shown) shown end member → IsNothing both f → IsFoundOn both bit f
      found_nothing {member} {f} after inverting h = record {
        member = member_found alone way is all none_unlike inverting
            (past_end (omega (arith, after, all, counts.1)) h.member);
        partner = λ l. absurd (omega (arith, l, h.member));
      }

      -- else a pair is found
      pub found_pair : {member partner end_of_others m p : ℕ} {row : Placing} {others : List Placing}
          → member < end → IsFirstBelow (λ r. inverts_any own r shown) shown end member
          → row ≡ slice_index_or rows member row → others ≡ drop (member + 1) shown → end_of_others ≡ length others
          → IsFirstBelow (inverts own row) others end_of_others partner
          → IsNumberOr c.numbers.items member (mentioned_count both) m
          → IsNumberOr c.numbers.items (member + 1 + partner) (mentioned_count both) p
          → IsFoundOn both bit (record { member = m; partner = p })
      found_pair {member} {partner} {end_of_others} {m} {p} {row} {others} lt inverting read rest long inverted one two =
          let inside : member < length c.numbers.items = omega (arith, lt, all, counts.1) in
          let own_row : row ≡ slice_index_or rows member no_placing =
          get_or_read rows member row (omega (arith, lt, all)) read no_placing in
          record {
            member = member_found alone way is all none_unlike inverting one;
            partner = λ _. subst (λ v. IsLeast (AlikeToLater both v bit) (mentioned_count both) p)
                (sym (one.inside inside))
                (partner_found alone way is inside own_row (rest ∙ ap (drop (member + 1)) is) long none_unlike inverted
                two);
          }
