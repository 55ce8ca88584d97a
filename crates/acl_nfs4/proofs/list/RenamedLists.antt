-- Lists whose names are exchanged by a table.
use Rattle.acl_nfs4.proofs.Common.{[], Ace, AllByRecursion, and_true, ap, append_assoc, arith, Bool, cond, count_ones, false, full, IsAccepted, IsAce, IsWho, length, length-map, List, map, None, Option, refl, same_Some, Some, subst, sym, true, weight, who_fault, ℕ, ◌++◌, ◌+◌, ◌∙◌, ◌∷◌, ◌≡◌}
use Rattle.std.specs.Option.{is_none, unwrap_or}
use Rattle.acl_nfs4.specs.Renamed.{ace_by, bad_row, bad_row_after, is_account, is_of_group, is_good_row, is_row_of, new_name, renamed, NameRow, who_by}
use Rattle.acl_nfs4.proofs.xdr.Lists.{front_accepted, weight-cons}
use Rattle.acl_nfs4.proofs.list.RenamingTable.{Names}

-- in a table that is good, each new name is that of a user or of a group
accounts_after : (before rest : List NameRow) → bad_row_after before rest ≡ None
    → AllByRecursion (λ r. is_account r.to ≡ true) rest
accounts_after before [] e = tt
accounts_after before (r ∷ rest) e =
    by (is_good_row (new_name before) r) refl (accounts_after (before ++ r ∷ []) rest)
  where
    by : (t : Bool) → is_good_row (new_name before) r ≡ t
        → (bad_row_after (before ++ r ∷ []) rest ≡ None → AllByRecursion (λ r. is_account r.to ≡ true) rest)
        → AllByRecursion (λ r. is_account r.to ≡ true) (r ∷ rest)
    by true is others = (
      (and_true (is_account r.to) _ (and_true (is_account r.from) _ is).1).0,
      others (sym (ap (λ (t : Bool). cond t (bad_row_after (before ++ r ∷ []) rest) (Some (length before))) is) ∙ e),
    )
    by false is others =
        let some : Some (length before) ≡ None =
        sym (ap (λ (t : Bool). cond t (bad_row_after (before ++ r ∷ []) rest) (Some (length before))) is) ∙ e in
        absurd cc

-- a name that a table has is that of a user or of a group
new_is_account : (table : List NameRow) (g : Bool) (q w : List ℕ) → AllByRecursion (λ r. is_account r.to ≡ true) table
    → new_name table g q ≡ Some w → is_account w ≡ true
new_is_account [] g q w each e = absurd cc
new_is_account (r ∷ table) g q w each e = by (is_row_of g q r) refl (new_is_account table g q w each.1)
  where
    by : (t : Bool) → is_row_of g q r ≡ t → (new_name table g q ≡ Some w → is_account w ≡ true) → is_account w ≡ true
    by true is others = ap is_account (sym (same_Some _ _
        (sym (ap (λ (t : Bool). cond t (Some r.to) (new_name table g q)) is) ∙ e))) ∙ each.0
    by false is others = others (sym (ap (λ (t : Bool). cond t (Some r.to) (new_name table g q)) is) ∙ e)

-- the name of a user or of a group is valid as a who
pub account_is_who : (w : List ℕ) → is_account w ≡ true → IsWho w
account_is_who w e = by (who_fault w) refl (and_true (is_none (who_fault w)) _ e).0
  where
    by : {F : Type 0} (o : Option F) → o ≡ o → is_none o ≡ true → o ≡ None
    by None r e = refl
    by (Some f) r e = absurd cc

-- the new who of an ACE is valid
who_stays : (table : List NameRow) (a : Ace) → bad_row table ≡ None → IsWho a.who → IsWho (who_by (new_name table) a)
who_stays table a good is = by (new_name table (is_of_group a) a.who) refl
  where
    by : (o : Option (List ℕ)) → new_name table (is_of_group a) a.who ≡ o → IsWho (unwrap_or o a.who)
    by None e = is
    by (Some w) e = account_is_who w (new_is_account table (is_of_group a) a.who w (accounts_after [] table good) e)

-- ACEs with new names are ACEs
each_stays : (table : List NameRow) (list : List Ace) → bad_row table ≡ None → AllByRecursion (IsAce full) list
    → AllByRecursion (IsAce full) (map (ace_by (new_name table)) list)
each_stays table [] good each = tt
each_stays table (a ∷ list) good each = (
  record { flags = each.0.flags; mask = each.0.mask; who = who_stays table a good each.0.who },
  each_stays table list good each.1,
)

-- a list with new names has the weight of the list
weight_stays : (names : Names) (list : List Ace) → weight (map (ace_by names) list) ≡ weight list
weight_stays names [] = refl
weight_stays names (a ∷ list) = weight-cons (ace_by names a) (map (ace_by names) list)
    ∙ ap (λ (n : ℕ). count_ones a.mask + n) (weight_stays names list) ∙ sym (weight-cons a list)

-- the list with its names exchanged by a good table is accepted
renamed_accepted : (table : List NameRow) (list : List Ace) → bad_row table ≡ None → IsAccepted full list
    → IsAccepted full (map (ace_by (new_name table)) list)
renamed_accepted table list good ok = record {
  count = omega (arith, ok.count, length-map list (ace_by (new_name table)));
  weight = omega (arith, ok.weight, weight_stays (new_name table) list);
  each = each_stays table list good ok.each;
}

-- the list so far and the new names of the rest are the whole list with new names
pub exchange_more : (names : Names) (list rest others whole : List Ace) (a : Ace) → rest ≡ a ∷ others
    → list ++ map (ace_by names) rest ≡ map (ace_by names) whole
    → (list ++ ace_by names a ∷ []) ++ map (ace_by names) others ≡ map (ace_by names) whole
exchange_more names list rest others whole a e so = append_assoc list (ace_by names a ∷ []) (map (ace_by names) others)
    ∙ ap (λ (l : List Ace). list ++ map (ace_by names) l) (sym e) ∙ so

-- a list that goes on is accepted so far
pub exchange_fits : (list others whole : List Ace) → list ++ others ≡ whole → IsAccepted full whole
    → IsAccepted full list
exchange_fits list others whole e ok = front_accepted full list others (subst (IsAccepted full) (sym e) ok)

-- the list with the names of the map is accepted
pub exchange_accepted : (table : List NameRow) (list aces : List Ace) (names : Names) → bad_row table ≡ None
    → names ≡ new_name table → aces ≡ list → IsAccepted full list → IsAccepted full (map (ace_by names) aces)
exchange_accepted table list aces names good same e ok =
    subst (λ (n : Names). IsAccepted full (map (ace_by n) aces)) (sym same)
    (renamed_accepted table aces good (subst (IsAccepted full) (sym e) ok))

-- the list with the names of the map is that of the table
pub exchange_is : (table : List NameRow) (list aces made : List Ace) (names : Names) → names ≡ new_name table
    → aces ≡ list
    → made ≡ map (ace_by names) aces → made ≡ renamed table list
exchange_is table list aces made names same e is =
    is ∙ ap (λ (n : Names). map (ace_by n) aces) same ∙ ap (map (ace_by (new_name table))) e
