-- Names that become one when they are exchanged.
use Rattle.acl_nfs4.proofs.Common.{[], Ace, AllByRecursion, and_true, ap, append_assoc, arith, Bool, bytes_eq, bytes_eq_same, cond, false, length, length-append, List, None, not, Option, option_map_or, refl, same_Some, Some, sym, true, ℕ, ◌&&◌, ◌++◌, ◌+◌, ◌∙◌, ◌∷◌, ◌≡◌, name_self}
use Rattle.std.specs.List.{list_any}
use Rattle.std.specs.Prelude.{◌||◌}
use Rattle.std.proofs.lemmas.Bool.{or_right}
use Rattle.acl_nfs4.specs.Renamed.{bad_row, become_one, first_merge, is_of_group, IsRenameFault, merge_after, new_name, refused_merge, NameRow, same_sort, who_by}
use Rattle.acl_nfs4.specs.declared.list.renaming.RenameFault.{RenameFault}
use Rattle.acl_nfs4.specs.declared.list.renaming.RenameFault.TheVariants as fault
use Rattle.acl_nfs4.specs.internal.NameMap.{has_other, IsMergeFault, with_new_name}
use Rattle.acl_nfs4.proofs.list.RenamingTable.{Names, same_is, same_self}

-- an earlier ACE has this sort, this new name and this old name
abbrev is_noted : Names → Bool → List ℕ → List ℕ → Ace → Bool
is_noted names g q w b = same_sort (is_of_group b) g && (bytes_eq (who_by names b) q && bytes_eq b.who w)

-- the new names of these ACEs are noted with their old names, and no others
pub record HasNoted (names olds : Names) (before : List Ace) : Type 0 where
  pub each : AllByRecursion (λ b. olds (is_of_group b) (who_by names b) ≡ Some b.who) before
  pub known : (g : Bool) (q w : List ℕ) → olds g q ≡ Some w → list_any (is_noted names g q w) before ≡ true

-- a test that passes where another does passes for an element
any_weaker : (p q : Ace → Bool) → ((b : Ace) → p b ≡ true → q b ≡ true) → (list : List Ace) → list_any p list ≡ true
    → list_any q list ≡ true
any_weaker p q f [] h = h
any_weaker p q f (b ∷ list) h = by (p b) refl (any_weaker p q f list)
  where
    by : (t : Bool) → p b ≡ t → (list_any p list ≡ true → list_any q list ≡ true) → list_any q (b ∷ list) ≡ true
    by true is others = ap (λ (t : Bool). t || list_any q list) (f b is)
    by false is others = or_right (q b) (list_any q list)
        (others (sym (ap (λ (t : Bool). t || list_any p list) is) ∙ h))

-- an element that passes is at the end
any_last : (p : Ace → Bool) (list : List Ace) (a : Ace) → p a ≡ true → list_any p (list ++ a ∷ []) ≡ true
any_last p [] a e = rw e refl
any_last p (b ∷ list) a e = or_right (p b) (list_any p (list ++ a ∷ [])) (any_last p list a e)

-- an element that passes is before the end
any_front : (p : Ace → Bool) (list : List Ace) (a : Ace) → list_any p list ≡ true → list_any p (list ++ a ∷ []) ≡ true
any_front p [] a h = absurd cc
any_front p (b ∷ list) a h = by (p b) h (any_front p list a)
  where
    by : (t : Bool) → (t || list_any p list) ≡ true → (list_any p list ≡ true → list_any p (list ++ a ∷ []) ≡ true)
        → (t || list_any p (list ++ a ∷ [])) ≡ true
    by true h others = refl
    by false h others = others h

-- if another name is noted, an earlier name becomes one with that of the ACE
found_merge : (names olds : Names) (before : List Ace) (a : Ace) → HasNoted names olds before
    → has_other olds (is_of_group a) (who_by names a) a.who ≡ true
    → list_any (λ b. become_one names b a) before ≡ true
found_merge names olds before a s h = by (olds (is_of_group a) (who_by names a)) refl h
  where
    by : (o : Option (List ℕ)) → olds (is_of_group a) (who_by names a) ≡ o
        → option_map_or (λ w. not (bytes_eq w a.who)) o false ≡ true
        → list_any (λ b. become_one names b a) before ≡ true
    by None e h = absurd cc
    by (Some w) e h = any_weaker (is_noted names (is_of_group a) (who_by names a) w) (λ b. become_one names b a)
        (λ b is.
        let one = and_true (same_sort (is_of_group b) (is_of_group a)) _ is in
        let two = and_true (bytes_eq (who_by names b) (who_by names a)) (bytes_eq b.who w) one.1 in
        let apart : not (bytes_eq b.who a.who) ≡ true =
        ap (λ (x : List ℕ). not (bytes_eq x a.who)) (bytes_eq_same b.who w two.1) ∙ h in
        rw (one.0, two.0, apart) refl) before (s.known (is_of_group a) (who_by names a) w e)

-- if an earlier ACE has the sort and the new name of the ACE, it has its old name too
same_old : (names olds : Names) (a b : Ace) → has_other olds (is_of_group a) (who_by names a) a.who ≡ false
    → olds (is_of_group b) (who_by names b) ≡ Some b.who → same_sort (is_of_group b) (is_of_group a) ≡ true
    → bytes_eq (who_by names b) (who_by names a) ≡ true → bytes_eq b.who a.who ≡ true
same_old names olds a b h e s t =
    let there : olds (is_of_group a) (who_by names a) ≡ Some b.who =
    ap (λ (k : Bool). olds k (who_by names a)) (sym (same_is (is_of_group b) (is_of_group a) s))
    ∙ ap (olds (is_of_group b)) (sym (bytes_eq_same (who_by names b) (who_by names a) t)) ∙ e in
    let none : not (bytes_eq b.who a.who) ≡ false =
    sym (ap (λ (o : Option (List ℕ)). option_map_or (λ w. not (bytes_eq w a.who)) o false) there) ∙ h in
    by (bytes_eq b.who a.who) none
  where
    by : (t : Bool) → not t ≡ false → t ≡ true
    by true e = refl
    by false e = absurd cc

-- if no other name is noted, no earlier name becomes one with that of the ACE
no_merge : (names olds : Names) (before : List Ace) (a : Ace)
    → AllByRecursion (λ b. olds (is_of_group b) (who_by names b) ≡ Some b.who) before
    → has_other olds (is_of_group a) (who_by names a) a.who ≡ false
    → list_any (λ b. become_one names b a) before ≡ false
no_merge names olds [] a each h = refl
no_merge names olds (b ∷ before) a each h =
    rw (
      one (same_sort (is_of_group b) (is_of_group a)) (bytes_eq (who_by names b) (who_by names a)) refl refl,
      no_merge names olds before a each.1 h,
    ) refl
  where
    one : (s t : Bool) → same_sort (is_of_group b) (is_of_group a) ≡ s
        → bytes_eq (who_by names b) (who_by names a) ≡ t → become_one names b a ≡ false
    one true true se te = rw (se, te, same_old names olds a b h each.0 se te) refl
    one true false se te = rw (se, te) refl
    one false t se te = rw se refl

-- the name of one more ACE is noted
noted_more : (names olds after : Names) (before : List Ace) (a : Ace) → HasNoted names olds before
    → has_other olds (is_of_group a) (who_by names a) a.who ≡ false
    → ((g : Bool) (q : List ℕ) → after g q ≡ with_new_name olds (is_of_group a) (who_by names a) a.who g q)
    → HasNoted names after (before ++ a ∷ [])
noted_more names olds after before a s h put = record {
  each = push before (kept before s.each);
  known = λ g q w e. by g q w (same_sort (is_of_group a) g && bytes_eq (who_by names a) q) refl (sym (put g q) ∙ e);
} where
  here : after (is_of_group a) (who_by names a) ≡ Some a.who
  here = put (is_of_group a) (who_by names a)
      ∙ ap (λ (t : Bool). cond (t && bytes_eq (who_by names a) (who_by names a)) (Some a.who)
      (olds (is_of_group a) (who_by names a))) (same_self (is_of_group a))
      ∙ ap (λ (t : Bool). cond t (Some a.who) (olds (is_of_group a) (who_by names a))) (name_self (who_by names a))

  keeps : (b : Ace) → olds (is_of_group b) (who_by names b) ≡ Some b.who
      → (t : Bool) → (same_sort (is_of_group a) (is_of_group b) && bytes_eq (who_by names a) (who_by names b)) ≡ t
      → after (is_of_group b) (who_by names b) ≡ Some b.who
  keeps b e true is =
      let both = and_true (same_sort (is_of_group a) (is_of_group b))
      (bytes_eq (who_by names a) (who_by names b)) is in
      let sort : is_of_group a ≡ is_of_group b = same_is _ _ both.0 in
      let name : who_by names a ≡ who_by names b = bytes_eq_same _ _ both.1 in
      let same : bytes_eq b.who a.who ≡ true = same_old names olds a b h e
      (ap (λ (k : Bool). same_sort k (is_of_group a)) (sym sort) ∙ same_self (is_of_group a))
      (ap (λ (n : List ℕ). bytes_eq n (who_by names a)) (sym name) ∙ name_self (who_by names a)) in
      put (is_of_group b) (who_by names b)
      ∙ ap (λ (t : Bool). cond t (Some a.who) (olds (is_of_group b) (who_by names b))) is
      ∙ ap (λ (x : List ℕ). Some x) (sym (bytes_eq_same b.who a.who same))
  keeps b e false is = put (is_of_group b) (who_by names b)
      ∙ ap (λ (t : Bool). cond t (Some a.who) (olds (is_of_group b) (who_by names b))) is ∙ e

  kept : (list : List Ace) → AllByRecursion (λ b. olds (is_of_group b) (who_by names b) ≡ Some b.who) list
      → AllByRecursion (λ b. after (is_of_group b) (who_by names b) ≡ Some b.who) list
  kept [] each = tt
  kept (b ∷ list) each = (keeps b each.0 _ refl, kept list each.1)

  push : (list : List Ace) → AllByRecursion (λ b. after (is_of_group b) (who_by names b) ≡ Some b.who) list
      → AllByRecursion (λ b. after (is_of_group b) (who_by names b) ≡ Some b.who) (list ++ a ∷ [])
  push [] each = (here, tt)
  push (b ∷ list) each = (each.0, push list each.1)

  by : (g : Bool) (q w : List ℕ) (t : Bool) → (same_sort (is_of_group a) g && bytes_eq (who_by names a) q) ≡ t
      → with_new_name olds (is_of_group a) (who_by names a) a.who g q ≡ Some w
      → list_any (is_noted names g q w) (before ++ a ∷ []) ≡ true
  by g q w true is e =
      let both = and_true (same_sort (is_of_group a) g) (bytes_eq (who_by names a) q) is in
      let old : a.who ≡ w = same_Some _ _
      (sym (ap (λ (t : Bool). cond t (Some a.who) (olds g q)) is) ∙ e) in
      any_last (is_noted names g q w) before a
      (rw (both.0, both.1) (ap (bytes_eq a.who) (sym old) ∙ name_self a.who))
  by g q w false is e = any_front (is_noted names g q w) before a
      (s.known g q w (sym (ap (λ (t : Bool). cond t (Some a.who) (olds g q)) is) ∙ e))

-- how far the names of a list are judged
pub record IsJudging (names olds : Names) (place : ℕ) (rest whole : List Ace) : Type 0 where
  pub before : List Ace
  pub noted : HasNoted names olds before
  pub parts : before ++ rest ≡ whole
  pub judged : merge_after names before rest ≡ first_merge names whole
  pub counted : place ≡ length before

-- one more name was judged
pub judging_more : (names olds after : Names) (place : ℕ) (rest whole others : List Ace) (a : Ace)
    → IsJudging names olds place rest whole → rest ≡ a ∷ others
    → has_other olds (is_of_group a) (who_by names a) a.who ≡ false
    → ((g : Bool) (q : List ℕ) → after g q ≡ with_new_name olds (is_of_group a) (who_by names a) a.who g q)
    → IsJudging names after (place + 1) others whole
judging_more names olds after place rest whole others a s e h put = record {
  before = s.before ++ a ∷ [];
  noted = noted_more names olds after s.before a s.noted h put;
  parts = append_assoc s.before (a ∷ []) others ∙ ap (λ (l : List Ace). s.before ++ l) (sym e) ∙ s.parts;
  judged = sym (ap (λ (t : Bool). cond t (Some (length s.before)) (merge_after names (s.before ++ a ∷ []) others))
      (no_merge names olds s.before a s.noted.each h)) ∙ ap (merge_after names s.before) (sym e) ∙ s.judged;
  counted = omega (arith, s.counted, length-append s.before (a ∷ []));
}

-- the next name becomes one with an earlier one
pub judging_stops : (names olds : Names) (place : ℕ) (rest whole others : List Ace) (a : Ace)
    → IsJudging names olds place rest whole → rest ≡ a ∷ others
    → has_other olds (is_of_group a) (who_by names a) a.who ≡ true → first_merge names whole ≡ Some place
judging_stops names olds place rest whole others a s e h = sym s.judged ∙ ap (merge_after names s.before) e
    ∙ ap (λ (t : Bool). cond t (Some (length s.before)) (merge_after names (s.before ++ a ∷ []) others))
    (found_merge names olds s.before a s.noted h) ∙ ap (λ (k : ℕ). Some k) (sym s.counted)

-- a merge that the code finds is one of the table
pub merge_fault : (table : List NameRow) (may_merge : Bool) (list aces : List Ace) (names : Names) (f : RenameFault)
    → bad_row table ≡ None → names ≡ new_name table → may_merge ≡ false → aces ≡ list → IsMergeFault names aces f
    → IsRenameFault table may_merge list f
merge_fault table may_merge list aces names (fault.Row place) good same never e h = absurd h
merge_fault table may_merge list aces names (fault.Merged place) good same never e h = (
  good,
  ap (λ (t : Bool). cond t None (first_merge (new_name table) list)) never
      ∙ ap (λ (n : Names). first_merge n list) (sym same) ∙ ap (first_merge names) (sym e) ∙ h,
)
merge_fault table may_merge list aces names fault.Memory good same never e h = tt

-- no merge that the code finds is none of the table
pub no_refused_merge : (table : List NameRow) (may_merge : Bool) (list aces : List Ace) (names : Names)
    → names ≡ new_name table → may_merge ≡ false → aces ≡ list → first_merge names aces ≡ None
    → refused_merge table may_merge list ≡ None
no_refused_merge table may_merge list aces names same never e h =
    ap (λ (t : Bool). cond t None (first_merge (new_name table) list)) never
    ∙ ap (λ (n : Names). first_merge n list) (sym same) ∙ ap (first_merge names) (sym e) ∙ h

-- merges that are allowed are not refused
pub may_all : (table : List NameRow) (may_merge : Bool) (list : List Ace) → may_merge ≡ true
    → refused_merge table may_merge list ≡ None
may_all table may_merge list allowed = ap (λ (t : Bool). cond t None (first_merge (new_name table) list)) allowed
