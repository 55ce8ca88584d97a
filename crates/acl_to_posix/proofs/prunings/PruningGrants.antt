-- Lists that grant the same give one ACL, whatever users and groups they name.
use Rattle.std.proofs.Common.{◌≡◌, ◌≤◌, ◌<◌, ◌-◌, ℕ, Bool, true, false, cond, List, [], ◌∷◌, ◌++◌, Option, None, Some, Equal, refl, sym, ap, subst, ◌∙◌, arith, inl, inr, length}
use Rattle.std.proofs.lemmas.Bool.{cases_Bool, eq-eqb, eqb-true, false≢true, true≢false, or_left}
use Rattle.std.proofs.lemmas.List.{length-append}
use Rattle.std.proofs.lemmas.List.Elements.{recursion_from_All}
use Rattle.std.proofs.lemmas.Nat.{and_comm}
use Rattle.std.proofs.lemmas.Option.{same_Some}
use Rattle.std.specs.Int.Bits.{and_self}
use Rattle.std.specs.Prelude.{◌⊎◌, ◌==◌, ◌&&◌, bit_and, bit_or, filter, is_some}
use Rattle.std.specs.FinMap as fin
use Rattle.std.specs.FinMap.Entries.{find-where_key, is_sorted-where_key, same_entries}
use Rattle.std.specs.List.{AllByRecursion, fold}
use Rattle.std.specs.Ordering.{eq_by_cmp}
use Rattle.acl_perm.specs.Bits.{IsPerm}
use Rattle.acl_posix.specs.Check.{entry_contains, is_contained, is_member}
use Rattle.acl_posix.specs.Entries.{Entries, IsEntry}
use Rattle.acl_posix.specs.Id.{greatest_id}
use Rattle.acl_posix.specs.Mask.{class_union, with_mask}
use Rattle.acl_posix.specs.Tag as tag
use Rattle.acl_posix.specs.Tag.{Tag, is_masked, is_named, tag_cmp}
use Rattle.acl_posix.specs.Texts.{IsAcl}
use Rattle.acl_posix.specs.internal.TagCode.{tags_total}
use Rattle.acl_posix.proofs.Exports.{same_tag}
use Rattle.acl_nfs4.specs.Ace.{Ace}
use Rattle.acl_nfs4.specs.Limits.{most_aces}
use Rattle.acl_to_posix.specs.Pruning.{PrunesTo}
use Rattle.acl_to_posix.specs.PruningLaws.{GrantSamePermissions, HasFewIds, HasNamesOf}
use Rattle.acl_to_posix.specs.ToPosix.{EntryShape, HasShape, IsBest, is_in_shape, size_of}
use Rattle.acl_to_posix.specs.internal.ShapeBody.{tag_meets}
use Rattle.acl_to_posix.proofs.Passes.{eq_by_cmp-refl}
use Rattle.acl_to_posix.proofs.prunings.Losses.{part_has}
use Rattle.acl_to_posix.proofs.Matchings.{IsMatching, Matching}
use Rattle.acl_to_posix.proofs.prunings.PruningExact.{granted_seen, seen, seen_granted}
use Rattle.acl_to_posix.proofs.prunings.PruningKept.{part_keeps}
use Rattle.acl_to_posix.proofs.prunings.PruningLists.{alike_always, alike_back, alike_prunes_to, pruned_of}
use Rattle.acl_to_posix.proofs.prunings.PruningSets.{entry_there}
use Rattle.acl_to_posix.proofs.prunings.PruningSituations.{granted_is, is_granted, is_small, listed, most_listed, small_at_end, steps_of}
use Rattle.acl_to_posix.proofs.prunings.PruningStarts.{AlikeFor, NamesDecide, SameNames, same_turned, two_starts}
use Rattle.acl_to_posix.proofs.RealMatchings.{Agree, agree_back, agree_granted, list_ids, list_ids_few, real}
use Rattle.acl_to_posix.proofs.shapes.ShapeBuilding.{none_named}
use Rattle.acl_to_posix.proofs.columns.TagMatchings.{granted_to, one_group_denies}
use Rattle.acl_to_posix.proofs.no_greatest.FreeIds.{is_member-append_left, is_member-append_right}

-- ---- the names of a list decide what it grants

-- two tests that agree if a third one holds, each together with the third
both_alike : (a b c : Bool) → (c ≡ true → a ≡ b) → (a && c) ≡ (b && c)
both_alike a b true h = ap (λ (x : Bool). x && true) (h refl)
both_alike true true false h = refl
both_alike true false false h = refl
both_alike false true false h = refl
both_alike false false false h = refl

-- matchings that differ only at other names are the same without other names
seen_alike : (s : EntryShape) (m n : Matching) (ns : List ℕ) → IsMatching m → IsMatching n → AlikeFor s m n
    → Agree ns (seen s m) (seen s n)
seen_alike s m n ns ok fine a = record {
  owner = a.owner;
  users = λ id h. both_alike (m (tag.user id)) (n (tag.user id)) (is_member id s.users) (a.users id);
  owning = a.owning;
  groups = λ id h. both_alike (m (tag.group id)) (n (tag.group id)) (is_member id s.groups) (a.groups id);
  everyone = ok.everyone ∙ sym fine.everyone;
}

-- a list grants the same under such matchings, if the shape has all its names
names_decide : (list : List Ace) (s : EntryShape) → HasNamesOf s list → NamesDecide (granted_to list) s
names_decide list s names m n want ok fine small a granted = granted_seen s m list want names small
    (agree_granted (list_ids list) (seen s n) (seen s m) list want
    (agree_back (list_ids list) (seen s m) (seen s n) (seen_alike s m n (list_ids list) ok fine a)) (λ id h. h)
    (seen_granted s n list want names small granted))

-- ---- lists that grant the same

-- what one list grants under a matching, the other grants
granted_too : (list second : List Ace) (m : Matching) (want : ℕ) → length list ≤ most_listed
    → length second ≤ most_listed → GrantSamePermissions list second → IsMatching m → IsPerm want
    → granted_to list want m → granted_to second want m
granted_too list second m want short brief same ok small granted =
    let ns = list_ids list ++ list_ids second in
    let a = length-append (list_ids list) (list_ids second) in
    let b = list_ids_few list in
    let c = list_ids_few second in
    let few : length ns < greatest_id - 1 = omega (arith, a, b, c, short, brief) in
    let r = real ns m ok few in
    let back = agree_back ns (tag_meets r.object r.requester) m r.agree in
    agree_granted ns (tag_meets r.object r.requester) m second want r.agree
    (λ id h. is_member-append_right id (list_ids list) (list_ids second) h)
    (granted_is second r.object r.requester want r.asked
    ((same r.object r.requester want r.asked small).0
    (is_granted list r.object r.requester want r.asked
    (agree_granted ns m (tag_meets r.object r.requester) list want back
    (λ id h. is_member-append_left id (list_ids list) (list_ids second) h) granted))))

-- the names of the second list decide what the first grants
other_names : (list second : List Ace) (s : EntryShape) → length list ≤ most_listed → length second ≤ most_listed
    → GrantSamePermissions list second → HasNamesOf s second → NamesDecide (granted_to list) s
other_names list second s short brief same names m n want ok fine small a granted =
    granted_too second list m want brief short (alike_back list second same) ok small
    (names_decide second s names m n want ok fine small a
    (granted_too list second n want short brief same fine small granted))

-- so both prunings end with the same names
same_names : (list second : List Ace) (one two three four : EntryShape) → length list ≤ most_aces
    → length second ≤ most_aces → HasFewIds one → HasFewIds three → HasNamesOf one list → HasNamesOf three second
    → GrantSamePermissions list second → PrunesTo list one two → PrunesTo second three four → SameNames two four
same_names list second one two three four short brief f g names other same p q =
    let long = listed list short in
    let s = is_small one f in
    let t = is_small three g in
    let r = alike_prunes_to second list three four (alike_back list second same) q in
    two_starts (granted_to list) one two three four (one_group_denies list) (names_decide list one names)
    (other_names list second three long (listed second brief) same other)
    (record { users = f.users; groups = f.groups }) (record { users = g.users; groups = g.groups })
    (steps_of list one two p.steps long s)
    (pruned_of list one two long (small_at_end list one two p.steps s) p)
    (steps_of list three four r.steps long t)
    (pruned_of list three four long (small_at_end list three four r.steps t) r)

-- ---- the permissions of the entries

-- what an entry of one ACL contains, that of the other contains
contains_too : (list second : List Ace) (s t : EntryShape) (best one_more : Entries) (e : Tag) (want : ℕ)
    → GrantSamePermissions list second → SameNames s t → IsBest list s best → IsBest second t one_more
    → is_in_shape s e ≡ true → IsPerm want → entry_contains best e want ≡ true → entry_contains one_more e want ≡ true
contains_too list second s t best one_more e want same names is other_is there small has =
    (other_is.each e (part_has t s e names.whole there) want small).1
    (part_keeps second t s e want names.whole there
    (alike_always list second s e want same small ((is.each e there want small).0 has)))

-- permissions that contain the same sets are the same
same_perms : (o p : Option ℕ) → is_some o ≡ true → is_some p ≡ true → ((n : ℕ) → o ≡ Some n → IsPerm n)
    → ((n : ℕ) → p ≡ Some n → IsPerm n)
    → ((want : ℕ) → IsPerm want → is_contained o want ≡ true → is_contained p want ≡ true)
    → ((want : ℕ) → IsPerm want → is_contained p want ≡ true → is_contained o want ≡ true) → o ≡ p
same_perms None p there also_there small other_small less more = absurd (false≢true there)
same_perms (Some x) None there also_there small other_small less more = absurd (false≢true also_there)
same_perms (Some x) (Some y) there also_there small other_small less more =
    ap (λ (n : ℕ). Some n)
    (sym (eqb-true (bit_and y x) x (less x (small x refl) (eq-eqb (bit_and x x) x (and_self x))))
    ∙ (and_comm y x ∙ eqb-true (bit_and x y) y (more y (other_small y refl) (eq-eqb (bit_and y y) y (and_self y)))))

-- the permissions that are found are permissions
found_small : (q : Tag) (es : List (Tag × ℕ)) (n : ℕ) → AllByRecursion IsEntry es → fin.find tag_cmp q es ≡ Some n
    → IsPerm n
found_small q [] n all h = absurd (false≢true (ap (λ (o : Option ℕ). is_some o) h))
found_small q (e ∷ es) n all h = by (eq_by_cmp tag_cmp q e.0) (found_small q es n all.1) h
  where
    by : (b : Bool) → (fin.find tag_cmp q es ≡ Some n → IsPerm n)
        → cond b (Some e.1) (fin.find tag_cmp q es) ≡ Some n → IsPerm n
    by true rest h = subst IsPerm (same_Some e.1 n h) all.0.1
    by false rest h = rest h

-- so are those of an ACL
small_at : (acl : Entries) (t : Tag) (n : ℕ) → IsAcl acl → fin.get acl t ≡ Some n → IsPerm n
small_at acl t n valid h = found_small t (fin.entries acl) n
    (recursion_from_All IsEntry (fin.entries acl) valid.within) (sym (fin.get-entries acl t) ∙ h)

-- an entry that the shape lacks is not there
absent : (s : EntryShape) (acl : Entries) (t : Tag) → HasShape s acl → (t ≡ tag.mask → ⊥) → is_in_shape s t ≡ false
    → is_some (fin.get acl t) ≡ false
absent s acl tag.user_obj shaped plain lacks = absurd (true≢false lacks)
absent s acl (tag.user id) shaped plain lacks = shaped.users id ∙ lacks
absent s acl tag.group_obj shaped plain lacks = absurd (true≢false lacks)
absent s acl (tag.group id) shaped plain lacks = shaped.groups id ∙ lacks
absent s acl tag.mask shaped plain lacks = absurd (plain refl)
absent s acl tag.other shaped plain lacks = absurd (true≢false lacks)

-- what is not there is nothing
lacks_all : (o : Option ℕ) → is_some o ≡ false → o ≡ None
lacks_all None h = refl
lacks_all (Some n) h = absurd (true≢false h)

-- the same entries, MASK aside
same_entries_of : (list second : List Ace) (s t : EntryShape) (best one_more : Entries)
    → GrantSamePermissions list second → SameNames s t → IsBest list s best → IsBest second t one_more → (e : Tag)
    → (e ≡ tag.mask → ⊥) → fin.get best e ≡ fin.get one_more e
same_entries_of list second s t best one_more same names is other_is e plain = elim (cases_Bool (is_in_shape s e)) [
  | inl there ↦
      let also_there = part_has t s e names.whole there in
      same_perms (fin.get best e) (fin.get one_more e) (entry_there s best e is.valid is.shaped there)
      (entry_there t one_more e other_is.valid other_is.shaped also_there)
      (λ n h. small_at best e n is.valid h) (λ n h. small_at one_more e n other_is.valid h)
      (λ want small has. contains_too list second s t best one_more e want same names is other_is there small has)
      (λ want small has. contains_too second list t s one_more best e want (alike_back list second same)
      (same_turned s t names) other_is is also_there small has)
  | inr lacks ↦ lacks_all (fin.get best e) (absent s best e is.shaped plain lacks)
      ∙ sym (lacks_all (fin.get one_more e) (absent t one_more e other_is.shaped plain (lacks_too lacks)))
]
  where
    lacks_too : is_in_shape s e ≡ false → is_in_shape t e ≡ false
    lacks_too lacks = elim (cases_Bool (is_in_shape t e)) [
      | inl has ↦ absurd (true≢false (sym (part_has s t e names.part has) ∙ lacks))
      | inr not_there ↦ not_there
    ]

-- ---- MASK

-- tags that compare as equal are equal
tag_cmp-Equal : (x y : Tag) → tag_cmp x y ≡ Equal → x ≡ y
tag_cmp-Equal x y e = same_tag x y (rw e refl)

-- ACLs with the same entries, MASK aside, have the same entries of the file group class
same_class : (best one_more : Entries) → ((e : Tag) → (e ≡ tag.mask → ⊥) → fin.get best e ≡ fin.get one_more e)
    → filter (λ e. is_masked e.0) (fin.entries best) ≡ filter (λ e. is_masked e.0) (fin.entries one_more)
same_class best one_more same = same_entries tag_cmp tags_total tag_cmp-Equal _ _
    (is_sorted-where_key tag_cmp is_masked (fin.entries best) (fin.entries_sorted best))
    (is_sorted-where_key tag_cmp is_masked (fin.entries one_more) (fin.entries_sorted one_more))
    (λ q. find-where_key tag_cmp is_masked q (alike q) (fin.entries best)
    ∙ (at q ∙ sym (find-where_key tag_cmp is_masked q (alike q) (fin.entries one_more))))
  where
    alike : (q x : Tag) → tag_cmp q x ≡ Equal → is_masked x ≡ is_masked q
    alike q x e = ap is_masked (sym (tag_cmp-Equal q x e))

    at : (q : Tag) → cond (is_masked q) (fin.find tag_cmp q (fin.entries best)) None
        ≡ cond (is_masked q) (fin.find tag_cmp q (fin.entries one_more)) None
    at q = elim (cases_Bool (is_masked q)) [
      | inl masked ↦ rw masked (sym (fin.get-entries best q)
          ∙ (same q (λ e. false≢true (sym (ap is_masked e) ∙ masked)) ∙ fin.get-entries one_more q))
      | inr plain ↦ rw plain refl
    ]

-- a shape that is not empty has a user or a group
some_name : (s : EntryShape) → 0 < size_of s → (name : Tag) × ((is_named name ≡ true) × (is_in_shape s name ≡ true))
some_name s some = by s.users s.groups refl refl
  where
    by : (us gs : List ℕ) → s.users ≡ us → s.groups ≡ gs
        → (name : Tag) × ((is_named name ≡ true) × (is_in_shape s name ≡ true))
    by (u ∷ us) gs e f = (tag.user u, (refl, rw e (or_left (u == u) (is_member u us) (eq-eqb u u refl))))
    by [] (g ∷ gs) e f = (tag.group g, (refl, rw f (or_left (g == g) (is_member g gs) (eq-eqb g g refl))))
    by [] [] e f = absurd (omega (arith, some, ap (λ (xs : List ℕ). length xs) e, ap (λ (xs : List ℕ). length xs) f))

-- shapes with the same names are both empty or both not
some_too : (s t : EntryShape) → SameNames s t → 0 < size_of s → size_of t ≡ 0 → ⊥
some_too s t names some none =
    let name = some_name s some in
    true≢false (sym (part_has t s name.0 names.whole name.1.1)
    ∙ none_named t name.0 none name.1.0)

-- the calculated MASK
mask_is : (acl : Entries) → with_mask acl ≡ acl → fin.get acl tag.mask ≡ Some (class_union (fin.entries acl))
mask_is acl same = sym (ap (λ (a : Entries). fin.get a tag.mask) same)
    ∙ fin.get-insert tags_total acl tag.mask (class_union (fin.entries acl)) tag.mask

-- both ACLs have the same MASK, or none
same_mask : (list second : List Ace) (s t : EntryShape) (best one_more : Entries) → SameNames s t → IsBest list s best
    → IsBest second t one_more → ((e : Tag) → (e ≡ tag.mask → ⊥) → fin.get best e ≡ fin.get one_more e)
    → fin.get best tag.mask ≡ fin.get one_more tag.mask
same_mask list second s t best one_more names is other_is same = by is.mask other_is.mask
  where
    union : List (Tag × ℕ) → ℕ
    union es = fold (λ n entry. bit_or n entry.1) 0 es

    by : ((size_of s ≡ 0) × (fin.get best tag.mask ≡ None)) ⊎ ((0 < size_of s) × (with_mask best ≡ best))
        → ((size_of t ≡ 0) × (fin.get one_more tag.mask ≡ None)) ⊎ ((0 < size_of t) × (with_mask one_more ≡ one_more))
        → fin.get best tag.mask ≡ fin.get one_more tag.mask
    by (inl none) (inl none_too) = none.1 ∙ sym none_too.1
    by (inl none) (inr some) = absurd (some_too t s (same_turned s t names) some.0 none.0)
    by (inr some) (inl none) = absurd (some_too s t names some.0 none.0)
    by (inr is_mask) (inr is_mask_too) = mask_is best is_mask.1
        ∙ (ap (λ (es : List (Tag × ℕ)). Some (union es)) (same_class best one_more same)
        ∙ sym (mask_is one_more is_mask_too.1))

-- ---- the law

-- ACLs with the same names are the same, if the lists grant the same
one_acl : (list second : List Ace) (s t : EntryShape) (best one_more : Entries) → GrantSamePermissions list second
    → SameNames s t → IsBest list s best → IsBest second t one_more → best ≡ one_more
one_acl list second s t best one_more same names is other_is =
    fin.same_map tags_total tag_cmp-Equal best one_more (λ e. elim (cases_Bool (eq_by_cmp tag_cmp e tag.mask)) [
      | inl masked ↦ subst (λ (x : Tag). fin.get best x ≡ fin.get one_more x) (sym (same_tag e tag.mask masked))
          (same_mask list second s t best one_more names is other_is entries)
      | inr plain ↦ entries e (λ m. true≢false
          (sym (eq_by_cmp-refl tag.mask) ∙ (ap (λ (x : Tag). eq_by_cmp tag_cmp x tag.mask) (sym m) ∙ plain)))
    ])
  where
    entries : (e : Tag) → (e ≡ tag.mask → ⊥) → fin.get best e ≡ fin.get one_more e
    entries = same_entries_of list second s t best one_more same names is other_is

-- lists that grant the same have prunings that end in one ACL
pub grants_give_one : (list second : List Ace) (one two three four : EntryShape) (best one_more : Entries)
    → length list ≤ most_aces → length second ≤ most_aces → HasFewIds one → HasFewIds three → HasNamesOf one list
    → HasNamesOf three second → GrantSamePermissions list second → PrunesTo list one two → IsBest list two best
    → PrunesTo second three four → IsBest second four one_more → best ≡ one_more
grants_give_one list second one two three four best one_more short brief f g names other same p is q other_is =
    one_acl list second two four best one_more same
    (same_names list second one two three four short brief f g names other same p q) is other_is
