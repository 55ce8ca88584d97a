-- If some ACL agrees with a list, the ACL of a pruning that began with all names of the list agrees with it too.
use Rattle.std.proofs.Common.{◌≡◌, ◌≤◌, ℕ, suc, Bool, true, false, List, [], ◌∷◌, Option, None, Some, refl, sym, ap, subst, ◌∙◌, arith, inl, inr, length}
use Rattle.std.proofs.lemmas.Bool.{cases_Bool, eq-eqb, eqb-true, false≢true, or_cases, true≢false, and_left, and_right}
use Rattle.std.proofs.lemmas.List.{length-map}
use Rattle.std.proofs.lemmas.List.Elements.{recursion_from_All}
use Rattle.std.proofs.lemmas.Slice.Eq.{bytes_eq-Decides}
use Rattle.std.specs.Prelude.{◌==◌, ◌&&◌, ◌||◌, bit_and, if◌then◌else◌, map, option_map}
use Rattle.std.specs.Fmt.{decimal}
use Rattle.std.specs.FinMap as fin
use Rattle.std.specs.List.{AllByRecursion, list_any}
use Rattle.std.specs.Ordering.{eq_by_cmp}
use Rattle.acl_perm.proofs.Bools.{and_true, or_true_right}
use Rattle.acl_perm.proofs.Sets.{has_bit-and}
use Rattle.acl_perm.specs.Bits.{IsPerm, all_permissions, has_bit}
use Rattle.acl_perm.specs.Principal.{Principal, owner, user, group, group_named, everyone}
use Rattle.acl_posix.specs.Check.{is_member}
use Rattle.acl_posix.specs.Entries.{Entries, IsEntry}
use Rattle.acl_posix.specs.Id.{greatest_id}
use Rattle.acl_posix.specs.Tag as tag
use Rattle.acl_posix.specs.Tag.{Tag, IsTag, qualifier, tag_cmp}
use Rattle.acl_posix.specs.Texts.{IsAcl}
use Rattle.acl_posix.proofs.Exports.{same_tag}
use Rattle.acl_nfs4.specs.Ace.{Ace}
use Rattle.acl_nfs4.specs.Limits.{most_aces}
use Rattle.acl_nfs4.specs.Who.{principal_of}
use Rattle.acl_eval.specs.Bridge.{image}
use Rattle.acl_eval.specs.BridgeLaws.{IsSingle}
use Rattle.acl_eval.specs.Column.{column, takes_part}
use Rattle.acl_to_posix.specs.ListNames.{is_ace_relevant}
use Rattle.acl_to_posix.specs.Pruning.{PrunesTo}
use Rattle.acl_to_posix.specs.PruningLaws.{IsExactFor, HasFewIds, HasNamesOf, IsNameIn}
use Rattle.acl_to_posix.specs.ToPosix.{EntryShape, HasShape, IsBest}
use Rattle.acl_to_posix.specs.internal.ShapeBody.{column_decided_by, tag_meets}
use Rattle.acl_eval.proofs.Images.{image_right, rights}
use Rattle.acl_to_posix.proofs.prunings.Losses.{no_longer}
use Rattle.acl_to_posix.proofs.Matchings.{IsMatching, IsRest, Looks, Matching}
use Rattle.acl_to_posix.proofs.prunings.PruningEnds.{part_above}
use Rattle.acl_to_posix.proofs.prunings.PruningMaximal.{last_within}
use Rattle.acl_to_posix.proofs.prunings.PruningSituations.{IsSmall, agree_gives, all_ids, asked_matching, gives_from, gives_of, granted_is, ids_of_list, ids_of_second, is_granted, is_small, listed, real_for, steps_of, most_listed}
use Rattle.acl_to_posix.proofs.shapes.AclShapes.{among_part, among_shape, best_grants, shape_among, sound_entry}
use Rattle.acl_to_posix.proofs.prunings.PruningSteps.{Gives}
use Rattle.acl_to_posix.proofs.RealMatchings.{AgreeAt, agree_back, agree_granted, column_of, filter_member, put_agrees, with_bit}
use Rattle.acl_to_posix.proofs.shapes.ShapeChecks.{best_sound}
use Rattle.acl_eval.proofs.Singles.{single_small}
use Rattle.acl_to_posix.proofs.columns.TagMatchings.{IsFound, digits_tag, found_id, granted_to, id_by_digits, tag_keys, tags_grant}

-- ---- matchings without other names

-- the matching without users and groups that a shape does not have
abbrev pub seen : EntryShape → Matching → Matching
seen s m tag.user_obj = m tag.user_obj
seen s m (tag.user id) = m (tag.user id) && is_member id s.users
seen s m tag.group_obj = m tag.group_obj
seen s m (tag.group id) = m (tag.group id) && is_member id s.groups
seen s m tag.mask = m tag.mask
seen s m tag.other = m tag.other

-- it is a matching, too
seen_matching : (s : EntryShape) (m : Matching) → IsMatching m → IsMatching (seen s m)
seen_matching s m ok = record {
  everyone = ok.everyone;
  one = λ u v h g. ok.one u v (and_true (m (tag.user u)) _ h).0 (and_true (m (tag.user v)) _ g).0;
  ids = by;
}
  where
    by : (t : Tag) → seen s m t ≡ true → IsTag t
    by tag.user_obj h = tt
    by (tag.user id) h = ok.ids (tag.user id) (and_true (m (tag.user id)) _ h).0
    by tag.group_obj h = tt
    by (tag.group id) h = ok.ids (tag.group id) (and_true (m (tag.group id)) _ h).0
    by tag.mask h = tt
    by tag.other h = tt

-- a test and one that holds
and_holds : (a b : Bool) → b ≡ true → a ≡ (a && b)
and_holds true b h = sym h
and_holds false b h = refl

-- ---- the names of a list decide what it grants

-- no bit is in the empty set
no_right : (want bit : ℕ) → IsPerm want → has_bit (image want) bit ≡ true → has_bit 0 bit ≡ false
no_right want bit small h = elim (image_right want bit small h) [
  | inl is ↦ subst (λ (b : ℕ). has_bit 0 b ≡ false) (sym is.0) refl
  | inr more ↦ elim more [
    | inl is ↦ subst (λ (b : ℕ). has_bit 0 b ≡ false) (sym is.0) refl
    | inr rest ↦ elim rest [
      | inl is ↦ subst (λ (b : ℕ). has_bit 0 b ≡ false) (sym is.0) refl
      | inr is ↦ subst (λ (b : ℕ). has_bit 0 b ≡ false) (sym is.0) refl
    ]
  ]
]

-- the rights of permissions are among those of all permissions
some_right : (want bit : ℕ) → IsPerm want → has_bit (image want) bit ≡ true → has_bit (image all_permissions) bit ≡ true
some_right want bit small h = elim (image_right want bit small h) [
  | inl is ↦ subst (λ (b : ℕ). has_bit (image 7) b ≡ true) (sym is.0) (rights.read_data.same 7 (omega arith))
  | inr more ↦ elim more [
    | inl is ↦ subst (λ (b : ℕ). has_bit (image 7) b ≡ true) (sym is.0) (rights.write_data.same 7 (omega arith))
    | inr rest ↦ elim rest [
      | inl is ↦ subst (λ (b : ℕ). has_bit (image 7) b ≡ true) (sym is.0) (rights.append_data.same 7 (omega arith))
      | inr is ↦ subst (λ (b : ℕ). has_bit (image 7) b ≡ true) (sym is.0) (rights.execute.same 7 (omega arith))
    ]
  ]
]

-- an ACE that takes part and has such a right counts
counts : (a : Ace) (want bit : ℕ) → IsPerm want → has_bit (image want) bit ≡ true
    → (has_bit a.mask bit && takes_part a) ≡ true → is_ace_relevant a ≡ true
counts a want bit small right has =
    let two = and_true (has_bit a.mask bit) (takes_part a) has in
    elim (cases_Bool (bit_and a.mask (image all_permissions) == 0)) [
      | inl empty ↦ absurd (true≢false (sym (has_bit-and a.mask (image all_permissions) bit
          ∙ rw (two.0, some_right want bit small right) refl)
          ∙ (ap (λ (n : ℕ). has_bit n bit) (eqb-true _ 0 empty) ∙ no_right want bit small right)))
      | inr some ↦ rw (two.1, some) refl
    ]

-- a tag of a name that the shape has matches alike
named_alike : (s : EntryShape) (m : Matching) (p : Principal) → IsNameIn s p → AgreeAt m (seen s m) (digits_tag p)
named_alike s m owner h = refl
named_alike s m (user name) h = by (id_by_digits name) (found_id name)
  where
    by : (o : Option ℕ) → IsFound (suc greatest_id) name o → AgreeAt m (seen s m) (option_map (λ id. tag.user id) o)
    by None lacks = tt
    by (Some id) is = and_holds (m (tag.user id)) (is_member id s.users)
        (h id (omega (arith, is.0)) (sym ((bytes_eq-Decides (decimal id) name).0 is.1)))
named_alike s m group h = refl
named_alike s m (group_named name) h = by (id_by_digits name) (found_id name)
  where
    by : (o : Option ℕ) → IsFound (suc greatest_id) name o → AgreeAt m (seen s m) (option_map (λ id. tag.group id) o)
    by None lacks = tt
    by (Some id) is = and_holds (m (tag.group id)) (is_member id s.groups)
        (h id (omega (arith, is.0)) (sym ((bytes_eq-Decides (decimal id) name).0 is.1)))
named_alike s m everyone h = refl

-- a list grants a right alike in both matchings, if the shape has its names
seen_bit : (s : EntryShape) (m : Matching) (list : List Ace) (want bit : ℕ) → HasNamesOf s list → IsPerm want
    → has_bit (image want) bit ≡ true → tags_grant list m bit ≡ tags_grant list (seen s m) bit
seen_bit s m [] want bit names small right = refl
seen_bit s m (x ∷ list) want bit names small right =
    by (seen_bit s m list want bit names.1 small right) (has_bit x.mask bit && takes_part x) refl
  where
    by : tags_grant list m bit ≡ tags_grant list (seen s m) bit → (b : Bool) → (has_bit x.mask bit && takes_part x) ≡ b
        → column_decided_by m (tag_keys (column_of (if b then x ∷ with_bit list bit else with_bit list bit))) false
        ≡ column_decided_by (seen s m)
        (tag_keys (column_of (if b then x ∷ with_bit list bit else with_bit list bit))) false
    by rest true e = put_agrees m (seen s m) (digits_tag (principal_of x)) x.kind (tag_keys (column list bit))
        (named_alike s m (principal_of x) (names.0 (counts x want bit small right e))) rest
    by rest false e = rest

-- what a list grants, it grants without users and groups that the shape does not have
pub seen_granted : (s : EntryShape) (m : Matching) (list : List Ace) (want : ℕ) → HasNamesOf s list → IsPerm want
    → granted_to list want m → granted_to list want (seen s m)
seen_granted s m list want names small granted bit right =
    sym (seen_bit s m list want bit names small right) ∙ granted bit right

-- what a list grants without users and groups that the shape does not have, it grants with them
pub granted_seen : (s : EntryShape) (m : Matching) (list : List Ace) (want : ℕ) → HasNamesOf s list → IsPerm want
    → granted_to list want (seen s m) → granted_to list want m
granted_seen s m list want names small granted bit right =
    seen_bit s m list want bit names small right ∙ granted bit right

-- ---- the entries for names of the list

-- the third shape has the names that both others have
record AreBoth (s t both : EntryShape) : Type 0 where
  users : (id : ℕ) → is_member id both.users ≡ (is_member id s.users && is_member id t.users)
  groups : (id : ℕ) → is_member id both.groups ≡ (is_member id s.groups && is_member id t.groups)

-- who is neither the owner nor a user of both shapes is none of the second in what the first sees
both_rest : (s t both : EntryShape) (m : Matching) → AreBoth s t both → IsRest both.users m → IsRest t.users (seen s m)
both_rest s t both m a r = record {
  owner = r.owner;
  others = λ id h. elim (cases_Bool (is_member id s.users)) [
    | inl has ↦ and_left (m (tag.user id)) (is_member id s.users) (r.others id (a.users id ∙ rw (has, h) refl))
    | inr lacks ↦ and_right (m (tag.user id)) (is_member id s.users) lacks
  ];
}

-- who is neither the owner nor a user of the second in what the first sees is none of both
rest_both : (s t both : EntryShape) (m : Matching) → AreBoth s t both → IsRest t.users (seen s m) → IsRest both.users m
rest_both s t both m a r = record {
  owner = r.owner;
  others = λ id h.
      let two = and_true (is_member id s.users) (is_member id t.users) (sym (a.users id) ∙ h) in
      and_holds (m (tag.user id)) (is_member id s.users) two.0 ∙ r.others id two.1;
}

-- at an entry at which the check looks for both, it looks for the second in what the first sees
both_looks : (s t both : EntryShape) (m : Matching) (e : Tag) → AreBoth s t both → Looks both m e → Looks t (seen s m) e
both_looks s t both m tag.user_obj a l = l
both_looks s t both m (tag.user id) a l =
    let two = and_true (is_member id s.users) (is_member id t.users) (sym (a.users id) ∙ l.1) in
    (l.0, two.1, sym (and_holds (m (tag.user id)) (is_member id s.users) two.0) ∙ l.2)
both_looks s t both m tag.group_obj a l = (both_rest s t both m a l.0, l.1)
both_looks s t both m (tag.group id) a l =
    let two = and_true (is_member id s.groups) (is_member id t.groups) (sym (a.groups id) ∙ l.1) in
    (both_rest s t both m a l.0, two.1, sym (and_holds (m (tag.group id)) (is_member id s.groups) two.0) ∙ l.2)
both_looks s t both m tag.mask a l = absurd l
both_looks s t both m tag.other a l = (
  both_rest s t both m a l.0,
  l.1,
  λ id h. elim (cases_Bool (is_member id s.groups)) [
    | inl has ↦ and_left (m (tag.group id)) (is_member id s.groups) (l.2 id (a.groups id ∙ rw (has, h) refl))
    | inr lacks ↦ and_right (m (tag.group id)) (is_member id s.groups) lacks
  ],
)

-- at an entry at which it looks for the second in what the first sees, it looks for both
looks_both : (s t both : EntryShape) (m : Matching) (e : Tag) → AreBoth s t both → Looks t (seen s m) e → Looks both m e
looks_both s t both m tag.user_obj a l = l
looks_both s t both m (tag.user id) a l =
    let two = and_true (m (tag.user id)) (is_member id s.users) l.2 in
    (l.0, a.users id ∙ rw (two.1, l.1) refl, two.0)
looks_both s t both m tag.group_obj a l = (rest_both s t both m a l.0, l.1)
looks_both s t both m (tag.group id) a l =
    let two = and_true (m (tag.group id)) (is_member id s.groups) l.2 in
    (rest_both s t both m a l.0, a.groups id ∙ rw (two.1, l.1) refl, two.0)
looks_both s t both m tag.mask a l = absurd l
looks_both s t both m tag.other a l = (
  rest_both s t both m a l.0,
  l.1,
  λ id h.
      let two = and_true (is_member id s.groups) (is_member id t.groups) (sym (a.groups id) ∙ h) in
      and_holds (m (tag.group id)) (is_member id s.groups) two.0 ∙ l.2 id two.1,
)

-- what the entries for other names give to somebody without other names, the others give
both_gives : (list : List Ace) (s t both : EntryShape) (m : Matching) (want : ℕ) → AreBoth s t both → HasNamesOf s list
    → IsPerm want → Gives (granted_to list) t (seen s m) want → Gives (granted_to list) both m want
both_gives list s t both m want a names small g = record {
  entry = g.entry;
  looks = looks_both s t both m g.entry a g.looks;
  has = λ n ok l. granted_seen s n list want names small
      (g.has (seen s n) (seen_matching s n ok) (both_looks s t both n g.entry a l));
}

-- ---- the shape of an ACL

-- the numbers of its tags
abbrev numbers_of : Entries → List ℕ
numbers_of acl = map (λ e. qualifier e.0) (fin.entries acl)

-- the number of a tag that is there is among them
entry_number : (q : Tag) (es : List (Tag × ℕ)) → list_any (eq_by_cmp tag_cmp q) (map (λ e. e.0) es) ≡ true
    → is_member (qualifier q) (map (λ e. qualifier e.0) es) ≡ true
entry_number q [] h = absurd (false≢true h)
entry_number q (e ∷ es) h = elim (or_cases (eq_by_cmp tag_cmp q e.0) _ h) [
  | inl same ↦ ap (λ (b : Bool). b || is_member (qualifier q) (map (λ x. qualifier x.0) es))
      (eq-eqb (qualifier e.0) (qualifier q) (ap qualifier (sym (same_tag q e.0 same))))
  | inr more ↦ ap (λ (b : Bool). (qualifier e.0 == qualifier q) || b) (entry_number q es more)
      ∙ or_true_right (qualifier e.0 == qualifier q)
]

-- the qualifier of a tag that is there is an id
entry_tag : (q : Tag) (es : List (Tag × ℕ)) → AllByRecursion IsEntry es
    → list_any (eq_by_cmp tag_cmp q) (map (λ e. e.0) es) ≡ true → IsTag q
entry_tag q [] all h = absurd (false≢true h)
entry_tag q (e ∷ es) all h = elim (or_cases (eq_by_cmp tag_cmp q e.0) _ h) [
  | inl same ↦ subst IsTag (sym (same_tag q e.0 same)) all.0.0
  | inr more ↦ entry_tag q es all.1 more
]

-- users and groups with these numbers
abbrev wide : Entries → EntryShape
wide acl = record { users = numbers_of acl; groups = numbers_of acl }

-- the shape of the ACL
abbrev own_shape : Entries → EntryShape
own_shape acl = shape_among (wide acl) acl

-- the ACL has this shape
own_shaped : (acl : Entries) → HasShape (own_shape acl) acl
own_shaped acl = among_shape (wide acl) acl (record {
  users = λ id h. entry_number (tag.user id) (fin.entries acl) (sym (fin.contains_key-keys acl (tag.user id)) ∙ h);
  groups = λ id h. entry_number (tag.group id) (fin.entries acl) (sym (fin.contains_key-keys acl (tag.group id)) ∙ h);
})

-- it is small, if the ACL has at most 65,535 entries
own_small : (acl : Entries) → IsAcl acl → length (fin.entries acl) ≤ 65535 → IsSmall (own_shape acl)
own_small acl valid few =
    let shaped = own_shaped acl in
    let all = recursion_from_All IsEntry (fin.entries acl) valid.within in
    let long : length (numbers_of acl) ≡ length (fin.entries acl) =
    length-map (fin.entries acl) (λ e. qualifier e.0) in
    let u = no_longer (λ id. fin.contains_key acl (tag.user id)) (numbers_of acl) in
    let g = no_longer (λ id. fin.contains_key acl (tag.group id)) (numbers_of acl) in
    record {
      users = λ id h. entry_tag (tag.user id) (fin.entries acl) all
          (sym (fin.contains_key-keys acl (tag.user id)) ∙ (shaped.users id ∙ h));
      groups = λ id h. entry_tag (tag.group id) (fin.entries acl) all
          (sym (fin.contains_key-keys acl (tag.group id)) ∙ (shaped.groups id ∙ h));
      few = omega (arith, u, g, long, few);
    }

-- ---- the law

-- the entries of the ACL for names of the list give all that the list grants
exact_gives : (list : List Ace) (one : EntryShape) (acl : Entries) (m : Matching) (want : ℕ) → length list ≤ most_listed
    → HasFewIds one → HasNamesOf one list → IsAcl acl → length (fin.entries acl) ≤ 65535 → IsExactFor list acl
    → IsMatching m → IsSingle want → granted_to list want m → Gives (granted_to list) (shape_among one acl) m want
exact_gives list one acl m want short f names valid few agrees ok single granted =
    let small = single_small want single in
    let t = own_shape acl in
    let shaped = own_shaped acl in
    let g = own_small acl valid few in
    let n = seen one m in
    let r = real_for list t t n short g g (seen_matching one m ok) in
    let back = agree_back (all_ids list t t) (tag_meets r.object r.requester) n r.agree in
    let allowed = (agrees r.object r.requester want r.asked single).1
    (is_granted list r.object r.requester want r.asked
    (agree_granted (all_ids list t t) n (tag_meets r.object r.requester) list want back (ids_of_list list t t)
    (seen_granted one m list want names small granted))) in
    let given = gives_of list t r.object r.requester want short g
    (sound_entry list t acl r.object r.requester want valid shaped small
    (λ o q asked yes. (agrees o q want asked single).0 yes) allowed) in
    let b = among_both in
    both_gives list one t (shape_among one acl) m want b names small
    (agree_gives list (all_ids list t t) (tag_meets r.object r.requester) n t want r.agree
    (ids_of_second list t t) given)
  where
    among_both : AreBoth one (own_shape acl) (shape_among one acl)
    among_both = record {
      users = λ id. filter_member (λ k. fin.contains_key acl (tag.user k)) one.users id
          ∙ ap (λ (b : Bool). is_member id one.users && b) ((own_shaped acl).users id);
      groups = λ id. filter_member (λ k. fin.contains_key acl (tag.group k)) one.groups id
          ∙ ap (λ (b : Bool). is_member id one.groups && b) ((own_shaped acl).groups id);
    }

-- if some ACL agrees with a list that may have four ACEs more than most_aces, the ACL of the pruning does
pub longer_agrees : (list : List Ace) (one two : EntryShape) (best : Entries) → length list ≤ most_listed
    → HasFewIds one → HasNamesOf one list → PrunesTo list one two → IsBest list two best → (acl : Entries) → IsAcl acl
    → length (fin.entries acl) ≤ 65535 → IsExactFor list acl → IsExactFor list best
longer_agrees list one two best short f names p is acl valid few agrees object requester want asked single = (
  λ yes. best_sound list two best is object requester asked want (single_small want single) yes,
  λ granted.
      let t = shape_among one acl in
      let part = among_part one acl in
      let within = last_within list one two t short f p part (λ m w ok small one_alone given.
      exact_gives list one acl m w short f names valid few agrees ok one_alone (given.has m ok given.looks)) in
      let m : Matching = tag_meets object requester in
      let ok = asked_matching object requester asked in
      let small = single_small want single in
      let given = exact_gives list one acl m want short f names valid few agrees ok single
      (granted_is list object requester want asked granted) in
      best_grants list two best object requester want is small (gives_from list two object requester want
      (part_above (granted_to list) one two t (record { users = f.users; groups = f.groups })
      (steps_of list one two p.steps short (is_small one f)) part within m want ok small given)),
)

-- if some ACL agrees with a list, the ACL of the pruning does
pub end_agrees : (list : List Ace) (one two : EntryShape) (best : Entries) → length list ≤ most_aces → HasFewIds one
    → HasNamesOf one list → PrunesTo list one two → IsBest list two best → (acl : Entries) → IsAcl acl
    → length (fin.entries acl) ≤ 65535 → IsExactFor list acl → IsExactFor list best
end_agrees list one two best short = longer_agrees list one two best (listed list short)
