-- Where the names that are taken out end: no shape with names of the start gives more.
use Rattle.std.proofs.Common.{◌≡◌, ℕ, Bool, true, false, List, refl, sym, ap, subst, ◌∙◌, inl, inr}
use Rattle.std.proofs.lemmas.Bool.{cases_Bool, eq-eqb, eqb-true, false≢true, true≢false}
use Rattle.std.specs.Prelude.{◌⊎◌, ◌==◌, ◌||◌}
use Rattle.std.specs.Ordering.{eq_by_cmp}
use Rattle.acl_perm.proofs.Bools.{or_true_right}
use Rattle.acl_perm.specs.Bits.{IsPerm}
use Rattle.acl_posix.specs.Check.{is_member}
use Rattle.acl_posix.specs.Tag.{Tag, user_obj, user, group_obj, group, mask, other, is_named, tag_cmp}
use Rattle.acl_posix.proofs.Exports.{same_tag}
use Rattle.acl_eval.specs.Bridge.{is_group_tag}
use Rattle.acl_to_posix.specs.Pruning.{is_shared, shape_without, taken_out}
use Rattle.acl_to_posix.specs.ToPosix.{EntryShape, is_in_shape}
use Rattle.acl_to_posix.proofs.Passes.{eq_by_cmp-refl}
use Rattle.acl_to_posix.proofs.SituationIds.{HasIds, entry_id}
use Rattle.acl_to_posix.proofs.prunings.Losses.{IsPart, but_keeps, but_lacks, member_but, out_part, part_has, part_ids}
use Rattle.acl_to_posix.proofs.Matchings.{IsMatching, IsRest, Looks, Matching, also, also_matching, alone, alone_looks, alone_matching, alone_only, looks_part, looks_rest, looks_there, moved, no_groups, no_groups_matching, no_users, no_users_matching, rest_looks, rest_part, rest_shared, with_group, with_group_matching, with_user, with_user_matching}
use Rattle.acl_to_posix.proofs.prunings.PruningSteps.{Below, Gives, Granting, HasAlways, IsPruned, Steps, also_same, has_part, steps_leave, steps_part, steps_stay}
use Rattle.acl_to_posix.proofs.no_greatest.FreeIds.{eqb-not_member}

-- one of the groups of somebody is enough to deny some permissions, and to deny them to strangers in this group alone
pub record OneGroup (f : Granting) (want : ℕ) (m : Matching) : Type 0 where
  pub one : Tag
  pub is_group : is_group_tag one ≡ true
  pub matches : m one ≡ true
  pub denied : f want (with_group one m) → ⊥
  pub strangers : f want (alone one) → ⊥

-- what somebody in no group is granted, he is granted in all his groups, or one group denies it
abbrev pub OneGroupDenies : Granting → Type 0
OneGroupDenies f = (want : ℕ) (m : Matching) → IsMatching m → IsPerm want → f want (no_groups m)
    → f want m ⊎ OneGroup f want m

-- names were taken out of the first shape until the second was left; the third has names of the first, and gives all
-- that the second gives
pub record IsAbove (f : Granting) (start s t : EntryShape) : Type 0 where
  pub ids : HasIds start
  pub steps : Steps f start s
  pub names : IsPart start t
  pub above : Below f s t

-- ids of the shapes
end_ids : (f : Granting) (start s t : EntryShape) → IsAbove f start s t → HasIds s
end_ids f start s t a = part_ids start s (steps_part f start s a.steps) a.ids

-- permissions that all shared entries of the third shape have, those of the second have too
all_above : (f : Granting) (start s t : EntryShape) (want : ℕ) → IsAbove f start s t → IsPerm want
    → ((e : Tag) → is_shared e ≡ true → is_in_shape t e ≡ true → HasAlways f t e want)
    → (e : Tag) → is_shared e ≡ true → is_in_shape s e ≡ true → HasAlways f s e want
all_above f start s t want a small all e shared there =
    steps_stay f start s a.steps a.ids e there want small (λ m ok l.
    let some = rest_looks t m (rest_part start t m a.names (looks_rest start m e shared l)) in
    all some.entry some.shared (looks_there t m some.entry some.looks) m ok some.looks)

-- ---- a user who is in the second shape and not in the third

-- the rest of the third shape, if the user is none of its users
user_rest : (u : ℕ) (users : List ℕ) (m : Matching) → IsMatching m → m user_obj ≡ false → is_member u users ≡ false
    → m (user u) ≡ true → IsRest users m
user_rest u users m ok o lacks is = record {
  owner = o;
  others = λ id has. elim (cases_Bool (m (user id))) [
    | inl also_is ↦ absurd (true≢false (sym has
        ∙ (ap (λ (n : ℕ). is_member n users) (ok.one id u also_is is) ∙ lacks)))
    | inr differs ↦ differs
  ];
}

-- what strangers are granted by a shared entry, the user in the same groups is granted too
user_gets : (f : Granting) (start s t : EntryShape) (u want : ℕ) → IsAbove f start s t → IsPerm want
    → is_member u t.users ≡ false → (e : Tag) → is_shared e ≡ true → is_in_shape s e ≡ true → HasAlways f s e want
    → (m : Matching) → IsMatching m → Looks (taken_out (user u) s) m e → m (user u) ≡ true → f want m
user_gets f start s t u want a small lacks e shared there has m ok l is =
    let rest = looks_rest (taken_out (user u) s) m e shared l in
    let stranger = moved (taken_out (user u) s) s m (no_users m) e shared there
    (record { owner = rest.owner; others = λ id h. refl }) (record { owning = refl; named = λ id h. refl })
    (λ id h. h) l in
    let g = a.above (no_users m) want (no_users_matching m ok) small
    (record { entry = e; looks = stranger; has = has }) in
    g.has m ok (moved t t (no_users m) m g.entry
    (rest_shared t (no_users m) g.entry (record { owner = rest.owner; others = λ id h. refl }) g.looks)
    (looks_there t (no_users m) g.entry g.looks)
    (user_rest u t.users m ok rest.owner lacks is) (record { owning = refl; named = λ id h. refl }) (λ id h. h) g.looks)

-- so a shared entry has what it had, without the entry of the user
user_shared : (f : Granting) (start s t : EntryShape) (u want : ℕ) → IsAbove f start s t → IsPerm want
    → is_member u t.users ≡ false → (e : Tag) → is_shared e ≡ true → is_in_shape s e ≡ true → HasAlways f s e want
    → HasAlways f (taken_out (user u) s) e want
user_shared f start s t u want a small lacks e shared there has m ok l = elim (cases_Bool (m (user u))) [
  | inl is ↦ user_gets f start s t u want a small lacks e shared there has m ok l is
  | inr not_he ↦ has m ok (moved (taken_out (user u) s) s m m e shared there (rest not_he)
      (record { owning = refl; named = λ id h. refl }) (λ id h. h) l)
]
  where
    rest : m (user u) ≡ false → IsRest s.users m
    rest not_he = record {
      owner = (looks_rest (taken_out (user u) s) m e shared l).owner;
      others = λ id h. elim (cases_Bool (id == u)) [
        | inl same ↦ ap (λ (n : ℕ). m (user n)) (eqb-true id u same) ∙ not_he
        | inr differ ↦
            (looks_rest (taken_out (user u) s) m e shared l).others id (but_keeps id u s.users h differ)
      ];
    }

-- what the user's own entry has, all shared entries have
user_all : (f : Granting) (start s t : EntryShape) (u want : ℕ) → IsAbove f start s t → IsPerm want
    → is_member u s.users ≡ true → is_member u t.users ≡ false → HasAlways f s (user u) want
    → (e : Tag) → is_shared e ≡ true → is_in_shape s e ≡ true → HasAlways f s e want
user_all f start s t u want a small has_u lacks has e shared there =
    steps_stay f start s a.steps a.ids e there want small (λ m ok l.
    let rest = rest_part start t m a.names (looks_rest start m e shared l) in
    let with : IsRest t.users (with_user u m) =
    record { owner = rest.owner; others = λ id h. eqb-not_member u id t.users lacks h } in
    let g = a.above (with_user u m) want
    (with_user_matching u m ((end_ids f start s t a).users u has_u) ok) small
    (record { entry = user u; looks = (rest.owner, has_u, eq-eqb u u refl); has = has }) in
    g.has m ok (moved t t (with_user u m) m g.entry (rest_shared t (with_user u m) g.entry with g.looks)
    (looks_there t (with_user u m) g.entry g.looks) rest (record { owning = refl; named = λ id h. refl }) (λ id h. h)
    g.looks))

-- the user can be taken out
user_goes : (f : Granting) (start s t : EntryShape) (u : ℕ) → IsAbove f start s t → is_member u s.users ≡ true
    → is_member u t.users ≡ false → Below f s (taken_out (user u) s)
user_goes f start s t u a has_u lacks m want ok small g = by g.entry g.looks g.has
  where
    out : EntryShape
    out = taken_out (user u) s

    keeps : (e : Tag) → is_shared e ≡ true → is_in_shape s e ≡ true → HasAlways f s e want
        → HasAlways f (taken_out (user u) s) e want
    keeps e shared there has = user_shared f start s t u want a small lacks e shared there has

    own : Looks s m (user u) → HasAlways f s (user u) want → Gives f (taken_out (user u) s) m want
    own l has =
        let some = rest_looks (taken_out (user u) s) m
        (user_rest u (shape_without u s.users) m ok l.0 (but_lacks u s.users) l.2) in
        let there = part_has s (taken_out (user u) s) some.entry (out_part (user u) s)
        (looks_there (taken_out (user u) s) m some.entry some.looks) in
        record {
          entry = some.entry;
          looks = some.looks;
          has = keeps some.entry some.shared there
              (user_all f start s t u want a small has_u lacks has some.entry some.shared there);
        }

    shared : (e : Tag) → is_shared e ≡ true → is_in_shape (taken_out (user u) s) e ≡ true → Looks s m e
        → HasAlways f s e want → Gives f (taken_out (user u) s) m want
    shared e is stays l has = record {
      entry = e;
      looks = looks_part s (taken_out (user u) s) m e (out_part (user u) s) stays l;
      has = keeps e is (looks_there s m e l) has;
    }

    by : (e : Tag) → Looks s m e → HasAlways f s e want → Gives f (taken_out (user u) s) m want
    by user_obj l has = record { entry = user_obj; looks = l; has = has }
    by (user v) l has = elim (cases_Bool (v == u)) [
      | inl same ↦
          let is : v ≡ u = eqb-true v u same in
          own (subst (λ (n : ℕ). Looks s m (user n)) is l) (subst (λ (n : ℕ). HasAlways f s (user n) want) is has)
      | inr differ ↦ record {
        entry = user v;
        looks = (l.0, but_keeps v u s.users l.1 differ, l.2);
        has = λ n fine ln. has n fine (ln.0, (member_but v u s.users ln.1).0, ln.2);
      }
    ]
    by group_obj l has = shared group_obj refl refl l has
    by (group h) l has = shared (group h) refl l.1 l has
    by mask l has = absurd l
    by other l has = shared other refl refl l has

-- ---- a group that is in the second shape and not in the third

-- two tags that differ, because one list has the first and lacks the second
pub group_differs : (g : ℕ) (t : EntryShape) → is_member g t.groups ≡ false → (y : Tag) → is_in_shape t y ≡ true
    → eq_by_cmp tag_cmp y (group g) ≡ false
group_differs g t lacks y there = elim (cases_Bool (eq_by_cmp tag_cmp y (group g))) [
  | inl same ↦ absurd (true≢false (sym there ∙ (ap (is_in_shape t) (same_tag y (group g) same) ∙ lacks)))
  | inr differ ↦ differ
]

-- what the group's own entry has, all shared entries have
group_all : (f : Granting) (start s t : EntryShape) (g want : ℕ) → IsAbove f start s t → IsPerm want
    → is_member g s.groups ≡ true → is_member g t.groups ≡ false → HasAlways f s (group g) want
    → (e : Tag) → is_shared e ≡ true → is_in_shape s e ≡ true → HasAlways f s e want
group_all f start s t g want a small has_g lacks has = all_above f start s t want a small (λ e shared there.
    let m : Matching = also (group g) (alone e) in
    let given = a.above m want
    (also_matching (group g) e ((end_ids f start s t a).groups g has_g)
    (entry_id t e (part_ids start t a.names a.ids) there)) small (record {
      entry = group g;
      looks = (
        record { owner = refl; others = λ id h. refl },
        has_g,
        ap (λ (b : Bool). alone e (group g) || b) (eq_by_cmp-refl (group g)) ∙ or_true_right (alone e (group g)),
      );
      has = has;
    }) in
    subst (λ (x : Tag). HasAlways f t x want) (alone_only t e given.entry shared there
    (also_same t (group g) e refl (group_differs g t lacks) given.entry given.looks)) given.has)

-- if the check looks at OTHER without the group, it looked at OTHER or at the group before
other_before : (s : EntryShape) (g : ℕ) (m : Matching) → is_member g s.groups ≡ true
    → Looks (taken_out (group g) s) m other → Looks s m other ⊎ ((m (group g) ≡ true) × Looks s m (group g))
other_before s g m has_g l = elim (cases_Bool (m (group g))) [
  | inl is ↦ inr (is, (record { owner = l.0.owner; others = l.0.others }, has_g, is))
  | inr outside ↦ inl (
    record { owner = l.0.owner; others = l.0.others },
    l.1,
    λ id h. elim (cases_Bool (id == g)) [
      | inl same ↦ ap (λ (n : ℕ). m (group n)) (eqb-true id g same) ∙ outside
      | inr differ ↦ l.2 id (but_keeps id g s.groups h differ)
    ],
  )
]

-- OTHER has what it had, without the entry of the group
other_stays : (f : Granting) (start s t : EntryShape) (g want : ℕ) → OneGroupDenies f → IsAbove f start s t
    → IsPerm want → is_member g s.groups ≡ true → is_member g t.groups ≡ false → HasAlways f s other want
    → HasAlways f (taken_out (group g) s) other want
other_stays f start s t g want denies a small has_g lacks has m ok l =
    elim (other_before s g m has_g l) [
      | inl before ↦ has m ok before
      | inr group_before ↦ elim (denies want m ok small (has (no_groups m) (no_groups_matching m ok)
          (record { owner = l.0.owner; others = l.0.others }, refl, λ id h. refl))) [
            | inl granted ↦ granted
            | inr one ↦ absurd (elim (cases_Bool (eq_by_cmp tag_cmp one.one (group g))) [
              | inl same ↦ one.strangers (strangers one.one (same_tag one.one (group g) same))
              | inr differ ↦ one.denied (has (with_group one.one m)
                  (with_group_matching one.one m (ok.ids one.one one.matches) ok) (another one differ))
            ])
          ]
    ]
  where
    given : Gives f t (alone other) want
    given = a.above (alone other) want (alone_matching other tt) small
        (record { entry = other; looks = alone_looks s other refl refl; has = has })

    strangers : (d : Tag) → d ≡ group g → f want (alone d)
    strangers d is = subst (λ (x : Tag). f want (alone x)) (sym is)
        (subst (λ (x : Tag). HasAlways f t x want) (alone_only t other given.entry refl refl given.looks) given.has
        (alone (group g)) (alone_matching (group g) ((end_ids f start s t a).groups g has_g)) (
          record { owner = refl; others = λ id h. refl },
          refl,
          λ id h. group_differs g t lacks (group id) h,
        ))

    differs : (one : OneGroup f want m) (y : Tag) → m y ≡ false → eq_by_cmp tag_cmp y one.one ≡ false
    differs one y outside = elim (cases_Bool (eq_by_cmp tag_cmp y one.one)) [
      | inl same ↦ absurd (true≢false (sym one.matches ∙ (ap m (sym (same_tag y one.one same)) ∙ outside)))
      | inr differ ↦ differ
    ]

    another : (one : OneGroup f want m) → eq_by_cmp tag_cmp one.one (group g) ≡ false
        → Looks s (with_group one.one m) other
    another one differ = (
      record { owner = l.0.owner; others = l.0.others },
      differs one group_obj l.1,
      λ id h. elim (cases_Bool (id == g)) [
        | inl same ↦ elim (cases_Bool (eq_by_cmp tag_cmp (group id) one.one)) [
          | inl is ↦ absurd (true≢false (sym (eq_by_cmp-refl (group g))
              ∙ (ap (λ (n : ℕ). eq_by_cmp tag_cmp (group n) (group g)) (sym (eqb-true id g same))
              ∙ (ap (λ (x : Tag). eq_by_cmp tag_cmp x (group g)) (same_tag (group id) one.one is) ∙ differ))))
          | inr is_not ↦ is_not
        ]
        | inr apart ↦ differs one (group id) (l.2 id (but_keeps id g s.groups h apart))
      ],
    )

-- a shared entry other than OTHER has what it had, without the entry of the group
group_stays : (f : Granting) (s : EntryShape) (g want : ℕ) (e : Tag) → is_shared e ≡ true
    → eq_by_cmp tag_cmp e other ≡ false → HasAlways f s e want → HasAlways f (taken_out (group g) s) e want
group_stays f s g want user_obj shared differ has = absurd (false≢true shared)
group_stays f s g want (user u) shared differ has = absurd (false≢true shared)
group_stays f s g want group_obj shared differ has = λ m ok l. has m ok l
group_stays f s g want (group h) shared differ has =
    λ m ok l. has m ok (l.0, (member_but h g s.groups l.1).0, l.2)
group_stays f s g want mask shared differ has = absurd (false≢true shared)
group_stays f s g want other shared differ has = absurd (true≢false differ)

-- if all shared entries have some permissions, and the group's own entry has them, the others have them without it
all_stay : (f : Granting) (s : EntryShape) (g want : ℕ) → is_member g s.groups ≡ true → HasAlways f s (group g) want
    → ((e : Tag) → is_shared e ≡ true → is_in_shape s e ≡ true → HasAlways f s e want) → (e : Tag) → is_shared e ≡ true
    → is_in_shape (taken_out (group g) s) e ≡ true → HasAlways f (taken_out (group g) s) e want
all_stay f s g want has_g own all user_obj shared there = absurd (false≢true shared)
all_stay f s g want has_g own all (user u) shared there = absurd (false≢true shared)
all_stay f s g want has_g own all group_obj shared there =
    group_stays f s g want group_obj refl refl (all group_obj refl refl)
all_stay f s g want has_g own all (group h) shared there =
    group_stays f s g want (group h) refl refl (all (group h) refl (member_but h g s.groups there).0)
all_stay f s g want has_g own all mask shared there = absurd (false≢true shared)
all_stay f s g want has_g own all other shared there = λ m ok l. elim (other_before s g m has_g l) [
  | inl before ↦ all other refl refl m ok before
  | inr group_before ↦ own m ok group_before.1
]

-- the group can be taken out
group_goes : (f : Granting) (start s t : EntryShape) (g : ℕ) → OneGroupDenies f → IsAbove f start s t
    → is_member g s.groups ≡ true → is_member g t.groups ≡ false → Below f s (taken_out (group g) s)
group_goes f start s t g denies a has_g lacks m want ok small given = by given.entry given.looks given.has
  where
    own : Looks s m (group g) → HasAlways f s (group g) want → Gives f (taken_out (group g) s) m want
    own l has =
        let some = rest_looks (taken_out (group g) s) m (record { owner = l.0.owner; others = l.0.others }) in
        record {
          entry = some.entry;
          looks = some.looks;
          has = all_stay f s g want has_g has (group_all f start s t g want a small has_g lacks has)
              some.entry some.shared (looks_there (taken_out (group g) s) m some.entry some.looks);
        }

    by : (e : Tag) → Looks s m e → HasAlways f s e want → Gives f (taken_out (group g) s) m want
    by user_obj l has = record { entry = user_obj; looks = l; has = has }
    by (user v) l has = record { entry = user v; looks = l; has = has }
    by group_obj l has = record { entry = group_obj; looks = l; has = has }
    by (group h) l has = elim (cases_Bool (h == g)) [
      | inl same ↦
          let is : h ≡ g = eqb-true h g same in
          own (subst (λ (n : ℕ). Looks s m (group n)) is l) (subst (λ (n : ℕ). HasAlways f s (group n) want) is has)
      | inr differ ↦ record {
        entry = group h;
        looks = (l.0, but_keeps h g s.groups l.1 differ, l.2);
        has = group_stays f s g want (group h) refl refl has;
      }
    ]
    by mask l has = absurd l
    by other l has = record {
      entry = other;
      looks = (l.0, l.1, λ id i. l.2 id (member_but id g s.groups i).0);
      has = other_stays f start s t g want denies a small has_g lacks has;
    }

-- ---- the end

-- if no name can be taken out, the second shape has only names of the third
pub end_part : (f : Granting) (start s t : EntryShape) → OneGroupDenies f → IsAbove f start s t → IsPruned f s
    → IsPart t s
end_part f start s t denies a last = record {
  users = λ id h. elim (cases_Bool (is_member id t.users)) [
    | inl has ↦ has
    | inr lacks ↦ absurd (last (user id) refl h (user_goes f start s t id a h lacks))
  ];
  groups = λ id h. elim (cases_Bool (is_member id t.groups)) [
    | inl has ↦ has
    | inr lacks ↦ absurd (last (group id) refl h (group_goes f start s t id denies a h lacks))
  ];
}

-- somebody at whose entry the check looks, which is no entry of another shape, is one of the rest of that shape
pub looks_outside : (s t : EntryShape) (m : Matching) (e : Tag) → IsMatching m → IsPart t s → Looks t m e
    → is_in_shape s e ≡ false → (is_named e ≡ true) × IsRest s.users m
looks_outside s t m user_obj ok p l absent = absurd (true≢false absent)
looks_outside s t m (user u) ok p l absent = (refl, user_rest u s.users m ok l.0 absent l.2)
looks_outside s t m group_obj ok p l absent = absurd (true≢false absent)
looks_outside s t m (group g) ok p l absent = (refl, rest_part t s m p l.0)
looks_outside s t m mask ok p l absent = absurd l
looks_outside s t m other ok p l absent = absurd (true≢false absent)

-- a shape with only names of the second gives no more than the second
pub part_above : (f : Granting) (start s t : EntryShape) → HasIds start → Steps f start s → IsPart start t → IsPart t s
    → Below f t s
part_above f start s t ids steps names p m want ok small g = elim (cases_Bool (is_in_shape s g.entry)) [
  | inl there ↦ record {
    entry = g.entry;
    looks = looks_part t s m g.entry p there g.looks;
    has = steps_stay f start s steps ids g.entry there want small first;
  }
  | inr absent ↦
      let two = looks_outside s t m g.entry ok p g.looks absent in
      let some = rest_looks s m two.1 in
      record {
        entry = some.entry;
        looks = some.looks;
        has = steps_leave f start s steps ids g.entry two.0
            (part_has start t g.entry names (looks_there t m g.entry g.looks)) absent want small first
            some.entry some.shared (looks_there s m some.entry some.looks);
      }
]
  where
    first : HasAlways f start g.entry want
    first = has_part f start t g.entry want names (looks_there t m g.entry g.looks) g.has
