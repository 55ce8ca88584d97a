-- Read, write or execute alone: what a shape gives of these decides what it gives of any set of permissions, and where
-- a pruning ends.
use Rattle.std.proofs.Common.{◌≡◌, ◌≤◌, ℕ, true, List, refl, sym, subst, ◌∙◌, arith, inl, inr, length}
use Rattle.std.proofs.lemmas.Bool.{cases_Bool, eq-eqb, eqb-true, false≢true, true≢false}
use Rattle.std.specs.Prelude.{◌⊎◌, ◌==◌}
use Rattle.std.specs.List.{list_any}
use Rattle.acl_perm.specs.Bits.{IsPerm, has_bit}
use Rattle.acl_posix.specs.Tag.{Tag, user_obj, user, is_named}
use Rattle.acl_nfs4.specs.Ace.{Ace}
use Rattle.acl_eval.specs.Bridge.{image}
use Rattle.acl_eval.specs.BridgeLaws.{IsSingle}
use Rattle.acl_to_posix.specs.Pruning.{LosesNothing, PrunesTo, taken_out}
use Rattle.acl_to_posix.specs.ToPosix.{AlwaysHas, EntryShape, is_in_shape}
use Rattle.acl_to_posix.proofs.SituationIds.{HasIds}
use Rattle.acl_eval.proofs.Images.{image_right, rights}
use Rattle.acl_to_posix.proofs.prunings.Losses.{nothing_lost}
use Rattle.acl_to_posix.proofs.Matchings.{IsMatching, Looks, Matching, none_passes, rest_looks}
use Rattle.acl_to_posix.proofs.prunings.PruningEnds.{OneGroupDenies}
use Rattle.acl_to_posix.proofs.prunings.PruningSituations.{IsSmall, always_has, has_always, most_listed}
use Rattle.acl_to_posix.proofs.prunings.PruningSteps.{Below, Gives, Granting, IsPruned, Steps, no_step, one_more, step_leaves, step_stays}
use Rattle.acl_to_posix.proofs.shapes.ShapeChecks.{some_member}
use Rattle.acl_eval.proofs.Singles.{single_cases, single_execute, single_read, single_write}
use Rattle.acl_to_posix.proofs.columns.TagMatchings.{granted_to, one_group_denies}

-- ---- one permission

-- the set is one permission, or it is not
decide_single : (want : ℕ) → IsSingle want ⊎ (IsSingle want → ⊥)
decide_single want = elim (cases_Bool (want == 4)) [
  | inl four ↦ inl (single_read want (eqb-true want 4 four))
  | inr not_four ↦ elim (cases_Bool (want == 2)) [
    | inl two ↦ inl (single_write want (eqb-true want 2 two))
    | inr not_two ↦ elim (cases_Bool (want == 1)) [
      | inl one ↦ inl (single_execute want (eqb-true want 1 one))
      | inr not_one ↦ inr (λ is. elim (single_cases want is) [
        | inl four ↦ true≢false (sym (eq-eqb want 4 four) ∙ not_four)
        | inr more ↦ elim more [
          | inl two ↦ true≢false (sym (eq-eqb want 2 two) ∙ not_two)
          | inr one ↦ true≢false (sym (eq-eqb want 1 one) ∙ not_one)
        ]
      ])
    ]
  ]
]

-- a permission of a set, and a right of its image
pub record SingleRight (want bit : ℕ) : Type 0 where
  pub one : ℕ
  pub is : IsSingle one
  pub small : IsPerm one
  pub has : has_bit (image one) bit ≡ true
  pub within : (b : ℕ) → has_bit (image one) b ≡ true → has_bit (image want) b ≡ true

-- a bit that a number has at a place that is the same
at_place : (rights_of : ℕ) (b k : ℕ) → b ≡ k → has_bit rights_of k ≡ true → has_bit rights_of b ≡ true
at_place rights_of b k same h = subst (λ (n : ℕ). has_bit rights_of n ≡ true) (sym same) h

-- if some permissions have r, they have its rights
pub read_within : (want : ℕ) → IsPerm want → has_bit want 2 ≡ true → (b : ℕ) → has_bit (image 4) b ≡ true
    → has_bit (image want) b ≡ true
read_within want small has b h = elim (image_right 4 b (omega arith) h) [
  | inl is ↦ at_place (image want) b 0 is.0 (rights.read_data.same want small ∙ has)
  | inr more ↦ elim more [
    | inl is ↦ absurd (false≢true is.1)
    | inr rest ↦ elim rest [
      | inl is ↦ absurd (false≢true is.1)
      | inr is ↦ absurd (false≢true is.1)
    ]
  ]
]

-- if some permissions have w, they have its rights
pub write_within : (want : ℕ) → IsPerm want → has_bit want 1 ≡ true → (b : ℕ) → has_bit (image 2) b ≡ true
    → has_bit (image want) b ≡ true
write_within want small has b h = elim (image_right 2 b (omega arith) h) [
  | inl is ↦ absurd (false≢true is.1)
  | inr more ↦ elim more [
    | inl is ↦ at_place (image want) b 1 is.0 (rights.write_data.same want small ∙ has)
    | inr rest ↦ elim rest [
      | inl is ↦ at_place (image want) b 2 is.0 (rights.append_data.same want small ∙ has)
      | inr is ↦ absurd (false≢true is.1)
    ]
  ]
]

-- if some permissions have x, they have its rights
pub execute_within : (want : ℕ) → IsPerm want → has_bit want 0 ≡ true → (b : ℕ) → has_bit (image 1) b ≡ true
    → has_bit (image want) b ≡ true
execute_within want small has b h = elim (image_right 1 b (omega arith) h) [
  | inl is ↦ absurd (false≢true is.1)
  | inr more ↦ elim more [
    | inl is ↦ absurd (false≢true is.1)
    | inr rest ↦ elim rest [
      | inl is ↦ absurd (false≢true is.1)
      | inr is ↦ at_place (image want) b 5 is.0 (rights.execute.same want small ∙ has)
    ]
  ]
]

-- each right of the image of a set is a right of the image of one of its permissions
pub single_right : (want bit : ℕ) → IsPerm want → has_bit (image want) bit ≡ true → SingleRight want bit
single_right want bit small h = elim (image_right want bit small h) [
  | inl at ↦ record {
    one = 4;
    is = single_read 4 refl;
    small = omega arith;
    has = at_place (image 4) bit 0 at.0 (rights.read_data.same 4 (omega arith));
    within = read_within want small at.1;
  }
  | inr more ↦ elim more [
    | inl at ↦ record {
      one = 2;
      is = single_write 2 refl;
      small = omega arith;
      has = at_place (image 2) bit 1 at.0 (rights.write_data.same 2 (omega arith));
      within = write_within want small at.1;
    }
    | inr rest ↦ elim rest [
      | inl at ↦ record {
        one = 2;
        is = single_write 2 refl;
        small = omega arith;
        has = at_place (image 2) bit 2 at.0 (rights.append_data.same 2 (omega arith));
        within = write_within want small at.1;
      }
      | inr at ↦ record {
        one = 1;
        is = single_execute 1 refl;
        small = omega arith;
        has = at_place (image 1) bit 5 at.0 (rights.execute.same 1 (omega arith));
        within = execute_within want small at.1;
      }
    ]
  ]
]

-- ---- what is granted of one permission alone

-- what is granted, if it is one permission
abbrev pub granted_single : List Ace → Granting
granted_single list want m = IsSingle want → granted_to list want m

-- what somebody in no group is granted of one permission, he is granted in all his groups, or one group denies it
pub singles_deny : (list : List Ace) → OneGroupDenies (granted_single list)
singles_deny list want m ok small without = elim (decide_single want) [
  | inl is ↦ elim (one_group_denies list want m ok small (without is)) [
    | inl granted ↦ inl (λ _. granted)
    | inr one ↦ inr (record {
      one = one.one;
      is_group = one.is_group;
      matches = one.matches;
      denied = λ h. one.denied (h is);
      strangers = λ h. one.strangers (h is);
    })
  ]
  | inr is_not ↦ inl (λ is. absurd (is_not is))
]

-- the check looks at some entry for everyone
record SomeEntry (s : EntryShape) (m : Matching) : Type 0 where
  entry : Tag
  looks : Looks s m entry

-- for each shape and each matching there is such an entry
some_entry : (s : EntryShape) (m : Matching) → SomeEntry s m
some_entry s m = elim (cases_Bool (m user_obj)) [
  | inl owns ↦ record { entry = user_obj; looks = owns }
  | inr outside ↦ elim (cases_Bool (list_any (λ id. m (user id)) s.users)) [
    | inl some ↦
        let (n, has, is) = some_member (λ id. m (user id)) s.users some in
        record { entry = user n; looks = (outside, has, is) }
    | inr lacking ↦
        let found = rest_looks s m
        (record { owner = outside; others = none_passes (λ id. m (user id)) s.users lacking }) in
        record { entry = found.entry; looks = found.looks }
  ]
]

-- two shapes of which the second gives each single permission that the first gives
pub below_singles : (list : List Ace) (s t : EntryShape)
    → ((m : Matching) (want : ℕ) → IsMatching m → IsPerm want → IsSingle want → Gives (granted_to list) s m want
    → Gives (granted_to list) t m want)
    → Below (granted_single list) s t
below_singles list s t below m want ok small g = elim (decide_single want) [
  | inl is ↦
      let after = below m want ok small is
      (record { entry = g.entry; looks = g.looks; has = λ n fine l. g.has n fine l is }) in
      record { entry = after.entry; looks = after.looks; has = λ n fine l _. after.has n fine l }
  | inr is_not ↦
      let some = some_entry t m in
      record { entry = some.entry; looks = some.looks; has = λ n fine l is. absurd (is_not is) }
]

-- a pruning loses no single permission
pub steps_singles : (list : List Ace) (s t : EntryShape) → Steps (granted_to list) s t → Steps (granted_single list) s t
steps_singles list a b (no_step s) = no_step s
steps_singles list a b (one_more s t name n there below rest) = one_more s t name n there
    (below_singles list s (taken_out name s) (λ m want ok small is g. below m want ok small g))
    (steps_singles list (taken_out name s) t rest)

-- ---- sets of permissions

-- an entry that has each permission of a set has the set
pub has_set : (list : List Ace) (s : EntryShape) (e : Tag) (want : ℕ) → IsPerm want
    → ((one : ℕ) → IsSingle one → IsPerm one
    → ((b : ℕ) → has_bit (image one) b ≡ true → has_bit (image want) b ≡ true) → AlwaysHas list s e one)
    → AlwaysHas list s e want
has_set list s e want small each object requester asked l bit has =
    let r = single_right want bit small has in
    each r.one r.is r.small r.within object requester asked l bit r.has

-- an entry that has a set has each permission of it
pub has_one : (list : List Ace) (s : EntryShape) (e : Tag) (want one : ℕ)
    → ((b : ℕ) → has_bit (image one) b ≡ true → has_bit (image want) b ≡ true)
    → AlwaysHas list s e want → AlwaysHas list s e one
has_one list s e want one within has object requester asked l bit is = has object requester asked l bit (within bit is)

-- if no single permission is lost when a name is taken out, nothing is lost
singles_suffice : (list : List Ace) (s : EntryShape) (name : Tag) → length list ≤ most_listed → IsSmall s
    → is_named name ≡ true → is_in_shape s name ≡ true → Below (granted_single list) s (taken_out name s)
    → LosesNothing list s (taken_out name s)
singles_suffice list s name short f n there below =
    nothing_lost list s name n (λ entry shared stays want small before.
    has_set list (taken_out name s) entry want small (λ one is one_small within.
    always_has list (taken_out name s) entry one (λ m ok l. elim before [
      | inl has ↦ step_stays (granted_single list) s name entry one ids below stays one_small
          (λ k fine at _. has_always list s entry one short f (has_one list s entry want one within has) k fine at)
          m ok l is
      | inr has ↦ step_leaves (granted_single list) s name entry one ids n there below shared stays one_small
          (λ k fine at _. has_always list s name one short f (has_one list s name want one within has) k fine at)
          m ok l is
    ])))
  where
    ids : HasIds s
    ids = record { users = f.users; groups = f.groups }

-- where a pruning ends, no name can be taken out without loss of a single permission
pub pruned_singles : (list : List Ace) (s t : EntryShape) → length list ≤ most_listed → IsSmall t → PrunesTo list s t
    → IsPruned (granted_single list) t
pruned_singles list s t short f p name n there below =
    p.last name n there (singles_suffice list t name short f n there below)
