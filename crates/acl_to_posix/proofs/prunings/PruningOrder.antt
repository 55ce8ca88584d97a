-- The order in which names are taken out plays no part: all prunings from one shape end in one shape.
use Rattle.std.proofs.Common.{◌≡◌, ℕ, Bool, true, false, List, [], ◌∷◌, refl, sym, ap, subst, ◌∙◌, inl, inr}
use Rattle.std.proofs.lemmas.Bool.{cases_Bool, eqb-true, false≢true, true≢false}
use Rattle.std.specs.Prelude.{◌⊎◌, ◌==◌, if◌then◌else◌, not}
use Rattle.std.specs.Ordering.{eq_by_cmp}
use Rattle.acl_perm.specs.Bits.{IsPerm}
use Rattle.acl_posix.specs.Check.{is_member}
use Rattle.acl_posix.specs.Id.{IsId}
use Rattle.acl_posix.specs.Tag.{Tag, user_obj, user, group_obj, group, mask, other, IsTag, is_named, qualifier, tag_cmp}
use Rattle.acl_posix.proofs.Exports.{same_tag}
use Rattle.acl_eval.specs.Bridge.{is_group_tag}
use Rattle.acl_to_posix.specs.Pruning.{is_shared, shape_without, taken_out}
use Rattle.acl_to_posix.specs.ToPosix.{EntryShape, is_in_shape}
use Rattle.acl_to_posix.proofs.Passes.{eq_by_cmp-refl, eq_by_cmp-comm}
use Rattle.acl_to_posix.proofs.SituationIds.{HasIds}
use Rattle.acl_to_posix.proofs.prunings.Losses.{but_keeps, out_part, part_has, part_ids}
use Rattle.acl_to_posix.proofs.Matchings.{IsMatching, IsRest, Looks, Matching, alone, alone_matching, gone, looks_part, looks_rest, looks_there, no_groups, no_groups_matching, out_differs, rest_looks, with_group, with_group_matching}
use Rattle.acl_to_posix.proofs.prunings.PruningEnds.{OneGroupDenies, looks_outside}
use Rattle.acl_to_posix.proofs.prunings.PruningSteps.{Below, Granting, HasAlways, IsPruned, Steps, has_part, no_step, one_more, step_leaves, step_stays}

-- ---- two names

-- two numbers are taken out of a list in either order
without_commutes : (a b : ℕ) (xs : List ℕ) → shape_without a (shape_without b xs) ≡ shape_without b (shape_without a xs)
without_commutes a b [] = refl
without_commutes a b (x ∷ xs) = by (without_commutes a b xs) (x == a) (x == b) refl refl
  where
    by : shape_without a (shape_without b xs) ≡ shape_without b (shape_without a xs) → (c d : Bool) → (x == a) ≡ c
        → (x == b) ≡ d
        → shape_without a (if not d then x ∷ shape_without b xs else shape_without b xs)
        ≡ shape_without b (if not c then x ∷ shape_without a xs else shape_without a xs)
    by rest true true e f = rest
    by rest true false e f = rw e rest
    by rest false true e f = rw f rest
    by rest false false e f = rw (e, f) (ap (λ (ys : List ℕ). x ∷ ys) rest)

-- so are two names
out_commutes : (x y : Tag) (s : EntryShape) → taken_out x (taken_out y s) ≡ taken_out y (taken_out x s)
out_commutes (user u) (user v) s =
    ap (λ (us : List ℕ). let r : EntryShape = record { users = us; groups = s.groups } in r)
    (without_commutes u v s.users)
out_commutes (group g) (group h) s =
    ap (λ (gs : List ℕ). let r : EntryShape = record { users = s.users; groups = gs } in r)
    (without_commutes g h s.groups)
out_commutes user_obj y s = refl
out_commutes group_obj y s = refl
out_commutes mask y s = refl
out_commutes other y s = refl
out_commutes (user u) user_obj s = refl
out_commutes (user u) group_obj s = refl
out_commutes (user u) (group h) s = refl
out_commutes (user u) mask s = refl
out_commutes (user u) other s = refl
out_commutes (group g) user_obj s = refl
out_commutes (group g) (user v) s = refl
out_commutes (group g) group_obj s = refl
out_commutes (group g) mask s = refl
out_commutes (group g) other s = refl

-- a name is still there after another is taken out
still_there : (x y : Tag) (s : EntryShape) → eq_by_cmp tag_cmp x y ≡ false → is_in_shape s x ≡ true
    → is_in_shape (taken_out y s) x ≡ true
still_there x y s differ there = elim (cases_Bool (is_in_shape (taken_out y s) x)) [
  | inl stays ↦ stays
  | inr went ↦ absurd (true≢false (sym (eq_by_cmp-refl y)
      ∙ (ap (λ (t : Tag). eq_by_cmp tag_cmp t y) (sym (gone x y s there went)) ∙ differ)))
]

-- ---- nothing is lost, by the entries

-- nothing is lost without a name if the shared entries that stay have what they and the name had
pub below_by_entries : (f : Granting) (s : EntryShape) (x : Tag) → is_named x ≡ true → is_in_shape s x ≡ true
    → ((e : Tag) (want : ℕ) → is_shared e ≡ true → is_in_shape (taken_out x s) e ≡ true → IsPerm want
    → HasAlways f s e want ⊎ HasAlways f s x want → HasAlways f (taken_out x s) e want)
    → Below f s (taken_out x s)
below_by_entries f s x n there keeps m want ok small g = elim (cases_Bool (is_in_shape (taken_out x s) g.entry)) [
  | inl stays ↦ record {
    entry = g.entry;
    looks = looks_part s (taken_out x s) m g.entry (out_part x s) stays g.looks;
    has = by g.entry stays g.has;
  }
  | inr went ↦
      let two = looks_outside (taken_out x s) s m g.entry ok (out_part x s) g.looks went in
      let some = rest_looks (taken_out x s) m two.1 in
      record {
        entry = some.entry;
        looks = some.looks;
        has = keeps some.entry want some.shared (looks_there (taken_out x s) m some.entry some.looks) small
            (inr (subst (λ (t : Tag). HasAlways f s t want)
            (gone g.entry x s (looks_there s m g.entry g.looks) went) g.has));
      }
]
  where
    by : (e : Tag) → is_in_shape (taken_out x s) e ≡ true → HasAlways f s e want → HasAlways f (taken_out x s) e want
    by user_obj stays has = has
    by (user v) stays has = λ k fine l. has k fine (l.0, (out_part x s).users v l.1, l.2)
    by group_obj stays has = keeps group_obj want refl stays small (inl has)
    by (group h) stays has = keeps (group h) want refl stays small (inl has)
    by mask stays has = absurd (false≢true (part_has s (taken_out x s) mask (out_part x s) stays))
    by other stays has = keeps other want refl stays small (inl has)

-- ---- an entry without two names

-- the rest without a user who does not match are the rest
with_name : (x : Tag) (s : EntryShape) (m : Matching) → is_named x ≡ true → m x ≡ false → IsRest (taken_out x s).users m
    → IsRest s.users m
with_name user_obj s m n outside r = absurd (false≢true n)
with_name (user u) s m n outside r = record {
  owner = r.owner;
  others = λ id h. elim (cases_Bool (id == u)) [
    | inl same ↦ ap (λ (k : ℕ). m (user k)) (eqb-true id u same) ∙ outside
    | inr differ ↦ r.others id (but_keeps id u s.users h differ)
  ];
}
with_name group_obj s m n outside r = absurd (false≢true n)
with_name (group g) s m n outside r = r
with_name mask s m n outside r = absurd (false≢true n)
with_name other s m n outside r = absurd (false≢true n)

-- no group of a shape matches, if none does without a group that does not match
groups_too : (x : Tag) (s : EntryShape) (m : Matching) → is_named x ≡ true → m x ≡ false
    → ((id : ℕ) → is_member id (taken_out x s).groups ≡ true → m (group id) ≡ false)
    → (id : ℕ) → is_member id s.groups ≡ true → m (group id) ≡ false
groups_too user_obj s m n outside all id h = absurd (false≢true n)
groups_too (user u) s m n outside all id h = all id h
groups_too group_obj s m n outside all id h = absurd (false≢true n)
groups_too (group g) s m n outside all id h = elim (cases_Bool (id == g)) [
  | inl same ↦ ap (λ (k : ℕ). m (group k)) (eqb-true id g same) ∙ outside
  | inr differ ↦ all id (but_keeps id g s.groups h differ)
]
groups_too mask s m n outside all id h = absurd (false≢true n)
groups_too other s m n outside all id h = absurd (false≢true n)

-- an entry of a shape without two names is one of the shape without the first
wider : (x y : Tag) (s : EntryShape) (e : Tag) → is_in_shape (taken_out x (taken_out y s)) e ≡ true
    → is_in_shape (taken_out x s) e ≡ true
wider x y s e stays = part_has (taken_out x s) (taken_out y (taken_out x s)) e (out_part y (taken_out x s))
    (subst (λ (r : EntryShape). is_in_shape r e ≡ true) (out_commutes x y s) stays)

-- if the check looks at an entry without a name that does not match, it looks at it with the name
pub looks_one : (x : Tag) (s : EntryShape) (m : Matching) (e : Tag) → is_named x ≡ true → is_shared e ≡ true
    → is_in_shape s e ≡ true → m x ≡ false → Looks (taken_out x s) m e → Looks s m e
looks_one x s m user_obj n h there outside l = absurd (false≢true h)
looks_one x s m (user v) n h there outside l = absurd (false≢true h)
looks_one x s m group_obj n h there outside l = (with_name x s m n outside l.0, l.1)
looks_one x s m (group k) n h there outside l = (with_name x s m n outside l.0, there, l.2)
looks_one x s m mask n h there outside l = absurd (false≢true h)
looks_one x s m other n h there outside l = (with_name x s m n outside l.0, l.1, groups_too x s m n outside l.2)

-- the strangers in a group alone, whom OTHER grants without the entry of the group
strangers_out : (f : Granting) (s : EntryShape) (g want : ℕ) → IsId g → HasAlways f (taken_out (group g) s) other want
    → f want (alone (group g))
strangers_out f s g want is has = has (alone (group g)) (alone_matching (group g) is) (
  record { owner = refl; others = λ id h. refl },
  refl,
  λ id h. out_differs (group g) (group id) s refl h,
)

-- the same for the group of an entry of the shape, by any name of the group and of OTHER
granted_alone : (f : Granting) (s : EntryShape) (g k want : ℕ) (e : Tag) → HasIds s → is_in_shape s (group g) ≡ true
    → (k == g) ≡ true → e ≡ other → HasAlways f (taken_out (group g) s) e want → f want (alone (group k))
granted_alone f s g k want e ids there same is without =
    subst (λ (n : ℕ). f want (alone (group n))) (sym (eqb-true k g same))
    (strangers_out f s g want (ids.groups g there)
    (subst (λ (t : Tag). HasAlways f (taken_out (group g) s) t want) is without))

-- what OTHER has in a shape, it grants to somebody with other groups of the shape, if strangers in each are granted it
other_kept : (f : Granting) (want : ℕ) (m : Matching) (b final : EntryShape) → OneGroupDenies f → IsMatching m
    → IsPerm want → Looks final m other → IsRest b.users m → HasAlways f b other want
    → ((k : ℕ) → m (group k) ≡ true → is_member k b.groups ≡ true → f want (alone (group k))) → f want m
other_kept f want m b final denies ok small l rest has strangers =
    elim (denies want m ok small (has (no_groups m) (no_groups_matching m ok)
    (record { owner = rest.owner; others = rest.others }, refl, λ id h. refl))) [
      | inl granted ↦ granted
      | inr one ↦ absurd (by one.one one.matches one.denied one.strangers (ok.ids one.one one.matches) one.is_group)
    ]
  where
    differs : (k h : ℕ) → is_member k b.groups ≡ false → is_member h b.groups ≡ true
        → eq_by_cmp tag_cmp (group h) (group k) ≡ false
    differs k h lacks there = elim (cases_Bool (eq_by_cmp tag_cmp (group h) (group k))) [
      | inl same ↦ absurd (true≢false (sym there
          ∙ (ap (λ (t : Tag). is_member (qualifier t) b.groups) (same_tag (group h) (group k) same) ∙ lacks)))
      | inr apart ↦ apart
    ]

    by : (d : Tag) → m d ≡ true → (f want (with_group d m) → ⊥) → (f want (alone d) → ⊥) → IsTag d
        → is_group_tag d ≡ true → ⊥
    by user_obj is denied lonely id kind = false≢true kind
    by (user v) is denied lonely id kind = false≢true kind
    by group_obj is denied lonely id kind = true≢false (sym is ∙ l.1)
    by (group k) is denied lonely id kind = elim (cases_Bool (is_member k b.groups)) [
      | inl has_k ↦ lonely (strangers k is has_k)
      | inr lacks ↦ denied (has (with_group (group k) m) (with_group_matching (group k) m id ok) (
        record { owner = rest.owner; others = rest.others },
        refl,
        λ h there. differs k h lacks there,
      ))
    ]
    by mask is denied lonely id kind = false≢true kind
    by other is denied lonely id kind = false≢true kind

-- the same for any shared entry
kept_at : (f : Granting) (want : ℕ) (m : Matching) (b final : EntryShape) (e : Tag) → OneGroupDenies f → IsMatching m
    → IsPerm want → is_shared e ≡ true → is_in_shape b e ≡ true → Looks final m e → IsRest b.users m
    → HasAlways f b e want
    → (e ≡ other → (k : ℕ) → m (group k) ≡ true → is_member k b.groups ≡ true → f want (alone (group k))) → f want m
kept_at f want m b final user_obj denies ok small shared there l rest has strangers = absurd (false≢true shared)
kept_at f want m b final (user v) denies ok small shared there l rest has strangers = absurd (false≢true shared)
kept_at f want m b final group_obj denies ok small shared there l rest has strangers = has m ok (rest, l.1)
kept_at f want m b final (group k) denies ok small shared there l rest has strangers = has m ok (rest, there, l.2)
kept_at f want m b final mask denies ok small shared there l rest has strangers = absurd (false≢true shared)
kept_at f want m b final other denies ok small shared there l rest has strangers =
    other_kept f want m b final denies ok small l rest has (strangers refl)

-- two names that both match
both_match : (f : Granting) (s : EntryShape) (x y e : Tag) (want : ℕ) (m : Matching) → OneGroupDenies f → HasIds s
    → IsMatching m → IsPerm want → eq_by_cmp tag_cmp x y ≡ false → is_named x ≡ true → is_named y ≡ true
    → is_in_shape s x ≡ true → is_in_shape s y ≡ true → is_shared e ≡ true
    → is_in_shape (taken_out x (taken_out y s)) e ≡ true → m x ≡ true → m y ≡ true
    → HasAlways f s e want → HasAlways f (taken_out x s) e want → HasAlways f (taken_out y s) e want
    → Looks (taken_out x (taken_out y s)) m e → f want m
both_match f s (user u) (user v) e want m denies ids ok small differ nx ny ix iy shared stays mx my has
    without_x without_y l =
    absurd (true≢false (sym (eq_by_cmp-refl (user u))
    ∙ (ap (λ (n : ℕ). eq_by_cmp tag_cmp (user u) (user n)) (ok.one u v mx my) ∙ differ)))
both_match f s (user u) (group g) e want m denies ids ok small differ nx ny ix iy shared stays mx my has
    without_x without_y l =
    kept_at f want m (taken_out (user u) s) (taken_out (user u) (taken_out (group g) s)) e denies ok small shared
    (wider (user u) (group g) s e stays) l (looks_rest (taken_out (user u) (taken_out (group g) s)) m e shared l)
    without_x (λ is k mk there. elim (cases_Bool (k == g)) [
      | inl same ↦ granted_alone f s g k want e ids iy same is without_y
      | inr apart ↦ absurd (true≢false (sym mk
          ∙ (subst (λ (t : Tag). Looks (taken_out (user u) (taken_out (group g) s)) m t) is l).2 k
          (but_keeps k g s.groups there apart)))
    ])
both_match f s (group g) (user u) e want m denies ids ok small differ nx ny ix iy shared stays mx my has
    without_x without_y l =
    kept_at f want m (taken_out (user u) s) (taken_out (group g) (taken_out (user u) s)) e denies ok small shared
    (part_has (taken_out (user u) s) (taken_out (group g) (taken_out (user u) s)) e
    (out_part (group g) (taken_out (user u) s)) stays) l
    (looks_rest (taken_out (group g) (taken_out (user u) s)) m e shared l)
    without_y (λ is k mk there. elim (cases_Bool (k == g)) [
      | inl same ↦ granted_alone f s g k want e ids ix same is without_x
      | inr apart ↦ absurd (true≢false (sym mk
          ∙ (subst (λ (t : Tag). Looks (taken_out (group g) (taken_out (user u) s)) m t) is l).2 k
          (but_keeps k g s.groups there apart)))
    ])
both_match f s (group g) (group h) e want m denies ids ok small differ nx ny ix iy shared stays mx my has
    without_x without_y l =
    kept_at f want m s (taken_out (group g) (taken_out (group h) s)) e denies ok small shared
    (part_has s (taken_out (group h) s) e (out_part (group h) s)
    (part_has (taken_out (group h) s) (taken_out (group g) (taken_out (group h) s)) e
    (out_part (group g) (taken_out (group h) s)) stays)) l
    (looks_rest (taken_out (group g) (taken_out (group h) s)) m e shared l)
    has (λ is k mk there. elim (cases_Bool (k == g)) [
      | inl same ↦ granted_alone f s g k want e ids ix same is without_x
      | inr apart ↦ elim (cases_Bool (k == h)) [
        | inl same ↦ granted_alone f s h k want e ids iy same is without_y
        | inr far ↦ absurd (true≢false (sym mk
            ∙ (subst (λ (t : Tag). Looks (taken_out (group g) (taken_out (group h) s)) m t) is l).2 k
            (but_keeps k g (shape_without h s.groups) (but_keeps k h s.groups there far) apart)))
      ]
    ])
both_match f s user_obj y e want m _ _ _ _ _ nx _ _ _ _ _ _ _ _ _ _ _ = absurd (false≢true nx)
both_match f s group_obj y e want m _ _ _ _ _ nx _ _ _ _ _ _ _ _ _ _ _ = absurd (false≢true nx)
both_match f s mask y e want m _ _ _ _ _ nx _ _ _ _ _ _ _ _ _ _ _ = absurd (false≢true nx)
both_match f s other y e want m _ _ _ _ _ nx _ _ _ _ _ _ _ _ _ _ _ = absurd (false≢true nx)
both_match f s (user u) user_obj e want m _ _ _ _ _ _ ny _ _ _ _ _ _ _ _ _ _ = absurd (false≢true ny)
both_match f s (user u) group_obj e want m _ _ _ _ _ _ ny _ _ _ _ _ _ _ _ _ _ = absurd (false≢true ny)
both_match f s (user u) mask e want m _ _ _ _ _ _ ny _ _ _ _ _ _ _ _ _ _ = absurd (false≢true ny)
both_match f s (user u) other e want m _ _ _ _ _ _ ny _ _ _ _ _ _ _ _ _ _ = absurd (false≢true ny)
both_match f s (group g) user_obj e want m _ _ _ _ _ _ ny _ _ _ _ _ _ _ _ _ _ = absurd (false≢true ny)
both_match f s (group g) group_obj e want m _ _ _ _ _ _ ny _ _ _ _ _ _ _ _ _ _ = absurd (false≢true ny)
both_match f s (group g) mask e want m _ _ _ _ _ _ ny _ _ _ _ _ _ _ _ _ _ = absurd (false≢true ny)
both_match f s (group g) other e want m _ _ _ _ _ _ ny _ _ _ _ _ _ _ _ _ _ = absurd (false≢true ny)

-- a shared entry keeps what it has without each of two names
keeps_both : (f : Granting) (s : EntryShape) (x y e : Tag) (want : ℕ) → OneGroupDenies f → HasIds s → IsPerm want
    → eq_by_cmp tag_cmp x y ≡ false → is_named x ≡ true → is_named y ≡ true
    → is_in_shape s x ≡ true → is_in_shape s y ≡ true → is_shared e ≡ true
    → is_in_shape (taken_out x (taken_out y s)) e ≡ true
    → HasAlways f s e want → HasAlways f (taken_out x s) e want → HasAlways f (taken_out y s) e want
    → HasAlways f (taken_out x (taken_out y s)) e want
keeps_both f s x y e want denies ids small differ nx ny ix iy shared stays has without_x without_y m ok l =
    elim (cases_Bool (m x)) [
      | inr outside ↦ without_y m ok (looks_one x (taken_out y s) m e nx shared
          (part_has (taken_out y s) (taken_out x (taken_out y s)) e (out_part x (taken_out y s)) stays) outside l)
      | inl mx ↦ elim (cases_Bool (m y)) [
        | inr outside ↦ without_x m ok (looks_one y (taken_out x s) m e ny shared (wider x y s e stays) outside
            (subst (λ (r : EntryShape). Looks r m e) (out_commutes x y s) l))
        | inl my ↦ both_match f s x y e want m denies ids ok small differ nx ny ix iy shared stays mx my has without_x
            without_y l
      ]
    ]

-- if each of two names can be taken out, they can be taken out one after the other
diamond : (f : Granting) (s : EntryShape) (x y : Tag) → OneGroupDenies f → HasIds s → eq_by_cmp tag_cmp x y ≡ false
    → is_named x ≡ true → is_named y ≡ true → is_in_shape s x ≡ true → is_in_shape s y ≡ true
    → Below f s (taken_out x s) → Below f s (taken_out y s) → Below f (taken_out y s) (taken_out x (taken_out y s))
diamond f s x y denies ids differ nx ny ix iy out_x out_y =
    below_by_entries f (taken_out y s) x nx (still_there x y s differ ix) (λ e want shared stays small before.
    let stays_y = part_has (taken_out y s) (taken_out x (taken_out y s)) e (out_part x (taken_out y s)) stays in
    let stays_x = wider x y s e stays in
    elim before [
      | inl has ↦
          let first = has_part f s (taken_out y s) e want (out_part y s) stays_y has in
          keeps_both f s x y e want denies ids small differ nx ny ix iy shared stays first
          (step_stays f s x e want ids out_x stays_x small first) has
      | inr had ↦
          let first = has_part f s (taken_out y s) x want (out_part y s) (still_there x y s differ ix) had in
          let left = step_leaves f s x e want ids nx ix out_x shared stays_x small first in
          let whole = has_part f s (taken_out x s) e want (out_part x s) stays_x left in
          keeps_both f s x y e want denies ids small differ nx ny ix iy shared stays whole left
          (step_stays f s y e want ids out_y stays_y small whole)
    ])

-- ---- all steps

-- a name that can be taken out at the start can be taken out before the others
strip : (f : Granting) (s t : EntryShape) → Steps f s t → (x : Tag) → OneGroupDenies f → HasIds s → is_named x ≡ true
    → is_in_shape s x ≡ true → Below f s (taken_out x s) → IsPruned f t → Steps f (taken_out x s) t
strip f a b (no_step s) x denies ids n there below last = absurd (last x n there below)
strip f a b (one_more s t y ny iy out_y rest) x denies ids n there below last =
    elim (cases_Bool (eq_by_cmp tag_cmp x y)) [
      | inl same ↦ subst (λ (z : Tag). Steps f (taken_out z s) t) (sym (same_tag x y same)) rest
      | inr differ ↦ one_more (taken_out x s) t y ny (still_there y x s (eq_by_cmp-comm x y differ) iy)
          (diamond f s y x denies ids (eq_by_cmp-comm x y differ) ny n iy there out_y below)
          (subst (λ (r : EntryShape). Steps f r t) (out_commutes x y s)
          (strip f (taken_out y s) t rest x denies (part_ids s (taken_out y s) (out_part y s) ids) n
          (still_there x y s differ there) (diamond f s x y denies ids differ n ny there iy below out_y) last))
    ]

-- where no name can be taken out, no step is left
no_more : (f : Granting) (s t : EntryShape) → Steps f s t → IsPruned f s → s ≡ t
no_more f a b (no_step s) last = refl
no_more f a b (one_more s t y n there below rest) last = absurd (last y n there below)

-- all prunings from one shape end in one shape
pub one_end : (f : Granting) (s t : EntryShape) → Steps f s t → (u : EntryShape) → OneGroupDenies f → HasIds s
    → IsPruned f t → Steps f s u → IsPruned f u → t ≡ u
one_end f a b (no_step s) u denies ids last other_steps other_last = no_more f s u other_steps last
one_end f a b (one_more s t x n there below rest) u denies ids last other_steps other_last =
    one_end f (taken_out x s) t rest u denies (part_ids s (taken_out x s) (out_part x s) ids) last
    (strip f s u other_steps x denies ids n there below other_last) other_last
