-- From matchings back to situations: what the entries of a shape have, what is lost, and what its ACL grants.
use Rattle.std.proofs.Common.{◌≡◌, ◌≤◌, ◌<◌, ◌+◌, ◌-◌, ℕ, Bool, true, false, List, [], ◌∷◌, ◌++◌, refl, sym, subst, ◌∙◌, arith, length}
use Rattle.std.proofs.lemmas.Bool.{eqb-true, false≢true}
use Rattle.std.proofs.lemmas.List.{length-append}
use Rattle.std.proofs.lemmas.List.Elements.{recursion_from_All}
use Rattle.std.specs.Prelude.{◌==◌, ◌||◌}
use Rattle.std.specs.List.{AllByRecursion}
use Rattle.acl_posix.specs.Check.{Object, Requester, is_member}
use Rattle.acl_posix.specs.Id.{IsId, greatest_id}
use Rattle.acl_posix.specs.Tag.{Tag, user_obj, user, group_obj, group, mask, other, IsTag}
use Rattle.acl_nfs4.specs.Ace.{Ace}
use Rattle.acl_nfs4.specs.Limits.{most_aces}
use Rattle.acl_eval.specs.Bridge.{image}
use Rattle.acl_eval.specs.BridgeLaws.{IsAsked, by_name}
use Rattle.acl_eval.specs.Grant.{Grant}
use Rattle.acl_to_posix.specs.Pruning.{LosesNothing, Prunes, ShapeGrants, none, next, taken_out}
use Rattle.acl_to_posix.specs.PruningLaws.{HasFewIds}
use Rattle.acl_to_posix.specs.ToPosix.{AlwaysHas, EntryShape, size_of}
use Rattle.acl_to_posix.specs.internal.ShapeBody.{tag_meets}
use Rattle.acl_to_posix.proofs.prunings.Losses.{out_part, out_size}
use Rattle.acl_to_posix.proofs.Matchings.{IsMatching, Matching}
use Rattle.acl_to_posix.proofs.prunings.PruningKept.{looks_from, looks_of}
use Rattle.acl_to_posix.proofs.prunings.PruningSteps.{Below, Gives, HasAlways, Steps, no_step, one_more}
use Rattle.acl_to_posix.proofs.RealMatchings.{Agree, IsReal, IsWithinIds, agree_back, agree_granted, agree_looks, list_ids, list_ids_few, real}
use Rattle.acl_to_posix.proofs.columns.TagMatchings.{bit_by_tags, granted_to}
use Rattle.acl_to_posix.proofs.no_greatest.FreeIds.{is_member-append_left, is_member-append_right}

-- ---- ids

-- the most ACEs of the lists here: as many as a list can have, and four more
abbrev pub most_listed : ℕ
most_listed = most_aces + 4

-- a list of at most most_aces ACEs is short enough here
pub listed : (list : List Ace) → length list ≤ most_aces → length list ≤ most_listed
listed list short = omega (arith, short)

-- the users and the groups of a shape are ids, and fewer than there are ids by far
pub record IsSmall (shape : EntryShape) : Type 0 where
  pub users : (id : ℕ) → is_member id shape.users ≡ true → IsId id
  pub groups : (id : ℕ) → is_member id shape.groups ≡ true → IsId id
  pub few : size_of shape ≤ 1000000000

-- a shape with few ids is small
pub is_small : (shape : EntryShape) → HasFewIds shape → IsSmall shape
is_small shape f = record { users = f.users; groups = f.groups; few = omega (arith, f.few) }

-- a small shape without a name is small
out_small : (name : Tag) (shape : EntryShape) → IsSmall shape → IsSmall (taken_out name shape)
out_small name shape f =
    let p = out_part name shape in
    let less = out_size name shape in
    record {
      users = λ id h. f.users id (p.users id h);
      groups = λ id h. f.groups id (p.groups id h);
      few = omega (arith, f.few, less);
    }

-- the ids of a list and of two shapes
abbrev pub all_ids : List Ace → EntryShape → EntryShape → List ℕ
all_ids list s t = list_ids list ++ (s.users ++ (s.groups ++ (t.users ++ t.groups)))

-- the ids of the list are among all ids
pub ids_of_list : (list : List Ace) (s t : EntryShape) (id : ℕ) → is_member id (list_ids list) ≡ true
    → is_member id (all_ids list s t) ≡ true
ids_of_list list s t id h = is_member-append_left id (list_ids list) (s.users ++ (s.groups ++ (t.users ++ t.groups))) h

-- the users and groups of the first shape are among all ids
pub ids_of_first : (list : List Ace) (s t : EntryShape) → IsWithinIds (all_ids list s t) s
ids_of_first list s t = record {
  users = λ id h. is_member-append_right id (list_ids list) (s.users ++ (s.groups ++ (t.users ++ t.groups)))
      (is_member-append_left id s.users (s.groups ++ (t.users ++ t.groups)) h);
  groups = λ id h. is_member-append_right id (list_ids list) (s.users ++ (s.groups ++ (t.users ++ t.groups)))
      (is_member-append_right id s.users (s.groups ++ (t.users ++ t.groups))
      (is_member-append_left id s.groups (t.users ++ t.groups) h));
}

-- the users and groups of the second shape are among all ids
pub ids_of_second : (list : List Ace) (s t : EntryShape) → IsWithinIds (all_ids list s t) t
ids_of_second list s t = record {
  users = λ id h. rest id (is_member-append_left id t.users t.groups h);
  groups = λ id h. rest id (is_member-append_right id t.users t.groups h);
}
  where
    rest : (id : ℕ) → is_member id (t.users ++ t.groups) ≡ true → is_member id (all_ids list s t) ≡ true
    rest id h = is_member-append_right id (list_ids list) (s.users ++ (s.groups ++ (t.users ++ t.groups)))
        (is_member-append_right id s.users (s.groups ++ (t.users ++ t.groups))
        (is_member-append_right id s.groups (t.users ++ t.groups) h))

-- all ids together are fewer than there are ids
ids_few : (list : List Ace) (s t : EntryShape) → length list ≤ most_listed → IsSmall s → IsSmall t
    → length (all_ids list s t) < greatest_id - 1
ids_few list s t short f g =
    let a = length-append (list_ids list) (s.users ++ (s.groups ++ (t.users ++ t.groups))) in
    let b = length-append s.users (s.groups ++ (t.users ++ t.groups)) in
    let c = length-append s.groups (t.users ++ t.groups) in
    let d = length-append t.users t.groups in
    let e = list_ids_few list in
    omega (arith, a, b, c, d, e, short, f.few, g.few)

-- a matching and a situation for a list and two shapes
pub real_for : (list : List Ace) (s t : EntryShape) (m : Matching) → length list ≤ most_listed → IsSmall s → IsSmall t
    → IsMatching m → IsReal (all_ids list s t) m
real_for list s t m short f g ok = real (all_ids list s t) m ok (ids_few list s t short f g)

-- ---- situations are matchings

-- the groups of a requester are ids
group_is_id : (groups : List ℕ) (id : ℕ) → AllByRecursion IsId groups → is_member id groups ≡ true → IsId id
group_is_id [] id all h = absurd (false≢true h)
group_is_id (g ∷ groups) id all h = by (group_is_id groups id all.1) (g == id) refl h
  where
    by : (is_member id groups ≡ true → IsId id) → (b : Bool) → (g == id) ≡ b → (b || is_member id groups) ≡ true
        → IsId id
    by rest true e h = subst IsId (eqb-true g id e) all.0
    by rest false e h = rest h

-- the tags that match in a situation are a matching
pub asked_matching : (object : Object) (requester : Requester) → IsAsked object requester
    → IsMatching (tag_meets object requester)
asked_matching object requester asked = record {
  everyone = refl;
  one = λ u v h g. sym (eqb-true requester.user u h) ∙ eqb-true requester.user v g;
  ids = by;
}
  where
    by : (t : Tag) → tag_meets object requester t ≡ true → IsTag t
    by user_obj h = tt
    by (user id) h = subst IsId (eqb-true requester.user id h) asked.asker
    by group_obj h = tt
    by (group id) h = group_is_id requester.groups id (recursion_from_All IsId requester.groups asked.groups) h
    by mask h = tt
    by other h = tt

-- what a list grants in a situation
pub granted_is : (list : List Ace) (object : Object) (requester : Requester) (want : ℕ) → IsAsked object requester
    → Grant list (by_name object requester) (image want) → granted_to list want (tag_meets object requester)
granted_is list object requester want asked g bit has =
    sym (bit_by_tags list object requester bit asked) ∙ g bit has

-- what a list grants under the matching of a situation, it grants in the situation
pub is_granted : (list : List Ace) (object : Object) (requester : Requester) (want : ℕ) → IsAsked object requester
    → granted_to list want (tag_meets object requester) → Grant list (by_name object requester) (image want)
is_granted list object requester want asked g bit has = bit_by_tags list object requester bit asked ∙ g bit has

-- ---- what an entry has

-- what an entry has in all situations, it has under all matchings
pub has_always : (list : List Ace) (s : EntryShape) (e : Tag) (want : ℕ) → length list ≤ most_listed → IsSmall s
    → AlwaysHas list s e want → HasAlways (granted_to list) s e want
has_always list s e want short f has m ok l =
    let r = real_for list s s m short f f ok in
    let back = agree_back (all_ids list s s) (tag_meets r.object r.requester) m r.agree in
    agree_granted (all_ids list s s) (tag_meets r.object r.requester) m list want r.agree (ids_of_list list s s)
    (granted_is list r.object r.requester want r.asked (has r.object r.requester r.asked
    (looks_from s r.object r.requester e
    (agree_looks (all_ids list s s) m (tag_meets r.object r.requester) s e back (ids_of_first list s s) l))))

-- what an entry has under all matchings, it has in all situations
pub always_has : (list : List Ace) (s : EntryShape) (e : Tag) (want : ℕ) → HasAlways (granted_to list) s e want
    → AlwaysHas list s e want
always_has list s e want has object requester asked l =
    is_granted list object requester want asked
    (has (tag_meets object requester) (asked_matching object requester asked) (looks_of s object requester e l))

-- what a shape gives
pub gives_of : (list : List Ace) (s : EntryShape) (object : Object) (requester : Requester) (want : ℕ)
    → length list ≤ most_listed → IsSmall s → ShapeGrants list s object requester want
    → Gives (granted_to list) s (tag_meets object requester) want
gives_of list s object requester want short f g = record {
  entry = g.entry;
  looks = looks_of s object requester g.entry g.looks;
  has = has_always list s g.entry want short f g.has;
}

-- what a shape gives under the matching of a situation, it grants in the situation
pub gives_from : (list : List Ace) (s : EntryShape) (object : Object) (requester : Requester) (want : ℕ)
    → Gives (granted_to list) s (tag_meets object requester) want → ShapeGrants list s object requester want
gives_from list s object requester want g = record {
  entry = g.entry;
  looks = looks_from s object requester g.entry g.looks;
  has = always_has list s g.entry want g.has;
}

-- a shape gives the same under matchings that agree
pub agree_gives : (list : List Ace) (ns : List ℕ) (m n : Matching) (s : EntryShape) (want : ℕ) → Agree ns m n
    → IsWithinIds ns s → Gives (granted_to list) s m want → Gives (granted_to list) s n want
agree_gives list ns m n s want a w g =
    record { entry = g.entry; looks = agree_looks ns m n s g.entry a w g.looks; has = g.has }

-- ---- losses

-- what holds in all situations of two shapes holds for all matchings
pub below_at : (list : List Ace) (s t : EntryShape) (want : ℕ) → length list ≤ most_listed → IsSmall s → IsSmall t
    → ((object : Object) (requester : Requester) → IsAsked object requester
    → Gives (granted_to list) s (tag_meets object requester) want
    → Gives (granted_to list) t (tag_meets object requester) want)
    → (m : Matching) → IsMatching m → Gives (granted_to list) s m want → Gives (granted_to list) t m want
below_at list s t want short f g all m ok given =
    let r = real_for list s t m short f g ok in
    let back = agree_back (all_ids list s t) (tag_meets r.object r.requester) m r.agree in
    agree_gives list (all_ids list s t) (tag_meets r.object r.requester) m t want r.agree (ids_of_second list s t)
    (all r.object r.requester r.asked
    (agree_gives list (all_ids list s t) m (tag_meets r.object r.requester) s want back (ids_of_first list s t) given))

-- if nothing is lost in any situation, nothing is lost under any matching
pub below_of : (list : List Ace) (s t : EntryShape) → length list ≤ most_listed → IsSmall s → IsSmall t
    → LosesNothing list s t → Below (granted_to list) s t
below_of list s t short f g loses m want ok small given = below_at list s t want short f g
    (λ object requester asked before. gives_of list t object requester want short g
    (loses object requester asked want small (gives_from list s object requester want before))) m ok given

-- if nothing is lost under any matching, nothing is lost in any situation
pub loses_of : (list : List Ace) (s t : EntryShape) → length list ≤ most_listed → IsSmall s
    → Below (granted_to list) s t → LosesNothing list s t
loses_of list s t short f below object requester asked want small given =
    gives_from list t object requester want (below (tag_meets object requester) want
    (asked_matching object requester asked) small (gives_of list s object requester want short f given))

-- ---- prunings

-- the steps of a pruning of a list are steps for what the list grants under matchings
pub steps_of : (list : List Ace) (s t : EntryShape) → Prunes list s t → length list ≤ most_listed → IsSmall s
    → Steps (granted_to list) s t
steps_of list a b (none s) short f = no_step s
steps_of list a b (next s t name n there loses rest) short f = one_more s t name n there
    (below_of list s (taken_out name s) short f (out_small name s f) loses)
    (steps_of list (taken_out name s) t rest short (out_small name s f))

-- the shape at the end of a pruning is small, too
pub small_at_end : (list : List Ace) (s t : EntryShape) → Prunes list s t → IsSmall s → IsSmall t
small_at_end list a b (none s) f = f
small_at_end list a b (next s t name n there loses rest) f =
    small_at_end list (taken_out name s) t rest (out_small name s f)
