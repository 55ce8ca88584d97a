-- Each matching is that of a situation, for a given set of ids: a user, an owner and groups with these ids or with ids
-- that are not in the set.
use Rattle.std.proofs.Common.{◌≡◌, ◌≤◌, ◌<◌, ◌-◌, ℕ, Bool, true, false, List, [], ◌∷◌, Option, None, Some, refl, sym, ap, ◌∙◌, arith, inl, inr, length}
use Rattle.std.proofs.lemmas.Bool.{cases_Bool, eq-eqb, eqb-true, true≢false, and_right}
use Rattle.std.proofs.lemmas.List.Elements.{All-from_recursion}
use Rattle.std.specs.Prelude.{⊤, ◌==◌, ◌&&◌, ◌||◌, filter, if◌then◌else◌, map, option_map}
use Rattle.std.specs.List.{AllByRecursion, list_any}
use Rattle.acl_perm.proofs.Bools.{or_true_right}
use Rattle.acl_perm.specs.Bits.{has_bit}
use Rattle.acl_perm.specs.Kind.{is_allow}
use Rattle.acl_perm.specs.Principal.{Principal, owner, user, group, group_named, everyone}
use Rattle.acl_perm.specs.declared.kind.Kind.{Kind}
use Rattle.acl_posix.specs.Check.{Object, Requester, is_member}
use Rattle.acl_posix.specs.Id.{IsId, greatest_id}
use Rattle.acl_posix.specs.Tag as tag
use Rattle.acl_posix.specs.Tag.{Tag, qualifier}
use Rattle.acl_nfs4.specs.Ace.{Ace}
use Rattle.acl_nfs4.specs.Who.{principal_of}
use Rattle.acl_eval.specs.BridgeLaws.{IsAsked}
use Rattle.acl_eval.specs.Column.{Column, column, takes_part}
use Rattle.acl_to_posix.specs.ToPosix.{EntryShape}
use Rattle.acl_to_posix.specs.internal.ShapeBody.{TagColumn, column_decided_by, tag_meets}
use Rattle.acl_to_posix.proofs.no_greatest.FreeIds.{eqb-not_member, free_below}
use Rattle.acl_to_posix.proofs.Matchings.{IsMatching, IsRest, Looks, Matching, none_passes}
use Rattle.acl_to_posix.proofs.shapes.ShapeChecks.{some_member}
use Rattle.acl_to_posix.proofs.columns.TagMatchings.{digits_tag, granted_to, id_by_digits, put, tag_keys, tags_grant}

-- ---- matchings that agree

-- two matchings agree on users and groups with some ids, and on the others
pub record Agree (ns : List ℕ) (m n : Matching) : Type 0 where
  pub owner : m tag.user_obj ≡ n tag.user_obj
  pub users : (id : ℕ) → is_member id ns ≡ true → m (tag.user id) ≡ n (tag.user id)
  pub owning : m tag.group_obj ≡ n tag.group_obj
  pub groups : (id : ℕ) → is_member id ns ≡ true → m (tag.group id) ≡ n (tag.group id)
  pub everyone : m tag.other ≡ n tag.other

-- two matchings agree in either order
pub agree_back : (ns : List ℕ) (m n : Matching) → Agree ns m n → Agree ns n m
agree_back ns m n a = record {
  owner = sym a.owner;
  users = λ id h. sym (a.users id h);
  owning = sym a.owning;
  groups = λ id h. sym (a.groups id h);
  everyone = sym a.everyone;
}

-- the users and the groups of a shape are among some ids
pub record IsWithinIds (ns : List ℕ) (s : EntryShape) : Type 0 where
  pub users : (id : ℕ) → is_member id s.users ≡ true → is_member id ns ≡ true
  pub groups : (id : ℕ) → is_member id s.groups ≡ true → is_member id ns ≡ true

-- who is neither the owner nor a user of the shape in the one is neither in the other
agree_rest : (ns : List ℕ) (m n : Matching) (s : EntryShape) → Agree ns m n → IsWithinIds ns s → IsRest s.users m
    → IsRest s.users n
agree_rest ns m n s a w r = record {
  owner = sym a.owner ∙ r.owner;
  others = λ id h. sym (a.users id (w.users id h)) ∙ r.others id h;
}

-- so the check looks at the same entries
pub agree_looks : (ns : List ℕ) (m n : Matching) (s : EntryShape) (e : Tag) → Agree ns m n → IsWithinIds ns s
    → Looks s m e → Looks s n e
agree_looks ns m n s tag.user_obj a w l = sym a.owner ∙ l
agree_looks ns m n s (tag.user id) a w l = (sym a.owner ∙ l.0, l.1, sym (a.users id (w.users id l.1)) ∙ l.2)
agree_looks ns m n s tag.group_obj a w l = (agree_rest ns m n s a w l.0, sym a.owning ∙ l.1)
agree_looks ns m n s (tag.group id) a w l =
    (agree_rest ns m n s a w l.0, l.1, sym (a.groups id (w.groups id l.1)) ∙ l.2)
agree_looks ns m n s tag.mask a w l = absurd l
agree_looks ns m n s tag.other a w l =
    (agree_rest ns m n s a w l.0, sym a.owning ∙ l.1, λ id h. sym (a.groups id (w.groups id h)) ∙ l.2 id h)

-- ---- the ids of a list

-- the number of a tag, before others
abbrev number_first : Option Tag → List ℕ → List ℕ
number_first None ns = ns
number_first (Some t) ns = qualifier t ∷ ns

-- the numbers of the tags of a list
abbrev pub list_ids : List Ace → List ℕ
list_ids [] = []
list_ids (a ∷ list) = number_first (digits_tag (principal_of a)) (list_ids list)

-- not more than there are ACEs
pub list_ids_few : (list : List Ace) → length (list_ids list) ≤ length list
list_ids_few [] = omega arith
list_ids_few (a ∷ list) = by (list_ids_few list) (digits_tag (principal_of a))
  where
    by : length (list_ids list) ≤ length list → (o : Option Tag)
        → length (number_first o (list_ids list)) ≤ length (a ∷ list)
    by less None = omega (arith, less)
    by less (Some t) = omega (arith, less)

-- the number of a tag is among them
abbrev IsNumbered : List ℕ → Option Tag → Type 0
IsNumbered ns None = ⊤
IsNumbered ns (Some t) = is_member (qualifier t) ns ≡ true

-- if the numbers that begin with that of a tag are among some, so is that of the tag
is_first : (o : Option Tag) (rest ns : List ℕ)
    → ((id : ℕ) → is_member id (number_first o rest) ≡ true → is_member id ns ≡ true) → IsNumbered ns o
is_first None rest ns h = tt
is_first (Some t) rest ns h = h (qualifier t) (ap (λ (b : Bool). b || is_member (qualifier t) rest) (eq-eqb _ _ refl))

-- so are the numbers that follow it
is_later : (o : Option Tag) (rest ns : List ℕ)
    → ((id : ℕ) → is_member id (number_first o rest) ≡ true → is_member id ns ≡ true)
    → (id : ℕ) → is_member id rest ≡ true → is_member id ns ≡ true
is_later None rest ns h id has = h id has
is_later (Some t) rest ns h id has =
    h id (ap (λ (b : Bool). (qualifier t == id) || b) has ∙ or_true_right (qualifier t == id))

-- the two matchings agree on a tag
abbrev pub AgreeAt : Matching → Matching → Option Tag → Type 0
AgreeAt m n None = ⊤
AgreeAt m n (Some t) = m t ≡ n t

-- they agree on the tag of a user, if its number is among those on which they agree
agree_user : (ns : List ℕ) (m n : Matching) (o : Option ℕ) → Agree ns m n
    → IsNumbered ns (option_map (λ id. tag.user id) o) → AgreeAt m n (option_map (λ id. tag.user id) o)
agree_user ns m n None a h = tt
agree_user ns m n (Some id) a h = a.users id h

-- they agree on the tag of a group, if its number is among them
agree_group : (ns : List ℕ) (m n : Matching) (o : Option ℕ) → Agree ns m n
    → IsNumbered ns (option_map (λ id. tag.group id) o) → AgreeAt m n (option_map (λ id. tag.group id) o)
agree_group ns m n None a h = tt
agree_group ns m n (Some id) a h = a.groups id h

-- they agree on the tag of each principal, if its number is among them
agree_at : (ns : List ℕ) (m n : Matching) (p : Principal) → Agree ns m n → IsNumbered ns (digits_tag p)
    → AgreeAt m n (digits_tag p)
agree_at ns m n owner a h = a.owner
agree_at ns m n (user name) a h = agree_user ns m n (id_by_digits name) a h
agree_at ns m n group a h = a.owning
agree_at ns m n (group_named name) a h = agree_group ns m n (id_by_digits name) a h
agree_at ns m n everyone a h = a.everyone

-- columns that decide alike do so with one more key in front, if the matchings agree on its tag
pub put_agrees : (m n : Matching) (o : Option Tag) (kind : Kind) (keys : TagColumn) → AgreeAt m n o
    → column_decided_by m keys false ≡ column_decided_by n keys false
    → column_decided_by m (put o kind keys) false ≡ column_decided_by n (put o kind keys) false
put_agrees m n None kind keys h rest = rest
put_agrees m n (Some t) kind keys h rest =
    ap (λ (b : Bool). if b then is_allow kind else column_decided_by m keys false) h
    ∙ ap (λ (x : Bool). if n t then is_allow kind else x) rest

-- the ACEs of a list that have a bit and take part
abbrev pub with_bit : List Ace → ℕ → List Ace
with_bit list bit = filter (λ a. has_bit a.mask bit && takes_part a) list

-- the column of some ACEs
abbrev pub column_of : List Ace → Column
column_of list = map (λ a. (principal_of a, a.kind)) list

-- a list grants the same bits under matchings that agree on its ids
agree_bit : (ns : List ℕ) (m n : Matching) (list : List Ace) (bit : ℕ) → Agree ns m n
    → ((id : ℕ) → is_member id (list_ids list) ≡ true → is_member id ns ≡ true)
    → tags_grant list m bit ≡ tags_grant list n bit
agree_bit ns m n [] bit a w = refl
agree_bit ns m n (x ∷ list) bit a w =
    by (agree_bit ns m n list bit a (is_later (digits_tag (principal_of x)) (list_ids list) ns w))
    (has_bit x.mask bit && takes_part x)
  where
    by : tags_grant list m bit ≡ tags_grant list n bit → (b : Bool)
        → column_decided_by m (tag_keys (column_of (if b then x ∷ with_bit list bit else with_bit list bit))) false
        ≡ column_decided_by n (tag_keys (column_of (if b then x ∷ with_bit list bit else with_bit list bit))) false
    by rest true = put_agrees m n (digits_tag (principal_of x)) x.kind (tag_keys (column list bit))
        (agree_at ns m n (principal_of x) a (is_first (digits_tag (principal_of x)) (list_ids list) ns w)) rest
    by rest false = rest

-- a list grants the same permissions under matchings that agree on its ids
pub agree_granted : (ns : List ℕ) (m n : Matching) (list : List Ace) (want : ℕ) → Agree ns m n
    → ((id : ℕ) → is_member id (list_ids list) ≡ true → is_member id ns ≡ true)
    → granted_to list want m → granted_to list want n
agree_granted ns m n list want a w granted bit has = sym (agree_bit ns m n list bit a w) ∙ granted bit has

-- ---- a situation for a matching

-- an object and a requester whose matching agrees with this one
pub record IsReal (ns : List ℕ) (m : Matching) : Type 0 where
  pub object : Object
  pub requester : Requester
  pub asked : IsAsked object requester
  pub agree : Agree ns (tag_meets object requester) m

-- the members of a list that pass a test
pub filter_member : (p : ℕ → Bool) (xs : List ℕ) (n : ℕ) → is_member n (filter p xs) ≡ (is_member n xs && p n)
filter_member p [] n = refl
filter_member p (x ∷ xs) n = by (filter_member p xs n) (p x) (x == n) refl refl
  where
    by : is_member n (filter p xs) ≡ (is_member n xs && p n) → (b c : Bool) → p x ≡ b → (x == n) ≡ c
        → is_member n (if b then x ∷ filter p xs else filter p xs) ≡ (((x == n) || is_member n xs) && p n)
    by rest true true e same = rw same (sym e ∙ ap p (eqb-true x n same))
    by rest true false e same = rw same rest
    by rest false true e same =
        rw same (rest ∙ and_right (is_member n xs) (p n) (ap p (sym (eqb-true x n same)) ∙ e)
        ∙ sym (ap p (sym (eqb-true x n same)) ∙ e))
    by rest false false e same = rw same rest

-- the groups that match, after the owning group if it matches
abbrev groups_with : Bool → ℕ → List ℕ → List ℕ
groups_with true own groups = own ∷ groups
groups_with false own groups = groups

-- they are ids
filter_ids : (m : Matching) (xs : List ℕ) → IsMatching m → AllByRecursion IsId (filter (λ g. m (tag.group g)) xs)
filter_ids m [] ok = tt
filter_ids m (x ∷ xs) ok = by (filter_ids m xs ok) (m (tag.group x)) refl
  where
    by : AllByRecursion IsId (filter (λ g. m (tag.group g)) xs) → (b : Bool) → m (tag.group x) ≡ b
        → AllByRecursion IsId
        (if b then x ∷ filter (λ g. m (tag.group g)) xs else filter (λ g. m (tag.group g)) xs)
    by rest true e = (ok.ids (tag.group x) e, rest)
    by rest false e = rest

-- groups that are ids still are with the owning group, if it is an id
with_ids_too : (b : Bool) (own : ℕ) (groups : List ℕ) → IsId own → AllByRecursion IsId groups
    → AllByRecursion IsId (groups_with b own groups)
with_ids_too true own groups is rest = (is, rest)
with_ids_too false own groups is rest = rest

-- the owning group is among them if it matches
own_with : (b : Bool) (own : ℕ) (groups : List ℕ) → is_member own groups ≡ false
    → is_member own (groups_with b own groups) ≡ b
own_with true own groups lacks = ap (λ (c : Bool). c || is_member own groups) (eq-eqb own own refl)
own_with false own groups lacks = lacks

-- any other group is among them if it was
other_with : (b : Bool) (own id : ℕ) (groups : List ℕ) → (own == id) ≡ false
    → is_member id (groups_with b own groups) ≡ is_member id groups
other_with true own id groups differ = ap (λ (c : Bool). c || is_member id groups) differ
other_with false own id groups differ = refl

-- for a given user
with_asker : (ns : List ℕ) (m : Matching) (asker : ℕ) → IsMatching m → length ns < greatest_id - 1 → IsId asker
    → ((id : ℕ) → is_member id ns ≡ true → (asker == id) ≡ m (tag.user id)) → IsReal ns m
with_asker ns m asker ok few is same =
    let (own, below, no_own) = free_below greatest_id ns (omega (arith, few)) in
    let (next_one, under, no_next) = free_below greatest_id (asker ∷ ns) (omega (arith, few)) in
    let gs = filter (λ g. m (tag.group g)) ns in
    record {
      object = record { user = if m tag.user_obj then asker else next_one; group = own };
      requester = record { user = asker; groups = groups_with (m tag.group_obj) own gs };
      asked = record {
        owner = owner_id (m tag.user_obj) next_one (omega (arith, under));
        owning_group = omega (arith, below);
        asker = is;
        groups = All-from_recursion IsId _
            (with_ids_too (m tag.group_obj) own gs (omega (arith, below)) (filter_ids m ns ok));
      };
      agree = record {
        owner = owns (m tag.user_obj) next_one (no_next_one next_one no_next);
        users = same;
        owning = own_with (m tag.group_obj) own gs
            (filter_member (λ g. m (tag.group g)) ns own ∙ ap (λ (b : Bool). b && m (tag.group own)) no_own);
        groups = λ id has. other_with (m tag.group_obj) own id gs (eqb-not_member own id ns no_own has)
            ∙ filter_member (λ g. m (tag.group g)) ns id ∙ ap (λ (b : Bool). b && m (tag.group id)) has;
        everyone = sym ok.everyone;
      };
    }
  where
    owner_id : (b : Bool) (n : ℕ) → IsId n → IsId (if b then asker else n)
    owner_id true n h = is
    owner_id false n h = h

    no_next_one : (n : ℕ) → is_member n (asker ∷ ns) ≡ false → (asker == n) ≡ false
    no_next_one n lacks = elim (cases_Bool (asker == n)) [
      | inl same_one ↦ absurd (true≢false (sym (ap (λ (b : Bool). b || is_member n ns) same_one) ∙ lacks))
      | inr differs ↦ differs
    ]

    owns : (b : Bool) (n : ℕ) → (asker == n) ≡ false → (asker == (if b then asker else n)) ≡ b
    owns true n h = eq-eqb asker asker refl
    owns false n h = h

-- each matching is real
pub real : (ns : List ℕ) (m : Matching) → IsMatching m → length ns < greatest_id - 1 → IsReal ns m
real ns m ok few = elim (cases_Bool (list_any (λ id. m (tag.user id)) ns)) [
  | inl some ↦
      let (n, has, is) = some_member (λ id. m (tag.user id)) ns some in
      with_asker ns m n ok few (ok.ids (tag.user n) is) (λ id there. known n is id (n == id) refl)
  | inr nobody_there ↦
      let (free, below, lacks) = free_below greatest_id ns (omega (arith, few)) in
      with_asker ns m free ok few (omega (arith, below)) (λ id there.
      eqb-not_member free id ns lacks there ∙ sym (none_passes (λ k. m (tag.user k)) ns nobody_there id there))
]
  where
    known : (n : ℕ) → m (tag.user n) ≡ true → (id : ℕ) (b : Bool) → (n == id) ≡ b → (n == id) ≡ m (tag.user id)
    known n is id true e = e ∙ sym (ap (λ (k : ℕ). m (tag.user k)) (sym (eqb-true n id e)) ∙ is)
    known n is id false e = e ∙ sym (elim (cases_Bool (m (tag.user id))) [
      | inl also_is ↦ absurd (true≢false (sym (eq-eqb n id (ok.one n id is also_is)) ∙ e))
      | inr differs ↦ differs
    ])
