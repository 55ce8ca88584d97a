-- The tags that a search of a loss tries are enough.
use Rattle.std.proofs.Common.{◌≡◌, ◌<◌, ◌+◌, ℕ, Bool, true, false, cond, List, [], ◌∷◌, ◌++◌, refl, sym, ap, subst, ◌∙◌, arith, inl, inr, drop, get_or, length}
use Rattle.std.proofs.lemmas.Bool.{eq-eqb, false≢true, le-ltb, lt-ltb, or_cases}
use Rattle.std.proofs.lemmas.List.{append_assoc, at_drop_more, map-append}
use Rattle.std.specs.Prelude.{◌&&◌, ◌||◌, ◌==◌, filter, if◌then◌else◌, map, nat_lt, not}
use Rattle.std.specs.List.{AllByRecursion, list_any}
use Rattle.std.specs.Ordering.{eq_by_cmp}
use Rattle.std.proofs.ByRecursion.{All-push}
use Rattle.acl_perm.proofs.Bools.{or_true_right}
use Rattle.acl_perm.specs.declared.kind.Kind.{Kind}
use Rattle.acl_posix.specs.Entries.{Entries}
use Rattle.acl_posix.specs.Tag.{Tag, tag_cmp, tag_of}
use Rattle.acl_posix.proofs.Exports.{same_tag}
use Rattle.acl_to_posix.specs.internal.LossBody.{AreKeptWith, AreKeptWithOne, IsLossCandidate, IsJudgedTag, IsKeptFor, IsKeptWith, IsPassed, allowed_tags, are_together, are_two_users, is_allowed_in, is_first, is_passed, is_second, certain_place, search_of}
use Rattle.acl_to_posix.specs.internal.PruningBody.{decided_place}
use Rattle.acl_to_posix.specs.internal.ShapeBody.{TagColumn, has_tag, is_certain, keys_of}
use Rattle.acl_to_posix.specs.declared.losing.tags.JudgedTag.{JudgedTag}
use Rattle.acl_to_posix.specs.declared.losing.unused.Unused.{Unused}
use Rattle.acl_to_posix.specs.declared.losing.Wanted.{Wanted}
use Rattle.acl_to_posix.specs.declared.tag_column.TagKey.{TagKey}

-- ---- loops over judged tags

-- a fact about each element that is left, from one more element
pub one_more_left : {X : Type 0} (Q : X → Type 0) (xs : List X) (i : ℕ) (x : X) → i < length xs → x ≡ get_or xs i x
    → Q x → AllByRecursion Q (drop (i + 1) xs) → AllByRecursion Q (drop i xs)
one_more_left Q xs i x lt is q rest =
    subst (AllByRecursion Q) (sym (at_drop_more (λ ys. ys) xs i x lt)) (subst Q is q, rest)

-- if each tag of a list is judged, and one more tag is, each of all is
pub judged_more : (wanted : Wanted) (E : Entries) (old new : List JudgedTag) (x : JudgedTag) → new ≡ old ++ x ∷ []
    → AllByRecursion (IsJudgedTag wanted E) old → IsJudgedTag wanted E x → AllByRecursion (IsJudgedTag wanted E) new
judged_more wanted E old new x is all one =
    subst (AllByRecursion (IsJudgedTag wanted E)) (sym is) (All-push (IsJudgedTag wanted E) old x all one)

-- ---- the tags of keys that allow

-- a tag of a key that allows is among them
in_allowed : (t : Tag) (column keys : TagColumn) → has_tag t keys ≡ true → is_allowed_in t column ≡ true
    → list_any (eq_by_cmp tag_cmp t) (allowed_tags column keys) ≡ true
in_allowed t column [] h allows = absurd (false≢true h)
in_allowed t column ((u, k) ∷ keys) h allows = elim (or_cases (eq_by_cmp tag_cmp t u) (has_tag t keys) h) [
  | inl same ↦ here same (is_allowed_in u column)
      (ap (λ (v : Tag). is_allowed_in v column) (sym (same_tag t u same)) ∙ allows)
  | inr more ↦ by (is_allowed_in u column) (in_allowed t column keys more allows)
]
  where
    here : eq_by_cmp tag_cmp t u ≡ true → (b : Bool) → b ≡ true
        → list_any (eq_by_cmp tag_cmp t) (map (λ key. key.0)
        (if b then (u, k) ∷ filter (λ key. is_allowed_in key.0 column) keys
        else filter (λ key. is_allowed_in key.0 column) keys)) ≡ true
    here same true e = ap (λ (b : Bool). b || list_any (eq_by_cmp tag_cmp t) (allowed_tags column keys)) same
    here same false e = absurd (false≢true e)

    by : (b : Bool) → list_any (eq_by_cmp tag_cmp t) (allowed_tags column keys) ≡ true
        → list_any (eq_by_cmp tag_cmp t) (map (λ key. key.0)
        (if b then (u, k) ∷ filter (λ key. is_allowed_in key.0 column) keys
        else filter (λ key. is_allowed_in key.0 column) keys)) ≡ true
    by true rest = ap (λ (b : Bool). eq_by_cmp tag_cmp t u || b) rest ∙ or_true_right (eq_by_cmp tag_cmp t u)
    by false rest = rest

-- the keys that are left, from one more key
left_is : (column : TagColumn) (keys : List TagKey) (i : ℕ) (key : TagKey) → i < length keys → key ≡ get_or keys i key
    → allowed_tags column (keys_of (drop i keys))
    ≡ allowed_tags column ((tag_of key.whom, key.kind) ∷ keys_of (drop (i + 1) keys))
left_is column keys i key lt is =
    at_drop_more (λ ys. allowed_tags column (keys_of ys)) keys i key lt
    ∙ ap (λ (k : TagKey). allowed_tags column (keys_of (k ∷ drop (i + 1) keys))) (sym is)

-- a key that allows adds its tag
pub tag_added : (column : TagColumn) (keys : List TagKey) (i : ℕ) (key : TagKey) (old new : List JudgedTag)
    (x : JudgedTag) (whole : List Tag) → i < length keys → key ≡ get_or keys i key
    → is_allowed_in (tag_of key.whom) column ≡ true
    → new ≡ old ++ x ∷ [] → x.tag ≡ key.whom
    → map (λ one. tag_of one.tag) old ++ allowed_tags column (keys_of (drop i keys)) ≡ whole
    → map (λ one. tag_of one.tag) new ++ allowed_tags column (keys_of (drop (i + 1) keys)) ≡ whole
tag_added column keys i key old new x whole lt is allows pushed tag before =
    let left = keys_of (drop (i + 1) keys) in
    let rest : List Tag = allowed_tags column left in
    let tags : List Tag = map (λ (one : JudgedTag). tag_of one.tag) old in
    let step : allowed_tags column ((tag_of key.whom, key.kind) ∷ left) ≡ tag_of key.whom ∷ rest =
    ap (λ (b : Bool). map (λ (k : Tag × Kind). k.0) (if b
    then (tag_of key.whom, key.kind) ∷ filter (λ k. is_allowed_in k.0 column) left
    else filter (λ k. is_allowed_in k.0 column) left)) allows in
    ap (λ (ys : List JudgedTag). map (λ (one : JudgedTag). tag_of one.tag) ys ++ rest) pushed
    ∙ (ap (λ (ts : List Tag). ts ++ rest) (map-append (λ (one : JudgedTag). tag_of one.tag) old (x ∷ []))
    ∙ (append_assoc tags (tag_of x.tag ∷ []) rest
    ∙ (ap (λ t. tags ++ tag_of t ∷ rest) tag
    ∙ (ap (λ (ts : List Tag). tags ++ ts) (sym (left_is column keys i key lt is ∙ step)) ∙ before))))

-- another key adds nothing
pub tag_passed : (column : TagColumn) (keys : List TagKey) (i : ℕ) (key : TagKey) (old : List JudgedTag)
    (whole : List Tag)
    → i < length keys → key ≡ get_or keys i key → is_allowed_in (tag_of key.whom) column ≡ false
    → map (λ one. tag_of one.tag) old ++ allowed_tags column (keys_of (drop i keys)) ≡ whole
    → map (λ one. tag_of one.tag) old ++ allowed_tags column (keys_of (drop (i + 1) keys)) ≡ whole
tag_passed column keys i key old whole lt is none before =
    let left = keys_of (drop (i + 1) keys) in
    let step : allowed_tags column ((tag_of key.whom, key.kind) ∷ left) ≡ allowed_tags column left =
    ap (λ (b : Bool). map (λ (k : Tag × Kind). k.0) (if b
    then (tag_of key.whom, key.kind) ∷ filter (λ k. is_allowed_in k.0 column) left
    else filter (λ k. is_allowed_in k.0 column) left)) none in
    ap (λ (ts : List Tag). map (λ (one : JudgedTag). tag_of one.tag) old ++ ts)
    (sym (left_is column keys i key lt is ∙ step)) ∙ before

-- the judged tag of one of some tags: it has what each of them has
record IsOneOf (wanted : Wanted) (E : Entries) (t : Tag) (fact : JudgedTag → Type 0) : Type 0 where
  one : JudgedTag
  judged : IsJudgedTag wanted E one
  tag : tag_of one.tag ≡ t
  has : fact one

-- a tag that is among those of some judged tags is that of one of them
one_of : (wanted : Wanted) (E : Entries) (t : Tag) (fact : JudgedTag → Type 0) (tags : List JudgedTag)
    → AllByRecursion (IsJudgedTag wanted E) tags → AllByRecursion fact tags
    → list_any (eq_by_cmp tag_cmp t) (map (λ one. tag_of one.tag) tags) ≡ true → IsOneOf wanted E t fact
one_of wanted E t fact [] judged all h = absurd (false≢true h)
one_of wanted E t fact (x ∷ tags) judged all h =
    elim (or_cases (eq_by_cmp tag_cmp t (tag_of x.tag))
    (list_any (eq_by_cmp tag_cmp t) (map (λ one. tag_of one.tag) tags)) h) [
      | inl same ↦ record { one = x; judged = judged.0; tag = sym (same_tag t (tag_of x.tag) same); has = all.0 }
      | inr more ↦ one_of wanted E t fact tags judged.1 all.1 more
    ]

-- ---- the tests

-- two judged tags pass the test if the check denies by the second rather than grant by the first
passes : (wanted : Wanted) (E : Entries) (unused : Unused) (one denied : JudgedTag) → IsJudgedTag wanted E one
    → IsJudgedTag wanted E denied → IsPassed (search_of wanted E unused) (tag_of one.tag) (tag_of denied.tag)
    → is_passed one denied ≡ true
passes wanted E unused one denied j d (inl less) =
    let a = j.level in let b = d.level in
    ap (λ (x : Bool). x || ((one.level == denied.level) && one.lacks))
    (lt-ltb one.level denied.level (omega (arith, a, b, less)))
passes wanted E unused one denied j d (inr same) =
    let a = j.level in let b = d.level in let e = same.0 in
    ap (λ (x : Bool). nat_lt one.level denied.level || (x && one.lacks))
    (eq-eqb one.level denied.level (omega (arith, a, b, e)))
    ∙ (ap (λ (x : Bool). nat_lt one.level denied.level || x) (j.lacks ∙ same.1)
    ∙ or_true_right (nat_lt one.level denied.level))

-- the three parts of a test
all_three : (x y z : Bool) → x ≡ false → y ≡ true → z ≡ false → (not x && (y && not z)) ≡ true
all_three x y z p q r = rw (p, q, r) refl

-- a test that none of three holds passes if none does
not_two : (x y z : Bool) → x ≡ false → y ≡ false → z ≡ false → (not x && (not y && not z)) ≡ true
not_two x y z p q r = rw (p, q, r) refl

-- nothing is lost with the tag of an entry, if nothing is with the tags of keys that allow
kept_for : (wanted : Wanted) (E : Entries) (unused : Unused) (denied : JudgedTag) (c : Tag)
    (firsts seconds : List JudgedTag) → IsJudgedTag wanted E denied → tag_of denied.tag ≡ c
    → AllByRecursion (IsJudgedTag wanted E) firsts
    → map (λ one. tag_of one.tag) firsts ≡ allowed_tags (keys_of wanted.first.now) (keys_of wanted.first.now)
    → AllByRecursion (IsJudgedTag wanted E) seconds
    → map (λ one. tag_of one.tag) seconds ≡ allowed_tags (keys_of wanted.second.now) (keys_of wanted.second.now)
    → AreKeptWith (search_of wanted E unused) denied firsts seconds → IsKeptFor (search_of wanted E unused) c
kept_for wanted E unused denied c firsts seconds judged is first_judged first_tags second_judged second_tags kept a b
    candidate =
    let s = search_of wanted E unused in
    let one = one_of wanted E a (λ x. is_first x denied ≡ true → AreKeptWithOne s denied x seconds) firsts first_judged
    kept
    (ap (list_any (eq_by_cmp tag_cmp a)) first_tags
    ∙ in_allowed a s.first s.first candidate.first candidate.first_allows) in
    let here : IsLossCandidate s (tag_of one.one.tag) b (tag_of denied.tag) =
    subst (λ (t : Tag). IsLossCandidate s t b (tag_of denied.tag)) (sym one.tag)
    (subst (λ (t : Tag). IsLossCandidate s a b t) (sym is) candidate) in
    let first_place = one.judged.first in
    let denied_first = judged.first in
    let le_first = here.first_denied in
    let two = one_of wanted E b (λ y. is_second y denied ≡ true → are_together one.one y ≡ true
    → IsKeptWith s (tag_of one.one.tag) (tag_of y.tag) (tag_of denied.tag)) seconds second_judged
    (one.has (all_three (nat_lt denied.first one.one.first) (is_passed one.one denied)
    (are_two_users (tag_of one.one.tag) (tag_of denied.tag))
    (le-ltb denied.first one.one.first (omega (arith, first_place, denied_first, le_first)))
    (passes wanted E unused one.one denied one.judged judged here.passed_first) here.one_user_first))
    (ap (list_any (eq_by_cmp tag_cmp b)) second_tags
    ∙ in_allowed b s.second s.second here.second here.second_allows) in
    let both : IsLossCandidate s (tag_of one.one.tag) (tag_of two.one.tag) (tag_of denied.tag) =
    subst (λ (t : Tag). IsLossCandidate s (tag_of one.one.tag) t (tag_of denied.tag)) (sym two.tag) here in
    let second_place = two.judged.second in
    let denied_second = judged.second in
    let le_second = both.second_denied in
    let one_second = one.judged.second in
    let two_first = two.judged.first in
    let le_pair = both.first_second in
    let pair_le = both.second_first in
    subst (λ (t : Tag). IsKeptWith s t b c) one.tag (subst (λ (t : Tag). IsKeptWith s (tag_of one.one.tag) t c) two.tag
    (subst (λ (t : Tag). IsKeptWith s (tag_of one.one.tag) (tag_of two.one.tag) t) is
    (two.has (all_three (nat_lt denied.second two.one.second) (is_passed two.one denied)
    (are_two_users (tag_of two.one.tag) (tag_of denied.tag))
    (le-ltb denied.second two.one.second (omega (arith, second_place, denied_second, le_second)))
    (passes wanted E unused two.one denied two.judged judged both.passed_second) both.one_user_second)
    (not_two (nat_lt two.one.first one.one.first) (nat_lt one.one.second two.one.second)
    (are_two_users (tag_of one.one.tag) (tag_of two.one.tag))
    (le-ltb two.one.first one.one.first (omega (arith, first_place, two_first, le_pair)))
    (le-ltb one.one.second two.one.second (omega (arith, one_second, second_place, pair_le))) both.one_user))))

-- the same for slices of these tags
pub kept_by_slices : (wanted : Wanted) (E : Entries) (unused : Unused) (denied : JudgedTag) (c : Tag)
    (firsts seconds first_slice second_slice : List JudgedTag) → IsJudgedTag wanted E denied → tag_of denied.tag ≡ c
    → AllByRecursion (IsJudgedTag wanted E) firsts
    → map (λ one. tag_of one.tag) firsts ≡ allowed_tags (keys_of wanted.first.now) (keys_of wanted.first.now)
    → AllByRecursion (IsJudgedTag wanted E) seconds
    → map (λ one. tag_of one.tag) seconds ≡ allowed_tags (keys_of wanted.second.now) (keys_of wanted.second.now)
    → first_slice ≡ firsts → second_slice ≡ seconds
    → AreKeptWith (search_of wanted E unused) denied first_slice second_slice → IsKeptFor (search_of wanted E unused) c
kept_by_slices wanted E unused denied c firsts seconds xs ys judged is first_judged first_tags second_judged second_tags
    first_same second_same kept =
    kept_for wanted E unused denied c firsts seconds judged is first_judged first_tags second_judged second_tags
    (subst (λ (fs : List JudgedTag). AreKeptWith (search_of wanted E unused) denied fs seconds) first_same
    (subst (λ (ss : List JudgedTag). AreKeptWith (search_of wanted E unused) denied xs ss) second_same kept))

-- an entry that does not lack the permission denies nobody
pub kept_by_all : (wanted : Wanted) (E : Entries) (unused : Unused) (has : JudgedTag) (c : Tag)
    → IsJudgedTag wanted E has → tag_of has.tag ≡ c → has.lacks ≡ false → IsKeptFor (search_of wanted E unused) c
kept_by_all wanted E unused has c judged is h a b candidate =
    let there : IsLossCandidate (search_of wanted E unused) a b (tag_of has.tag) =
    subst (λ (t : Tag). IsLossCandidate (search_of wanted E unused) a b t) (sym is) candidate in
    absurd (false≢true (sym h ∙ (judged.lacks ∙ there.lacking)))

-- ---- places

-- the place of the first certain key is the same in the keys of the code
pub place_is : (t : Tag) (keys : List TagKey) → decided_place t keys ≡ certain_place t (keys_of keys)
place_is t [] = refl
place_is t (k ∷ keys) =
    ap (λ (n : ℕ). cond (not (is_certain t (tag_of k.whom))) (1 + n) 0) (place_is t keys)
