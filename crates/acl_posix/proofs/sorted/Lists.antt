-- The list of a set, in canonical order: the place of a tag, the permissions there, and edits of one entry.
use Rattle.acl_posix.proofs.Common.{[], All, All-map, AllByRecursion, ap, arith, as_set, below_all, Bool, both_hold, cases_lt, code_cmp, codes_total, cond, Entries, Entry, eq_by_cmp, eq_by_cmp_equiv, Err, false, filter, find-where_key, get_or, get_or-map, Greater, inl, inr, insert, is_eq, is_lt, is_sorted-where_key, IsBinarySearchResult, IsEntry, IsGap, IsSearchInRange, IsSome, IsSorted, IsSortedBy, IsStrictlySortedBy, IsTag, IsTagAt, length, Less, Less-from_sorted, List, list_any_at, map-set, MatchResult, None, not, Ok, Option, Ordering, pair_of, pairs, passes_less, refl, Result, searchable_from_sorted, set, Some, sorted_tail, subst, suc, sym, T, Tag, tag_cmp, tag_of, TagOfCode, tags, tags_total, tied_itself, true, where_key, zero, ℕ, ◌&&◌, ◌+◌, ◌<◌, ◌↔◌, ◌∙◌, ◌∷◌, ◌≡◌}
use Rattle.acl_posix.proofs.tag.Tags.{exact_tags, length-tags, length-tags_of, pairs-insert, tag_read}
use Rattle.std.specs.FinMap as fin
use Rattle.acl_posix.specs.declared.tag.Tag.TheVariants as code

-- ---- the set of entries in order has these entries, in this order

-- if each of two tests holds, both hold together
and_from_both : (a b : Bool) → T a → T b → T (a && b)
and_from_both a b p q = grind arith

-- the test that a tag is below all entries of a list says that it is less than each of their tags
below_is : (l : Tag) (ps : List (Tag × ℕ))
    → T (below_all tag_cmp l ps) ↔ AllByRecursion (λ y. tag_cmp l y ≡ Less) (tags ps)
below_is l [] = (λ h. tt, λ h. tt)
below_is l (p ∷ ps) = (
  λ h. let parts = both_hold (is_lt (tag_cmp l p.0)) (below_all tag_cmp l ps) h in
      (passes_less (tag_cmp l p.0) parts.0, (below_is l ps).0 parts.1),
  λ h. rw h.0 ((below_is l ps).1 h.1),
)

-- the test of a set for its order says that its list is in canonical order
sorted_is : (ps : List (Tag × ℕ)) → T (fin.is_sorted tag_cmp ps) ↔ IsSorted ps
unfolding IsStrictlySortedBy
sorted_is [] = (λ h. tt, λ h. tt)
sorted_is (p ∷ ps) = (
  λ h. let parts = both_hold (below_all tag_cmp p.0 ps) (fin.is_sorted tag_cmp ps) h in
      ((below_is p.0 ps).0 parts.0, (sorted_is ps).0 parts.1),
  λ h. and_from_both _ _ ((below_is p.0 ps).1 h.0) ((sorted_is ps).1 h.1),
)

-- the entries of a set are in canonical order
pub entries_sorted : (E : Entries) → IsSorted (fin.entries E)
entries_sorted E = (sorted_is (fin.entries E)).0 (fin.entries_sorted E)

-- a list that has the entries of a set is a list of that set
pub set_of : (E : Entries) (ps : List (Tag × ℕ)) → ps ≡ fin.entries E → as_set ps ≡ E
set_of E ps is = fin.same_map tags_total exact_tags _ _ (λ q.
    fin.get-from_entries tags_total ps q ∙ ap (fin.find tag_cmp q) is ∙ sym (fin.get-entries E q))

-- the entries of the set of a list in canonical order are that list
pub entries_in_order : (ps : List (Tag × ℕ)) → IsSorted ps → fin.entries (as_set ps) ≡ ps
entries_in_order ps h =
    let whole = fin.entries-from_sorted tag_cmp ps ((sorted_is ps).1 h) in
    ap fin.entries (set_of (fin.from_sorted {R = tag_cmp} ps) ps (sym whole)) ∙ whole

-- the types of tags and permissions keep each entry within its limits
pub tag_within : (t : TagOfCode) → IsTag (tag_of t)
tag_within (code.User id) = id.within
tag_within (code.Group id) = id.within
tag_within tag = tt

-- each entry of a list is within its limits
pub all_entries : (es : List Entry) → All IsEntry (pairs es)
all_entries es = All-map IsEntry pair_of es (λ k d lt. (tag_within (get_or es k d).tag, (get_or es k d).perm.within))

-- ---- what a binary search says

-- in a list in canonical order no tag is less than the one before it
never_falls : (es : List Entry) → IsSorted (pairs es) → IsSortedBy (λ (a b : Entry). is_lt (code_cmp a.tag b.tag)) es
never_falls es h k d ge lt =
    let len = length-tags es in
    let l : Tag = tag_of d.tag in
    let rises = rw (tag_read es k d l (omega (arith, lt)), tag_read es (k + 1) d l lt) at
    (Less-from_sorted tag_cmp (tags (pairs es)) k (k + 1) l h (omega arith) (omega arith)) in
    rw (tags_total.antisymm (tag_of (get_or es (k + 1) d).tag) (tag_of (get_or es k d).tag), rises) refl

-- a binary search finds the place of a tag or its gap
pub searched : (es : List Entry) (t : TagOfCode) (d : Entry) (r : Result ℕ ℕ) → IsSorted (pairs es)
    → IsSearchInRange r (length es) → IsBinarySearchResult (λ (e : Entry). code_cmp e.tag t) es r
    → MatchResult r (IsTagAt (tags (pairs es)) (tag_of t)) (IsGap (tags (pairs es)) (tag_of t))
searched es t d (Ok i) h in_range equal =
    let len = length-tags es in
    record { in_range = omega arith; has = tag_read es i d (tag_of t) in_range ∙ exact_tags _ _ (equal d) }
searched es t d (Err i) h in_range parted =
    let len = length-tags es in
    let sides = parted (searchable_from_sorted codes_total (λ (x : Entry). x.tag) es t (never_falls es h)) in
    let read = λ (j : ℕ) (lt : j < length es).
    ap (λ (x : Tag). tag_cmp x (tag_of t)) (tag_read es j d (tag_of t) lt) in
    record {
      in_range = omega arith;
      before = λ j lt. read j (omega arith) ∙ sides.0 j d (omega arith) lt;
      after = λ j le lt. read j (omega arith) ∙ sides.1 j d le (omega arith);
    }

-- ---- what is found

-- a tag that does not compare as equal to another is not found at it
pub unequal : (a b : Tag) (o : Ordering) → tag_cmp a b ≡ o → is_eq o ≡ false → eq_by_cmp tag_cmp b a ≡ false
unequal a b o h differ = (eq_by_cmp_equiv tags_total).symm b a ∙ ap is_eq h ∙ differ

-- a tag that differs from the tag at each place of a list is not found in it
pub find_nowhere : (ps : List (Tag × ℕ)) (l : Tag)
    → ((j : ℕ) → j < length (tags ps) → eq_by_cmp tag_cmp l (get_or (tags ps) j l) ≡ false)
    → fin.find tag_cmp l ps ≡ None
find_nowhere [] l h = refl
find_nowhere (p ∷ ps) l h = rw (h 0 (omega arith)) (find_nowhere ps l (λ j lt. h (suc j) (omega arith)))

-- a tag with a gap has no entry
pub absent_in_gap : (E : Entries) {l : Tag} {i : ℕ} → IsGap (fin.keys E) l i → fin.get E l ≡ None
absent_in_gap E {l} {i} gap = fin.get-entries E l ∙ find_nowhere (fin.entries E) l (λ j lt. elim (cases_lt j i) [
  | inl below ↦ unequal _ l Less (gap.before j below) refl
  | inr above ↦ unequal _ l Greater (gap.after j above lt) refl
])

-- the entry at a place is found by its tag
find-at_place : (ps : List (Tag × ℕ)) (i : ℕ) (p : Tag × ℕ) → IsSorted ps → i < length ps → get_or ps i p ≡ p
    → fin.find tag_cmp p.0 ps ≡ Some p.1
find-at_place [] i p h lt at = absurd (omega (arith, lt))
find-at_place (q ∷ ps) zero p h lt at =
    subst (λ (x : Tag × ℕ). fin.find tag_cmp x.0 (q ∷ ps) ≡ Some x.1) at (rw (tied_itself tags_total q.0) refl)
find-at_place (q ∷ ps) (suc i) p h lt at =
    let len = length-tags_of ps in
    let below = Less-from_sorted tag_cmp (tags (q ∷ ps)) 0 (suc i) p.0 h (omega arith) (omega (arith, lt)) in
    let tag_is = get_or-map (λ (x : Tag × ℕ). x.0) ps i p p.0 (omega (arith, lt)) ∙ ap (λ (x : Tag × ℕ). x.0) at in
    rw (unequal q.0 p.0 Less (ap (tag_cmp q.0) (sym tag_is) ∙ below) refl)
    (find-at_place ps i p (sorted_tail tag_cmp q.0 (tags ps) h) (omega (arith, lt)) at)

-- an entry of a set is found by its tag
pub find_at : (E : Entries) (i : ℕ) (p : Tag × ℕ) → i < length (fin.entries E) → get_or (fin.entries E) i p ≡ p
    → fin.get E p.0 ≡ Some p.1
find_at E i p lt at = fin.get-entries E p.0 ∙ find-at_place (fin.entries E) i p (entries_sorted E) lt at

-- the list that has the entries of a set is as long as its tags
pub keys_length : (E : Entries) (es : List Entry) → pairs es ≡ fin.entries E → length (fin.keys E) ≡ length es
keys_length E es same = ap (λ (ps : List (Tag × ℕ)). length (tags ps)) (sym same) ∙ length-tags es

-- the permissions of an entry of the list that has the entries of a set are those of its tag
pub entry_found : (E : Entries) (l : Tag) (i : ℕ) (es : List Entry) (e : Entry) → pairs es ≡ fin.entries E
    → i < length es → e ≡ get_or es i e → tag_of e.tag ≡ l → fin.get E l ≡ Some e.perm.bits
entry_found E l i es e same lt read is = subst (λ (t : Tag). fin.get E t ≡ Some e.perm.bits) is
    (find_at E i (pair_of e) (omega (arith, lt, keys_length E es same, length-tags_of (fin.entries E)))
    (ap (λ (ps : List (Tag × ℕ)). get_or ps i (pair_of e)) (sym same) ∙ get_or-map pair_of es i e (pair_of e) lt
    ∙ ap pair_of (sym read)))

-- a tag with a place has an entry
pub present_at : (E : Entries) (l : Tag) (i : ℕ) → IsTagAt (fin.keys E) l i → IsSome (fin.get E l)
present_at E l i at = fin.contains_key-keys E l ∙ list_any_at (eq_by_cmp tag_cmp l) (fin.keys E) i l at.in_range
    (ap (eq_by_cmp tag_cmp l) at.has ∙ (eq_by_cmp_equiv tags_total).refl l)

-- a tag with an entry has no gap
pub not_in_gap : (E : Entries) (l : Tag) (i : ℕ) → IsGap (fin.keys E) l i → IsSome (fin.get E l) → ⊥
not_in_gap E l i gap some = let none = absent_in_gap E gap in let wrong = rw none at some in absurd cc

-- ---- edits of one entry

-- the list is in order, and its set is this one
pub record IsListOf (E : Entries) (es : List Entry) : Type 0 where
  pub sorted : IsSorted (pairs es)
  pub set : as_set (pairs es) ≡ E

-- a list that has the entries of a set
pub list_of : (E : Entries) (es : List Entry) → pairs es ≡ fin.entries E → IsListOf E es
list_of E es is = record { sorted = subst IsSorted (sym is) (entries_sorted E); set = set_of E (pairs es) is }

-- a list in order has the entries of its set
pub entries_of : (E : Entries) (es : List Entry) → as_set (pairs es) ≡ E → IsSorted (pairs es)
    → pairs es ≡ fin.entries E
entries_of E es view h = sym (entries_in_order (pairs es) h) ∙ ap (λ (s : Entries). fin.entries s) view

-- ---- an entry with other permissions

-- a list with other permissions at the place of a tag is the list with that entry put in its place
set_is_put : (ps : List (Tag × ℕ)) (l : Tag) (n i : ℕ) → IsSorted ps → IsTagAt (tags ps) l i
    → set ps i (l, n) ≡ fin.put tag_cmp l n ps
set_is_put [] l n i h at = absurd (omega (arith, at.in_range))
set_is_put (p ∷ ps) l n zero h at =
    rw (ap (tag_cmp l) at.has ∙ tied_itself tags_total l) (ap (λ (x : Tag). (x, n) ∷ ps) (sym at.has))
set_is_put (p ∷ ps) l n (suc i) h at =
    let rises = Less-from_sorted tag_cmp (tags (p ∷ ps)) 0 (suc i) l h (omega arith) at.in_range in
    let below : tag_cmp p.0 l ≡ Less = ap (tag_cmp p.0) (sym at.has) ∙ rises in
    let rest : IsTagAt (tags ps) l i = record { in_range = omega (arith, at.in_range); has = at.has } in
    rw (tags_total.antisymm l p.0, below)
    (ap (λ (xs : List (Tag × ℕ)). p ∷ xs) (set_is_put ps l n i (sorted_tail tag_cmp p.0 (tags ps) h) rest))

-- a list whose pairs are those of a set with an entry put among them is a list of the set with the entry
put_list : (E : Entries) (new : List Entry) (l : Tag) (n : ℕ) → pairs new ≡ fin.put tag_cmp l n (fin.entries E)
    → IsListOf (fin.insert E l n) new
put_list E new l n is = list_of (fin.insert E l n) new (is ∙ sym (fin.entries-insert tags_total E l n))

-- a list of a set with an entry at the place of its tag is a list of the set with that entry
pub edited : (E : Entries) (es : List Entry) (i : ℕ) (e : Entry) → as_set (pairs es) ≡ E → IsSorted (pairs es)
    → IsTagAt (fin.keys E) (tag_of e.tag) i → IsListOf (fin.insert E (tag_of e.tag) e.perm.bits) (set es i e)
edited E es i e view h at = put_list E (set es i e) (tag_of e.tag) e.perm.bits
    (map-set pair_of es i e ∙ ap (λ (ps : List (Tag × ℕ)). set ps i (pair_of e)) (entries_of E es view h)
    ∙ set_is_put (fin.entries E) (tag_of e.tag) e.perm.bits i (entries_sorted E) at)

-- ---- an entry in the gap for its tag

-- a list with one more entry in the gap for its tag is the list with that entry put in its place
insert_is_put : (ps : List (Tag × ℕ)) (l : Tag) (n i : ℕ) → IsGap (tags ps) l i
    → insert ps i (l, n) ≡ fin.put tag_cmp l n ps
insert_is_put [] l n zero gap = refl
insert_is_put [] l n (suc i) gap = refl
insert_is_put (p ∷ ps) l n zero gap = rw (tags_total.antisymm l p.0, gap.after 0 (omega arith) (omega arith)) refl
insert_is_put (p ∷ ps) l n (suc i) gap =
    let rest : IsGap (tags ps) l i = record {
      in_range = omega (arith, gap.in_range);
      before = λ j lt. gap.before (suc j) (omega arith);
      after = λ j le lt. gap.after (suc j) (omega arith) (omega arith);
    } in
    rw (tags_total.antisymm l p.0, gap.before 0 (omega arith))
    (ap (λ (xs : List (Tag × ℕ)). p ∷ xs) (insert_is_put ps l n i rest))

-- a list of a set with one more entry, in the gap for its tag, is a list of the set with that entry
pub inserted : (E : Entries) (es : List Entry) (i : ℕ) (e : Entry) → as_set (pairs es) ≡ E → IsSorted (pairs es)
    → IsGap (fin.keys E) (tag_of e.tag) i → IsListOf (fin.insert E (tag_of e.tag) e.perm.bits) (insert es i e)
inserted E es i e view h gap = put_list E (insert es i e) (tag_of e.tag) e.perm.bits
    (pairs-insert es i e ∙ ap (λ (ps : List (Tag × ℕ)). insert ps i (pair_of e)) (entries_of E es view h)
    ∙ insert_is_put (fin.entries E) (tag_of e.tag) e.perm.bits i gap)

-- ---- no entry of a tag

-- the pairs of one of two lists, as a test chooses, are chosen from the pairs of each
pairs-cond : (b : Bool) (xs ys : List Entry) → pairs (cond b xs ys) ≡ cond b (pairs xs) (pairs ys)
pairs-cond true xs ys = refl
pairs-cond false xs ys = refl

-- the pairs of a list without the entries of a tag are its pairs without those of the tag
pairs-filter : (l : Tag) (es : List Entry) → pairs (filter (λ e. not (eq_by_cmp tag_cmp (tag_of e.tag) l)) es)
    ≡ where_key tag_cmp (λ t. not (eq_by_cmp tag_cmp t l)) (pairs es)
pairs-filter l [] = refl
pairs-filter l (e ∷ es) = pairs-cond (not (eq_by_cmp tag_cmp (tag_of e.tag) l)) _ _
    ∙ ap (λ ps. cond (not (eq_by_cmp tag_cmp (tag_of e.tag) l)) (pair_of e ∷ ps) ps) (pairs-filter l es)

-- choosing by the opposite of a test is choosing in the other order
cond_not : (b : Bool) (x y : Option ℕ) → cond (not b) x y ≡ cond b y x
cond_not b x y = grind arith

-- a list of a set without the entries of a tag is a list of the set without the tag
pub without : (E : Entries) (es : List Entry) (l : Tag) → pairs es ≡ fin.entries E
    → IsListOf (fin.remove E l) (filter (λ e. not (eq_by_cmp tag_cmp (tag_of e.tag) l)) es)
without E es l same =
    let left : List (Tag × ℕ) = where_key tag_cmp (λ t. not (eq_by_cmp tag_cmp t l)) (fin.entries E) in
    let sorted =
    is_sorted-where_key tag_cmp (λ t. not (eq_by_cmp tag_cmp t l)) (fin.entries E) (fin.entries_sorted E) in
    let is : fin.from_sorted left ≡ fin.remove E l = fin.same_map tags_total exact_tags _ _ (λ q.
    fin.get-from_sorted tag_cmp left q sorted ∙ find-where_key tag_cmp (λ t. not (eq_by_cmp tag_cmp t l)) q
    (λ x tied. ap (λ t. not (eq_by_cmp tag_cmp t l)) (sym (exact_tags q x tied))) (fin.entries E)
    ∙ cond_not (eq_by_cmp tag_cmp q l) (fin.find tag_cmp q (fin.entries E)) None
    ∙ ap (cond (eq_by_cmp tag_cmp q l) None) (sym (fin.get-entries E q)) ∙ sym (fin.get-remove tags_total E l q)) in
    list_of _ _ (pairs-filter l es ∙ ap (where_key tag_cmp (λ t. not (eq_by_cmp tag_cmp t l))) same
    ∙ sym (fin.entries-from_sorted tag_cmp left sorted) ∙ ap (λ (s : Entries). fin.entries s) is)
