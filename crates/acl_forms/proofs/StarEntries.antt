-- The texts of the entries of a POSIX ACL, and the order in which star writes them.
use Rattle.std.proofs.Common.{◌≡◌, ◌∙◌, ◌+◌, ◌++◌, ℕ, Bool, true, false, cond, List, [], ◌∷◌, Option, None, Some, refl, sym, ap, arith}
use Rattle.std.specs.Prelude.{filter, not}
use Rattle.std.specs.FinMap as fin
use Rattle.std.specs.FinMap.Entries.{find, find-where_key}
use Rattle.std.specs.Cmp.{eq_by_cmp_equiv}
use Rattle.std.specs.List as lists
use Rattle.std.specs.List.{AllByRecursion}
unfoldable use Rattle.std.specs.List.Sorted.{IsStrictlySortedBy}
use Rattle.std.specs.Option.{option_and_then, option_or}
use Rattle.std.specs.Ordering.{eq_by_cmp}
use Rattle.std.specs.declared.cmp.Ordering.TheVariants.{Equal, Less}
use Rattle.std.proofs.lemmas.List.{length-map}
use Rattle.std.proofs.lemmas.List.Sorted.{IsPermutation-filter_both, IsPermutation-map}
use Rattle.std.proofs.lemmas.Map.Keys.{apart_from_distinct, IsDistinct-from_sorted, IsDistinct-IsPermutation}
use Rattle.acl_posix.proofs.Exports.{entries_sorted, same_tag, set_of, sorted_distinct}
use Rattle.acl_posix.specs.Entries.{Entries, IsEntry, IsSorted, as_set, tags}
use Rattle.acl_posix.specs.Grammar.{IsAclOf}
use Rattle.acl_posix.specs.Names.{Table}
use Rattle.acl_posix.specs.Tag.{Tag, group, group_obj, mask, other, tag_cmp, user, user_obj}
use Rattle.acl_posix.specs.Valid.{IsDistinct, IsValid, tag_at}
unfoldable use Rattle.acl_posix.specs.Valid.{missing}
use Rattle.acl_posix.specs.internal.TagCode.{tags_total}
use Rattle.acl_posix.specs.internal.GroupAnswers.{is_owner_tag}
use Rattle.acl_forms.specs.PosixNames.{HasNamesOfIds, NamesOfIds, if_shown, is_shown, shown_name, tag_name}
use Rattle.acl_forms.specs.PosixWritten.{posix_entry_fault, id_field, named_reason, three_fields}
use Rattle.acl_forms.specs.declared.posix_text.style.TarStyle.TheVariants.{Gnu, Star}
use Rattle.acl_forms.specs.internal.FaultSearch.{fault_from}
use Rattle.acl_forms.proofs.PosixReadBack.{AreTexts}
use Rattle.acl_forms.proofs.PosixEntriesReadBack.{HasName, IsShownName, by_qualifier, held_qualifier, star_entry}
use Rattle.acl_forms.proofs.FormLemmas.{no_fault}

-- ---- the texts of entries

-- the text of an entry for star, without what separates it from others
abbrev pub star_of : NamesOfIds → Tag × ℕ → List ℕ
star_of names e = three_fields e (tag_name names e.0) ++ id_field e.0 (tag_name names e.0)

-- the text of an entry for GNU tar, without what separates it from others
abbrev pub gnu_of : NamesOfIds → Tag × ℕ → List ℕ
gnu_of names e = three_fields e (tag_name names e.0)

-- a user's name that is kept if it is shown is shown
shown_user : (id : ℕ) (name : List ℕ) (b : Bool) → is_shown name ≡ b → IsShownName (user id) (cond b (Some name) None)
shown_user id name true e = e
shown_user id name false e = tt

-- a group's name that is kept if it is shown is shown
shown_group : (id : ℕ) (name : List ℕ) (b : Bool) → is_shown name ≡ b → IsShownName (group id) (cond b (Some name) None)
shown_group id name true e = e
shown_group id name false e = tt

-- what is kept of a user's name that may be absent is shown
user_name : (id : ℕ) (o : Option (List ℕ)) → IsShownName (user id) (option_and_then if_shown o)
user_name id None = tt
user_name id (Some name) = shown_user id name (is_shown name) refl

-- what is kept of a group's name that may be absent is shown
group_name : (id : ℕ) (o : Option (List ℕ)) → IsShownName (group id) (option_and_then if_shown o)
group_name id None = tt
group_name id (Some name) = shown_group id name (is_shown name) refl

-- the name that is written for a tag is shown
shown_of : (names : NamesOfIds) (tag : Tag) → IsShownName tag (tag_name names tag)
shown_of names (user id) = user_name id (fin.get names.users id)
shown_of names (group id) = group_name id (fin.get names.groups id)
shown_of names user_obj = tt
shown_of names group_obj = tt
shown_of names mask = tt
shown_of names other = tt

-- a user's name that is written is in the table, with the id of its tag
has_user : (table : Table) (names : NamesOfIds) (id : ℕ) (o : Option (List ℕ)) → HasNamesOfIds table names
    → shown_name names.users id ≡ o → IsShownName (user id) o → HasName table (user id) o
has_user table names id None has e shown = tt
has_user table names id (Some name) has e shown = (shown, has.users id name e)

-- a group's name that is written is in the table, with the id of its tag
has_group : (table : Table) (names : NamesOfIds) (id : ℕ) (o : Option (List ℕ)) → HasNamesOfIds table names
    → shown_name names.groups id ≡ o → IsShownName (group id) o → HasName table (group id) o
has_group table names id None has e shown = tt
has_group table names id (Some name) has e shown = (shown, has.groups id name e)

-- the name that is written for a tag is in the table, with the id of the tag
has_of : (table : Table) (names : NamesOfIds) (tag : Tag) → HasNamesOfIds table names
    → HasName table tag (tag_name names tag)
has_of table names (user id) has =
    has_user table names id (shown_name names.users id) has refl (shown_of names (user id))
has_of table names (group id) has =
    has_group table names id (shown_name names.groups id) has refl (shown_of names (group id))
has_of table names user_obj has = tt
has_of table names group_obj has = tt
has_of table names mask has = tt
has_of table names other has = tt

-- the texts of star are read as the entries of an ACL that they can hold
pub star_texts : (table : Table) (names : NamesOfIds) (place : ℕ) (es : List (Tag × ℕ)) → AllByRecursion IsEntry es
    → fault_from (posix_entry_fault names Star) place es ≡ None → AreTexts table (star_of names) es
star_texts table names place [] within held = tt
star_texts table names place (e ∷ es) within held =
    let both = no_fault place (named_reason Star e.0 (tag_name names e.0)) _ held in (
      star_entry table e.0 e.1 (tag_name names e.0) within.0 (shown_of names e.0)
          (held_qualifier Star e.0 (tag_name names e.0) within.0.0 both.0),
      star_texts table names (place + 1) es within.1 both.1,
    )

-- the texts of GNU tar are read as the entries of an ACL that they can hold
pub gnu_texts : (table : Table) (names : NamesOfIds) (place : ℕ) (es : List (Tag × ℕ)) → HasNamesOfIds table names
    → AllByRecursion IsEntry es → fault_from (posix_entry_fault names Gnu) place es ≡ None
    → AreTexts table (gnu_of names) es
gnu_texts table names place [] has within held = tt
gnu_texts table names place (e ∷ es) has within held =
    let both = no_fault place (named_reason Gnu e.0 (tag_name names e.0)) _ held in (
      by_qualifier table e.0 e.1 (tag_name names e.0) within.0 (has_of table names e.0 has)
          (held_qualifier Gnu e.0 (tag_name names e.0) within.0.0 both.0),
      gnu_texts table names (place + 1) es has within.1 both.1,
    )

-- ---- the order of star

-- the entries that pass a test of their tags, and then the others
abbrev pub split_by : (Tag → Bool) → List (Tag × ℕ) → List (Tag × ℕ)
split_by p es = filter (λ e. p e.0) es ++ filter (λ e. not (p e.0)) es

-- what is found at once, or else in one of two lists
found_or : (b : Bool) (v : ℕ) (one two both : Option ℕ) → both ≡ option_or one two
    → cond b (Some v) both ≡ option_or (cond b (Some v) one) two
found_or true v one two both e = refl
found_or false v one two both e = e

-- a search among two lists finds what is in the first, or else what is in the second
find_append : (q : Tag) (xs ys : List (Tag × ℕ))
    → find tag_cmp q (xs ++ ys) ≡ option_or (find tag_cmp q xs) (find tag_cmp q ys)
find_append q [] ys = refl
find_append q (x ∷ xs) ys =
    found_or (eq_by_cmp tag_cmp q x.0) x.1 (find tag_cmp q xs) (find tag_cmp q ys) _ (find_append q xs ys)

-- tags that are equal pass the same tests
same_test : (p : Tag → Bool) (q x : Tag) → tag_cmp q x ≡ Equal → p x ≡ p q
same_test p q x e = ap p (sym (same_tag q x (rw e refl)))

-- of two tests, of which one passes what the other does not, one passes what is searched
one_found : (b : Bool) (o : Option ℕ) → option_or (cond b o None) (cond (not b) o None) ≡ o
one_found true None = refl
one_found true (Some n) = refl
one_found false o = refl

-- a search among the split entries finds what it finds among the entries
find_split : (p : Tag → Bool) (q : Tag) (es : List (Tag × ℕ))
    → find tag_cmp q (split_by p es) ≡ find tag_cmp q es
find_split p q es =
    find_append q (filter (λ e. p e.0) es) (filter (λ e. not (p e.0)) es)
    ∙ ap (λ (o : Option ℕ). option_or o (find tag_cmp q (filter (λ e. not (p e.0)) es)))
    (find-where_key tag_cmp p q (same_test p q) es)
    ∙ ap (option_or (cond (p q) (find tag_cmp q es) None))
    (find-where_key tag_cmp (λ t. not (p t)) q (same_test (λ t. not (p t)) q) es)
    ∙ one_found (p q) (find tag_cmp q es)

-- the split entries are those of the same set
split_set : (p : Tag → Bool) (acl : Entries) → as_set (split_by p (fin.entries acl)) ≡ acl
split_set p acl = fin.same_map tags_total (λ x y e. same_tag x y (rw e refl)) _ _ (λ q.
    fin.get-from_entries tags_total (split_by p (fin.entries acl)) q ∙ find_split p q (fin.entries acl)
    ∙ sym (fin.get-entries acl q))

-- if any two tags of a list differ, no tag occurs twice
apart_distinct : (ps : List (Tag × ℕ)) → lists.IsDistinct (eq_by_cmp tag_cmp) (tags ps) → IsDistinct ps
apart_distinct ps apart place lt repeat =
    let differ = apart_from_distinct (eq_by_cmp tag_cmp) (tags ps) repeat.earlier place other apart repeat.before
    (omega (arith, lt, length-map ps (λ (e : Tag × ℕ). e.0))) in
    let wrong = sym (ap (eq_by_cmp tag_cmp (tag_at ps repeat.earlier)) (sym repeat.same)
    ∙ (eq_by_cmp_equiv tags_total).refl (tag_at ps repeat.earlier)) ∙ differ in absurd cc

-- no tag occurs twice among the split entries
split_distinct : (p : Tag → Bool) (es : List (Tag × ℕ)) → IsSorted es → IsDistinct (split_by p es)
split_distinct p es sorted =
    let moved = IsPermutation-filter_both (λ (e : Tag × ℕ). p e.0) (λ (e : Tag × ℕ). not (p e.0)) (λ e. refl) es in
    apart_distinct (split_by p es)
    (IsDistinct-IsPermutation (eq_by_cmp tag_cmp) (eq_by_cmp_equiv tags_total).symm (tags es) (tags (split_by p es))
    (IsPermutation-map (λ (e : Tag × ℕ). e.0) es (split_by p es) moved)
    (IsDistinct-from_sorted tag_cmp (tags es) sorted))

-- the split entries are those of the ACL
pub split_acl : (p : Tag → Bool) (acl : Entries) → IsValid acl → IsAclOf (split_by p (fin.entries acl)) acl
split_acl p acl valid =
    let same = split_set p acl in
    record {
      valid = record {
        distinct = split_distinct p (fin.entries acl) (entries_sorted acl);
        complete = ap missing same ∙ valid;
      };
      set = sym same;
    }

-- the entries of an ACL are those of it
pub whole_acl : (acl : Entries) → IsValid acl → IsAclOf (fin.entries acl) acl
whole_acl acl valid =
    let same = set_of acl (fin.entries acl) refl in
    record {
      valid = record { distinct = sorted_distinct _ (entries_sorted acl); complete = ap missing same ∙ valid };
      set = sym same;
    }

-- ---- the first entry

-- no tag is below that of the owner
not_below : (t x : Tag) → tag_cmp t x ≡ Less → is_owner_tag x ≡ false
not_below t (user id) e = refl
not_below t group_obj e = refl
not_below t (group id) e = refl
not_below t mask e = refl
not_below t other e = refl
not_below user_obj user_obj e = absurd cc
not_below (user id) user_obj e = absurd cc
not_below group_obj user_obj e = absurd cc
not_below (group id) user_obj e = absurd cc
not_below mask user_obj e = absurd cc
not_below other user_obj e = absurd cc

-- entries of other tags than the owner's
abbrev pub AreOthers : List (Tag × ℕ) → Type 0
AreOthers es = AllByRecursion (λ e. is_owner_tag e.0 ≡ false) es

-- the tags after a tag are not the owner's
after : (t : Tag) (es : List (Tag × ℕ)) → AllByRecursion (λ x. tag_cmp t x ≡ Less) (tags es) → AreOthers es
after t [] above = tt
after t (e ∷ es) above = (not_below t e.0 above.0, after t es above.1)

-- among others there is no owner
no_owner : (es : List (Tag × ℕ)) → AreOthers es → find tag_cmp user_obj es ≡ None
no_owner [] others = refl
no_owner ((user_obj, n) ∷ es) others = absurd (let wrong = others.0 in cc)
no_owner ((user id, n) ∷ es) others = no_owner es others.1
no_owner ((group_obj, n) ∷ es) others = no_owner es others.1
no_owner ((group id, n) ∷ es) others = no_owner es others.1
no_owner ((mask, n) ∷ es) others = no_owner es others.1
no_owner ((other, n) ∷ es) others = no_owner es others.1

-- sorted entries, of which one is the owner's, begin with it
pub record BeginsWithOwner (es : List (Tag × ℕ)) : Type 0 where
  pub perm : ℕ
  pub rest : List (Tag × ℕ)
  pub is : es ≡ (user_obj, perm) ∷ rest
  pub others : AreOthers rest

-- entries whose first is not the owner's have none
not_first : (e : Tag × ℕ) (es : List (Tag × ℕ)) → is_owner_tag e.0 ≡ false → IsSorted (e ∷ es)
    → find tag_cmp user_obj (e ∷ es) ≡ None
unfolding IsStrictlySortedBy
not_first e es differ sorted = no_owner (e ∷ es) (differ, after e.0 es sorted.0)

-- so do sorted entries in which the owner's is found
pub owner_first : (es : List (Tag × ℕ)) → IsSorted es → (find tag_cmp user_obj es ≡ None → ⊥) → BeginsWithOwner es
unfolding IsStrictlySortedBy
owner_first [] sorted some = absurd (some refl)
owner_first ((user_obj, n) ∷ es) sorted some =
    record { perm = n; rest = es; is = refl; others = after user_obj es sorted.0 }
owner_first ((user id, n) ∷ es) sorted some = absurd (some (not_first (user id, n) es refl sorted))
owner_first ((group_obj, n) ∷ es) sorted some = absurd (some (not_first (group_obj, n) es refl sorted))
owner_first ((group id, n) ∷ es) sorted some = absurd (some (not_first (group id, n) es refl sorted))
owner_first ((mask, n) ∷ es) sorted some = absurd (some (not_first (mask, n) es refl sorted))
owner_first ((other, n) ∷ es) sorted some = absurd (some (not_first (other, n) es refl sorted))

-- a valid ACL has an entry of the owner
pub has_owner : (acl : Entries) → IsValid acl → find tag_cmp user_obj (fin.entries acl) ≡ None → ⊥
unfolding missing
has_owner acl valid e =
    let none : fin.get acl user_obj ≡ None = fin.get-entries acl user_obj ∙ e in
    let wrong = rw none at valid in
    cc
