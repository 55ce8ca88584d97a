-- What is written for an ACL means that ACL.
use Rattle.acl_posix.proofs.Common.{[], All, ap, arith, as_set, Entries, false, greatest_id, group, group_obj, IsDistinct, IsEntry, IsPerm, IsSorted, IsTag, IsValid, length, Less, Less-from_sorted, List, map, mask, nat_cmp, nat_lt, nat_tests, None, ordering_then, other, qualifier, rank, refl, subst, sym, Tag, tag_at, tag_cmp, tag_row, tags, unwrap_or, user, user_obj, zero, suc, ℕ, ◌*◌, ◌++◌, ◌%◌, ◌/◌, ◌-◌, ◌<◌, ◌^◌, ◌∙◌, ◌∷◌, ◌≡◌, ◌≤◌}
use Rattle.std.specs.List.{flat_map}
use Rattle.std.specs.Simd.{first_chunks}
use Rattle.std.specs.FinMap as fin
use Rattle.byteorder.specs.Numbers.{little_number-reads_back}
use Rattle.acl_posix.specs.Texts.{IsAcl}
use Rattle.byteorder.specs.Endian.{little_bytes}
use Rattle.acl_posix.specs.RawEntries.{AreEntries, entry_fault, raw_of, raw_pair, raw_pairs, raw_tag_number, undefined_id}
use Rattle.acl_posix.specs.Attribute.{attribute_bytes, attribute_raws, coded_number, entry_bytes, frame_fault, HoldsAcl, NeverFalls, stored_raw, tag_code}
use Rattle.acl_posix.proofs.tag.Tags.{length-tags_of}
use Rattle.acl_posix.proofs.sorting.ValidLists.{sorted_distinct}
use Rattle.acl_posix.proofs.sorted.Lists.{entries_sorted, set_of}

-- ---- one entry

-- a code means the number of its tag type
coded : (t : Tag) → coded_number (tag_code t) ≡ raw_tag_number t
coded user_obj = refl
coded (user id) = refl
coded group_obj = refl
coded (group id) = refl
coded mask = refl
coded other = refl

-- a code takes two bytes
code_below : (t : Tag) → tag_code t < 256 ^ 2
code_below user_obj = omega arith
code_below (user id) = omega arith
code_below group_obj = omega arith
code_below (group id) = omega arith
code_below mask = omega arith
code_below other = omega arith

-- an id takes four bytes
id_below : (t : Tag) → IsTag t → unwrap_or (tag_row t).qualifier undefined_id < 256 ^ 4
id_below user_obj h = omega arith
id_below (user id) h = omega (arith, h)
id_below group_obj h = omega arith
id_below (group id) h = omega (arith, h)
id_below mask h = omega arith
id_below other h = omega arith

-- bytes that begin with those of an entry mean its numbers
pub stored : (e : Tag × ℕ) (rest : List ℕ) → IsEntry e → stored_raw (entry_bytes e ++ rest) ≡ raw_of e
unfolding entry_bytes stored_raw
stored e rest h =
    let number : ℕ = unwrap_or (tag_row e.0).qualifier undefined_id in
    let tag = little_number-reads_back 2 (tag_code e.0) (little_bytes 2 e.1 ++ (little_bytes 4 number ++ rest))
    (code_below e.0) in
    let perm = little_number-reads_back 2 e.1 (little_bytes 4 number ++ rest) (omega (arith, h.1)) in
    let id = little_number-reads_back 4 number rest (id_below e.0 h.0) in
    λ i. record { tag = (ap coded_number tag ∙ coded e.0) i; id = id i; perm = perm i }

-- the numbers of an entry mean the entry
pub again : (t : Tag) (n : ℕ) → raw_pair (raw_of (t, n)) ≡ (t, n)
again user_obj n = refl
again (user id) n = refl
again group_obj n = refl
again (group id) n = refl
again mask n = refl
again other n = refl

-- a number is not above a number that is not less
pub not_above : (a n : ℕ) → n ≤ a → nat_lt a n ≡ false
not_above a n le = grind (arith, nat_tests)

-- nothing is wrong with the numbers of an entry
right : (t : Tag) (n : ℕ) → IsTag t → IsPerm n → entry_fault (raw_of (t, n)) ≡ None
right user_obj n h below = rw (not_above 7 n (omega (arith, below))) refl
right (user id) n h below = rw (not_above greatest_id id h, not_above 7 n (omega (arith, below))) refl
right group_obj n h below = rw (not_above 7 n (omega (arith, below))) refl
right (group id) n h below = rw (not_above greatest_id id h, not_above 7 n (omega (arith, below))) refl
right mask n h below = rw (not_above 7 n (omega (arith, below))) refl
right other n h below = rw (not_above 7 n (omega (arith, below))) refl

-- ---- all entries

-- the bytes of entries are eight each
pub bytes_length : (ps : List (Tag × ℕ)) → length (flat_map entry_bytes ps) ≡ 8 * length ps
unfolding entry_bytes
bytes_length [] = refl
bytes_length (p ∷ ps) = let rest = bytes_length ps in omega (arith, rest)

-- the bytes of entries mean their numbers
all_stored : (ps : List (Tag × ℕ)) → All IsEntry ps
    → map stored_raw (first_chunks 8 (length ps) (flat_map entry_bytes ps)) ≡ map raw_of ps
unfolding entry_bytes
all_stored [] h = refl
all_stored (p ∷ ps) h = λ i. stored p [] (h 0 p (omega arith)) i
    ∷ all_stored ps (λ k d lt. h (suc k) d (omega (arith, lt))) i

-- the numbers of entries mean the entries
all_again : (ps : List (Tag × ℕ)) → raw_pairs (map raw_of ps) ≡ ps
all_again [] = refl
all_again (p ∷ ps) = λ i. again p.0 p.1 i ∷ all_again ps i

-- nothing is wrong with the numbers of entries
all_right : (ps : List (Tag × ℕ)) → All IsEntry ps → AreEntries (map raw_of ps)
all_right [] h place lt = absurd (omega (arith, lt))
all_right (p ∷ ps) h zero lt = let e = h 0 p (omega arith) in right p.0 p.1 e.0 e.1
all_right (p ∷ ps) h (suc place) lt = all_right ps (λ k d below. h (suc k) d (omega (arith, below))) place
    (omega (arith, lt))

-- two numbers that come before two others do not begin with a greater one
not_greater : (a b x y : ℕ) → ordering_then (nat_cmp a b) (nat_cmp x y) ≡ Less → b < a → ⊥
not_greater a b x y before above = grind arith

-- a tag that comes before another is not of a later type
before_not_later : (s t : Tag) → tag_cmp s t ≡ Less → rank t < rank s → ⊥
before_not_later s t before later = not_greater (rank s) (rank t) (qualifier s) (qualifier t) before later

-- the tag types of a list in canonical order never fall
pub sorted_rises : (ps : List (Tag × ℕ)) → IsSorted ps → NeverFalls ps
sorted_rises ps sorted place lt fall = before_not_later (tag_at ps (place - 1)) (tag_at ps place)
    (Less-from_sorted tag_cmp (tags ps) (place - 1) place other sorted (omega (arith, fall.later))
    (omega (arith, lt, length-tags_of ps))) fall.falls

-- the numbers that are written for an ACL
written : (acl : Entries) → IsAcl acl → attribute_raws (attribute_bytes acl) ≡ map raw_of (fin.entries acl)
written acl h =
    let ps : List (Tag × ℕ) = fin.entries acl in
    let count : length (flat_map entry_bytes ps) / 8 ≡ length ps = omega (arith, bytes_length ps) in
    ap (λ n. map stored_raw (first_chunks 8 n (flat_map entry_bytes ps))) count ∙ all_stored ps h.within

-- the version that is written, and a whole number of entries
framed : (body : List ℕ) (n : ℕ) → length body ≡ 8 * n → frame_fault (little_bytes 4 2 ++ body) ≡ None
framed body n size =
    let long : nat_lt (length (little_bytes 4 2 ++ body)) 4 ≡ false = not_above _ 4 (omega arith) in
    let whole : (length (little_bytes 4 2 ++ body) - 4) % 8 ≡ 0 = omega (arith, size) in rw (long, whole) refl

-- what is written for an ACL means that ACL
pub reads_back : (acl : Entries) → IsAcl acl → HoldsAcl (attribute_bytes acl) acl
reads_back acl h =
    let ps : List (Tag × ℕ) = fin.entries acl in
    let pairs_are : raw_pairs (attribute_raws (attribute_bytes acl)) ≡ ps = ap raw_pairs (written acl h)
    ∙ all_again ps in
    let set_is : as_set (raw_pairs (attribute_raws (attribute_bytes acl))) ≡ acl = set_of acl _ pairs_are in
    record {
      frame = framed (flat_map entry_bytes ps) (length ps) (bytes_length ps);
      order = subst NeverFalls (sym pairs_are) (sorted_rises ps (entries_sorted acl));
      valid = record {
        entries = subst AreEntries (sym (written acl h)) (all_right ps h.within);
        valid = record {
          distinct = subst IsDistinct (sym pairs_are) (sorted_distinct ps (entries_sorted acl));
          complete = subst IsValid (sym set_is) h.valid;
        };
      };
      is = sym set_is;
    }
