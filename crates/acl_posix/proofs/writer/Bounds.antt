-- The bytes of a text of ACLs can be counted: the tags of a sorted list rise, so there are at most 6 * 2^32 entries.
use Rattle.acl_posix.proofs.Common.{[], AclTextForm, All, AllByRecursion, arith, Bool, decimal, effective_of, ending, Entries, entry_lead, entry_out, entry_text, false, form_word, IfSome, IsEntry, IsId, IsStrictlySortedBy, IsTag, length, length-append, length-decimal-le, length-take, Less, List, long_word, None, Option, option_map, Part, part_limit, part_out, perm_text, qualifier_text, recursion_from_All, Short, Some, Tag, tag_cmp, tag_row, tags, TagWord, unwrap_or, word_text, ℕ, ◌*◌, ◌++◌, ◌+◌, ◌<◌, ◌∷◌, ◌≡◌, ◌≤◌}
use Rattle.std.specs.FinMap as fin
use Rattle.acl_posix.proofs.tag.Tags.{length-tags_of, less_rises, number, qualifier_below, rank_below}
use Rattle.acl_posix.proofs.sorted.Lists.{entries_sorted}
use Rattle.acl_posix.specs.internal.Packed.{most_entries}

-- ---- an entry

-- the bytes before an entry are at most eight
lead_short : (form : AclTextForm) (part : Part) (first : Bool) → length (entry_lead form part first) ≤ 8
lead_short form part first = grind arith

-- a tag word in full has at most five bytes
text_short : (word : TagWord) → length (word_text word) ≤ 5
text_short word = grind arith

-- the word of a tag has at most five bytes in each form
word_short : (form : AclTextForm) (t : Tag) → length (form_word form t) ≤ 5
word_short Short t = let long = length-take 1 (long_word t) in omega (arith, long, text_short (tag_row t).word)
word_short form t = text_short (tag_row t).word

-- an id in decimal, or nothing, has at most 20 bytes
digits_short : (number : Option ℕ) → IfSome number IsId → length (unwrap_or (option_map decimal number) []) ≤ 20
digits_short None h = omega arith
digits_short (Some id) h = length-decimal-le 20 id (omega arith) (omega (arith, h)) (omega (arith, h))

-- the bytes after an entry are at most 16
ending_short : (form : AclTextForm) (eff perm : ℕ) → length (ending form eff perm) ≤ 16
ending_short form eff perm = grind arith

-- what is written for an entry has at most 64 bytes
out_short : (form : AclTextForm) (part : Part) (first : Bool) (eff : ℕ) (e : Tag × ℕ) → IsEntry e
    → length (entry_out form part first eff e) ≤ 64
unfolding entry_out
out_short form part first eff e h =
    let w = form_word form e.0 in
    let q = qualifier_text e.0 in
    let a = length-append (entry_lead form part first) (entry_text w e ++ ending form eff e.1) in
    let b = length-append (entry_text w e) (ending form eff e.1) in
    let c = length-append w (58 ∷ (q ++ 58 ∷ perm_text e.1)) in
    let d = length-append q (58 ∷ perm_text e.1) in
    let few = digits_short (tag_row e.0).qualifier h.0 in
    omega (arith, a, b, c, d, lead_short form part first, word_short form e.0, few, ending_short form eff e.1)

-- what is written for the entries of a part has at most 64 bytes per entry
part_short : (form : AclTextForm) (part : Part) (acl : Entries) (first : Bool) (es : List (Tag × ℕ))
    → AllByRecursion IsEntry es → length (part_out form part acl first es) ≤ 64 * length es
part_short form part acl first [] h = omega arith
part_short form part acl first (e ∷ es) h =
    let n = length-append (entry_out form part first (effective_of acl e) e) (part_out form part acl false es) in
    omega (arith, n, out_short form part first (effective_of acl e) e h.0, part_short form part acl false es h.1)

-- ---- how many entries there are

-- tags after a tag have greater numbers than it
numbers_above : (a : Tag) (ts : List Tag) → IsTag a → AllByRecursion IsTag ts
    → AllByRecursion (λ t. tag_cmp a t ≡ Less) ts → AllByRecursion (λ t. number a + 1 ≤ number t) ts
numbers_above a [] ha hs h = tt
numbers_above a (t ∷ ts) ha hs h = (omega (arith, less_rises a t ha hs.0 h.0), numbers_above a ts ha hs.1 h.1)

-- there are at most as many rising tags as numbers from a lower bound of theirs to the limit
count_from : (low : ℕ) (ts : List Tag) → low ≤ most_entries → AllByRecursion (λ t. low ≤ number t) ts
    → AllByRecursion IsTag ts → IsStrictlySortedBy tag_cmp ts → low + length ts ≤ most_entries
unfolding IsStrictlySortedBy
count_from low [] le h within sorted = omega (arith, le)
count_from low (t ∷ ts) le h within sorted =
    let room : number t + 1 ≤ most_entries = omega (arith, rank_below t, qualifier_below t within.0) in
    let rest = count_from (number t + 1) ts room (numbers_above t ts within.0 within.1 sorted.0) within.1 sorted.1 in
    omega (arith, rest, h.0)

-- the number of a tag is at least 0
all_above_0 : (ts : List Tag) → AllByRecursion (λ t. 0 ≤ number t) ts
all_above_0 [] = tt
all_above_0 (t ∷ ts) = (omega arith, all_above_0 ts)

-- the tags of entries within the limits are within the limits
tags_within : (es : List (Tag × ℕ)) → AllByRecursion IsEntry es → AllByRecursion IsTag (tags es)
tags_within [] h = tt
tags_within (e ∷ es) h = (h.0.0, tags_within es h.1)

-- the bytes of a part are fewer than the limit
pub part_under : (form : AclTextForm) (part : Part) (acl : Entries) (first : Bool) → All IsEntry (fin.entries acl)
    → length (part_out form part acl first (fin.entries acl)) < part_limit
part_under form part acl first h =
    let within = recursion_from_All IsEntry (fin.entries acl) h in
    let count = count_from 0 (tags (fin.entries acl)) (omega arith) (all_above_0 (tags (fin.entries acl)))
    (tags_within (fin.entries acl) within) (entries_sorted acl) in
    omega (arith, count, length-tags_of (fin.entries acl), part_short form part acl first (fin.entries acl) within)
