-- How many entries an ACL can have.
use Rattle.std.proofs.Common.{◌≡◌, ◌+◌, ◌≤◌, ℕ, List, [], ◌∷◌, length, arith}
use Rattle.std.specs.FinMap as fin
use Rattle.std.specs.List.{All, AllByRecursion}
unfoldable use Rattle.std.specs.List.Sorted.{IsStrictlySortedBy}
use Rattle.std.specs.declared.cmp.Ordering.TheVariants.{Less}
use Rattle.std.proofs.lemmas.List.Elements.{recursion_from_All}
use Rattle.acl_posix.proofs.Exports.{entries_sorted, less_rises, number, qualifier_below, rank_below}
use Rattle.acl_posix.specs.Entries.{Entries, IsEntry, IsSorted, tags}
use Rattle.acl_posix.specs.Tag.{IsTag, Tag, tag_cmp}
use Rattle.acl_forms.specs.internal.AttributeEntries.{most_entries}

-- entries in canonical order after a tag are no more than the numbers above its number
count_after : (last : Tag) (es : List (Tag × ℕ)) → IsTag last → AllByRecursion IsEntry es
    → AllByRecursion (λ t. tag_cmp last t ≡ Less) (tags es) → IsSorted es
    → number last + 1 + length es ≤ most_entries
unfolding IsStrictlySortedBy
count_after last [] of_last within above sorted = omega (arith, rank_below last, qualifier_below last of_last)
count_after last (e ∷ es) of_last within above sorted =
    let lt = less_rises last e.0 of_last within.0.0 above.0 in
    let rest = count_after e.0 es within.0.0 within.1 sorted.0 sorted.1 in omega (arith, lt, rest)

-- entries in canonical order are no more than there are numbers
count_all : (es : List (Tag × ℕ)) → AllByRecursion IsEntry es → IsSorted es → length es ≤ most_entries
unfolding IsStrictlySortedBy
count_all [] within sorted = omega arith
count_all (e ∷ es) within sorted =
    let rest = count_after e.0 es within.0.0 within.1 sorted.0 sorted.1 in omega (arith, rest)

-- an ACL has at most six entries for each number of 32 bits
pub few_entries : (acl : Entries) → All IsEntry (fin.entries acl) → length (fin.entries acl) ≤ most_entries
few_entries acl within =
    count_all (fin.entries acl) (recursion_from_All IsEntry (fin.entries acl) within) (entries_sorted acl)
