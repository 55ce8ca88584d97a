-- Texts of FreeBSD and of archives are read again with each separator of their entries.
use Rattle.std.proofs.Common.{◌≡◌, ◌∙◌, ◌+◌, ◌<◌, ◌≤◌, ℕ, Bool, true, false, List, [], ◌∷◌, ◌++◌, length, Ok, refl, ap, subst, arith, append-nil, append_assoc, length-append}
use Rattle.std.specs.Prelude.{◌&&◌, ◌==◌, count_ones, map, not}
use Rattle.std.specs.List.{AllByRecursion, flat_map, list_all, slice_split}
use Rattle.std.proofs.lemmas.Bool.Decides.{nat_tests}
use Rattle.std.proofs.lemmas.List.Concat.{flat_map-cons}
use Rattle.std.proofs.lemmas.List.Folds.{list_all-append}
use Rattle.std.proofs.lemmas.List.Splits.{slice_split_at, slice_split_none}
use Rattle.std.proofs.lemmas.List.Sums.{sum_by_push}
use Rattle.std.proofs.lemmas.Bool.{and_from}
use Rattle.acl_perm.proofs.Bools.{and_true}
use Rattle.acl_perm.specs.Ascii.{comma, comment_mark, line_feed}
use Rattle.acl_perm.specs.Lines.{cut_at, is_all_blank, is_blank, spans, Span}
use Rattle.acl_nfs4.proofs.Exports.{all_weaker, weight-cons}
use Rattle.acl_nfs4.specs.Ace.{Ace}
use Rattle.acl_nfs4.specs.Limits.{most_aces, most_weight}
use Rattle.acl_nfs4.specs.Spelling.{weight}
use Rattle.acl_forms.specs.NfsRules.{nfs_rules}
use Rattle.acl_forms.specs.NfsText.{nfs_entry}
use Rattle.acl_forms.specs.NfsWritten.{separated}
use Rattle.acl_forms.specs.Texts.{AddEach, cut_entries, entries_among, items_in, items_of, line_items}
use Rattle.acl_forms.specs.declared.style.EntrySeparator.{EntrySeparator}
use Rattle.acl_forms.specs.declared.style.EntrySeparator.TheVariants.{Commas, LineFeeds}
use Rattle.acl_forms.specs.declared.who_field.WhoField.{WhoField}
use Rattle.acl_forms.proofs.TextsReadBack.{each_again, part_at, IsReadBack}
use Rattle.acl_forms.proofs.ToolsEntriesReadBack.{all_not, is_inside, no_place}
use Rattle.acl_forms.proofs.ToolsReadBack.{no_mark}

-- an entry that ends neither its line nor itself is read as an ACE wherever it is
pub record IsEntryReadBack (by : WhoField) (text : List ℕ) (a : Ace) : Type 0 where
  pub inside : list_all is_inside text ≡ true
  pub some : is_all_blank text ≡ false
  pub again : (list : List Ace) (column : ℕ) → length list < most_aces → weight list + count_ones a.mask ≤ most_weight
      → nfs_entry by list (part_at column text) ≡ Ok a

-- ---- the bytes of a text

-- texts one after the other pass a test that each of them passes
each_pass : (test : ℕ → Bool) (text : Ace → List ℕ) (list : List Ace)
    → AllByRecursion (λ a. list_all test (text a) ≡ true) list → list_all test (flat_map text list) ≡ true
each_pass test text [] each = refl
each_pass test text (a ∷ list) each =
    ap (list_all test) (flat_map-cons text a list) ∙ list_all-append test (text a) (flat_map text list)
    ∙ and_from _ _ each.0 (each_pass test text list each.1)

-- with a byte after it that passes a test, a text passes the test
after_pass : (test : ℕ → Bool) (mark : ℕ) (entry : Ace → List ℕ) (list : List Ace) → test mark ≡ true
    → AllByRecursion (λ a. list_all test (entry a) ≡ true) list
    → AllByRecursion (λ a. list_all test (entry a ++ mark ∷ []) ≡ true) list
after_pass test mark entry [] one each = tt
after_pass test mark entry (a ∷ list) one each =
    (list_all-append test (entry a) (mark ∷ []) ∙ rw (each.0, one) refl, after_pass test mark entry list one each.1)

-- with a byte before it that passes a test, a text passes the test
before_pass : (test : ℕ → Bool) (mark : ℕ) (entry : Ace → List ℕ) (list : List Ace) → test mark ≡ true
    → AllByRecursion (λ a. list_all test (entry a) ≡ true) list
    → AllByRecursion (λ a. list_all test (mark ∷ entry a) ≡ true) list
before_pass test mark entry [] one each = tt
before_pass test mark entry (a ∷ list) one each =
    (rw (one, each.0) refl, before_pass test mark entry list one each.1)

-- a text passes a test that its entries and what separates them pass
pub separated_pass : (test : ℕ → Bool) → test line_feed ≡ true → test comma ≡ true → (separator : EntrySeparator)
    (entry : Ace → List ℕ) (list : List Ace) → AllByRecursion (λ a. list_all test (entry a) ≡ true) list
    → list_all test (separated separator entry list) ≡ true
separated_pass test feed mark LineFeeds entry list each =
    each_pass test (λ a. entry a ++ line_feed ∷ []) list (after_pass test line_feed entry list feed each)
separated_pass test feed mark Commas entry [] each = refl
separated_pass test feed mark Commas entry (a ∷ list) each =
    list_all-append test (entry a) (flat_map (λ b. comma ∷ entry b) list)
    ∙ and_from _ _ each.0 (each_pass test (λ b. comma ∷ entry b) list
    (before_pass test comma entry list mark each.1))

-- ---- commas between entries

-- a byte that ends no line and begins no comment
abbrev is_in_line : ℕ → Bool
is_in_line b = not (b == line_feed) && not (b == comment_mark)

-- the entries are in their line
all_in_line : (by : WhoField) (entry : Ace → List ℕ) (written : Ace → Ace) (list : List Ace)
    → AllByRecursion (λ a. IsEntryReadBack by (entry a) (written a)) list
    → AllByRecursion (λ a. list_all is_in_line (entry a) ≡ true) list
all_in_line by entry written [] each = tt
all_in_line by entry written (a ∷ list) each = (
  all_weaker is_inside is_in_line (entry a) (λ b h. in_line b h) each.0.inside,
  all_in_line by entry written list each.1,
) where
  in_line : (b : ℕ) → is_inside b ≡ true → is_in_line b ≡ true
  in_line b h = grind (arith, nat_tests, h)

-- an entry ends at no comma in it
no_end : (text : List ℕ) → list_all is_inside text ≡ true → list_all (λ b. not (b == comma)) text ≡ true
no_end text inside = all_weaker is_inside (λ b. not (b == comma)) text (λ b h. no_comma b h) inside where
  no_comma : (b : ℕ) → is_inside b ≡ true → not (b == comma) ≡ true
  no_comma b h = grind (arith, nat_tests, h)

-- the parts between the commas are the entries
comma_split : (by : WhoField) (entry : Ace → List ℕ) (written : Ace → Ace) (a : Ace) (list : List Ace)
    → AllByRecursion (λ a. IsEntryReadBack by (entry a) (written a)) (a ∷ list)
    → slice_split (λ b. b == comma) (separated Commas entry (a ∷ list)) ≡ map entry (a ∷ list)
comma_split by entry written a [] each =
    ap (slice_split (λ b. b == comma)) (append-nil (entry a))
    ∙ slice_split_none (λ b. b == comma) (entry a)
    (all_not (λ b. b == comma) (entry a) (no_end (entry a) each.0.inside))
comma_split by entry written a (b ∷ list) each =
    ap (λ (more : List ℕ). slice_split (λ b. b == comma) (entry a ++ more))
    (flat_map-cons (λ b. comma ∷ entry b) b list)
    ∙ slice_split_at (λ b. b == comma) (entry a) comma (separated Commas entry (b ∷ list))
    (all_not (λ b. b == comma) (entry a) (no_end (entry a) each.0.inside)) refl
    ∙ ap (λ (parts : List (List ℕ)). entry a ∷ parts) (comma_split by entry written b list each.1)

-- no part is passed over
all_kept : (by : WhoField) (parts : List Span) → entries_among (nfs_rules by) parts ≡ parts
all_kept by [] = refl
all_kept by (part ∷ parts) = ap (λ (rest : List Span). part ∷ rest) (all_kept by parts)

-- the items of a text with commas are its entries
comma_items : (by : WhoField) (entry : Ace → List ℕ) (written : Ace → Ace) (a : Ace) (list : List Ace)
    → AllByRecursion (λ a. IsEntryReadBack by (entry a) (written a)) (a ∷ list)
    → items_in (nfs_rules by) (separated Commas entry (a ∷ list)) ≡ items_of (spans 0 (map entry (a ∷ list)))
unfolding cut_at cut_entries line_items
comma_items by entry written a list each =
    let text = separated Commas entry (a ∷ list) in
    let inside = separated_in_line by entry written a list each in
    let feed = slice_split_none (λ b. b == line_feed) text (all_not (λ b. b == line_feed) text
    (all_weaker is_in_line (λ b. not (b == line_feed)) text (λ b h. (and_true (not (b == line_feed)) _ h).0) inside)) in
    let mark = no_place (λ b. b == comment_mark) text
    (all_weaker is_in_line (λ b. not (b == comment_mark)) text
    (λ b h. (and_true (not (b == line_feed)) _ h).1) inside) in
    let some : is_all_blank text ≡ false =
    list_all-append is_blank (entry a) (flat_map (λ b. comma ∷ entry b) list) ∙ rw each.0.some refl in
    rw (feed, mark, some, comma_split by entry written a list each)
    (append-nil _ ∙ ap items_of (all_kept by (spans 0 (map entry (a ∷ list))))) where
      separated_in_line : (by : WhoField) (entry : Ace → List ℕ) (written : Ace → Ace) (a : Ace) (list : List Ace)
          → AllByRecursion (λ a. IsEntryReadBack by (entry a) (written a)) (a ∷ list)
          → list_all is_in_line (separated Commas entry (a ∷ list)) ≡ true
      separated_in_line by entry written a list each =
          let pass = all_in_line by entry written (a ∷ list) each in
          list_all-append is_in_line (entry a) (flat_map (λ b. comma ∷ entry b) list)
          ∙ and_from _ _ pass.0 (each_pass is_in_line (λ b. comma ∷ entry b) list
          (before_pass is_in_line comma entry list refl pass.1))

-- entries that are read again add their ACEs
entries_add : (by : WhoField) (entry : Ace → List ℕ) (written : Ace → Ace) (list more : List Ace) (column : ℕ)
    → ((a : Ace) → (written a).mask ≡ a.mask) → AllByRecursion (λ a. IsEntryReadBack by (entry a) (written a)) more
    → length list + length more ≤ most_aces → weight list + weight more ≤ most_weight
    → AddEach (nfs_rules by) list (items_of (spans column (map entry more))) (list ++ map written more)
entries_add by entry written list [] column same each room light = append-nil list
entries_add by entry written list (a ∷ more) column same each room light =
    let w = weight-cons a more in
    let mask : count_ones (written a).mask ≡ count_ones a.mask = ap count_ones (same a) in
    let one = each.0.again list column (omega (arith, room)) (omega (arith, w, light, mask)) in
    let pushed = sum_by_push (λ (x : Ace). count_ones x.mask) list (written a) in
    let rest = entries_add by entry written (list ++ written a ∷ []) more (column + length (entry a) + 1) same each.1
    (omega (arith, room, length-append list (written a ∷ []))) (omega (arith, w, pushed, light, mask)) in (
      written a,
      one,
      subst (AddEach (nfs_rules by) (list ++ written a ∷ []) _)
          (append_assoc list (written a ∷ []) (map written more)) rest,
    )

-- ---- each separator

-- an entry alone in its line is read again
line_again : (by : WhoField) (text : List ℕ) (a : Ace) → IsEntryReadBack by text a → IsReadBack (nfs_rules by) text a
unfolding line_items cut_entries
line_again by text a h =
    let mark =
    no_place (λ b. b == comment_mark) text
    (all_weaker is_inside (λ b. not (b == comment_mark)) text (λ b i. no_mark b i) h.inside) in
    let whole = slice_split_none (λ b. b == comma) text (all_not (λ b. b == comma) text (no_end text h.inside)) in
    record {
      in_line = all_not (λ b. b == line_feed) text (all_weaker is_inside (λ b. not (b == line_feed)) text
          (λ b i. (and_true (not (b == line_feed)) _ i).0) h.inside);
      item = λ column. rw (mark, h.some, whole) refl;
      again = h.again;
    }

-- each entry alone in its line is read again
lines_again : (by : WhoField) (entry : Ace → List ℕ) (written : Ace → Ace) (list : List Ace)
    → AllByRecursion (λ a. IsEntryReadBack by (entry a) (written a)) list
    → AllByRecursion (λ a. IsReadBack (nfs_rules by) (entry a) (written a)) list
lines_again by entry written [] each = tt
lines_again by entry written (a ∷ list) each =
    (line_again by (entry a) (written a) each.0, lines_again by entry written list each.1)

-- an empty line has no items
no_items : (by : WhoField) (column : ℕ) → line_items (nfs_rules by) (part_at column []) ≡ []
unfolding line_items
no_items by column = refl

-- entries that are read again spell their ACEs with each separator
pub separated_again : (by : WhoField) (separator : EntrySeparator) (entry : Ace → List ℕ) (written : Ace → Ace)
    (list : List Ace) → ((a : Ace) → (written a).mask ≡ a.mask)
    → AllByRecursion (λ a. IsEntryReadBack by (entry a) (written a)) list
    → length list ≤ most_aces → weight list ≤ most_weight
    → AddEach (nfs_rules by) [] (items_in (nfs_rules by) (separated separator entry list)) (map written list)
separated_again by LineFeeds entry written list same each room light =
    each_again (nfs_rules by) entry written [] list 0 (no_items by) same (lines_again by entry written list each)
    (omega (arith, room)) (omega (arith, light))
separated_again by Commas entry written [] same each room light =
    each_again (nfs_rules by) entry written [] [] 0 (no_items by) same tt (omega arith) (omega (arith, light))
separated_again by Commas entry written (a ∷ list) same each room light =
    rw (comma_items by entry written a list each)
    (entries_add by entry written [] (a ∷ list) 0 same each (omega (arith, room)) (omega (arith, light)))
