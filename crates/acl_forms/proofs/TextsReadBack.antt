-- Texts of one entry a line are read again, line by line.
use Rattle.std.proofs.Common.{◌≡◌, ◌∙◌, ◌+◌, ◌<◌, ◌≤◌, ℕ, true, false, List, [], ◌∷◌, ◌++◌, length, Result, Ok, refl, ap, subst, arith, append-nil, append_assoc, length-append}
use Rattle.std.specs.Prelude.{◌==◌, count_ones, map, not}
use Rattle.std.specs.List.{All, AllByRecursion, flat_map, list_all, slice_split}
use Rattle.std.proofs.lemmas.List.Concat.{flat_map-cons}
use Rattle.std.proofs.lemmas.List.Folds.{list_all-append}
use Rattle.std.proofs.lemmas.List.Splits.{slice_split_at}
use Rattle.std.proofs.lemmas.List.Sums.{sum_by_push}
use Rattle.std.proofs.lemmas.Bool.{and_from}
use Rattle.acl_perm.specs.Ascii.{line_feed}
use Rattle.acl_perm.specs.Lines.{cut_at, Span, spans}
use Rattle.acl_nfs4.proofs.Exports.{weight-cons}
use Rattle.acl_nfs4.specs.Ace.{Ace}
use Rattle.acl_nfs4.specs.Limits.{most_aces, most_weight}
use Rattle.acl_nfs4.specs.Spelling.{weight}
use Rattle.acl_forms.specs.Texts.{AddEach, line_items, TextRules}
use Rattle.acl_forms.specs.declared.fault.ReadFault.{ReadFault}

-- a part at a place
abbrev pub part_at : ℕ → List ℕ → Span
part_at column bytes = record { column = column; bytes = bytes }

-- a line is one entry, which is read as an ACE wherever the line is
pub record IsReadBack (rules : TextRules Ace) (text : List ℕ) (a : Ace) : Type 0 where
  pub in_line : All (λ b. (b == line_feed) ≡ false) text
  pub item : (column : ℕ) → line_items rules (part_at column text) ≡ Ok (part_at column text) ∷ []
  pub again : (list : List Ace) (column : ℕ) → length list < most_aces → weight list + count_ones a.mask ≤ most_weight
      → rules.entry list (part_at column text) ≡ Ok a

-- the line of an ACE with this entry
abbrev pub line_by : (Ace → List ℕ) → Ace → List ℕ
line_by entry a = entry a ++ line_feed ∷ []

-- the items of the lines of ACEs, from a place on
abbrev pub items_from : TextRules Ace → (Ace → List ℕ) → ℕ → List Ace → List (Result Span ReadFault)
items_from rules entry column list =
    flat_map (line_items rules) (cut_at line_feed (part_at column (flat_map (line_by entry) list)))

-- the items of a written text are its first entry, and the items of the rest
items_again : (rules : TextRules Ace) (entry : Ace → List ℕ) (column : ℕ) (a b : Ace) (list : List Ace)
    → IsReadBack rules (entry a) b
    → items_from rules entry column (a ∷ list)
    ≡ Ok (part_at column (entry a)) ∷ items_from rules entry (column + length (entry a) + 1) list
unfolding cut_at
items_again rules entry column a b list h =
    let bytes = entry a in
    let more = flat_map (line_by entry) list in
    let split : slice_split (λ b. b == line_feed) (flat_map (line_by entry) (a ∷ list))
    ≡ bytes ∷ slice_split (λ b. b == line_feed) more =
    ap (slice_split (λ b. b == line_feed))
    (flat_map-cons (line_by entry) a list ∙ append_assoc bytes (line_feed ∷ []) more)
    ∙ slice_split_at (λ b. b == line_feed) bytes line_feed more h.in_line refl in
    ap (λ (parts : List (List ℕ)). flat_map (line_items rules) (spans column parts)) split
    ∙ flat_map-cons (line_items rules) (part_at column bytes) _
    ∙ ap (λ (items : List (Result Span ReadFault)). items
    ++ items_from rules entry (column + length bytes + 1) list) (h.item column)

-- what is written is read again, entry by entry
pub each_again : (rules : TextRules Ace) (entry : Ace → List ℕ) (written : Ace
    → Ace) (list more : List Ace) (column : ℕ)
    → ((c : ℕ) → line_items rules (part_at c []) ≡ []) → ((a : Ace) → (written a).mask ≡ a.mask)
    → AllByRecursion (λ a. IsReadBack rules (entry a) (written a)) more
    → length list + length more ≤ most_aces → weight list + weight more ≤ most_weight
    → AddEach rules list (items_from rules entry column more) (list ++ map written more)
unfolding cut_at
each_again rules entry written list [] column empty same each room light = rw (empty column) (append-nil list)
each_again rules entry written list (a ∷ more) column empty same each room light =
    let w = weight-cons a more in
    let mask : count_ones (written a).mask ≡ count_ones a.mask = ap count_ones (same a) in
    let one = each.0.again list column (omega (arith, room)) (omega (arith, w, light, mask)) in
    let pushed = sum_by_push (λ (x : Ace). count_ones x.mask) list (written a) in
    let rest = each_again rules entry written (list ++ written a ∷ []) more (column + length (entry a) + 1) empty same
    each.1 (omega (arith, room, length-append list (written a ∷ []))) (omega (arith, w, pushed, light, mask)) in
    rw (items_again rules entry column a (written a) more each.0) (
      written a,
      one,
      subst (AddEach rules (list ++ written a ∷ []) _)
          (append_assoc list (written a ∷ []) (map written more)) rest,
    )

-- if no line has a zero byte, no text has one
pub no_nul : (line : Ace → List ℕ) (list : List Ace)
    → AllByRecursion (λ a. list_all (λ b. not (b == 0)) (line a) ≡ true) list
    → list_all (λ b. not (b == 0)) (flat_map line list) ≡ true
no_nul line [] each = refl
no_nul line (a ∷ list) each =
    ap (list_all (λ b. not (b == 0))) (flat_map-cons line a list)
    ∙ list_all-append (λ b. not (b == 0)) (line a) (flat_map line list)
    ∙ and_from _ _ each.0 (no_nul line list each.1)
