-- The test of two lists of entries decides whether their sets are equal.
use Rattle.acl_posix.proofs.Common.{acls_of, and_true, ap, Bool, default_acls, Entries, Entry, eq_by_cmp, List, nat_eq, None, Option, pair_of, pairs, pointwise, PosixFile, refl, same_entry, same_file, same_set, slice_eq-Decides, Some, sym, Tag, tag_cmp, tags_total, tied_itself, true, unsigned_Decides, ℕ, ◌∙◌, ◌∷◌, ◌≡◌}
use Rattle.std.specs.Bool.{Decides}
use Rattle.std.specs.Cmp.Derive.Mapped.{pointwise-map}
use Rattle.std.specs.FinMap as fin
use Rattle.acl_posix.proofs.tag.Tags.{same_tag}

-- lists of entries are compared as lists of pairs, if entries are compared as pairs
pub same_lists : (E : Entry → Entry → Bool) → ((a b : Entry) → E a b ≡ same_entry (pair_of a) (pair_of b))
    → (xs ys : List Entry) → pointwise E xs ys ≡ pointwise same_entry (pairs xs) (pairs ys)
same_lists E heads xs ys = (λ i. pointwise (λ a b. heads a b i) xs ys) ∙ sym (pointwise-map pair_of same_entry xs ys)

-- the test of two entries decides whether they are equal
entry_decides : (a b : Tag × ℕ) → Decides (same_entry a b) (a ≡ b)
entry_decides a b = (
  (λ h. let both = and_true (eq_by_cmp tag_cmp a.0 b.0) (nat_eq a.1 b.1) h in
      λ i. (same_tag a.0 b.0 both.0 i, (unsigned_Decides a.1 b.1).0 both.1 i)),
  (λ e. (let itself : same_entry a a ≡ true = rw (tied_itself tags_total a.0, (unsigned_Decides a.1 a.1).1 refl) refl in
      ap (λ (x : Tag × ℕ). same_entry a x) (sym e) ∙ itself)),
)

-- the test of two sets of entries decides whether they are equal
pub set_decides : (D E : Entries) → Decides (same_set D E) (D ≡ E)
set_decides D E =
    let lists = slice_eq-Decides entry_decides (fin.entries D) (fin.entries E) (same_set D E) refl in (
      (λ h. fin.same_entries_map D E (lists.0 h)),
      (λ e. lists.1 (ap (λ (s : Entries). fin.entries s) e)),
    )

-- lists of ACLs that are equal have the same ACLs
same_acls : (a b : Entries) (c d : Option Entries) → a ∷ default_acls c ≡ b ∷ default_acls d → (a ≡ b) × (c ≡ d)
same_acls a b None None e = (cc, refl)
same_acls a b (Some x) (Some y) e = (cc, cc)
same_acls a b c d e = absurd cc

-- the test of two files decides whether they are equal
pub file_decides : (one two : PosixFile) → Decides (same_file one two) (one ≡ two)
file_decides one two =
    let lists = slice_eq-Decides set_decides (acls_of one) (acls_of two) (same_file one two) refl in (
      (λ h. let same = same_acls one.access two.access one.default two.default (lists.0 h) in
          λ i. record { access = same.0 i; default = same.1 i }),
      (λ e. lists.1 (ap (λ (f : PosixFile). acls_of f) e)),
    )

-- a test of the lists that have the entries of two sets is the test of the sets
pub by_lists : (D E : Entries) {xs ys : List (Tag × ℕ)} {r : Bool} → xs ≡ fin.entries D → ys ≡ fin.entries E
    → r ≡ pointwise same_entry xs ys → r ≡ same_set D E
by_lists D E d e is = is ∙ (λ i. pointwise same_entry (d i) (e i))
