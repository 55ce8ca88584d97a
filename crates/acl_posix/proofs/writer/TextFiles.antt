-- A text whose pieces spell the entries of a file reads back as that file.
use Rattle.acl_posix.proofs.Common.{[], Access, access_of, All, All-append, All-from_recursion, All-map, AllByRecursion, ap, Default, default_entries, default_of, Entries, IsAclOf, IsDefault, IsDefaultOf, IsEntry, IsFile, List, map, missing, None, Option, Part, PartEntry, pieces_of, PosixFile, Reads, recursion_from_All, refl, Some, SpellAll, subst, sym, Table, Tag, tag_cmp, user_obj, ℕ, ◌++◌, ◌∙◌, ◌∷◌, ◌≡◌}
use Rattle.std.specs.FinMap as fin
use Rattle.acl_posix.proofs.sorting.ValidLists.{sorted_distinct}
use Rattle.acl_posix.proofs.sorted.Lists.{entries_sorted, set_of}

-- ---- the entries of a file

-- entries with the part that they belong to
abbrev pub in_part : Part → List (Tag × ℕ) → List PartEntry
in_part part es = map (λ e. (part, e)) es

-- the entries of a file, in canonical order, first those of the access part
abbrev pub entries_of : PosixFile → List PartEntry
entries_of F = in_part Access (fin.entries F.access) ++ in_part Default (default_entries F.default)

-- entries are within the limits of ids and permissions
abbrev pub Within : List PartEntry → Type 0
Within es = AllByRecursion (λ e. IsEntry e.1) es

-- the entries of a default ACL, if there is one, are within the limits
default_within : (d : Option Entries) → IsDefault d → All IsEntry (default_entries d)
default_within None h = All-from_recursion IsEntry [] tt
default_within (Some E) h = h.within

-- the entries of a file are within the limits
pub within_file : (F : PosixFile) → IsFile F → Within (entries_of F)
within_file F h = recursion_from_All (λ e. IsEntry e.1) (entries_of F)
    (All-append (λ e. IsEntry e.1) (in_part Access (fin.entries F.access)) (in_part Default (default_entries F.default))
    (All-map (λ (e : PartEntry). IsEntry e.1) (λ e. (Access, e)) (fin.entries F.access) h.access.within)
    (All-map (λ (e : PartEntry). IsEntry e.1) (λ e. (Default, e)) (default_entries F.default)
    (default_within F.default h.default)))

-- the entries of each part are found again after both parts are joined
parts_joined : (es ds : List (Tag × ℕ)) → (access_of (in_part Access es ++ in_part Default ds) ≡ es)
    × (default_of (in_part Access es ++ in_part Default ds) ≡ ds)
parts_joined [] [] = (refl, refl)
parts_joined [] (d ∷ ds) = let rest = parts_joined [] ds in (rest.0, ap (λ (xs : List (Tag × ℕ)). d ∷ xs) rest.1)
parts_joined (e ∷ es) ds = let rest = parts_joined es ds in (ap (λ (xs : List (Tag × ℕ)). e ∷ xs) rest.0, rest.1)

-- ---- the file of the entries

-- the entries of a valid set are a valid list, whose set it is
acl_of_entries : (E : Entries) → missing E ≡ None → IsAclOf (fin.entries E) E
acl_of_entries E valid =
    let same = set_of E (fin.entries E) refl in
    record {
      valid = record { distinct = sorted_distinct _ (entries_sorted E); complete = ap missing same ∙ valid };
      set = sym same;
    }

-- a valid set is not empty
pub has_owner : (E : Entries) → missing E ≡ None → fin.entries E ≡ [] → ⊥
unfolding missing
has_owner E valid e =
    let none : fin.get E user_obj ≡ None = fin.get-entries E user_obj ∙ ap (fin.find tag_cmp user_obj) e in
    let wrong = rw none at valid in
    cc

-- the set of a valid list that has an entry is the default ACL of the list
some_default : (es : List (Tag × ℕ)) (E : Entries) → (es ≡ [] → ⊥) → IsAclOf es E → IsDefaultOf es (Some E)
some_default [] E some h = absurd (some refl)
some_default (e ∷ es) E some h = h

-- a default ACL that a file can have is the one of its entries
default_of_entries : (d : Option Entries) → IsDefault d → IsDefaultOf (default_entries d) d
default_of_entries None h = tt
default_of_entries (Some E) h = some_default (fin.entries E) E (has_owner E h.valid) (acl_of_entries E h.valid)

-- a text whose pieces spell the entries of a file reads back as that file
pub reads_from : (text : List ℕ) (names : Table) (F : PosixFile) → IsFile F
    → SpellAll names (pieces_of text) (entries_of F) → Reads text names F
reads_from text names F h spelled =
    let joined = parts_joined (fin.entries F.access) (default_entries F.default) in
    record {
      entries = entries_of F;
      spelled = spelled;
      access = subst (λ (xs : List (Tag × ℕ)). IsAclOf xs F.access) (sym joined.0)
          (acl_of_entries F.access h.access.valid);
      default = subst (λ (xs : List (Tag × ℕ)). IsDefaultOf xs F.default) (sym joined.1)
          (default_of_entries F.default h.default);
    }
