-- The five normal forms of a list, and what they say about the list.
use Rattle.std.proofs.Common.{◌≡◌, ℕ, List, [], ◌++◌, refl}
use Rattle.acl_normal.proofs.Common.{Ace, all_rights, ap, equivalence, Fits, IsAccepted, IsEquivalence, IsNormalFormOf, IsProfile, Profile, SameGrants, spelling, subst, ◌↔◌}
use Rattle.std.proofs.lemmas.List.{append_cancel_left}
use Rattle.acl_nfs4.proofs.Exports.{accepted_where_it_fits, one}
use Rattle.acl_eval.specs.Inheritance.{children}
use Rattle.acl_eval.specs.declared.inherit.ChildKind.TheVariants.{Directory, File}
use Rattle.acl_normal.specs.FiveForms.{AreAccepted, AreFormsOf, AreSpelledAlike, five_spellings}
use Rattle.acl_normal.specs.Paths.{Path, SameAt, SameAtEveryPath, at, below, here}
use Rattle.acl_normal.specs.declared.five_forms.FiveForms.{FiveForms}
use Rattle.acl_normal.proofs.five_forms.Paths.{fits_at, five_suffice, form_fits, wider_is, with_inherit_only}
use Rattle.acl_normal.proofs.unique.Profiles.{same_within}

-- ---- what is accepted

-- the list is the normal form of the source at a path
abbrev FormAt : List Ace → Path → List Ace → Type 0
FormAt source path form = IsNormalFormOf (at source path) form

-- a list that is accepted under a profile fits it
fits_of : (p : Profile) (list : List Ace) → IsProfile p → IsAccepted p list → Fits p list
fits_of p list is taken = ((accepted_where_it_fits p list is).0 taken).1

-- the form at a path is accepted under each profile under which the list is
pub accepted_at : (p : Profile) (source form : List Ace) (path : Path) → IsProfile p → IsAccepted p source
    → FormAt source path form → IsAccepted p form
accepted_at p source form path is taken h = (accepted_where_it_fits p form is).1
    (h.accepted, form_fits p source form path (fits_of p source is taken) h)

-- the five forms are accepted under each profile under which the list is
pub all_accepted : (p : Profile) (source : List Ace) (forms : FiveForms) → IsProfile p → IsAccepted p source
    → AreFormsOf source forms → AreAccepted p forms
all_accepted p source forms is taken h = record {
  object = accepted_at p source forms.object here is taken h.object;
  file = accepted_at p source forms.file (below 0 File) is taken h.file;
  directory = accepted_at p source forms.directory (below 0 Directory) is taken h.directory;
  file_in_directory = accepted_at p source forms.file_in_directory (below 1 File) is taken h.file_in_directory;
  directory_in_directory =
      accepted_at p source forms.directory_in_directory (below 1 Directory) is taken h.directory_in_directory;
}

-- the normal forms of the list, of its children, and of those of the directory among them, are the five
pub forms_from : (source file directory : List Ace) (forms : FiveForms) → file ≡ at source (below 0 File)
    → directory ≡ at source (below 0 Directory) → IsNormalFormOf source forms.object → IsNormalFormOf file forms.file
    → IsNormalFormOf directory forms.directory
    → IsNormalFormOf (children File directory) forms.file_in_directory
    → IsNormalFormOf (children Directory directory) forms.directory_in_directory → AreFormsOf source forms
forms_from source file directory forms f d a b c e i = record {
  object = a;
  file = subst (λ list. IsNormalFormOf list forms.file) f b;
  directory = subst (λ list. IsNormalFormOf list forms.directory) d c;
  file_in_directory = subst (λ list. IsNormalFormOf (children File list) forms.file_in_directory) d e;
  directory_in_directory = subst (λ list. IsNormalFormOf (children Directory list) forms.directory_in_directory) d i;
}

-- ---- equal forms

-- forms at a path are equal if and only if the lists grant the same there
equal_at : (p : Profile) (source other form other_form : List Ace) (path : Path) → IsProfile p → IsAccepted p source
    → IsAccepted p other → FormAt source path form → FormAt other path other_form
    → (form ≡ other_form) ↔ SameAt p.masks source other path
equal_at p source other form other_form path is taken taken_other h k = (
  λ e. within.1 (laws.transitive (at source path) other_form (at other path)
      (subst (SameGrants all_rights (at source path)) e h.grants)
      (laws.symmetric (at other path) other_form k.grants)),
  λ same. h.only other_form k.normal
      (laws.transitive (at source path) (at other path) other_form (within.0 same) k.grants),
)
  where
    laws : IsEquivalence (SameGrants all_rights)
    laws = equivalence all_rights

    within : SameGrants p.masks (at source path) (at other path)
        ↔ SameGrants all_rights (at source path) (at other path)
    within = same_within (with_inherit_only p) (at source path) (at other path) (wider_is p is)
        (fits_at p source path (fits_of p source is taken)) (fits_at p other path (fits_of p other is taken_other))

-- five forms are equal to five others if each is equal to the other at its path
five_equal : (forms other : FiveForms) → forms.object ≡ other.object → forms.file ≡ other.file
    → forms.directory ≡ other.directory → forms.file_in_directory ≡ other.file_in_directory
    → forms.directory_in_directory ≡ other.directory_in_directory → forms ≡ other
five_equal forms other a b c d e = λ i. record {
  object = a i;
  file = b i;
  directory = c i;
  file_in_directory = d i;
  directory_in_directory = e i;
}

-- the five are equal if and only if the lists grant the same at every path
pub five_tell : (p : Profile) (source other : List Ace) (forms other_forms : FiveForms) → IsProfile p
    → IsAccepted p source → AreFormsOf source forms → IsAccepted p other → AreFormsOf other other_forms
    → (forms ≡ other_forms) ↔ SameAtEveryPath p.masks source other
five_tell p source other forms other_forms is taken h taken_other k = (
  λ e. (five_suffice p.masks source other).0 (
    (object here h.object k.object).0 (ap (λ f. f.object) e),
    (
      (object (below 0 File) h.file k.file).0 (ap (λ f. f.file) e),
      (
        (object (below 0 Directory) h.directory k.directory).0 (ap (λ f. f.directory) e),
        (
          (object (below 1 File) h.file_in_directory k.file_in_directory).0 (ap (λ f. f.file_in_directory) e),
          (
            (object (below 1 Directory) h.directory_in_directory k.directory_in_directory).0
                (ap (λ f. f.directory_in_directory) e),
            tt,
          ),
        ),
      ),
    ),
  ),
  λ same. five_equal forms other_forms
      ((object here h.object k.object).1 (same here))
      ((object (below 0 File) h.file k.file).1 (same (below 0 File)))
      ((object (below 0 Directory) h.directory k.directory).1 (same (below 0 Directory)))
      ((object (below 1 File) h.file_in_directory k.file_in_directory).1 (same (below 1 File)))
      ((object (below 1 Directory) h.directory_in_directory k.directory_in_directory).1 (same (below 1 Directory))),
)
  where
    object : {form other_form : List Ace} (path : Path) → FormAt source path form → FormAt other path other_form
        → (form ≡ other_form) ↔ SameAt p.masks source other path
    object {form} {other_form} path f g = equal_at p source other form other_form path is taken taken_other f g

-- ---- equal bytes

-- accepted lists with which equal bytes begin are equal, and so are the bytes after them
first_of_both : (p : Profile) (list other : List Ace) (rest other_rest : List ℕ) → IsProfile p → IsAccepted p list
    → IsAccepted p other → spelling list ++ rest ≡ spelling other ++ other_rest
    → (list ≡ other) × (rest ≡ other_rest)
first_of_both p list other rest other_rest is taken taken_other e =
    let same = (one p list other (spelling list) (spelling other) rest other_rest is
    (record { accepted = taken; spelled = refl }) (record { accepted = taken_other; spelled = refl }) e).0 in
    let behind = subst (λ l. spelling l ++ rest ≡ spelling other ++ other_rest) same e in
    (same, append_cancel_left (spelling other) rest other_rest behind)

-- five accepted lists and five others have equal bytes together if and only if they are equal
pub five_written : (p : Profile) (forms other : FiveForms) → IsProfile p → AreAccepted p forms → AreAccepted p other
    → (five_spellings forms ≡ five_spellings other) ↔ (forms ≡ other)
five_written p forms other is h k = (
  λ e.
      let a = first_of_both p forms.object other.object (behind_object forms) (behind_object other) is h.object
      k.object e in
      let b = first_of_both p forms.file other.file (behind_file forms) (behind_file other) is h.file k.file a.1 in
      let c = first_of_both p forms.directory other.directory (behind_directory forms) (behind_directory other) is
      h.directory k.directory b.1 in
      let d = first_of_both p forms.file_in_directory other.file_in_directory (last forms) (last other) is
      h.file_in_directory k.file_in_directory c.1 in
      let e = first_of_both p forms.directory_in_directory other.directory_in_directory [] [] is
      h.directory_in_directory k.directory_in_directory d.1 in
      five_equal forms other a.0 b.0 c.0 d.0 e.0,
  λ e. ap five_spellings e,
)
  where
    last : FiveForms → List ℕ
    last f = spelling f.directory_in_directory ++ []

    behind_directory : FiveForms → List ℕ
    behind_directory f = spelling f.file_in_directory ++ last f

    behind_file : FiveForms → List ℕ
    behind_file f = spelling f.directory ++ behind_directory f

    behind_object : FiveForms → List ℕ
    behind_object f = spelling f.file ++ behind_file f

-- five accepted lists have the spellings of five others, each at its path, if and only if they are equal
five_spelled : (p : Profile) (forms other : FiveForms) → IsProfile p → AreAccepted p forms → AreAccepted p other
    → AreSpelledAlike forms other ↔ (forms ≡ other)
five_spelled p forms other is h k = (
  λ same. (five_written p forms other is h k).0
      (λ i. same.object i ++ (same.file i ++ (same.directory i ++ (same.file_in_directory i
      ++ (same.directory_in_directory i ++ []))))),
  λ e. record {
    object = ap (λ f. spelling f.object) e;
    file = ap (λ f. spelling f.file) e;
    directory = ap (λ f. spelling f.directory) e;
    file_in_directory = ap (λ f. spelling f.file_in_directory) e;
    directory_in_directory = ap (λ f. spelling f.directory_in_directory) e;
  },
)

-- the five forms have equal spellings, each at its path, if and only if the lists grant the same at every path
pub spelled_tell : (p : Profile) (source other : List Ace) (forms other_forms : FiveForms) → IsProfile p
    → IsAccepted p source → AreFormsOf source forms → IsAccepted p other → AreFormsOf other other_forms
    → AreSpelledAlike forms other_forms ↔ SameAtEveryPath p.masks source other
spelled_tell p source other forms other_forms is taken h taken_other k =
    let bytes = five_spelled p forms other_forms is (all_accepted p source forms is taken h)
    (all_accepted p other other_forms is taken_other k) in
    let tell = five_tell p source other forms other_forms is taken h taken_other k in
    (λ same. tell.0 (bytes.0 same), λ same. bytes.1 (tell.1 same))

-- the five forms have equal bytes together if and only if the lists grant the same at every path
pub joined_tell : (p : Profile) (source other : List Ace) (forms other_forms : FiveForms) → IsProfile p
    → IsAccepted p source → AreFormsOf source forms → IsAccepted p other → AreFormsOf other other_forms
    → (five_spellings forms ≡ five_spellings other_forms) ↔ SameAtEveryPath p.masks source other
joined_tell p source other forms other_forms is taken h taken_other k =
    let bytes = five_written p forms other_forms is (all_accepted p source forms is taken h)
    (all_accepted p other other_forms is taken_other k) in
    let tell = five_tell p source other forms other_forms is taken h taken_other k in
    (λ same. tell.0 (bytes.0 same), λ same. bytes.1 (tell.1 same))
