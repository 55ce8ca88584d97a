-- Normal forms have equal spellings if and only if their sources grant the same.
use Rattle.std.proofs.Common.{◌≡◌, ℕ, List, [], refl}
use Rattle.acl_normal.proofs.Common.{Ace, ap, append-nil, equivalence, Fits, IsAccepted, IsEquivalence, IsNormalFormOf, IsProfile, Profile, SameGrants, spelling, subst, sym, ◌↔◌, ◌∙◌}
use Rattle.acl_nfs4.specs.Spelling.{Xdr}
use Rattle.acl_nfs4.proofs.Exports.{accepted_where_it_fits, one}
pub use Rattle.acl_normal.specs.Laws.{IsForm}
use Rattle.acl_normal.specs.NormalForm.{Normalizes}
use Rattle.acl_normal.proofs.unique.Unique.{normal_unique}
use Rattle.acl_normal.proofs.unique.Profiles.{same_within}

-- accepted lists with the same spelling are equal
pub spelled_alike : (p : Profile) (list other : List Ace) → IsProfile p → IsAccepted p list → IsAccepted p other
    → spelling list ≡ spelling other → list ≡ other
spelled_alike p list other is taken taken_other same =
    (one p list other (spelling list) (spelling other) [] [] is (record { accepted = taken; spelled = refl })
    (record { accepted = taken_other; spelled = refl })
    (append-nil (spelling list) ∙ same ∙ sym (append-nil (spelling other)))).0

-- the spellings of two such lists are equal if and only if their sources grant the same
pub forms_tell : (p : Profile) (a b n m : List Ace) → IsProfile p → IsForm p a n → IsForm p b m
    → (spelling n ≡ spelling m) ↔ SameGrants p.masks a b
forms_tell p a b n m is f g = (
  λ same.
      let forms = spelled_alike p n m is f.accepted g.accepted same in
      laws.transitive a m b (subst (λ v. SameGrants p.masks a v) forms f.grants) (laws.symmetric b m g.grants),
  λ same.
      let all = laws.transitive n b m (laws.transitive n a b (laws.symmetric a n f.grants) same) g.grants in
      ap spelling (normal_unique n m f.normal g.normal
      ((same_within p n m is (fits n f.accepted) (fits m g.accepted)).0 all)),
)
  where
    laws : IsEquivalence (SameGrants p.masks)
    laws = equivalence p.masks

    fits : (list : List Ace) → IsAccepted p list → Fits p list
    fits list h = ((accepted_where_it_fits p list is).0 h).1

-- the normal form of a list that is accepted under a profile is such a list
pub form_of : (p : Profile) (source result : List Ace) → IsProfile p → IsAccepted p source
    → IsNormalFormOf source result → IsForm p source result
form_of p source result is taken h =
    let fits = ((accepted_where_it_fits p source is).0 taken).1 in record {
      accepted = (accepted_where_it_fits p result is).1 (h.accepted, h.fits p fits);
      normal = h.normal;
      grants = (same_within p source result is fits (h.fits p fits)).1 h.grants;
    }

-- the list that was written is a form of the list that was read
pub form_is : (p : Profile) (list : List Ace) (x a : List ℕ) → IsProfile p → Xdr p list x → (h : Normalizes p x a)
    → IsForm p list h.form
form_is p list x a is read h =
    let same = one p h.source list x x [] [] is h.read read refl in
    subst (λ source. IsForm p source h.form) same.0 (form_of p h.source h.form is h.read.accepted h.is_form)
