-- The list with groups that stand for unknown special identifiers, and the part that is read.
use Rattle.acl_nfs4.proofs.Common.{[], Ace, ace, ap, arith, count_ones, drop, false, get_or, length, length-append, length-map, List, map, most_aces, most_weight, None, refl, sum_by-append, sym, take, take-append-drop, weight, ℕ, ◌++◌, ◌+◌, ◌<◌, ◌∙◌, ◌∷◌, ◌≡◌, ◌≤◌}
use Rattle.std.specs.List.{position}
use Rattle.std.proofs.lemmas.List.{map-append}
use Rattle.std.proofs.lemmas.List.Elements.{All-push}
use Rattle.acl_nfs4.specs.AccessPart.{IsAnyWho}
use Rattle.acl_nfs4.specs.UnknownGroups.{is_misnamed, with_stand_in, with_groups}
use Rattle.acl_nfs4.specs.declared.ace.AceRef.{AceRef}
use Rattle.acl_nfs4.specs.internal.PartReading.{CanBePart}
use Rattle.acl_nfs4.proofs.list.FromAces.{build_on}
use Rattle.acl_nfs4.proofs.xdr.Faults.{weight-push}
use Rattle.acl_nfs4.proofs.xdr.Lists.{weight-cons}
use Rattle.acl_nfs4.proofs.xdr.FirstPassing.{passes_nowhere, place_map}

-- the ACE at a place has an identifier that gets a name
pub named_at : (suffix : List ℕ) (es : List AceRef) (i : ℕ) (item : AceRef) → i < length es → item ≡ get_or es i item
    → position (is_misnamed suffix) (map ace es) ≡ None → is_misnamed suffix (ace item) ≡ false
named_at suffix es i item lt read none = ap (λ (x : AceRef). is_misnamed suffix (ace x)) read
    ∙ passes_nowhere (λ a. is_misnamed suffix (ace a)) es i item (place_map (is_misnamed suffix) es ∙ none) lt

-- one more ACE of the code
next_ace : (es : List AceRef) (i : ℕ) (item : AceRef) → i < length es → item ≡ get_or es i item
    → map ace (take i es) ++ ace item ∷ [] ≡ map ace (take (i + 1) es)
next_ace es i item lt read = build_on es i item (map ace (take i es)) _ lt read refl refl

-- groups weigh as much as the identifiers for which they stand
groups_weight : (suffix : List ℕ) (list : List Ace) → weight (with_groups suffix list) ≡ weight list
groups_weight suffix [] = refl
groups_weight suffix (a ∷ list) = weight-cons (with_stand_in suffix a) (with_groups suffix list)
    ∙ ap (λ (n : ℕ). count_ones a.mask + n) (groups_weight suffix list) ∙ sym (weight-cons a list)

-- the front of a list is no heavier than the list
front_weight : (es : List AceRef) (n : ℕ) → weight (map ace (take n es)) ≤ weight (map ace es)
front_weight es n =
    let whole : map ace (take n es) ++ map ace (drop n es) ≡ map ace es =
    sym (map-append ace (take n es) (drop n es)) ∙ ap (map ace) (take-append-drop n es) in
    omega (arith, sum_by-append (λ a. count_ones a.mask) (map ace (take n es)) (map ace (drop n es)), ap weight whole)

-- the list is light enough for the next ACE
pub groups_light : (suffix : List ℕ) (es : List AceRef) (i : ℕ) (item : AceRef) (list : List Ace) → i < length es
    → item ≡ get_or es i item → CanBePart es → list ≡ with_groups suffix (map ace (take i es))
    → weight list + count_ones item.mask.bits ≤ most_weight
groups_light suffix es i item list lt read part way =
    omega (
      arith,
      ap weight way,
      groups_weight suffix (map ace (take i es)),
      weight-push (map ace (take i es)) (ace item),
      ap weight (next_ace es i item lt read),
      front_weight es (i + 1),
      part.weight,
    )

-- a part with one more ACE
pub part_push : (es : List AceRef) (item : AceRef) (others : ℕ) → CanBePart es
    → length (map ace es) + others < most_aces
    → weight (map ace es) + count_ones item.mask.bits ≤ most_weight → IsAnyWho item.who.now
    → CanBePart (es ++ item ∷ [])
part_push es item others part few light any = record {
  count = omega (arith, few, length-map es ace, length-append es (item ∷ []));
  weight = omega (arith, light, weight-push (map ace es) (ace item), ap weight (map-append ace es (item ∷ [])));
  each = All-push (λ a. IsAnyWho a.who.now) es item part.each any;
}
