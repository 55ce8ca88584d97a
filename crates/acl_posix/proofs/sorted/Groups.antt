-- Some matching entry contains the request if and only if some group of the requester has such an entry.
use Rattle.acl_posix.proofs.Common.{[], and_true, and_true_right, Any-from_list_any, any_contains, any_matches, ap, Bool, cond_both, contains, Entries, entry_contains, eq-eqb, eq_by_cmp, eqb-true, group, group_contains, group_obj, inl, inr, is_contained, List, list_any, list_any_at, or_true, or_true_right, refl, same_answers, Some, sym, Tag, tag_cmp, tag_matches, true, ℕ, ◌&&◌, ◌==◌, ◌||◌, ◌∙◌, ◌∷◌, ◌≡◌}
use Rattle.std.specs.Int.Bits.{and_zero_r}
use Rattle.std.specs.FinMap as fin
use Rattle.acl_posix.proofs.tag.Tags.{same_tag}
use Rattle.acl_posix.proofs.sorted.Lists.{find_at}

-- ---- from an entry to a group

-- if the entry of a matching tag contains the request, some group has such an entry
to_group : (E : Entries) (og request : ℕ) (gs : List ℕ) (l : Tag) → tag_matches og gs l ≡ true
    → entry_contains E l request ≡ true → list_any (group_contains E og request) gs ≡ true
to_group E og request gs group_obj is held =
    let one = Any-from_list_any (λ g. g == og) gs is in
    list_any_at (group_contains E og request) gs one.0 one.1 one.2
    (ap (group_contains E og request) one.3 ∙ rw (one.4, held) refl)
to_group E og request gs (group id) is held =
    let one = Any-from_list_any (λ g. g == id) gs is in
    list_any_at (group_contains E og request) gs one.0 one.1 one.2
    (ap (group_contains E og request) (one.3 ∙ eqb-true one.1 id one.4) ∙ rw held (or_true_right _))
to_group E og request gs tag is held = absurd cc

-- if some matching entry contains the request, some group has such an entry
group_from_entry : (E : Entries) (og request : ℕ) (gs : List ℕ) → any_contains E og gs request ≡ true
    → list_any (group_contains E og request) gs ≡ true
group_from_entry E og request gs some =
    let one = Any-from_list_any (λ (p : Tag × ℕ). tag_matches og gs p.0 && contains p.1 request) (fin.entries E) some in
    let both = and_true (tag_matches og gs one.1.0) (contains one.1.1 request) one.4 in
    to_group E og request gs one.1.0 both.0 (rw (find_at E one.0 one.1 one.2 one.3) both.1)

-- ---- from a group to an entry

-- if the permissions found for a tag that passes contain the request, some entry passes and contains it
found_passes : (ps : List (Tag × ℕ)) (l : Tag) (request : ℕ) (m : Tag → Bool) → m l ≡ true
    → is_contained (fin.find tag_cmp l ps) request ≡ true
    → list_any (λ (p : Tag × ℕ). m p.0 && contains p.1 request) ps ≡ true
found_passes [] l request m is h = absurd cc
found_passes (p ∷ ps) l request m is h =
    let rest : Bool = list_any (λ (q : Tag × ℕ). m q.0 && contains q.1 request) ps in
    cond_both (eq_by_cmp tag_cmp l p.0) (Some p.1) (fin.find tag_cmp l ps)
    (λ found. is_contained found request ≡ true → ((m p.0 && contains p.1 request) || rest) ≡ true)
    (λ same held. rw (ap m (sym (same_tag l p.0 same)) ∙ is, held) refl)
    (λ differ held. rw (found_passes ps l request m is held) (or_true_right _)) h

-- if a matching tag has an entry that contains the request, some matching entry contains it
pub any_contains-from_entry : (E : Entries) (og request : ℕ) (gs : List ℕ) (l : Tag) → tag_matches og gs l ≡ true
    → entry_contains E l request ≡ true → any_contains E og gs request ≡ true
any_contains-from_entry E og request gs l is h = found_passes (fin.entries E) l request (tag_matches og gs) is
    (ap (λ o. is_contained o request) (sym (fin.get-entries E l)) ∙ h)

-- if some group has an entry that contains the request, some matching entry contains it
entry_from_group : (E : Entries) (og request : ℕ) (gs : List ℕ) → list_any (group_contains E og request) gs ≡ true
    → any_contains E og gs request ≡ true
entry_from_group E og request gs some =
    let one = Any-from_list_any (group_contains E og request) gs some in
    let member = λ (id : ℕ) (is : (one.1 == id) ≡ true).
    list_any_at (λ g. g == id) gs one.0 one.1 one.2 (ap (λ g. g == id) one.3 ∙ is) in
    elim (or_true ((one.1 == og) && entry_contains E group_obj request) (entry_contains E (group one.1) request)
    one.4) [
      | inl owning ↦
          let both = and_true (one.1 == og) (entry_contains E group_obj request) owning in
          any_contains-from_entry E og request gs group_obj (member og both.0) both.1
      | inr held ↦ any_contains-from_entry E og request gs (group one.1) (member one.1 (eq-eqb one.1 one.1 refl)) held
    ]

-- some matching entry of the set contains the request if and only if some group has such an entry
pub any_group : (E : Entries) (og request : ℕ) (gs : List ℕ)
    → list_any (group_contains E og request) gs ≡ any_contains E og gs request
any_group E og request gs = same_answers _ _ (entry_from_group E og request gs) (group_from_entry E og request gs)

-- each entry contains the empty request
any_empty : (m : Tag → Bool) (ps : List (Tag × ℕ))
    → list_any (λ (p : Tag × ℕ). m p.0 && contains p.1 0) ps ≡ list_any (λ (p : Tag × ℕ). m p.0) ps
any_empty m [] = refl
any_empty m (p ∷ ps) =
    let all : contains p.1 0 ≡ true = rw (and_zero_r p.1) refl in rw (all, and_true_right (m p.0), any_empty m ps) refl

-- some matching entry contains the empty request if and only if some entry matches
pub contains_empty : (E : Entries) (og : ℕ) (gs : List ℕ) → any_contains E og gs 0 ≡ any_matches E og gs
contains_empty E og gs = any_empty (tag_matches og gs) (fin.entries E)
