-- The search through the small sets, one after the other.
use Rattle.acl_normal.proofs.Common.{[], Ace, cond, drop, drop_all, drop_more, FindsFirst, GrantAlikeTo, inl, inr, length, List, may_overlap, None, Option, principal_pairs, partners, Principal, principal, principals, refl, singles, slice_index_or, small_sets, Some, subst, true, ℕ, ◌++◌, ◌+◌, ◌<◌, ◌∷◌, ◌≡◌, ◌≤◌}
use Rattle.std.proofs.lemmas.Bool.{cases_Bool}
use Rattle.acl_perm.specs.declared.principal.Principal.{Principal as PrincipalRef}
use Rattle.acl_normal.specs.internal.comparison.SetSearch.{FindsSet}
use Rattle.acl_normal.specs.declared.comparison.direction.Direction.{Direction}

-- whatever is found among the rest is found among all
pub record GoesOn (way : Direction) (xs ys : List Ace) (rest whole : List (List Principal)) : Type 0 where
  pub found : (r : Option (List Principal)) → FindsFirst way xs ys rest r → FindsFirst way xs ys whole r

-- at the start the sets that are left are all sets
pub goes_on_all : (way : Direction) (xs ys : List Ace) (whole : List (List Principal)) → GoesOn way xs ys whole whole
goes_on_all way xs ys whole = record { found = λ r h. h }

-- the search ends at a set at which the lists do not grant the same
pub found_here : (way : Direction) (xs ys : List Ace) (ps : List Principal) (rest whole : List (List Principal))
    → (GrantAlikeTo way xs ys ps → ⊥) → GoesOn way xs ys (ps ∷ rest) whole → FindsSet way xs ys whole (Some ps)
found_here way xs ys ps rest whole d g = record { first = g.found (Some ps) (inr (d, refl)) }

-- the search continues after a set at which the lists grant alike
pub found_later : (way : Direction) (xs ys : List Ace) (ps : List Principal) (rest whole : List (List Principal))
    → GrantAlikeTo way xs ys ps → GoesOn way xs ys (ps ∷ rest) whole → GoesOn way xs ys rest whole
found_later way xs ys ps rest whole a g = record { found = λ r h. g.found r (inl (a, h)) }

-- nothing is found where no set is left
pub found_none : (way : Direction) (xs ys : List Ace) (whole : List (List Principal)) → GoesOn way xs ys [] whole
    → FindsSet way xs ys whole None
found_none way xs ys whole g = record { first = g.found None refl }

-- the search among single principals ends at one
pub single_here : (way : Direction) (xs ys : List Ace) (names : List PrincipalRef) (p : PrincipalRef)
    (whole : List (List Principal))
    (i : ℕ) → i < length names → (GrantAlikeTo way xs ys (principal (slice_index_or names i p) ∷ []) → ⊥)
    → GoesOn way xs ys (singles (principals (drop i names))) whole
    → FindsSet way xs ys whole (Some (principal (slice_index_or names i p) ∷ []))
single_here way xs ys names p whole i lt d g =
    found_here way xs ys _ (singles (principals (drop (i + 1) names))) whole d
    (subst (λ v. GoesOn way xs ys (singles (principals v)) whole) (drop_more names i p lt) g)

-- the search continues after a principal to whom alone the lists grant alike
pub single_later : {way : Direction} {xs ys : List Ace} (names : List PrincipalRef) (p : PrincipalRef)
    {whole : List (List Principal)}
    {i : ℕ} → i < length names → GrantAlikeTo way xs ys (principal (slice_index_or names i p) ∷ [])
    → GoesOn way xs ys (singles (principals (drop i names))) whole
    → GoesOn way xs ys (singles (principals (drop (i + 1) names))) whole
single_later {way} {xs} {ys} names p {whole} {i} lt a g =
    found_later way xs ys (principal (slice_index_or names i p) ∷ []) (singles (principals (drop (i + 1) names))) whole
    a
    (subst (λ v. GoesOn way xs ys (singles (principals v)) whole) (drop_more names i p lt) g)

-- the search among single principals finds none after the last one
pub single_none : (way : Direction) (xs ys : List Ace) (names : List PrincipalRef) (whole : List (List Principal))
    (i : ℕ)
    → length names ≤ i → GoesOn way xs ys (singles (principals (drop i names))) whole → FindsSet way xs ys whole None
single_none way xs ys names whole i le g =
    found_none way xs ys whole (subst (λ v. GoesOn way xs ys (singles (principals v)) whole) (drop_all i names le) g)

-- the search among partners ends at one that may overlap
pub partner_here : (way : Direction) (xs ys : List Ace) (s : Principal) (others : List PrincipalRef) (q : PrincipalRef)
    (whole : List (List Principal)) (i : ℕ) → i < length others
    → may_overlap s (principal (slice_index_or others i q)) ≡ true
    → (GrantAlikeTo way xs ys (s ∷ principal (slice_index_or others i q) ∷ []) → ⊥)
    → GoesOn way xs ys (partners s (principals (drop i others))) whole
    → FindsSet way xs ys whole (Some (s ∷ principal (slice_index_or others i q) ∷ []))
partner_here way xs ys s others q whole i lt o d g =
    let t = principal (slice_index_or others i q) in
    let rest = partners s (principals (drop (i + 1) others)) in
    let here : GoesOn way xs ys (cond (may_overlap s t) ((s ∷ t ∷ []) ∷ rest) rest) whole =
    subst (λ v. GoesOn way xs ys (partners s (principals v)) whole) (drop_more others i q lt) g in
    found_here way xs ys _ rest whole d (subst (λ b. GoesOn way xs ys (cond b ((s ∷ t ∷ []) ∷ rest) rest) whole) o here)

-- the search continues after a partner with whom the lists grant alike, if the two may overlap
pub partner_later : {way : Direction} {xs ys : List Ace} (s : Principal) (others : List PrincipalRef) (q : PrincipalRef)
    {whole : List (List Principal)} {i : ℕ} → i < length others
    → (may_overlap s (principal (slice_index_or others i q)) ≡ true
    → GrantAlikeTo way xs ys (s ∷ principal (slice_index_or others i q) ∷ []))
    → GoesOn way xs ys (partners s (principals (drop i others))) whole
    → GoesOn way xs ys (partners s (principals (drop (i + 1) others))) whole
partner_later {way} {xs} {ys} s others q {whole} {i} lt a g =
    let t = principal (slice_index_or others i q) in
    let rest = partners s (principals (drop (i + 1) others)) in
    let here : GoesOn way xs ys (cond (may_overlap s t) ((s ∷ t ∷ []) ∷ rest) rest) whole =
    subst (λ v. GoesOn way xs ys (partners s (principals v)) whole) (drop_more others i q lt) g in
    elim (cases_Bool (may_overlap s t)) [
      | inl e ↦ found_later way xs ys (s ∷ t ∷ []) rest whole (a e) (rw e at here)
      | inr e ↦ rw e at here
    ]

-- the search among partners finds none after the last one
pub partner_none : (way : Direction) (xs ys : List Ace) (s : Principal) (others : List PrincipalRef)
    (whole : List (List Principal))
    (i : ℕ) → length others ≤ i → GoesOn way xs ys (partners s (principals (drop i others))) whole
    → FindsSet way xs ys whole None
partner_none way xs ys s others whole i le g =
    found_none way xs ys whole
    (subst (λ v. GoesOn way xs ys (partners s (principals v)) whole) (drop_all i others le) g)

-- what is found in the first part is found in both
pub found_left : (way : Direction) (xs ys : List Ace) (left right : List (List Principal)) (ps : List Principal)
    → FindsFirst way xs ys left (Some ps) → FindsFirst way xs ys (left ++ right) (Some ps)
found_left way xs ys [] right ps h = cc
found_left way xs ys (s ∷ left) right ps (inl h) = inl (h.0, found_left way xs ys left right ps h.1)
found_left way xs ys (s ∷ left) right ps (inr h) = inr h

-- if nothing is found in the first part, what is found in the second part is found in both
pub found_right : (way : Direction) (xs ys : List Ace) (left right : List (List Principal))
    (r : Option (List Principal))
    → FindsFirst way xs ys left None → FindsFirst way xs ys right r → FindsFirst way xs ys (left ++ right) r
found_right way xs ys [] right r h i = i
found_right way xs ys (s ∷ left) right r (inl h) i = inl (h.0, found_right way xs ys left right r h.1 i)
found_right way xs ys (s ∷ left) right r (inr h) i = absurd (cc)

-- the search among pairs ends at the pairs of one principal
pub pair_here : {way : Direction} {xs ys : List Ace} (names : List PrincipalRef) {others : List PrincipalRef}
    (p : PrincipalRef)
    {whole : List (List Principal)} {i : ℕ} {ps : List Principal} → i < length names → others ≡ drop (i + 1) names
    → FindsSet way xs ys (partners (principal (slice_index_or names i p)) (principals others)) (Some ps)
    → GoesOn way xs ys (principal_pairs (principals (drop i names))) whole → FindsSet way xs ys whole (Some ps)
pair_here {way} {xs} {ys} names {others} p {whole} {i} {ps} lt is h g =
    let here : GoesOn way xs ys (partners (principal (slice_index_or names i p))
    (principals (drop (i + 1) names)) ++ principal_pairs (principals (drop (i + 1) names))) whole =
    subst (λ v. GoesOn way xs ys (principal_pairs (principals v)) whole) (drop_more names i p lt) g in
    record {
      first = here.found (Some ps)
          (found_left way xs ys _ _ ps (subst
          (λ v. FindsFirst way xs ys (partners (principal (slice_index_or names i p)) (principals v)) (Some ps)) is
          h.first));
    }

-- the search continues after the pairs of one principal if none of them is found
pub pair_later : {way : Direction} {xs ys : List Ace} (names : List PrincipalRef) {others : List PrincipalRef}
    (p : PrincipalRef)
    {whole : List (List Principal)} {i : ℕ} → i < length names → others ≡ drop (i + 1) names
    → FindsSet way xs ys (partners (principal (slice_index_or names i p)) (principals others)) None
    → GoesOn way xs ys (principal_pairs (principals (drop i names))) whole
    → GoesOn way xs ys (principal_pairs (principals (drop (i + 1) names))) whole
pair_later {way} {xs} {ys} names {others} p {whole} {i} lt is h g =
    let here : GoesOn way xs ys (partners (principal (slice_index_or names i p))
    (principals (drop (i + 1) names)) ++ principal_pairs (principals (drop (i + 1) names))) whole =
    subst (λ v. GoesOn way xs ys (principal_pairs (principals v)) whole) (drop_more names i p lt) g in
    record {
      found = λ r later. here.found r
          (found_right way xs ys _ _ r (subst
          (λ v. FindsFirst way xs ys (partners (principal (slice_index_or names i p)) (principals v)) None) is h.first)
          later);
    }

-- the search among pairs finds none after the last principal
pub pair_none : (way : Direction) (xs ys : List Ace) (names : List PrincipalRef) (whole : List (List Principal)) (i : ℕ)
    → length names ≤ i → GoesOn way xs ys (principal_pairs (principals (drop i names))) whole
    → FindsSet way xs ys whole None
pair_none way xs ys names whole i le g =
    found_none way xs ys whole
    (subst (λ v. GoesOn way xs ys (principal_pairs (principals v)) whole) (drop_all i names le) g)

-- the empty set is found first if the lists do not grant the same there
pub empty_differs : (way : Direction) (xs ys : List Ace) (ps : List Principal) → (GrantAlikeTo way xs ys [] → ⊥)
    → FindsSet way xs ys (small_sets ps) (Some [])
empty_differs way xs ys ps d = record { first = inr (d, refl) }

-- a single principal is found before all pairs
pub single_differs : {way : Direction} {xs ys : List Ace} (ps : List Principal) {set : List Principal}
    → GrantAlikeTo way xs ys []
    → FindsSet way xs ys (singles ps) (Some set) → FindsSet way xs ys (small_sets ps) (Some set)
single_differs {way} {xs} {ys} ps {set} a h =
    record { first = inl (a, found_left way xs ys (singles ps) (principal_pairs ps) set h.first) }

-- where none is found, the pairs decide
pub pair_decides : {way : Direction} {xs ys : List Ace} (ps : List Principal) {r : Option (List Principal)}
    → GrantAlikeTo way xs ys []
    → FindsSet way xs ys (singles ps) None → FindsSet way xs ys (principal_pairs ps) r
    → FindsSet way xs ys (small_sets ps) r
pair_decides {way} {xs} {ys} ps {r} a h i =
    record { first = inl (a, found_right way xs ys (singles ps) (principal_pairs ps) r h.first i.first) }

-- where a search begins and ends, among single principals, partners and pairs
pub ruleset single_ends = (goes_on_all, single_here, single_none)

pub ruleset partner_ends = (goes_on_all, partner_here, partner_none)

pub ruleset pair_ends = (goes_on_all, pair_none)
