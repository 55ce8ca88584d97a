-- For each list and each bound there is a list whose rights stay by the rule.
use Rattle.acl_eval.proofs.Scans.{has_bit-without}
use Rattle.acl_eval.specs.Scan.{without}
use Rattle.acl_normal.proofs.Common.{Ace, Allow, Bool, Deny, HasNames, IsSubset, Kind, List, [], and_from, and_parts, ap, arith, false, false≢true, has_bit, if◌then◌else◌, inl, inr, length, no_ace, not, one_bit, only_bit, refl, slice_index_or, subst, suc, sym, true, zero, ℕ, ◌+◌, ◌<◌, ◌^◌, ◌∙◌, ◌∷◌, ◌≡◌, ◌⊎◌}
use Rattle.acl_normal.proofs.Each.{before_or_at}
use Rattle.acl_perm.proofs.Sets.{right_below}
use Rattle.acl_contain.proofs.restriction.Turns.{stays, stays_found, stays_holds}
use Rattle.acl_contain.specs.Removal.{IsAceRemoval, IsRemoval}
use Rattle.acl_contain.specs.internal.Restriction.{IsRestricted}

-- the mask without those of the first n bits that fail a test
abbrev pub cut_mask : (ℕ → Bool) → ℕ → ℕ → ℕ
cut_mask test zero mask = mask
cut_mask test (suc n) mask = if test n then cut_mask test n mask else without (cut_mask test n mask) (2 ^ n)

-- a bit of a mask without a power of two is a bit of the mask, and no bit of the power
without_parts : (mask n bit : ℕ) → has_bit (without mask (2 ^ n)) bit ≡ true
    → (has_bit mask bit ≡ true) × (not (has_bit (2 ^ n) bit) ≡ true)
without_parts mask n bit has = and_parts (has_bit mask bit) (not (has_bit (2 ^ n) bit))
    (sym (has_bit-without mask (2 ^ n) bit) ∙ has)

-- the bits that are left are bits of the mask
cut_within : (test : ℕ → Bool) (n mask bit : ℕ) → has_bit (cut_mask test n mask) bit ≡ true → has_bit mask bit ≡ true
cut_within test zero mask bit has = has
cut_within test (suc n) mask bit has = by (test n) refl (cut_within test n mask bit)
  where
    by : (t : Bool) → test n ≡ t → (has_bit (cut_mask test n mask) bit ≡ true → has_bit mask bit ≡ true)
        → has_bit mask bit ≡ true
    by true pass within = within (rw pass at has)
    by false fail within = within (without_parts (cut_mask test n mask) n bit (rw fail at has)).0

-- the first n bits that are left pass the test
cut_passes : (test : ℕ → Bool) (n mask bit : ℕ) → has_bit (cut_mask test n mask) bit ≡ true → bit < n
    → test bit ≡ true
cut_passes test zero mask bit has below = absurd (omega (arith, below))
cut_passes test (suc n) mask bit has below =
    by (test n) refl (before_or_at bit n (omega (arith, below))) (cut_passes test n mask bit)
  where
    by : (t : Bool) → test n ≡ t → (bit < n) ⊎ (bit ≡ n)
        → (has_bit (cut_mask test n mask) bit ≡ true → bit < n → test bit ≡ true) → test bit ≡ true
    by true pass (inl less) passes = passes (rw pass at has) less
    by true pass (inr same) passes = ap test same ∙ pass
    by false fail (inl less) passes = passes (without_parts (cut_mask test n mask) n bit (rw fail at has)).0 less
    by false fail (inr same) passes = absurd (taken (without_parts (cut_mask test n mask) n bit (rw fail at has)).1)
      where
        taken : not (has_bit (2 ^ n) bit) ≡ true → ⊥
        taken lacks = false≢true (sym (ap not (ap (has_bit (2 ^ n)) same ∙ one_bit n)) ∙ lacks)

-- a bit of the mask that passes the test is left
cut_keeps : (test : ℕ → Bool) (n mask bit : ℕ) → has_bit mask bit ≡ true → test bit ≡ true
    → has_bit (cut_mask test n mask) bit ≡ true
cut_keeps test zero mask bit has pass = has
cut_keeps test (suc n) mask bit has pass = by (test n) refl (cut_keeps test n mask bit has pass)
  where
    other : test n ≡ false → not (has_bit (2 ^ n) bit) ≡ true
    other fail = go (has_bit (2 ^ n) bit) refl
      where
        go : (t : Bool) → has_bit (2 ^ n) bit ≡ t → not (has_bit (2 ^ n) bit) ≡ true
        go false lacks = ap not lacks
        go true taken = absurd (false≢true (sym fail ∙ ap test (sym (only_bit n bit taken)) ∙ pass))

    by : (t : Bool) → test n ≡ t → has_bit (cut_mask test n mask) bit ≡ true
        → has_bit (cut_mask test (suc n) mask) bit ≡ true
    by true passes left = rw passes left
    by false fail left = rw fail (has_bit-without (cut_mask test n mask) (2 ^ n) bit
        ∙ and_from (has_bit (cut_mask test n mask) bit) (not (has_bit (2 ^ n) bit)) left (other fail))

-- the mask of an ACE at a place of a list: a DENY has all of it, and an ALLOW the rights that stay
abbrev pub mask_under : List Ace → List Ace → ℕ → Kind → ℕ → ℕ
mask_under list bound place Deny mask = mask
mask_under list bound place Allow mask = cut_mask (λ bit. stays list bound bit place) 21 mask

-- the ACE with that mask
abbrev pub ace_under : List Ace → List Ace → ℕ → Ace → Ace
ace_under list bound place a = record a { mask = mask_under list bound place a.kind a.mask }

-- the ACEs of a list from a place on, with these masks
abbrev pub aces_under : List Ace → List Ace → ℕ → List Ace → List Ace
aces_under list bound place [] = []
aces_under list bound place (a ∷ rest) = ace_under list bound place a ∷ aces_under list bound (suc place) rest

-- an ACE with that mask is a cut of the ACE
under_cut : (list bound : List Ace) (place : ℕ) (a : Ace) → IsAceRemoval a (ace_under list bound place a)
under_cut list bound place a = record {
  kind = refl;
  flags = refl;
  who = refl;
  within = within a.kind;
  denied = λ deny. ap (λ k. mask_under list bound place k a.mask) deny;
}
  where
    within : (k : Kind) → IsSubset (mask_under list bound place k a.mask) a.mask
    within Deny bit has = has
    within Allow bit has = cut_within (λ b. stays list bound b place) 21 a.mask bit has

-- the ACEs with these masks are a removal
under_removal : (list bound : List Ace) (place : ℕ) (rest : List Ace)
    → IsRemoval rest (aces_under list bound place rest)
under_removal list bound place [] = tt
under_removal list bound place (a ∷ rest) = (under_cut list bound place a, under_removal list bound (suc place) rest)

-- the mask at a place
under_at : (list bound : List Ace) (from : ℕ) (rest : List Ace) (place : ℕ) → place < length rest
    → (slice_index_or (aces_under list bound from rest) place no_ace).mask
    ≡ mask_under list bound (from + place) (slice_index_or rest place no_ace).kind
    (slice_index_or rest place no_ace).mask
under_at list bound from [] place l = absurd (omega (arith, l))
under_at list bound from (a ∷ rest) zero l = ap (λ v. mask_under list bound v a.kind a.mask) (omega arith)
under_at list bound from (a ∷ rest) (suc place) l =
    under_at list bound (suc from) rest place (omega (arith, l))
    ∙ ap (λ v. mask_under list bound v (slice_index_or rest place no_ace).kind (slice_index_or rest place no_ace).mask)
    (omega arith)

-- the list whose rights stay by the rule
abbrev pub restricted : List Ace → List Ace → List Ace
restricted list bound = aces_under list bound 0 list

-- the mask of an ALLOW of it has the rights that stay
allow_under : (list bound : List Ace) (place : ℕ) → place < length list
    → (slice_index_or list place no_ace).kind ≡ Allow
    → (slice_index_or (restricted list bound) place no_ace).mask
    ≡ cut_mask (λ bit. stays list bound bit place) 21 (slice_index_or list place no_ace).mask
allow_under list bound place l allow =
    let same : 0 + place ≡ place = omega arith in
    under_at list bound 0 list place l
    ∙ ap (λ v. mask_under list bound v (slice_index_or list place no_ace).kind (slice_index_or list place no_ace).mask)
    same ∙ ap (λ k. mask_under list bound place k (slice_index_or list place no_ace).mask) allow

-- its rights stay by the rule
pub restricted_by_rule : (list bound : List Ace) → HasNames list → HasNames bound
    → IsRestricted list bound (restricted list bound)
restricted_by_rule list bound named other = record {
  removal = under_removal list bound 0 list;
  stays = λ bit place l allow right has. stays_holds list bound bit place
      (cut_passes (λ b. stays list bound b place) 21 (slice_index_or list place no_ace).mask bit
      (subst (λ m. has_bit m bit ≡ true) (allow_under list bound place l allow) has) (right_below bit right));
  kept = λ bit place l allow has kept. subst (λ m. has_bit m bit ≡ true) (sym (allow_under list bound place l allow))
      (cut_keeps (λ b. stays list bound b place) 21 (slice_index_or list place no_ace).mask bit has
      (stays_found list bound bit place named other kept));
}
