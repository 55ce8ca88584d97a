-- What makes a normal list the normal form of an accepted one: that its keys are keys of the source.
use Rattle.acl_normal.proofs.unique.Normal.{quiet_flags}
use Rattle.std.proofs.Common.{List, [], false, true, ℕ, ◌++◌, ◌<◌, ◌∷◌, ◌≡◌, ◌≤◌}
use Rattle.acl_normal.proofs.Common.{Ace, Column, ColumnKey, Has, HasMasks, IsAccepted, IsAce, IsNormal, IsNormalFormOf, IsSubset, IsWithin, KeepsProfiles, SameGrants, ace_key, all_rights, and_parts, ap, arith, column, false_from_ne_true, fits_of, flags_for, full, has_bit, has_bit-and, inl, inr, principal_of, subst, sym, weight, who_for, ◌∙◌, ◌≢◌}
use Rattle.acl_normal.proofs.Each.{at_split, from_splits}
use Rattle.acl_nfs4.specs.Who.{IsWho}
use Rattle.acl_nfs4.proofs.Exports.{each_of}
use Rattle.acl_normal.proofs.unique.Bits.{below, no_bits, some_below}
use Rattle.acl_normal.proofs.emit.Leaving.{masks_of_quiet}
use Rattle.acl_normal.proofs.unique.ListColumns.{comes_from}
use Rattle.acl_normal.proofs.unique.Weights.{length_under}
use Rattle.acl_normal.proofs.unique.Kept.{within_from}
use Rattle.acl_normal.proofs.unique.Candidates.{naming_within}
use Rattle.acl_normal.proofs.reduce.Reducing.{only_one}
use Rattle.acl_normal.proofs.Whoms.{who_is}
use Rattle.acl_normal.proofs.unique.Columns.{column-append, column_with}
use Rattle.acl_normal.proofs.unique.IrreducibleLists.{no_other_bits}

-- the ACE of a list that is a key of a column
pub record IsSource (b : ℕ) (xs : List Ace) (e : ColumnKey) : Type 0 where
  pub before : List Ace
  pub item : Ace
  pub after : List Ace
  pub is : xs ≡ before ++ item ∷ after
  pub has : has_bit item.mask b ≡ true
  pub entry : ace_key item ≡ e

-- columns that are the same begin with the same key, and have the same keys after it
pub first_same : (e f : ColumnKey) (c d : Column) → e ∷ c ≡ f ∷ d → (e ≡ f) × (c ≡ d)
first_same e f c d h = (cc, cc)

-- a key of a column is an ACE of the list
pub source_of : (b : ℕ) (xs : List Ace) (e : ColumnKey) → Has (column xs b) e → IsSource b xs e
source_of b xs e h = let s = comes_from b xs h.before e h.after h.is in
    record { before = s.before; item = s.ace; after = s.after; is = s.is; has = s.has; entry = s.entry }

-- ---- a list whose keys are keys of the source

-- a normal list that grants the same, is no heavier, and has keys of the source alone
pub record IsTaken (source result : List Ace) : Type 0 where
  pub normal : IsNormal result
  pub grants : SameGrants all_rights source result
  pub lighter : weight result ≤ weight source
  pub comes : (b : ℕ) (e : ColumnKey) → Has (column result b) e → Has (column source b) e

-- a normal list has only rights
masks_of : (xs : List Ace) → IsNormal xs → HasMasks xs
masks_of xs n = masks_of_quiet xs (quiet_flags xs n.flags) (λ b out. no_other_bits xs b n.irreducible out)

-- a bit of an ACE of the result is one of an ACE of the source, of the same principal and kind
bit_source : (source xs l : List Ace) (a : Ace) (r : List Ace) (b : ℕ) → IsTaken source xs → xs ≡ l ++ a ∷ r
    → has_bit a.mask b ≡ true → IsSource b source (ace_key a)
bit_source source xs l a r b t is has = source_of b source (ace_key a) (t.comes b (ace_key a) (record {
  before = column l b;
  after = column r b;
  is = ap (λ v. column v b) is ∙ column-append b l (a ∷ r) ∙ ap (λ c. column l b ++ c) (column_with b a r flags has);
}))
  where
    flags : a.flags ≡ flags_for (principal_of a)
    flags = at_split (λ v. v.flags ≡ flags_for (principal_of v)) xs l a r is t.normal.flags

-- each ACE of the result has some bit, and the source has an ACE with its key and that bit
own_source : (source xs l : List Ace) (a : Ace) (r : List Ace) → IsTaken source xs → xs ≡ l ++ a ∷ r
    → (b : ℕ) × IsSource b source (ace_key a)
own_source source xs l a r t is = elim (some_below a.mask 21) [
  | inl (b, has) ↦ (b, bit_source source xs l a r b t is has)
  | inr none ↦ absurd (at_split (λ v. v.mask ≢ 0) xs l a r is t.normal.irreducible.no_empty_mask
      (no_bits a.mask (λ b. false_from_ne_true _ (λ h. absurd (clash (sym (none b (low b h)) ∙ h))))))
]
  where
    low : (b : ℕ) → has_bit a.mask b ≡ true → b < 21
    low b h = below b (at_split (λ v. IsSubset v.mask all_rights) xs l a r is (masks_of xs t.normal) b h)

    clash : false ≡ true → ⊥
    clash h = cc

-- ACEs with one key have one who
same_who : (a s : Ace) → ace_key s ≡ ace_key a → a.who ≡ s.who
same_who a s e = sym (who_is a) ∙ ap (λ k. who_for k.0) (sym e) ∙ who_is s

-- a bit of a set that is within another is one of the other
bits_within : (set n b : ℕ) → IsWithin set n → has_bit n b ≡ true → has_bit set b ≡ true
bits_within set n b is h =
    (and_parts (has_bit n b) (has_bit set b) (sym (has_bit-and n set b) ∙ ap (λ v. has_bit v b) is ∙ h)).1

-- the result is within each profile that the source is within
taken_kept : (source xs : List Ace) → IsTaken source xs → KeepsProfiles source xs
taken_kept source xs t p h = from_splits (IsAce p) xs (λ l a r is.
    let (b, s) = own_source source xs l a r t is in
    let own = of s.before s.item s.after s.is in
    let normal = at_split (λ v. v.flags ≡ flags_for (principal_of v)) xs l a r is t.normal.flags in
    record {
      flags = subst (IsWithin p.flags) (ap (λ k. flags_for k.0) s.entry ∙ sym normal)
          (naming_within p.flags s.item own.flags);
      mask = within_from p.masks a.mask (λ b has.
          let s = bit_source source xs l a r b t is has in
          bits_within p.masks s.item.mask b (of s.before s.item s.after s.is).mask s.has);
      who = subst IsWho (sym (same_who a s.item s.entry)) own.who;
    })
  where
    of : (l : List Ace) (a : Ace) (r : List Ace) → source ≡ l ++ a ∷ r → IsAce p a
    of l a r is = at_split (IsAce p) source l a r is h

-- a normal list with the grants of an accepted one, no heavier and within what that is within, is its normal form
pub form_of : (source result : List Ace) → IsAccepted full source → IsNormal result
    → SameGrants all_rights source result → weight result ≤ weight source → KeepsProfiles source result
    → IsNormalFormOf source result
form_of source result accepted normal grants light kept = record {
  normal = normal;
  grants = grants;
  lighter = light;
  accepted = record {
    count = omega (arith, length_under result normal.irreducible.no_empty_mask, light, accepted.weight);
    weight = omega (arith, light, accepted.weight);
    each = kept full accepted.each;
  };
  fits = λ p fits. fits_of p result (kept p (each_of p source accepted.each fits));
  only = λ other n same. sym (only_one source result other normal grants n same);
  itself = λ n. sym (only_one source result source normal grants n (λ s valid request within. ((λ g. g), (λ g. g))));
}

-- a normal list that grants the same, is no heavier, and has keys of the source alone is its normal form
pub form_from : (source xs : List Ace) → IsTaken source xs → IsAccepted full source → IsNormalFormOf source xs
form_from source xs t ok = form_of source xs ok t.normal t.grants t.lighter (taken_kept source xs t)

-- the empty list is its own normal form
pub empty_form : IsNormalFormOf [] []
empty_form = form_from [] [] (record {
  normal = record {
    irreducible = record { no_empty_mask = tt; needed = λ l a r bit is has same. nothing l a r is };
    ordered = tt;
    flags = tt;
  };
  grants = λ s valid request within. ((λ g. g), (λ g. g));
  lighter = omega arith;
  comes = λ b e h. h;
}) (record { count = omega arith; weight = omega arith; each = tt })
  where
    nothing : (l : List Ace) (a : Ace) (r : List Ace) → [] ≡ l ++ a ∷ r → ⊥
    nothing [] a r is = cc
    nothing (b ∷ l) a r is = cc
