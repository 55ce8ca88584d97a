-- The list of the ACEs with needed rights, and what the whole pass over it makes.
use Rattle.acl_contain.proofs.joins.Between.{kept_names, kept_rights}
use Rattle.acl_contain.proofs.joins.Columns.{short_irreducible}
use Rattle.acl_contain.specs.internal.Joining.{AreJoined, IsKeptAce, IsPlain, IsTidied}
use Rattle.acl_nfs4.specs.Who.{IsWho}
use Rattle.acl_normal.proofs.Common.{Ace, AceRef, AllByRecursion, Bool, HasMasks, HasNormalFlags, IsAce, IsIrreducible, IsQuiet, IsReducedOf, IsSubset, IsWithin, List, SameVerdicts, [], ace_key, aces_with, all_rights, ap, append-nil, arith, column, counts, drop, drop_all, eqb-false, false, flags_for, full, get_or-map, has_bit, is_inherit_only, left, length, length-map, map, matches, not, nothing_left, principal_of, refl, subst, suc, sym, true, verdict, ℕ, ◌&&◌, ◌++◌, ◌<◌, ◌==◌, ◌∙◌, ◌∷◌, ◌≡◌, ◌≢◌, ◌≤◌}
use Rattle.acl_normal.proofs.Each.{all_at, all_from, all_weaker}
use Rattle.acl_normal.proofs.Exports.{column_left, irreducible_fewest, masks_of_quiet}
use Rattle.acl_normal.proofs.unique.Accepted.{accepted_names}
use Rattle.acl_normal.proofs.unique.Candidates.{naming_within}
use Rattle.acl_normal.proofs.unique.Columns.{column_has, column_lacks, no_inherit_only}
use Rattle.acl_normal.proofs.unique.Irreducible.{irreducible_clean, once_from_clean}
use Rattle.acl_normal.proofs.unique.IrreducibleLists.{irreducible_column}
use Rattle.acl_normal.proofs.unique.Kept.{within_from}
use Rattle.acl_normal.proofs.unique.ListColumns.{names_in_column, same_grants_from_columns, same_verdicts}
use Rattle.acl_normal.proofs.unique.Normal.{counts_mask, irreducible_list, quiet_flags}
use Rattle.acl_normal.proofs.unique.Weights.{weight_falls}
use Rattle.acl_normal.specs.internal.comparison.FirstPlaces.{no_ace}
use Rattle.acl_normal.specs.internal.emit.Rising.{all_cleared, cleared}
use Rattle.acl_perm.specs.declared.mask.Mask.{Mask}
use Rattle.std.specs.Prelude.{Contains}
use mathlib.Core.Logic.Iff.{trans}

-- ---- ACEs with the flags that their principals need

-- an ACE with these flags names the same
cleared_principal : (a : Ace) → principal_of (cleared a) ≡ principal_of a
cleared_principal a = grind arith

-- so it has the same key
cleared_key : (a : Ace) → ace_key (cleared a) ≡ ace_key a
cleared_key a = ap (λ p. (p, a.kind)) (cleared_principal a)

-- it takes part
cleared_part : (a : Ace) → is_inherit_only (cleared a) ≡ false
cleared_part a = no_inherit_only (principal_of a)

-- a quiet list with these flags has the same columns
column_cleared : (b : ℕ) (xs : List Ace) → IsQuiet xs → column (all_cleared xs) b ≡ column xs b
column_cleared b [] quiet = refl
column_cleared b (a ∷ xs) quiet = go (has_bit a.mask b) refl (column_cleared b xs quiet.1)
  where
    same : counts b (cleared a) ≡ has_bit a.mask b
    same = ap (λ t. has_bit a.mask b && not t) (cleared_part a) ∙ and_true (has_bit a.mask b)
      where
        and_true : (t : Bool) → (t && true) ≡ t
        and_true t = grind arith

    go : (t : Bool) → has_bit a.mask b ≡ t → column (all_cleared xs) b ≡ column xs b
        → column (all_cleared (a ∷ xs)) b ≡ column (a ∷ xs) b
    go true h rest = column_has b (cleared a) (all_cleared xs) (same ∙ h)
        ∙ ap (λ c. ace_key (cleared a) ∷ c) rest ∙ ap (λ k. k ∷ column xs b) (cleared_key a)
        ∙ sym (column_has b a xs (counts_mask b a quiet.0 ∙ h))
    go false h rest = column_lacks b (cleared a) (all_cleared xs) (same ∙ h) ∙ rest
        ∙ sym (column_lacks b a xs (counts_mask b a quiet.0 ∙ h))

-- ---- what holds of each ACE

-- each element of a list has its image among the images
all_contained : (xs : List Ace) → AllByRecursion (λ a. Contains (map ace_key xs) (ace_key a)) xs
all_contained xs = all_from (λ a. Contains (map ace_key xs) (ace_key a)) xs no_ace (λ i l.
    (i, omega (arith, l, length-map xs ace_key), get_or-map ace_key xs i no_ace _ l))

-- what holds of each ACE holds of each with rights
all_left_of : (P : Ace → Type 0) (xs : List Ace) → AllByRecursion P xs
    → AllByRecursion (λ a. P a × (a.mask ≢ 0)) (left xs)
all_left_of P [] h = tt
all_left_of P (a ∷ xs) h = go (a.mask == 0) refl (all_left_of P xs h.1)
  where
    go : (t : Bool) → (a.mask == 0) ≡ t → AllByRecursion (λ a. P a × (a.mask ≢ 0)) (left xs)
        → AllByRecursion (λ a. P a × (a.mask ≢ 0)) (left (a ∷ xs))
    go true e rest = rw e rest
    go false e rest = rw e ((h.0, eqb-false a.mask 0 e), rest)

-- what holds of each ACE with other flags holds of each of the list with these flags
all_cleared_of : (P Q : Ace → Type 0) (xs : List Ace) → ((a : Ace) → P a → Q (cleared a)) → AllByRecursion P xs
    → AllByRecursion Q (all_cleared xs)
all_cleared_of P Q [] f h = tt
all_cleared_of P Q (a ∷ xs) f h = (f a h.0, all_cleared_of P Q xs f h.1)

-- what holds of each ACE of a list whatever its mask holds of each ACE of a list of its outline
all_outline : (P : Ace → Type 0) (xs ys : List Ace) → ((a b : Ace) → record a { mask = 0 } ≡ record b { mask = 0 }
    → P a → P b)
    → nothing_left ys ≡ nothing_left xs → AllByRecursion P xs → AllByRecursion P ys
all_outline P [] [] f e h = tt
all_outline P (a ∷ xs) [] f e h = cc
all_outline P [] (b ∷ ys) f e h = cc
all_outline P (a ∷ xs) (b ∷ ys) f e h =
    let first : record b { mask = 0 } ≡ record a { mask = 0 } = cc in
    let rest : nothing_left ys ≡ nothing_left xs = cc in
    (f a b (sym first) h.0, all_outline P xs ys f rest h.1)

-- no more ACEs are left than there were
left_shorter : (xs : List Ace) → length (left xs) ≤ length xs
left_shorter [] = omega arith
left_shorter (a ∷ xs) = go (a.mask == 0) refl (left_shorter xs)
  where
    go : (t : Bool) → (a.mask == 0) ≡ t → length (left xs) ≤ length xs → length (left (a ∷ xs)) ≤ length (a ∷ xs)
    go true e l = rw e (omega (arith, l))
    go false e l = rw e (omega (arith, l))

-- lists of one outline are of one length
outline_length : (xs ys : List Ace) → nothing_left ys ≡ nothing_left xs → length ys ≡ length xs
outline_length [] [] e = refl
outline_length (a ∷ xs) [] e = cc
outline_length [] (b ∷ ys) e = cc
outline_length (a ∷ xs) (b ∷ ys) e =
    let rest : nothing_left ys ≡ nothing_left xs = cc in
    ap suc (outline_length xs ys rest)

-- for a list and what a reduction leaves of it
module _ (source ys : List Ace) (r : IsReducedOf source ys) where
  -- the ACEs with needed rights
  abbrev pub zs : List Ace
  zs = all_cleared (left ys)

  quiet : IsQuiet ys
  quiet = r.thinned.tidy.quiet

  masks : HasMasks ys
  masks = masks_of_quiet ys quiet r.rights

  -- each ACE of the reduction has a who of the source, flags that it may have, and a key of the source
  abbrev pub IsFromSource : Ace → Type 0
  IsFromSource a = IsWho a.who × IsWithin full.flags a.flags × Contains (map ace_key source) (ace_key a)

  both : (P Q R : Ace → Type 0) (xs : List Ace) → ((a : Ace) → P a → Q a → R a) → AllByRecursion P xs
      → AllByRecursion Q xs → AllByRecursion R xs
  both P Q R [] f h i = tt
  both P Q R (a ∷ xs) f h i = (f a h.0 i.0, both P Q R xs f h.1 i.1)

  from_source : AllByRecursion IsFromSource ys
  from_source = all_outline IsFromSource source ys
      (λ a b e h. (
        subst IsWho (ap (λ v. v.who) e) h.0,
        subst (IsWithin full.flags) (ap (λ v. v.flags) e) h.1,
        subst (Contains (map ace_key source)) (ap (λ v. ace_key v) e) h.2,
      )) r.thinned.outline
      (both (IsAce full) (λ a. Contains (map ace_key source) (ace_key a)) IsFromSource source
      (λ a ok has. (ok.who, ok.flags, has)) r.accepted.each (all_contained source))

  -- the facts about each of the ACEs with needed rights
  abbrev pub IsFine : Ace → Type 0
  IsFine a = IsAce full a × (a.flags ≡ flags_for (principal_of a)) × (a.mask ≢ 0) × Contains (map ace_key source)
      (ace_key a)

  fine : AllByRecursion IsFine zs
  fine = all_cleared_of (λ a. (IsFromSource a × IsSubset a.mask all_rights) × (a.mask ≢ 0)) IsFine (left ys)
      (λ a h. (
        record {
          flags = naming_within full.flags a h.0.0.1;
          mask = within_from full.masks a.mask h.0.1;
          who = h.0.0.0;
        },
        ap flags_for (sym (cleared_principal a)),
        h.1,
        subst (Contains (map ace_key source)) (sym (cleared_key a)) h.0.0.2,
      ))
      (all_left_of (λ a. IsFromSource a × IsSubset a.mask all_rights) ys
      (both IsFromSource (λ a. IsSubset a.mask all_rights) (λ a. IsFromSource a × IsSubset a.mask all_rights) ys
      (λ a h i. (h, i)) from_source masks))

  quiet_left : (xs : List Ace) → IsQuiet xs → IsQuiet (left xs)
  quiet_left [] q = tt
  quiet_left (a ∷ xs) q = grind (arith, quiet_left xs q.1, q.0)

  columns : (b : ℕ) → column zs b ≡ column ys b
  columns b = column_cleared b (left ys) (quiet_left ys quiet) ∙ column_left b ys

  irreducible : (b : ℕ) → IsIrreducible (column zs b)
  irreducible b = subst IsIrreducible (column_left b ys ∙ sym (columns b)) (irreducible_column (left ys) b
      r.irreducible)

  -- they are ready to be joined
  pub plain_left : IsPlain zs
  plain_left = record {
    irreducible = irreducible;
    each = both IsFine (λ a. Contains (map ace_key zs) (ace_key a)) (IsKeptAce zs) zs
        (λ a h has. record { accepted = h.0; flags = h.1; mask = h.2; of_list = has }) fine (all_contained zs);
  }

  -- where they are joined, the list is tidied
  pub tidied_left : (kept : List Ace) → AreJoined zs (length zs) kept → IsTidied source kept
  tidied_left kept joined = record {
    same = λ s valid request within. trans (r.grants s valid request within)
        (same_grants_from_columns ys kept (λ b right. same b) s valid request within);
    accepted = record {
      count = omega (arith, shorter, r.accepted.count);
      weight = omega (arith, weight_falls source kept kept_quiet kept_masks fewer, r.accepted.weight);
      each = all_weaker (IsKeptAce zs) (IsAce full) kept (λ a k. k.accepted) joined.each;
    };
    length = shorter;
    needed = irreducible_list kept (all_weaker (IsKeptAce zs) (λ a. a.mask ≢ 0) kept (λ a k. k.mask) joined.each)
        kept_masks kept_quiet (λ b. short_irreducible (column ys b) (column kept b)
        (subst IsIrreducible (columns b) (irreducible b)) (names_in_column b kept (kept_names zs kept joined.each))
        (same b) (few b));
    joined = joined.no_join;
    keys = all_weaker (IsKeptAce zs) (λ a. Contains (map ace_key source) (ace_key a)) kept (λ a k. key a k.of_list)
        joined.each;
    flags = flags;
  }
    where
      flags : HasNormalFlags kept
      flags = all_weaker (IsKeptAce zs) (λ a. a.flags ≡ flags_for (principal_of a)) kept (λ a k. k.flags) joined.each

      kept_quiet : IsQuiet kept
      kept_quiet = quiet_flags kept flags

      kept_masks : HasMasks kept
      kept_masks = all_weaker (IsKeptAce zs) (λ a. IsSubset a.mask all_rights) kept (kept_rights zs) joined.each

      shorter : length kept ≤ length source
      shorter = omega (
        arith,
        joined.count,
        length-map (left ys) cleared,
        left_shorter ys,
        outline_length source ys r.thinned.outline,
      )

      whole : (b : ℕ) → column kept b ++ column (drop (length zs) zs) b ≡ column kept b
      whole b = ap (λ v. column kept b ++ column v b) (drop_all (length zs) zs (omega arith))
          ∙ append-nil (column kept b)

      same : (b : ℕ) → SameVerdicts (column ys b) (column kept b)
      same b s valid = ap (verdict (matches s)) (sym (columns b)) ∙ joined.same b s valid
          ∙ ap (verdict (matches s)) (whole b)

      few : (b : ℕ) → length (column kept b) ≤ length (column ys b)
      few b = omega (arith, joined.few b, ap length (whole b), ap length (columns b))

      fewer : (b : ℕ) → length (column kept b) ≤ length (column source b)
      fewer b = go (has_bit all_rights b) refl
        where
          go : (t : Bool) → has_bit all_rights b ≡ t → length (column kept b) ≤ length (column source b)
          go true right = omega (
            arith,
            few b,
            irreducible_fewest (column ys b) (column source b)
                (once_from_clean (column ys b) (irreducible_clean (column ys b) irr)) irr
                (names_in_column b source (accepted_names full source r.accepted))
                (λ s valid. sym (same_verdicts source ys r.grants b right s valid)),
          )
            where
              irr : IsIrreducible (column ys b)
              irr = subst IsIrreducible (columns b) (irreducible b)
          go false none = omega (arith, few b, ap length (r.rights b none))

      key : (a : Ace) → Contains (map ace_key zs) (ace_key a) → Contains (map ace_key source) (ace_key a)
      key a (i, l, is) =
          let inside : i < length zs = omega (arith, l, length-map zs ace_key) in
          subst (Contains (map ace_key source))
          (sym (get_or-map ace_key zs i no_ace (ace_key a) inside) ∙ is)
          (all_at IsFine zs i no_ace inside fine).3

-- the ACEs with needed rights of the code are ready to be joined
pub plain_by : {source ready : List Ace} (aces : List AceRef) (masks : List Mask)
    → IsReducedOf source (aces_with aces masks)
    → ready ≡ all_cleared (left (aces_with aces masks)) → IsPlain ready
plain_by {source} aces masks r is = subst IsPlain (sym is) (plain_left source (aces_with aces masks) r)

-- where they are joined, the list is tidied
pub tidied_by : {source ready kept : List Ace} {n : ℕ} (aces : List AceRef) (masks : List Mask)
    → IsReducedOf source (aces_with aces masks) → ready ≡ all_cleared (left (aces_with aces masks)) → n ≡ length ready
    → AreJoined ready n kept → IsTidied source kept
tidied_by {source} {ready} {kept} {n} aces masks r is count joined =
    tidied_left source (aces_with aces masks) r kept
    (subst (λ v. AreJoined v (length v) kept) is (subst (λ m. AreJoined ready m kept) count joined))
