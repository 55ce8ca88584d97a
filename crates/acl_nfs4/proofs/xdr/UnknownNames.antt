-- The names that are unknown special identifiers, and which names have the suffix of one.
use Rattle.acl_nfs4.proofs.Common.{[], ace, ap, Bool, bytes_eq, bytes_eq_same, false, get_or, is_unknown_special, length, List, map, refl, sym, take, true, ℕ, ◌&&◌, ◌++◌, ◌+◌, ◌<◌, ◌∙◌, ◌∷◌, ◌≡◌, ◌≢◌, name_self}
use Rattle.std.specs.Borrow.{Bor}
use Rattle.std.specs.BTreeSet.{BTreeSet, insert_key}
use Rattle.std.specs.Cmp.Lexicographic.{slice_cmp}
use Rattle.std.specs.List.{list_any}
use Rattle.std.specs.Ordering.{is_eq, nat_cmp}
use Rattle.std.specs.Prelude.{◌||◌}
use Rattle.std.specs.declared.cmp.Ordering.{Ordering}
use Rattle.std.specs.declared.cmp.Ordering.TheVariants.{Less, Equal, Greater}
use Rattle.std.proofs.lemmas.Bool.{true≢false}
use Rattle.std.proofs.lemmas.List.{append_cancel_right}
use Rattle.std.proofs.lemmas.Map.Lookups.{exact_bytes}
use Rattle.std.proofs.lemmas.Map.Text.{is_eq-slice_cmp}
use Rattle.acl_nfs4.specs.UnknownGroups.{is_stand_in}
use Rattle.acl_nfs4.specs.declared.ace.AceRef.{AceRef}
use Rattle.acl_nfs4.specs.internal.PartReading.{has_name, HasUnknownNames, is_unknown_name}
use Rattle.acl_nfs4.proofs.xdr.FirstPassing.{any_more}

-- the keys of a set with one more key, as a test of names
any_inserted : (who : List ℕ) (keys : List (Bor (List ℕ))) (key : Bor (List ℕ))
    → list_any (λ k. is_eq (slice_cmp nat_cmp who k.now)) (insert_key (λ x y. slice_cmp nat_cmp x.now y.now) keys key)
    ≡ (list_any (λ k. is_eq (slice_cmp nat_cmp who k.now)) keys || is_eq (slice_cmp nat_cmp who key.now))
any_inserted who [] key = by (is_eq (slice_cmp nat_cmp who key.now))
  where
    by : (t : Bool) → (t || false) ≡ (false || t)
    by true = refl
    by false = refl
any_inserted who (x ∷ keys) key = by (slice_cmp nat_cmp key.now x.now) refl (any_inserted who keys key)
  where
    test : Bor (List ℕ) → Bool
    test k = is_eq (slice_cmp nat_cmp who k.now)

    swap : (t r : Bool) → (t || r) ≡ (r || t)
    swap true true = refl
    swap true false = refl
    swap false true = refl
    swap false false = refl

    absorb : (t r : Bool) → (t || r) ≡ ((t || r) || t)
    absorb true r = refl
    absorb false true = refl
    absorb false false = refl

    assoc : (t r x : Bool) → (t || (r || x)) ≡ ((t || r) || x)
    assoc true r x = refl
    assoc false r x = refl

    by : (o : Ordering) → slice_cmp nat_cmp key.now x.now ≡ o
        → list_any test (insert_key (λ x y. slice_cmp nat_cmp x.now y.now) keys key) ≡ (list_any test keys || test key)
        → list_any test (insert_key (λ x y. slice_cmp nat_cmp x.now y.now) (x ∷ keys) key)
        ≡ (list_any test (x ∷ keys) || test key)
    by Less e rest = rw e (swap (test key) (list_any test (x ∷ keys)))
    by Equal e rest = rw e (absorb (test x) (list_any test keys)
        ∙ ap (λ (n : List ℕ). (test x || list_any test keys) || is_eq (slice_cmp nat_cmp who n))
        (sym (exact_bytes key.now x.now e)))
    by Greater e rest = rw e (ap (λ t. test x || t) rest ∙ assoc (test x) (list_any test keys) (test key))

-- the set has one more name after it was inserted
pub name_inserted : (old new : BTreeSet (Bor (List ℕ))) (name : Bor (List ℕ))
    → new.keys ≡ insert_key (λ x y. slice_cmp nat_cmp x.now y.now) old.keys name
    → (who : List ℕ) → has_name new who ≡ (has_name old who || bytes_eq who name.now)
name_inserted old new name is who =
    ap (list_any (λ k. is_eq (slice_cmp nat_cmp who k.now))) is ∙ any_inserted who old.keys name
    ∙ ap (λ t. has_name old who || t) (is_eq-slice_cmp who name.now)

-- the names with that of one more ACE
pub names_more : (old new : BTreeSet (Bor (List ℕ))) (es : List AceRef) (i : ℕ) (item : AceRef) → i < length es
    → item ≡ get_or es i item → is_unknown_special item.who.now ≡ true → HasUnknownNames old (take i es)
    → new.keys ≡ insert_key (λ x y. slice_cmp nat_cmp x.now y.now) old.keys item.who
    → HasUnknownNames new (take (i + 1) es)
names_more old new es i item lt read unknown has is who = name_inserted old new item.who is who
    ∙ ap (λ (t : Bool). t || bytes_eq who item.who.now) (has who)
    ∙ ap (λ (t : Bool). list_any (λ a. is_unknown_name who (ace a)) (take i es) || (t && bytes_eq who item.who.now))
    (sym unknown) ∙ sym (any_more (λ a. is_unknown_name who (ace a)) es i item lt read)

-- the names stay the same at an ACE with another who
pub names_stay : (names : BTreeSet (Bor (List ℕ))) (es : List AceRef) (i : ℕ) (item : AceRef) → i < length es
    → item ≡ get_or es i item → is_unknown_special item.who.now ≡ false → HasUnknownNames names (take i es)
    → HasUnknownNames names (take (i + 1) es)
names_stay names es i item lt read known has who = has who ∙ and_nothing (list_any test (take i es))
    ∙ ap (λ (t : Bool). list_any test (take i es) || (t && bytes_eq who item.who.now)) (sym known)
    ∙ sym (any_more test es i item lt read)
  where
    test : AceRef → Bool
    test a = is_unknown_name who (ace a)

    and_nothing : (b : Bool) → b ≡ (b || false)
    and_nothing true = refl
    and_nothing false = refl

-- names with a suffix are equal if and only if the names are
with_suffix : (who front suffix : List ℕ) → bytes_eq front who ≡ bytes_eq (who ++ suffix) (front ++ suffix)
with_suffix who front suffix = by (bytes_eq front who) (bytes_eq (who ++ suffix) (front ++ suffix)) refl refl
  where
    by : (a b : Bool) → bytes_eq front who ≡ a → bytes_eq (who ++ suffix) (front ++ suffix) ≡ b
        → bytes_eq front who ≡ bytes_eq (who ++ suffix) (front ++ suffix)
    by true b ae be = ae ∙ sym (ap (λ (f : List ℕ). bytes_eq (who ++ suffix) (f ++ suffix)) (bytes_eq_same front who ae)
        ∙ name_self (who ++ suffix))
    by false false ae be = ae ∙ sym be
    by false true ae be =
        let same : front ≡ who = sym (append_cancel_right who front suffix (bytes_eq_same _ _ be)) in
        absurd (true≢false (sym (ap (λ (f : List ℕ). bytes_eq f who) same ∙ name_self who) ∙ ae))

-- the set has what is before the suffix if and only if the name is an unknown special identifier with the suffix
pub stands_in : (names : BTreeSet (Bor (List ℕ))) (list : List AceRef) (name suffix front : List ℕ)
    → name ≡ front ++ suffix → HasUnknownNames names list
    → has_name names front ≡ is_stand_in suffix (map ace list) name
stands_in names list name suffix front e has = has front ∙ each list
    ∙ ap (is_stand_in suffix (map ace list)) (sym e)
  where
    each : (es : List AceRef)
        → list_any (λ a. is_unknown_name front (ace a)) es ≡ is_stand_in suffix (map ace es) (front ++ suffix)
    each [] = refl
    each (a ∷ es) = ap (λ (t : Bool). (is_unknown_special a.who.now && t)
        || list_any (λ b. is_unknown_name front (ace b)) es) (with_suffix a.who.now front suffix)
        ∙ ap (λ (t : Bool). (is_unknown_special a.who.now && bytes_eq (a.who.now ++ suffix) (front ++ suffix)) || t)
        (each es)

-- a name that does not end in the suffix is none with the suffix
pub stands_not : (list : List AceRef) (name suffix : List ℕ) → ((front : List ℕ) → name ≢ front ++ suffix)
    → is_stand_in suffix (map ace list) name ≡ false
stands_not [] name suffix never = refl
stands_not (a ∷ list) name suffix never =
    rw (other (bytes_eq (a.who.now ++ suffix) name) refl, and_none (is_unknown_special a.who.now))
    (stands_not list name suffix never)
  where
    other : (t : Bool) → bytes_eq (a.who.now ++ suffix) name ≡ t → bytes_eq (a.who.now ++ suffix) name ≡ false
    other true e = absurd (never a.who.now (sym (bytes_eq_same _ _ e)))
    other false e = e

    and_none : (b : Bool) → (b && false) ≡ false
    and_none true = refl
    and_none false = refl
