-- Unknown special identifiers with a suffix: when they are names of users and groups.
use Rattle.acl_nfs4.proofs.Common.{[], ap, append-nil, append_assoc, arith, Bool, bytes_eq, bytes_eq_same, cond, ends_in_at, false, get_or, is_no_who_len, is_plain, is_unknown_special, is_utf8, is_utf8-from_IsUtf8, IsUtf8, IsUtf8-from_is_utf8, le-leb, length, length-append, List, list_all, longest_who, nat_le, nat_tests, None, not, refl, Some, subst, suc, sym, true, ℕ, ◌&&◌, ◌++◌, ◌+◌, ◌-◌, ◌==◌, ◌∙◌, ◌∷◌, ◌≡◌, ◌≤◌}
use Rattle.std.specs.Option.{is_none}
use Rattle.std.specs.Str.{encode_utf8_all}
use Rattle.std.proofs.lemmas.List.{get_or-append-add}
use Rattle.std.proofs.lemmas.List.Folds.{list_all-append}
use Rattle.std.proofs.lemmas.Str.{IsUtf8-append, IsUtf8-past_char}
use Rattle.acl_nfs4.specs.AccessPart.{IsAnyWho}
use Rattle.acl_nfs4.specs.Renamed.{is_account}
use Rattle.acl_nfs4.specs.Who.{everyone_name, group_name, is_special, owner_name}
use Rattle.acl_nfs4.specs.declared.who.WhoFault.TheVariants.{Control, Length, Special, Utf8}
use Rattle.acl_nfs4.specs.internal.PartReading.{is_good_suffix}
use Rattle.acl_nfs4.specs.internal.Reading.{text_fault}

-- what follows UTF-8 in UTF-8 is UTF-8
utf8_behind : (front back : List ℕ) → IsUtf8 front → IsUtf8 (front ++ back) → IsUtf8 back
utf8_behind front back f whole = by f.0 (ap (λ (t : List ℕ). t ++ back) f.1.1) whole
  where
    by : (cs : List ℕ) → encode_utf8_all cs ++ back ≡ front ++ back → IsUtf8 (front ++ back) → IsUtf8 back
    by cs e w = walk cs (subst IsUtf8 (sym e) w)
      where
        walk : (ds : List ℕ) → IsUtf8 (encode_utf8_all ds ++ back) → IsUtf8 back
        walk [] u = u
        walk (d ∷ ds) u = walk ds
            (IsUtf8-past_char _ (encode_utf8_all ds ++ back) d u (append_assoc _ (encode_utf8_all ds) back))

-- a text and more are UTF-8 if and only if what is behind is
utf8_same : (front back : List ℕ) → is_utf8 front ≡ true → is_utf8 (front ++ back) ≡ is_utf8 back
utf8_same front back f = by (is_utf8 back) (is_utf8 (front ++ back)) refl refl
  where
    by : (b w : Bool) → is_utf8 back ≡ b → is_utf8 (front ++ back) ≡ w → is_utf8 (front ++ back) ≡ is_utf8 back
    by true w be we = is_utf8-from_IsUtf8 _
        (IsUtf8-append front back (IsUtf8-from_is_utf8 front f) (IsUtf8-from_is_utf8 back be)) ∙ sym be
    by false false be we = we ∙ sym be
    by false true be we = we ∙ sym (is_utf8-from_IsUtf8 back
        (utf8_behind front back (IsUtf8-from_is_utf8 front f) (IsUtf8-from_is_utf8 _ we)))

-- a last byte stays the last byte behind other bytes
at_behind : (front back : List ℕ) → 1 ≤ length back → ends_in_at (front ++ back) ≡ ends_in_at back
at_behind front back some = ap (λ (b : ℕ). b == 64) (by (length (front ++ back) - 1) (length back - 1)
    (omega (arith, some, length-append front back)))
  where
    by : (i k : ℕ) → i ≡ length front + k → get_or (front ++ back) i 0 ≡ get_or back k 0
    by i k e = ap (λ (n : ℕ). get_or (front ++ back) n 0) e ∙ get_or-append-add front back k 0

-- each special identifier that is accepted ends in `@`
special_at : (who : List ℕ) → is_special who ≡ true → ends_in_at who ≡ true
special_at who e = by (bytes_eq who owner_name) (bytes_eq who group_name) (bytes_eq who everyone_name) refl refl refl
  where
    by : (o g a : Bool) → bytes_eq who owner_name ≡ o → bytes_eq who group_name ≡ g → bytes_eq who everyone_name ≡ a
        → ends_in_at who ≡ true
    by true g a oe ge ae = ap ends_in_at (bytes_eq_same who owner_name oe)
    by false true a oe ge ae = ap ends_in_at (bytes_eq_same who group_name ge)
    by false false true oe ge ae = ap ends_in_at (bytes_eq_same who everyone_name ae)
    by false false false oe ge ae = let none : false ≡ true = rw (oe, ge, ae) at e in absurd cc

-- what the tests of a name say
tests : (long utf8 plain at special : Bool) → (special ≡ true → at ≡ true)
    → (not long && (is_none (cond (not utf8) (Some Utf8) (cond (not plain) (Some Control) None)) && not at))
    ≡ (is_none (cond long (Some Length) (cond (not utf8) (Some Utf8) (cond (not plain) (Some Control)
    (cond (at && not special) (Some Special) None)))) && not special)
tests true utf8 plain at special h = refl
tests false false plain at special h = refl
tests false true false at special h = refl
tests false true true true true h = refl
tests false true true true false h = refl
tests false true true false false h = refl
tests false true true false true h = let wrong : false ≡ true = h refl in absurd cc

-- the bytes of a name and of a suffix are no more than a name may have
room_is : (n m : ℕ) → is_no_who_len n ≡ false → nat_le m (longest_who - n) ≡ not (is_no_who_len (n + m))
room_is n m e = grind (arith, nat_tests)

-- the length of a list with a first element is not zero
some_byte : (n : ℕ) → (suc n == 0) ≡ false
some_byte n = grind (arith, nat_tests)

-- an unknown special identifier with a suffix is the name of a user or a group if and only if the suffix is good and
-- there is room for it
pub account_after : (name suffix : List ℕ) → IsAnyWho name → is_unknown_special name ≡ true
    → (nat_le (length suffix) (longest_who - length name) && is_good_suffix suffix) ≡ is_account (name ++ suffix)
account_after name [] is unknown = and_none (nat_le 0 (longest_who - length name))
    ∙ sym (ap is_account (append-nil name)
    ∙ rw (is.long, is.utf8, is.plain, unknown) refl)
  where
    and_none : (b : Bool) → (b && false) ≡ false
    and_none true = refl
    and_none false = refl
account_after name (b ∷ rest) is unknown =
    ap (λ (r : Bool). r && is_good_suffix s) (room_is (length name) (length s) is.long)
    ∙ ap (λ (t : Bool). not (is_no_who_len (length name + length s)) && (not t
    && (is_none (text_fault s) && not (ends_in_at s)))) (some_byte (length rest))
    ∙ ap (λ (l : Bool). passes l (is_utf8 s) (list_all is_plain s) (ends_in_at s))
    (ap is_no_who_len (sym (length-append name s)))
    ∙ ap (λ (u : Bool). passes (is_no_who_len (length w)) u (list_all is_plain s) (ends_in_at s))
    (sym (utf8_same name s is.utf8))
    ∙ ap (λ (p : Bool). passes (is_no_who_len (length w)) (is_utf8 w) p (ends_in_at s)) (sym plain)
    ∙ ap (passes (is_no_who_len (length w)) (is_utf8 w) (list_all is_plain w)) (sym at)
    ∙ tests (is_no_who_len (length w)) (is_utf8 w) (list_all is_plain w) (ends_in_at w) (is_special w) (special_at w)
  where
    s : List ℕ
    s = b ∷ rest

    w : List ℕ
    w = name ++ s

    passes : Bool → Bool → Bool → Bool → Bool
    passes long utf8 plain at =
        not long && (is_none (cond (not utf8) (Some Utf8) (cond (not plain) (Some Control) None)) && not at)

    plain : list_all is_plain w ≡ list_all is_plain s
    plain = list_all-append is_plain name s ∙ ap (λ (t : Bool). t && list_all is_plain s) is.plain

    at : ends_in_at w ≡ ends_in_at s
    at = at_behind name s (omega arith)

-- the same, if there is room
pub account_with_room : (name suffix : List ℕ) → IsAnyWho name → is_unknown_special name ≡ true
    → length suffix ≤ longest_who - length name → is_good_suffix suffix ≡ is_account (name ++ suffix)
account_with_room name suffix is unknown room =
    ap (λ (t : Bool). t && is_good_suffix suffix) (sym (le-leb (length suffix) (longest_who - length name) room))
    ∙ account_after name suffix is unknown
