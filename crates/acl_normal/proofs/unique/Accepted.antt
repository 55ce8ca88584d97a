-- What is known of an accepted list: each who is a name, and each bit is a right.
use Rattle.std.proofs.Common.{◌≡◌, ℕ, ◌<◌, ◌+◌, ◌/◌, ◌%◌, Bool, true, false, List, [], ◌∷◌, length, refl}
use Rattle.acl_normal.proofs.Common.{Ace, AllByRecursion, and_parts, arith, bits_from_mask, full, HasMasks, HasName, HasNames, if◌then◌else◌, inl, inr, IsAccepted, IsAce, IsName, nat_lt, None, not, Option, principal_of, Profile, Some, subst}
use Rattle.std.specs.Str.{is_utf8}
use Rattle.acl_normal.proofs.Each.{all_append}
use Rattle.std.proofs.Math.Utf8.{encode, encodes, scalar, scalars, scalar_cases}
use Rattle.std.proofs.lemmas.Bool.{ltb-true}
use Rattle.std.proofs.lemmas.List.Elements.{All-from_recursion}
use Rattle.std.proofs.lemmas.Str.{IsUtf8-from_is_utf8}
use Rattle.acl_nfs4.specs.Who.{IsWho, is_no_who_len}
use Rattle.acl_nfs4.proofs.Exports.{who_bounds}

-- ---- a who is a name

-- each number is a byte
abbrev AreBytes : List ℕ → Type 0
AreBytes bs = AllByRecursion (λ b. b < 256) bs

-- the encoding of a number below 1114112 is bytes
encoded_bytes : (c : ℕ) → c < 1114112 → AreBytes (encode c)
unfolding encode
encoded_bytes c lt = go (nat_lt c 128) refl (nat_lt c 2048) refl (nat_lt c 65536) refl
  where
    next : (n : ℕ) → 128 + n % 64 < 256
    next n = omega arith

    go : (x : Bool) → nat_lt c 128 ≡ x → (y : Bool) → nat_lt c 2048 ≡ y → (z : Bool) → nat_lt c 65536 ≡ z
        → AreBytes (encode c)
    go true e y f z g = rw e (let h = ltb-true c 128 e in omega arith, tt)
    go false e true f z g = rw (e, f) (let h = ltb-true c 2048 f in omega arith, (next c, tt))
    go false e false f true g = rw (e, f, g) (let h = ltb-true c 65536 g in omega arith, (next (c / 64), (next c, tt)))
    go false e false f false g = rw (e, f, g) (omega arith, (next (c / 4096), (next (c / 64), (next c, tt))))

-- a scalar value is below 1114112
scalar_below : (c : ℕ) → scalar c ≡ true → c < 1114112
scalar_below c h = elim (scalar_cases c h) [
  | inl low ↦ omega arith
  | inr high ↦ high.1
]

-- the encodings of scalar values are bytes
encodes_bytes : (cs : List ℕ) → scalars cs ≡ true → AreBytes (encodes cs)
encodes_bytes [] h = tt
encodes_bytes (c ∷ cs) h =
    let parts = and_parts (scalar c) (scalars cs) h in
    all_append (λ b. b < 256) (encode c) (encodes cs) (encoded_bytes c (scalar_below c parts.0))
    (encodes_bytes cs parts.1)

-- UTF-8 is bytes
utf8_bytes : (bs : List ℕ) → is_utf8 bs ≡ true → AreBytes bs
utf8_bytes bs h =
    let (cs, (valid, is)) = IsUtf8-from_is_utf8 bs h in
    subst AreBytes is (encodes_bytes cs valid)

-- if two tests in turn find no fault, the value passes the second one
passes_second : {A : Type 0} (a u : Bool) (x y : A) (r : Option A)
    → (if a then Some x else (if not u then Some y else r)) ≡ None → u ≡ true
passes_second a u x y r h = grind arith

-- a who is a name that a situation may have
pub who_name : (who : List ℕ) → IsWho who → IsName who
who_name who is = (
  let bounds = who_bounds who is in omega arith,
  All-from_recursion (λ b. b < 256) who
      (utf8_bytes who (passes_second (is_no_who_len (length who)) (is_utf8 who) _ _ _ is)),
)

-- the principal of an ACE has a name that a situation may have, if it is a user or a group
pub ace_name : (a : Ace) → IsWho a.who → HasName (principal_of a)
ace_name a is = named (who_name a.who is)
  where
    named : IsName a.who → HasName (principal_of a)
    named name = grind arith

-- ---- each of a list

-- the principals of ACEs have such names
pub each_name : (p : Profile) (list : List Ace) → AllByRecursion (IsAce p) list → HasNames list
each_name p [] h = tt
each_name p (a ∷ list) h = (ace_name a h.0.who, each_name p list h.1)

-- the user and group names of an accepted list are names that a situation may have
pub accepted_names : (p : Profile) (list : List Ace) → IsAccepted p list → HasNames list
accepted_names p list h = each_name p list h.each

-- the bits of ACEs are rights
pub each_mask : (list : List Ace) → AllByRecursion (IsAce full) list → HasMasks list
each_mask [] h = tt
each_mask (a ∷ list) h = (λ k has. bits_from_mask a.mask k h.0.mask has, each_mask list h.1)

-- the bits of an accepted list are rights
pub accepted_masks : (list : List Ace) → IsAccepted full list → HasMasks list
accepted_masks list h = each_mask list h.each
