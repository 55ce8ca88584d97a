-- A part of a descriptor grants no more than its whole DACL.
use Rattle.std.proofs.Common.{◌≡◌, ℕ, zero, suc, ◌+◌, ◌++◌, Bool, true, false, eqb, List, [], ◌∷◌, Option, arith, refl, sym, ap, subst, ◌∙◌}
use Rattle.std.specs.Prelude.{bit_and, bit_xor, map, not, ◌&&◌, ◌||◌, if◌then◌else◌, IsFalse, IsTrue}
use Rattle.std.specs.List.{AllByRecursion}
use Rattle.std.specs.Int.Bits.{and_zero_r, xor_zero_r}
use Rattle.std.proofs.lemmas.List.Concat.{flat_map-cons}
use Rattle.std.proofs.lemmas.Bool.{and_parts, eq-eqb, eqb-true, lt-leb, ne_eqb, true≢false}
use Rattle.acl_perm.proofs.Sets.{has_bit-and, no_bit, same_set}
use Rattle.acl_perm.specs.Bits.{IsSubset, has_bit}
use Rattle.acl_perm.specs.Kind.{is_allow}
use Rattle.acl_eval.proofs.Scans.{has_bit-without}
use Rattle.acl_eval.specs.Scan.{without}
use Rattle.acl_nt.specs.AceAt.{ace_conditions, ace_sid_conditions, ace_size, is_left_out, is_plain_type, keeps_owner_ace, sid_place, takes_type}
unfoldable use Rattle.acl_nt.specs.AceAt.{ace_head_conditions, nt_ace_at}
use Rattle.acl_nt.specs.AclAt.{ace_places, acl_end, acl_header_conditions, aces_conditions, deciding_aces}
unfoldable use Rattle.acl_nt.specs.AclAt.{acl_conditions}
use Rattle.acl_nt.specs.Conditions.{AreMet, Condition, check}
use Rattle.acl_nt.specs.Descriptor.{Descriptor, NtAce}
use Rattle.acl_nt.specs.DescriptorAt.{descriptor_at, descriptor_conditions, header_conditions, named_sid, named_sid_conditions, names_none, parts_conditions}
unfoldable use Rattle.acl_nt.specs.DescriptorAt.{named_acl_conditions}
use Rattle.acl_nt.specs.Ntacl.{base_of, frame_conditions}
use Rattle.acl_nt.specs.NtCheck.{before_aces, grants_rest, has_owner_ace, is_for_object, is_for_token, is_owner_ace, nt_check, owner_mask, owns}
use Rattle.acl_nt.specs.Numbers.{byte_at, dword_at}
use Rattle.acl_nt.specs.Sid.{Sid}
use Rattle.acl_nt.specs.SidAt.{sid_conditions}
use Rattle.acl_nt.specs.Spells.{SpellsDescriptorPart, conditions}
use Rattle.acl_nt.specs.ValueCheck.{TypedAce, all_types_grant, denied_by, granted_by, is_other_allow, typed_ace_at, value_check}
use Rattle.acl_nt.specs.declared.ace.OtherAce.{OtherAce}
use Rattle.acl_nt.specs.declared.fault.NtReason.TheVariants.{AceType}
use Rattle.acl_nt.specs.declared.form.NtForm.{NtForm}
use Rattle.acl_nt.specs.declared.role.Role.TheVariants.{Auditing, DecidingPart}

-- ---- fewer rights that remain

-- no right of the fewer is in a set that has none of the more
none_of_fewer : (fewer more m : ℕ) → IsSubset fewer more → eqb (bit_and more m) 0 ≡ true
    → eqb (bit_and fewer m) 0 ≡ true
none_of_fewer fewer more m within none = eq-eqb (bit_and fewer m) 0 (same_set (bit_and fewer m) 0 (λ k.
    has_bit-and fewer m k
    ∙ drops (has_bit fewer k) (has_bit more k) (has_bit m k) (within k)
    (sym (has_bit-and more m k) ∙ ap (λ n. has_bit n k) (eqb-true (bit_and more m) 0 none) ∙ no_bit k)
    ∙ sym (no_bit k)))
  where
    drops : (l t r : Bool) → (l ≡ true → t ≡ true) → (t && r) ≡ false → (l && r) ≡ false
    drops false t r h e = refl
    drops true t r h e = sym (ap (λ (x : Bool). x && r) (h refl)) ∙ e

-- nothing remains of fewer than nothing
fewer_than_none : (fewer more : ℕ) → IsSubset fewer more → eqb more 0 ≡ true → eqb fewer 0 ≡ true
fewer_than_none fewer more within none = eq-eqb fewer 0 (same_set fewer 0 (λ k.
    by k (has_bit fewer k) (within k) ∙ sym (no_bit k)))
  where
    by : (k : ℕ) (t : Bool) → (t ≡ true → has_bit more k ≡ true) → t ≡ false
    by k true h = absurd (true≢false (sym (h refl) ∙ ap (λ n. has_bit n k) (eqb-true more 0 none) ∙ no_bit k))
    by k false h = refl

-- fewer rights without more are fewer
fewer_without : (fewer more m n : ℕ) → IsSubset fewer more → IsSubset m n
    → IsSubset (without fewer n) (without more m)
fewer_without fewer more m n within takes k h =
    let p = and_parts (has_bit fewer k) (not (has_bit n k)) (sym (has_bit-without fewer n k) ∙ h) in
    has_bit-without more m k
    ∙ ap (λ (t : Bool). t && not (has_bit m k)) (within k p.0)
    ∙ by (has_bit m k) (has_bit n k) (takes k) p.1
  where
    by : (s t : Bool) → (s ≡ true → t ≡ true) → not t ≡ true → not s ≡ true
    by true true f e = e
    by true false f e = absurd (true≢false (sym (f refl)))
    by false t f e = refl

-- an ACE grants at least what it grants if nothing is given
granted_more : (given : ℕ → ℕ) (a : TypedAce) → IsSubset (granted_by (λ _. 0) a) (granted_by given a)
granted_more given a k = by (eqb a.type_number 0) (is_other_allow a.type_number)
  where
    by : (t u : Bool)
        → has_bit (if t then a.ace.mask else (if u then 0 else 0)) k ≡ true
        → has_bit (if t then a.ace.mask else (if u then given a.offset else 0)) k ≡ true
    by true u h = h
    by false true h = absurd (true≢false (sym h ∙ no_bit k))
    by false false h = h

-- what is granted if nothing is given is granted if something is, and of fewer rights that remain
given_grants : (named : Sid → Bool) (given : ℕ → ℕ) (aces : List TypedAce) (fewer more : ℕ) → IsSubset fewer more
    → all_types_grant named (λ _. 0) aces more ≡ true → all_types_grant named given aces fewer ≡ true
given_grants named given [] fewer more within granted = fewer_than_none fewer more within granted
given_grants named given (a ∷ aces) fewer more within granted =
    by (is_for_object a.ace && named a.ace.sid) refl (given_grants named given aces fewer more within)
    (given_grants named given aces (without fewer (granted_by given a)) (without more (granted_by (λ _. 0) a))
    (fewer_without fewer more (granted_by (λ _. 0) a) (granted_by given a) within (granted_more given a)))
  where
    by : (t : Bool) → (is_for_object a.ace && named a.ace.sid) ≡ t
        → (all_types_grant named (λ _. 0) aces more ≡ true → all_types_grant named given aces fewer ≡ true)
        → (all_types_grant named (λ _. 0) aces (without more (granted_by (λ _. 0) a)) ≡ true
        → all_types_grant named given aces (without fewer (granted_by given a)) ≡ true)
        → all_types_grant named given (a ∷ aces) fewer ≡ true
    by false e same less = rw e (same (rw e at granted))
    by true e same less =
        let p = and_parts (eqb (bit_and more (denied_by a)) 0)
        (all_types_grant named (λ _. 0) aces (without more (granted_by (λ _. 0) a))) (rw e at granted) in
        rw (e, none_of_fewer fewer more (denied_by a) within p.0) (less p.1)

-- ---- the part

-- what remains without nothing is what remained
without_none : (left : ℕ) → without left 0 ≡ left
without_none left = ap (bit_xor left) (and_zero_r left) ∙ xor_zero_r left

-- an ACE of the type ALLOW allows
allows : (bytes : List ℕ) (at : ℕ) → byte_at bytes at ≡ 0 → is_allow (nt_ace_at bytes at).kind ≡ true
unfolding nt_ace_at
allows bytes at e = rw e refl

-- an ACE of the type DENY denies
denies : (bytes : List ℕ) (at : ℕ) → byte_at bytes at ≡ 1 → is_allow (nt_ace_at bytes at).kind ≡ false
unfolding nt_ace_at
denies bytes at e = rw e refl

-- a type is neither ALLOW nor DENY
record IsOther (t : ℕ) : Type 0 where
  plain : is_plain_type t ≡ false
  allow : eqb t 0 ≡ false
  deny : eqb t 1 ≡ false

-- nothing is given
nothing : (t : Bool) → if◌then◌else◌ {A = ℕ} t 0 0 ≡ 0
nothing true = refl
nothing false = refl

-- the check of all types, if nothing is given, is the check of the ACEs that decide
none_given : (named : Sid → Bool) (bytes places : List ℕ) (left : ℕ)
    → all_types_grant named (λ _. 0) (map (typed_ace_at bytes) places) left
    ≡ grants_rest named (deciding_aces DecidingPart bytes places) left
none_given named bytes [] left = refl
none_given named bytes (p ∷ places) left =
    by (byte_at bytes p) refl (is_for_object a && named a.sid) refl (none_given named bytes places left)
    (none_given named bytes places (without left a.mask))
  where
    a : NtAce
    a = nt_ace_at bytes p

    none : eqb (bit_and left 0) 0 ≡ true
    none = ap (λ n. eqb n 0) (and_zero_r left)

    others : (n : ℕ) → byte_at bytes p ≡ suc (suc n) → IsOther (byte_at bytes p)
    others n e = record {
      plain = lt-leb (byte_at bytes p) 1 (omega (arith, e));
      allow = ne_eqb (byte_at bytes p) 0 (λ z. absurd (omega (arith, e, z)));
      deny = ne_eqb (byte_at bytes p) 1 (λ z. absurd (omega (arith, e, z)));
    }

    by : (n : ℕ) → byte_at bytes p ≡ n → (t : Bool) → (is_for_object a && named a.sid) ≡ t
        → all_types_grant named (λ _. 0) (map (typed_ace_at bytes) places) left
        ≡ grants_rest named (deciding_aces DecidingPart bytes places) left
        → all_types_grant named (λ _. 0) (map (typed_ace_at bytes) places) (without left a.mask)
        ≡ grants_rest named (deciding_aces DecidingPart bytes places) (without left a.mask)
        → all_types_grant named (λ _. 0) (map (typed_ace_at bytes) (p ∷ places)) left
        ≡ grants_rest named (deciding_aces DecidingPart bytes (p ∷ places)) left
    by zero e false f same less = rw (e, f) same
    by (suc zero) e false f same less = rw (e, f) same
    by (suc (suc n)) e false f same less = rw ((others n e).plain, f) same
    by zero e true f same less = rw (e, f, none, allows bytes p e) less
    by (suc zero) e true f same less = rw (e, f, denies bytes p e, without_none left)
        (ap (λ (t : Bool). eqb (bit_and left a.mask) 0 && t) same)
    by (suc (suc n)) e true f same less =
        let o = others n e in
        rw (o.plain, o.allow, o.deny, f, none, nothing (is_other_allow (byte_at bytes p)), without_none left) same

-- the ACE at a place may be in the DACL of a part
record IsTaken (bytes : List ℕ) (at : ℕ) : Type 0 where
  takes : IsTrue (takes_type DecidingPart (byte_at bytes at))
  keeps : IsTrue (keeps_owner_ace DecidingPart (byte_at bytes at) (nt_ace_at bytes at))

-- an ACE for OWNER RIGHTS is in the DACL if and only if one is among the ACEs that decide
same_owner_ace : (bytes places : List ℕ) → AllByRecursion (IsTaken bytes) places
    → has_owner_ace (map (λ (a : TypedAce). a.ace) (map (typed_ace_at bytes) places))
    ≡ has_owner_ace (deciding_aces DecidingPart bytes places)
same_owner_ace bytes [] taken = refl
same_owner_ace bytes (p ∷ places) taken =
    by (is_plain_type (byte_at bytes p)) (is_left_out (byte_at bytes p)) (is_owner_ace (nt_ace_at bytes p))
    refl refl refl
    (same_owner_ace bytes places taken.1)
  where
    by : (t u v : Bool) → is_plain_type (byte_at bytes p) ≡ t → is_left_out (byte_at bytes p) ≡ u
        → is_owner_ace (nt_ace_at bytes p) ≡ v
        → has_owner_ace (map (λ (a : TypedAce). a.ace) (map (typed_ace_at bytes) places))
        ≡ has_owner_ace (deciding_aces DecidingPart bytes places)
        → has_owner_ace (map (λ (a : TypedAce). a.ace) (map (typed_ace_at bytes) (p ∷ places)))
        ≡ has_owner_ace (deciding_aces DecidingPart bytes (p ∷ places))
    by true u v e f g same = rw e (ap (λ (t : Bool). is_owner_ace (nt_ace_at bytes p) || t) same)
    by false true true e f g same = absurd (true≢false (sym taken.0.keeps ∙ rw (f, g) refl))
    by false true false e f g same = rw (e, g) same
    by false false v e f g same = absurd (true≢false (sym taken.0.takes ∙ rw (e, f) refl))

-- ---- what is read

-- conditions after others are met
met_last : (xs ys : List Condition) → AreMet (xs ++ ys) → AreMet ys
met_last [] ys met = met
met_last (c ∷ xs) ys met = met_last xs ys met.1

-- conditions before others are met
met_first : (xs ys : List Condition) → AreMet (xs ++ ys) → AreMet xs
met_first [] ys met = tt
met_first (c ∷ xs) ys met = (met.0, met_first xs ys met.1)

-- an ACE that meets its conditions may be in the DACL of a part
ace_taken : (bytes : List ℕ) (end at : ℕ) → AreMet (ace_conditions DecidingPart bytes end at) → IsTaken bytes at
unfolding ace_head_conditions
ace_taken bytes end at met =
    let last =
    met_last (ace_head_conditions DecidingPart bytes end at) (ace_sid_conditions DecidingPart bytes at) met in
    record {
      takes = met.1.0;
      keeps = (met_last (sid_conditions bytes (sid_place bytes at) (at + ace_size bytes at))
          (check (keeps_owner_ace DecidingPart (byte_at bytes at) (nt_ace_at bytes at)) at AceType ∷ []) last).0;
    }

-- so may each of ACEs that meet their conditions
aces_taken : (bytes : List ℕ) (end : ℕ) (places : List ℕ) → AreMet (aces_conditions DecidingPart bytes end places)
    → AllByRecursion (IsTaken bytes) places
aces_taken bytes end [] met = tt
aces_taken bytes end (p ∷ places) met =
    let met = subst AreMet (flat_map-cons (ace_conditions DecidingPart bytes end) p places) met in (
      ace_taken bytes end p (met_first (ace_conditions DecidingPart bytes end p)
          (aces_conditions DecidingPart bytes end places) met),
      aces_taken bytes end places (met_last (ace_conditions DecidingPart bytes end p)
          (aces_conditions DecidingPart bytes end places) met),
    )

module _ (form : NtForm) (bytes : List ℕ) where
  -- the place of the descriptor
  abbrev base : ℕ
  base = base_of form bytes

  -- the offset of the DACL
  abbrev offset : ℕ
  offset = dword_at bytes (base + 16)

  -- the conditions on a part are met by its DACL
  dacl_met : AreMet (conditions DecidingPart form bytes) → AreMet (named_acl_conditions DecidingPart bytes offset)
  dacl_met met =
      let owner = named_sid_conditions bytes (dword_at bytes (base + 4)) in
      let group = named_sid_conditions bytes (dword_at bytes (base + 8)) in
      let sacl = named_acl_conditions Auditing bytes (dword_at bytes (base + 12)) in
      let dacl = named_acl_conditions DecidingPart bytes offset in
      met_last sacl dacl (met_last group (sacl ++ dacl) (met_last owner (group ++ (sacl ++ dacl))
      (met_last (header_conditions bytes base) (parts_conditions DecidingPart bytes base)
      (met_last (frame_conditions form bytes) (descriptor_conditions DecidingPart bytes base) met))))

  -- each ACE of the DACL may be in that of a part
  each_taken : AreMet (conditions DecidingPart form bytes) → IsFalse (names_none offset)
      → AllByRecursion (IsTaken bytes) (ace_places bytes offset)
  unfolding named_acl_conditions acl_conditions
  each_taken met some =
      aces_taken bytes (acl_end bytes offset) (ace_places bytes offset)
      (met_last (acl_header_conditions bytes offset)
      (aces_conditions DecidingPart bytes (acl_end bytes offset) (ace_places bytes offset))
      (rw some at (dacl_met met)))

  -- if nothing is given, the check of the whole DACL is that of the part
  whole_is_part : AreMet (conditions DecidingPart form bytes) → (token : List Sid) (request : ℕ)
      → value_check form bytes token (λ _. 0) request ≡ nt_check (descriptor_at DecidingPart bytes base) token request
  whole_is_part met token request = by (names_none offset) refl
    where
      owner : Option Sid
      owner = named_sid bytes (dword_at bytes (base + 4))

      places : List ℕ
      places = ace_places bytes offset

      deciding : List NtAce
      deciding = deciding_aces DecidingPart bytes places

      by : (t : Bool) → names_none offset ≡ t
          → value_check form bytes token (λ _. 0) request
          ≡ nt_check (descriptor_at DecidingPart bytes base) token request
      by true e = rw e refl
      by false e = rw e (
          ap (λ (t : Bool). all_types_grant (is_for_token owner token) (λ _. 0) (map (typed_ace_at bytes) places)
          (if owns owner token && not t then without request owner_mask else request))
          (same_owner_ace bytes places (each_taken met e))
          ∙ none_given (is_for_token owner token) bytes places (before_aces owner token deciding request))

  -- what the whole DACL grants if nothing is given it grants if something is
  whole_grants : (token : List Sid) (given : ℕ → ℕ) (request : ℕ)
      → value_check form bytes token (λ _. 0) request ≡ true → value_check form bytes token given request ≡ true
  whole_grants token given request = by (names_none offset) refl
    where
      owner : Option Sid
      owner = named_sid bytes (dword_at bytes (base + 4))

      aces : List TypedAce
      aces = map (typed_ace_at bytes) (ace_places bytes offset)

      left : ℕ
      left = before_aces owner token (map (λ (a : TypedAce). a.ace) aces) request

      by : (t : Bool) → names_none offset ≡ t
          → value_check form bytes token (λ _. 0) request ≡ true → value_check form bytes token given request ≡ true
      by true e granted = rw e refl
      by false e granted = rw e (given_grants (is_for_token owner token) given aces left left (λ k h. h)
          (rw e at granted))

  -- a part grants no more than the whole DACL, and if nothing is given, the same
  pub part_is_bounded : (d : Descriptor) (out : List OtherAce) → SpellsDescriptorPart form d out bytes
      → (token : List Sid) (given : ℕ → ℕ) (request : ℕ) → IsTrue (nt_check d token request)
      → IsTrue (value_check form bytes token given request)
  part_is_bounded d out spells token given request granted = whole_grants token given request
      (whole_is_part spells.met token request
      ∙ sym (ap (λ (x : Descriptor). nt_check x token request) spells.is) ∙ granted)

  pub part_is_tight : (d : Descriptor) (out : List OtherAce) → SpellsDescriptorPart form d out bytes
      → (token : List Sid) (request : ℕ) → value_check form bytes token (λ _. 0) request ≡ nt_check d token request
  part_is_tight d out spells token request = whole_is_part spells.met token request
      ∙ sym (ap (λ (x : Descriptor). nt_check x token request) spells.is)
