-- The access check of a descriptor grants what its list grants.
use Rattle.std.proofs.Common.{◌≡◌, ℕ, Bool, true, false, eqb, List, [], ◌∷◌, refl, sym, ap, subst, ◌∙◌, arith}
use Rattle.std.specs.Prelude.{bit_and, bit_xor, not, ◌&&◌, ◌||◌, ◌↔◌, cond, Option, None, Some, IsTrue, IsFalse}
use Rattle.std.specs.List.{AllByRecursion}
use Rattle.std.specs.Str.{bytes_eq}
use Rattle.std.specs.Int.Bits.{and_zero_l, xor_zero_r}
use Rattle.std.proofs.lemmas.Bool.{true≢false, eqb-true, eq-eqb, ne_eqb, and_parts}
use Rattle.std.proofs.lemmas.Nat.{and_comm}
use Rattle.std.proofs.lemmas.Slice.Eq.{bytes_eq-Decides}
use Rattle.acl_perm.proofs.Sets.{has_bit-and, mask_from_bits, same_set, subset}
use Rattle.acl_perm.specs.Bits.{has_bit, all_rights, IsMask, IsSubset}
use Rattle.acl_perm.specs.Kind.{is_allow}
use Rattle.acl_perm.specs.Principal.{everyone}
use Rattle.acl_perm.specs.Situation.{Situation, matches}
use Rattle.acl_perm.specs.declared.kind.Kind.{Kind}
use Rattle.acl_perm.specs.declared.kind.Kind.TheVariants.{Allow}
use Rattle.acl_nfs4.specs.Ace.{Ace}
use Rattle.acl_nfs4.specs.Who.{principal_of}
use Rattle.acl_eval.specs.Column.{takes_part}
use Rattle.acl_eval.specs.Grant.{Grant}
use Rattle.acl_eval.specs.Scan.{applies, scan, without}
use Rattle.acl_eval.proofs.Scans.{has_bit-without, last_allowed, none_left, not_applied, scan-allowed, scan-no_common, scan_is}
use Rattle.acl_nt.specs.Descriptor.{Dacl, Descriptor, NtAce, entries, null}
use Rattle.acl_nt.specs.NtCheck.{dacl_grants, everyone_sid, file_rights, grants_rest, has_owner_ace, is_for_object, is_sid_in, is_for_token, nt_check, owner_mask, owner_rights, same_sid}
use Rattle.acl_nt.specs.NtList.{BelongsTo, HasOwnerSid, HasSids, HasSidsIn, dacl_list, nt_list, object_ace, object_aces, sid_ace, sid_principal}
use Rattle.acl_nt.specs.Sid.{IsSid, Sid}

-- ---- whom the ACE of a SID matches

-- SIDs that pass the test are the same
pub same_sid_is : (x y : Sid) → same_sid x y ≡ true → x ≡ y
same_sid_is x y e =
    let p = and_parts (eqb x.authority y.authority) (bytes_eq x.words y.words) e in
    let a : x.authority ≡ y.authority = eqb-true x.authority y.authority p.0 in
    let w : x.words ≡ y.words = (bytes_eq-Decides x.words y.words).0 p.1 in
    λ i. record { authority = a i; words = w i }

-- the ACE of a SID other than everyone's names the user or the group with the name of the SID
names_it : (users : List Sid) (k : Kind) (m : ℕ) (x : Sid) → same_sid everyone_sid x ≡ false
    → principal_of (sid_ace users k m x) ≡ sid_principal users x
names_it users k m x e = by (is_sid_in x users) refl
  where
    by : (t : Bool) → is_sid_in x users ≡ t → principal_of (sid_ace users k m x) ≡ sid_principal users x
    by true f = rw (e, f) refl
    by false f = rw (e, f) refl

-- the ACE of everyone's SID names everyone
names_everyone : (users : List Sid) (k : Kind) (m : ℕ) (x : Sid) → same_sid everyone_sid x ≡ true
    → principal_of (sid_ace users k m x) ≡ everyone
names_everyone users k m x e = rw e refl

-- the ACE of a SID takes part
part_of : (users : List Sid) (k : Kind) (m : ℕ) (x : Sid) → takes_part (sid_ace users k m x) ≡ true
part_of users k m x = by (same_sid everyone_sid x || is_sid_in x users) refl
  where
    by : (t : Bool) → (same_sid everyone_sid x || is_sid_in x users) ≡ t → takes_part (sid_ace users k m x) ≡ true
    by true f = rw f refl
    by false f = rw f refl

-- the ACE of a SID applies if and only if the SID is in the token
ace_applies : (users token : List Sid) (s : Situation) (k : Kind) (m : ℕ) (x : Sid) → IsSid x
    → is_sid_in everyone_sid token ≡ true → BelongsTo users token s
    → applies s (sid_ace users k m x) ≡ is_sid_in x token
ace_applies users token s k m x is all belongs =
    ap (λ (t : Bool). t && matches s (principal_of (sid_ace users k m x))) (part_of users k m x)
    ∙ by (same_sid everyone_sid x) refl
  where
    by : (t : Bool) → same_sid everyone_sid x ≡ t → matches s (principal_of (sid_ace users k m x)) ≡ is_sid_in x token
    by true e = ap (matches s) (names_everyone users k m x e)
        ∙ sym (subst (λ (y : Sid). is_sid_in y token ≡ true) (same_sid_is everyone_sid x e) all)
    by false e = ap (matches s) (names_it users k m x e) ∙ belongs x is e

-- a test or nothing is the test
or_none : (t u : Bool) → u ≡ false → t ≡ (t || u)
or_none true u e = refl
or_none false u e = sym e

-- nothing is left of a test with one that fails
and_none : (t u : Bool) → u ≡ false → (t && u) ≡ false
and_none true u e = e
and_none false u e = refl

-- the ACE of an ACE applies if and only if the check looks at the ACE
object_applies : (users token : List Sid) (s : Situation) (owner : Option Sid) (a : NtAce) → HasOwnerSid owner
    → IsSid a.sid → is_sid_in everyone_sid token ≡ true → is_sid_in owner_rights token ≡ false
    → BelongsTo users token s
    → applies s (object_ace users owner a) ≡ is_for_token owner token a.sid
object_applies users token s None a owned is all none belongs =
    ace_applies users token s a.kind a.mask a.sid is all belongs
    ∙ or_none (is_sid_in a.sid token) (same_sid owner_rights a.sid && false)
    (and_none (same_sid owner_rights a.sid) false refl)
object_applies users token s (Some o) a owned is all none belongs = by (same_sid owner_rights a.sid) refl
  where
    of_owner : Bool → Sid
    of_owner t = cond t o a.sid

    by : (t : Bool) → same_sid owner_rights a.sid ≡ t
        → applies s (object_ace users (Some o) a) ≡ is_for_token (Some o) token a.sid
    by true e =
        ap (λ (t : Bool). applies s (sid_ace users a.kind a.mask (of_owner t))) e
        ∙ ace_applies users token s a.kind a.mask o owned all belongs
        ∙ sym (ap (λ (t : Bool). t || (same_sid owner_rights a.sid && is_sid_in o token))
        (subst (λ (y : Sid). is_sid_in y token ≡ false) (same_sid_is owner_rights a.sid e) none)
        ∙ ap (λ (t : Bool). t && is_sid_in o token) e)
    by false e =
        ap (λ (t : Bool). applies s (sid_ace users a.kind a.mask (of_owner t))) e
        ∙ ace_applies users token s a.kind a.mask a.sid is all belongs
        ∙ or_none (is_sid_in a.sid token) (same_sid owner_rights a.sid && is_sid_in o token)
        (ap (λ (t : Bool). t && is_sid_in o token) e)

-- S-1-1-0 is a SID
everyone_is : IsSid everyone_sid
everyone_is = record { authority = omega arith; count = omega arith; words = (omega arith, tt) }

-- ---- the rights that are left

-- within the rights of files, an ACE with these rights of a mask takes what the mask takes
common : (left m : ℕ) → IsSubset left file_rights → bit_and left (bit_and m file_rights) ≡ bit_and left m
common left m within = same_set (bit_and left (bit_and m file_rights)) (bit_and left m)
    (λ k. has_bit-and left (bit_and m file_rights) k
    ∙ ap (λ (t : Bool). has_bit left k && t) (has_bit-and m file_rights k)
    ∙ drops (has_bit left k) (has_bit m k) (has_bit file_rights k) (within k)
    ∙ sym (has_bit-and left m k))
  where
    drops : (l t r : Bool) → (l ≡ true → r ≡ true) → (l && (t && r)) ≡ (l && t)
    drops false t r h = refl
    drops true true r h = h refl
    drops true false r h = refl

-- what is left is within the rights of files
rest_within : (left m : ℕ) → IsSubset left file_rights → IsSubset (without left m) file_rights
rest_within left m within k h =
    within k (and_parts (has_bit left k) (not (has_bit m k)) (sym (has_bit-without left m k) ∙ h)).0

-- nothing is left of nothing
nothing_left : (m : ℕ) → without 0 m ≡ 0
nothing_left m = ap (bit_xor 0) (and_zero_l m) ∙ xor_zero_r 0

-- if no right remains, access is granted
granted_all : (named : Sid → Bool) (aces : List NtAce) (left : ℕ) → left ≡ 0 → grants_rest named aces left ≡ true
granted_all named [] left e = rw e refl
granted_all named (a ∷ aces) left e =
    by (is_for_object a && named a.sid) (is_allow a.kind) refl refl
    (granted_all named aces left e)
    (granted_all named aces (without left a.mask) (ap (λ (n : ℕ). without n a.mask) e ∙ nothing_left a.mask))
  where
    none : eqb (bit_and left a.mask) 0 ≡ true
    none = ap (λ (n : ℕ). eqb (bit_and n a.mask) 0) e ∙ ap (λ (n : ℕ). eqb n 0) (and_zero_l a.mask)

    by : (t k : Bool) → (is_for_object a && named a.sid) ≡ t → is_allow a.kind ≡ k
        → grants_rest named aces left ≡ true → grants_rest named aces (without left a.mask) ≡ true
        → grants_rest named (a ∷ aces) left ≡ true
    by false k e f same less = rw e same
    by true true e f same less = rw (e, f) less
    by true false e f same less = rw (e, f, none) same

-- ---- ACE by ACE

-- after an ALLOW that applies
allows : (named : Sid → Bool) (aces : List NtAce) (list : List Ace) (s : Situation) (front : Ace) (m left : ℕ)
    → front.mask ≡ bit_and m file_rights → is_allow front.kind ≡ true → applies s front ≡ true
    → IsSubset left file_rights
    → grants_rest named aces (without left m) ≡ scan list s (without left m)
    → grants_rest named aces (without left m) ≡ scan (front ∷ list) s left
allows named aces list s front m left has k e within rest = by (eqb left 0) refl
  where
    by : (t : Bool) → eqb left 0 ≡ t → grants_rest named aces (without left m) ≡ scan (front ∷ list) s left
    by true z = granted_all named aces (without left m)
        (ap (λ (n : ℕ). without n m) (eqb-true left 0 z) ∙ nothing_left m)
        ∙ none_left (front ∷ list) s left (eqb-true left 0 z)
    by false z = rest
        ∙ ap (λ (n : ℕ). scan list s (bit_xor left n)) (sym (ap (bit_and left) has ∙ common left m within))
        ∙ scan-allowed front list s left (λ n. true≢false (sym (eq-eqb left 0 n) ∙ z)) e k

-- rights that an ACE has are left
some_left : (left m : ℕ) → eqb (bit_and left m) 0 ≡ false → eqb left 0 ≡ false
some_left left m some = ne_eqb left 0 (λ n. true≢false (sym (ap (λ (k : ℕ). eqb (bit_and k m) 0) n
    ∙ ap (λ (k : ℕ). eqb k 0) (and_zero_l m)) ∙ some))

-- a DENY that applies and has a right that is left
denied : (front : Ace) (list : List Ace) (s : Situation) (left : ℕ) → eqb left 0 ≡ false → applies s front ≡ true
    → is_allow front.kind ≡ false → eqb (bit_and left front.mask) 0 ≡ false → scan (front ∷ list) s left ≡ false
denied front list s left z e k c = rw (z, e, k, c) refl

-- the check over the ACEs is the scan of the list of these ACEs
checks_as_scan : (users token : List Sid) (s : Situation) (owner : Option Sid) (aces : List NtAce) (left : ℕ)
    → HasOwnerSid owner → AllByRecursion (λ a. IsSid a.sid) aces → is_sid_in everyone_sid token ≡ true
    → is_sid_in owner_rights token ≡ false → BelongsTo users token s → IsSubset left file_rights
    → grants_rest (is_for_token owner token) aces left ≡ scan (object_aces users owner aces) s left
checks_as_scan users token s owner [] left owned sids all none belongs within = refl
checks_as_scan users token s owner (a ∷ aces) left owned sids all none belongs within =
    by (is_for_object a) (is_for_token owner token a.sid) (is_allow a.kind) (eqb (bit_and left a.mask) 0)
    refl refl refl refl
    (checks_as_scan users token s owner aces left owned sids.1 all none belongs within)
    (checks_as_scan users token s owner aces (without left a.mask) owned sids.1 all none belongs
    (rest_within left a.mask within))
  where
    named : Sid → Bool
    named = is_for_token owner token

    front : Ace
    front = object_ace users owner a

    rest : List Ace
    rest = object_aces users owner aces

    applied : applies s front ≡ named a.sid
    applied = object_applies users token s owner a owned sids.0 all none belongs

    kept : is_for_object a ≡ true
        → scan (front ∷ rest) s left ≡ scan (object_aces users owner (a ∷ aces)) s left
    kept h = rw h refl

    allowed : is_for_object a ≡ true → named a.sid ≡ true → is_allow a.kind ≡ true
        → grants_rest named (a ∷ aces) left ≡ grants_rest named aces (without left a.mask)
    allowed h e f = rw (h, e, f) refl

    passed : is_for_object a ≡ true → named a.sid ≡ true → is_allow a.kind ≡ false
        → grants_rest named (a ∷ aces) left ≡ (eqb (bit_and left a.mask) 0 && grants_rest named aces left)
    passed h e f = rw (h, e, f) refl

    by : (h t k c : Bool) → is_for_object a ≡ h → named a.sid ≡ t → is_allow a.kind ≡ k
        → eqb (bit_and left a.mask) 0 ≡ c
        → grants_rest named aces left ≡ scan rest s left
        → grants_rest named aces (without left a.mask) ≡ scan rest s (without left a.mask)
        → grants_rest named (a ∷ aces) left ≡ scan (object_aces users owner (a ∷ aces)) s left
    by false t k c h e f z same less = rw h same
    by true false k c h e f z same less = rw (h, e) (same ∙ not_applied front rest s left (applied ∙ e))
    by true true true c h e f z same less =
        allowed h e f ∙ allows named aces rest s front a.mask left refl f (applied ∙ e) within less ∙ kept h
    by true true false true h e f z same less =
        passed h e f ∙ ap (λ (t : Bool). t && grants_rest named aces left) z ∙ same
        ∙ scan-no_common front rest s left (common left a.mask within ∙ eqb-true _ _ z) ∙ kept h
    by true true false false h e f z same less =
        passed h e f ∙ ap (λ (t : Bool). t && grants_rest named aces left) z
        ∙ sym (denied front rest s left (some_left left a.mask z) (applied ∙ e) f
        (ap (λ (n : ℕ). eqb n 0) (common left a.mask within) ∙ z)) ∙ kept h

-- without a DACL, everything is granted, also by the list
everything : (users token : List Sid) (s : Situation) (request : ℕ) → is_sid_in everyone_sid token ≡ true
    → BelongsTo users token s → IsSubset request file_rights
    → true ≡ scan (sid_ace users Allow file_rights everyone_sid ∷ []) s request
everything users token s request all belongs within = by (eqb request 0) refl
  where
    front : Ace
    front = sid_ace users Allow file_rights everyone_sid

    by : (t : Bool) → eqb request 0 ≡ t → true ≡ scan (front ∷ []) s request
    by true z = none_left (front ∷ []) s request (eqb-true request 0 z)
    by false z = last_allowed front [] s request (λ n. true≢false (sym (eq-eqb request 0 n) ∙ z))
        (ace_applies users token s Allow file_rights everyone_sid everyone_is all belongs ∙ all) refl
        (and_comm request file_rights ∙ (subset file_rights request).1 within)

-- the check of a DACL is the scan of its list
dacl_as_scan : (users token : List Sid) (s : Situation) (owner : Option Sid) (dacl : Dacl) (request : ℕ)
    → HasOwnerSid owner → HasSidsIn dacl → is_sid_in everyone_sid token ≡ true
    → is_sid_in owner_rights token ≡ false → BelongsTo users token s → IsSubset request file_rights
    → dacl_grants owner token dacl request ≡ scan (dacl_list users owner dacl) s request
dacl_as_scan users token s owner null request owned sids all none belongs within =
    everything users token s request all belongs within
dacl_as_scan users token s None (entries aces) request owned sids all none belongs within =
    checks_as_scan users token s None aces request owned sids all none belongs within
dacl_as_scan users token s (Some o) (entries aces) request owned sids all none belongs within =
    by (is_sid_in o token) (has_owner_ace aces) refl refl
  where
    named : Sid → Bool
    named = is_for_token (Some o) token

    front : Ace
    front = sid_ace users Allow owner_mask o

    rest : List Ace
    rest = object_aces users (Some o) aces

    applied : applies s front ≡ is_sid_in o token
    applied = ace_applies users token s Allow owner_mask o owned all belongs

    scanned : (left : ℕ) → IsSubset left file_rights → grants_rest named aces left ≡ scan rest s left
    scanned left h = checks_as_scan users token s (Some o) aces left owned sids all none belongs h

    by : (t h : Bool) → is_sid_in o token ≡ t → has_owner_ace aces ≡ h
        → dacl_grants (Some o) token (entries aces) request ≡ scan (dacl_list users (Some o) (entries aces)) s request
    by true true e h = rw (e, h) (scanned request within)
    by false true e h = rw (e, h) (scanned request within)
    by false false e h = rw (e, h) (scanned request within ∙ not_applied front rest s request (applied ∙ e))
    by true false e h = rw (e, h) (allows named aces rest s front owner_mask request refl refl (applied ∙ e) within
        (scanned (without request owner_mask) (rest_within request owner_mask within)))

-- rights of files are rights
file_request : (request : ℕ) → IsSubset request file_rights → IsMask request
file_request request within = mask_from_bits request (λ k h.
    (and_parts (has_bit file_rights k) (has_bit all_rights k)
    (sym (has_bit-and file_rights all_rights k) ∙ within k h)).1)

-- the check grants exactly what the list grants
pub check_is_grant : (users token : List Sid) (d : Descriptor) (s : Situation) (request : ℕ) → HasSids d
    → IsTrue (is_sid_in everyone_sid token) → IsFalse (is_sid_in owner_rights token) → BelongsTo users token s
    → IsSubset request file_rights → IsTrue (nt_check d token request) ↔ Grant (nt_list users d) s request
check_is_grant users token d s request sids all none belongs within =
    let same = dacl_as_scan users token s d.owner d.dacl request sids.owner sids.dacl all none belongs within in
    let scanned = scan_is (nt_list users d) s request (file_request request within) in
    (λ t. scanned.0 (sym same ∙ t), λ g. same ∙ scanned.1 g)
