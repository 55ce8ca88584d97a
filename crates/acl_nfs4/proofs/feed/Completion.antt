-- The bytes before a border begin the spelling of a list: of the ACEs that are whole, of the ACE that is begun, and of
-- further ACEs without bits, up to the number that the count says.
use Rattle.acl_nfs4.proofs.Common.{[], Ace, All-replicate, AllByRecursion, Allow, ap, append-nil, append_assoc, arith, BeginsSpelling, Border, count_ones, counted, ends_in_at, eqb, false, flagged, flat_map, get_or, get_or-replicate, is_no_who_len, is_plain, is_utf8, is_utf8-from_IsUtf8, IsAce, IsAscii-from_all, IsFault, IsUtf8-from_ascii, IsWho, Kind, kind_number, le-ltb, length, length-append, length-replicate, List, list_all, longest_who, ltb, masked, measured, most_aces, most_weight, named, ones_le_self, or_from, pad_len, padded, piece, Profile, Reason, refl, replicate, Stage, start, subst, suc, sym, take, take_at, true, typed, weight, word, Xdr, zero, ℕ, ◌++◌, ◌+◌, ◌-◌, ◌<◌, ◌∙◌, ◌∷◌, ◌≡◌, ◌≤◌}
use Rattle.acl_nfs4.specs.Fault.Stage.{kind as at_kind, flags as at_flags, mask as at_mask, len as at_len, who as at_who, padding as at_padding}
use Rattle.acl_nfs4.proofs.xdr.Faults.{weight-push, regroup, border_after}
use Rattle.acl_nfs4.proofs.list.Push.{each_push, flat_map-push}

-- the text before a border: the word of the count, and the pieces of the ACEs that are whole
abbrev pub head : ℕ → List Ace → List ℕ
head n list = word n ++ flat_map piece list

-- a text is the word of a count and the pieces of these ACEs, which are accepted and no more than the count says
pub record IsBegun (profile : Profile) (n : ℕ) (list : List Ace) (t : List ℕ) : Type 0 where
  pub small : n ≤ most_aces
  pub light : weight list ≤ most_weight
  pub each : AllByRecursion (IsAce profile) list
  pub fewer : length list ≤ n
  pub text : t ≡ head n list

-- the head of a list and the piece of an ACE after it are the head of the list with that ACE at the end
head_push : (n : ℕ) (list : List Ace) (a : Ace) → head n list ++ piece a ≡ head n (list ++ a ∷ [])
head_push n list a = append_assoc (word n) (flat_map piece list) (piece a)
    ∙ ap (λ (t : List ℕ). word n ++ t) (sym (flat_map-push list a))

-- a text up to a border before an ACE is the head of the ACEs that are whole
pub begun_before_ace : (profile : Profile) (n : ℕ) (list : List Ace) (t : List ℕ) → Border profile (at_kind n list) t
    → IsBegun profile n list t
begun_before_ace profile n _ _ (counted _ le) =
    record { small = le; light = omega arith; each = tt; fewer = omega arith; text = sym (append-nil (word n)) }
begun_before_ace profile n _ _ (padded _ list k f m w _
    (named _ _ _ _ _ _ _ (measured _ _ _ _ _ _ _ (masked _ _ _ _ _ _ (flagged _ _ _ _ _ (typed _ _ _ t b lt) fi)
    mi light) some short) wi)) =
    let h = begun_before_ace profile n list t b in
    let a : Ace = record { kind = k; flags = f; mask = m; who = w } in
    record {
      small = h.small;
      light = omega (arith, light, weight-push list a);
      each = each_push profile list a h.each (record { flags = fi; mask = mi; who = wi });
      fewer = omega (arith, lt, length-append list (a ∷ []));
      text = regroup t (word (kind_number k)) (word f) (word m) (word (length w)) w (replicate (pad_len (length w)) 0)
          ∙ ap (λ (x : List ℕ). x ++ piece a) h.text ∙ head_push n list a;
    }

-- ---- a who of any length

-- n times the letter `a`
abbrev letters : ℕ → List ℕ
letters n = replicate n 0x61

-- no letter is a control byte
plain_letters : (n : ℕ) → list_all is_plain (letters n) ≡ true
plain_letters zero = refl
plain_letters (suc n) = plain_letters n

-- letters are UTF-8
utf8_letters : (n : ℕ) → is_utf8 (letters n) ≡ true
utf8_letters n = is_utf8-from_IsUtf8 (letters n) (IsUtf8-from_ascii (letters n)
    (IsAscii-from_all (letters n) (All-replicate (λ b. b < 128) n 0x61 (omega arith))))

-- at least one letter does not end in `@`
last_letter : (n : ℕ) → 1 ≤ n → ends_in_at (letters n) ≡ false
last_letter n some = ap (λ (k : ℕ). eqb (get_or (letters n) (k - 1) 0) 0x40) (length-replicate n 0x61)
    ∙ ap (λ (b : ℕ). eqb b 0x40) (get_or-replicate n (n - 1) 0x61 0 (omega (arith, some)))

-- letters of a length that a who may have are a who
letters_are_who : (n : ℕ) → 1 ≤ n → n ≤ longest_who → IsWho (letters n)
letters_are_who n some short =
    let len : length (letters n) ≡ n = length-replicate n 0x61 in
    let long : is_no_who_len (length (letters n)) ≡ false =
    or_from (eqb (length (letters n)) 0) (ltb longest_who (length (letters n))) (grind (arith, len, some))
    (le-ltb _ _ (omega (arith, len, short))) in
    rw (long, utf8_letters n, plain_letters n, last_letter n some) refl

-- an ACE without bits
abbrev filler : Ace
filler = record { kind = Allow; flags = 0; mask = 0; who = letters 1 }

-- the ACE without bits is an ACE of each profile
filler_is : (profile : Profile) → IsAce profile filler
filler_is profile = record { flags = refl; mask = refl; who = letters_are_who 1 (omega arith) (omega arith) }

-- ---- borders inside an ACE

-- a text up to a border inside an ACE: a text up to the border before that ACE, and the bytes of its fields so far
pub record IsInAce (profile : Profile) (n : ℕ) (list : List Ace) (fields t : List ℕ) : Type 0 where
  pub front : List ℕ
  pub border : Border profile (at_kind n list) front
  pub text : t ≡ front ++ fields

-- after one more field, the text is still inside the ACE
in_next : {profile : Profile} {n : ℕ} {list : List Ace} {fields t : List ℕ} (x : List ℕ)
    → IsInAce profile n list fields t → IsInAce profile n list (fields ++ x) (t ++ x)
in_next {fields = fields} x h = record {
  front = h.front;
  border = h.border;
  text = ap (λ (s : List ℕ). s ++ x) h.text ∙ append_assoc h.front fields x;
}

-- at the flags of an ACE its kind is before them
pub in_flags : {profile : Profile} {n : ℕ} {list : List Ace} {k : Kind} {t : List ℕ}
    → Border profile (at_flags n list k) t → IsInAce profile n list (word (kind_number k)) t
in_flags (typed n list k t b lt) = record { front = t; border = b; text = refl }

-- at the mask of an ACE two words are before it
pub in_mask : {profile : Profile} {n : ℕ} {list : List Ace} {k : Kind} {f : ℕ} {t : List ℕ}
    → Border profile (at_mask n list k f) t → IsInAce profile n list (word (kind_number k) ++ word f) t
in_mask (flagged n list k f t b is) = in_next (word f) (in_flags b)

-- at the length of a who three words are before it
pub in_len : {profile : Profile} {n : ℕ} {list : List Ace} {k : Kind} {f m : ℕ} {t : List ℕ}
    → Border profile (at_len n list k f m) t → IsInAce profile n list ((word (kind_number k) ++ word f) ++ word m) t
in_len (masked n list k f m t b is light) = in_next (word m) (in_mask b)

-- at a who four words are before it
pub in_who : {profile : Profile} {n : ℕ} {list : List Ace} {k : Kind} {f m l : ℕ} {t : List ℕ}
    → Border profile (at_who n list k f m l) t
    → IsInAce profile n list (((word (kind_number k) ++ word f) ++ word m) ++ word l) t
in_who (measured n list k f m l t b some short) = in_next (word l) (in_len b)

-- at the padding of an ACE four words and the who are before it
pub in_padding : {profile : Profile} {n : ℕ} {list : List Ace} {k : Kind} {f m : ℕ} {w t : List ℕ}
    → Border profile (at_padding n list k f m w) t
    → IsInAce profile n list ((((word (kind_number k) ++ word f) ++ word m) ++ word (length w)) ++ w) t
in_padding (named n list k f m w t b is) = in_next w (in_who b)

-- at the padding of an ACE its who is valid
pub who_before_padding : {profile : Profile} {n : ℕ} {list : List Ace} {k : Kind} {f m : ℕ} {w t : List ℕ}
    → Border profile (at_padding n list k f m w) t → IsWho w
who_before_padding (named n list k f m w t b is) = is

-- the mask 0 has no bits
no_ones : count_ones 0 ≡ 0
no_ones = let h = ones_le_self 0 in omega (arith, h)

-- ---- from each border to a whole spelling

-- if a text begins a spelling, so does its front
front_begins : (profile : Profile) (t more : List ℕ) → BeginsSpelling profile (t ++ more) → BeginsSpelling profile t
front_begins profile t more b = (b.0, more ++ b.1, subst (Xdr profile b.0) (append_assoc t more b.1) b.2)

-- a text that has as many whole ACEs as its count says begins a spelling
all_there : (profile : Profile) (n : ℕ) (list : List Ace) (t : List ℕ) → Border profile (at_kind n list) t
    → length list ≡ n → BeginsSpelling profile t
all_there profile n list t b e =
    let h = begun_before_ace profile n list t b in (
      list,
      [],
      record {
        accepted = record { count = omega (arith, e, h.small); weight = h.light; each = h.each };
        spelled = append-nil t ∙ h.text ∙ ap (λ (k : ℕ). head k list) (sym e);
      },
    )

-- a text that lacks this many whole ACEs begins a spelling
lacking_begins : (profile : Profile) (todo n : ℕ) (list : List Ace) (t : List ℕ) → length list + todo ≡ n
    → Border profile (at_kind n list) t → BeginsSpelling profile t
lacking_begins profile zero n list t e b = all_there profile n list t b (omega (arith, e))
lacking_begins profile (suc todo) n list t e b =
    front_begins profile t (piece filler) (lacking_begins profile todo n (list ++ filler ∷ []) (t ++ piece filler)
    (omega (arith, e, length-append list (filler ∷ [])))
    (border_after profile n list t filler b (omega (arith, e)) (filler_is profile)
    (let h = begun_before_ace profile n list t b in omega (arith, h.light, no_ones))))

-- a text up to the kind of an ACE begins a spelling
from_kind : (profile : Profile) (n : ℕ) (list : List Ace) (t : List ℕ) → Border profile (at_kind n list) t
    → BeginsSpelling profile t
from_kind profile n list t b =
    let h = begun_before_ace profile n list t b in
    lacking_begins profile (n - length list) n list t (omega (arith, h.fewer)) b

-- a text up to the padding of an ACE begins a spelling
from_padding : (profile : Profile) (n : ℕ) (list : List Ace) (k : Kind) (f m : ℕ) (w t : List ℕ)
    → Border profile (at_padding n list k f m w) t → BeginsSpelling profile t
from_padding profile n list k f m w t b = front_begins profile t _ (from_kind profile n _ _ (padded n list k f m w t b))

-- a text up to the who of an ACE begins a spelling
from_who : (profile : Profile) (n : ℕ) (list : List Ace) (k : Kind) (f m l : ℕ) (t : List ℕ) → 1 ≤ l → l ≤ longest_who
    → Border profile (at_who n list k f m l) t → BeginsSpelling profile t
from_who profile n list k f m l t some short b =
    let same : Border profile (at_who n list k f m (length (letters l))) t =
    subst (λ (x : ℕ). Border profile (at_who n list k f m x) t) (sym (length-replicate l 0x61)) b in
    front_begins profile t (letters l) (from_padding profile n list k f m (letters l) (t ++ letters l)
    (named n list k f m (letters l) t same (letters_are_who l some short)))

-- a text up to the length of a who begins a spelling
from_len : (profile : Profile) (n : ℕ) (list : List Ace) (k : Kind) (f m : ℕ) (t : List ℕ)
    → Border profile (at_len n list k f m) t → BeginsSpelling profile t
from_len profile n list k f m t b =
    front_begins profile t (word 1) (from_who profile n list k f m 1 (t ++ word 1) (omega arith) (omega arith)
    (measured n list k f m 1 t b (omega arith) (omega arith)))

-- a text up to the mask of an ACE begins a spelling
from_mask : (profile : Profile) (n : ℕ) (list : List Ace) (k : Kind) (f : ℕ) (t : List ℕ)
    → Border profile (at_mask n list k f) t → BeginsSpelling profile t
from_mask profile n list k f t b =
    let a = in_mask b in
    front_begins profile t (word 0) (from_len profile n list k f 0 (t ++ word 0)
    (masked n list k f 0 t b refl (omega (arith, (begun_before_ace profile n list a.front a.border).light, no_ones))))

-- a text up to the flags of an ACE begins a spelling
from_flags : (profile : Profile) (n : ℕ) (list : List Ace) (k : Kind) (t : List ℕ)
    → Border profile (at_flags n list k) t → BeginsSpelling profile t
from_flags profile n list k t b =
    front_begins profile t (word 0) (from_mask profile n list k 0 (t ++ word 0) (flagged n list k 0 t b refl))

-- at a border before a who, the bounds of its length
abbrev pub WhoBounds : Stage → Type 0
WhoBounds (at_who n list k f m l) = (1 ≤ l) × (l ≤ longest_who)
WhoBounds _ = Unit {0}

-- at a border before a who, its length is within the bounds
pub who_bounds : (profile : Profile) (s : Stage) (t : List ℕ) → Border profile s t → WhoBounds s
who_bounds profile _ _ (measured n list k f m l t b some short) = (some, short)
who_bounds profile _ _ b = tt

-- a text up to a border begins the spelling of an accepted list
pub begins : (profile : Profile) (s : Stage) (t : List ℕ) → Border profile s t → BeginsSpelling profile t
begins profile _ _ start = front_begins profile [] (word 0) (from_kind profile 0 [] (word 0) (counted 0 (omega arith)))
begins profile (at_kind n list) t b = from_kind profile n list t b
begins profile (at_flags n list k) t b = from_flags profile n list k t b
begins profile (at_mask n list k f) t b = from_mask profile n list k f t b
begins profile (at_len n list k f m) t b = from_len profile n list k f m t b
begins profile (at_who n list k f m l) t b = let h = who_bounds profile (at_who n list k f m l) t b in
    from_who profile n list k f m l t h.0 h.1 b
begins profile (at_padding n list k f m w) t b = from_padding profile n list k f m w t b

-- the bytes before a fault begin the spelling of an accepted list
pub fault_begins : (profile : Profile) (bytes : List ℕ) (offset : ℕ) (r : Reason) → IsFault profile bytes offset r
    → BeginsSpelling profile (take offset bytes)
fault_begins profile bytes offset r fault =
    let f = fault.1 in
    subst (BeginsSpelling profile) (sym (ap (take offset) f.parts ∙ take_at f.front f.rest offset f.here))
    (begins profile f.stage f.front f.border)
