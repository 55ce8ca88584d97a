-- A fault that reading returns is the first fault of the text.
use Rattle.acl_nfs4.proofs.Common.{[], Ace, ace_at, AllByRecursion, ap, append-nil, append_assoc, arith, Bool, Border, Breaks, cases_lt, cond, count_ones, Err, Fault, fault_at, field, flagged, flags_of, flat_map, flat_map-cons, from_who, inl, inr, IsAce, IsBytes, IsFault, IsFirstFault, IsOwed, judged, Kind, kind_number, kind_of, le-ltb, length, length-append, List, longest_who, lt-ltb, mask_of, masked, measured, most_weight, named, number, Ok, pad_len, padded, padding_of, piece, Place, Profile, Reason, refl, refuses, replicate, Result, size, Stage, subst, suc, sum_by_push, sym, take, Truncated, typed, weight, who_len_of, who_of, word, word_field, zero, ℕ, ◌++◌, ◌+◌, ◌<◌, ◌>>=◌, ◌∙◌, ◌∷◌, ◌≡◌, ◌≤◌}
use Rattle.acl_nfs4.specs.Fault.Stage.{kind as at_kind, flags as at_flags, mask as at_mask, len as at_len, who as at_who, padding as at_padding}
use Rattle.acl_nfs4.proofs.xdr.Fields.{flags_take, kind_takes, len_takes, mask_takes, Takes, who_bounds, who_takes}
use Rattle.acl_nfs4.proofs.xdr.Lists.{weight-cons}

-- a fault, as a result of a given type
abbrev bad : {A E : Type 0} → E → Result A E
bad e = Err e

-- a value, as a result that may be a fault
abbrev good : {A : Type 0} → A → Result A Fault
good x = Ok x

-- the weight of a list and the bits of one more ACE are the weight of the list with that ACE
pub weight-push : (list : List Ace) (a : Ace) → weight list + count_ones a.mask ≡ weight (list ++ a ∷ [])
weight-push list a = sym (sum_by_push (λ x. count_ones x.mask) list a)

-- equal results have equal faults
bad_is : {A E : Type 0} (d e : E) → bad {A = A} {E = E} d ≡ bad e → d ≡ e
bad_is d e h = cc

-- if two steps fail, the first fails, or it gives a value and the second fails
pub bind_fails : {A B E C : Type 0} (r : Result A E) (f : A → Result B E) (e : E) → (r >>= f) ≡ Err e → (r ≡ Err e → C)
    → ((x : A) → r ≡ Ok x → f x ≡ Err e → C) → C
bind_fails (Ok x) f e h first later = later x refl h
bind_fails {A = A} {E = E} (Err d) f e h first later = first (ap (λ (x : E). bad {A = A} x) (bad_is d e h))

-- how far reading has come in a text
pub record Carried (bytes t : List ℕ) (p : Place) : Type 0 where
  pub parts : bytes ≡ t ++ p.rest
  pub here : length t ≡ p.at
  pub fits : IsBytes p.rest

-- after one more field, reading has come to the end of that field
pub Carried-then : (bytes t : List ℕ) (p : Place) (x : List ℕ) (q : Place) → Carried bytes t p → Takes p x q
    → Carried bytes (t ++ x) q
Carried-then bytes t p x q c k = record {
  parts = c.parts ∙ ap (λ (y : List ℕ). t ++ y) k.parts ∙ sym (append_assoc t x q.rest);
  here = omega (arith, c.here, k.counted, length-append t x);
  fits = k.bytes;
}

-- a result has at most one fault
pub err_is : {A : Type 0} (f g : Fault) (r : Result A Fault) → r ≡ Err f → r ≡ Err g → f ≡ g
err_is f g (Ok x) p q = absurd cc
err_is f g (Err h) p q = cc

-- a whole field that fails is refused for a reason, and the fault is at its place
pub judged_err : {A : Type 0} (n : ℕ) (p : Place) (r : Result A Reason) (f : Fault) → judged n p r ≡ Err f
    → (d : Reason) × (r ≡ Err d) × (fault_at p d ≡ f)
judged_err n p (Ok x) f e = absurd cc
judged_err n p (Err d) f e = (d, refl, cc)

-- accepted fields up to a border, and a wrong field after it, are a first fault
pub first_at : {p : Profile} {bytes : List ℕ} {o t : ℕ} {r : Reason} (s : Stage) (front rest : List ℕ) (n : ℕ)
    → bytes ≡ front ++ rest → Border p s front → length front ≡ o → IsOwed s → 0 < size s → Breaks p s rest n r
    → o + n ≡ t → IsFirstFault p bytes o t r
first_at s front rest n parts border here owed some breaks ends = record {
  stage = s;
  front = front;
  rest = rest;
  more = n;
  parts = parts;
  border = border;
  here = here;
  owed = owed;
  some = some;
  breaks = breaks;
  ends = ends;
}

-- if the next field fails, its fault is the fault of the text
field_fault : {A : Type 0} (profile : Profile) (bytes t : List ℕ) (p : Place) (s : Stage)
    (value : List ℕ → Result A Reason)
    (f : Fault) → Carried bytes t p → Border profile s t → IsOwed s
    → ((r : Reason) → refuses profile s (take (size s) p.rest) r → 0 < size s)
    → ((r : Reason) → value (take (size s) p.rest) ≡ Err r → refuses profile s (take (size s) p.rest) r)
    → field (size s) value p ≡ Err f → IsFault profile bytes f.offset f.reason
field_fault profile bytes t p s value f c b owed some means e =
    elim (cases_lt (length p.rest) (size s)) [
      | inl short ↦
          let h : Err (fault_at p Truncated) ≡ Err f =
          sym (ap (λ (x : Bool). cond x (Err (fault_at p Truncated))
          (judged (size s) p (value (take (size s) p.rest)))) (lt-ltb _ _ short)) ∙ e in
          let same : fault_at p Truncated ≡ f = cc in
          subst (λ (g : Fault). IsFault profile bytes g.offset g.reason) same (
            p.at + length p.rest,
            first_at s t p.rest _ c.parts b c.here owed (omega arith) (inl (short, refl, refl)) refl,
          )
      | inr whole ↦
          let h : judged (size s) p (value (take (size s) p.rest)) ≡ Err f =
          sym (ap (λ (x : Bool). cond x (Err (fault_at p Truncated))
          (judged (size s) p (value (take (size s) p.rest)))) (le-ltb _ _ whole)) ∙ e in
          let j = judged_err (size s) p (value (take (size s) p.rest)) f h in
          let m = means j.0 j.1 in
          subst (λ (g : Fault). IsFault profile bytes g.offset g.reason) j.2 (
            p.at + size s,
            first_at s t p.rest _ c.parts b c.here owed (some j.0 m) (inr (whole, refl, m)) refl,
          )
    ]

-- a padding that is refused has at least one byte
padding_some : (n : ℕ) (bytes : List ℕ) (r : Reason) → padding_of (take n bytes) ≡ Err r → 0 < n
padding_some zero bytes r e = absurd cc
padding_some (suc n) bytes r e = omega arith

-- a word has at least one byte
some_word : (r : Reason) → 0 < 4
some_word r = omega arith

-- fields that are put after a text one by one may be put there together
pub regroup : (t a b c d e f : List ℕ)
    → ((((((t ++ a) ++ b) ++ c) ++ d) ++ e) ++ f) ≡ t ++ (((((a ++ b) ++ c) ++ d) ++ e) ++ f)
regroup t a b c d e f = simp append_assoc

-- after a whole ACE the text is at a border again
pub border_after : (profile : Profile) (n : ℕ) (list : List Ace) (t : List ℕ) (a : Ace)
    → Border profile (at_kind n list) t → length list < n → IsAce profile a
    → weight list + count_ones a.mask ≤ most_weight → Border profile (at_kind n (list ++ a ∷ [])) (t ++ piece a)
border_after profile n list t a b lt is light =
    let bounds = who_bounds a.who is.who in
    let b1 = typed n list a.kind t b lt in
    let b2 = flagged n list a.kind a.flags _ b1 is.flags in
    let b3 = masked n list a.kind a.flags a.mask _ b2 is.mask light in
    let b4 = measured n list a.kind a.flags a.mask (length a.who) _ b3 bounds.0 bounds.1 in
    let b5 = named n list a.kind a.flags a.mask a.who _ b4 is.who in
    subst (λ (x : List ℕ). Border profile (at_kind n (list ++ a ∷ [])) x)
    (regroup t (word (kind_number a.kind)) (word a.flags) (word a.mask) (word (length a.who)) a.who
    (replicate (pad_len (length a.who)) 0)) (padded n list a.kind a.flags a.mask a.who _ b5)

-- after more whole ACEs the text is at a border again
pub borders_after : (profile : Profile) (n : ℕ) (list more : List Ace) (t : List ℕ) → Border profile (at_kind n list) t
    → AllByRecursion (IsAce profile) more → length list + length more ≤ n → weight list + weight more ≤ most_weight
    → Border profile (at_kind n (list ++ more)) (t ++ flat_map piece more)
borders_after profile n list [] t b each few light =
    subst (λ (l : List Ace). Border profile (at_kind n l) (t ++ [])) (sym (append-nil list))
    (subst (λ (x : List ℕ). Border profile (at_kind n list) x) (sym (append-nil t)) b)
borders_after profile n list (a ∷ more) t b each few light =
    let h = borders_after profile n (list ++ a ∷ []) more (t ++ piece a)
    (border_after profile n list t a b (omega arith) each.0 (omega (arith, light, weight-cons a more))) each.1
    (omega (arith, few, length-append list (a ∷ [])))
    (omega (arith, light, weight-push list a, weight-cons a more)) in
    subst (λ (l : List Ace). Border profile (at_kind n l) (t ++ flat_map piece (a ∷ more)))
    (append_assoc list (a ∷ []) more) (subst (λ (x : List ℕ). Border profile (at_kind n ((list ++ a ∷ []) ++ more)) x)
    (append_assoc t (piece a) (flat_map piece more) ∙ ap (λ (x : List ℕ). t ++ x) (sym (flat_map-cons piece a more))) h)

-- no value is a fault
ok_no_err : {A : Type 0} (x : A) (f : Fault) → good x ≡ bad f → ⊥
ok_no_err x f e = cc

-- a fault in the who or the padding of the next ACE is the fault of the text
tail_fails : (profile : Profile) (bytes : List ℕ) (n : ℕ) (list : List Ace) (k : Kind) (f m l : ℕ) (t : List ℕ)
    (p : Place) (fault : Fault) → Carried bytes t p → Border profile (at_who n list k f m l) t → 1 ≤ l → l ≤ longest_who
    → from_who k f m l p ≡ Err fault → IsFault profile bytes fault.offset fault.reason
tail_fails profile bytes n list k f m l t p fault c b some short e =
    bind_fails (field l who_of p) _ fault e
    (λ h. field_fault profile bytes t p (at_who n list k f m l) who_of fault c b tt
    (λ r _. some) (λ r m. m) h) (λ w we wr.
    let (taken, is, len) = who_takes l p w c.fits we in
    let cw = Carried-then bytes t p w.0 w.1 c taken in
    let bw = named n list k f m w.0 t (subst (λ (x : ℕ). Border profile (at_who n list k f m x) t) (sym len) b) is in
    bind_fails (field (pad_len l) padding_of w.1) _ fault wr
    (λ h. field_fault profile bytes (t ++ w.0) w.1 (at_padding n list k f m w.0) padding_of fault cw bw tt
    (λ r m. padding_some (pad_len (length w.0)) w.1.rest r m) (λ r m. m)
    (subst (λ (x : ℕ). field (pad_len x) padding_of w.1 ≡ Err fault) (sym len) h))
    (λ z ze zr. absurd (ok_no_err _ fault zr)))

-- a fault in the next ACE is the fault of the text
pub ace_fails : (profile : Profile) (bytes : List ℕ) (n : ℕ) (list : List Ace) (t : List ℕ) (p : Place) (fault : Fault)
    → Carried bytes t p → Border profile (at_kind n list) t → length list < n
    → ace_at profile (weight list) p ≡ Err fault → IsFault profile bytes fault.offset fault.reason
unfolding ace_at
ace_fails profile bytes n list t p fault c b lt e =
    bind_fails (word_field kind_of p) _ fault e
    (λ h. field_fault profile bytes t p (at_kind n list) (λ x. kind_of (number x))
    fault c b lt (λ r _. some_word r) (λ r m. m) h) (λ k ke kr.
    let ck = Carried-then bytes t p (word (kind_number k.0)) k.1 c (kind_takes p k c.fits ke) in
    let bk = typed n list k.0 t b lt in
    bind_fails (word_field (flags_of profile) k.1) _ fault kr
    (λ h. field_fault profile bytes _ k.1 (at_flags n list k.0) (λ x. flags_of profile (number x)) fault ck bk tt
    (λ r _. some_word r) (λ r m. m) h) (λ f fe fr.
    let (flags_taken, flags_within) = flags_take profile k.1 f ck.fits fe in
    let cf = Carried-then bytes _ k.1 (word f.0) f.1 ck flags_taken in
    let bf = flagged n list k.0 f.0 _ bk flags_within in
    bind_fails (word_field (mask_of profile (weight list)) f.1) _ fault fr
    (λ h. field_fault profile bytes _ f.1 (at_mask n list k.0 f.0) (λ x. mask_of profile (weight list) (number x))
    fault cf
    bf tt (λ r _. some_word r) (λ r m. m) h) (λ m me mr.
    let (mask_taken, mask_within, light) = mask_takes profile (weight list) f.1 m cf.fits me in
    let cm = Carried-then bytes _ f.1 (word m.0) m.1 cf mask_taken in
    let bm = masked n list k.0 f.0 m.0 _ bf mask_within light in
    bind_fails (word_field who_len_of m.1) _ fault mr (λ h.
    field_fault profile bytes _ m.1 (at_len n list k.0 f.0 m.0) (λ x. who_len_of (number x)) fault cm bm tt
    (λ r _. some_word r) (λ r m. m) h) (λ l le lr.
    let (len_taken, some, short) = len_takes m.1 l cm.fits le in
    let cl = Carried-then bytes _ m.1 (word l.0) l.1 cm len_taken in
    let bl = measured n list k.0 f.0 m.0 l.0 _ bm some short in
    tail_fails profile bytes n list k.0 f.0 m.0 l.0 _ l.1 fault cl bl some short lr))))
