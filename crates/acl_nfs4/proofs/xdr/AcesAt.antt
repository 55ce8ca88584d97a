-- One ACE at an offset of the bytes that spell a list.
use Rattle.acl_nfs4.proofs.Common.{[], Ace, ace, ace_at, AllByRecursion, ap, append_assoc, arith, Bool, cond, count_ones, eqb, eqb-true, counted, drop, drop_at, Err, Fault, fault_at, field, flags_of, flat_map, flat_map-cons, from_flags, from_len, from_mask, from_padding, from_who, IfErr, IfOk, IfSome, IsAce, IsBytes, IsFault, IsProfile, judged, kind_number, kind_of, length, length-append, length-drop, length-replicate, length-take, List, ltb, mask_of, most_weight, None, number, Ok, Option, pad_len, padding_of, piece, Place, Profile, Reason, refl, replicate, Result, Some, subst, sum_by-append, sym, take, take-append-drop, true, false, Truncated, weight, who_len_of, who_of, word, Xdr, ℕ, ◌++◌, ◌+◌, ◌<◌, ◌>>=◌, ◌∙◌, ◌∷◌, ◌≡◌, ◌≢◌, ◌≤◌}
use Rattle.std.specs.Prelude.{IsNone}
use Rattle.std.proofs.lemmas.Grind.{flat_map-append}
use Rattle.acl_nfs4.specs.Fault.{HasWholeFault}
use Rattle.acl_nfs4.specs.AceAt.{GivesAce, GivesNoAce, IsAceFault, IsAceFrom, IsFaultFrom, ace_offset, offset_after}
use Rattle.acl_nfs4.specs.internal.AceFrom.{place_from, ReadsFrom}
use Rattle.acl_nfs4.specs.declared.xdr.ace_at.AceAt.{AceAt}
use Rattle.acl_nfs4.proofs.xdr.Fields.{bind-ok, field_again, flags_again, IsBytes-drop, kind_again, kind_lt, mask_again, ok_is, padding_again, place, who_again, who_bounds, who_len_again, word_again}
use Rattle.acl_nfs4.proofs.xdr.Faults.{ace_fails}
use Rattle.acl_nfs4.proofs.xdr.Lists.{ace_takes, weight-cons}
use Rattle.acl_nfs4.proofs.xdr.OneFault.{whole_or_fault}
use Rattle.acl_nfs4.proofs.list.Within.{flags_lt, mask_lt}

-- ---- an ACE that was spelled is read again

-- the parts of an ACE before other bytes, one after the other
pub regrouped : (a b c d e f g : List ℕ)
    → ((((((a ++ b) ++ c) ++ d) ++ e) ++ f) ++ g) ≡ a ++ (b ++ (c ++ (d ++ (e ++ (f ++ g)))))
regrouped a b c d e f g = simp append_assoc

-- an ACE that was spelled is read again
pub ace_again : (profile : Profile) (weight at : ℕ) (a : Ace) (rest : List ℕ) → IsProfile profile
    → IsAce profile a → weight + count_ones a.mask ≤ most_weight
    → ace_at profile weight (place at (piece a ++ rest)) ≡ Ok (a, place (at + length (piece a)) rest)
unfolding ace_at
ace_again profile weight at a rest ok is light =
    let n : ℕ = length a.who in
    let pad : List ℕ = replicate (pad_len n) 0 in
    let b = who_bounds a.who is.who in
    let len : length pad ≡ pad_len n = length-replicate _ _ in
    let r5 = pad ++ rest in
    let r4 = a.who ++ r5 in
    let r3 = word n ++ r4 in
    let r2 = word a.mask ++ r3 in
    let r1 = word a.flags ++ r2 in
    ap (λ (x : List ℕ). ace_at profile weight (place at x))
    (regrouped (word (kind_number a.kind)) (word a.flags) (word a.mask) (word n) a.who pad rest)
    ∙ bind-ok _ (word_again kind_of at (kind_number a.kind) r1 a.kind (kind_lt a.kind) (kind_again a.kind))
    ∙ bind-ok _ (word_again (flags_of profile) (at + 4) a.flags r2 a.flags (flags_lt profile a.flags ok is.flags)
    (flags_again profile a.flags is.flags))
    ∙ bind-ok _ (word_again (mask_of profile weight) (at + 4 + 4) a.mask r3 a.mask (mask_lt profile a.mask ok is.mask)
    (mask_again profile weight a.mask is.mask light))
    ∙ bind-ok _ (word_again who_len_of (at + 4 + 4 + 4) n r4 n (omega (arith, b.1)) (who_len_again n b.0 b.1))
    ∙ bind-ok _ (field_again n who_of (at + 4 + 4 + 4 + 4) a.who r5 a.who refl (who_again a.who is.who))
    ∙ bind-ok _ (field_again (pad_len n) padding_of (at + 4 + 4 + 4 + 4 + n) pad rest tt len
    (padding_again (pad_len n)))
    ∙ ap (λ (k : ℕ). Ok (a, place k rest)) (omega (arith, len, length-append a.who pad))

-- ---- the same bytes at another place

-- the same result, this many bytes further on
abbrev shifted : {A : Type 0} → ℕ → Result (A × Place) Fault → Result (A × Place) Fault
shifted d (Ok x) = Ok (x.0, record { at = d + x.1.at; rest = x.1.rest })
shifted d (Err f) = Err (record { offset = d + f.offset; reason = f.reason })

-- a field of the same bytes, further on
field_shifted : {A : Type 0} (d n : ℕ) (value : List ℕ → Result A Reason) (at : ℕ) (rest : List ℕ)
    → field n value (place (d + at) rest) ≡ shifted d (field n value (place at rest))
field_shifted {A} d n value at rest = by (ltb (length rest) n) (value (take n rest))
  where
    by : (t : Bool) (r : Result A Reason)
        → cond t (Err (fault_at (place (d + at) rest) Truncated)) (judged n (place (d + at) rest) r)
        ≡ shifted d (cond t (Err (fault_at (place at rest) Truncated)) (judged n (place at rest) r))
    by true r = refl
    by false (Ok x) = ap (λ (k : ℕ). Ok (x, place k (drop n rest))) (omega arith)
    by false (Err r) = refl

-- two steps of the same bytes, further on
bind_shifted : {A B : Type 0} (d : ℕ) (r : Result (A × Place) Fault) (f : A × Place → Result (B × Place) Fault)
    → ((x : A) (at : ℕ) (rest : List ℕ) → f (x, place (d + at) rest) ≡ shifted d (f (x, place at rest)))
    → (shifted d r >>= f) ≡ shifted d (r >>= f)
bind_shifted d (Ok x) f h = h x.0 x.1.at x.1.rest
bind_shifted d (Err e) f h = refl

-- a field and what follows, of the same bytes further on
then_shifted : {A B : Type 0} (d n : ℕ) (value : List ℕ → Result A Reason) (at : ℕ) (rest : List ℕ)
    (f : A × Place → Result (B × Place) Fault)
    → ((x : A) (at : ℕ) (rest : List ℕ) → f (x, place (d + at) rest) ≡ shifted d (f (x, place at rest)))
    → (field n value (place (d + at) rest) >>= f) ≡ shifted d (field n value (place at rest) >>= f)
then_shifted {A} d n value at rest f h =
    ap (λ (r : Result (A × Place) Fault). r >>= f) (field_shifted d n value at rest)
    ∙ bind_shifted d (field n value (place at rest)) f h

-- an ACE of the same bytes, further on
ace_shifted : (p : Profile) (weight d at : ℕ) (rest : List ℕ)
    → ace_at p weight (place (d + at) rest) ≡ shifted d (ace_at p weight (place at rest))
unfolding ace_at
ace_shifted p weight d at rest =
    then_shifted d 4 (λ b. kind_of (number b)) at rest (λ x. from_flags p weight x.0 x.1) (λ k a1 r1.
    then_shifted {A = ℕ} d 4 (λ b. flags_of p (number b)) a1 r1 (λ x. from_mask p weight k x.0 x.1) (λ f a2 r2.
    then_shifted {A = ℕ} d 4 (λ b. mask_of p weight (number b)) a2 r2 (λ x. from_len k f x.0 x.1) (λ m a3 r3.
    then_shifted {A = ℕ} d 4 (λ b. who_len_of (number b)) a3 r3 (λ x. from_who k f m x.0 x.1) (λ l a4 r4.
    then_shifted {A = List ℕ} d l who_of a4 r4 (λ x. from_padding k f m l x.0 x.1) (λ w a5 r5.
    then_shifted {A = Unit {0}} d (pad_len l) padding_of a5 r5
    (λ x. Ok (record { kind = k; flags = f; mask = m; who = w }, x.1)) (λ z a6 r6. refl))))))

-- a fault further on is the same fault
shifted_err : {A : Type 0} (d : ℕ) (r : Result (A × Place) Fault) (f : Fault) → shifted d r ≡ Err f
    → (g : Fault) × (r ≡ Err g) × (f ≡ record { offset = d + g.offset; reason = g.reason })
shifted_err d (Ok x) f e = absurd cc
shifted_err d (Err g) f e = (g, refl, cc)

-- ---- what is read at an offset

-- a fault that is read at an offset is the fault of the bytes there, as the one ACE of a list
pub fault_from : (p : Profile) (bytes : List ℕ) (offset : ℕ) (f : Fault) → IsBytes bytes
    → ace_at p 0 (place_from offset bytes) ≡ Err f → IsFaultFrom p bytes offset f
fault_from p bytes offset f fits e =
    let rest : List ℕ = drop offset bytes in
    let at : offset ≡ offset + 0 = omega arith in
    let (g, first, same) = shifted_err offset (ace_at p 0 (place 0 rest)) f
    (sym (ace_shifted p 0 offset 0 rest) ∙ ap (λ (k : ℕ). ace_at p 0 (place k rest)) (sym at) ∙ e) in
    let there : ace_at p 0 (place 4 rest) ≡ Err (record { offset = 4 + g.offset; reason = g.reason }) =
    ace_shifted p 0 4 0 rest ∙ ap (shifted 4) first in
    record {
      behind = g.offset;
      here = ap (λ (x : Fault). x.offset) same;
      has = subst (λ (r : Reason). IsFault p (word 1 ++ rest) (4 + g.offset) r)
          (sym (ap (λ (x : Fault). x.reason) same))
          (ace_fails p (word 1 ++ rest) 1 [] (word 1) (place 4 rest) _
          (record { parts = refl; here = refl; fits = IsBytes-drop offset bytes fits })
          (counted 1 (omega arith)) (omega arith) there);
    }

-- an ACE that is read at an offset is spelled there
pub spelled_from : (p : Profile) (bytes : List ℕ) (offset end : ℕ) (a : Ace) (rest : List ℕ) → IsBytes bytes
    → ace_at p 0 (place_from offset bytes) ≡ Ok (a, record { at = end; rest = rest }) → IsAceFrom p bytes offset end a
spelled_from p bytes offset end a rest fits e =
    let t = ace_takes p 0 (place_from offset bytes) (a, record { at = end; rest = rest })
    (IsBytes-drop offset bytes fits) e in
    let some : 0 < length (piece a) = omega (arith, length-append (word (kind_number a.kind)) (word a.flags)) in
    record {
      before = take offset bytes;
      after = rest;
      parts = sym (take-append-drop offset bytes) ∙ ap (λ (x : List ℕ). take offset bytes ++ x) t.takes.parts
          ∙ sym (append_assoc (take offset bytes) (piece a) rest);
      begins = omega (
        arith,
        length-take offset bytes,
        length-drop offset bytes,
        ap length t.takes.parts,
        length-append (piece a) rest,
        some,
      );
      ends = sym t.takes.counted;
      is = t.is;
    }

-- in the bytes of a list, after these ACEs, the bytes of the next one follow
next_follows : (p : Profile) (front back : List Ace) (a : Ace) (bytes : List ℕ) → Xdr p (front ++ a ∷ back) bytes
    → drop (offset_after front) bytes ≡ piece a ++ flat_map piece back
next_follows p front back a bytes x =
    let n : ℕ = length (front ++ a ∷ back) in
    let parts : bytes ≡ (word n ++ flat_map piece front) ++ (piece a ++ flat_map piece back) =
    x.spelled ∙ ap (λ (y : List ℕ). word n ++ y) (flat_map-append piece front (a ∷ back)
    ∙ ap (λ (y : List ℕ). flat_map piece front ++ y) (flat_map-cons piece a back))
    ∙ sym (append_assoc (word n) (flat_map piece front) (piece a ++ flat_map piece back)) in
    ap (drop (offset_after front)) parts
    ∙ drop_at (word n ++ flat_map piece front) (piece a ++ flat_map piece back) (offset_after front)
    (omega (arith, length-append (word n) (flat_map piece front)))

-- an ACE of an accepted list is an ACE of the profile, and light enough
ace_within : (p : Profile) (front back : List Ace) (a : Ace) (bytes : List ℕ) → Xdr p (front ++ a ∷ back) bytes
    → IsAce p a × (0 + count_ones a.mask ≤ most_weight)
ace_within p front back a bytes x = (
  each_at front x.accepted.each,
  omega (arith, x.accepted.weight, sum_by-append (λ y. count_ones y.mask) front (a ∷ back), weight-cons a back),
) where
  each_at : (front : List Ace) → AllByRecursion (IsAce p) (front ++ a ∷ back) → IsAce p a
  each_at [] each = each.0
  each_at (b ∷ front) each = each_at front each.1

-- the offset after one more ACE
after_push : (front : List Ace) (a : Ace) → offset_after front + length (piece a) ≡ offset_after (front ++ a ∷ [])
after_push front a = omega (
  arith,
  ap length (flat_map-append piece front (a ∷ [])),
  length-append (flat_map piece front) (flat_map piece (a ∷ [])),
  ap length (flat_map-cons piece a []),
  length-append (piece a) (flat_map piece []),
)

-- bytes of a list end after its last ACE
ends_after : (p : Profile) (list : List Ace) (bytes : List ℕ) → Xdr p list bytes → offset_after list ≡ length bytes
ends_after p list bytes x =
    omega (arith, ap length x.spelled, length-append (word (length list)) (flat_map piece list))

-- the answer of the reader at an offset
module _ (p : Profile) (bytes : List ℕ) (ok : IsProfile p) (fits : IsBytes bytes) where
  -- the next ACE of the list that the bytes spell is read
  read_next : (front back : List Ace) (a : Ace) (offset : ℕ) → Xdr p (front ++ a ∷ back) bytes
      → offset ≡ offset_after front → ace_at p 0 (place_from offset bytes)
      ≡ Ok (a, record { at = offset_after (front ++ a ∷ []); rest = flat_map piece back })
  read_next front back a offset x here =
      let w = ace_within p front back a bytes x in
      ap (λ (k : ℕ). ace_at p 0 (place_from k bytes)) here
      ∙ ap (λ (r : List ℕ). ace_at p 0 (place (offset_after front) r)) (next_follows p front back a bytes x)
      ∙ ace_again p 0 (offset_after front) a (flat_map piece back) ok w.0 w.1
      ∙ ap (λ (k : ℕ). Ok (a, place k (flat_map piece back))) (after_push front a)

  -- an ACE of the list is not at the end of the bytes
  not_at_end : (front back : List Ace) (a : Ace) (offset : ℕ) → Xdr p (front ++ a ∷ back) bytes
      → offset ≡ offset_after front → offset ≡ length bytes → ⊥
  not_at_end front back a offset x here end =
      let some : 0 < length (piece a) = omega (arith, length-append (word (kind_number a.kind)) (word a.flags)) in
      omega (
        arith,
        here,
        end,
        some,
        length-drop (offset_after front) bytes,
        ap length (next_follows p front back a bytes x),
        length-append (piece a) (flat_map piece back),
      )

  -- the reader gives the next ACE of the list that the bytes spell
  pub gives_next : (front back : List Ace) (a : Ace) (offset : ℕ) (result : Result (Option AceAt) Fault)
      → Xdr p (front ++ a ∷ back) bytes → offset ≡ offset_after front → ReadsFrom p bytes offset result
      → GivesAce a (offset_after (front ++ a ∷ [])) result
  gives_next front back a offset (Ok None) x here h = absurd (not_at_end front back a offset x here h)
  gives_next front back a offset (Ok (Some found)) x here h =
      let same = ok_is _ _ (sym h.1.1 ∙ read_next front back a offset x here) in
      (ap (λ z. z.0) same, ap (λ z. z.1.at) same)
  gives_next front back a offset (Err f) x here h = absurd (apart (sym h.1 ∙ read_next front back a offset x here))
    where
      apart : {A : Type 0} {y : A} {f : Fault} → Err f ≡ Ok y → ⊥
      apart e = cc

  -- the reader gives no ACE at the end of the list
  pub gives_none : (list : List Ace) (offset : ℕ) (result : Result (Option AceAt) Fault) → Xdr p list bytes
      → offset ≡ offset_after list → ReadsFrom p bytes offset result → GivesNoAce result
  gives_none list offset (Ok None) x here h = refl
  gives_none list offset (Ok (Some found)) x here h = absurd (h.0 (here ∙ ends_after p list bytes x))
  gives_none list offset (Err f) x here h = absurd (h.0 (here ∙ ends_after p list bytes x))

  -- what the reader gives is spelled there
  pub gives_spelled : (offset : ℕ) (result : Result (Option AceAt) Fault) → ReadsFrom p bytes offset result
      → IfOk result (λ x. IfSome x (λ a. IsAceFrom p bytes offset a.end (ace a.ace)))
  gives_spelled offset (Ok None) h = tt
  gives_spelled offset (Ok (Some x)) h = spelled_from p bytes offset x.end (ace x.ace) h.1.0 fits h.1.1
  gives_spelled offset (Err f) h = tt

  -- the reader gives no ACE only at the end
  pub none_at_end : (offset : ℕ) (result : Result (Option AceAt) Fault) → ReadsFrom p bytes offset result
      → IfOk result (λ x. IsNone x → offset ≡ length bytes)
  none_at_end offset (Ok None) h = λ _. h
  none_at_end offset (Ok (Some x)) h = λ e. absurd cc
  none_at_end offset (Err f) h = tt

  -- a fault of the reader is that of the ACE there
  pub gives_fault : (offset : ℕ) (result : Result (Option AceAt) Fault) → ReadsFrom p bytes offset result
      → IfErr result (IsFaultFrom p bytes offset)
  gives_fault offset (Ok x) h = tt
  gives_fault offset (Err f) h = fault_from p bytes offset f fits h.1

  -- the first ACE of a list is not refused
  pub first_is_read : (P : Fault → Type 0) (list : List Ace) (result : Result (Option AceAt) Fault) → Xdr p list bytes
      → ReadsFrom p bytes 4 result → IfErr result P
  first_is_read P list (Ok x) xdr h = tt
  first_is_read P [] (Err f) xdr h = absurd (h.0 (ends_after p [] bytes xdr))
  first_is_read P (a ∷ list) (Err f) xdr h = absurd (gives_next [] list a 4 (Err f) xdr refl h)

  -- ---- at offset 0

  -- the first ACE of the list that the bytes spell is read
  pub first_next : (front back : List Ace) (a : Ace) (result : Result (Option AceAt) Fault)
      → Xdr p (front ++ a ∷ back) bytes → 4 ≡ offset_after front → IfOk result (λ _. ReadsFrom p bytes 4 result)
      → IfErr result (HasWholeFault p bytes) → GivesAce a (offset_after (front ++ a ∷ [])) result
  first_next front back a (Ok x) xdr here h fault = gives_next front back a 4 (Ok x) xdr here h
  first_next front back a (Err f) xdr here h fault =
      absurd (whole_or_fault p bytes (front ++ a ∷ back) f.offset f.reason ok xdr fault)

  -- no ACE of the empty list is read
  pub first_none : (list : List Ace) (result : Result (Option AceAt) Fault) → Xdr p list bytes
      → 4 ≡ offset_after list → IfOk result (λ _. ReadsFrom p bytes 4 result) → IfErr result (HasWholeFault p bytes)
      → GivesNoAce result
  first_none list (Ok x) xdr here h fault = gives_none list 4 (Ok x) xdr here h
  first_none list (Err f) xdr here h fault = absurd (whole_or_fault p bytes list f.offset f.reason ok xdr fault)

  -- what is read first is spelled there
  pub first_spelled : (result : Result (Option AceAt) Fault) → IfOk result (λ _. ReadsFrom p bytes 4 result)
      → IfOk result (λ x. IfSome x (λ a. IsAceFrom p bytes 4 a.end (ace a.ace)))
  first_spelled (Ok x) h = gives_spelled 4 (Ok x) h
  first_spelled (Err f) h = tt

-- an offset other than 0 is where the ACE is read
pub offset_is : (n : ℕ) → n ≢ 0 → ace_offset n ≡ n
offset_is n some = by (eqb n 0) refl
  where
    by : (t : Bool) → eqb n 0 ≡ t → cond t 4 n ≡ n
    by true e = absurd (some (eqb-true n 0 e))
    by false e = refl

-- a fault at an offset other than 0
pub fault_inside : (p : Profile) (bytes : List ℕ) (offset : ℕ) (result : Result (Option AceAt) Fault) → offset ≢ 0
    → IfErr result (IsFaultFrom p bytes offset) → IfErr result (IsAceFault p bytes offset)
fault_inside p bytes offset (Ok x) some h = tt
fault_inside p bytes offset (Err f) some h = record { whole = λ e. absurd (some e); inside = λ _. h }
