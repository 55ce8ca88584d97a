-- A text has at most one fault, and it has none if a value is at its front.
use Rattle.acl_nfs4.proofs.Common.{[], Ace, ap, append-nil, arith, behind, cases_lt, drop, Err, Fault, flags_of, IfErr, IfOk, inl, inr, IsFault, IsFirstFault, IsOkAnd, IsProfile, IsWholeFault, kind_of, length, length-append, length-drop, length-take, List, mask_of, None, number, of_value, Ok, Option, option_map, padding_of, Profile, Read, read_list, Reason, refl, refuses, Result, size, Some, Stage, subst, sym, take, take-append-add, take-append-drop, take-take, TrailingBytes, Truncated, unless, weight, who_fault, who_len_of, who_of, who_reason, WhoFault, Xdr, ℕ, ◌++◌, ◌+◌, ◌-◌, ◌<◌, ◌∙◌, ◌≡◌, ◌≢◌, ◌≤◌, ◌⊎◌}
use Rattle.acl_nfs4.specs.Fault.Stage.{count as at_count, kind as at_kind, flags as at_flags, mask as at_mask, len as at_len, who as at_who, padding as at_padding}
use Rattle.acl_nfs4.specs.Front.{IsListOf, IsAtFront}
use Rattle.acl_nfs4.specs.declared.who.WhoFault.TheVariants as who
use Rattle.acl_nfs4.proofs.xdr.Faults.{err_is, first_at}
use Rattle.acl_nfs4.proofs.feed.Pieces.{breaks_whole}
use Rattle.acl_nfs4.proofs.xdr.Resume.{answers_fault, one_spelling, read_again}

-- a reason of the source, and of no field
abbrev pub IsOfSource : Reason → Type 0
IsOfSource r = (r ≡ Truncated) ⊎ (r ≡ Read)

-- no fault of a who has a reason of the source
no_such_reason : (fault : Option WhoFault) (bytes : List ℕ) (r : Reason) → IsOfSource r
    → unless (option_map who_reason fault) bytes ≡ Err r → ⊥
no_such_reason None bytes r s e = absurd cc
no_such_reason (Some who.Length) bytes r s e = elim s [ inl t ↦ absurd cc | inr t ↦ absurd cc ]
no_such_reason (Some who.Utf8) bytes r s e = elim s [ inl t ↦ absurd cc | inr t ↦ absurd cc ]
no_such_reason (Some who.Control) bytes r s e = elim s [ inl t ↦ absurd cc | inr t ↦ absurd cc ]
no_such_reason (Some who.Special) bytes r s e = elim s [ inl t ↦ absurd cc | inr t ↦ absurd cc ]

-- no kind is refused for a reason of the source
pub kind_never : (n : ℕ) (r : Reason) → IsOfSource r → kind_of n ≡ Err r → ⊥
kind_never n r o h = grind (arith, o)

-- no flags are refused for a reason of the source
pub flags_never : (profile : Profile) (n : ℕ) (r : Reason) → IsOfSource r → flags_of profile n ≡ Err r → ⊥
flags_never profile n r o h = grind (arith, o)

-- no mask is refused for a reason of the source
pub mask_never : (profile : Profile) (weight n : ℕ) (r : Reason) → IsOfSource r → mask_of profile weight n ≡ Err r → ⊥
mask_never profile weight n r o h = grind (arith, o)

-- no length is refused for a reason of the source
pub len_never : (n : ℕ) (r : Reason) → IsOfSource r → who_len_of n ≡ Err r → ⊥
len_never n r o h = grind (arith, o)

-- no who is refused for a reason of the source
pub who_never : (bytes : List ℕ) (r : Reason) → IsOfSource r → who_of bytes ≡ Err r → ⊥
who_never bytes = no_such_reason (who_fault bytes) bytes

-- no padding is refused for a reason of the source
pub padding_never : (bytes : List ℕ) (r : Reason) → IsOfSource r → padding_of bytes ≡ Err r → ⊥
padding_never bytes r o h = grind (arith, o)

-- no field is refused for a reason of the source
never_of_source : (profile : Profile) (s : Stage) (bytes : List ℕ) (r : Reason) → IsOfSource r
    → refuses profile s bytes r → ⊥
never_of_source profile at_count bytes r o h = grind (arith, o)
never_of_source profile (at_kind n list) bytes r o h = kind_never (number bytes) r o h
never_of_source profile (at_flags n list k) bytes r o h = flags_never profile (number bytes) r o h
never_of_source profile (at_mask n list k f) bytes r o h = mask_never profile (weight list) (number bytes) r o h
never_of_source profile (at_len n list k f m) bytes r o h = len_never (number bytes) r o h
never_of_source profile (at_who n list k f m l) bytes r o h = who_never bytes r o h
never_of_source profile (at_padding n list k f m w) bytes r o h = padding_never bytes r o h

-- no field is refused with Truncated
pub never_truncated : (profile : Profile) (s : Stage) (bytes : List ℕ) → refuses profile s bytes Truncated → ⊥
never_truncated profile s bytes = never_of_source profile s bytes Truncated (inl refl)

-- the first bytes of a text, up to a place after its front, are the front and the first bytes of the rest
kept_front : (bytes front rest : List ℕ) (o k : ℕ) → bytes ≡ front ++ rest → length front ≡ o
    → take (o + k) bytes ≡ front ++ take k rest
kept_front bytes front rest o k parts here =
    ap (λ (n : ℕ). take (n + k) bytes) (sym here) ∙ ap (take (length front + k)) parts ∙ take-append-add front rest k

-- two faults of a text have the same place and the same reason
pub one_place : (profile : Profile) (bytes : List ℕ) (o q : ℕ) (r s : Reason) → IsProfile profile
    → IsFault profile bytes o r → IsFault profile bytes q s → (o ≡ q) × (r ≡ s)
one_place profile bytes o q r s ok f g =
    let same : record { offset = o; reason = r } ≡ record { offset = q; reason = s } =
    err_is _ _ (read_list profile bytes) (answers_fault profile bytes o r ok f)
    (answers_fault profile bytes q s ok g) in
    (ap (λ (x : Fault). x.offset) same, ap (λ (x : Fault). x.reason) same)

-- the text cut inside the refused field is cut short
cut_short : {p : Profile} {bytes : List ℕ} {o t : ℕ} {r : Reason} (k : ℕ) (f : IsFirstFault p bytes o t r)
    → k < size f.stage → size f.stage ≤ length f.rest → IsFault p (take (o + k) bytes) o Truncated
cut_short {bytes = bytes} {o = o} k f lt le =
    let n : length (take k f.rest) ≡ k = omega (arith, length-take k f.rest, lt, le) in (
      o + k,
      first_at f.stage f.front (take k f.rest) k (kept_front bytes f.front f.rest o k f.parts f.here) f.border f.here
          f.owed f.some (inl (omega (arith, n, lt), sym n, refl)) refl,
    )

-- the text cut after the refused field is refused as before
cut_behind : {p : Profile} {bytes : List ℕ} {o t : ℕ} {r : Reason} (k : ℕ) (f : IsFirstFault p bytes o t r)
    → size f.stage ≤ k → r ≢ Truncated → IsFault p (take (o + k) bytes) o r
cut_behind {p} {bytes} {o} {r = r} k f le not_cut =
    let b = breaks_whole p f.stage f.rest f.more r f.breaks not_cut in
    let kept : refuses p f.stage (take (size f.stage) (take k f.rest)) r =
    subst (λ (x : List ℕ). refuses p f.stage x r) (sym (take-take (size f.stage) k f.rest le)) b.2 in (
      o + size f.stage,
      first_at f.stage f.front (take k f.rest) _ (kept_front bytes f.front f.rest o k f.parts f.here) f.border f.here
          f.owed f.some (inr (omega (arith, length-take k f.rest, le, b.0), refl, kept)) refl,
    )

-- neither of two refusals ends before the other
no_later : {p : Profile} {bytes : List ℕ} {o t u : ℕ} {r : Reason} → IsProfile p → (f : IsFirstFault p bytes o t r)
    → (g : IsFirstFault p bytes o u r) → r ≢ Truncated → size g.stage ≤ size f.stage
no_later {p} {bytes} {o} {r = r} ok f g not_cut =
    elim (cases_lt (size f.stage) (size g.stage)) [
      | inl lt ↦
          let b = breaks_whole p g.stage g.rest g.more r g.breaks not_cut in
          absurd (not_cut (one_place p (take (o + size f.stage) bytes) o o r Truncated ok
          (cut_behind (size f.stage) f (omega arith) not_cut) (cut_short (size f.stage) g lt b.0)).1)
      | inr le ↦ le
    ]

-- if each text that ends earlier is cut short, all of the text was taken
pub all_taken : (p : Profile) (a b : List ℕ) (o t : ℕ) (r : Reason) → IsProfile p → IsFirstFault p (a ++ b) o t r
    → r ≢ Truncated → 0 < length b
    → ((k : ℕ) → k < length b → (q : ℕ) × IsFault p (a ++ take k b) q Truncated) → t ≡ length (a ++ b)
all_taken p a b o t r ok f not_cut some cuts =
    let w = breaks_whole p f.stage f.rest f.more r f.breaks not_cut in
    elim (cases_lt t (length (a ++ b))) [
      | inl lt ↦
          let k : ℕ = t - length a in
          let at : o + (length a + k - o) ≡ length a + k = omega (arith, f.ends) in
          let kept : IsFault p (a ++ take k b) o r = subst (λ (x : List ℕ). IsFault p x o r)
          (ap (λ (n : ℕ). take n (a ++ b)) at ∙ take-append-add a b k)
          (cut_behind (length a + k - o) f (omega (arith, w.1, f.ends)) not_cut) in
          let c = cuts k (omega (arith, lt, some, length-append a b)) in
          absurd (not_cut (one_place p (a ++ take k b) o c.0 r Truncated ok kept c.1).1)
      | inr le ↦
          omega (arith, le, w.0, w.1, f.ends, f.here, ap length f.parts, length-append f.front f.rest)
    ]

-- a value at the front leaves no fault
pub value_or_fault : (profile : Profile) (bytes : List ℕ) (list : List Ace) (text rest : List ℕ) (o : ℕ) (r : Reason)
    → IsProfile profile → Xdr profile list text → bytes ≡ text ++ rest → IsFault profile bytes o r → ⊥
value_or_fault profile bytes list text rest o r ok x e f =
    let read = ap (read_list profile) e ∙ read_again profile list text rest ok x in
    apart (read_list profile bytes) _ _ read (answers_fault profile bytes o r ok f) where
      apart : {A : Type 0} (r : Result A Fault) (x : A) (f : Fault) → r ≡ Ok x → r ≡ Err f → ⊥
      apart (Ok y) x f p q = cc
      apart (Err g) x f p q = cc

-- the answer of a reader that finds the list at the front, or returns a fault of the bytes
module _ (p : Profile) (bytes : List ℕ) (ok : IsProfile p) where
  -- the list at the front is found
  pub found_only : (result : Result (List Ace × ℕ) Fault) → IfOk result (IsAtFront p bytes)
      → IfErr result (λ f. IsFault p bytes f.offset f.reason) → (list : List Ace) (text rest : List ℕ)
      → Xdr p list text → bytes ≡ text ++ rest → IsOkAnd result (IsListOf list text)
  found_only (Ok x) found fault list text rest xdr e =
      let h = one_spelling p x.0 list (take x.1 bytes) text (drop x.1 bytes) rest ok found.1 xdr
      (take-append-drop x.1 bytes ∙ e) in
      (h.0, omega (arith, ap length h.1, length-take x.1 bytes, found.0))
  found_only (Err f) found fault list text rest xdr e =
      absurd (value_or_fault p bytes list text rest f.offset f.reason ok xdr e fault)

  -- bytes with a fault are refused with that fault
  pub found_refused : (result : Result (List Ace × ℕ) Fault) → IfOk result (IsAtFront p bytes)
      → IfErr result (λ f. IsFault p bytes f.offset f.reason) → (offset : ℕ) (r : Reason) → IsFault p bytes offset r
      → result ≡ Err (record { offset = offset; reason = r })
  found_refused (Ok x) found fault offset r f =
      absurd (value_or_fault p bytes x.0 (take x.1 bytes) (drop x.1 bytes) offset r ok found.1
      (sym (take-append-drop x.1 bytes)) f)
  found_refused (Err g) found fault offset r f =
      let e = one_place p bytes g.offset offset g.reason r ok fault f in rw (sym e.0, sym e.1) refl

-- two spellings at the front of a text end at the same place
one_end : (profile : Profile) (a b : List Ace) (s t x y bytes : List ℕ) → IsProfile profile → Xdr profile a s
    → Xdr profile b t → bytes ≡ s ++ x → bytes ≡ t ++ y → length s ≡ length t
one_end profile a b s t x y bytes ok p q d e = ap length (one_spelling profile a b s t x y ok p q (sym d ∙ e)).1

-- for one fault of a text, what is taken ends at one place
same_end : {p : Profile} {bytes : List ℕ} {o t u : ℕ} {r : Reason} → IsProfile p → IsFirstFault p bytes o t r
    → IsFirstFault p bytes o u r → t ≡ u
same_end {p} {r = r} ok f g =
    elim f.breaks [
      | inl a ↦ elim g.breaks [
        | inl b ↦
            let here = ap length f.parts in
            let there = ap length g.parts in
            omega (arith, a.1, b.1, length-append f.front f.rest, length-append g.front g.rest)
        | inr b ↦ absurd (never_truncated p g.stage _ (subst (refuses p g.stage (take (size g.stage) g.rest)) a.2 b.2))
      ]
      | inr a ↦
          let not_cut : r ≢ Truncated = λ e. never_truncated p f.stage _
          (subst (refuses p f.stage (take (size f.stage) f.rest)) e a.2) in
          let b = breaks_whole p g.stage g.rest g.more r g.breaks not_cut in
          omega (arith, a.1, b.1, f.ends, g.ends, no_later ok f g not_cut, no_later ok g f not_cut)
    ]

-- two first faults of a text have the same place and reason, and what is taken ends at the same place
pub one_fault : (profile : Profile) (bytes : List ℕ) (o q t u : ℕ) (r s : Reason) → IsProfile profile
    → IsFirstFault profile bytes o t r → IsFirstFault profile bytes q u s → (o ≡ q) × (t ≡ u) × (r ≡ s)
one_fault profile bytes o q t u r s ok f g =
    let place = one_place profile bytes o q r s ok (t, f) (u, g) in
    let same : IsFirstFault profile bytes o u r = subst (λ (x : ℕ). IsFirstFault profile bytes x u r) (sym place.0)
    (subst (λ (x : Reason). IsFirstFault profile bytes q u x) (sym place.1) g) in
    (place.0, same_end ok f same, place.1)

-- bytes that should be one list have at most one fault
pub one_whole_fault : (profile : Profile) (bytes : List ℕ) {o q : ℕ} {r s : Reason} → IsProfile profile
    → IsWholeFault profile bytes o r → IsWholeFault profile bytes q s → (o ≡ q) × (r ≡ s)
one_whole_fault profile bytes ok (of_value o r f) (of_value q s g) = one_place profile bytes o q r s ok f g
one_whole_fault profile bytes ok (of_value o r f) (behind list text rest x e some) =
    absurd (value_or_fault profile bytes list text rest o r ok x e f)
one_whole_fault profile bytes ok (behind list text rest x e some) (of_value q s g) =
    absurd (value_or_fault profile bytes list text rest q s ok x e g)
one_whole_fault profile bytes ok (behind a s t x d m) (behind b u v y e n) =
    (one_end profile a b s u t v bytes ok x y d e, refl)

-- a spelling has no fault as a whole
pub whole_or_fault : (profile : Profile) (bytes : List ℕ) (list : List Ace) (o : ℕ) (r : Reason) → IsProfile profile
    → Xdr profile list bytes → IsWholeFault profile bytes o r → ⊥
whole_or_fault profile bytes list _ _ ok x (of_value o r f) =
    value_or_fault profile bytes list bytes [] o r ok x (sym (append-nil bytes)) f
whole_or_fault profile bytes list _ _ ok x (behind b u v y e n) =
    let same : length bytes ≡ length u = one_end profile list b bytes u [] v bytes ok x y (sym (append-nil bytes)) e in
    omega (arith, same, ap length e, length-append u v, n)

-- if bytes follow a list, the first of them is a fault
pub byte_after_list : (profile : Profile) (bytes : List ℕ) (list : List Ace) (len : ℕ) → len < length bytes
    → Xdr profile list (take len bytes) → IsWholeFault profile bytes len TrailingBytes
byte_after_list profile bytes list len lt x =
    let at : length (take len bytes) ≡ len = omega (arith, length-take len bytes) in
    subst (λ (n : ℕ). IsWholeFault profile bytes n TrailingBytes) at
    (behind list (take len bytes) (drop len bytes) x (sym (take-append-drop len bytes))
    (omega (arith, length-drop len bytes)))

-- the answer of a reader that finds the list that the bytes spell, or returns their fault as a whole
module _ (p : Profile) (bytes : List ℕ) (ok : IsProfile p) where
  -- the list that the bytes spell is found
  pub whole_only : (result : Result (List Ace) Fault) → IfOk result (λ list. Xdr p list bytes)
      → IfErr result (λ f. IsWholeFault p bytes f.offset f.reason) → (list : List Ace) → Xdr p list bytes
      → IsOkAnd result (λ x. x ≡ list)
  whole_only (Ok found) x fault list y = (one_spelling p found list bytes bytes [] [] ok x y refl).0
  whole_only (Err f) x fault list y = absurd (whole_or_fault p bytes list f.offset f.reason ok y fault)

  -- bytes with a fault as a whole are refused with that fault
  pub whole_refused : (result : Result (List Ace) Fault) → IfOk result (λ list. Xdr p list bytes)
      → IfErr result (λ f. IsWholeFault p bytes f.offset f.reason) → (offset : ℕ) (r : Reason)
      → IsWholeFault p bytes offset r → result ≡ Err (record { offset = offset; reason = r })
  whole_refused (Ok found) x fault offset r f = absurd (whole_or_fault p bytes found offset r ok x f)
  whole_refused (Err g) x fault offset r f =
      let e = one_whole_fault p bytes ok fault f in rw (sym e.0, sym e.1) refl
