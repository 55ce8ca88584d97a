-- A text has one fault, and reading returns it.
use Rattle.acl_nfs4.proofs.Common.{[], Ace, ace_at, aces_at, ap, append-nil, append_assoc, arith, Border, Breaks, count_of, count_ones, counted, Err, Fault, fault_at, field, flagged, flags_of, from_flags, from_len, from_mask, from_padding, from_who, inl, inr, IsFault, IsOwed, IsProfile, Kind, kind_number, kind_of, le-ltb, length, length-append, length-replicate, List, lt-ltb, mask_of, masked, measured, named, number, Ok, pad_len, padded, padding_of, Place, Profile, read_list, Reason, refl, replicate, Result, spelling, Stage, start, subst, suc, sym, take, Truncated, typed, weight, who_len_of, who_of, word, word_field, Xdr, ℕ, ◌++◌, ◌+◌, ◌-◌, ◌<◌, ◌>>=◌, ◌∙◌, ◌∷◌, ◌≡◌, ◌≤◌, ◌⊎◌}
use Rattle.acl_nfs4.specs.Fault.Stage.{count as at_count, kind as at_kind, flags as at_flags, mask as at_mask, len as at_len, who as at_who, padding as at_padding}
use Rattle.acl_nfs4.proofs.xdr.Fields.{bind-ok, ok_is, place, word_again, field_again, count_again, kind_again, kind_lt, flags_again, mask_again, who_len_again, who_again, padding_again}
use Rattle.acl_nfs4.proofs.xdr.Faults.{borders_after, weight-push}
use Rattle.acl_nfs4.proofs.list.Within.{flags_lt, mask_lt}

-- what is read after these ACEs, with these ACEs in front of it
abbrev pub behind : List Ace → Result (List Ace × Place) Fault → Result (List Ace × Place) Fault
behind list r = r >>= λ x. Ok (list ++ x.0, x.1)

-- the ACE that is read, and then the others up to the count, with these ACEs in front of them
abbrev then_others : Profile → ℕ → List Ace → Result (Ace × Place) Fault → Result (List Ace × Place) Fault
then_others profile n list r =
    behind list (r >>= λ first. aces_at profile (n - length list - 1) (weight list + count_ones first.0.mask)
    first.1 >>= λ others. Ok (first.0 ∷ others.0, others.1))

-- what is still to be read
abbrev resume : Profile → Stage → Place → Result (List Ace × Place) Fault
resume profile at_count p = word_field count_of p >>= λ n. aces_at profile n.0 0 n.1
resume profile (at_kind n list) p = behind list (aces_at profile (n - length list) (weight list) p)
resume profile (at_flags n list k) p = then_others profile n list (from_flags profile (weight list) k p)
resume profile (at_mask n list k f) p = then_others profile n list (from_mask profile (weight list) k f p)
resume profile (at_len n list k f m) p = then_others profile n list (from_len k f m p)
resume profile (at_who n list k f m l) p = then_others profile n list (from_who k f m l p)
resume profile (at_padding n list k f m w) p = then_others profile n list (from_padding k f m (length w) w p)

-- if reading continues at a border, and from there over one more field, it continues after that field
moves_on : (profile : Profile) (s u : Stage) (t x rest : List ℕ)
    → read_list profile (t ++ (x ++ rest)) ≡ resume profile s (place (length t) (x ++ rest))
    → resume profile s (place (length t) (x ++ rest)) ≡ resume profile u (place (length t + length x) rest)
    → read_list profile ((t ++ x) ++ rest) ≡ resume profile u (place (length (t ++ x)) rest)
moves_on profile s u t x rest before step = ap (read_list profile) (append_assoc t x rest) ∙ before ∙ step
    ∙ ap (λ (n : ℕ). resume profile u (place n rest)) (sym (length-append t x))

-- with no ACE in front of it, what is read stays the same
pub behind-nil : (r : Result (List Ace × Place) Fault) → r ≡ behind [] r
behind-nil (Ok x) = refl
behind-nil (Err f) = refl

-- it is the same to put an ACE in front of what is read, and then a list, or the list with this ACE at its end
behind-push : (list : List Ace) (a : Ace) (r : Result (List Ace × Place) Fault)
    → behind list (r >>= λ x. Ok (a ∷ x.0, x.1)) ≡ behind (list ++ a ∷ []) r
behind-push list a (Ok x) = ap (λ (l : List Ace). Ok (l, x.1)) (sym (append_assoc list (a ∷ []) x.0))
behind-push list a (Err f) = refl

-- the padding of a who
abbrev zeros_for : List ℕ → List ℕ
zeros_for w = replicate (pad_len (length w)) 0

-- at a border before an ACE, reading continues after the kind, at the flags
kind_step : (profile : Profile) (n : ℕ) (list : List Ace) (k : Kind) (at : ℕ) (rest : List ℕ) → length list < n
    → resume profile (at_kind n list) (place at (word (kind_number k) ++ rest))
    ≡ resume profile (at_flags n list k) (place (at + 4) rest)
unfolding aces_at ace_at
kind_step profile n list k at rest lt =
    let count : n - length list ≡ suc (n - length list - 1) = omega arith in
    ap (λ (c : ℕ). behind list (aces_at profile c (weight list) (place at (word (kind_number k) ++ rest)))) count
    ∙ ap (then_others profile n list) (bind-ok _ (word_again kind_of at (kind_number k) rest k (kind_lt k)
    (kind_again k)))

-- at a border before the padding, reading continues after the padding, at the next ACE
padding_step : (profile : Profile) (n : ℕ) (list : List Ace) (k : Kind) (f m : ℕ) (w : List ℕ) (at : ℕ) (rest : List ℕ)
    → resume profile (at_padding n list k f m w) (place at (zeros_for w ++ rest))
    ≡ resume profile (at_kind n (list ++ record { kind = k; flags = f; mask = m; who = w } ∷ []))
    (place (at + length (zeros_for w)) rest)
padding_step profile n list k f m w at rest =
    let a : Ace = record { kind = k; flags = f; mask = m; who = w } in
    let len : length (zeros_for w) ≡ pad_len (length w) = length-replicate _ _ in
    let todo : n - length list - 1 ≡ n - length (list ++ a ∷ []) = omega (arith, length-append list (a ∷ [])) in
    ap (then_others profile n list) (bind-ok _ (field_again (pad_len (length w)) padding_of at (zeros_for w) rest tt
    len (padding_again (pad_len (length w))))) ∙ behind-push list a _
    ∙ ap (λ (c : ℕ). behind (list ++ a ∷ []) (aces_at profile c (weight list + count_ones m)
    (place (at + pad_len (length w)) rest))) todo
    ∙ ap (λ (c : ℕ). behind (list ++ a ∷ []) (aces_at profile (n - length (list ++ a ∷ [])) c
    (place (at + pad_len (length w)) rest))) (weight-push list a)
    ∙ ap (λ (c : ℕ). behind (list ++ a ∷ []) (aces_at profile (n - length (list ++ a ∷ [])) (weight (list ++ a ∷ []))
    (place (at + c) rest))) (sym len)

-- if the fields of a text up to a border are accepted, reading the text continues at the border
read_list-resumes : (profile : Profile) (s : Stage) (t rest : List ℕ) → IsProfile profile → Border profile s t
    → read_list profile (t ++ rest) ≡ resume profile s (place (length t) rest)
unfolding read_list
read_list-resumes profile _ _ rest ok start = refl
read_list-resumes profile _ _ rest ok (counted n le) =
    bind-ok _ (word_again count_of 0 n rest n (omega arith) (count_again n le))
    ∙ behind-nil (aces_at profile n 0 (place 4 rest))
    ∙ ap (λ (c : ℕ). behind [] (aces_at profile c 0 (place 4 rest))) (omega arith)
read_list-resumes profile _ _ rest ok (typed n list k t b lt) =
    moves_on profile (at_kind n list) (at_flags n list k) t (word (kind_number k)) rest
    (read_list-resumes profile (at_kind n list) t (word (kind_number k) ++ rest) ok b)
    (kind_step profile n list k (length t) rest lt)
read_list-resumes profile _ _ rest ok (flagged n list k f t b is) =
    moves_on profile (at_flags n list k) (at_mask n list k f) t (word f) rest
    (read_list-resumes profile (at_flags n list k) t (word f ++ rest) ok b)
    (ap (then_others profile n list) (bind-ok _ (word_again (flags_of profile) (length t) f rest f
    (flags_lt profile f ok is) (flags_again profile f is))))
read_list-resumes profile _ _ rest ok (masked n list k f m t b is light) =
    moves_on profile (at_mask n list k f) (at_len n list k f m) t (word m) rest
    (read_list-resumes profile (at_mask n list k f) t (word m ++ rest) ok b)
    (ap (then_others profile n list) (bind-ok _ (word_again (mask_of profile (weight list)) (length t) m rest m
    (mask_lt profile m ok is) (mask_again profile (weight list) m is light))))
read_list-resumes profile _ _ rest ok (measured n list k f m l t b some short) =
    moves_on profile (at_len n list k f m) (at_who n list k f m l) t (word l) rest
    (read_list-resumes profile (at_len n list k f m) t (word l ++ rest) ok b)
    (ap (then_others profile n list) (bind-ok _ (word_again who_len_of (length t) l rest l (omega arith)
    (who_len_again l some short))))
read_list-resumes profile _ _ rest ok (named n list k f m w t b is) =
    moves_on profile (at_who n list k f m (length w)) (at_padding n list k f m w) t w rest
    (read_list-resumes profile (at_who n list k f m (length w)) t (w ++ rest) ok b)
    (ap (then_others profile n list) (bind-ok _ (field_again (length w) who_of (length t) w rest w refl
    (who_again w is))))
read_list-resumes profile _ _ rest ok (padded n list k f m w t b) =
    moves_on profile (at_padding n list k f m w) (at_kind n
    (list ++ record { kind = k; flags = f; mask = m; who = w } ∷ [])) t (zeros_for w) rest
    (read_list-resumes profile (at_padding n list k f m w) t (zeros_for w ++ rest) ok b)
    (padding_step profile n list k f m w (length t) rest)

-- a field that is cut short or refused fails with that reason
pub field_breaks : {A : Type 0} (size : ℕ) (value : List ℕ → Result A Reason) (p : Place) (n : ℕ) (r : Reason)
    → ((length p.rest < size) × (n ≡ length p.rest) × (r ≡ Truncated))
    ⊎ ((size ≤ length p.rest) × (n ≡ size) × (value (take size p.rest) ≡ Err r))
    → field size value p ≡ Err (fault_at p r)
field_breaks size value p n r (inl h) = rw (lt-ltb (length p.rest) size h.0, h.2) refl
field_breaks size value p n r (inr h) = rw (le-ltb (length p.rest) size h.0, h.2) refl

-- a field that fails ends the reading
pub bind-err : {A B E : Type 0} {r : Result A E} (f : A → Result B E) {e : E} → r ≡ Err e → (r >>= f) ≡ Err e
bind-err f h = rw h refl

-- if the field after a border is cut short or refused, reading fails with that fault
breaks_is : (profile : Profile) (s : Stage) (p : Place) (n : ℕ) (r : Reason) → IsOwed s → Breaks profile s p.rest n r
    → resume profile s p ≡ Err (fault_at p r)
unfolding aces_at ace_at
breaks_is profile at_count p t r owed b = bind-err _ (field_breaks 4 (λ x. count_of (number x)) p t r b)
breaks_is profile (at_kind n list) p t r owed b =
    let count : n - length list ≡ suc (n - length list - 1) = omega arith in
    ap (λ (c : ℕ). behind list (aces_at profile c (weight list) p)) count
    ∙ ap (then_others profile n list) (bind-err _ (field_breaks 4 (λ x. kind_of (number x)) p t r b))
breaks_is profile (at_flags n list k) p t r owed b =
    ap (then_others profile n list) (bind-err _ (field_breaks 4 (λ x. flags_of profile (number x)) p t r b))
breaks_is profile (at_mask n list k f) p t r owed b =
    ap (then_others profile n list)
    (bind-err _ (field_breaks 4 (λ x. mask_of profile (weight list) (number x)) p t r b))
breaks_is profile (at_len n list k f m) p t r owed b =
    ap (then_others profile n list) (bind-err _ (field_breaks 4 (λ x. who_len_of (number x)) p t r b))
breaks_is profile (at_who n list k f m l) p t r owed b =
    ap (then_others profile n list) (bind-err _ (field_breaks l who_of p t r b))
breaks_is profile (at_padding n list k f m w) p t r owed b =
    ap (then_others profile n list) (bind-err _ (field_breaks (pad_len (length w)) padding_of p t r b))

-- the fault of a text is the one that reading returns
pub answers_fault : (profile : Profile) (bytes : List ℕ) (offset : ℕ) (r : Reason) → IsProfile profile
    → IsFault profile bytes offset r → read_list profile bytes ≡ Err (record { offset = offset; reason = r })
answers_fault profile bytes offset r ok fault =
    let f = fault.1 in
    ap (read_list profile) f.parts ∙ read_list-resumes profile f.stage f.front f.rest ok f.border
    ∙ breaks_is profile f.stage (place (length f.front) f.rest) f.more r f.owed f.breaks
    ∙ ap (λ (n : ℕ). Err (record { offset = n; reason = r })) f.here

-- the spelling of a list is read as that list
pub read_again : (profile : Profile) (list : List Ace) (text rest : List ℕ) → IsProfile profile → Xdr profile list text
    → read_list profile (text ++ rest) ≡ Ok (list, place (length text) rest)
unfolding aces_at
read_again profile list text rest ok x =
    let n : ℕ = length list in
    let end : Border profile (at_kind n list) (spelling list) = borders_after profile n [] list (word n)
    (counted n x.accepted.count) x.accepted.each (omega arith) (omega (arith, x.accepted.weight)) in
    let none : n - n ≡ 0 = omega arith in
    read_list-resumes profile (at_kind n list) text rest ok
    (subst (λ (t : List ℕ). Border profile (at_kind n list) t) (sym x.spelled) end)
    ∙ ap (λ (k : ℕ). behind list (aces_at profile k (weight list) (place (length text) rest))) none
    ∙ ap (λ (l : List Ace). Ok (l, place (length text) rest)) (append-nil list)

-- no spelling begins another, and none spells two lists
pub one_spelling : (profile : Profile) (a b : List Ace) (s t x y : List ℕ) → IsProfile profile → Xdr profile a s
    → Xdr profile b t → s ++ x ≡ t ++ y → (a ≡ b) × (s ≡ t)
one_spelling profile a b s t x y is p q e =
    let h : (a, place (length s) x) ≡ (b, place (length t) y) = ok_is _ _ (sym (read_again profile a s x is p)
    ∙ ap (read_list profile) e ∙ read_again profile b t y is q) in
    let same : a ≡ b = ap (λ z. z.0) h in
    (same, p.spelled ∙ ap spelling same ∙ sym q.spelled)
