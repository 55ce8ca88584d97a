-- The first wrong field of flags and a list of ACEs is the fault of a reader that reads ACE after ACE.
use Rattle.std.proofs.Common.{◌≡◌, ◌∙◌, ◌+◌, ◌<◌, ◌^◌, ◌++◌, ℕ, zero, suc, Bool, true, false, cond, eqb, List, [], ◌∷◌, Result, Ok, Err, length, take, replicate, refl, ap, sym, subst, arith, inl, inr, append_assoc, length-append}
use Rattle.std.specs.Prelude.{count_ones, sum_by}
use Rattle.std.specs.List.{enumerate_from, flat_map}
use Rattle.std.proofs.Math.Seq.{take-append_seam}
use Rattle.std.proofs.lemmas.Bool.{cases_lt, eq-eqb, eqb-true}
use Rattle.std.proofs.lemmas.List.{length-replicate}
use Rattle.std.proofs.lemmas.List.Sums.{sum_by_push}
use Rattle.acl_perm.specs.internal.Steps.{◌>>=◌}
use Rattle.acl_nfs4.proofs.Exports.{count_is, place}
use Rattle.acl_nfs4.specs.Fields.{count_of}
use Rattle.acl_nfs4.specs.Layout.{Field, IsFirstWrongField, number_field}
use Rattle.acl_nfs4.specs.declared.xdr.fault.Reason.TheVariants.{TrailingBytes}
use Rattle.acl_nfs4.specs.internal.Progress.{IsBytes}
use Rattle.acl_nfs4.specs.internal.Reading.{Place}
use Rattle.acl_forms.specs.AclFields.{IsAclFault, acl_fields}
use Rattle.acl_forms.specs.AclFields.IsAclFault.{after_value, of_field}
use Rattle.acl_forms.specs.ReadFaults.{read_fault_at}
use Rattle.acl_forms.specs.Words.{acl_flags_of, listed, start, word_at}
use Rattle.acl_forms.specs.declared.fault.ReadFault.{ReadFault}
use Rattle.acl_forms.specs.declared.fault.ReadReason.{ReadReason}
use Rattle.acl_forms.specs.declared.fault.ReadReason.TheVariants as reason
use Rattle.acl_forms.specs.internal.IdAces.{nothing_after}
use Rattle.acl_forms.proofs.FieldFaults.{FailsIn, after_word, cut, either_fails, ends, no_fault, none_wrong, word_fails, word_step}
use Rattle.acl_forms.proofs.IdAces.{listed_ok}
use Rattle.acl_forms.proofs.WordLemmas.{SpelledTo, flags_are, flags_lt, word_takes}

-- what the word of a count means
abbrev counts : ℕ → Result ℕ ReadReason
counts n = listed (count_of n)

-- the bits of ACEs with these masks
abbrev bits_of : {A : Type 0} → (A → ℕ) → List A → ℕ
bits_of mask list = sum_by (λ a. count_ones (mask a)) list

-- the fields of ACEs after ACEs of this weight
abbrev pub fields_from : {A : Type 0} → (ℕ → A → List (Field ReadReason)) → (A → ℕ) → ℕ → List A
    → List (Field ReadReason)
fields_from fields mask weight [] = []
fields_from fields mask weight (a ∷ list) =
    fields weight a ++ fields_from fields mask (weight + count_ones (mask a)) list

-- the fields of ACEs after others
fields_after : {A : Type 0} (fields : ℕ → A → List (Field ReadReason)) (mask : A → ℕ) (before list : List A)
    (weight n : ℕ) → weight ≡ bits_of mask before → n ≡ length before → fields_from fields mask weight list
    ≡ flat_map (λ q. fields (bits_of mask (take q.0 (before ++ list))) q.1) (enumerate_from n list)
fields_after fields mask before [] weight n light long = refl
fields_after {A = A} fields mask before (a ∷ list) weight n light long =
    let whole : (before ++ a ∷ []) ++ list ≡ before ++ a ∷ list = append_assoc before (a ∷ []) list in
    let here : take n (before ++ a ∷ list) ≡ before =
    ap (λ k. take k (before ++ a ∷ list)) long ∙ take-append_seam before (a ∷ list) in
    let next = fields_after fields mask (before ++ a ∷ []) list (weight + count_ones (mask a)) (n + 1)
    (ap (λ k. k + count_ones (mask a)) light ∙ sym (sum_by_push (λ (b : A). count_ones (mask b)) before a))
    (omega (arith, long, length-append before (a ∷ []))) in
    ap (λ k. fields k a ++ fields_from fields mask (weight + count_ones (mask a)) list)
    (light ∙ sym (ap (bits_of mask) here))
    ∙ ap (λ (l : List (Field ReadReason)). fields (bits_of mask (take n (before ++ a ∷ list))) a ++ l)
    (next ∙ ap (λ (w : List A). flat_map (λ q. fields (bits_of mask (take q.0 w)) q.1) (enumerate_from (n + 1) list))
    whole)

-- the fields of flags and a list are the flags, the number of its ACEs, and the fields of the ACEs
all_fields : {A : Type 0} (fields : ℕ → A → List (Field ReadReason)) (mask : A → ℕ) (flags : ℕ) (list : List A)
    → number_field acl_flags_of flags ∷ number_field counts (length list) ∷ fields_from fields mask 0 list
    ≡ acl_fields fields mask flags list
all_fields fields mask flags list = ap
    (λ (l : List (Field ReadReason)). number_field acl_flags_of flags ∷ number_field counts (length list) ∷ l)
    (fields_after fields mask [] list 0 0 refl refl)

-- ---- how a reader of an ACE and the fields of an ACE go together

-- an ACE that was read has these fields, before the fields of which one is wrong
pub record Passes {A X : Type 0} (fields : ℕ → A → List (Field ReadReason)) (mask : A → ℕ) (bits : X → ℕ) (weight : ℕ)
    (p : Place) (x : X × Place) : Type 0 where
  pub ace : A
  pub light : bits x.0 ≡ count_ones (mask ace)
  pub fits : IsBytes x.1.rest
  pub before : (xs : List (Field ReadReason)) (f : ReadFault) → FailsIn xs x.1.at x.1.rest f
      → FailsIn (fields weight ace ++ xs) p.at p.rest f

-- a reader of an ACE reads these fields: what it refuses is a wrong field of an ACE, it goes on after an ACE, and it
-- fails at a wrong field
pub record ReadsFields {A X : Type 0} (fields : ℕ → A → List (Field ReadReason)) (mask : A → ℕ) (bits : X → ℕ)
    (read : ℕ → Place → Result (X × Place) ReadFault) (C : Type 0) : Type 0 where
  pub fails : (weight : ℕ) (p : Place) (f : ReadFault) → IsBytes p.rest → read weight p ≡ Err f
      → (a : A) × ((xs : List (Field ReadReason)) → FailsIn (fields weight a ++ xs) p.at p.rest f)
  pub passes : (weight : ℕ) (p : Place) (x : X × Place) → IsBytes p.rest → read weight p ≡ Ok x
      → Passes fields mask bits weight p x
  pub stops : (weight at : ℕ) (a : A) (xs : List (Field ReadReason)) (last : X × Place → Result C ReadFault)
      (bytes : List ℕ) (offset : ℕ) (r : ReadReason)
      → ((x : X) (end : ℕ) (rest : List ℕ) (more : ℕ) → bits x ≡ count_ones (mask a)
      → IsFirstWrongField cut xs rest more r → last (x, place end rest) ≡ Err (read_fault_at (end + more) r))
      → IsFirstWrongField cut (fields weight a ++ xs) bytes offset r
      → (read weight (place at bytes) >>= last) ≡ Err (read_fault_at (at + offset) r)

-- a list is read ACE after ACE, and each one adds its bits to the weight
pub record Loops {X L : Type 0} (bits : X → ℕ) (read : ℕ → Place → Result (X × Place) ReadFault)
    (loop : ℕ → L → Place → Result (L × Place) ReadFault) (heavy : L → ℕ) (push : L → ℕ → X → L) : Type 0 where
  pub done : (l : L) (p : Place) → loop zero l p ≡ Ok (l, p)
  pub more : (n : ℕ) (l : L) (p : Place)
      → loop (suc n) l p ≡ (read (heavy l) p >>= λ x. loop n (push l p.at x.0) x.1)
  pub heavier : (l : L) (at : ℕ) (x : X) → heavy (push l at x) ≡ heavy l + bits x

-- if bytes are left, the end was not reached
end_fails : {L : Type 0} (flags : ℕ) (x : L × Place) (f : ReadFault) → nothing_after flags x ≡ Err f
    → (0 < length x.1.rest) × (read_fault_at x.1.at (reason.List TrailingBytes) ≡ f)
end_fails {L = L} flags x f e =
    elim (cases_lt 0 (length x.1.rest)) [
      | inl some ↦ (some, by (eqb (length x.1.rest) 0) refl some e)
      | inr none ↦
          absurd (no_fault (flags, x.0) f (sym (ap (λ (b : Bool). cond {A = Result (ℕ × L) ReadFault} b
          (Ok (flags, x.0)) (Err (read_fault_at x.1.at (reason.List TrailingBytes))))
          (eq-eqb (length x.1.rest) 0 (omega (arith, none)))) ∙ e))
    ]
  where
    by : (b : Bool) → eqb (length x.1.rest) 0 ≡ b → 0 < length x.1.rest
        → cond {A = Result (ℕ × L) ReadFault} b (Ok (flags, x.0))
        (Err (read_fault_at x.1.at (reason.List TrailingBytes))) ≡ Err f
        → read_fault_at x.1.at (reason.List TrailingBytes) ≡ f
    by true is some e = absurd (omega (arith, eqb-true _ _ is, some))
    by false is some e = cc

-- bytes after a value are a fault
pub left_over : {L : Type 0} (flags : ℕ) (l : L) (at : ℕ) (rest : List ℕ) → 0 < length rest
    → nothing_after flags (l, place at rest) ≡ Err (read_fault_at at (reason.List TrailingBytes))
left_over {L = L} flags l at rest some = by (eqb (length rest) 0) refl
  where
    by : (b : Bool) → eqb (length rest) 0 ≡ b
        → cond {A = Result (ℕ × L) ReadFault} b (Ok (flags, l)) (Err (read_fault_at at (reason.List TrailingBytes)))
        ≡ Err (read_fault_at at (reason.List TrailingBytes))
    by true is = absurd (omega (arith, eqb-true _ _ is, some))
    by false is = refl

-- flags that are accepted are a word
flags_fit : (n m : ℕ) → acl_flags_of n ≡ Ok m → n < 2 ^ 32
flags_fit n m e =
    let is = flags_are n m e in
    let low = flags_lt m is.1 in
    omega (arith, is.0, low)

-- ---- a reader of a whole value

-- a reader of ACEs with these fields, from a list of no ACE on
module _ {A X L : Type 0} {fields : ℕ → A → List (Field ReadReason)} {mask : A → ℕ} {bits : X → ℕ}
    {read : ℕ → Place → Result (X × Place) ReadFault} {loop : ℕ → L → Place → Result (L × Place) ReadFault}
    {heavy : L → ℕ} {push : L → ℕ → X → L} (reads : ReadsFields fields mask bits read (L × Place))
    (loops : Loops bits read loop heavy push) where
  -- the ACEs of which one has the fault
  record FailsAces (n weight : ℕ) (p : Place) (f : ReadFault) : Type 0 where
    pub list : List A
    pub long : length list ≡ n
    pub fails : FailsIn (fields_from fields mask weight list) p.at p.rest f

  -- a fault of reading ACEs is that of a field of ACEs
  aces_fail : (n : ℕ) (l : L) (p : Place) (f : ReadFault) → IsBytes p.rest → loop n l p ≡ Err f
      → FailsAces n (heavy l) p f
  aces_fail zero l p f fits e = absurd (no_fault (l, p) f (sym (loops.done l p) ∙ e))
  aces_fail (suc n) l p f fits e =
      either_fails (read (heavy l) p) (λ x. loop n (push l p.at x.0) x.1) f (sym (loops.more n l p) ∙ e)
      (λ failed.
      let (a, fails) = reads.fails (heavy l) p f fits failed in
      let others : List A = replicate n a in
      let long : length others ≡ n = length-replicate _ _ in
      record {
        list = a ∷ others;
        long = omega (arith, long);
        fails = fails (fields_from fields mask (heavy l + count_ones (mask a)) others);
      }) (λ x xe rest.
      let t = reads.passes (heavy l) p x fits xe in
      let s = aces_fail n (push l p.at x.0) x.1 f t.fits rest in
      let heavier : heavy (push l p.at x.0) ≡ heavy l + count_ones (mask t.ace) =
      loops.heavier l p.at x.0 ∙ ap (λ (k : ℕ). heavy l + k) t.light in
      record {
        list = t.ace ∷ s.list;
        long = omega (arith, s.long);
        fails = t.before (fields_from fields mask (heavy l + count_ones (mask t.ace)) s.list) f
            (subst (λ (k : ℕ). FailsIn (fields_from fields mask k s.list) x.1.at x.1.rest f) heavier s.fails);
      })

  -- reading ACEs fails at the first wrong field
  aces_stop : (list : List A) (l : L) (at : ℕ) (bytes : List ℕ) (offset : ℕ) (r : ReadReason)
      → IsFirstWrongField cut (fields_from fields mask (heavy l) list) bytes offset r
      → loop (length list) l (place at bytes) ≡ Err (read_fault_at (at + offset) r)
  aces_stop [] l at bytes offset r first = absurd (none_wrong [] bytes offset r first refl)
  aces_stop (a ∷ list) l at bytes offset r first =
      loops.more (length list) l (place at bytes)
      ∙ reads.stops (heavy l) at a (fields_from fields mask (heavy l + count_ones (mask a)) list)
      (λ x. loop (length list) (push l at x.0) x.1) bytes offset r
      (λ x end rest more light later. aces_stop list (push l at x) end rest more r
      (subst (λ (k : ℕ). IsFirstWrongField cut (fields_from fields mask k list) rest more r)
      (sym (loops.heavier l at x ∙ ap (λ (k : ℕ). heavy l + k) light)) later))
      first

  -- the flags and what is read of all of the bytes, or the first fault from the left
  abbrev pub whole_from : L → List ℕ → Result (ℕ × L) ReadFault
  whole_from none bytes =
      word_at acl_flags_of (start bytes) >>= λ flags. (word_at counts flags.1 >>= λ count.
      (loop count.0 none count.1 >>= λ l. nothing_after flags.0 l))

  -- the fault of a field is the fault of the bytes
  of_fields : {Spelled : List ℕ → Type 0} (bytes : List ℕ) (flags : ℕ) (list : List A) (f : ReadFault)
      → FailsIn (number_field acl_flags_of flags ∷ number_field counts (length list) ∷ fields_from fields mask 0 list) 0
      bytes f
      → IsAclFault (acl_fields fields mask) Spelled bytes f
  of_fields bytes flags list f found =
      let fails = subst (λ (xs : List (Field ReadReason)). FailsIn xs 0 bytes f) (all_fields fields mask flags list)
      found in
      let same : fails.more ≡ f.offset = omega (arith, fails.here) in
      of_field flags list f
      (subst (λ (k : ℕ). IsFirstWrongField cut (acl_fields fields mask flags list) bytes k f.reason) same fails.wrong)

  -- bytes whose reading fails have that fault
  pub whole_fails : (Spelled : List ℕ → Type 0) (none : L) (bytes : List ℕ) (f : ReadFault) → heavy none ≡ 0
      → IsBytes bytes
      → ((flags count : ℕ × Place) (l : L × Place) → word_at acl_flags_of (start bytes) ≡ Ok flags
      → word_at counts flags.1 ≡ Ok count → loop count.0 none count.1 ≡ Ok l → SpelledTo Spelled bytes l.1)
      → whole_from none bytes ≡ Err f → IsAclFault (acl_fields fields mask) Spelled bytes f
  whole_fails Spelled none bytes f light fits front e =
      either_fails (word_at acl_flags_of (start bytes)) _ f e
      (λ failed. of_fields bytes 0 [] f (word_fails acl_flags_of 0 (start bytes) f _ failed))
      (λ flags fe fr.
      let ft = word_takes acl_flags_of (start bytes) flags fits fe in
      either_fails (word_at counts flags.1) _ f fr
      (λ failed. of_fields bytes ft.number [] f (after_word acl_flags_of ft.number flags.0 _ (start bytes) flags.1 f
      ft.accepted ft.takes (word_fails counts 0 flags.1 f _ failed)))
      (λ count ce cr.
      let ct = word_takes counts flags.1 count ft.takes.bytes ce in
      let is = count_is ct.number count.0 (listed_ok (count_of ct.number) count.0 ct.accepted) in
      either_fails (loop count.0 none count.1) _ f cr
      (λ failed.
      let s = aces_fail count.0 none count.1 f ct.takes.bytes failed in
      let aces : FailsIn (fields_from fields mask 0 s.list) count.1.at count.1.rest f =
      subst (λ (k : ℕ). FailsIn (fields_from fields mask k s.list) count.1.at count.1.rest f) light s.fails in
      let counted : FailsIn (number_field counts (length s.list) ∷ fields_from fields mask 0 s.list) flags.1.at
      flags.1.rest f =
      subst (λ (k : ℕ). FailsIn (number_field counts k ∷ fields_from fields mask 0 s.list) flags.1.at flags.1.rest f)
      (is.0 ∙ sym s.long) (after_word counts ct.number count.0 (fields_from fields mask 0 s.list) flags.1 count.1 f
      ct.accepted ct.takes aces) in
      of_fields bytes ft.number s.list f
      (after_word acl_flags_of ft.number flags.0 _ (start bytes) flags.1 f ft.accepted ft.takes counted))
      (λ l le lr.
      let t = front flags count l fe ce le in
      let last = end_fails flags.0 l f lr in
      subst (λ (g : ReadFault). IsAclFault (acl_fields fields mask) Spelled bytes g)
      (ap (λ (k : ℕ). read_fault_at k (reason.List TrailingBytes)) (sym t.here) ∙ last.1)
      (after_value t.text l.1.rest t.is t.parts last.0))))

  -- the reading of bytes that have a fault returns it
  pub whole_stops : (Spelled : List ℕ → Type 0) (none : L) (bytes : List ℕ) (f : ReadFault) → heavy none ≡ 0
      → ((text rest : List ℕ) → Spelled text → 0 < length rest
      → whole_from none (text ++ rest) ≡ Err (read_fault_at (length text) (reason.List TrailingBytes)))
      → IsAclFault (acl_fields fields mask) Spelled bytes f → whole_from none bytes ≡ Err f
  whole_stops Spelled none bytes _ light again (of_field flags list f first) =
      sym (ok_last (whole_from none bytes))
      ∙ word_step acl_flags_of _ (λ x. Ok x) flags
      (number_field counts (length list) ∷ fields_from fields mask 0 list) 0 bytes f.offset f.reason
      (λ m e. flags_fit flags m e)
      (subst (λ (xs : List (Field ReadReason)). IsFirstWrongField cut xs bytes f.offset f.reason)
      (sym (all_fields fields mask flags list)) first) (λ set fe bytes offset first.
      word_step counts _ (λ x. Ok x) (length list) (fields_from fields mask 0 list) 4 bytes offset f.reason
      (λ m e. count_fits (length list) m e) first (λ count ce rest more later.
      let is = count_is (length list) count (listed_ok (count_of (length list)) count ce) in
      let stops = aces_stop list none 8 rest more f.reason
      (subst (λ (k : ℕ). IsFirstWrongField cut (fields_from fields mask k list) rest more f.reason) (sym light)
      later) in
      ends (λ x. Ok x) (ends (nothing_after set)
      (subst (λ (k : ℕ). loop k none (place 8 rest) ≡ Err (read_fault_at (8 + more) f.reason)) is.0 stops))))
      ∙ ap (λ (k : ℕ). Err (read_fault_at k f.reason)) (omega arith)
    where
      ok_last : (result : Result (ℕ × L) ReadFault) → (result >>= λ x. Ok x) ≡ result
      ok_last (Ok x) = refl
      ok_last (Err g) = refl

      count_fits : (n m : ℕ) → counts n ≡ Ok m → n < 2 ^ 32
      count_fits n m e = let is = count_is n m (listed_ok (count_of n) m e) in omega (arith, is.0, is.1)
  whole_stops Spelled none bytes _ light again (after_value text rest is parts some) =
      ap (whole_from none) parts ∙ again text rest is some
