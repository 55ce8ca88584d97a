-- Bytes are refused as flags and a list with ids if and only if they have the fault, and with that fault.
use Rattle.std.proofs.Common.{◌≡◌, ◌∙◌, ◌+◌, ◌<◌, ◌^◌, ◌++◌, ℕ, List, [], ◌∷◌, Result, Ok, Err, length, refl, ap, sym, subst, arith, inl, inr}
use Rattle.std.specs.Prelude.{◌⊎◌, IfErr, count_ones}
use Rattle.acl_perm.specs.Bits.{all_flags, all_rights}
use Rattle.acl_perm.specs.Profile.{full}
use Rattle.acl_perm.specs.declared.kind.Kind.{Kind}
use Rattle.acl_perm.specs.internal.Steps.{◌>>=◌}
use Rattle.acl_nfs4.proofs.Exports.{bind_then, kind_is, kind_lt, ok_is, place, weight-push, within_le}
use Rattle.acl_nfs4.specs.Ace.{Ace}
use Rattle.acl_nfs4.specs.Fields.{flags_of, kind_of, mask_of}
use Rattle.acl_nfs4.specs.Layout.{Field, IsFirstWrongField, number_field}
use Rattle.acl_nfs4.specs.Spelling.{weight}
use Rattle.acl_nfs4.specs.declared.xdr.fault.Reason.{Reason}
use Rattle.acl_nfs4.specs.internal.Progress.{IsBytes}
use Rattle.acl_nfs4.specs.internal.Reading.{Place}
use Rattle.acl_forms.specs.Acl41Ids.{AceWords, IsAcl41Ids, IsAcl41IdsFault, fields_of_words, id_who_of, special_of}
use Rattle.acl_forms.specs.ReadFaults.{no_memory_left, read_fault_at}
use Rattle.acl_forms.specs.Words.{RefusesForm, listed, word_at}
use Rattle.acl_forms.specs.declared.acl_flags.AclFlags.{AclFlags}
use Rattle.acl_forms.specs.declared.fault.ReadFault.{ReadFault}
use Rattle.acl_forms.specs.declared.fault.ReadReason.{ReadReason}
use Rattle.acl_forms.specs.internal.IdAces.{ReadAs, flags_and_list}
unfoldable use Rattle.acl_forms.specs.internal.IdAces.{acl41_ids_in, id_ace_at, id_aces_from}
use Rattle.acl_forms.proofs.AclFaults.{Loops, Passes, ReadsFields, left_over, whole_fails, whole_stops}
use Rattle.acl_forms.proofs.FieldFaults.{FailsIn, after_word, cut, either_fails, no_fault, word_fails, word_step}
use Rattle.acl_forms.proofs.IdAces.{flags_are, listed_ok, mask_is, special_is}
use Rattle.acl_forms.proofs.IdLemmas.{ids_front, ids_read_before}
use Rattle.acl_forms.proofs.WordLemmas.{word_takes}

-- ---- the five words of an ACE

-- the words of an ACE
abbrev words_of : ℕ → ℕ → ℕ → ℕ → AceWords
words_of t f s m =
    record { type_number = t; flags = f; special = s; mask = m; number = 0; fits = omega arith }

-- what a flags word means
abbrev pub is_flags : ℕ → Result ℕ ReadReason
is_flags n = listed (flags_of full n)

-- what a mask word means after ACEs of this weight
abbrev pub is_mask : ℕ → ℕ → Result ℕ ReadReason
is_mask weight n = listed (mask_of full weight n)

-- flags that are accepted are a word
pub flags_fit : (n m : ℕ) → is_flags n ≡ Ok m → n < 2 ^ 32
flags_fit n m e =
    let is = flags_are n m (listed_ok (flags_of full n) m e) in
    let low = within_le all_flags m is.1 in
    omega (arith, is.0, low)

-- a mask that is accepted is a word
pub mask_fits : (weight n m : ℕ) → is_mask weight n ≡ Ok m → n < 2 ^ 32
mask_fits weight n m e =
    let is = mask_is weight n m (listed_ok (mask_of full weight n) m e) in
    let low = within_le all_rights m is.1 in
    omega (arith, is.0, low)

-- a reader of the five words of an ACE, by what its type and its who mean
module _ {K X : Type 0} (type : ℕ → Result K Reason) (who : K → ℕ → ℕ → Result (List ℕ) ReadReason)
    (said : ℕ → ℕ → ℕ → Result (List ℕ) ReadReason) (make : K → ℕ → ℕ → List ℕ → X) (bits : X → ℕ)
    (agree : (t : ℕ) (k : K) → type t ≡ Ok k → who k ≡ said t) (small : (t : ℕ) (k : K) → type t ≡ Ok k → t < 2 ^ 32)
    (weighs : (k : K) (f m : ℕ) (w : List ℕ) → bits (make k f m w) ≡ count_ones m) where
  -- what the word of the type means
  abbrev is_type : ℕ → Result K ReadReason
  is_type n = listed (type n)

  -- the ACE at a place, after ACEs of this weight, and the place after it
  abbrev pub words_read : ℕ → Place → Result (X × Place) ReadFault
  words_read weight at =
      word_at is_type at >>= λ kind. (word_at is_flags kind.1 >>= λ flags. (word_at special_of flags.1 >>= λ special.
      (word_at (is_mask weight) special.1 >>= λ mask. (word_at (who kind.0 special.0) mask.1 >>= λ name.
      Ok (make kind.0 flags.0 mask.0 name.0, name.1)))))

  -- the fields of an ACE
  abbrev words_fields : ℕ → AceWords → List (Field ReadReason)
  words_fields weight a = fields_of_words type said weight a

  -- who a word names, by the type and the special word as they were read
  read_who : (t : ℕ) (k : K) (n s : ℕ) → is_type t ≡ Ok k → special_of n ≡ Ok s → said t n ≡ who k s
  read_who t k n s te se =
      ap (said t) ((special_is n s se).0)
      ∙ ap (λ (g : ℕ → ℕ → Result (List ℕ) ReadReason). g s) (sym (agree t k (listed_ok (type t) k te)))

  -- a fault of reading an ACE is that of a field of an ACE
  words_fail : (weight : ℕ) (p : Place) (fault : ReadFault) → IsBytes p.rest → words_read weight p ≡ Err fault
      → (a : AceWords) × ((xs : List (Field ReadReason)) → FailsIn (words_fields weight a ++ xs) p.at p.rest fault)
  words_fail weight p fault fits e =
      either_fails (word_at is_type p) _ fault e
      (λ failed. (words_of 0 0 0 0, λ xs. word_fails is_type 0 p fault _ failed)) (λ t te tr.
      let tt = word_takes is_type p t fits te in
      let after_type : (xs : List (Field ReadReason)) → FailsIn xs t.1.at t.1.rest fault
      → FailsIn (number_field is_type tt.number ∷ xs) p.at p.rest fault =
      λ xs fails. after_word is_type tt.number t.0 xs p t.1 fault tt.accepted tt.takes fails in
      either_fails (word_at is_flags t.1) _ fault tr
      (λ failed. (words_of tt.number 0 0 0, λ xs. after_type _ (word_fails is_flags 0 t.1 fault _ failed))) (λ f fe fr.
      let ft = word_takes is_flags t.1 f tt.takes.bytes fe in
      let after_flags : (xs : List (Field ReadReason)) → FailsIn xs f.1.at f.1.rest fault
      → FailsIn (number_field is_type tt.number ∷ number_field is_flags ft.number ∷ xs) p.at p.rest fault =
      λ xs fails. after_type _ (after_word is_flags ft.number f.0 xs t.1 f.1 fault ft.accepted ft.takes fails) in
      either_fails (word_at special_of f.1) _ fault fr
      (λ failed. (words_of tt.number ft.number 0 0, λ xs. after_flags _ (word_fails special_of 0 f.1 fault _ failed)))
      (λ s se sr.
      let st = word_takes special_of f.1 s ft.takes.bytes se in
      let after_special : (xs : List (Field ReadReason)) → FailsIn xs s.1.at s.1.rest fault
      → FailsIn (number_field is_type tt.number ∷ number_field is_flags ft.number ∷ number_field special_of st.number
      ∷ xs) p.at p.rest fault =
      λ xs fails. after_flags _ (after_word special_of st.number s.0 xs f.1 s.1 fault st.accepted st.takes fails) in
      either_fails (word_at (is_mask weight) s.1) _ fault sr
      (λ failed. (
        words_of tt.number ft.number st.number 0,
        λ xs. after_special _ (word_fails (is_mask weight) 0 s.1 fault _
            failed),
      ))
      (λ m me mr.
      let mt = word_takes (is_mask weight) s.1 m st.takes.bytes me in
      either_fails (word_at (who t.0 s.0) m.1) _ fault mr
      (λ failed. (
        words_of tt.number ft.number st.number mt.number,
        λ xs.
            after_special _ (after_word (is_mask weight) mt.number m.0 _ s.1 m.1 fault mt.accepted mt.takes
            (word_fails (said tt.number st.number) 0 m.1 fault xs
            (subst (λ (g : ℕ → Result (List ℕ) ReadReason). word_at g m.1 ≡ Err fault)
            (sym (read_who tt.number t.0 st.number s.0 tt.accepted st.accepted)) failed))),
      ))
      (λ w we wr. absurd (no_fault _ fault wr))))))

  -- an ACE that was read has fields, and reading goes on after them
  words_pass : (weight : ℕ) (p : Place) (x : X × Place) → IsBytes p.rest → words_read weight p ≡ Ok x
      → Passes (fields_of_words type said) (λ a. a.mask) bits weight p x
  words_pass weight p x fits e =
      bind_then (word_at is_type p) _ x e (λ t te tr.
      bind_then (word_at is_flags t.1) _ x tr (λ f fe fr.
      bind_then (word_at special_of f.1) _ x fr (λ s se sr.
      bind_then (word_at (is_mask weight) s.1) _ x sr (λ m me mr.
      bind_then (word_at (who t.0 s.0) m.1) _ x mr (λ w we wr.
      let tt = word_takes is_type p t fits te in
      let ft = word_takes is_flags t.1 f tt.takes.bytes fe in
      let st = word_takes special_of f.1 s ft.takes.bytes se in
      let mt = word_takes (is_mask weight) s.1 m st.takes.bytes me in
      let wt = word_takes (who t.0 s.0) m.1 w mt.takes.bytes we in
      let mask = mask_is weight mt.number m.0 (listed_ok (mask_of full weight mt.number) m.0 mt.accepted) in
      let known : said tt.number st.number wt.number ≡ Ok w.0 =
      ap (λ (g : ℕ → Result (List ℕ) ReadReason). g wt.number)
      (read_who tt.number t.0 st.number s.0 tt.accepted st.accepted) ∙ wt.accepted in
      let a : AceWords = record {
        type_number = tt.number;
        flags = ft.number;
        special = st.number;
        mask = mt.number;
        number = wt.number;
        fits = wt.fits;
      } in
      subst (λ (y : X × Place). Passes (fields_of_words type said) (λ b. b.mask) bits weight p y) (ok_is _ x wr)
      (record {
        ace = a;
        light = weighs t.0 f.0 m.0 w.0 ∙ ap count_ones (sym mask.0);
        fits = wt.takes.bytes;
        before = λ xs fault fails.
            after_word is_type tt.number t.0 _ p t.1 fault tt.accepted tt.takes
            (after_word is_flags ft.number f.0 _ t.1 f.1 fault ft.accepted ft.takes
            (after_word special_of st.number s.0 _ f.1 s.1 fault st.accepted st.takes
            (after_word (is_mask weight) mt.number m.0 _ s.1 m.1 fault mt.accepted mt.takes
            (after_word (said tt.number st.number) wt.number w.0 xs m.1 w.1 fault known wt.takes fails))));
      }))))))

  -- reading an ACE, and then more, fails at the first wrong field, if it does so after the ACE
  words_stop : {C : Type 0} (weight at : ℕ) (a : AceWords) (xs : List (Field ReadReason))
      (last : X × Place → Result C ReadFault) (bytes : List ℕ) (offset : ℕ) (r : ReadReason)
      → ((x : X) (end : ℕ) (rest : List ℕ) (more : ℕ) → bits x ≡ count_ones a.mask
      → IsFirstWrongField cut xs rest more r → last (x, place end rest) ≡ Err (read_fault_at (end + more) r))
      → IsFirstWrongField cut (fields_of_words type said weight a ++ xs) bytes offset r
      → (words_read weight (place at bytes) >>= last) ≡ Err (read_fault_at (at + offset) r)
  words_stop {C = C} weight at a xs last bytes offset r go first =
      word_step is_type _ last a.type_number _ at bytes offset r
      (λ k e. small a.type_number k (listed_ok (type a.type_number) k e)) first (λ k ke bytes offset first.
      word_step is_flags _ last a.flags _ (at + 4) bytes offset r (λ f e. flags_fit a.flags f e) first
      (λ f fe bytes offset first.
      word_step special_of _ last a.special _ (at + 4 + 4) bytes offset r (λ s e. special_fits a.special s e) first
      (λ s se bytes offset first.
      word_step (is_mask weight) _ last a.mask _ (at + 4 + 4 + 4) bytes offset r
      (λ m e. mask_fits weight a.mask m e) first
      (λ m me bytes offset first.
      let mask = mask_is weight a.mask m (listed_ok (mask_of full weight a.mask) m me) in
      subst (λ (g : ℕ → Result (List ℕ) ReadReason). ((word_at g (place (at + 4 + 4 + 4 + 4) bytes)
      >>= λ (w : List ℕ × Place). Ok (make k f m w.0, w.1)) >>= last)
      ≡ Err (read_fault_at (at + 4 + 4 + 4 + 4 + offset) r))
      (read_who a.type_number k a.special s ke se)
      (word_step (said a.type_number a.special) (λ w. Ok (make k f m w.0, w.1)) last a.number xs
      (at + 4 + 4 + 4 + 4) bytes offset r (λ w e. a.fits) first
      (λ w we rest more later. go (make k f m w) (at + 4 + 4 + 4 + 4 + 4) rest more
      (weighs k f m w ∙ ap count_ones (sym mask.0)) later))))))
    where
      special_fits : (n m : ℕ) → special_of n ≡ Ok m → n < 2 ^ 32
      special_fits n m e = let is = special_is n m e in omega (arith, is.0, is.1)

  -- a reader of the words of an ACE reads their fields
  pub words_reads : {C : Type 0} → ReadsFields (fields_of_words type said) (λ a. a.mask) bits words_read C
  words_reads = record { fails = words_fail; passes = words_pass; stops = words_stop }

-- ---- a list with ids

-- the number of mask bits of an ACE
abbrev bits_of : Ace → ℕ
bits_of a = count_ones a.mask

-- an ACE of these values
abbrev ace_of : Kind → ℕ → ℕ → List ℕ → Ace
ace_of k f m w = record { kind = k; flags = f; mask = m; who = w }

-- the number of a kind that was read is a word
small_kind : (t : ℕ) (k : Kind) → kind_of t ≡ Ok k → t < 2 ^ 32
small_kind t k e = let low = kind_lt k in omega (arith, kind_is t k e, low)

-- the reader of an ACE with an id
abbrev ids_reader : ℕ → Place → Result (Ace × Place) ReadFault
ids_reader = words_read kind_of (λ k. id_who_of) (λ t. id_who_of) ace_of bits_of (λ t k e. refl) small_kind
    (λ k f m w. refl)

-- flags and a list with ids are spelled
abbrev SpellsIds : List ℕ → Type 0
SpellsIds text = (flags : ℕ) × (list : List Ace) × IsAcl41Ids flags list text

-- it reads the fields of an ACE
ids_reads : ReadsFields (fields_of_words kind_of (λ t. id_who_of)) (λ a. a.mask) bits_of ids_reader (List Ace × Place)
ids_reads = words_reads kind_of (λ k. id_who_of) (λ t. id_who_of) ace_of bits_of (λ t k e. refl) small_kind
    (λ k f m w. refl)

-- the list is read ACE after ACE
ids_loop : Loops bits_of ids_reader id_aces_from weight (λ l at a. l ++ a ∷ [])
unfolding id_aces_from id_ace_at
ids_loop = record { done = λ l p. refl; more = λ n l p. refl; heavier = λ l at a. sym (weight-push l a) }

-- bytes whose reading fails have that fault
ids_fail : (bytes : List ℕ) (f : ReadFault) → IsBytes bytes → acl41_ids_in bytes ≡ Err f → IsAcl41IdsFault bytes f
unfolding acl41_ids_in
ids_fail bytes f fits e = whole_fails ids_reads ids_loop SpellsIds [] bytes f refl fits
    (λ flags count l fe ce le.
    let t = ids_front bytes flags count l fits fe ce le in
    record { text = t.text; is = (flags.0, l.0, t.is); parts = t.parts; here = t.here })
    e

-- the reading of bytes that have a fault returns it
ids_stop : (bytes : List ℕ) (f : ReadFault) → IsAcl41IdsFault bytes f → acl41_ids_in bytes ≡ Err f
unfolding acl41_ids_in
ids_stop bytes f has = whole_stops ids_reads ids_loop SpellsIds [] bytes f refl
    (λ text rest (flags, list, is) some.
    ids_read_before text rest flags list is ∙ left_over flags list (length text) rest some)
    has

-- the answer of a call that reads as the bytes say
module _ (bytes : List ℕ) where
  -- a fault that is returned is that of the bytes, unless memory ran out
  pub ids_fault : IsBytes bytes → (result : Result (AclFlags × List Ace) ReadFault)
      → ReadAs flags_and_list result (acl41_ids_in bytes)
      → IfErr result (λ fault. (fault ≡ no_memory_left) ⊎ IsAcl41IdsFault bytes fault)
  ids_fault fits (Ok x) h = tt
  ids_fault fits (Err f) h = elim h [
    | inl memory ↦ inl memory
    | inr said ↦ inr (ids_fail bytes f fits said)
  ]

  -- bytes with a fault are refused with that fault, unless memory runs out
  pub ids_refused : (result : Result (AclFlags × List Ace) ReadFault)
      → ReadAs flags_and_list result (acl41_ids_in bytes) → (wrong : ReadFault) → IsAcl41IdsFault bytes wrong
      → RefusesForm result wrong
  ids_refused (Ok x) h wrong has =
      let said = ids_stop bytes wrong has in
      cc
  ids_refused (Err e) h wrong has =
      let said = ids_stop bytes wrong has in
      elim h [ inl memory ↦ inr memory | inr read ↦ inl cc ]
