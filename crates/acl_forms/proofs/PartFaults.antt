-- Bytes are refused as flags and ACEs of any type if and only if they have the fault, and with that fault.
use Rattle.std.proofs.Common.{◌≡◌, ◌∙◌, ◌+◌, ◌<◌, ◌^◌, ◌++◌, ℕ, List, [], ◌∷◌, Result, Ok, Err, length, replicate, take, refl, ap, sym, subst, arith}
use Rattle.std.specs.Prelude.{◌⊎◌, IfErr, count_ones}
use Rattle.std.proofs.lemmas.List.{length-replicate}
use Rattle.std.proofs.lemmas.List.Sums.{sum_by_push}
use Rattle.acl_perm.specs.Profile.{full}
use Rattle.acl_perm.specs.internal.Steps.{◌>>=◌}
use Rattle.acl_nfs4.proofs.Exports.{Takes, bind_then, len_bounds, ok_is, place, type_is}
use Rattle.acl_nfs4.specs.AccessPart.{AnyAce}
use Rattle.acl_nfs4.specs.Fields.{mask_of, padding_of, who_len_of}
use Rattle.acl_nfs4.specs.Layout.{Field, IsFirstWrongField, bytes_field, number_field}
use Rattle.acl_nfs4.specs.PartFault.{type_of}
use Rattle.acl_nfs4.specs.Spelling.{pad_len}
use Rattle.acl_nfs4.specs.internal.Progress.{IsBytes}
use Rattle.acl_nfs4.specs.internal.Reading.{Place}
use Rattle.acl_forms.specs.Acl41Ids.{fields_of_words}
use Rattle.acl_forms.specs.AclFields.{acl_fields}
use Rattle.acl_forms.specs.Part.{PlacedAce, RefusesPart, any_weight}
use Rattle.acl_forms.specs.PartWords.{IsFaultOfWhole, SpellsWhole, fields_by_name, who_by_name, who_by_number}
use Rattle.acl_forms.specs.ReadFaults.{no_memory_left, read_fault_at}
use Rattle.acl_forms.specs.Words.{listed, word_at}
use Rattle.acl_forms.specs.declared.fault.ReadFault.{ReadFault}
use Rattle.acl_forms.specs.declared.fault.ReadReason.{ReadReason}
use Rattle.acl_forms.specs.declared.part.ReadablePart.{ReadablePart}
use Rattle.acl_forms.specs.internal.AnyAces.{AceReader, IsPartReadAs, bytes_at}
unfoldable use Rattle.acl_forms.specs.internal.AnyAces.{ace_by_name, ace_by_number, aces_from, whole_in}
use Rattle.acl_forms.proofs.AclFaults.{Loops, Passes, ReadsFields, left_over, whole_fails, whole_stops}
use Rattle.acl_forms.proofs.FieldFaults.{FailsIn, after_bytes, after_word, bytes_fail, bytes_step, cut, either_fails, no_fault, word_fails, word_step}
use Rattle.acl_forms.proofs.IdAces.{listed_ok, mask_is}
use Rattle.acl_forms.proofs.IdFaults.{flags_fit, is_flags, is_mask, mask_fits, words_reads}
use Rattle.acl_forms.proofs.PartAnswers.{part_fault, part_refused}
use Rattle.acl_forms.proofs.PartLists.{IsReader, bytes_take, whole_front, whole_read_before}
use Rattle.acl_forms.proofs.PartWords.{padding_again, padding_is, who_len_is}
use Rattle.acl_forms.proofs.WordLemmas.{word_takes}

-- the number of mask bits of an ACE
abbrev bits_of : AnyAce → ℕ
bits_of a = count_ones a.mask

-- an ACE of these values
abbrev ace_of : ℕ → ℕ → ℕ → List ℕ → AnyAce
ace_of t f m w = record { type_number = t; flags = f; mask = m; who = w }

-- ---- an ACE with a name

-- what each field means
abbrev is_type : ℕ → Result ℕ ReadReason
is_type n = listed (type_of n)

-- the length of the who
abbrev is_len : ℕ → Result ℕ ReadReason
is_len n = listed (who_len_of n)

-- the padding
abbrev is_pad : List ℕ → Result (Unit {0}) ReadReason
is_pad b = listed (padding_of b)

-- the padding of a who
abbrev pad_of : List ℕ → List ℕ
pad_of who = replicate (pad_len (length who)) 0

-- a fault of reading an ACE is that of a field of an ACE
named_fail : (weight : ℕ) (p : Place) (fault : ReadFault) → IsBytes p.rest → ace_by_name weight p ≡ Err fault
    → (a : AnyAce) × ((xs : List (Field ReadReason)) → FailsIn (fields_by_name weight a ++ xs) p.at p.rest fault)
unfolding ace_by_name
named_fail weight p fault fits e =
    either_fails (word_at is_type p) _ fault e
    (λ failed. (ace_of 0 0 0 [], λ xs. word_fails is_type 0 p fault _ failed)) (λ t te tr.
    let tt = word_takes is_type p t fits te in
    let after_type : (xs : List (Field ReadReason)) → FailsIn xs t.1.at t.1.rest fault
    → FailsIn (number_field is_type tt.number ∷ xs) p.at p.rest fault =
    λ xs fails. after_word is_type tt.number t.0 xs p t.1 fault tt.accepted tt.takes fails in
    either_fails (word_at is_flags t.1) _ fault tr
    (λ failed. (ace_of tt.number 0 0 [], λ xs. after_type _ (word_fails is_flags 0 t.1 fault _ failed))) (λ f fe fr.
    let ft = word_takes is_flags t.1 f tt.takes.bytes fe in
    let after_flags : (xs : List (Field ReadReason)) → FailsIn xs f.1.at f.1.rest fault
    → FailsIn (number_field is_type tt.number ∷ number_field is_flags ft.number ∷ xs) p.at p.rest fault =
    λ xs fails. after_type _ (after_word is_flags ft.number f.0 xs t.1 f.1 fault ft.accepted ft.takes fails) in
    either_fails (word_at (is_mask weight) f.1) _ fault fr
    (λ failed.
    (ace_of tt.number ft.number 0 [], λ xs. after_flags _ (word_fails (is_mask weight) 0 f.1 fault _ failed)))
    (λ m me mr.
    let mt = word_takes (is_mask weight) f.1 m ft.takes.bytes me in
    let after_mask : (xs : List (Field ReadReason)) → FailsIn xs m.1.at m.1.rest fault
    → FailsIn (number_field is_type tt.number ∷ number_field is_flags ft.number
    ∷ number_field (is_mask weight) mt.number ∷ xs) p.at p.rest fault =
    λ xs fails. after_flags _ (after_word (is_mask weight) mt.number m.0 xs f.1 m.1 fault mt.accepted mt.takes fails) in
    either_fails (word_at is_len m.1) _ fault mr
    (λ failed. (ace_of tt.number ft.number mt.number [], λ xs. after_mask _ (word_fails is_len 0 m.1 fault _ failed)))
    (λ l le lr.
    let lt = word_takes is_len m.1 l mt.takes.bytes le in
    let len = who_len_is lt.number l.0 (listed_ok (who_len_of lt.number) l.0 lt.accepted) in
    let after_len : (who : List ℕ) (xs : List (Field ReadReason)) → length who ≡ l.0 → FailsIn xs l.1.at l.1.rest fault
    → FailsIn (number_field is_type tt.number ∷ number_field is_flags ft.number
    ∷ number_field (is_mask weight) mt.number ∷ number_field is_len (length who) ∷ xs) p.at p.rest fault =
    λ who xs long fails. after_mask _ (subst (λ (n : ℕ). FailsIn (number_field is_len n ∷ xs) m.1.at m.1.rest fault)
    (len.0 ∙ sym long) (after_word is_len lt.number l.0 xs m.1 l.1 fault lt.accepted lt.takes fails)) in
    let number = type_is tt.number t.0 (listed_ok (type_of tt.number) t.0 tt.accepted) in
    either_fails (bytes_at l.0 (who_by_name t.0) l.1) _ fault lr
    (λ failed.
    let who : List ℕ = replicate l.0 0 in
    let long : length who ≡ l.0 = length-replicate _ _ in (
      ace_of tt.number ft.number mt.number who,
      λ xs. after_len who _ long (bytes_fail l.0 (who_by_name tt.number) who l.1 fault _ long
          (subst (λ (k : ℕ). bytes_at l.0 (who_by_name k) l.1 ≡ Err fault) (sym number.0) failed)),
    )) (λ w we wr.
    let wt = bytes_take l.0 (who_by_name t.0) l.1 w lt.takes.bytes we in
    let who : List ℕ = take l.0 l.1.rest in
    let known : who_by_name tt.number who ≡ Ok w.0 = ap (λ (k : ℕ). who_by_name k who) number.0 ∙ wt.accepted in
    either_fails (bytes_at (pad_len l.0) is_pad w.1) _ fault wr
    (λ failed.
    let padded : length (pad_of who) ≡ pad_len l.0 = length-replicate _ _ ∙ ap pad_len wt.long in (
      ace_of tt.number ft.number mt.number who,
      λ xs. after_len who _ wt.long (after_bytes (who_by_name tt.number) who w.0 _ l.1 w.1 fault known wt.takes
          (bytes_fail (pad_len l.0) is_pad (pad_of who) w.1 fault xs padded failed)),
    )) (λ z ze zr. absurd (no_fault _ fault zr)))))))

-- an ACE that was read has fields, and reading goes on after them
named_pass : (weight : ℕ) (p : Place) (x : AnyAce × Place) → IsBytes p.rest → ace_by_name weight p ≡ Ok x
    → Passes fields_by_name (λ a. a.mask) bits_of weight p x
unfolding ace_by_name
named_pass weight p x fits e =
    bind_then (word_at is_type p) _ x e (λ t te tr.
    bind_then (word_at is_flags t.1) _ x tr (λ f fe fr.
    bind_then (word_at (is_mask weight) f.1) _ x fr (λ m me mr.
    bind_then (word_at is_len m.1) _ x mr (λ l le lr.
    bind_then (bytes_at l.0 (who_by_name t.0) l.1) _ x lr (λ w we wr.
    bind_then (bytes_at (pad_len l.0) is_pad w.1) _ x wr (λ z ze zr.
    let nt = word_takes is_type p t fits te in
    let ft = word_takes is_flags t.1 f nt.takes.bytes fe in
    let mt = word_takes (is_mask weight) f.1 m ft.takes.bytes me in
    let lt = word_takes is_len m.1 l mt.takes.bytes le in
    let wt = bytes_take l.0 (who_by_name t.0) l.1 w lt.takes.bytes we in
    let zt = bytes_take (pad_len l.0) is_pad w.1 z wt.takes.bytes ze in
    let number = type_is nt.number t.0 (listed_ok (type_of nt.number) t.0 nt.accepted) in
    let mask = mask_is weight mt.number m.0 (listed_ok (mask_of full weight mt.number) m.0 mt.accepted) in
    let len = who_len_is lt.number l.0 (listed_ok (who_len_of lt.number) l.0 lt.accepted) in
    let who : List ℕ = take l.0 l.1.rest in
    let known : who_by_name nt.number who ≡ Ok w.0 = ap (λ (k : ℕ). who_by_name k who) number.0 ∙ wt.accepted in
    let zeros : take (pad_len l.0) w.1.rest ≡ pad_of who =
    padding_is _ z.0 zt.accepted ∙ ap (λ (k : ℕ). replicate k 0) (zt.long ∙ ap pad_len (sym wt.long)) in
    let padding : Takes w.1 (pad_of who) z.1 = subst (λ (b : List ℕ). Takes w.1 b z.1) zeros zt.takes in
    let same : lt.number ≡ length who = len.0 ∙ sym wt.long in
    subst (λ (y : AnyAce × Place). Passes fields_by_name (λ a. a.mask) bits_of weight p y) (ok_is _ x zr) (record {
      ace = ace_of nt.number ft.number mt.number who;
      light = ap count_ones (sym mask.0);
      fits = zt.takes.bytes;
      before = λ xs fault fails.
          after_word is_type nt.number t.0 _ p t.1 fault nt.accepted nt.takes
          (after_word is_flags ft.number f.0 _ t.1 f.1 fault ft.accepted ft.takes
          (after_word (is_mask weight) mt.number m.0 _ f.1 m.1 fault mt.accepted mt.takes
          (subst (λ (n : ℕ). FailsIn (number_field is_len n ∷ bytes_field (who_by_name nt.number) who
          ∷ bytes_field is_pad (pad_of who) ∷ xs) m.1.at m.1.rest fault) same
          (after_word is_len lt.number l.0 _ m.1 l.1 fault lt.accepted lt.takes
          (after_bytes (who_by_name nt.number) who w.0 _ l.1 w.1 fault known wt.takes
          (after_bytes is_pad (pad_of who) tt xs w.1 z.1 fault (padding_again (pad_len (length who))) padding
          fails))))));
    })))))))

-- reading the who and the padding of an ACE, and then more, fails at the first wrong field
who_stop : {C : Type 0} (at : ℕ) (a : AnyAce) (f m t l : ℕ) (xs : List (Field ReadReason))
    (last : AnyAce × Place → Result C ReadFault) (bytes : List ℕ) (offset : ℕ) (r : ReadReason) → t ≡ a.type_number
    → l ≡ length a.who → m ≡ a.mask
    → ((x : AnyAce) (end : ℕ) (rest : List ℕ) (more : ℕ) → bits_of x ≡ count_ones a.mask
    → IsFirstWrongField cut xs rest more r → last (x, place end rest) ≡ Err (read_fault_at (end + more) r))
    → IsFirstWrongField cut (bytes_field (who_by_name a.type_number) a.who ∷ bytes_field is_pad (pad_of a.who) ∷ xs)
    bytes offset r
    → ((bytes_at l (who_by_name t) (place at bytes) >>= λ (w : List ℕ × Place). (bytes_at (pad_len l) is_pad w.1
    >>= λ (z : Unit {0} × Place). Ok (ace_of t f m w.0, z.1))) >>= last) ≡ Err (read_fault_at (at + offset) r)
who_stop at a f m t l xs last bytes offset r te le me go first =
    rw (te, le)
    (bytes_step (length a.who) (who_by_name a.type_number) _ last a.who _ at bytes offset r refl first
    (λ w we rest more later.
    bytes_step (pad_len (length a.who)) is_pad _ last (pad_of a.who) xs (at + length a.who) rest more r
    (length-replicate _ _) later (λ z ze rest more later.
    go (ace_of a.type_number f m w) (at + length a.who + pad_len (length a.who)) rest more (ap count_ones me) later)))

-- reading an ACE, and then more, fails at the first wrong field, if it does so after the ACE
named_stop : {C : Type 0} (weight at : ℕ) (a : AnyAce) (xs : List (Field ReadReason))
    (last : AnyAce × Place → Result C ReadFault) (bytes : List ℕ) (offset : ℕ) (r : ReadReason)
    → ((x : AnyAce) (end : ℕ) (rest : List ℕ) (more : ℕ) → bits_of x ≡ count_ones a.mask
    → IsFirstWrongField cut xs rest more r → last (x, place end rest) ≡ Err (read_fault_at (end + more) r))
    → IsFirstWrongField cut (fields_by_name weight a ++ xs) bytes offset r
    → (ace_by_name weight (place at bytes) >>= last) ≡ Err (read_fault_at (at + offset) r)
unfolding ace_by_name
named_stop weight at a xs last bytes offset r go first =
    word_step is_type _ last a.type_number _ at bytes offset r (λ t e. type_fits a.type_number t e) first
    (λ t te bytes offset first.
    word_step is_flags _ last a.flags _ (at + 4) bytes offset r (λ f e. flags_fit a.flags f e) first
    (λ f fe bytes offset first.
    word_step (is_mask weight) _ last a.mask _ (at + 4 + 4) bytes offset r (λ m e. mask_fits weight a.mask m e) first
    (λ m me bytes offset first.
    word_step is_len _ last (length a.who) _ (at + 4 + 4 + 4) bytes offset r (λ l e. len_fits (length a.who) l e) first
    (λ l le bytes offset first.
    let number = type_is a.type_number t (listed_ok (type_of a.type_number) t te) in
    let mask = mask_is weight a.mask m (listed_ok (mask_of full weight a.mask) m me) in
    let len = who_len_is (length a.who) l (listed_ok (who_len_of (length a.who)) l le) in
    who_stop (at + 4 + 4 + 4 + 4) a f m t l xs last bytes offset r (sym number.0) (sym len.0) (sym mask.0) go first))))
  where
    type_fits : (n m : ℕ) → is_type n ≡ Ok m → n < 2 ^ 32
    type_fits n m e = let is = type_is n m (listed_ok (type_of n) m e) in omega (arith, is.0, is.1)

    len_fits : (n m : ℕ) → is_len n ≡ Ok m → n < 2 ^ 32
    len_fits n m e =
        let is = who_len_is n m (listed_ok (who_len_of n) m e) in
        let b = len_bounds m is.1 in
        omega (arith, is.0, b.1)

-- ---- a list

-- one more ACE adds its bits
heavier : (list : List PlacedAce) (at : ℕ) (a : AnyAce)
    → any_weight (list ++ record { ace = a; offset = at } ∷ []) ≡ any_weight list + bits_of a
heavier list at a =
    sum_by_push (λ (q : PlacedAce). count_ones q.ace.mask) list (record { ace = a; offset = at })

-- a list with one more ACE
abbrev with_ace : List PlacedAce → ℕ → AnyAce → List PlacedAce
with_ace list at a = list ++ record { ace = a; offset = at } ∷ []

-- the list is read ACE after ACE, by any reader of an ACE
any_loop : (read : AceReader) → Loops bits_of read (aces_from read) any_weight with_ace
unfolding aces_from
any_loop read = record { done = λ l p. refl; more = λ n l p. refl; heavier = heavier }

-- flags and ACEs are spelled
abbrev SpellsAny : (AnyAce → List ℕ → Type 0) → List ℕ → Type 0
SpellsAny Spells text = (set : ℕ) × (list : List PlacedAce) × SpellsWhole Spells set list text

-- a reader of ACEs of any type, which reads these fields
module _ {A : Type 0} {Spells : AnyAce → List ℕ → Type 0} {read : AceReader} {fields : ℕ → A → List (Field ReadReason)}
    {mask : A → ℕ} (reader : IsReader Spells read)
    (reads : ReadsFields fields mask bits_of read (List PlacedAce × Place)) where
  -- bytes whose reading fails have that fault
  any_fail : (bytes : List ℕ) (f : ReadFault) → IsBytes bytes → whole_in read bytes ≡ Err f
      → IsFaultOfWhole (acl_fields fields mask) Spells bytes f
  unfolding whole_in
  any_fail bytes f fits e = whole_fails reads (any_loop read) (SpellsAny Spells) [] bytes f refl fits
      (λ flags count l fe ce le.
      let t = whole_front reader bytes flags count l fits fe ce le in
      record { text = t.text; is = (flags.0, l.0, t.is); parts = t.parts; here = t.here })
      e

  -- the reading of bytes that have a fault returns it
  any_stop : (bytes : List ℕ) (f : ReadFault) → IsFaultOfWhole (acl_fields fields mask) Spells bytes f
      → whole_in read bytes ≡ Err f
  unfolding whole_in
  any_stop bytes f has = whole_stops reads (any_loop read) (SpellsAny Spells) [] bytes f refl
      (λ text rest (set, list, is) some.
      whole_read_before reader text rest set list is ∙ left_over set list (length text) rest some)
      has

  -- a fault that is returned is that of the bytes, unless memory ran out
  pub any_fault : (bytes : List ℕ) → IsBytes bytes → (result : Result ReadablePart ReadFault)
      → IsPartReadAs result (whole_in read bytes)
      → IfErr result (λ fault. (fault ≡ no_memory_left) ⊎ IsFaultOfWhole (acl_fields fields mask) Spells bytes fault)
  any_fault bytes fits = part_fault (λ fault. IsFaultOfWhole (acl_fields fields mask) Spells bytes fault)
      (whole_in read bytes) (λ f said. any_fail bytes f fits said)

  -- bytes with a fault are refused with that fault, unless memory runs out
  pub any_refused : (bytes : List ℕ) (result : Result ReadablePart ReadFault) → IsPartReadAs result (whole_in read bytes)
      → (wrong : ReadFault) → IsFaultOfWhole (acl_fields fields mask) Spells bytes wrong → RefusesPart result wrong
  any_refused bytes result h wrong has = part_refused (whole_in read bytes) result h wrong (any_stop bytes wrong has)

-- ---- the fields of an ACE of each form

-- in nfsacl41
pub name_reads : ReadsFields fields_by_name (λ a. a.mask) bits_of ace_by_name (List PlacedAce × Place)
name_reads = record { fails = named_fail; passes = named_pass; stops = named_stop }

-- in nfsacl41i
pub number_reads : ReadsFields (fields_of_words type_of who_by_number) (λ a. a.mask) bits_of ace_by_number
    (List PlacedAce × Place)
unfolding ace_by_number
number_reads = words_reads type_of who_by_number who_by_number ace_of bits_of
    (λ t k e. ap who_by_number (sym ((type_is t k e).0))) (λ t k e. let is = type_is t k e in omega (arith, is.0, is.1))
    (λ k f m w. refl)
