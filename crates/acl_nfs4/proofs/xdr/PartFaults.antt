-- Bytes are refused as a part if and only if they have the fault, and with that fault.
use Rattle.acl_nfs4.proofs.Common.{[], ap, append_assoc, arith, Bool, cases_lt, cond, count_of, count_ones, eq-eqb, eqb, eqb-true, Err, false, Fault, fault_at, field, flags_of, flat_map, IfErr, inl, inr, IsBytes, IsProfile, length, length-append, length-replicate, List, mask_of, None, number, Ok, pad_len, padding_of, Place, Profile, Reason, refl, replicate, Result, subst, suc, sym, take, TrailingBytes, true, Truncated, who_len_of, word, word_field, zero, ℕ, ◌++◌, ◌+◌, ◌<◌, ◌>>=◌, ◌^◌, ◌∙◌, ◌∷◌, ◌≡◌, ◌⊎◌}
use Rattle.std.proofs.Math.Seq.{take-append_seam}
use Rattle.std.proofs.lemmas.List.Sums.{sum_by_push}
use Rattle.std.specs.List.{enumerate_from}
use Rattle.acl_nfs4.specs.AccessPart.{any_piece, AnyAce, AnyXdr, Part}
use Rattle.acl_nfs4.specs.Layout.{bytes_field, Field, IsFirstWrongField, number_field, refusal}
use Rattle.acl_nfs4.specs.PartFault.{ace_fields, weight_of_any, any_who_of, FaultsOrMemory, fields_of_list, IsFaultOfPart, IsAnyListFault, type_of}
use Rattle.acl_nfs4.specs.PartFault.IsAnyListFault.{after_list, of_field}
use Rattle.acl_nfs4.specs.Stream.{no_memory}
use Rattle.acl_nfs4.specs.internal.PartReading.{at_end, PartReadAs, with_ace}
unfoldable use Rattle.acl_nfs4.specs.internal.PartReading.{any_ace_at, part_from, part_in}
use Rattle.acl_nfs4.specs.internal.Reading.{text_fault}
use Rattle.acl_nfs4.proofs.list.Within.{flags_lt, mask_lt}
use Rattle.acl_nfs4.proofs.xdr.AcesAt.{regrouped}
use Rattle.acl_nfs4.proofs.xdr.AnyLists.{any_takes, bounds, len_long, parts_again, parts_take, TakesAny, type_again, type_is, type_takes, who_again, who_takes}
use Rattle.acl_nfs4.proofs.xdr.Faults.{bind_fails}
use Rattle.acl_nfs4.proofs.xdr.Fields.{bind-ok, count_again, count_is, flags_again, flags_are, flags_take, len_takes, mask_again, mask_is, mask_takes, ok, padding_again, place, taken_is, Takes, Takes-then, who_len_again, who_len_is, word_again, word_takes}
use Rattle.acl_nfs4.proofs.xdr.Layouts.{accepted, fails_after, fails_after_number, fails_among_more, FailsIn, field_fails, none_wrong, not_refused, number_means, step_fails}
use Rattle.acl_nfs4.proofs.xdr.Resume.{bind-err}

-- no value is a fault
no_fault : {A : Type 0} (x : A) (f : Fault) → ok {A = A} {E = Fault} x ≡ Err f → ⊥
no_fault x f e = cc

-- ---- the fields of a list, ACE by ACE

-- the fields of ACEs after ACEs of this weight
abbrev fields_of_aces : Profile → ℕ → List AnyAce → List (Field Reason)
fields_of_aces p weight [] = []
fields_of_aces p weight (a ∷ list) = ace_fields p weight a ++ fields_of_aces p (weight + count_ones a.mask) list

-- the fields of ACEs after others
fields_after : (p : Profile) (before list : List AnyAce) (weight n : ℕ) → weight ≡ weight_of_any before
    → n ≡ length before → fields_of_aces p weight list
    ≡ flat_map (λ q. ace_fields p (weight_of_any (take q.0 (before ++ list))) q.1) (enumerate_from n list)
fields_after p before [] weight n light long = refl
fields_after p before (a ∷ list) weight n light long =
    let whole : (before ++ a ∷ []) ++ list ≡ before ++ a ∷ list = append_assoc before (a ∷ []) list in
    let here : take n (before ++ a ∷ list) ≡ before =
    ap (λ k. take k (before ++ a ∷ list)) long ∙ take-append_seam before (a ∷ list) in
    let next = fields_after p (before ++ a ∷ []) list (weight + count_ones a.mask) (n + 1)
    (ap (λ k. k + count_ones a.mask) light ∙ sym (sum_by_push (λ (b : AnyAce). count_ones b.mask) before a))
    (omega (arith, long, length-append before (a ∷ []))) in
    ap (λ k. ace_fields p k a ++ fields_of_aces p (weight + count_ones a.mask) list) (light ∙ sym (ap weight_of_any here))
    ∙ ap (λ (l : List (Field Reason)). ace_fields p (weight_of_any (take n (before ++ a ∷ list))) a ++ l)
    (next ∙ ap (λ (w : List AnyAce). flat_map (λ q. ace_fields p (weight_of_any (take q.0 w)) q.1)
    (enumerate_from (n + 1) list)) whole)

-- the fields of a list are the number of its ACEs and their fields
list_fields : (p : Profile) (list : List AnyAce)
    → number_field count_of (length list) ∷ fields_of_aces p 0 list ≡ fields_of_list p list
list_fields p list = ap (λ (l : List (Field Reason)). number_field count_of (length list) ∷ l)
    (fields_after p [] list 0 0 refl refl)

-- ---- a fault that reading returns is that of the first wrong field

-- an ACE of these values
abbrev ace_of : ℕ → ℕ → ℕ → List ℕ → AnyAce
ace_of t f m who = record { type_number = t; flags = f; mask = m; who = who }

-- a fault of reading an ACE is that of a field of an ACE
ace_fails : (profile : Profile) (weight : ℕ) (p : Place) (fault : Fault) → IsBytes p.rest
    → any_ace_at profile weight p ≡ Err fault → (a : AnyAce) × FailsIn (ace_fields profile weight a) p.at p.rest fault
unfolding any_ace_at
ace_fails profile weight p fault fits e =
    bind_fails (word_field type_of p) _ fault e
    (λ failed. (
      ace_of 0 0 0 [],
      field_fails 4 (λ b. type_of (number b)) p fault (number_field type_of 0) _ refl (λ b. refl) failed,
    )) (λ t te tr.
    let (type_taken, few) = type_takes p t fits te in
    let after_type : (xs : List (Field Reason)) → FailsIn xs t.1.at t.1.rest fault
    → FailsIn (number_field type_of t.0 ∷ xs) p.at p.rest fault =
    λ xs fails. fails_after_number type_of t.0 t.0 xs p t.1 fault (type_again t.0 few) type_taken fails in
    bind_fails (word_field (flags_of profile) t.1) _ fault tr
    (λ failed. (
      ace_of t.0 0 0 [],
      after_type _ (field_fails 4 (λ b. flags_of profile (number b)) t.1 fault (number_field (flags_of profile) 0) _
          refl (λ b. refl) failed),
    )) (λ f fe fr.
    let (flags_taken, flags_within) = flags_take profile t.1 f type_taken.bytes fe in
    let after_flags : (xs : List (Field Reason)) → FailsIn xs f.1.at f.1.rest fault
    → FailsIn (number_field type_of t.0 ∷ number_field (flags_of profile) f.0 ∷ xs) p.at p.rest fault =
    λ xs fails. after_type _ (fails_after_number (flags_of profile) f.0 f.0 xs t.1 f.1 fault
    (flags_again profile f.0 flags_within) flags_taken fails) in
    bind_fails (word_field (mask_of profile weight) f.1) _ fault fr
    (λ failed. (
      ace_of t.0 f.0 0 [],
      after_flags _ (field_fails 4 (λ b. mask_of profile weight (number b)) f.1 fault
          (number_field (mask_of profile weight) 0) _ refl (λ b. refl) failed),
    )) (λ m me mr.
    let (mask_taken, mask_within, light) = mask_takes profile weight f.1 m flags_taken.bytes me in
    let after_mask : (xs : List (Field Reason)) → FailsIn xs m.1.at m.1.rest fault
    → FailsIn (number_field type_of t.0 ∷ number_field (flags_of profile) f.0
    ∷ number_field (mask_of profile weight) m.0 ∷ xs) p.at p.rest fault =
    λ xs fails. after_flags _ (fails_after_number (mask_of profile weight) m.0 m.0 xs f.1 m.1 fault
    (mask_again profile weight m.0 mask_within light) mask_taken fails) in
    bind_fails (word_field who_len_of m.1) _ fault mr
    (λ failed. (
      ace_of t.0 f.0 m.0 [],
      after_mask _ (field_fails 4 (λ b. who_len_of (number b)) m.1 fault (number_field who_len_of 0) _ refl
          (λ b. refl) failed),
    )) (λ l le lr.
    let (len_taken, some, short) = len_takes m.1 l mask_taken.bytes le in
    let after_len : (who : List ℕ) (xs : List (Field Reason)) → length who ≡ l.0 → FailsIn xs l.1.at l.1.rest fault
    → FailsIn (number_field type_of t.0 ∷ number_field (flags_of profile) f.0
    ∷ number_field (mask_of profile weight) m.0 ∷ number_field who_len_of (length who) ∷ xs) p.at p.rest fault =
    λ who xs long fails. after_mask _ (subst (λ (n : ℕ). FailsIn (number_field who_len_of n ∷ xs) m.1.at m.1.rest fault)
    (sym long) (fails_after_number who_len_of l.0 l.0 xs m.1 l.1 fault (who_len_again l.0 some short) len_taken
    fails)) in
    bind_fails (field l.0 any_who_of l.1) _ fault lr
    (λ failed.
    let who : List ℕ = replicate l.0 0 in
    let long : length who ≡ l.0 = length-replicate _ _ in (
      ace_of t.0 f.0 m.0 who,
      after_len who _ long (field_fails l.0 any_who_of l.1 fault (bytes_field any_who_of who) _ long (λ b. refl)
          failed),
    )) (λ w we wr.
    let (who_taken, is_who, long) = who_takes l.0 l.1 w len_taken.bytes (len_long l.0 some short) we in
    bind_fails (field (pad_len l.0) padding_of w.1) _ fault wr
    (λ failed.
    let pad : List ℕ = replicate (pad_len (length w.0)) 0 in
    let padded : length pad ≡ pad_len l.0 = length-replicate _ _ ∙ ap pad_len long in (
      ace_of t.0 f.0 m.0 w.0,
      after_len w.0 _ long (fails_after (bytes_field any_who_of w.0) _ l.1.at w.1.at l.1.rest w.1.rest fault
          (not_refused (any_who_of w.0) w.0 (who_again w.0 is_who)) who_taken.parts who_taken.counted
          (field_fails (pad_len l.0) padding_of w.1 fault (bytes_field padding_of pad) [] padded (λ b. refl) failed)),
    )) (λ z ze zr. absurd (no_fault _ fault zr)))))))

-- an ACE that was read, before the fields of which one is wrong
after_ace : (profile : Profile) (weight : ℕ) (p q : Place) (a : AnyAce) (xs : List (Field Reason)) (f : Fault)
    → TakesAny profile weight p a q → FailsIn xs q.at q.rest f
    → FailsIn (ace_fields profile weight a ++ xs) p.at p.rest f
after_ace profile weight p q a xs f t fails =
    let n : ℕ = length a.who in
    let pad : List ℕ = replicate (pad_len n) 0 in
    let long = bounds a.who t.is.who in
    let r5 = pad ++ q.rest in
    let r4 = a.who ++ r5 in
    let r3 = word n ++ r4 in
    let r2 = word a.mask ++ r3 in
    let r1 = word a.flags ++ r2 in
    let is_type = number_field type_of a.type_number in
    let is_flags = number_field (flags_of profile) a.flags in
    let is_mask = number_field (mask_of profile weight) a.mask in
    let is_len = number_field who_len_of n in
    let is_who = bytes_field any_who_of a.who in
    let is_pad = bytes_field padding_of pad in
    let sum : q.at ≡ p.at + 4 + 4 + 4 + 4 + n + length pad =
    omega (arith, t.takes.counted, length-append a.who pad) in
    let parts = t.takes.parts ∙ regrouped (word a.type_number) (word a.flags) (word a.mask) (word n) a.who pad q.rest in
    let f5 = fails_after is_pad xs (p.at + 4 + 4 + 4 + 4 + n) q.at r5 q.rest f
    (not_refused (padding_of pad) tt (padding_again (pad_len n))) refl sum fails in
    let f4 = fails_after is_who (is_pad ∷ xs) (p.at + 4 + 4 + 4 + 4) (p.at + 4 + 4 + 4 + 4 + n) r4 r5 f
    (not_refused (any_who_of a.who) a.who (who_again a.who t.is.who)) refl refl f5 in
    let f3 = fails_after is_len (is_who ∷ is_pad ∷ xs) (p.at + 4 + 4 + 4) (p.at + 4 + 4 + 4 + 4) r3 r4 f
    (not_refused (who_len_of n) n (who_len_again n long.0 long.1)) refl refl f4 in
    let f2 = fails_after is_mask (is_len ∷ is_who ∷ is_pad ∷ xs) (p.at + 4 + 4) (p.at + 4 + 4 + 4) r2 r3 f
    (not_refused (mask_of profile weight a.mask) a.mask (mask_again profile weight a.mask t.is.mask t.light)) refl refl
    f3 in
    let f1 = fails_after is_flags (is_mask ∷ is_len ∷ is_who ∷ is_pad ∷ xs) (p.at + 4) (p.at + 4 + 4) r1 r2 f
    (not_refused (flags_of profile a.flags) a.flags (flags_again profile a.flags t.is.flags)) refl refl f2 in
    fails_after is_type (is_flags ∷ is_mask ∷ is_len ∷ is_who ∷ is_pad ∷ xs) p.at (p.at + 4) p.rest r1 f
    (not_refused (type_of a.type_number) a.type_number (type_again a.type_number t.is.type_number)) parts refl f1

-- the ACEs of which one has the fault
record FailsAces (profile : Profile) (n weight at : ℕ) (bytes : List ℕ) (f : Fault) : Type 0 where
  pub list : List AnyAce
  pub long : length list ≡ n
  pub fails : FailsIn (fields_of_aces profile weight list) at bytes f

-- a fault of reading ACEs is that of a field of ACEs
aces_fail : (profile : Profile) (n weight : ℕ) (part : Part) (p : Place) (f : Fault) → IsBytes p.rest
    → part_from profile n weight part p ≡ Err f → FailsAces profile n weight p.at p.rest f
unfolding part_from
aces_fail profile zero weight part p f fits e = absurd (no_fault _ f e)
aces_fail profile (suc n) weight part p f fits e =
    bind_fails (any_ace_at profile weight p) _ f e
    (λ failed.
    let (a, fails) = ace_fails profile weight p f fits failed in
    let others : List AnyAce = replicate n a in
    let long : length others ≡ n = length-replicate _ _ in
    record {
      list = a ∷ others;
      long = omega (arith, long);
      fails = fails_among_more (ace_fields profile weight a)
          (fields_of_aces profile (weight + count_ones a.mask) others) p.at p.rest f fails;
    }) (λ first fe rest.
    let t = any_takes profile weight p first fits fe in
    let s = aces_fail profile n (weight + count_ones first.0.mask) (with_ace part first.0) first.1 f t.takes.bytes
    rest in
    record {
      list = first.0 ∷ s.list;
      long = omega (arith, s.long);
      fails = after_ace profile weight p first.1 first.0
          (fields_of_aces profile (weight + count_ones first.0.mask) s.list) f t s.fails;
    })

-- the part of no ACE
abbrev no_ace : Part
no_ace = record { kept = []; left_out = 0 }

-- the fault of a field of a list is the fault of the bytes
of_list : (profile : Profile) (bytes : List ℕ) (f : Fault) (list : List AnyAce)
    → FailsIn (number_field count_of (length list) ∷ fields_of_aces profile 0 list) 0 bytes f
    → IsFaultOfPart profile bytes f
of_list profile bytes f list found =
    let fails = subst (λ (xs : List (Field Reason)). FailsIn xs 0 bytes f) (list_fields profile list) found in
    let same : fails.more ≡ f.offset = omega (arith, fails.here) in
    subst (λ (k : ℕ). IsAnyListFault profile bytes k f.reason) same (of_field list fails.more f.reason fails.wrong)

-- bytes after a list are refused
at_end_fails : (part : Part) (p : Place) (f : Fault) → at_end (part, p) ≡ Err f
    → (0 < length p.rest) × (record { offset = p.at; reason = TrailingBytes } ≡ f)
at_end_fails part p f e =
    elim (cases_lt 0 (length p.rest)) [
      | inl some ↦ (some, by (eqb (length p.rest) 0) refl some e)
      | inr none ↦
          absurd (no_fault part f (sym (ap (λ (b : Bool). cond b (Ok part) (Err (fault_at p TrailingBytes)))
          (eq-eqb (length p.rest) 0 (omega (arith, none)))) ∙ e))
    ]
  where
    by : (b : Bool) → eqb (length p.rest) 0 ≡ b → 0 < length p.rest
        → cond b (Ok part) (Err (fault_at p TrailingBytes)) ≡ Err f
        → record { offset = p.at; reason = TrailingBytes } ≡ f
    by true is some e = absurd (omega (arith, eqb-true _ _ is, some))
    by false is some e = cc

-- bytes whose reading fails have that fault
reading_fails : (profile : Profile) (bytes : List ℕ) (f : Fault) → IsBytes bytes → part_in profile bytes ≡ Err f
    → IsFaultOfPart profile bytes f
unfolding part_in
reading_fails profile bytes f fits e =
    bind_fails (word_field count_of (place 0 bytes)) _ f e
    (λ failed. of_list profile bytes f []
    (field_fails 4 (λ b. count_of (number b)) (place 0 bytes) f (number_field count_of 0) _ refl (λ b. refl) failed))
    (λ count ce rest.
    let (n, counted, taken, lt) = word_takes count_of (place 0 bytes) count fits ce in
    let (same, few) = count_is n count.0 counted in
    bind_fails (part_from profile count.0 0 no_ace count.1) _ f rest
    (λ failed.
    let s = aces_fail profile count.0 0 no_ace count.1 f taken.bytes failed in
    let is_n : n ≡ length s.list = same ∙ sym s.long in
    of_list profile bytes f s.list (subst (λ (k : ℕ). FailsIn (number_field count_of k
    ∷ fields_of_aces profile 0 s.list) 0 bytes f) is_n
    (fails_after_number count_of n count.0 (fields_of_aces profile 0 s.list) (place 0 bytes) count.1 f counted taken
    s.fails)))
    (λ x xe last.
    let s = parts_take profile count.0 0 no_ace count.1 x taken.bytes (omega arith) xe in
    let (some, is) = at_end_fails x.0 x.1 f last in
    let is_n : n ≡ length s.list = same ∙ sym s.long in
    let text : List ℕ = word (length s.list) ++ flat_map any_piece s.list in
    let all : Takes (place 0 bytes) text x.1 = subst (λ (k : ℕ). Takes (place 0 bytes)
    (word k ++ flat_map any_piece s.list) x.1) is_n (Takes-then taken s.takes) in
    let xdr : AnyXdr profile s.list text =
    record { count = omega (arith, s.long, few); weight = omega (arith, s.light); each = s.each; spelled = refl } in
    let here : length text ≡ x.1.at = omega (arith, all.counted) in
    subst (λ (g : Fault). IsFaultOfPart profile bytes g) is
    (subst (λ (k : ℕ). IsAnyListFault profile bytes k TrailingBytes) here
    (after_list s.list text x.1.rest xdr all.parts some))))

-- ---- reading fails at the first wrong field

-- a type that is not refused is below four
type_means : (n : ℕ) → refusal (type_of n) ≡ None → type_of (number (word n)) ≡ Ok n
type_means n right =
    let (m, e) = accepted (type_of n) right in
    let (same, few) = type_is n m e in
    number_means type_of n n (omega (arith, same, few)) (type_again n (omega (arith, same, few)))

-- flags that are not refused are read
flags_mean : (profile : Profile) (n : ℕ) → IsProfile profile → refusal (flags_of profile n) ≡ None
    → flags_of profile (number (word n)) ≡ Ok n
flags_mean profile n is right =
    let (m, e) = accepted (flags_of profile n) right in
    let (same, within) = flags_are profile n m e in
    number_means (flags_of profile) n n
    (subst (λ (k : ℕ). k < 2 ^ 32) (sym same) (flags_lt profile m is within)) (e ∙ ap (λ (k : ℕ). Ok k) (sym same))

-- a mask that is not refused is read
mask_means : (profile : Profile) (weight n : ℕ) → IsProfile profile → refusal (mask_of profile weight n) ≡ None
    → mask_of profile weight (number (word n)) ≡ Ok n
mask_means profile weight n is right =
    let (m, e) = accepted (mask_of profile weight n) right in
    let (same, within, light) = mask_is profile weight n m e in
    number_means (mask_of profile weight) n n
    (subst (λ (k : ℕ). k < 2 ^ 32) (sym same) (mask_lt profile m is within)) (e ∙ ap (λ (k : ℕ). Ok k) (sym same))

-- a length that is not refused is read
len_means : (n : ℕ) → refusal (who_len_of n) ≡ None → who_len_of (number (word n)) ≡ Ok n
len_means n right =
    let (m, e) = accepted (who_len_of n) right in
    let (same, some, short) = who_len_is n m e in
    number_means who_len_of n n (omega (arith, same, short)) (e ∙ ap (λ (k : ℕ). Ok k) (sym same))

-- a count that is not refused is read
count_means : (n : ℕ) → refusal (count_of n) ≡ None → count_of (number (word n)) ≡ Ok n
count_means n right =
    let (m, e) = accepted (count_of n) right in
    let (same, few) = count_is n m e in
    number_means count_of n n (omega (arith, same, few)) (e ∙ ap (λ (k : ℕ). Ok k) (sym same))

-- a who that is not refused is read
who_means : (who : List ℕ) → refusal (any_who_of who) ≡ None → any_who_of who ≡ Ok who
who_means who right =
    let (m, e) = accepted (any_who_of who) right in
    let (same, none) = taken_is (text_fault who) who m e in
    e ∙ ap (λ (w : List ℕ). Ok w) (sym same)

-- reading an ACE, and then more, fails at the first wrong field, if it does so after the ACE
ace_reads : {C : Type 0} (profile : Profile) (weight at : ℕ) (a : AnyAce) (xs : List (Field Reason))
    (last : AnyAce × Place → Result C Fault) (bytes : List ℕ) (offset : ℕ) (r : Reason) → IsProfile profile
    → ((end : ℕ) (rest : List ℕ) (more : ℕ) → IsFirstWrongField Truncated xs rest more r
    → last (a, place end rest) ≡ Err (record { offset = end + more; reason = r }))
    → IsFirstWrongField Truncated (ace_fields profile weight a ++ xs) bytes offset r
    → (any_ace_at profile weight (place at bytes) >>= last) ≡ Err (record { offset = at + offset; reason = r })
unfolding any_ace_at
ace_reads profile weight at a xs last bytes offset r is go first =
    let n : ℕ = length a.who in
    let pad : List ℕ = replicate (pad_len n) 0 in
    step_fails 4 (λ b. type_of (number b)) _ last a.type_number (number_field type_of a.type_number) _ at bytes offset r
    refl (λ b. refl) (type_means a.type_number) first (λ bytes offset first.
    step_fails 4 (λ b. flags_of profile (number b)) _ last a.flags (number_field (flags_of profile) a.flags) _ (at + 4)
    bytes offset r refl (λ b. refl) (flags_mean profile a.flags is) first (λ bytes offset first.
    step_fails 4 (λ b. mask_of profile weight (number b)) _ last a.mask (number_field (mask_of profile weight) a.mask) _
    (at + 4 + 4) bytes offset r refl (λ b. refl) (mask_means profile weight a.mask is) first (λ bytes offset first.
    step_fails 4 (λ b. who_len_of (number b)) _ last n (number_field who_len_of n) _ (at + 4 + 4 + 4) bytes offset r
    refl (λ b. refl) (len_means n) first (λ bytes offset first.
    step_fails n any_who_of _ last a.who (bytes_field any_who_of a.who) _ (at + 4 + 4 + 4 + 4) bytes offset r refl
    (λ b. refl) (who_means a.who) first (λ bytes offset first.
    step_fails (pad_len n) padding_of _ last tt (bytes_field padding_of pad) xs (at + 4 + 4 + 4 + 4 + n) bytes offset r
    (length-replicate _ _) (λ b. refl) (λ right. padding_again (pad_len n)) first (λ rest more later.
    go (at + 4 + 4 + 4 + 4 + n + pad_len n) rest more later))))))

-- reading ACEs fails at the first wrong field
aces_read : (profile : Profile) (list : List AnyAce) (weight at : ℕ) (part : Part) (bytes : List ℕ) (offset : ℕ)
    (r : Reason) → IsProfile profile → IsFirstWrongField Truncated (fields_of_aces profile weight list) bytes offset r
    → part_from profile (length list) weight part (place at bytes) ≡ Err (record { offset = at + offset; reason = r })
unfolding part_from
aces_read profile [] weight at part bytes offset r is first = absurd (none_wrong [] bytes offset r first refl)
aces_read profile (a ∷ list) weight at part bytes offset r is first =
    ace_reads profile weight at a (fields_of_aces profile (weight + count_ones a.mask) list) _ bytes offset r is
    (λ end rest more later. aces_read profile list (weight + count_ones a.mask) end (with_ace part a) rest more r is
    later) first

-- bytes after a list are a fault
left_over : (part : Part) (at : ℕ) (rest : List ℕ) → 0 < length rest
    → at_end (part, place at rest) ≡ Err (record { offset = at; reason = TrailingBytes })
left_over part at rest some = by (eqb (length rest) 0) refl
  where
    by : (b : Bool) → eqb (length rest) 0 ≡ b
        → cond b (Ok part) (Err (fault_at (place at rest) TrailingBytes))
        ≡ Err (record { offset = at; reason = TrailingBytes })
    by true is = absurd (omega (arith, eqb-true _ _ is, some))
    by false is = refl

-- the reading of bytes that have a fault returns it
fault_read : (profile : Profile) (bytes : List ℕ) (offset : ℕ) (r : Reason) → IsProfile profile
    → IsAnyListFault profile bytes offset r → part_in profile bytes ≡ Err (record { offset = offset; reason = r })
unfolding part_in
fault_read profile bytes _ _ is (of_field list offset r first) =
    let n : ℕ = length list in
    sym (ok_last (part_in profile bytes))
    ∙ step_fails 4 (λ b. count_of (number b)) _ (λ x. Ok x) n (number_field count_of n) (fields_of_aces profile 0 list)
    0 bytes offset r refl (λ b. refl) (count_means n)
    (subst (λ (xs : List (Field Reason)). IsFirstWrongField Truncated xs bytes offset r)
    (sym (list_fields profile list)) first) (λ rest more later.
    bind-err (λ x. Ok x) (bind-err at_end (aces_read profile list 0 4 no_ace rest more r is later)))
    ∙ ap (λ (k : ℕ). Err (record { offset = k; reason = r })) (omega arith)
  where
    ok_last : (result : Result Part Fault) → (result >>= λ x. Ok x) ≡ result
    ok_last (Ok x) = refl
    ok_last (Err f) = refl
fault_read profile bytes _ _ is (after_list list text rest x parts some) =
    let n : ℕ = length list in
    let body : List ℕ = flat_map any_piece list in
    let few : n < 2 ^ 32 = (let c = x.count in omega arith) in
    let sum : length text ≡ 4 + length body = omega (arith, ap length x.spelled, length-append (word n) body) in
    ap (part_in profile) (parts ∙ ap (λ (t : List ℕ). t ++ rest) x.spelled ∙ append_assoc (word n) body rest)
    ∙ bind-ok _ (word_again count_of 0 n (body ++ rest) n few (count_again n x.count))
    ∙ bind-ok at_end (parts_again profile list 0 4 no_ace rest is x.each (let w = x.weight in omega arith))
    ∙ left_over _ (4 + length body) rest some
    ∙ ap (λ (k : ℕ). Err (record { offset = k; reason = TrailingBytes })) (sym sum)

-- ---- the answer of a reader

-- the answer of a reader that reads as the bytes say
module _ (p : Profile) (bytes : List ℕ) (is : IsProfile p) (fits : IsBytes bytes) where
  -- a fault that is returned is that of the bytes, unless memory ran out
  pub part_fault : (result : Result Part Fault) → PartReadAs result (part_in p bytes)
      → IfErr result (λ f. (f ≡ no_memory) ⊎ IsFaultOfPart p bytes f)
  part_fault (Ok part) reads = tt
  part_fault (Err f) reads = elim reads [
    | inl memory ↦ inl memory
    | inr said ↦ inr (reading_fails p bytes f fits said)
  ]

  -- bytes with a fault are refused with that fault, unless memory runs out
  pub part_refused : (result : Result Part Fault) → PartReadAs result (part_in p bytes) → (f : Fault)
      → IsFaultOfPart p bytes f → FaultsOrMemory result f
  part_refused (Ok part) reads f has =
      let said : part_in p bytes ≡ Err f = fault_read p bytes f.offset f.reason is has in
      cc
  part_refused (Err e) reads f has =
      let said : part_in p bytes ≡ Err f = fault_read p bytes f.offset f.reason is has in
      elim reads [ inl memory ↦ inr memory | inr read ↦ inl cc ]
