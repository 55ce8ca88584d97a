-- Bytes are read as flags and a list with ids if and only if they spell them.
use Rattle.std.proofs.Common.{◌≡◌, ◌∙◌, ◌+◌, ◌-◌, ◌<◌, ◌≤◌, ◌++◌, ℕ, zero, suc, Bool, true, false, cond, eqb, List, [], ◌∷◌, Result, Ok, Err, length, refl, ap, sym, subst, arith, append_assoc, append-nil, length-append, inl, inr}
use Rattle.std.specs.Prelude.{◌↔◌, IfOk, count_ones}
use Rattle.std.specs.List.{AllByRecursion, flat_map}
use Rattle.std.proofs.lemmas.Bool.{eqb-true}
use Rattle.std.proofs.lemmas.List.Concat.{flat_map-cons}
use Rattle.std.proofs.lemmas.Nat.{and_mask}
use Rattle.std.proofs.lemmas.List.{nil_from_length}
use Rattle.acl_perm.specs.Profile.{full}
use Rattle.acl_nfs4.proofs.Exports.{Takes, Takes-then, bind-ok, bind_then, count_again, count_is, each_push, front_accepted, is_who-decimal, is_who-everyone, is_who-group, is_who-owner, ok_is, place, weight-push}
use Rattle.acl_nfs4.specs.Ace.{Ace}
use Rattle.acl_nfs4.specs.Fields.{count_of}
use Rattle.acl_nfs4.specs.Limits.{most_aces, most_weight}
use Rattle.acl_nfs4.specs.Spelling.{IsAccepted, IsAce, weight, word}
use Rattle.acl_nfs4.specs.Who.{IsWho}
use Rattle.acl_nfs4.specs.internal.Progress.{IsBytes}
use Rattle.acl_nfs4.specs.internal.Reading.{Place}
use Rattle.acl_nfs4.specs.declared.xdr.fault.Reason.TheVariants.{TrailingBytes}
use Rattle.acl_forms.specs.AclFlags.{IsAclFlags}
use Rattle.acl_forms.specs.Acl41Ids.{EachHasId, IsAcl41Ids, acl41_ids_bytes, id_piece}
use Rattle.acl_forms.specs.ReadFaults.{read_fault_at}
use Rattle.acl_forms.specs.Words.{ReadsForm, acl_flags_of, listed, start, word_at}
use Rattle.acl_forms.specs.declared.acl_flags.AclFlags.{AclFlags}
use Rattle.acl_forms.specs.declared.fault.ReadFault.{ReadFault}
use Rattle.acl_forms.specs.declared.fault.ReadReason.TheVariants as reason
use Rattle.acl_forms.specs.declared.acl41_ids.IdAce.{IdAce}
use Rattle.acl_forms.specs.declared.acl41_ids.IdWho.{IdWho}
use Rattle.acl_forms.specs.declared.acl41_ids.IdWho.TheVariants.{Owner, Group, Everyone, Account}
use Rattle.acl_forms.specs.internal.IdAces.{ReadAs, ace_by_id, flags_and_list, id_ace_at, nothing_after, whom_name}
unfoldable use Rattle.acl_forms.specs.internal.IdAces.{acl41_ids_in, id_aces_from}
use Rattle.acl_forms.proofs.WordLemmas.{SpelledTo, flags_again, flags_found, word_again, word_takes}
use Rattle.acl_forms.proofs.IdAces.{ace_again, ace_takes, listed_again, listed_ok}

-- ---- the ACEs

-- an accepted list that can take an ACE is accepted with it
pub accepted_push : (list : List Ace) (a : Ace) → IsAccepted full list → length list < most_aces
    → weight list + count_ones a.mask ≤ most_weight → IsAce full a → IsAccepted full (list ++ a ∷ [])
accepted_push list a ok room light is = record {
  count = omega (arith, length-append list (a ∷ []), room);
  weight = omega (arith, weight-push list a, light);
  each = each_push full list a ok.each is;
}

-- if all ACEs of a list are of the standard, so is the last one
each_last : (list : List Ace) (a : Ace) → AllByRecursion (IsAce full) (list ++ a ∷ []) → IsAce full a
each_last [] a each = each.0
each_last (b ∷ list) a each = each_last list a each.1

-- ACEs were read and taken after a list
record TakesIds (n : ℕ) (list : List Ace) (p : Place) (out : List Ace) (q : Place) : Type 0 where
  pub more : List Ace
  pub takes : Takes p (flat_map id_piece more) q
  pub long : length more ≡ n
  pub ids : EachHasId more
  pub is : out ≡ list ++ more
  pub accepted : IsAccepted full out

-- reading ACEs takes their bytes
ids_take : (n : ℕ) (list : List Ace) (p : Place) (x : List Ace × Place) → IsBytes p.rest → IsAccepted full list
    → length list + n ≤ most_aces → id_aces_from n list p ≡ Ok x → TakesIds n list p x.0 x.1
unfolding id_aces_from
ids_take zero list p x fits ok few e =
    subst (λ (y : List Ace × Place). TakesIds zero list p y.0 y.1) (ok_is (list, p) x e) (record {
      more = [];
      takes = record { parts = refl; counted = omega arith; bytes = fits };
      long = refl;
      ids = tt;
      is = sym (append-nil list);
      accepted = ok;
    })
ids_take (suc n) list p x fits ok few e =
    bind_then (id_ace_at (weight list) p) _ x e (λ first fe rest.
    let t = ace_takes (weight list) p first fits fe in
    let longer = accepted_push list first.0 ok (omega (arith, few)) t.light t.is in
    let s = ids_take n (list ++ first.0 ∷ []) first.1 x t.takes.bytes longer
    (omega (arith, few, length-append list (first.0 ∷ []))) rest in
    record {
      more = first.0 ∷ s.more;
      takes = subst (λ (y : List ℕ). Takes p y x.1) (sym (flat_map-cons id_piece first.0 s.more))
          (Takes-then t.takes s.takes);
      long = omega (arith, s.long);
      ids = (t.id, s.ids);
      is = s.is ∙ append_assoc list (first.0 ∷ []) s.more;
      accepted = s.accepted;
    })

-- ACEs with ids are read again after a list
record ReadsIds (more list : List Ace) (at : ℕ) (rest : List ℕ) : Type 0 where
  pub end : ℕ
  pub here : end ≡ at + length (flat_map id_piece more)
  pub read : id_aces_from (length more) list (place at (flat_map id_piece more ++ rest))
      ≡ Ok (list ++ more, place end rest)

-- the ACEs of an accepted list are read again, if they have ids
ids_again : (more list : List Ace) (at : ℕ) (rest : List ℕ) → IsAccepted full (list ++ more) → EachHasId more
    → ReadsIds more list at rest
unfolding id_aces_from
ids_again [] list at rest ok ids = record {
  end = at;
  here = omega arith;
  read = ap (λ (l : List Ace). Ok (l, place at rest)) (sym (append-nil list));
}
ids_again (a ∷ more) list at rest ok ids =
    let same = append_assoc list (a ∷ []) more in
    let longer : IsAccepted full ((list ++ a ∷ []) ++ more) = subst (IsAccepted full) (sym same) ok in
    let front : IsAccepted full (list ++ a ∷ []) = front_accepted full (list ++ a ∷ []) more longer in
    let light : weight list + count_ones a.mask ≤ most_weight = omega (arith, front.weight, weight-push list a) in
    let tail : List ℕ = flat_map id_piece more ++ rest in
    let s = ids_again more (list ++ a ∷ []) (at + 4 + 4 + 4 + 4 + 4) rest longer ids.1 in
    record {
      end = s.end;
      here =
          let twenty : length (id_piece a) ≡ 20 = refl in omega (
            arith,
            s.here,
            twenty,
            ap length (flat_map-cons id_piece a more),
            length-append (id_piece a) (flat_map id_piece more),
          );
      read =
          ap (λ (t : List ℕ). id_aces_from (suc (length more)) list (place at t))
          (ap (λ (t : List ℕ). t ++ rest) (flat_map-cons id_piece a more)
          ∙ append_assoc (id_piece a) (flat_map id_piece more) rest)
          ∙ bind-ok _ (ace_again (weight list) at a tail (each_last list a front.each) ids.0 light)
          ∙ s.read
          ∙ ap (λ (l : List Ace). Ok (l, place s.end rest)) same;
    }

-- ---- how the reader goes on

-- an ACE that is read is added to the list
pub ids_more : (left : ℕ) (list : List Ace) (at : Place) (x : Ace × Place) → 0 < left
    → id_ace_at (weight list) at ≡ Ok x → id_aces_from left list at ≡ id_aces_from (left - 1) (list ++ x.0 ∷ []) x.1
unfolding id_aces_from
ids_more zero list at x lt e = absurd (omega (arith, lt))
ids_more (suc n) list at x lt e = let less : suc n - 1 ≡ n = omega arith in rw (e, less) refl

-- an ACE that is refused is the fault of the list
pub ids_stop : (left : ℕ) (list : List Ace) (at : Place) (f : ReadFault) → 0 < left
    → id_ace_at (weight list) at ≡ Err f → id_aces_from left list at ≡ Err f
unfolding id_aces_from
ids_stop zero list at f lt e = absurd (omega (arith, lt))
ids_stop (suc n) list at f lt e = rw e refl

-- no more ACE is read
pub ids_done : (left : ℕ) (list : List Ace) (at : Place) → left ≡ 0 → id_aces_from left list at ≡ Ok (list, at)
unfolding id_aces_from
ids_done left list at e = rw e refl

-- a special identifier or an id of the code is valid as a who
pub is_who-whom : (w : IdWho) → IsWho (whom_name w)
is_who-whom Owner = is_who-owner
is_who-whom Group = is_who-group
is_who-whom Everyone = is_who-everyone
is_who-whom (Account id) = is_who-decimal id.value (omega (arith, id.within))

-- each ACE that the code makes of words may be in a list
pub good_ace : (a : IdAce) → a.flags.bits ≤ 255 → IsAce full (ace_by_id a)
good_ace a small = record {
  flags = and_mask a.flags.bits 8 ∙ omega (arith, small);
  mask = a.mask.within;
  who = is_who-whom a.whom;
}

-- ---- the whole value

-- if the end was reached, no byte is left
pub ended : {A : Type 0} (flags : ℕ) (x : A × Place) (y : ℕ × A) → nothing_after flags x ≡ Ok y
    → ((flags, x.0) ≡ y) × (x.1.rest ≡ [])
ended {A = A} flags x y e = by (eqb (length x.1.rest) 0) refl e
  where
    by : (b : Bool) → eqb (length x.1.rest) 0 ≡ b
        → cond b (Ok (flags, x.0)) (Err (read_fault_at x.1.at (reason.List TrailingBytes))) ≡ Ok y
        → ((flags, x.0) ≡ y) × (x.1.rest ≡ [])
    by true t e = (ok_is _ y e, nil_from_length x.1.rest (eqb-true _ _ t))
    by false t e = absurd cc

-- what holds of flags and a list holds of the pair of both
as_pair : (flags : ℕ) (list : List Ace) (bytes : List ℕ) (x : ℕ × List Ace) → (flags, list) ≡ x
    → IsAcl41Ids flags list bytes → IsAcl41Ids x.0 x.1 bytes
as_pair flags list bytes x e h = subst (λ (y : ℕ × List Ace). IsAcl41Ids y.0 y.1 bytes) e h

-- flags, a count and ACEs that were read were spelled
pub ids_front : (bytes : List ℕ) (f c : ℕ × Place) (l : List Ace × Place) → IsBytes bytes
    → word_at acl_flags_of (start bytes) ≡ Ok f → word_at (λ n. listed (count_of n)) f.1 ≡ Ok c
    → id_aces_from c.0 [] c.1 ≡ Ok l → SpelledTo (IsAcl41Ids f.0 l.0) bytes l.1
ids_front bytes f c l fits fe ce le =
    let ft = word_takes acl_flags_of (start bytes) f fits fe in
    let flags = flags_found bytes f.0 f.1 fits fe in
    let ct = word_takes (λ n. listed (count_of n)) f.1 c flags.2 ce in
    let count = count_is ct.number c.0 (listed_ok (count_of ct.number) c.0 ct.accepted) in
    let none : IsAccepted full [] = record { count = omega arith; weight = omega arith; each = tt } in
    let t = ids_take c.0 [] c.1 l ct.takes.bytes none (omega (arith, count.1)) le in
    let body : List ℕ = flat_map id_piece t.more in
    let same : l.0 ≡ t.more = t.is in
    let parts : f.1.rest ≡ (word (length t.more) ++ body) ++ l.1.rest =
    ct.takes.parts ∙ ap (λ (n : ℕ). word n ++ c.1.rest) (count.0 ∙ sym t.long)
    ∙ ap (λ (r : List ℕ). word (length t.more) ++ r) t.takes.parts
    ∙ sym (append_assoc (word (length t.more)) body l.1.rest) in
    record {
      text = acl41_ids_bytes f.0 t.more;
      is = record {
        flags = flags.0;
        accepted = t.accepted;
        ids = subst EachHasId (sym same) t.ids;
        spelled = ap (acl41_ids_bytes f.0) (sym same);
      };
      parts = flags.1 ∙ ap (λ (r : List ℕ). word f.0 ++ r) parts
          ∙ sym (append_assoc (word f.0) (word (length t.more) ++ body) l.1.rest);
      here = omega (
        arith,
        ft.takes.counted,
        ct.takes.counted,
        t.takes.counted,
        length-append (word f.0) (word (length t.more) ++ body),
        length-append (word (length t.more)) body,
      );
    }

-- what was read was spelled
pub ids_spelled : (bytes : List ℕ) (x : ℕ × List Ace) → IsBytes bytes → acl41_ids_in bytes ≡ Ok x
    → IsAcl41Ids x.0 x.1 bytes
unfolding acl41_ids_in
ids_spelled bytes x fits e =
    bind_then (word_at acl_flags_of (start bytes)) _ x e (λ f fe fr.
    bind_then (word_at (λ n. listed (count_of n)) f.1) _ x fr (λ c ce cr.
    bind_then (id_aces_from c.0 [] c.1) _ x cr (λ l le lr.
    let t = ids_front bytes f c l fits fe ce le in
    let last = ended f.0 l x lr in
    let whole : bytes ≡ t.text = t.parts ∙ ap (λ (r : List ℕ). t.text ++ r) last.1 ∙ append-nil t.text in
    as_pair f.0 l.0 bytes x last.0 (subst (IsAcl41Ids f.0 l.0) (sym whole) t.is))))

-- what was spelled is read again before other bytes
pub ids_read_before : (text rest : List ℕ) (flags : ℕ) (list : List Ace) → IsAcl41Ids flags list text
    → acl41_ids_in (text ++ rest) ≡ nothing_after flags (list, place (length text) rest)
unfolding acl41_ids_in
ids_read_before text rest flags list is =
    let n : ℕ = length list in
    let body : List ℕ = flat_map id_piece list in
    let s = ids_again list [] 8 rest is.accepted is.ids in
    let c = is.accepted.count in
    let parts : text ++ rest ≡ word flags ++ (word n ++ (body ++ rest)) =
    ap (λ (t : List ℕ). t ++ rest) is.spelled ∙ append_assoc (word flags) (word n ++ body) rest
    ∙ ap (λ (t : List ℕ). word flags ++ t) (append_assoc (word n) body rest) in
    let here : s.end ≡ length text = omega (
      arith,
      s.here,
      ap length is.spelled,
      length-append (word flags) (word n ++ body),
      length-append (word n) body,
    ) in
    bind-ok _ (flags_again (text ++ rest) flags (word n ++ (body ++ rest)) is.flags parts)
    ∙ bind-ok _ (word_again (λ n. listed (count_of n)) 4 n (body ++ rest) n (omega (arith, c))
    (listed_again _ n (count_again n c)))
    ∙ bind-ok (nothing_after flags) s.read
    ∙ ap (λ (k : ℕ). nothing_after flags (list, place k rest)) here

-- what was spelled is read again
pub ids_read : (bytes : List ℕ) (flags : ℕ) (list : List Ace) → IsAcl41Ids flags list bytes
    → acl41_ids_in bytes ≡ Ok (flags, list)
ids_read bytes flags list is =
    ap acl41_ids_in (sym (append-nil bytes)) ∙ ids_read_before bytes [] flags list is

-- bytes spell at most one pair of flags and a list
pub one_value : (flags set : ℕ) (list other : List Ace) (bytes : List ℕ) → IsAcl41Ids flags list bytes
    → IsAcl41Ids set other bytes → (flags ≡ set) × (list ≡ other)
one_value flags set list other bytes h k =
    let e : (flags, list) ≡ (set, other) =
    ok_is _ _ (sym (ids_read bytes flags list h) ∙ ids_read bytes set other k) in
    (ap (λ z. z.0) e, ap (λ z. z.1) e)

-- accepted flags and an accepted list with ids are spelled by their bytes, and by no others
pub ids_bytes : (flags : ℕ) (list : List Ace) (bytes : List ℕ) → IsAclFlags flags → IsAccepted full list
    → EachHasId list → IsAcl41Ids flags list bytes ↔ (bytes ≡ acl41_ids_bytes flags list)
ids_bytes flags list bytes is ok ids =
    (λ h. h.spelled, λ e. record { flags = is; accepted = ok; ids = ids; spelled = e })

-- ---- what a call answers

-- the answer of a call that reads as the bytes say
module _ (bytes : List ℕ) (fits : IsBytes bytes) where
  -- flags and a list that are returned are those that the bytes spell
  pub ids_found : (result : Result (AclFlags × List Ace) ReadFault) → ReadAs flags_and_list result (acl41_ids_in bytes)
      → IfOk result (λ read. IsAcl41Ids read.0.bits read.1 bytes)
  ids_found (Ok x) h = ids_spelled bytes (flags_and_list x) fits h
  ids_found (Err f) h = tt

  -- the flags and the list that the bytes spell are returned, unless memory runs out
  pub ids_only : (result : Result (AclFlags × List Ace) ReadFault) → ReadAs flags_and_list result (acl41_ids_in bytes)
      → (flags : ℕ) (list : List Ace) → IsAcl41Ids flags list bytes → ReadsForm result flags list
  ids_only (Ok x) h flags list is =
      let e : flags_and_list x ≡ (flags, list) = ok_is _ _ (sym h ∙ ids_read bytes flags list is) in
      (ap (λ z. z.0) e, ap (λ z. z.1) e)
  ids_only (Err f) h flags list is = elim h [
    | inl memory ↦ memory
    | inr said ↦ absurd (apart (sym said ∙ ids_read bytes flags list is))
  ] where
    apart : {x : ℕ × List Ace} {f : ReadFault} → Err f ≡ Ok x → ⊥
    apart e = cc
