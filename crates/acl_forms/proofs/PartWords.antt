-- Bytes are read as flags and ACEs of any type if and only if they spell them.
use Rattle.std.proofs.Common.{◌≡◌, ◌∙◌, ◌+◌, ◌<◌, ◌≤◌, ◌^◌, ◌++◌, ℕ, Bool, true, false, cond, eqb, List, Option, Some, None, Ok, Err, length, take, replicate, refl, ap, sym, subst, arith, length-append}
use Rattle.std.specs.Prelude.{count_ones, option_map, nat_le}
use Rattle.std.specs.Fmt.{decimal}
use Rattle.std.specs.List.{list_all}
use Rattle.std.specs.Str.{is_utf8}
use Rattle.std.proofs.lemmas.Bool.{eqb-true, le-leb, leb-true}
use Rattle.std.proofs.lemmas.Bool.Decides.{nat_tests}
use Rattle.std.proofs.lemmas.List.{length-replicate}
use Rattle.acl_perm.specs.Bits.{all_flags, all_rights}
use Rattle.acl_perm.specs.Profile.{full}
use Rattle.acl_posix.specs.Id.{IsId, greatest_id}
use Rattle.acl_nfs4.proofs.Exports.{Takes, Takes-then, bind-ok, bind_then, bytes_are_zeros, guard_ok, is_who-decimal, len_bounds, ok_is, place, regrouped, type_again, type_is, within_le, zeros_again}
use Rattle.acl_nfs4.specs.AccessPart.{AnyAce, IsAnyAce, IsAnyWho, any_piece}
use Rattle.acl_nfs4.specs.Fields.{flags_of, mask_of, padding_of, unless, who_len_of, who_reason}
use Rattle.acl_nfs4.specs.Limits.{most_weight}
use Rattle.acl_nfs4.specs.PartFault.{any_who_of, type_of}
use Rattle.acl_nfs4.specs.Spelling.{pad_len, word}
use Rattle.acl_nfs4.specs.Who.{is_no_who_len, is_plain}
use Rattle.acl_nfs4.specs.declared.xdr.fault.Reason.{Reason}
use Rattle.acl_nfs4.specs.internal.Progress.{IsBytes}
use Rattle.acl_nfs4.specs.internal.Reading.{Place, text_fault}
use Rattle.acl_forms.specs.Acl41Ids.{id_who, special_of}
use Rattle.acl_forms.specs.Part.{is_unknown_deny}
use Rattle.acl_forms.specs.PartWords.{Names, SpellsById, SpellsByName, special_identifier, unless_unknown, who_by_name, who_by_number}
use Rattle.acl_forms.specs.PartWords.Names.{by_id, by_special}
use Rattle.acl_forms.specs.Words.{listed, word_at}
use Rattle.acl_forms.specs.declared.fault.ReadReason.TheVariants as reason
use Rattle.acl_forms.specs.internal.AnyAces.{bytes_at}
unfoldable use Rattle.acl_forms.specs.internal.AnyAces.{ace_by_name, ace_by_number}
use Rattle.acl_forms.proofs.AnyNames.{known_who}
use Rattle.acl_forms.proofs.IdAces.{flags_accepted, flags_are, listed_again, listed_ok, mask_again, mask_is, special_accepted, special_is, five_regrouped}
use Rattle.acl_forms.proofs.WordLemmas.{word_again, word_takes}
use Rattle.acl_forms.proofs.PartLists.{IsReader, TakesAce, bytes_again, bytes_take}

-- ---- an ACE with a name

-- a length that was read is one that a who may have
pub who_len_is : (n m : ℕ) → who_len_of n ≡ Ok m → (n ≡ m) × (is_no_who_len m ≡ false)
who_len_is n m e = grind (arith, nat_tests)

-- a length that a who may have is accepted
who_len_again : (n : ℕ) → is_no_who_len n ≡ false → who_len_of n ≡ Ok n
who_len_again n some = rw some refl

-- bytes with no fault of their encoding are text without control bytes
is_text : (bytes : List ℕ) → option_map who_reason (text_fault bytes) ≡ None
    → (is_utf8 bytes ≡ true) × (list_all is_plain bytes ≡ true)
is_text bytes e = grind arith

-- bytes that are accepted are the value, and have no fault
taken_is : (fault : Option Reason) (bytes who : List ℕ) → unless fault bytes ≡ Ok who → (bytes ≡ who) × (fault ≡ None)
taken_is None bytes who e = (ok_is bytes who e, refl)
taken_is (Some f) bytes who e = absurd cc

-- what is accepted of the who of an ACE
unless_ok : (type_number : ℕ) (name who : List ℕ) → unless_unknown type_number name ≡ Ok who
    → (is_unknown_deny type_number name ≡ false) × (name ≡ who)
unless_ok type_number name who e =
    let g = guard_ok (is_unknown_deny type_number name) _ (Ok name) who e in (g.0, ok_is name who g.1)

-- what is said of a name that was read
pub record SaysName (type_number : ℕ) (bytes who : List ℕ) : Type 0 where
  pub same : bytes ≡ who
  pub utf8 : is_utf8 who ≡ true
  pub plain : list_all is_plain who ≡ true
  pub known : is_unknown_deny type_number who ≡ false

-- a name that was read is a name
pub name_is : (type_number : ℕ) (bytes who : List ℕ) → who_by_name type_number bytes ≡ Ok who
    → SaysName type_number bytes who
name_is type_number bytes who e =
    bind_then (listed (any_who_of bytes)) (λ w. unless_unknown type_number w) who e (λ w we rest.
    let taken = taken_is (option_map who_reason (text_fault bytes)) bytes w (listed_ok (any_who_of bytes) w we) in
    let known = unless_ok type_number w who rest in
    let same : bytes ≡ who = taken.0 ∙ known.1 in
    let text = is_text who (ap (λ (t : List ℕ). option_map who_reason (text_fault t)) (sym same) ∙ taken.1) in
    record {
      same = same;
      utf8 = text.0;
      plain = text.1;
      known = ap (is_unknown_deny type_number) (sym known.1) ∙ known.0;
    })

-- a name is accepted
name_again : (type_number : ℕ) (who : List ℕ) → IsAnyWho who → is_unknown_deny type_number who ≡ false
    → who_by_name type_number who ≡ Ok who
name_again type_number who is known = rw (is.utf8, is.plain, known) refl

-- a name that is accepted is one that an ACE may have
pub any_who_is : (name who : List ℕ) → is_no_who_len (length name) ≡ false → any_who_of name ≡ Ok who → IsAnyWho who
any_who_is name who some e =
    let taken = taken_is (option_map who_reason (text_fault name)) name who e in
    let text = is_text name taken.1 in
    subst IsAnyWho taken.0 (record { long = some; utf8 = text.0; plain = text.1 })

-- padding that was read is zero
pub padding_is : (bytes : List ℕ) (x : Unit {0}) → listed (padding_of bytes) ≡ Ok x → bytes ≡ replicate (length bytes) 0
padding_is bytes x e =
    bytes_are_zeros bytes (by (list_all (λ b. eqb b 0) bytes) refl (listed_ok (padding_of bytes) x e))
  where
    by : (b : Bool) → list_all (λ b. eqb b 0) bytes ≡ b → padding_of bytes ≡ Ok x
        → list_all (λ b. eqb b 0) bytes ≡ true
    by true t e = t
    by false t e = absurd grind arith

-- zero bytes are accepted as padding
pub padding_again : (n : ℕ) → listed (padding_of (replicate n 0)) ≡ Ok tt
padding_again n = rw (zeros_again n) refl

-- if each field of an ACE was read, the ACE was read
takes_fields : (bits : ℕ) (p : Place) (t f m l : ℕ × Place) (w : List ℕ × Place) (z : Unit {0} × Place)
    → IsBytes p.rest → word_at (λ n. listed (type_of n)) p ≡ Ok t → word_at (λ n. listed (flags_of full n)) t.1 ≡ Ok f
    → word_at (λ n. listed (mask_of full bits n)) f.1 ≡ Ok m → word_at (λ n. listed (who_len_of n)) m.1 ≡ Ok l
    → bytes_at l.0 (who_by_name t.0) l.1 ≡ Ok w → bytes_at (pad_len l.0) (λ b. listed (padding_of b)) w.1 ≡ Ok z
    → TakesAce SpellsByName bits p (record { type_number = t.0; flags = f.0; mask = m.0; who = w.0 }) z.1
takes_fields bits p t f m l w z fits te fe me le we ze =
    let tt = word_takes (λ n. listed (type_of n)) p t fits te in
    let ft = word_takes (λ n. listed (flags_of full n)) t.1 f tt.takes.bytes fe in
    let mt = word_takes (λ n. listed (mask_of full bits n)) f.1 m ft.takes.bytes me in
    let lt = word_takes (λ n. listed (who_len_of n)) m.1 l mt.takes.bytes le in
    let wt = bytes_take l.0 (who_by_name t.0) l.1 w lt.takes.bytes we in
    let zt = bytes_take (pad_len l.0) (λ b. listed (padding_of b)) w.1 z wt.takes.bytes ze in
    let number = type_is tt.number t.0 (listed_ok (type_of tt.number) t.0 tt.accepted) in
    let flags = flags_are ft.number f.0 (listed_ok (flags_of full ft.number) f.0 ft.accepted) in
    let mask = mask_is bits mt.number m.0 (listed_ok (mask_of full bits mt.number) m.0 mt.accepted) in
    let len = who_len_is lt.number l.0 (listed_ok (who_len_of lt.number) l.0 lt.accepted) in
    let says = name_is t.0 (take l.0 l.1.rest) w.0 wt.accepted in
    let long : length w.0 ≡ l.0 = ap length (sym says.same) ∙ wt.long in
    let zeros : take (pad_len l.0) w.1.rest ≡ replicate (pad_len (length w.0)) 0 =
    padding_is _ z.0 zt.accepted ∙ ap (λ (k : ℕ). replicate k 0) (zt.long ∙ ap pad_len (sym long)) in
    let a : AnyAce = record { type_number = t.0; flags = f.0; mask = m.0; who = w.0 } in
    let tw : Takes p (word t.0) t.1 = subst (λ (n : ℕ). Takes p (word n) t.1) number.0 tt.takes in
    let fw : Takes t.1 (word f.0) f.1 = subst (λ (n : ℕ). Takes t.1 (word n) f.1) flags.0 ft.takes in
    let mw : Takes f.1 (word m.0) m.1 = subst (λ (n : ℕ). Takes f.1 (word n) m.1) mask.0 mt.takes in
    let lw : Takes m.1 (word (length w.0)) l.1 =
    subst (λ (n : ℕ). Takes m.1 (word n) l.1) (len.0 ∙ sym long) lt.takes in
    let ww : Takes l.1 w.0 w.1 = subst (λ (b : List ℕ). Takes l.1 b w.1) says.same wt.takes in
    let zw : Takes w.1 (replicate (pad_len (length w.0)) 0) z.1 =
    subst (λ (b : List ℕ). Takes w.1 b z.1) zeros zt.takes in
    record {
      bytes = any_piece a;
      takes = Takes-then (Takes-then (Takes-then (Takes-then (Takes-then tw fw) mw) lw) ww) zw;
      spells = record {
        is = record {
          type_number = number.1;
          flags = flags.1;
          mask = mask.1;
          who = record { long = ap is_no_who_len long ∙ len.1; utf8 = says.utf8; plain = says.plain };
        };
        spelled = refl;
      };
      known = says.known;
      light = mask.2;
    }

-- an ACE of nfsacl41 is read if and only if it is spelled
pub reader_by_name : IsReader SpellsByName ace_by_name
unfolding ace_by_name
reader_by_name = record { take_ace = takes; again = again } where
  takes : (bits : ℕ) (p : Place) (x : AnyAce × Place) → IsBytes p.rest → ace_by_name bits p ≡ Ok x
      → TakesAce SpellsByName bits p x.0 x.1
  takes bits p x fits e =
      bind_then (word_at (λ n. listed (type_of n)) p) _ x e (λ t te tr.
      bind_then (word_at (λ n. listed (flags_of full n)) t.1) _ x tr (λ f fe fr.
      bind_then (word_at (λ n. listed (mask_of full bits n)) f.1) _ x fr (λ m me mr.
      bind_then (word_at (λ n. listed (who_len_of n)) m.1) _ x mr (λ l le lr.
      bind_then (bytes_at l.0 (who_by_name t.0) l.1) _ x lr (λ w we wr.
      bind_then (bytes_at (pad_len l.0) (λ b. listed (padding_of b)) w.1) _ x wr (λ z ze zr.
      subst (λ (y : AnyAce × Place). TakesAce SpellsByName bits p y.0 y.1) (ok_is _ x zr)
      (takes_fields bits p t f m l w z fits te fe me le we ze)))))))

  named_again : (bits at : ℕ) (a : AnyAce) (rest : List ℕ) → IsAnyAce full a
      → is_unknown_deny a.type_number a.who ≡ false → bits + count_ones a.mask ≤ most_weight
      → ace_by_name bits (place at (any_piece a ++ rest)) ≡ Ok (a, place (at + length (any_piece a)) rest)
  named_again bits at a rest is known light =
      let n : ℕ = length a.who in
      let pad : List ℕ = replicate (pad_len n) 0 in
      let b = len_bounds n is.who.long in
      let len : length pad ≡ pad_len n = length-replicate _ _ in
      let low = within_le all_flags a.flags is.flags in
      let small = within_le all_rights a.mask is.mask in
      let r5 = pad ++ rest in
      let r4 = a.who ++ r5 in
      let r3 = word n ++ r4 in
      let r2 = word a.mask ++ r3 in
      let r1 = word a.flags ++ r2 in
      ap (λ (x : List ℕ). ace_by_name bits (place at x))
      (regrouped (word a.type_number) (word a.flags) (word a.mask) (word n) a.who pad rest)
      ∙ bind-ok _ (word_again (λ n. listed (type_of n)) at a.type_number r1 a.type_number
      (let t = is.type_number in omega arith) (listed_again _ a.type_number (type_again a.type_number is.type_number)))
      ∙ bind-ok _ (word_again (λ n. listed (flags_of full n)) (at + 4) a.flags r2 a.flags (omega (arith, low))
      (listed_again _ a.flags (flags_accepted a.flags is.flags)))
      ∙ bind-ok _ (word_again (λ n. listed (mask_of full bits n)) (at + 4 + 4) a.mask r3 a.mask (omega (arith, small))
      (listed_again _ a.mask (mask_again bits a.mask is.mask light)))
      ∙ bind-ok _ (word_again (λ n. listed (who_len_of n)) (at + 4 + 4 + 4) n r4 n (omega (arith, b.1))
      (listed_again _ n (who_len_again n is.who.long)))
      ∙ bind-ok _ (bytes_again n (who_by_name a.type_number) (at + 4 + 4 + 4 + 4) a.who r5 a.who refl
      (name_again a.type_number a.who is.who known))
      ∙ bind-ok _ (bytes_again (pad_len n) (λ b. listed (padding_of b)) (at + 4 + 4 + 4 + 4 + n) pad rest tt len
      (padding_again (pad_len n)))
      ∙ ap (λ (k : ℕ). Ok (a, place k rest)) (omega (arith, len, length-append a.who pad))

  again : (bits at : ℕ) (a : AnyAce) (bytes rest : List ℕ) → SpellsByName a bytes
      → is_unknown_deny a.type_number a.who ≡ false → bits + count_ones a.mask ≤ most_weight
      → ace_by_name bits (place at (bytes ++ rest)) ≡ Ok (a, place (at + length bytes) rest)
  again bits at a bytes rest spells known light =
      subst (λ (b : List ℕ). ace_by_name bits (place at (b ++ rest)) ≡ Ok (a, place (at + length b) rest))
      (sym spells.spelled) (named_again bits at a rest spells.is known light)

-- ---- an ACE with a number

-- what a number that was read names
record SaysNumber (type_number special n : ℕ) (who : List ℕ) : Type 0 where
  pub names : Names special n who
  pub known : is_unknown_deny type_number who ≡ false

-- an id that was read is one, and somebody knows it
id_is : (type_number n : ℕ) (who : List ℕ) → id_who n ≡ Ok who → SaysNumber type_number 0 n who
id_is type_number n who e = by (nat_le n greatest_id) refl e
  where
    by : (b : Bool) → nat_le n greatest_id ≡ b → cond b (Ok (decimal n)) (Err reason.Id) ≡ Ok who
        → SaysNumber type_number 0 n who
    by true t e =
        let is : IsId n = leb-true n greatest_id t in
        let known = known_who (decimal n) (is_who-decimal n (omega (arith, is))) in
        subst (SaysNumber type_number 0 n) (ok_is (decimal n) who e)
        (record { names = by_id n is; known = rw known refl })
    by false t e = absurd cc

-- a number that was read names the who
number_is : (type_number special n : ℕ) (who : List ℕ) → special ≤ 1 → n < 2 ^ 32
    → who_by_number type_number special n ≡ Ok who → SaysNumber type_number special n who
number_is type_number special n who le lt e = by (eqb special 1) refl e
  where
    by : (b : Bool) → eqb special 1 ≡ b
        → cond b (unless_unknown type_number (special_identifier n)) (id_who n) ≡ Ok who
        → SaysNumber type_number special n who
    by true t e =
        let h = unless_ok type_number (special_identifier n) who e in
        subst (λ (m : ℕ). SaysNumber type_number m n who) (sym (eqb-true special 1 t))
        (subst (SaysNumber type_number 1 n) h.1 (record { names = by_special n lt; known = h.0 }))
    by false t e =
        let none : special ≡ 0 = grind arith in
        subst (λ (m : ℕ). SaysNumber type_number m n who) (sym none) (id_is type_number n who e)

-- what the words of a who are
record ReadsNumber (type_number special n : ℕ) (who : List ℕ) : Type 0 where
  pub low : special ≤ 1
  pub fits : n < 2 ^ 32
  pub read : who_by_number type_number special n ≡ Ok who

-- the number of a who is read again
number_again : (type_number special n : ℕ) (who : List ℕ) → Names special n who
    → is_unknown_deny type_number who ≡ false → ReadsNumber type_number special n who
number_again type_number _ _ _ (by_special n lt) known =
    record { low = omega arith; fits = lt; read = rw known refl }
number_again type_number _ _ _ (by_id id is) known =
    let le : id ≤ 4294967294 = is in
    record { low = omega arith; fits = omega (arith, le); read = rw (le-leb id greatest_id is) refl }

-- the bytes of an ACE with these words
abbrev words_of : AnyAce → ℕ → ℕ → List ℕ
words_of a special n =
    word a.type_number ++ (word a.flags ++ (word special ++ (word a.mask ++ word n)))

-- if each word of an ACE was read, the ACE was read
takes_words : (bits : ℕ) (p : Place) (t f s m : ℕ × Place) (w : List ℕ × Place) → IsBytes p.rest
    → word_at (λ n. listed (type_of n)) p ≡ Ok t → word_at (λ n. listed (flags_of full n)) t.1 ≡ Ok f
    → word_at special_of f.1 ≡ Ok s → word_at (λ n. listed (mask_of full bits n)) s.1 ≡ Ok m
    → word_at (who_by_number t.0 s.0) m.1 ≡ Ok w
    → TakesAce SpellsById bits p (record { type_number = t.0; flags = f.0; mask = m.0; who = w.0 }) w.1
takes_words bits p t f s m w fits te fe se me we =
    let tt = word_takes (λ n. listed (type_of n)) p t fits te in
    let ft = word_takes (λ n. listed (flags_of full n)) t.1 f tt.takes.bytes fe in
    let st = word_takes special_of f.1 s ft.takes.bytes se in
    let mt = word_takes (λ n. listed (mask_of full bits n)) s.1 m st.takes.bytes me in
    let wt = word_takes (who_by_number t.0 s.0) m.1 w mt.takes.bytes we in
    let number = type_is tt.number t.0 (listed_ok (type_of tt.number) t.0 tt.accepted) in
    let flags = flags_are ft.number f.0 (listed_ok (flags_of full ft.number) f.0 ft.accepted) in
    let special = special_is st.number s.0 st.accepted in
    let mask = mask_is bits mt.number m.0 (listed_ok (mask_of full bits mt.number) m.0 mt.accepted) in
    let says = number_is t.0 s.0 wt.number w.0 special.1 wt.fits wt.accepted in
    let a : AnyAce = record { type_number = t.0; flags = f.0; mask = m.0; who = w.0 } in
    let tw : Takes p (word t.0) t.1 = subst (λ (n : ℕ). Takes p (word n) t.1) number.0 tt.takes in
    let fw : Takes t.1 (word f.0) f.1 = subst (λ (n : ℕ). Takes t.1 (word n) f.1) flags.0 ft.takes in
    let sw : Takes f.1 (word s.0) s.1 = subst (λ (n : ℕ). Takes f.1 (word n) s.1) special.0 st.takes in
    let mw : Takes s.1 (word m.0) m.1 = subst (λ (n : ℕ). Takes s.1 (word n) m.1) mask.0 mt.takes in
    record {
      bytes = words_of a s.0 wt.number;
      takes = Takes-then tw (Takes-then fw (Takes-then sw (Takes-then mw wt.takes)));
      spells = record {
        special = s.0;
        number = wt.number;
        type_number = number.1;
        flags = flags.1;
        mask = mask.1;
        who = says.names;
        spelled = refl;
      };
      known = says.known;
      light = mask.2;
    }

-- an ACE of nfsacl41i is read if and only if it is spelled
pub reader_by_number : IsReader SpellsById ace_by_number
unfolding ace_by_number
reader_by_number = record { take_ace = takes; again = again } where
  takes : (bits : ℕ) (p : Place) (x : AnyAce × Place) → IsBytes p.rest → ace_by_number bits p ≡ Ok x
      → TakesAce SpellsById bits p x.0 x.1
  takes bits p x fits e =
      bind_then (word_at (λ n. listed (type_of n)) p) _ x e (λ t te tr.
      bind_then (word_at (λ n. listed (flags_of full n)) t.1) _ x tr (λ f fe fr.
      bind_then (word_at special_of f.1) _ x fr (λ s se sr.
      bind_then (word_at (λ n. listed (mask_of full bits n)) s.1) _ x sr (λ m me mr.
      bind_then (word_at (who_by_number t.0 s.0) m.1) _ x mr (λ w we wr.
      subst (λ (y : AnyAce × Place). TakesAce SpellsById bits p y.0 y.1) (ok_is _ x wr)
      (takes_words bits p t f s m w fits te fe se me we))))))

  again : (bits at : ℕ) (a : AnyAce) (bytes rest : List ℕ) → SpellsById a bytes
      → is_unknown_deny a.type_number a.who ≡ false → bits + count_ones a.mask ≤ most_weight
      → ace_by_number bits (place at (bytes ++ rest)) ≡ Ok (a, place (at + length bytes) rest)
  again bits at a bytes rest h known light =
      let r = number_again a.type_number h.special h.number a.who h.who known in
      let low = within_le all_flags a.flags h.flags in
      let small = within_le all_rights a.mask h.mask in
      let r4 = word h.number ++ rest in
      let r3 = word a.mask ++ r4 in
      let r2 = word h.special ++ r3 in
      let r1 = word a.flags ++ r2 in
      let long : length bytes ≡ 20 = ap length h.spelled in
      ap (λ (t : List ℕ). ace_by_number bits (place at (t ++ rest))) h.spelled
      ∙ ap (λ (t : List ℕ). ace_by_number bits (place at t))
      (five_regrouped (word a.type_number) (word a.flags) (word h.special) (word a.mask) (word h.number) rest)
      ∙ bind-ok _ (word_again (λ n. listed (type_of n)) at a.type_number r1 a.type_number
      (let t = h.type_number in omega arith) (listed_again _ a.type_number (type_again a.type_number h.type_number)))
      ∙ bind-ok _ (word_again (λ n. listed (flags_of full n)) (at + 4) a.flags r2 a.flags (omega (arith, low))
      (listed_again _ a.flags (flags_accepted a.flags h.flags)))
      ∙ bind-ok _ (word_again special_of (at + 4 + 4) h.special r3 h.special (let s = r.low in omega arith)
      (special_accepted h.special r.low))
      ∙ bind-ok _ (word_again (λ n. listed (mask_of full bits n)) (at + 4 + 4 + 4) a.mask r4 a.mask
      (omega (arith, small)) (listed_again _ a.mask (mask_again bits a.mask h.mask light)))
      ∙ bind-ok _ (word_again (who_by_number a.type_number h.special) (at + 4 + 4 + 4 + 4) h.number rest a.who r.fits
      r.read)
      ∙ ap (λ (k : ℕ). Ok (a, place k rest)) (omega (arith, long))
