-- Bytes are read as the flags and the words of an ACE with ids if and only if they spell them.
use Rattle.std.proofs.Common.{◌≡◌, ◌∙◌, ◌+◌, ◌≤◌, ◌++◌, ℕ, List, Option, Some, None, Result, Ok, Err, refl, ap, sym, subst, arith, append_assoc}
use Rattle.std.specs.Prelude.{IsSome, bit_and, count_ones, OnOk}
use Rattle.std.proofs.lemmas.Bool.{eq-eqb, le-leb, le-ltb}
use Rattle.std.proofs.lemmas.Bool.Decides.{nat_tests}
use Rattle.acl_perm.specs.Bits.{all_flags, all_rights}
use Rattle.acl_perm.specs.Kind.{kind_number}
use Rattle.acl_perm.specs.Profile.{full}
use Rattle.acl_perm.specs.declared.kind.Kind.{Kind}
use Rattle.acl_nfs4.proofs.Exports.{Takes, Takes-then, bind-ok, bind_then, kind_again, kind_is, kind_lt, ok_is, place, within_le}
use Rattle.acl_nfs4.specs.Ace.{Ace}
use Rattle.acl_nfs4.specs.Fields.{flags_of, kind_of, mask_of}
use Rattle.acl_nfs4.specs.Limits.{most_weight}
use Rattle.acl_nfs4.specs.Spelling.{IsAce, word}
use Rattle.acl_nfs4.specs.Within.{IsWithin}
use Rattle.acl_nfs4.specs.internal.Progress.{IsBytes}
use Rattle.acl_nfs4.specs.internal.Reading.{Place}
use Rattle.acl_nfs4.specs.declared.xdr.fault.Reason.{Reason}
use Rattle.acl_forms.specs.Acl41Ids.{id_ace_bytes, id_piece, special_of, id_who_of, whom_words}
use Rattle.acl_forms.specs.Words.{listed, word_at}
unfoldable use Rattle.acl_forms.specs.internal.IdAces.{id_ace_at}
use Rattle.acl_forms.proofs.WhoLemmas.{reads_who, says_who}
use Rattle.acl_forms.proofs.WordLemmas.{word_again, word_takes}

-- ---- what each word says

-- what is said of a field of nfsace4<> is a value if and only if it is accepted there
pub listed_ok : {A : Type 0} (r : Result A Reason) (x : A) → listed r ≡ Ok x → r ≡ Ok x
listed_ok (Ok y) x e = ap (λ z. Ok z) (ok_is y x e)
listed_ok (Err f) x e = absurd cc

-- an accepted field of nfsace4<> is said to be accepted
pub listed_again : {A : Type 0} (r : Result A Reason) (x : A) → r ≡ Ok x → listed r ≡ Ok x
listed_again r x e = ap listed e

-- flags that were read are ones of the standard
pub flags_are : (n m : ℕ) → flags_of full n ≡ Ok m → (n ≡ m) × IsWithin all_flags m
flags_are n m e = grind (arith, nat_tests)

-- flags of the standard are accepted
pub flags_accepted : (n : ℕ) → IsWithin all_flags n → flags_of full n ≡ Ok n
flags_accepted n within = rw (eq-eqb (bit_and n all_flags) n within) refl

-- a mask that was read is one of the standard, and light enough
pub mask_is : (weight n m : ℕ) → mask_of full weight n ≡ Ok m
    → (n ≡ m) × IsWithin all_rights m × (weight + count_ones m ≤ most_weight)
mask_is weight n m e = grind (arith, nat_tests)

-- a mask of the standard that is light enough is accepted
pub mask_again : (weight n : ℕ) → IsWithin all_rights n → weight + count_ones n ≤ most_weight
    → mask_of full weight n ≡ Ok n
mask_again weight n within light =
    rw (eq-eqb (bit_and n all_rights) n within, le-ltb most_weight (weight + count_ones n) light) refl

-- whether the who is special, as it was read
pub special_is : (n m : ℕ) → special_of n ≡ Ok m → (n ≡ m) × (m ≤ 1)
special_is n m e = grind (arith, nat_tests)

-- 0 and 1 are accepted
pub special_accepted : (n : ℕ) → n ≤ 1 → special_of n ≡ Ok n
special_accepted n le = rw (le-leb n 1 le) refl

-- ---- an ACE

-- an ACE was read and taken, and a list of this weight can accept it
pub record TakesIdAce (weight : ℕ) (p : Place) (a : Ace) (q : Place) : Type 0 where
  pub takes : Takes p (id_piece a) q
  pub is : IsAce full a
  pub light : weight + count_ones a.mask ≤ most_weight
  pub id : IsSome (whom_words a.who)

-- the piece of an ACE with these words
pub piece_of : (a : Ace) (words : ℕ × ℕ) → whom_words a.who ≡ Some words → id_ace_bytes a words ≡ id_piece a
piece_of a words e = rw e refl

-- there is a value
IsSome-Some : {A : Type 0} (o : Option A) (x : A) → o ≡ Some x → IsSome o
IsSome-Some o x e = rw e refl

-- if each word of an ACE was read, the ACE was read
takes_words : (weight : ℕ) (p : Place) (k : Kind × Place) (f s m : ℕ × Place) (w : List ℕ × Place)
    → IsBytes p.rest → word_at (λ n. listed (kind_of n)) p ≡ Ok k → word_at (λ n. listed (flags_of full n)) k.1 ≡ Ok f
    → word_at special_of f.1 ≡ Ok s → word_at (λ n. listed (mask_of full weight n)) s.1 ≡ Ok m
    → word_at (id_who_of s.0) m.1 ≡ Ok w
    → TakesIdAce weight p (record { kind = k.0; flags = f.0; mask = m.0; who = w.0 }) w.1
takes_words weight p k f s m w fits ke fe se me we =
    let kt = word_takes (λ n. listed (kind_of n)) p k fits ke in
    let ft = word_takes (λ n. listed (flags_of full n)) k.1 f kt.takes.bytes fe in
    let st = word_takes special_of f.1 s ft.takes.bytes se in
    let mt = word_takes (λ n. listed (mask_of full weight n)) s.1 m st.takes.bytes me in
    let wt = word_takes (id_who_of s.0) m.1 w mt.takes.bytes we in
    let kind = kind_is kt.number k.0 (listed_ok (kind_of kt.number) k.0 kt.accepted) in
    let flags = flags_are ft.number f.0 (listed_ok (flags_of full ft.number) f.0 ft.accepted) in
    let special = special_is st.number s.0 st.accepted in
    let mask = mask_is weight mt.number m.0 (listed_ok (mask_of full weight mt.number) m.0 mt.accepted) in
    let says = says_who s.0 wt.number w.0 special.1 wt.accepted in
    let a : Ace = record { kind = k.0; flags = f.0; mask = m.0; who = w.0 } in
    let kw : Takes p (word (kind_number k.0)) k.1 = subst (λ (n : ℕ). Takes p (word n) k.1) kind kt.takes in
    let fw : Takes k.1 (word f.0) f.1 = subst (λ (n : ℕ). Takes k.1 (word n) f.1) flags.0 ft.takes in
    let sw : Takes f.1 (word s.0) s.1 = subst (λ (n : ℕ). Takes f.1 (word n) s.1) special.0 st.takes in
    let mw : Takes s.1 (word m.0) m.1 = subst (λ (n : ℕ). Takes s.1 (word n) m.1) mask.0 mt.takes in
    let all : Takes p (id_ace_bytes a (s.0, wt.number)) w.1 =
    Takes-then kw (Takes-then fw (Takes-then sw (Takes-then mw wt.takes))) in
    record {
      takes = subst (λ (t : List ℕ). Takes p t w.1) (piece_of a (s.0, wt.number) says.words) all;
      is = record { flags = flags.1; mask = mask.1; who = says.is };
      light = mask.2;
      id = IsSome-Some (whom_words w.0) (s.0, wt.number) says.words;
    }

-- reading an ACE takes its bytes
pub ace_takes : (weight : ℕ) (p : Place) (x : Ace × Place) → IsBytes p.rest → id_ace_at weight p ≡ Ok x
    → TakesIdAce weight p x.0 x.1
unfolding id_ace_at
ace_takes weight p x fits e =
    bind_then (word_at (λ n. listed (kind_of n)) p) _ x e (λ k ke kr.
    bind_then (word_at (λ n. listed (flags_of full n)) k.1) _ x kr (λ f fe fr.
    bind_then (word_at special_of f.1) _ x fr (λ s se sr.
    bind_then (word_at (λ n. listed (mask_of full weight n)) s.1) _ x sr (λ m me mr.
    bind_then (word_at (id_who_of s.0) m.1) _ x mr (λ w we wr.
    subst (λ (y : Ace × Place). TakesIdAce weight p y.0 y.1) (ok_is _ x wr)
    (takes_words weight p k f s m w fits ke fe se me we))))))

-- the five words of an ACE before other bytes
pub five_regrouped : (a b c d e f : List ℕ) → (a ++ (b ++ (c ++ (d ++ e)))) ++ f ≡ a ++ (b ++ (c ++ (d ++ (e ++ f))))
five_regrouped a b c d e f = simp append_assoc

-- the words of an ACE that has an id
pub with_words : {C : Type 0} (o : Option (ℕ × ℕ)) → IsSome o → ((x : ℕ × ℕ) → o ≡ Some x → C) → C
with_words (Some x) is go = go x refl
with_words None is go = absurd cc

-- an ACE with an id is read again
pub ace_again : (weight at : ℕ) (a : Ace) (rest : List ℕ) → IsAce full a → IsSome (whom_words a.who)
    → weight + count_ones a.mask ≤ most_weight
    → id_ace_at weight (place at (id_piece a ++ rest)) ≡ Ok (a, place (at + 4 + 4 + 4 + 4 + 4) rest)
unfolding id_ace_at
ace_again weight at a rest is id light = with_words (whom_words a.who) id (λ x e.
    let r = reads_who a.who x e in
    let r4 = word x.1 ++ rest in
    let r3 = word a.mask ++ r4 in
    let r2 = word x.0 ++ r3 in
    let r1 = word a.flags ++ r2 in
    let low = within_le all_flags a.flags is.flags in
    let small = within_le all_rights a.mask is.mask in
    ap (λ (t : List ℕ). id_ace_at weight (place at (t ++ rest))) (sym (piece_of a x e))
    ∙ ap (λ (t : List ℕ). id_ace_at weight (place at t))
    (five_regrouped (word (kind_number a.kind)) (word a.flags) (word x.0) (word a.mask) (word x.1) rest)
    ∙ bind-ok _ (word_again (λ n. listed (kind_of n)) at (kind_number a.kind) r1 a.kind (kind_lt a.kind)
    (listed_again _ a.kind (kind_again a.kind)))
    ∙ bind-ok _ (word_again (λ n. listed (flags_of full n)) (at + 4) a.flags r2 a.flags (omega (arith, low))
    (listed_again _ a.flags (flags_accepted a.flags is.flags)))
    ∙ bind-ok _ (word_again special_of (at + 4 + 4) x.0 r3 x.0 (let s = r.special in omega arith)
    (special_accepted x.0 r.special))
    ∙ bind-ok _ (word_again (λ n. listed (mask_of full weight n)) (at + 4 + 4 + 4) a.mask r4 a.mask
    (omega (arith, small)) (listed_again _ a.mask (mask_again weight a.mask is.mask light)))
    ∙ bind-ok _ (word_again (id_who_of x.0) (at + 4 + 4 + 4 + 4) x.1 rest a.who r.fits r.read))

-- what holds anyway holds of a result that is a value
pub on_ok : {E P : Type 0} (r : Result (Unit {0}) E) → P → OnOk r P
on_ok (Ok x) p = p
on_ok (Err e) p = tt
