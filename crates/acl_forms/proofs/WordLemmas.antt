-- A word that is read is the word that was written, and what was written is read again.
use Rattle.std.proofs.Common.{◌≡◌, ◌∙◌, ◌+◌, ◌<◌, ◌≤◌, ◌^◌, ◌++◌, ℕ, List, bit_and, false, ltb, Result, Ok, Err, length, take, drop, arith, refl, ap, sym, subst, length-append}
use Rattle.std.proofs.lemmas.Bool.{le-ltb, ltb-false, eq-eqb}
use Rattle.std.proofs.lemmas.Bool.Decides.{nat_tests}
use Rattle.std.proofs.lemmas.List.{length-take, take-append-drop}
use Rattle.std.proofs.lemmas.Nat.{and_le_r, be_bytes_4, from_be_bytes-to_be_bytes_4}
use Rattle.acl_nfs4.proofs.Exports.{IsBytes-drop, IsBytes-take, Takes, guard_ok, ok_is, place}
use Rattle.acl_nfs4.specs.Fields.{number}
use Rattle.acl_nfs4.specs.Spelling.{word}
use Rattle.acl_nfs4.specs.internal.Progress.{IsBytes}
use Rattle.acl_nfs4.specs.internal.Reading.{Place}
use Rattle.acl_nfs4.specs.declared.xdr.fault.Reason.TheVariants.{Truncated}
use Rattle.acl_forms.specs.AclFlags.{IsAclFlags, all_acl_flags}
use Rattle.acl_forms.specs.ReadFaults.{read_fault_at}
use Rattle.acl_forms.specs.Words.{acl_flags_of, judged_word, start, word_at}
use Rattle.acl_forms.specs.declared.fault.ReadReason.{ReadReason}
use Rattle.acl_forms.specs.declared.fault.ReadReason.TheVariants as reason

-- ---- words

-- a whole word that gives a value was accepted, and reading continues after it
judged_ok : {A : Type 0} (p : Place) (r : Result A ReadReason) (x : A × Place) → judged_word p r ≡ Ok x
    → (r ≡ Ok x.0) × (place (p.at + 4) (drop 4 p.rest) ≡ x.1)
judged_ok p (Ok y) x e =
    let h : (y, place (p.at + 4) (drop 4 p.rest)) ≡ x = ok_is _ _ e in (ap (λ z. Ok z.0) h, ap (λ z. z.1) h)
judged_ok p (Err d) x e = absurd cc

-- a word that was read is taken, and its number is accepted
pub record Taken {A : Type 0} (means : ℕ → Result A ReadReason) (p : Place) (x : A × Place) : Type 0 where
  pub number : ℕ
  pub accepted : means number ≡ Ok x.0
  pub takes : Takes p (word number) x.1
  pub fits : number < 2 ^ 32

-- a word that gave a value was taken
pub word_takes : {A : Type 0} (means : ℕ → Result A ReadReason) (p : Place) (x : A × Place) → IsBytes p.rest
    → word_at means p ≡ Ok x → Taken means p x
word_takes means p x fits e =
    let g = guard_ok (ltb (length p.rest) 4) (read_fault_at p.at (reason.List Truncated))
    (judged_word p (means (number (take 4 p.rest)))) x e in
    let j = judged_ok p (means (number (take 4 p.rest))) x g.1 in
    let long : 4 ≤ length p.rest = ltb-false _ _ g.0 in
    let len : length (take 4 p.rest) ≡ 4 = omega (arith, length-take 4 p.rest) in
    let b = IsBytes-take 4 p.rest fits in
    let front : word (number (take 4 p.rest)) ≡ take 4 p.rest = be_bytes_4 (take 4 p.rest) _ len b refl in
    let made : Takes p (take 4 p.rest) (place (p.at + 4) (drop 4 p.rest)) =
    record {
      parts = sym (take-append-drop 4 p.rest);
      counted = omega (arith, len);
      bytes = IsBytes-drop 4 p.rest fits;
    } in
    let whole : Takes p (take 4 p.rest) x.1 = subst (λ (q : Place). Takes p (take 4 p.rest) q) j.1 made in
    record {
      number = number (take 4 p.rest);
      accepted = j.0;
      takes = subst (λ (w : List ℕ). Takes p w x.1) (sym front) whole;
      fits = omega (arith, b 0, b 1, b 2, b 3);
    }

-- a word that was written is read again
pub word_again : {A : Type 0} (means : ℕ → Result A ReadReason) (at n : ℕ) (rest : List ℕ) (x : A) → n < 2 ^ 32
    → means n ≡ Ok x → word_at means (place at (word n ++ rest)) ≡ Ok (x, place (at + 4) rest)
word_again means at n rest x lt e =
    let long : ltb (length (word n ++ rest)) 4 ≡ false = le-ltb _ _ (omega (arith, length-append (word n) rest)) in
    let same : means (number (word n)) ≡ Ok x = ap means (from_be_bytes-to_be_bytes_4 n lt) ∙ e in
    rw long (ap (judged_word (place at (word n ++ rest))) same)

-- what was read to this place was spelled
pub record SpelledTo (Spelled : List ℕ → Type 0) (bytes : List ℕ) (end : Place) : Type 0 where
  pub text : List ℕ
  pub is : Spelled text
  pub parts : bytes ≡ text ++ end.rest
  pub here : end.at ≡ length text

-- ---- the word of flags

-- flags that were read are flags of the standard
pub flags_are : (n m : ℕ) → acl_flags_of n ≡ Ok m → (n ≡ m) × IsAclFlags m
flags_are n m e = grind (arith, nat_tests)

-- flags of the standard are accepted
flags_accepted : (n : ℕ) → IsAclFlags n → acl_flags_of n ≡ Ok n
flags_accepted n is = rw (eq-eqb (bit_and n all_acl_flags) n is) refl

-- a set of flags is a word
pub flags_lt : (n : ℕ) → IsAclFlags n → n < 2 ^ 32
flags_lt n is = let le : n ≤ all_acl_flags = rw (← is) (and_le_r n all_acl_flags) in omega arith

-- flags that were read are flags, and the bytes are their word and the rest
pub flags_found : (bytes : List ℕ) (flags : ℕ) (after : Place) → IsBytes bytes
    → word_at acl_flags_of (start bytes) ≡ Ok (flags, after)
    → IsAclFlags flags × (bytes ≡ word flags ++ after.rest) × IsBytes after.rest
flags_found bytes flags after fits e =
    let t = word_takes acl_flags_of (start bytes) (flags, after) fits e in
    let h = flags_are t.number flags t.accepted in
    (h.1, t.takes.parts ∙ ap (λ (n : ℕ). word n ++ after.rest) h.0, t.takes.bytes)

-- flags before other bytes are read again
pub flags_again : (bytes : List ℕ) (flags : ℕ) (text : List ℕ) → IsAclFlags flags → bytes ≡ word flags ++ text
    → word_at acl_flags_of (start bytes) ≡ Ok (flags, place 4 text)
flags_again bytes flags text is e =
    ap (λ (b : List ℕ). word_at acl_flags_of (start b)) e
    ∙ word_again acl_flags_of 0 flags text flags (flags_lt flags is) (flags_accepted flags is)
