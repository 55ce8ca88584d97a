-- The first wrong field of a value is the fault of a reader that reads its fields one after the other.
use Rattle.std.proofs.Common.{◌≡◌, ◌∙◌, ◌+◌, ◌<◌, ◌^◌, ◌++◌, ℕ, Bool, cond, drop, ltb, List, [], ◌∷◌, None, Some, Result, Ok, Err, length, take, refl, ap, sym, subst, arith, inl, inr}
use Rattle.std.proofs.lemmas.Bool.{cases_lt, le-ltb, lt-ltb}
use Rattle.acl_perm.specs.internal.Steps.{◌>>=◌}
use Rattle.acl_nfs4.proofs.Exports.{Takes, bind-ok, place}
use Rattle.acl_nfs4.specs.Fields.{number}
use Rattle.acl_nfs4.specs.Layout.{Field, IsFirstWrongField, IsWrong, bytes_field, number_field, refusal}
use Rattle.acl_nfs4.specs.Layout.IsFirstWrongField.{wrong_here, wrong_later}
use Rattle.acl_nfs4.specs.Spelling.{word}
use Rattle.acl_nfs4.specs.declared.xdr.fault.Reason.TheVariants.{Truncated}
use Rattle.acl_nfs4.specs.internal.Reading.{Place}
use Rattle.acl_forms.specs.ReadFaults.{read_fault_at}
use Rattle.acl_forms.specs.Words.{judged_word, word_at}
use Rattle.acl_forms.specs.declared.fault.ReadFault.{ReadFault}
use Rattle.acl_forms.specs.declared.fault.ReadReason.{ReadReason}
use Rattle.acl_forms.specs.declared.fault.ReadReason.TheVariants as reason
use Rattle.acl_forms.specs.internal.AnyAces.{bytes_at, judged_bytes}
use Rattle.acl_forms.proofs.PartLists.{bytes_again}
use Rattle.acl_forms.proofs.WordLemmas.{word_again}

-- bytes end inside a field
abbrev pub cut : ReadReason
cut = reason.List Truncated

-- ---- steps that fail

-- a value, as a result that may be a fault
abbrev value : {A : Type 0} → A → Result A ReadFault
value x = Ok x

-- no value is a fault
pub no_fault : {A : Type 0} (x : A) (f : ReadFault) → value x ≡ Err f → ⊥
no_fault x f e = cc

-- a fault, as a result of a given type
abbrev bad : {A : Type 0} → ReadFault → Result A ReadFault
bad f = Err f

-- equal results have equal faults
bad_is : {A : Type 0} (f g : ReadFault) → bad {A = A} f ≡ bad g → f ≡ g
bad_is f g e = cc

-- if two steps fail, the first fails, or it gives a value and the second fails
pub either_fails : {A B C : Type 0} (r : Result A ReadFault) (next : A → Result B ReadFault) (f : ReadFault)
    → (r >>= next) ≡ Err f → (r ≡ Err f → C) → ((x : A) → r ≡ Ok x → next x ≡ Err f → C) → C
either_fails (Ok x) next f e first later = later x refl e
either_fails {A = A} (Err g) next f e first later = first (ap (λ (h : ReadFault). bad {A = A} h) (bad_is g f e))

-- a step that fails ends the reading
pub ends : {A B : Type 0} {r : Result A ReadFault} (next : A → Result B ReadFault) {f : ReadFault} → r ≡ Err f
    → (r >>= next) ≡ Err f
ends next e = rw e refl

-- a value that is not refused is accepted
accepted : {A R C : Type 0} (result : Result A R) → refusal result ≡ None → ((x : A) → result ≡ Ok x → C) → C
accepted (Ok x) right go = go x refl
accepted (Err r) right go = absurd cc

-- a value that is refused for a reason is an error with that reason
refused_is : {A R : Type 0} (result : Result A R) (r : R) → refusal result ≡ Some r → result ≡ Err r
refused_is (Ok x) r refused = absurd cc
refused_is (Err d) r refused = cc

-- a word is read as its four bytes are
word_is_bytes : {A : Type 0} (means : ℕ → Result A ReadReason) (p : Place)
    → word_at means p ≡ bytes_at 4 (λ b. means (number b)) p
word_is_bytes {A = A} means p = ap (λ (r : Result (A × Place) ReadFault).
    cond (ltb (length p.rest) 4) (Err (read_fault_at p.at cut)) r) (same (means (number (take 4 p.rest))))
  where
    same : (r : Result A ReadReason) → judged_word p r ≡ judged_bytes 4 p r
    same (Ok x) = refl
    same (Err r) = refl

-- ---- from a fault to the field that is wrong

-- a fault is that of the first wrong field of bytes that begin at this place
pub record FailsIn (fields : List (Field ReadReason)) (at : ℕ) (bytes : List ℕ) (f : ReadFault) : Type 0 where
  pub more : ℕ
  pub wrong : IsFirstWrongField cut fields bytes more f.reason
  pub here : f.offset ≡ at + more

-- a field that is wrong at its place
fails_here : (x : Field ReadReason) (xs : List (Field ReadReason)) (at : ℕ) (bytes : List ℕ) (r : ReadReason)
    (f : ReadFault) → IsWrong cut x bytes r → read_fault_at at r ≡ f → FailsIn (x ∷ xs) at bytes f
fails_here x xs at bytes r f wrong is = subst (λ (g : ReadFault). FailsIn (x ∷ xs) at bytes g) is
    (record { more = 0; wrong = wrong_here x xs bytes r wrong; here = omega arith })

-- whole bytes that are refused are refused for a reason
judged_err : {A : Type 0} (n : ℕ) (p : Place) (r : Result A ReadReason) (f : ReadFault) → judged_bytes n p r ≡ Err f
    → (why : ReadReason) × (r ≡ Err why) × (read_fault_at p.at why ≡ f)
judged_err n p (Ok x) f e = absurd (no_fault (x, place (p.at + n) (drop n p.rest)) f e)
judged_err {A = A} n p (Err r) f e = (r, refl, bad_is {A = A × Place} (read_fault_at p.at r) f e)

-- a field that fails is wrong
field_fails : {A : Type 0} (n : ℕ) (means : List ℕ → Result A ReadReason) (p : Place) (f : ReadFault)
    (x : Field ReadReason) (xs : List (Field ReadReason)) → length x.bytes ≡ n
    → ((bytes : List ℕ) → x.refuses bytes ≡ refusal (means bytes)) → bytes_at n means p ≡ Err f
    → FailsIn (x ∷ xs) p.at p.rest f
field_fails {A = A} n means p f x xs size same e =
    elim (cases_lt (length p.rest) n) [
      | inl short ↦
          let is : bad {A = A × Place} (read_fault_at p.at cut) ≡ bad f =
          sym (ap (λ (b : Bool). cond b (Err (read_fault_at p.at cut)) (judged_bytes n p (means (take n p.rest))))
          (lt-ltb _ _ short)) ∙ e in
          fails_here x xs p.at p.rest cut f (inl (omega (arith, size, short), refl)) (bad_is _ f is)
      | inr whole ↦
          let fails : judged_bytes n p (means (take n p.rest)) ≡ Err f =
          sym (ap (λ (b : Bool). cond b (Err (read_fault_at p.at cut)) (judged_bytes n p (means (take n p.rest))))
          (le-ltb _ _ whole)) ∙ e in
          let (why, refused, is) = judged_err n p (means (take n p.rest)) f fails in
          fails_here x xs p.at p.rest why f (inr (
            omega (arith, size, whole),
            ap (λ (k : ℕ). x.refuses (take k p.rest)) size ∙ same (take n p.rest)
                ∙ ap (λ (s : Result A ReadReason). refusal s) refused,
          )) is
    ]

-- a word that fails is wrong, whatever number the field has
pub word_fails : {A : Type 0} (means : ℕ → Result A ReadReason) (n : ℕ) (p : Place) (f : ReadFault)
    (xs : List (Field ReadReason)) → word_at means p ≡ Err f → FailsIn (number_field means n ∷ xs) p.at p.rest f
word_fails means n p f xs e = field_fails 4 (λ b. means (number b)) p f (number_field means n) xs refl (λ b. refl)
    (sym (word_is_bytes means p) ∙ e)

-- bytes that fail are wrong, whatever bytes of this number the field has
pub bytes_fail : {A : Type 0} (n : ℕ) (means : List ℕ → Result A ReadReason) (text : List ℕ) (p : Place)
    (f : ReadFault) (xs : List (Field ReadReason)) → length text ≡ n → bytes_at n means p ≡ Err f
    → FailsIn (bytes_field means text ∷ xs) p.at p.rest f
bytes_fail n means text p f xs long e = field_fails n means p f (bytes_field means text) xs long (λ b. refl) e

-- a field that the bytes have, before the fields of which one is wrong
fails_after : (x : Field ReadReason) (xs : List (Field ReadReason)) (p q : Place) (f : ReadFault) → x.refused ≡ None
    → Takes p x.bytes q → FailsIn xs q.at q.rest f → FailsIn (x ∷ xs) p.at p.rest f
fails_after x xs p q f right taken fails = record {
  more = length x.bytes + fails.more;
  wrong = subst (λ (b : List ℕ). IsFirstWrongField cut (x ∷ xs) b (length x.bytes + fails.more) f.reason)
      (sym taken.parts) (wrong_later x xs q.rest fails.more f.reason right fails.wrong);
  here = omega (arith, fails.here, taken.counted);
}

-- a number that was read, before the fields of which one is wrong
pub after_word : {A : Type 0} (means : ℕ → Result A ReadReason) (n : ℕ) (x : A) (xs : List (Field ReadReason))
    (p q : Place) (f : ReadFault) → means n ≡ Ok x → Takes p (word n) q → FailsIn xs q.at q.rest f
    → FailsIn (number_field means n ∷ xs) p.at p.rest f
after_word {A = A} means n x xs p q f e taken fails =
    fails_after (number_field means n) xs p q f (ap (λ (s : Result A ReadReason). refusal s) e) taken fails

-- bytes that were read, before the fields of which one is wrong
pub after_bytes : {A : Type 0} (means : List ℕ → Result A ReadReason) (text : List ℕ) (x : A)
    (xs : List (Field ReadReason)) (p q : Place) (f : ReadFault) → means text ≡ Ok x → Takes p text q
    → FailsIn xs q.at q.rest f → FailsIn (bytes_field means text ∷ xs) p.at p.rest f
after_bytes {A = A} means text x xs p q f e taken fails =
    fails_after (bytes_field means text) xs p q f (ap (λ (s : Result A ReadReason). refusal s) e) taken fails

-- ---- from the field that is wrong to the fault

-- no field of none is wrong
pub none_wrong : (fields : List (Field ReadReason)) (bytes : List ℕ) (offset : ℕ) (r : ReadReason)
    → IsFirstWrongField cut fields bytes offset r → fields ≡ [] → ⊥
none_wrong _ _ _ _ (wrong_here f fs bytes r wrong) none = absurd cc
none_wrong _ _ _ _ (wrong_later f fs rest offset r right later) none = absurd cc

-- either the first field is wrong, or the bytes have it and a later field is wrong
first_cases : {C : Type 0} (x : Field ReadReason) (xs fields : List (Field ReadReason)) (bytes : List ℕ) (offset : ℕ)
    (r : ReadReason) → IsFirstWrongField cut fields bytes offset r → fields ≡ x ∷ xs
    → (IsWrong cut x bytes r → offset ≡ 0 → C)
    → ((rest : List ℕ) (more : ℕ) → x.refused ≡ None → bytes ≡ x.bytes ++ rest → offset ≡ length x.bytes + more
    → IsFirstWrongField cut xs rest more r → C)
    → C
first_cases x xs _ _ _ _ (wrong_here f fs bytes r wrong) same now later_on =
    let head : f ≡ x = cc in
    now (subst (λ (y : Field ReadReason). IsWrong cut y bytes r) head wrong) refl
first_cases x xs _ _ _ _ (wrong_later f fs rest more r right later) same now later_on =
    let head : f ≡ x = cc in
    let tail : fs ≡ xs = cc in
    later_on rest more (subst (λ (y : Field ReadReason). y.refused ≡ None) head right)
    (ap (λ (y : Field ReadReason). y.bytes ++ rest) head) (ap (λ (y : Field ReadReason). length y.bytes + more) head)
    (subst (λ (ys : List (Field ReadReason)). IsFirstWrongField cut ys rest more r) tail later)

-- a wrong field fails
wrong_fails : {A : Type 0} (n : ℕ) (means : List ℕ → Result A ReadReason) (x : Field ReadReason) (at : ℕ)
    (bytes : List ℕ) (r : ReadReason) → length x.bytes ≡ n → ((b : List ℕ) → x.refuses b ≡ refusal (means b))
    → IsWrong cut x bytes r → bytes_at n means (place at bytes) ≡ Err (read_fault_at at r)
wrong_fails n means x at bytes r size same wrong =
    elim wrong [
      | inl short ↦
          rw (lt-ltb (length bytes) n (omega (arith, size, short.0))) (ap (λ (s : ReadReason). Err (read_fault_at at s))
          (sym short.1))
      | inr whole ↦
          let refused = refused_is (means (take n bytes)) r (sym (same (take n bytes))
          ∙ ap (λ (k : ℕ). x.refuses (take k bytes)) (sym size) ∙ whole.1) in
          rw (le-ltb (length bytes) n (omega (arith, size, whole.0)), refused) refl
    ]

-- reading fails at the first wrong field, if it does so where that is not the next one
step_fails : {A B C : Type 0} (read : Place → Result (A × Place) ReadFault) (next : A × Place → Result B ReadFault)
    (last : B → Result C ReadFault) (x : Field ReadReason) (xs : List (Field ReadReason)) (at : ℕ) (bytes : List ℕ)
    (offset : ℕ) (r : ReadReason) → (IsWrong cut x bytes r → read (place at bytes) ≡ Err (read_fault_at at r))
    → ((rest : List ℕ) (more : ℕ) → x.refused ≡ None → IsFirstWrongField cut xs rest more r
    → ((read (place at (x.bytes ++ rest)) >>= next) >>= last) ≡ Err (read_fault_at (at + length x.bytes + more) r))
    → IsFirstWrongField cut (x ∷ xs) bytes offset r
    → ((read (place at bytes) >>= next) >>= last) ≡ Err (read_fault_at (at + offset) r)
step_fails read next last x xs at bytes offset r wrong right first =
    first_cases x xs (x ∷ xs) bytes offset r first refl
    (λ bad zero_is.
    ends last (ends next (wrong bad)) ∙ ap (λ (k : ℕ). Err (read_fault_at k r)) (omega (arith, zero_is)))
    (λ rest more is_right parts sum later.
    ap (λ (b : List ℕ). (read (place at b) >>= next) >>= last) parts
    ∙ right rest more is_right later
    ∙ ap (λ (k : ℕ). Err (read_fault_at k r)) (omega (arith, sum)))

-- the same of a number
pub word_step : {A B C : Type 0} (means : ℕ → Result A ReadReason) (next : A × Place → Result B ReadFault)
    (last : B → Result C ReadFault) (n : ℕ) (xs : List (Field ReadReason)) (at : ℕ) (bytes : List ℕ) (offset : ℕ)
    (r : ReadReason) → ((x : A) → means n ≡ Ok x → n < 2 ^ 32)
    → IsFirstWrongField cut (number_field means n ∷ xs) bytes offset r
    → ((x : A) → means n ≡ Ok x → (rest : List ℕ) (more : ℕ) → IsFirstWrongField cut xs rest more r
    → (next (x, place (at + 4) rest) >>= last) ≡ Err (read_fault_at (at + 4 + more) r))
    → ((word_at means (place at bytes) >>= next) >>= last) ≡ Err (read_fault_at (at + offset) r)
word_step {B = B} means next last n xs at bytes offset r fits first go =
    step_fails (word_at means) next last (number_field means n) xs at bytes offset r
    (λ wrong. word_is_bytes means (place at bytes)
    ∙ wrong_fails 4 (λ b. means (number b)) (number_field means n) at bytes r refl (λ b. refl) wrong)
    (λ rest more right later. accepted (means n) right (λ x e.
    ap (λ (s : Result B ReadFault). s >>= last) (bind-ok next (word_again means at n rest x (fits x e) e))
    ∙ go x e rest more later))
    first

-- the same of bytes
pub bytes_step : {A B C : Type 0} (n : ℕ) (means : List ℕ → Result A ReadReason) (next : A × Place → Result B ReadFault)
    (last : B → Result C ReadFault) (text : List ℕ) (xs : List (Field ReadReason)) (at : ℕ) (bytes : List ℕ)
    (offset : ℕ) (r : ReadReason) → length text ≡ n → IsFirstWrongField cut (bytes_field means text ∷ xs) bytes offset r
    → ((x : A) → means text ≡ Ok x → (rest : List ℕ) (more : ℕ) → IsFirstWrongField cut xs rest more r
    → (next (x, place (at + n) rest) >>= last) ≡ Err (read_fault_at (at + n + more) r))
    → ((bytes_at n means (place at bytes) >>= next) >>= last) ≡ Err (read_fault_at (at + offset) r)
bytes_step {B = B} n means next last text xs at bytes offset r long first go =
    step_fails (bytes_at n means) next last (bytes_field means text) xs at bytes offset r
    (λ wrong. wrong_fails n means (bytes_field means text) at bytes r long (λ b. refl) wrong)
    (λ rest more right later. accepted (means text) right (λ x e.
    ap (λ (s : Result B ReadFault). s >>= last) (bind-ok next (bytes_again n means at text rest x long e))
    ∙ go x e rest more later
    ∙ ap (λ (k : ℕ). Err (read_fault_at (at + k + more) r)) (sym long)))
    first
