-- The first wrong field of a layout is the fault of a reader that reads field by field.
use Rattle.acl_nfs4.proofs.Common.{[], ap, arith, Bool, cases_lt, cond, Err, Fault, fault_at, field, from_be_bytes-to_be_bytes_4, inl, inr, judged, le-ltb, length, List, lt-ltb, None, number, Ok, Place, Reason, refl, Result, Some, subst, sym, take, Truncated, word, ℕ, ◌++◌, ◌+◌, ◌<◌, ◌>>=◌, ◌^◌, ◌∙◌, ◌∷◌, ◌≡◌}
use Rattle.acl_nfs4.specs.Layout.{Field, IsFirstWrongField, IsWrong, number_field, refusal}
use Rattle.acl_nfs4.specs.Layout.IsFirstWrongField.{wrong_here, wrong_later}
use Rattle.acl_nfs4.proofs.xdr.Fields.{bind-ok, field_again, place, Takes}
use Rattle.acl_nfs4.proofs.xdr.Faults.{judged_err}
use Rattle.acl_nfs4.proofs.xdr.Resume.{bind-err, field_breaks}

-- ---- refusals

-- a value that is not refused is accepted
pub accepted : {A R : Type 0} (result : Result A R) → refusal result ≡ None → (x : A) × (result ≡ Ok x)
accepted (Ok x) right = (x, refl)
accepted (Err r) right = absurd cc

-- an accepted value is not refused
pub not_refused : {A R : Type 0} (result : Result A R) (x : A) → result ≡ Ok x → refusal result ≡ None
not_refused (Ok y) x e = refl
not_refused (Err r) x e = absurd cc

-- a value that is refused for a reason is an error with that reason
refused_is : {A R : Type 0} (result : Result A R) (r : R) → refusal result ≡ Some r → result ≡ Err r
refused_is (Ok x) r refused = absurd cc
refused_is (Err d) r refused = cc

-- the word of a number means what the number means
pub number_means : {A : Type 0} (means : ℕ → Result A Reason) (n : ℕ) (x : A) → n < 2 ^ 32 → means n ≡ Ok x
    → means (number (word n)) ≡ Ok x
number_means means n x fits e = ap means (from_be_bytes-to_be_bytes_4 n fits) ∙ e

-- ---- the first wrong field

-- no field of none is wrong
pub none_wrong : {R : Type 0} {cut : R} (fields : List (Field R)) (bytes : List ℕ) (offset : ℕ) (r : R)
    → IsFirstWrongField cut fields bytes offset r → fields ≡ [] → ⊥
none_wrong _ _ _ _ (wrong_here f fs bytes r wrong) none = absurd cc
none_wrong _ _ _ _ (wrong_later f fs rest offset r right later) none = absurd cc

-- either the first field is wrong, or the bytes have it and a later field is wrong
first_cases : {R C : Type 0} {cut : R} (x : Field R) (xs fields : List (Field R)) (bytes : List ℕ) (offset : ℕ)
    (r : R) → IsFirstWrongField cut fields bytes offset r → fields ≡ x ∷ xs → (IsWrong cut x bytes r → offset ≡ 0 → C)
    → ((rest : List ℕ) (more : ℕ) → x.refused ≡ None → bytes ≡ x.bytes ++ rest → offset ≡ length x.bytes + more
    → IsFirstWrongField cut xs rest more r → C)
    → C
first_cases {R} {C} {cut} x xs _ _ _ _ (wrong_here f fs bytes r wrong) same now later_on =
    let head : f ≡ x = cc in
    now (subst (λ (y : Field R). IsWrong cut y bytes r) head wrong) refl
first_cases {R} {C} {cut} x xs _ _ _ _ (wrong_later f fs rest more r right later) same now later_on =
    let head : f ≡ x = cc in
    let tail : fs ≡ xs = cc in
    later_on rest more (subst (λ (y : Field R). y.refused ≡ None) head right)
    (ap (λ (y : Field R). y.bytes ++ rest) head) (ap (λ (y : Field R). length y.bytes + more) head)
    (subst (λ (ys : List (Field R)). IsFirstWrongField cut ys rest more r) tail later)

-- the first wrong field stays the first if there are more fields
wrong_among_more : {R : Type 0} {cut : R} (fields others : List (Field R)) (bytes : List ℕ) (offset : ℕ) (r : R)
    → IsFirstWrongField cut fields bytes offset r → IsFirstWrongField cut (fields ++ others) bytes offset r
wrong_among_more _ others _ _ _ (wrong_here f fs bytes r wrong) = wrong_here f (fs ++ others) bytes r wrong
wrong_among_more _ others _ _ _ (wrong_later f fs rest offset r right later) =
    wrong_later f (fs ++ others) rest offset r right (wrong_among_more fs others rest offset r later)

-- ---- from a fault to the field that is wrong

-- a fault is that of the first wrong field of bytes that begin at this place
pub record FailsIn (fields : List (Field Reason)) (at : ℕ) (bytes : List ℕ) (f : Fault) : Type 0 where
  pub more : ℕ
  pub wrong : IsFirstWrongField Truncated fields bytes more f.reason
  pub here : f.offset ≡ at + more

-- a field that fails is wrong
pub field_fails : {A : Type 0} (n : ℕ) (means : List ℕ → Result A Reason) (p : Place) (f : Fault) (x : Field Reason)
    (xs : List (Field Reason)) → length x.bytes ≡ n → ((bytes : List ℕ) → x.refuses bytes ≡ refusal (means bytes))
    → field n means p ≡ Err f → FailsIn (x ∷ xs) p.at p.rest f
field_fails {A} n means p f x xs size same e =
    elim (cases_lt (length p.rest) n) [
      | inl short ↦
          let cut : Err (fault_at p Truncated) ≡ Err f =
          sym (ap (λ (b : Bool). cond b (Err (fault_at p Truncated)) (judged n p (means (take n p.rest))))
          (lt-ltb _ _ short)) ∙ e in
          let is : fault_at p Truncated ≡ f = cc in
          subst (λ (g : Fault). FailsIn (x ∷ xs) p.at p.rest g) is (record {
            more = 0;
            wrong = wrong_here x xs p.rest Truncated (inl (omega (arith, size, short), refl));
            here = omega arith;
          })
      | inr whole ↦
          let fails : judged n p (means (take n p.rest)) ≡ Err f =
          sym (ap (λ (b : Bool). cond b (Err (fault_at p Truncated)) (judged n p (means (take n p.rest))))
          (le-ltb _ _ whole)) ∙ e in
          let (reason, refused, is) = judged_err n p (means (take n p.rest)) f fails in
          let why : x.refuses (take (length x.bytes) p.rest) ≡ Some reason =
          ap (λ (k : ℕ). x.refuses (take k p.rest)) size ∙ same (take n p.rest)
          ∙ ap (λ (s : Result A Reason). refusal s) refused in
          subst (λ (g : Fault). FailsIn (x ∷ xs) p.at p.rest g) is (record {
            more = 0;
            wrong = wrong_here x xs p.rest reason (inr (omega (arith, size, whole), why));
            here = omega arith;
          })
    ]

-- a field that the bytes have, before the fields of which one is wrong
pub fails_after : (x : Field Reason) (xs : List (Field Reason)) (at next : ℕ) (bytes rest : List ℕ) (f : Fault)
    → x.refused ≡ None → bytes ≡ x.bytes ++ rest → next ≡ at + length x.bytes → FailsIn xs next rest f
    → FailsIn (x ∷ xs) at bytes f
fails_after x xs at next bytes rest f right parts sum fails = record {
  more = length x.bytes + fails.more;
  wrong = subst (λ (b : List ℕ). IsFirstWrongField Truncated (x ∷ xs) b (length x.bytes + fails.more) f.reason) (sym parts)
      (wrong_later x xs rest fails.more f.reason right fails.wrong);
  here = omega (arith, fails.here, sum);
}

-- a number that was read, before the fields of which one is wrong
pub fails_after_number : {A : Type 0} (means : ℕ → Result A Reason) (n : ℕ) (x : A) (xs : List (Field Reason))
    (p q : Place) (f : Fault) → means n ≡ Ok x → Takes p (word n) q → FailsIn xs q.at q.rest f
    → FailsIn (number_field means n ∷ xs) p.at p.rest f
fails_after_number means n x xs p q f e taken fails =
    fails_after (number_field means n) xs p.at q.at p.rest q.rest f (not_refused (means n) x e) taken.parts
    taken.counted fails

-- the same fault, if there are more fields
pub fails_among_more : (fields others : List (Field Reason)) (at : ℕ) (bytes : List ℕ) (f : Fault)
    → FailsIn fields at bytes f → FailsIn (fields ++ others) at bytes f
fails_among_more fields others at bytes f fails = record {
  more = fails.more;
  wrong = wrong_among_more fields others bytes fails.more f.reason fails.wrong;
  here = fails.here;
}

-- ---- from the field that is wrong to the fault

-- a wrong field fails
wrong_fails : {A : Type 0} (n : ℕ) (means : List ℕ → Result A Reason) (x : Field Reason) (at : ℕ) (bytes : List ℕ)
    (r : Reason) → length x.bytes ≡ n → ((b : List ℕ) → x.refuses b ≡ refusal (means b))
    → IsWrong Truncated x bytes r → field n means (place at bytes) ≡ Err (record { offset = at; reason = r })
wrong_fails n means x at bytes r size same wrong =
    elim wrong [
      | inl short ↦
          field_breaks n means (place at bytes) (length bytes) r
          (inl (omega (arith, size, short.0), refl, short.1))
      | inr whole ↦
          field_breaks n means (place at bytes) n r (inr (
            omega (arith, size, whole.0),
            refl,
            refused_is (means (take n bytes)) r (sym (same (take n bytes))
                ∙ ap (λ (k : ℕ). x.refuses (take k bytes)) (sym size) ∙ whole.1),
          ))
    ]

-- reading fails at the first wrong field, if it does so where that is not the next one
pub step_fails : {A B C : Type 0} (n : ℕ) (means : List ℕ → Result A Reason) (next : A × Place → Result B Fault)
    (last : B → Result C Fault) (value : A) (x : Field Reason) (xs : List (Field Reason)) (at : ℕ) (bytes : List ℕ)
    (offset : ℕ) (r : Reason) → length x.bytes ≡ n → ((b : List ℕ) → x.refuses b ≡ refusal (means b))
    → (x.refused ≡ None → means x.bytes ≡ Ok value)
    → IsFirstWrongField Truncated (x ∷ xs) bytes offset r
    → ((rest : List ℕ) (more : ℕ) → IsFirstWrongField Truncated xs rest more r
    → (next (value, place (at + n) rest) >>= last) ≡ Err (record { offset = at + n + more; reason = r }))
    → ((field n means (place at bytes) >>= next) >>= last) ≡ Err (record { offset = at + offset; reason = r })
step_fails {A} {B} {C} n means next last value x xs at bytes offset r size same right first go =
    first_cases x xs (x ∷ xs) bytes offset r first refl
    (λ wrong zero_is.
    bind-err last (bind-err next (wrong_fails n means x at bytes r size same wrong))
    ∙ ap (λ (k : ℕ). Err (record { offset = k; reason = r })) (omega (arith, zero_is)))
    (λ rest more is_right parts sum later.
    ap (λ (b : List ℕ). (field n means (place at b) >>= next) >>= last) parts
    ∙ ap (λ (s : Result B Fault). s >>= last)
    (bind-ok next (field_again n means at x.bytes rest value size (right is_right)))
    ∙ go rest more later
    ∙ ap (λ (k : ℕ). Err (record { offset = k; reason = r })) (omega (arith, sum, size)))
