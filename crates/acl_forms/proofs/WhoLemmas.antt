-- The words of a who: a who that is read of two words has these words, and the words of a who are read as this who.
use Rattle.std.proofs.Common.{◌≡◌, ◌∙◌, ◌<◌, ◌≤◌, ◌^◌, ℕ, Bool, true, false, cond, eqb, List, Option, Some, None, Ok, Err, refl, ap, sym, subst, arith}
use Rattle.std.specs.Prelude.{◌&&◌, IfSome, IsSome, nat_le, option_map}
use Rattle.std.specs.Fmt.{decimal}
use Rattle.std.specs.Str.{bytes_eq, IsUtf8}
use Rattle.std.specs.Str.Parse.{ParsesUnsigned, digits_value}
use Rattle.std.proofs.lemmas.Bool.{eqb-true, le-leb, leb-true}
use Rattle.std.proofs.lemmas.Fmt.{decimal_is_IsNumeral, parse-decimal, IsAscii-decimal}
use Rattle.std.proofs.lemmas.Slice.Eq.{bytes_eq-Decides}
use Rattle.std.proofs.lemmas.Str.{IsUtf8-from_ascii}
use Rattle.acl_perm.proofs.Bools.{and_true}
use Rattle.acl_posix.specs.Id.{IsId, greatest_id}
use Rattle.acl_posix.specs.declared.id.Id.{Id}
use Rattle.acl_posix.proofs.Exports.{bytes_eq-unequal, not_decimal}
use Rattle.acl_nfs4.specs.Who.{IsWho, everyone_name, group_name, owner_name}
use Rattle.acl_nfs4.specs.declared.xdr.fault.Reason.TheVariants.{SpecialWho}
use Rattle.acl_nfs4.proofs.Exports.{ok, ok_is, is_who-decimal, is_who-everyone, is_who-group, is_who-owner}
use Rattle.acl_forms.specs.Acl41Ids.{id_of_digits, id_who, special_who}
unfoldable use Rattle.acl_forms.specs.Acl41Ids.{id_who_of, whom_words}
use Rattle.acl_forms.specs.declared.fault.ReadReason.TheVariants as reason

-- ---- the id of decimal digits

-- digits are the decimal digits of their number
pub id_again : (n : ℕ) → IsId n → id_of_digits (decimal n) ≡ Some n
id_again n is =
    let value : digits_value 10 (decimal n) ≡ n = (decimal_is_IsNumeral n (omega arith)).1 in
    let low : nat_le n greatest_id ≡ true = le-leb n greatest_id is in
    let same : bytes_eq (decimal n) (decimal n) ≡ true = (bytes_eq-Decides (decimal n) (decimal n)).1 refl in
    rw (value, low, same) refl

-- a who with an id is the decimal digits of the id
pub id_is : (who : List ℕ) (n : ℕ) → id_of_digits who ≡ Some n → (who ≡ decimal n) × IsId n
id_is who n e =
    by (digits_value 10 who)
    (nat_le (digits_value 10 who) greatest_id && bytes_eq who (decimal (digits_value 10 who))) refl e
  where
    by : (v : ℕ) (b : Bool) → (nat_le v greatest_id && bytes_eq who (decimal v)) ≡ b → cond b (Some v) None ≡ Some n
        → (who ≡ decimal n) × IsId n
    by v true t e =
        let same : v ≡ n = cc in
        let both = and_true (nat_le v greatest_id) (bytes_eq who (decimal v)) t in (
          (bytes_eq-Decides who (decimal v)).0 both.1 ∙ ap decimal same,
          subst IsId same (leb-true v greatest_id both.0),
        )
    by v false t e = absurd cc

-- a who that is the digits of no id has no id
pub no_id : (who : List ℕ) → ((n : ℕ) → IsId n → who ≡ decimal n → ⊥) → None ≡ id_of_digits who
no_id who none = by (id_of_digits who) refl
  where
    by : (o : Option ℕ) → id_of_digits who ≡ o → None ≡ id_of_digits who
    by (Some n) e = let h = id_is who n e in absurd (none n h.1 h.0)
    by None e = sym e

-- a who that is the digits of an id has this id
pub id_of_digits-Some : (who : List ℕ) (n : ℕ) → IsId n → bytes_eq who (decimal n) ≡ true → Some n ≡ id_of_digits who
id_of_digits-Some who n is same = sym (ap id_of_digits ((bytes_eq-Decides who (decimal n)).0 same) ∙ id_again n is)

-- the digits of an id pass the test
pub bytes_eq-decimal : (who : List ℕ) (n : ℕ) → who ≡ decimal n → bytes_eq who (decimal n) ≡ true
bytes_eq-decimal who n e = (bytes_eq-Decides who (decimal n)).1 e

-- the digits of an id are UTF-8
pub digits_utf8 : (who : List ℕ) (n : ℕ) → IsId n → who ≡ decimal n → IsUtf8 who
digits_utf8 who n is e = subst IsUtf8 (sym e) (IsUtf8-from_ascii (decimal n) (IsAscii-decimal n (omega arith)))

-- the number that digits of an id spell is the id
pub parsed_ok : (E : Type 0) (text : List ℕ) (n m : ℕ) → IsId n → text ≡ decimal n
    → ParsesUnsigned {E = E} 32 10 text (Ok m) → m ≡ n
parsed_ok E text n m is e h =
    let r : ok {A = ℕ} {E = E} m ≡ ok n = parse-decimal 32 n text (Ok m) (omega arith) (omega arith) e h in ok_is m n r

-- the digits of an id spell a number
pub parsed_err : (E : Type 0) (text : List ℕ) (n : ℕ) (wrong : E) → IsId n → text ≡ decimal n
    → ParsesUnsigned {E = E} 32 10 text (Err wrong) → ⊥
parsed_err E text n wrong is e h =
    apart (parse-decimal 32 n text (Err wrong) (omega arith) (omega arith) e h)
  where
    apart : {E : Type 0} {wrong : E} {n : ℕ} → Err wrong ≡ ok n → ⊥
    apart e = cc

-- the value of an id that was made of a number
pub made_id : (o : Option Id) (m n : ℕ) → m ≡ n → IsId n → (IsSome o → IsId m) × (IsId m → IsSome o)
    → IfSome o (λ id. id.value ≡ m) → option_map (λ (id : Id). id.value) o ≡ Some n
made_id (Some id) m n same is made value = ap Some (value ∙ same)
made_id None m n same is made value = let some = made.1 (subst IsId (sym same) is) in absurd cc

-- ---- the two words of a who

-- what two words say of a who
pub record SaysWho (special n : ℕ) (who : List ℕ) : Type 0 where
  pub words : whom_words who ≡ Some (special, n)
  pub is : IsWho who

-- the id of a who that is read of an id
SaysWho-id_who : (n : ℕ) (who : List ℕ) → id_who n ≡ Ok who → SaysWho 0 n who
unfolding whom_words
SaysWho-id_who n who e = by (nat_le n greatest_id) refl e
  where
    by : (b : Bool) → nat_le n greatest_id ≡ b → cond b (Ok (decimal n)) (Err reason.Id) ≡ Ok who → SaysWho 0 n who
    by true t e =
        let is : IsId n = leb-true n greatest_id t in
        subst (SaysWho 0 n) (ok_is (decimal n) who e) (record {
          words =
              rw (
                bytes_eq-unequal (decimal n) owner_name (λ e. not_decimal n _ _ is (omega arith) e),
                bytes_eq-unequal (decimal n) group_name (λ e. not_decimal n _ _ is (omega arith) e),
                bytes_eq-unequal (decimal n) everyone_name (λ e. not_decimal n _ _ is (omega arith) e),
                id_again n is,
              ) refl;
          is = is_who-decimal n (omega (arith, is));
        })
    by false t e = absurd cc

-- the who that is read of the number of a special identifier
says_special : (n : ℕ) (who : List ℕ) → special_who n ≡ Ok who → SaysWho 1 n who
unfolding whom_words
says_special n who e = by (eqb n 1) (eqb n 2) (eqb n 3) refl refl refl e
  where
    by : (a b c : Bool) → eqb n 1 ≡ a → eqb n 2 ≡ b → eqb n 3 ≡ c
        → cond a (Ok owner_name) (cond b (Ok group_name) (cond c (Ok everyone_name) (Err (reason.List SpecialWho))))
        ≡ Ok who
        → SaysWho 1 n who
    by true b c p q r e = subst (λ (m : ℕ). SaysWho 1 m who) (sym (eqb-true n 1 p))
        (subst (SaysWho 1 1) (ok_is owner_name who e) (record { words = refl; is = is_who-owner }))
    by false true c p q r e = subst (λ (m : ℕ). SaysWho 1 m who) (sym (eqb-true n 2 q))
        (subst (SaysWho 1 2) (ok_is group_name who e) (record { words = refl; is = is_who-group }))
    by false false true p q r e = subst (λ (m : ℕ). SaysWho 1 m who) (sym (eqb-true n 3 r))
        (subst (SaysWho 1 3) (ok_is everyone_name who e) (record { words = refl; is = is_who-everyone }))
    by false false false p q r e = absurd cc

-- a who that is read of two words has these words
pub says_who : (special n : ℕ) (who : List ℕ) → special ≤ 1 → id_who_of special n ≡ Ok who → SaysWho special n who
unfolding id_who_of
says_who special n who le e = by (eqb special 1) refl e
  where
    by : (b : Bool) → eqb special 1 ≡ b → cond b (special_who n) (id_who n) ≡ Ok who → SaysWho special n who
    by true t e = subst (λ (m : ℕ). SaysWho m n who) (sym (eqb-true special 1 t)) (says_special n who e)
    by false t e =
        let none : special ≡ 0 = grind arith in
        subst (λ (m : ℕ). SaysWho m n who) (sym none) (SaysWho-id_who n who e)

-- what the words of a who are
pub record ReadsWho (who : List ℕ) (words : ℕ × ℕ) : Type 0 where
  pub special : words.0 ≤ 1
  pub fits : words.1 < 2 ^ 32
  pub read : id_who_of words.0 words.1 ≡ Ok who

-- the words of a special identifier
special_again : (who name : List ℕ) (n : ℕ) (words : ℕ × ℕ) → bytes_eq who name ≡ true → n < 4
    → special_who n ≡ Ok name → Some (1, n) ≡ Some words → ReadsWho who words
unfolding id_who_of
special_again who name n words same few reads e =
    let is : (1, n) ≡ words = cc in
    subst (ReadsWho who) is (record {
      special = omega arith;
      fits = omega arith;
      read = reads ∙ ap (λ (w : List ℕ). Ok w) (sym ((bytes_eq-Decides who name).0 same));
    })

-- the words of a who are read as this who
pub reads_who : (who : List ℕ) (words : ℕ × ℕ) → whom_words who ≡ Some words → ReadsWho who words
unfolding whom_words id_who_of
reads_who who words e =
    by (bytes_eq who owner_name) (bytes_eq who group_name) (bytes_eq who everyone_name) refl refl refl e
  where
    of_id : (o : Option ℕ) → id_of_digits who ≡ o → option_map (λ id. (0, id)) o ≡ Some words → ReadsWho who words
    of_id (Some n) t e =
        let pair : (0, n) ≡ words = cc in
        let h = id_is who n t in
        let le : n ≤ 4294967294 = h.1 in
        subst (ReadsWho who) pair (record {
          special = omega arith;
          fits = omega (arith, le);
          read = rw (le-leb n greatest_id h.1) (ap (λ (w : List ℕ). Ok w) (sym h.0));
        })
    of_id None t e = absurd cc

    by : (a b c : Bool) → bytes_eq who owner_name ≡ a → bytes_eq who group_name ≡ b → bytes_eq who everyone_name ≡ c
        → cond a (Some (1, 1)) (cond b (Some (1, 2)) (cond c (Some (1, 3))
        (option_map (λ id. (0, id)) (id_of_digits who)))) ≡ Some words
        → ReadsWho who words
    by true b c p q r e = special_again who owner_name 1 words p (omega arith) refl e
    by false true c p q r e = special_again who group_name 2 words q (omega arith) refl e
    by false false true p q r e = special_again who everyone_name 3 words r (omega arith) refl e
    by false false false p q r e = of_id (id_of_digits who) refl e
