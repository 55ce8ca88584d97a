-- A field that is read is the field that was written, and what was written is read again.
use Rattle.acl_nfs4.proofs.Common.{[], Allow, and_true, ap, append_assoc, arith, be_bytes_4, bit_and, Bool, cases_lt, cond, count_of, count_ones, Deny, drop, drop_at, eq-eqb, eqb, eqb-true, Err, false, fault_at, field, flags_of, from_be_bytes-to_be_bytes_4, get_or-append_right, get_or-drop, get_or-take, get_or_append_left, get_or_past, inl, inr, is_no_who_len, IsBytes, IsWho, IsWithin, judged, Kind, kind_number, kind_of, le-ltb, length, length-append, length-take, List, list_all, longest_who, ltb, ltb-false, mask_of, most_aces, most_weight, moved, None, number, Ok, Option, option_map, padding_of, Place, Profile, Reason, refl, replicate, Result, Some, subst, suc, sym, take, take-append-drop, take_at, true, Truncated, unless, who_fault, who_len_of, who_of, who_reason, WhoFault, word, word_field, zero, ℕ, ◌++◌, ◌+◌, ◌-◌, ◌<◌, ◌>>=◌, ◌^◌, ◌∙◌, ◌∷◌, ◌≡◌, ◌≤◌, take-append-add, nat_tests}

-- what is after the first bytes of a list of bytes is bytes
pub IsBytes-drop : (n : ℕ) (bytes : List ℕ) → IsBytes bytes → IsBytes (drop n bytes)
IsBytes-drop n bytes h i = rw get_or-drop (h (n + i))

-- the first bytes of a list of bytes are bytes
pub IsBytes-take : (n : ℕ) (bytes : List ℕ) → IsBytes bytes → IsBytes (take n bytes)
IsBytes-take n bytes h i =
    elim (cases_lt i n) [
      | inl lt ↦ rw (get_or-take n bytes i 0 lt) (h i)
      | inr le ↦ rw (get_or_past (take n bytes) i 0 (omega (arith, length-take n bytes))) (omega arith)
    ]

-- bytes after bytes are bytes
pub bytes_append : (a b : List ℕ) → IsBytes a → IsBytes b → IsBytes (a ++ b)
bytes_append a b f g i =
    elim (cases_lt i (length a)) [
      | inl lt ↦ rw (get_or_append_left a b 0 i lt) (f i)
      | inr le ↦ rw (get_or-append_right a b (length a) i 0 refl le) (g (i - length a))
    ]

-- the front of a text has as many bytes as the text has more than the back
pub front_is : (whole front back : List ℕ) → whole ≡ front ++ back → take (length whole - length back) whole ≡ front
front_is whole front back e =
    let n : length whole - length back ≡ length front = omega (arith, ap length e, length-append front back) in
    ap (λ (k : ℕ). take k whole) n ∙ ap (take (length front)) e ∙ take_at front back (length front) refl

-- the front of two texts, up to a place after the first, is the first and a front of the second
pub front_behind : (text more : List ℕ) (n : ℕ) → length text ≤ n
    → take n (text ++ more) ≡ text ++ take (n - length text) more
front_behind text more n le =
    let k : n ≡ length text + (n - length text) = omega arith in
    ap (λ (i : ℕ). take i (text ++ more)) k ∙ take-append-add text more (n - length text)

-- if two steps give a value, what follows from each value of the first follows; so goals stay short
pub bind_then : {A B E C : Type 0} (r : Result A E) (f : A → Result B E) (y : B) → (r >>= f) ≡ Ok y
    → ((x : A) → r ≡ Ok x → f x ≡ Ok y → C) → C
bind_then (Ok x) f y e go = go x refl e
bind_then (Err d) f y e go = absurd cc

-- a step that gives a value continues with that value
pub bind-ok : {A B E : Type 0} {r : Result A E} (f : A → Result B E) {x : A} → r ≡ Ok x → (r >>= f) ≡ f x
bind-ok {A = A} {E = E} f e = ap (λ (s : Result A E). s >>= f) e

-- if a test did not refuse, it was false, and the value is that of the other branch
pub guard_ok : {A E : Type 0} (b : Bool) (d : E) (r : Result A E) (y : A) → cond b (Err d) r ≡ Ok y
    → (b ≡ false) × (r ≡ Ok y)
guard_ok true d r y e = absurd cc
guard_ok false d r y e = (refl, e)

-- if a test gave a value, it was true
guard_then : {A E : Type 0} (b : Bool) (x : A) (d : E) (y : A) → cond b (Ok x) (Err d) ≡ Ok y → b ≡ true
guard_then true x d y e = refl
guard_then false x d y e = absurd cc

-- a value, as a result of a given type
abbrev pub ok : {A E : Type 0} → A → Result A E
ok x = Ok x

-- equal results have equal values
pub ok_is : {A E : Type 0} (x y : A) → ok {A = A} {E = E} x ≡ ok y → x ≡ y
ok_is x y e = cc

-- a place, by the number of bytes before it and the bytes after it
abbrev pub place : ℕ → List ℕ → Place
place n rest = record { at = n; rest = rest }

-- what reading took from the front
pub record Takes (p : Place) (text : List ℕ) (q : Place) : Type 0 where
  pub parts : p.rest ≡ text ++ q.rest
  pub counted : q.at ≡ p.at + length text
  pub bytes : IsBytes q.rest

-- what two steps took
pub Takes-then : {p : Place} {x : List ℕ} {q : Place} {y : List ℕ} {r : Place} → Takes p x q → Takes q y r
    → Takes p (x ++ y) r
Takes-then {x = x} {y = y} {r = r} s t = record {
  parts = s.parts ∙ ap (λ (z : List ℕ). x ++ z) t.parts ∙ sym (append_assoc x y r.rest);
  counted = omega (arith, s.counted, t.counted, length-append x y);
  bytes = t.bytes;
}

-- ---- any field

-- a whole field that gives a value was accepted, and reading continues after it
pub judged_ok : {A : Type 0} (n : ℕ) (p : Place) (r : Result A Reason) (x : A × Place) → judged n p r ≡ Ok x
    → (r ≡ Ok x.0) × (moved n p ≡ x.1)
judged_ok n p (Ok y) x e = let h : (y, moved n p) ≡ x = ok_is _ _ e in (ap (λ z. Ok z.0) h, ap (λ z. z.1) h)
judged_ok n p (Err d) x e = absurd cc

-- a field that was read has all its bytes, which spell its value, and reading took them
pub field_takes : {A : Type 0} (n : ℕ) (value : List ℕ → Result A Reason) (p : Place) (x : A × Place) → IsBytes p.rest
    → field n value p ≡ Ok x
    → (value (take n p.rest) ≡ Ok x.0) × (length (take n p.rest) ≡ n) × Takes p (take n p.rest) x.1
field_takes n value p x fits e =
    let g = guard_ok (ltb (length p.rest) n) (fault_at p Truncated) (judged n p (value (take n p.rest))) x e in
    let j = judged_ok n p (value (take n p.rest)) x g.1 in
    let long : n ≤ length p.rest = ltb-false _ _ g.0 in
    let len : length (take n p.rest) ≡ n = omega (arith, length-take n p.rest) in
    let made : Takes p (take n p.rest) (moved n p) =
    record {
      parts = sym (take-append-drop n p.rest);
      counted = omega (arith, len);
      bytes = IsBytes-drop n p.rest fits;
    } in
    (j.0, len, subst (λ (q : Place). Takes p (take n p.rest) q) j.1 made)

-- a field that was written is read again
pub field_again : {A : Type 0} (n : ℕ) (value : List ℕ → Result A Reason) (at : ℕ) (text rest : List ℕ) (x : A)
    → length text ≡ n → value text ≡ Ok x
    → field n value (record { at = at; rest = text ++ rest }) ≡ Ok (x, record { at = at + n; rest = rest })
field_again n value at text rest x len e =
    let long : ltb (length (text ++ rest)) n ≡ false = le-ltb _ _ (omega (arith, length-append text rest)) in
    rw (long, take_at text rest n len, e, drop_at text rest n len) refl

-- ---- words

-- a word that was read is taken, and its number is accepted
pub word_takes : {A : Type 0} (value : ℕ → Result A Reason) (p : Place) (x : A × Place) → IsBytes p.rest
    → word_field value p ≡ Ok x → (n : ℕ) × (value n ≡ Ok x.0) × Takes p (word n) x.1 × (n < 2 ^ 32)
word_takes value p x fits e =
    let t = field_takes 4 (λ bytes. value (number bytes)) p x fits e in
    let front : word (number (take 4 p.rest)) ≡ take 4 p.rest =
    be_bytes_4 (take 4 p.rest) _ t.1 (IsBytes-take 4 p.rest fits) refl in
    let b = IsBytes-take 4 p.rest fits in (
      number (take 4 p.rest),
      t.0,
      subst (λ (w : List ℕ). Takes p w x.1) (sym front) t.2,
      omega (arith, b 0, b 1, b 2, b 3),
    )

-- a word that was written is read again
pub word_again : {A : Type 0} (value : ℕ → Result A Reason) (at n : ℕ) (rest : List ℕ) (x : A) → n < 2 ^ 32
    → value n ≡ Ok x
    → word_field value (record { at = at; rest = word n ++ rest }) ≡ Ok (x, record { at = at + 4; rest = rest })
word_again value at n rest x lt e =
    field_again 4 (λ bytes. value (number bytes)) at (word n) rest x refl
    (ap value (from_be_bytes-to_be_bytes_4 n lt) ∙ e)

-- ---- what each field accepts

-- a count that is accepted is its number, within the limit
pub count_is : (n m : ℕ) → count_of n ≡ Ok m → (n ≡ m) × (m ≤ most_aces)
count_is n m e = grind (arith, nat_tests)

-- a number of ACEs within the limit is accepted
pub count_again : (n : ℕ) → n ≤ most_aces → count_of n ≡ Ok n
count_again n le = grind (arith, nat_tests)

-- a kind that was read is that of its number
pub kind_is : (n : ℕ) (k : Kind) → kind_of n ≡ Ok k → n ≡ kind_number k
kind_is n Allow e = grind arith
kind_is n Deny e = grind arith

-- each kind is accepted
pub kind_again : (k : Kind) → kind_of (kind_number k) ≡ Ok k
kind_again Allow = refl
kind_again Deny = refl

-- the number of a kind fits a word
pub kind_lt : (k : Kind) → kind_number k < 2 ^ 32
kind_lt Allow = omega arith
kind_lt Deny = omega arith

-- flags that were read are ones of the profile
pub flags_are : (profile : Profile) (n m : ℕ) → flags_of profile n ≡ Ok m → (n ≡ m) × IsWithin profile.flags m
flags_are profile n m e = grind (arith, nat_tests)

-- flags of the profile are accepted
pub flags_again : (profile : Profile) (n : ℕ) → IsWithin profile.flags n → flags_of profile n ≡ Ok n
flags_again profile n within = rw (eq-eqb (bit_and n profile.flags) n within) refl

-- a mask that was read is one of the profile, and light enough
pub mask_is : (profile : Profile) (weight n m : ℕ) → mask_of profile weight n ≡ Ok m
    → (n ≡ m) × IsWithin profile.masks m × (weight + count_ones m ≤ most_weight)
mask_is profile weight n m e = grind (arith, nat_tests)

-- a mask of the profile that is light enough is accepted
pub mask_again : (profile : Profile) (weight n : ℕ) → IsWithin profile.masks n → weight + count_ones n ≤ most_weight
    → mask_of profile weight n ≡ Ok n
mask_again profile weight n within light =
    rw (eq-eqb (bit_and n profile.masks) n within, le-ltb most_weight (weight + count_ones n) light) refl

-- a length that a who may have is within the bounds
pub len_bounds : (n : ℕ) → is_no_who_len n ≡ false → (1 ≤ n) × (n ≤ longest_who)
len_bounds n e = grind (arith, nat_tests)

-- a length that was read is one that a who may have
pub who_len_is : (n m : ℕ) → who_len_of n ≡ Ok m → (n ≡ m) × (1 ≤ m) × (m ≤ longest_who)
who_len_is n m e = grind (arith, nat_tests)

-- a length that is accepted is one that a who may have
pub who_len_some : (n m : ℕ) → who_len_of n ≡ Ok m → is_no_who_len m ≡ false
who_len_some n m e = grind (arith, nat_tests)

-- a length that a who may have is accepted
pub who_len_again : (n : ℕ) → 1 ≤ n → n ≤ longest_who → who_len_of n ≡ Ok n
who_len_again n some short = grind (arith, nat_tests)

-- the length of a who is within the bounds
pub who_bounds : (who : List ℕ) → IsWho who → (1 ≤ length who) × (length who ≤ longest_who)
who_bounds who is = grind (arith, nat_tests)

-- bytes that are accepted as a who are that who, and have no fault
pub taken_is : (fault : Option WhoFault) (bytes who : List ℕ) → unless (option_map who_reason fault) bytes ≡ Ok who
    → (bytes ≡ who) × (fault ≡ None)
taken_is None bytes who e = (ok_is bytes who e, refl)
taken_is (Some f) bytes who e = absurd cc

-- bytes that were read as a who are one
who_is : (bytes who : List ℕ) → who_of bytes ≡ Ok who → (bytes ≡ who) × IsWho who
who_is bytes who e = let h = taken_is (who_fault bytes) bytes who e in (h.0, subst IsWho h.0 h.1)

-- a who is accepted
pub who_again : (who : List ℕ) → IsWho who → who_of who ≡ Ok who
who_again who is = rw is refl

-- bytes that are all zero are as many zeros
pub bytes_are_zeros : (bytes : List ℕ) → list_all (λ b. eqb b 0) bytes ≡ true → bytes ≡ replicate (length bytes) 0
bytes_are_zeros [] e = refl
bytes_are_zeros (b ∷ bytes) e =
    let h = and_true (eqb b 0) (list_all (λ b. eqb b 0) bytes) e in
    let first : b ≡ 0 = eqb-true _ _ h.0 in
    let others : bytes ≡ replicate (length bytes) 0 = bytes_are_zeros bytes h.1 in
    cc

-- padding that was read is zero
padding_is : (bytes : List ℕ) (x : Unit {0}) → padding_of bytes ≡ Ok x → bytes ≡ replicate (length bytes) 0
padding_is bytes x e = bytes_are_zeros bytes (guard_then (list_all (λ b. eqb b 0) bytes) _ _ x e)

-- a number of zeros are all zero
pub zeros_again : (n : ℕ) → list_all (λ b. eqb b 0) (replicate n 0) ≡ true
zeros_again zero = refl
zeros_again (suc n) = zeros_again n

-- zero bytes are accepted as padding
pub padding_again : (n : ℕ) → padding_of (replicate n 0) ≡ Ok tt
padding_again n = rw (zeros_again n) refl

-- ---- each field of an ACE that was read

-- a kind that was read was taken
pub kind_takes : (p : Place) (k : Kind × Place) → IsBytes p.rest → word_field kind_of p ≡ Ok k
    → Takes p (word (kind_number k.0)) k.1
kind_takes p k fits e =
    let (n, accepted, taken, lt) = word_takes kind_of p k fits e in
    subst (λ (x : ℕ). Takes p (word x) k.1) (kind_is n k.0 accepted) taken

-- flags that were read were taken, and are flags of the profile
pub flags_take : (profile : Profile) (p : Place) (f : ℕ × Place) → IsBytes p.rest
    → word_field (flags_of profile) p ≡ Ok f → Takes p (word f.0) f.1 × IsWithin profile.flags f.0
flags_take profile p f fits e =
    let (n, accepted, taken, lt) = word_takes (flags_of profile) p f fits e in
    let (same, within) = flags_are profile n f.0 accepted in
    (subst (λ (x : ℕ). Takes p (word x) f.1) same taken, within)

-- a mask that was read was taken, has rights of the profile alone, and is light enough
pub mask_takes : (profile : Profile) (weight : ℕ) (p : Place) (m : ℕ × Place) → IsBytes p.rest
    → word_field (mask_of profile weight) p ≡ Ok m
    → Takes p (word m.0) m.1 × IsWithin profile.masks m.0 × (weight + count_ones m.0 ≤ most_weight)
mask_takes profile weight p m fits e =
    let (n, accepted, taken, lt) = word_takes (mask_of profile weight) p m fits e in
    let (same, within, light) = mask_is profile weight n m.0 accepted in
    (subst (λ (x : ℕ). Takes p (word x) m.1) same taken, within, light)

-- a length of a who that was read was taken, and is within the bounds
pub len_takes : (p : Place) (l : ℕ × Place) → IsBytes p.rest → word_field who_len_of p ≡ Ok l
    → Takes p (word l.0) l.1 × (1 ≤ l.0) × (l.0 ≤ longest_who)
len_takes p l fits e =
    let (n, accepted, taken, lt) = word_takes who_len_of p l fits e in
    let (same, some, short) = who_len_is n l.0 accepted in
    (subst (λ (x : ℕ). Takes p (word x) l.1) same taken, some, short)

-- a who that was read was taken, is valid, and has this length
pub who_takes : (len : ℕ) (p : Place) (w : List ℕ × Place) → IsBytes p.rest → field len who_of p ≡ Ok w
    → Takes p w.0 w.1 × IsWho w.0 × (length w.0 ≡ len)
who_takes len p w fits e =
    let (accepted, long, taken) = field_takes len who_of p w fits e in
    let (same, is) = who_is (take len p.rest) w.0 accepted in
    (subst (λ (t : List ℕ). Takes p t w.1) same taken, is, ap length (sym same) ∙ long)

-- padding that was read was taken, and is zero
pub padding_takes : (n : ℕ) (p : Place) (z : Unit {0} × Place) → IsBytes p.rest → field n padding_of p ≡ Ok z
    → Takes p (replicate n 0) z.1
padding_takes n p z fits e =
    let (accepted, long, taken) = field_takes n padding_of p z fits e in
    subst (λ (t : List ℕ). Takes p t z.1)
    (padding_is (take n p.rest) z.0 accepted ∙ ap (λ (k : ℕ). replicate k 0) long) taken
