-- A field that is read: its bytes are there or not, and its judge accepts or refuses them.
use Rattle.acl_nfs4.proofs.Common.{ace_at, ap, cond, eqb, Err, Fault, fault_at, field, flags_of, from_flags, from_len, from_mask, Gives, IfOk, is_no_who_len, is_plain_ascii, is_unknown_special, judged, Kind, kind_of, length, List, list_all, ltb, ltb-false, mask_of, moved, None, not, number, Ok, padding_of, Place, Placed, Profile, Reason, refl, Result, Some, subst, sym, take, true, Truncated, who_fault, who_of, word_field, ℕ, ◌∙◌, ◌≡◌, ◌≤◌}
use Rattle.std.proofs.Common.{false, Bool}
use Rattle.std.specs.Result.{result_ok}
use Rattle.acl_nfs4.proofs.plain_ascii.PlainText.{plain_front_is_who}
use Rattle.acl_nfs4.proofs.xdr.Fields.{bind-ok, guard_ok, judged_ok, ok_is, who_again}
use Rattle.acl_nfs4.proofs.xdr.FromSource.{placed_reason, placed_value}

-- if a result was turned into an option that has a value, it is that value
pub ok_value : {X E : Type 0} (r : Result X E) (x : X) → Some x ≡ result_ok r → r ≡ Ok x
ok_value (Ok y) x e = cc
ok_value (Err d) x e = absurd cc

-- the same for what the result is seen as
pub ok_gives : {X Y E : Type 0} (view : X → Y) (r : Result X E) (v : Result Y E) (x : X) → Gives view r v
    → Some x ≡ result_ok r → v ≡ Ok (view x)
ok_gives view r v x gives e = subst (λ s. Gives view s v) (ok_value r x e) gives

-- if the bytes of a field are there, the field is what its judge says
field_judged : {A B : Type 0} (n : ℕ) (read : List ℕ → B) (judge : B → Result A Reason) (p : Place) {q : Place} {x : B}
    → field n (λ bytes. Ok (read bytes)) p ≡ Ok (x, q)
    → (field n (λ bytes. judge (read bytes)) p ≡ judged n p (judge x)) × (moved n p ≡ q)
field_judged {A} n read judge p {q} {x} e =
    let g = guard_ok (ltb (length p.rest) n) (fault_at p Truncated) (judged n p (Ok (read (take n p.rest)))) (x, q) e in
    let h = judged_ok n p (Ok (read (take n p.rest))) (x, q) g.1 in
    let same : read (take n p.rest) ≡ x = ok_is _ _ h.0 in
    (rw g.0 (ap (λ y. judged n p (judge y)) same), h.1)

-- a field that its judge accepts gives its value
pub field_given : {A B : Type 0} (n : ℕ) (read : List ℕ → B) (judge : B → Result A Reason) (p : Place) {q : Place}
    {x : B} (z : A) → field n (λ bytes. Ok (read bytes)) p ≡ Ok (x, q) → judge x ≡ Ok z
    → field n (λ bytes. judge (read bytes)) p ≡ Ok (z, q)
field_given n read judge p z given is =
    let h = field_judged n read judge p given in
    h.0 ∙ ap (judged n p) is ∙ ap (λ (r : Place). Ok (z, r)) h.1

-- a word that its judge accepts gives its value
pub word_given : {A X : Type 0} (value : ℕ → Result A Reason) (view : X → A) (p : Place) {q : Place} {n : ℕ}
    (j : Result X Reason) (x : X) → word_field (λ k. Ok k) p ≡ Ok (n, q) → Gives view j (value n) → j ≡ Ok x
    → word_field value p ≡ Ok (view x, q)
word_given value view p {q} {n} j x given gives is =
    field_given 4 number value p (view x) given (subst (λ r. Gives view r (value n)) is gives)

-- if the bytes of a field are not there, the field is cut short, whatever its judge would say
pub field_cut : {A : Type 0} (n : ℕ) (value : List ℕ → Result A Reason) (p : Place) {f : Fault}
    → field n (λ bytes. Ok bytes) p ≡ Err f → field n value p ≡ Err f
field_cut {A} n value p {f} e =
    stops (ltb (length p.rest) n) (fault_at p Truncated) f (take n p.rest, moved n p) _ e where
      stops : {B C : Type 0} (b : Bool) (d g : Fault) (y : B) (r : Result C Fault) → cond b (Err d) (Ok y) ≡ Err g
          → cond b (Err d) r ≡ Err g
      stops true d g y r h = cc
      stops false d g y r h = absurd cc

-- a field that its judge accepts gives the value that was returned
pub field_accepted : {A B X : Type 0} (n : ℕ) (read : List ℕ → B) (judge : B → Result A Reason) (view : X → A) (at : ℕ)
    (p : Place) {q : Place} {x : B} (j : Result X Reason) (z : X) → field n (λ bytes. Ok (read bytes)) p ≡ Ok (x, q)
    → Gives view j (judge x) → Placed at j (Ok z) → field n (λ bytes. judge (read bytes)) p ≡ Ok (view z, q)
field_accepted n read judge view at p {q} {x} j z given gives placed =
    field_given n read judge p (view z) given (placed_value view at j (judge x) z placed gives)

-- a field that its judge refuses has a fault at its first byte
pub field_refused_here : {A B X : Type 0} (n : ℕ) (read : List ℕ → B) (judge : B → Result A Reason) (view : X → A)
    (at : ℕ) (p : Place) {q : Place} {x : B} (j : Result X Reason) (f : Fault)
    → field n (λ bytes. Ok (read bytes)) p ≡ Ok (x, q) → Gives view j (judge x) → at ≡ p.at → Placed at j (Err f)
    → field n (λ bytes. judge (read bytes)) p ≡ Err f
field_refused_here n read judge view at p {q} {x} j f given gives here placed =
    let r = placed_reason view at j (judge x) f placed gives in
    let h = field_judged n read judge p given in
    h.0 ∙ ap (judged n p) r.1 ∙ ap (λ (k : ℕ). Err (record { offset = k; reason = r.0 })) (sym here)
    ∙ ap (λ (g : Fault). Err g) (sym r.2)

-- a word that its judge accepts gives the value that was returned
pub word_accepted : {A X : Type 0} (value : ℕ → Result A Reason) (view : X → A) (at : ℕ) (p : Place) {q : Place} {n : ℕ}
    (j : Result X Reason) (x : X) → word_field (λ k. Ok k) p ≡ Ok (n, q) → Gives view j (value n) → Placed at j (Ok x)
    → word_field value p ≡ Ok (view x, q)
word_accepted value view at p j x given gives placed = field_accepted 4 number value view at p j x given gives placed

-- a word that its judge refuses has a fault at its first byte
pub word_refused_here : {A X : Type 0} (value : ℕ → Result A Reason) (view : X → A) (at : ℕ) (p : Place) {q : Place}
    {n : ℕ} (j : Result X Reason) (f : Fault) → word_field (λ k. Ok k) p ≡ Ok (n, q) → Gives view j (value n)
    → at ≡ p.at → Placed at j (Err f) → word_field value p ≡ Err f
word_refused_here value view at p j f given gives here placed =
    field_refused_here 4 number value view at p j f given gives here placed

-- the bytes of a field that are there are as many as it has
pub field_long : (n : ℕ) (p : Place) {q : Place} {x : List ℕ} → field n (λ bytes. Ok bytes) p ≡ Ok (x, q)
    → (n ≤ length p.rest) × (take n p.rest ≡ x)
field_long n p {q} {x} e =
    let g = guard_ok (ltb (length p.rest) n) (fault_at p Truncated) (judged n p (Ok (take n p.rest))) (x, q) e in
    let h = judged_ok n p (Ok (take n p.rest)) (x, q) g.1 in
    (ltb-false _ _ g.0, ok_is _ _ h.0)

-- what holds for each value of a judge holds for the value that was returned
pub placed_if : {X : Type 0} (P : X → Type 0) (at : ℕ) (j : Result X Reason) (x : X) → Placed at j (Ok x) → IfOk j P
    → P x
placed_if P at (Ok z) x placed h = let same : z ≡ x = cc in subst P same h
placed_if P at (Err r) x placed h = absurd cc

-- what holds for each value of a result holds for the value that it was turned into
pub ok_if : {X E : Type 0} (P : X → Type 0) (r : Result X E) (x : X) → Some x ≡ result_ok r → IfOk r P → P x
ok_if P (Ok y) x e h = let same : y ≡ x = cc in subst P same h
ok_if P (Err d) x e h = absurd cc

-- an ACE whose first three words are accepted is read from the length of its who on
pub read_to_len : (profile : Profile) (weight : ℕ) (p0 p1 p2 p3 : Place) (k : Kind) (f m : ℕ)
    → word_field kind_of p0 ≡ Ok (k, p1) → word_field (flags_of profile) p1 ≡ Ok (f, p2)
    → word_field (mask_of profile weight) p2 ≡ Ok (m, p3) → ace_at profile weight p0 ≡ from_len k f m p3
unfolding ace_at
read_to_len profile weight p0 p1 p2 p3 k f m kind flags mask =
    bind-ok (λ x. from_flags profile weight x.0 x.1) kind ∙ bind-ok (λ x. from_mask profile weight k x.0 x.1) flags
    ∙ bind-ok (λ x. from_len k f x.0 x.1) mask

-- a who that passes the test of plain ASCII is accepted, unless it is an unknown special identifier
pub plain_who_read : (p : Place) {q : Place} {who : List ℕ} {special : Bool} (len : ℕ) → is_no_who_len len ≡ false
    → field len (λ bytes. Ok bytes) p ≡ Ok (who, q) → list_all is_plain_ascii (take len p.rest) ≡ true
    → special ≡ is_unknown_special who → special ≡ false → field len who_of p ≡ Ok (who, q)
plain_who_read p {who = who} {special = special} len some given plain is other =
    let (long, same) = field_long len p given in
    let valid : who_fault (take len p.rest) ≡ None =
    plain_front_is_who p.rest len special some long plain (is ∙ ap is_unknown_special (sym same)) (ap not other) in
    field_given len (λ bytes. bytes) who_of p who given (who_again who (ap who_fault (sym same) ∙ valid))

-- padding whose bytes are zero is accepted
pub zero_padding_read : (p : Place) {q : Place} {bytes : List ℕ} (n : ℕ)
    → field n (λ bytes. Ok bytes) p ≡ Ok (bytes, q) → list_all (λ b. eqb b 0) (take n p.rest) ≡ true
    → field n padding_of p ≡ Ok (tt, q)
zero_padding_read p {bytes = bytes} n given zero =
    let (long, same) = field_long n p given in
    let all : list_all (λ b. eqb b 0) bytes ≡ true = ap (list_all (λ b. eqb b 0)) (sym same) ∙ zero in
    field_given n (λ bytes. bytes) padding_of p tt given (rw all refl)
