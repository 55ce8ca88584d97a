-- A field that is pulled from a source: where it is in the buffer, what its judge answers, and what it adds to an ACE.
use Rattle.acl_nfs4.proofs.Common.{[], Ace, ace_at, ap, append_assoc, arith, cases_lt, Consumes, Consumes-nil, Consumes-trans, count_ones, drop, drop-take, drop_at, Err, Fault, field, from_flags, Gives, HasEnded, IfOk, inl, inr, IsBytes, IsCutIn, IsDrawn, IsFilled, IsHalted, IsLacking, IsShort, kind_of, length, length-append, length-take, List, Mask, most_weight, number, Ok, Option, Place, Placed, post_of, Profile, put_mid, Reason, refl, Result, subst, sym, take, take-append-add, take-append-le, take_all, Truncated, ℕ, ◌++◌, ◌+◌, ◌-◌, ◌<◌, ◌>>=◌, ◌∙◌, ◌≡◌, ◌≤◌}
use Rattle.acl_nfs4.proofs.xdr.Fields.{bytes_append, field_again, front_behind, bind-ok, IsBytes-drop, IsBytes-take, place}
use Rattle.acl_nfs4.proofs.xdr.Resume.{bind-err, field_breaks}
use Rattle.acl_nfs4.proofs.xdr.OneFault.{IsOfSource}

-- ---- the buffer

-- bytes that were pulled are after the bytes that were held
pub filled_on : (old room piece buf : List ℕ) (held filled k n : ℕ) → filled ≤ length room → n ≤ length buf
    → take filled room ≡ take held old ++ piece
    → take (filled + n) (put_mid filled k room buf) ≡ take held old ++ (piece ++ take n buf)
filled_on old room piece buf held filled k n inside le so_far =
    let front : List ℕ = take filled room in
    let len : length front ≡ filled = omega (arith, length-take filled room, inside) in
    ap (λ (i : ℕ). take (i + n) (put_mid filled k room buf)) (sym len)
    ∙ take-append-add front (buf ++ post_of filled k room) n
    ∙ ap (λ (t : List ℕ). front ++ t) (take-append-le n buf (post_of filled k room) le)
    ∙ ap (λ (t : List ℕ). t ++ take n buf) so_far ∙ append_assoc (take held old) piece (take n buf)

-- what was pulled after the bytes that were held is bytes
pub piece_bytes : (old room piece : List ℕ) (held end : ℕ) → IsBytes room → take end room ≡ take held old ++ piece
    → IsBytes piece
piece_bytes old room piece held end bytes e =
    let back : drop (length (take held old)) (take end room) ≡ piece =
    ap (drop (length (take held old))) e ∙ drop_at (take held old) piece (length (take held old)) refl in
    subst (λ (t : List ℕ). IsBytes t) back
    (IsBytes-drop (length (take held old)) (take end room) (IsBytes-take end room bytes))

-- the bytes of the buffer after those that were held are the piece that was pulled
pub field_is : (old room piece : List ℕ) (held size : ℕ) → held ≤ length old
    → take (held + size) room ≡ take held old ++ piece → length piece ≡ size → take size (drop held room) ≡ piece
field_is old room piece held size inside e long =
    let front : length (take held old) ≡ held = omega (arith, length-take held old, inside) in
    sym (drop-take held size room) ∙ ap (drop held) e ∙ drop_at (take held old) piece held front

-- four bytes that were requested are a word, and spell its number
pub is_word : {held size : ℕ} {old new piece : List ℕ} {before after n : ℕ} → size ≡ 4
    → IsFilled held size old new piece before after → n ≡ number (take 4 (drop held new))
    → IsFilled held 4 old new piece before after × (number piece ≡ n)
is_word {held = held} {old = old} {new = new} {piece = piece} {before = before} {after = after} four f e =
    let g = subst (λ (k : ℕ). IsFilled held k old new piece before after) four f in
    (g, sym (e ∙ ap number g.behind))

-- ---- the answer of a judge

-- a field that is refused has a reason, and its fault is at the field
pub placed_reason : {X A : Type 0} (view : X → A) (offset : ℕ) (judged : Result X Reason) (value : Result A Reason)
    (f : Fault) → Placed offset judged (Err f) → Gives view judged value
    → (r : Reason) × (value ≡ Err r) × (f ≡ record { offset = offset; reason = r })
placed_reason view offset (Ok x) value f placed gives = absurd cc
placed_reason view offset (Err r) value f placed gives = (r, gives, cc)

-- a field that its judge accepted has the value that the judge returned
pub placed_value : {X A : Type 0} (view : X → A) (offset : ℕ) (judged : Result X Reason) (value : Result A Reason)
    (x : X)
    → Placed offset judged (Ok x) → Gives view judged value → value ≡ Ok (view x)
placed_value view offset (Ok y) value x placed gives = gives ∙ ap (λ (z : _). Ok (view z)) cc
placed_value view offset (Err r) value x placed gives = absurd cc

-- a mask that its judge accepted is light enough
pub placed_light : (weight : ℕ) (judged : Result Mask Reason) (m : Mask) (o : ℕ) → Placed o judged (Ok m)
    → IfOk judged (λ z. weight + count_ones z.bits ≤ most_weight) → weight + count_ones m.bits ≤ most_weight
placed_light weight (Ok z) m o placed light =
    let same : z ≡ m = cc in
    subst (λ (x : Mask). weight + count_ones x.bits ≤ most_weight) same light
placed_light weight (Err r) m o placed light = absurd cc

-- ---- the fields of an ACE, one after the other

-- a field of n bytes, and then the rest of the ACE
abbrev pub followed : {A : Type 0} → ℕ → (List ℕ → Result A Reason) → (A → Place → Result (Ace × Place) Fault) → Place
    → Result (Ace × Place) Fault
followed n value rest at = field n value at >>= λ x. rest x.0 x.1

-- before the first pull, no field of the ACE is there
pub none_drawn : {p : Profile} {weight offset : ℕ} {old : Option (List ℕ)} {before : ℕ} (room : List ℕ)
    → IsDrawn p weight (followed 4 (λ x. kind_of (number x)) (from_flags p weight)) offset 0 old old before before
    room []
unfolding ace_at
none_drawn {p} {weight} {offset} {old} room = record {
  taken = Consumes-nil old;
  front = refl;
  long = refl;
  bytes = λ i. omega arith;
  kept = refl;
  leads = λ t. let e : offset ≡ offset + 0 = omega arith in ap (λ (n : ℕ). ace_at p weight (place n t)) e;
  cut = λ k lt. absurd (omega (arith, lt));
}

-- with one more field, or a part of it, each shorter beginning of the text still ends inside a field
cut_on : (p : Profile) (weight offset : ℕ) {held : ℕ} {A : Type 0} (n : ℕ) (value : List ℕ → Result A Reason)
    (rest : A → Place → Result (Ace × Place) Fault) (given bytes : List ℕ) → length given ≡ held → length bytes ≤ n
    → ((t : List ℕ) → ace_at p weight (place offset (given ++ t)) ≡ followed n value rest (place (offset + held) t))
    → IsCutIn p weight offset given → IsCutIn p weight offset (given ++ bytes)
cut_on p weight offset {held} n value rest given bytes long few leads cut k lt =
    elim (cases_lt k (length given)) [
      | inl before ↦ subst (λ (t : List ℕ). (o : ℕ) × IsShort p weight offset t o)
          (sym (take-append-le k given bytes (omega arith))) (cut k before)
      | inr behind ↦
          let some : List ℕ = take (k - length given) bytes in
          let short : length some < n =
          omega (arith, length-take (k - length given) bytes, length-append given bytes, lt, few, behind) in (
            offset + held,
            ap (λ (t : List ℕ). ace_at p weight (place offset t)) (front_behind given bytes k behind) ∙ leads some
                ∙ bind-err _ (field_breaks n value (place (offset + held) some) _ Truncated (inl (short, refl, refl))),
          )
    ]

-- for a field of `n` bytes that is the next one of an ACE that a source gives
module _ {p : Profile} {weight offset held size : ℕ} {old here left : Option (List ℕ)} {before mid after : ℕ}
    {room given : List ℕ} {A : Type 0} (n : ℕ) (value : List ℕ → Result A Reason)
    (rest : A → Place → Result (Ace × Place) Fault)
    (d : IsDrawn p weight (followed n value rest) offset held old here before mid room given) where
  -- if the next field is accepted, the source gave one field more
  pub field_drawn : {more : ℕ} {new : List ℕ} (x : A) → (a : (bytes : List ℕ) × Consumes here left bytes
      × IsFilled held size room new bytes mid after) → size ≡ n → more ≡ held + n → value a.0 ≡ Ok x
      → IsDrawn p weight (rest x) offset more old left before after new (given ++ a.0)
  field_drawn {more} {new} x a same end is =
      let long : length a.0 ≡ n = a.2.long ∙ same in
      let at_end : held + size ≡ more = omega (arith, same, end) in
      let behind : offset + held + n ≡ offset + more = omega (arith, end) in
      record {
        taken = Consumes-trans old here left given a.0 d.taken a.1;
        front = ap (λ (k : ℕ). take k new) (sym at_end) ∙ a.2.room ∙ ap (λ (t : List ℕ). t ++ a.0) d.front;
        long = omega (arith, length-append given a.0, d.long, long, end);
        bytes = bytes_append given a.0 d.bytes a.2.bytes;
        kept = a.2.kept ∙ d.kept;
        leads = λ t. ap (λ (s : List ℕ). ace_at p weight (place offset s)) (append_assoc given a.0 t)
            ∙ d.leads (a.0 ++ t) ∙ bind-ok _ (field_again n value (offset + held) a.0 t x long is)
            ∙ ap (λ (k : ℕ). rest x (place k t)) behind;
        cut = cut_on p weight offset n value rest given a.0 d.long (omega (arith, long)) d.leads d.cut;
      }

  -- if the source ends or fails inside the next field, the decoder stops there
  pub field_lacks : {at : ℕ} {f : Fault} → (a : (bytes : List ℕ) × Consumes here left bytes
      × IsLacking at size bytes left mid after f)
      → size ≡ n → at ≡ offset + held → IsHalted p weight offset old left before after f
  field_lacks {f = f} a same where_at =
      let short : length a.0 < n = omega (arith, a.2.short, same) in
      record {
        given = given ++ a.0;
        taken = Consumes-trans old here left given a.0 d.taken a.1;
        bytes = bytes_append given a.0 d.bytes a.2.bytes;
        stops = inl (
          d.leads a.0
              ∙ bind-err _ (field_breaks n value (place (offset + held) a.0) _ Truncated (inl (short, refl, refl)))
              ∙ ap (λ (o : ℕ). Err (record { offset = o; reason = Truncated })) (sym (a.2.here ∙ where_at)),
          subst (λ (k : ℕ). HasEnded left k after f.reason) d.kept a.2.why,
        );
      }

  -- if the judge refuses the next field, the decoder stops after it
  pub field_refused : {at : ℕ} {new : List ℕ} {f : Fault} {X : Type 0} (view : X → A) (judged : Result X Reason)
      → (a : (bytes : List ℕ) × Consumes here left bytes × IsFilled held size room new bytes mid after) → size ≡ n
      → Placed at judged (Err f) → Gives view judged (value a.0) → at ≡ offset + held
      → ((b : List ℕ) (r : Reason) → IsOfSource r → value b ≡ Err r → ⊥)
      → IsHalted p weight offset old left before after f
  field_refused {at} {f = f} view judged a same placed gives where_at never =
      let j = placed_reason view at judged (value a.0) f placed gives in
      let long : length a.0 ≡ n = a.2.long ∙ same in
      let why : f.reason ≡ j.0 = ap (λ (g : Fault). g.reason) j.2 in
      record {
        given = given ++ a.0;
        taken = Consumes-trans old here left given a.0 d.taken a.1;
        bytes = bytes_append given a.0 d.bytes a.2.bytes;
        stops = inr (
          record {
            fails = d.leads a.0 ∙ bind-err _ (field_breaks n value (place (offset + held) a.0) n j.0
                (inr (omega (arith, long), refl, ap value (take_all n a.0 (omega (arith, long))) ∙ j.1)))
                ∙ ap (λ (o : ℕ). Err (record { offset = o; reason = j.0 })) (sym where_at)
                ∙ ap (λ (g : Fault). Err g) (sym j.2);
            cut = cut_on p weight offset n value rest given a.0 d.long (omega (arith, long)) d.leads d.cut;
            not_cut = λ e. never a.0 j.0 (inl (sym why ∙ e)) j.1;
            not_read = λ e. never a.0 j.0 (inr (sym why ∙ e)) j.1;
          },
          a.2.kept ∙ d.kept,
        );
      }

-- for a word of a field that the source gave, which a judge sees as a number
module _ {p : Profile} {weight offset held : ℕ} {old here left : Option (List ℕ)} {before mid after x : ℕ}
    {room new given : List ℕ} {X A : Type 0} (at : ℕ) (view : X → A) (judged : Result X Reason)
    (value : ℕ → Result A Reason) (rest : A → Place → Result (Ace × Place) Fault)
    (d : IsDrawn p weight (followed 4 (λ b. value (number b)) rest) offset held old here before mid room given)
    (a : (bytes : List ℕ) × Consumes here left bytes × (IsFilled held 4 room new bytes mid after × (number bytes ≡ x)))
    (gives : Gives view judged (value x)) where
  -- if the next word is accepted, the source gave one word more
  pub word_drawn : (z : X) → Placed at judged (Ok z)
      → IsDrawn p weight (rest (view z)) offset (held + 4) old left before after new (given ++ a.0)
  word_drawn z placed = field_drawn 4 (λ b. value (number b)) rest d (view z) (a.0, a.1, a.2.0) refl refl
      (ap value a.2.1 ∙ placed_value view at judged (value x) z placed gives)

  -- if the judge refuses the next word, the decoder stops after it
  pub word_refused : {f : Fault} → Placed at judged (Err f) → at ≡ offset + held
      → ((n : ℕ) (r : Reason) → IsOfSource r → value n ≡ Err r → ⊥) → IsHalted p weight offset old left before after f
  word_refused placed where_at never = field_refused 4 (λ b. value (number b)) rest d view judged
      (a.0, a.1, a.2.0) refl placed
      (subst (λ (k : ℕ). Gives view judged (value k)) (sym a.2.1) gives) where_at (λ b. never (number b))

-- if the source ends or fails inside the next word, the decoder stops there
pub word_lacks : {p : Profile} {weight offset held at : ℕ} {old here left : Option (List ℕ)} {before mid after : ℕ}
    {room given : List ℕ} {f : Fault} {A : Type 0} (value : ℕ → Result A Reason)
    (rest : A → Place → Result (Ace × Place) Fault)
    → IsDrawn p weight (followed 4 (λ b. value (number b)) rest) offset held old here before mid room given
    → (a : (bytes : List ℕ) × Consumes here left bytes × IsLacking at 4 bytes left mid after f) → at ≡ offset + held
    → IsHalted p weight offset old left before after f
word_lacks value rest d a where_at = field_lacks 4 (λ b. value (number b)) rest d a refl where_at
