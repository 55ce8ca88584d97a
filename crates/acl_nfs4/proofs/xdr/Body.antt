-- Where the fields are in the piece of an ACE, and the ACEs of a body, one after the other.
use Rattle.acl_nfs4.proofs.Common.{[], Ace, Allow, ap, append_assoc, arith, Deny, drop, drop_at, flat_map, flat_map-cons, from_be_bytes-to_be_bytes_4, full, IsAce, IsBody, Kind, kind_of_type, kind_number, length, length-append, length-replicate, List, number, pad_len, piece, refl, replicate, SpellsBody, subst, sym, take, take_at, word, ℕ, ◌*◌, ◌++◌, ◌+◌, ◌-◌, ◌/◌, ◌<◌, ◌∙◌, ◌∷◌, ◌≡◌}
use Rattle.acl_nfs4.specs.internal.Body.{aces_of, front_ace, front_who_len}
use Rattle.acl_nfs4.proofs.xdr.Fields.{who_bounds}
use Rattle.acl_nfs4.proofs.list.Within.{flags_lt, mask_lt, full_is}
use Rattle.acl_nfs4.proofs.xdr.Lists.{weight-cons}

-- where the fields of an ACE are in bytes that begin with it
pub record Layout (bytes : List ℕ) (a : Ace) (more : List ℕ) : Type 0 where
  pub kind : number (take 4 (drop 0 bytes)) ≡ kind_number a.kind
  pub flags : number (take 4 (drop 4 bytes)) ≡ a.flags
  pub mask : number (take 4 (drop 8 bytes)) ≡ a.mask
  pub len : number (take 4 (drop 12 bytes)) ≡ length a.who
  pub who : take (length a.who) (drop 16 bytes) ≡ a.who
  pub tail : drop ((length a.who + 19) / 4 * 4) bytes ≡ more
  pub room : (length a.who + 19) / 4 * 4 + length more ≡ length bytes

-- the word of a kind spells the number of the kind
kind_back : (k : Kind) → number (word (kind_number k)) ≡ kind_number k
kind_back Allow = refl
kind_back Deny = refl

-- the kind of the number of a kind is that kind
pub kind_of_type-number : (k : Kind) → kind_of_type (kind_number k) ≡ k
kind_of_type-number Allow = refl
kind_of_type-number Deny = refl

-- the piece of an ACE has the layout of the ACE
layout-of : (a : Ace) (more : List ℕ) → IsAce full a → Layout (piece a ++ more) a more
layout-of a more is =
    let pad : List ℕ = replicate (pad_len (length a.who)) 0 in
    let len : length pad ≡ pad_len (length a.who) = length-replicate _ _ in
    let tail : (a.who ++ pad) ++ more ≡ a.who ++ (pad ++ more) = append_assoc a.who pad more in
    record {
      kind = kind_back a.kind;
      flags = from_be_bytes-to_be_bytes_4 a.flags (flags_lt full a.flags full_is is.flags);
      mask = from_be_bytes-to_be_bytes_4 a.mask (mask_lt full a.mask full_is is.mask);
      len = from_be_bytes-to_be_bytes_4 (length a.who) (omega (arith, (who_bounds a.who is.who).1));
      who = ap (take (length a.who)) tail ∙ take_at a.who (pad ++ more) (length a.who) refl;
      tail = drop_at (piece a) more ((length a.who + 19) / 4 * 4) (omega (arith, len, length-append a.who pad));
      room = omega (arith, len, length-append a.who pad, length-append (a.who ++ pad) more);
    }

-- bytes that begin with a piece have its layout
pub layout : (bytes : List ℕ) (a : Ace) (more : List ℕ) → IsAce full a → bytes ≡ piece a ++ more → Layout bytes a more
layout bytes a more is e = subst (λ (b : List ℕ). Layout b a more) (sym e) (layout-of a more is)

-- two ACEs with the same fields are the same
pub same_ace : (a : Ace) {k : Kind} {f m : ℕ} {w : List ℕ} → k ≡ a.kind → f ≡ a.flags → m ≡ a.mask → w ≡ a.who
    → record { kind = k; flags = f; mask = m; who = w } ≡ a
same_ace a ke fe me we = rw (ke, fe, me, we) refl

-- ---- a body, one ACE after the other

-- the ACEs of bytes that spell a list are that list
pub aces_of-flat_map : (list : List Ace) (bytes : List ℕ) → SpellsBody list bytes → aces_of (length list) bytes ≡ list
unfolding aces_of
aces_of-flat_map [] bytes s = refl
aces_of-flat_map (a ∷ list) bytes s =
    let l = layout bytes a (flat_map piece list) s.each.0 (s.spelled ∙ flat_map-cons piece a list) in
    let first : front_ace bytes ≡ a = same_ace a (ap kind_of_type l.kind ∙ kind_of_type-number a.kind) l.flags l.mask
    (ap (λ (k : ℕ). take k (drop 16 bytes)) l.len ∙ l.who) in
    let size : 16 + front_who_len bytes + pad_len (front_who_len bytes) ≡ (length a.who + 19) / 4 * 4 =
    omega (arith, l.len, ap pad_len l.len) in
    ap (λ (x : Ace). x ∷ aces_of (length list)
    (drop (16 + front_who_len bytes + pad_len (front_who_len bytes)) bytes)) first
    ∙ ap (λ (b : List ℕ). a ∷ aces_of (length list) b) (ap (λ (k : ℕ). drop k bytes) size ∙ l.tail)
    ∙ ap (λ (m : List Ace). a ∷ m) (aces_of-flat_map list (flat_map piece list)
    (record { spelled = refl; weight = omega (arith, s.weight, weight-cons a list); each = s.each.1 }))

-- bytes that spell this many ACEs are a body of this many ACEs
pub is_body : (list : List Ace) (count : ℕ) (bytes : List ℕ) → length list ≡ count → SpellsBody list bytes
    → IsBody count bytes
is_body list count bytes len s =
    let e : aces_of count bytes ≡ list = ap (λ (n : ℕ). aces_of n bytes) (sym len) ∙ aces_of-flat_map list bytes s in
    record { spells = subst (λ (l : List Ace). SpellsBody l bytes) (sym e) s; whole = ap length e ∙ len }

-- a body that is not at its end
pub record Splits (count : ℕ) (bytes : List ℕ) : Type 0 where
  pub first : Ace
  pub others : List Ace
  pub more : List ℕ
  pub is : IsAce full first
  pub list : aces_of count bytes ≡ first ∷ others
  pub parts : bytes ≡ piece first ++ more
  pub body : IsBody (count - 1) more
  pub others_are : aces_of (count - 1) more ≡ others

-- bytes that spell a list of at least one ACE begin with its piece, and a body of the others follows
splits-of : (list : List Ace) (count : ℕ) (bytes : List ℕ) → 0 < count → length list ≡ count
    → aces_of count bytes ≡ list → SpellsBody list bytes → Splits count bytes
splits-of [] count bytes some len e s = absurd (omega arith)
splits-of (a ∷ list) count bytes some len e s =
    let t : SpellsBody list (flat_map piece list) =
    record { spelled = refl; weight = omega (arith, s.weight, weight-cons a list); each = s.each.1 } in
    let n : length list ≡ count - 1 = omega arith in
    record {
      first = a;
      others = list;
      more = flat_map piece list;
      is = s.each.0;
      list = e;
      parts = s.spelled ∙ flat_map-cons piece a list;
      body = is_body list (count - 1) (flat_map piece list) n t;
      others_are = ap (λ (m : ℕ). aces_of m (flat_map piece list)) (sym n)
          ∙ aces_of-flat_map list (flat_map piece list) t;
    }

-- a body that is not at its end begins with a piece, and a body follows
pub body_splits : (count : ℕ) (bytes : List ℕ) → 0 < count → IsBody count bytes → Splits count bytes
body_splits count bytes some b = splits-of (aces_of count bytes) count bytes some b.whole refl b.spells
