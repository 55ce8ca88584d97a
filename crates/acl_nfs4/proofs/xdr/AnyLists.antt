-- Bytes are read as a part if and only if they spell a list of any ACEs, and then the part is that of the list.
use Rattle.acl_nfs4.proofs.Common.{[], AllByRecursion, Ace, ap, append-nil, append_assoc, arith, Bool, cond, count_of, count_ones, eqb, eqb-true, Err, Fault, field, flags_of, flat_map, flat_map-cons, inl, inr, is_no_who_len, is_plain, is_utf8, IsBytes, IsProfile, length, length-append, length-replicate, List, list_all, longest_who, mask_of, most_weight, nat_tests, None, number, Ok, pad_len, padding_of, Place, Profile, refl, replicate, Result, subst, suc, sum_by-cons, sym, take, true, IfOk, false, who_len_of, word, word_field, zero, ℕ, ◌++◌, ◌+◌, ◌<◌, ◌∙◌, ◌∷◌, ◌≡◌, ◌≤◌}
use Rattle.acl_nfs4.proofs.xdr.Fields.{bind_then, bind-ok, count_again, count_is, field_again, field_takes, flags_again, flags_take, len_takes, mask_again, mask_takes, ok_is, place, padding_again, padding_takes, taken_is, Takes, Takes-then, who_len_again, word_again, word_takes}
use Rattle.acl_nfs4.proofs.list.Within.{flags_lt, mask_lt}
use Rattle.acl_nfs4.specs.AccessPart.{access_part, any_piece, AnyAce, AnyXdr, is_for_access, IsAnyAce, IsAnyWho, IsPartOf, kept_ace, Part}
use Rattle.acl_nfs4.specs.PartFault.{any_who_of, IsPartOrMemory, type_of, weight_of_any}
use Rattle.acl_nfs4.specs.internal.PartReading.{at_end, PartReadAs, with_ace}
unfoldable use Rattle.acl_nfs4.specs.internal.PartReading.{any_ace_at, part_from, part_in}
use Rattle.acl_nfs4.specs.internal.Reading.{text_fault}
use Rattle.acl_nfs4.proofs.xdr.AcesAt.{regrouped}

-- ---- what is read was spelled

-- a type that was read is one of the four
pub type_is : (n m : ℕ) → type_of n ≡ Ok m → (n ≡ m) × (m < 4)
type_is n m e = grind (arith, nat_tests)

-- a type that was read was taken
pub type_takes : (p : Place) (t : ℕ × Place) → IsBytes p.rest → word_field type_of p ≡ Ok t
    → Takes p (word t.0) t.1 × (t.0 < 4)
type_takes p t fits e =
    let (n, accepted, taken, lt) = word_takes type_of p t fits e in
    let (same, few) = type_is n t.0 accepted in
    (subst (λ (x : ℕ). Takes p (word x) t.1) same taken, few)

-- bytes with no fault of their encoding are text without control bytes
is_text : (bytes : List ℕ) → text_fault bytes ≡ None → (is_utf8 bytes ≡ true) × (list_all is_plain bytes ≡ true)
is_text bytes e = grind arith

-- a length within the bounds is the length of a who
pub len_long : (n : ℕ) → 1 ≤ n → n ≤ longest_who → is_no_who_len n ≡ false
len_long n some short = grind (arith, nat_tests)

-- a who that was read was taken, is a name, and has this length
pub who_takes : (len : ℕ) (p : Place) (w : List ℕ × Place) → IsBytes p.rest → is_no_who_len len ≡ false
    → field len any_who_of p ≡ Ok w → Takes p w.0 w.1 × IsAnyWho w.0 × (length w.0 ≡ len)
who_takes len p w fits some e =
    let (accepted, long, taken) = field_takes len any_who_of p w fits e in
    let (same, none) = taken_is (text_fault (take len p.rest)) (take len p.rest) w.0 accepted in
    let size : length w.0 ≡ len = ap length (sym same) ∙ long in
    let text = is_text w.0 (ap text_fault (sym same) ∙ none) in (
      subst (λ (t : List ℕ). Takes p t w.1) same taken,
      record { long = ap is_no_who_len size ∙ some; utf8 = text.0; plain = text.1 },
      size,
    )

-- an ACE was read and taken, and the list can accept it
pub record TakesAny (profile : Profile) (weight : ℕ) (p : Place) (a : AnyAce) (q : Place) : Type 0 where
  pub takes : Takes p (any_piece a) q
  pub is : IsAnyAce profile a
  pub light : weight + count_ones a.mask ≤ most_weight

-- if each field of an ACE was read, the ACE was read
takes_fields : (profile : Profile) (weight : ℕ) (p : Place) (t f m l : ℕ × Place) (w : List ℕ × Place)
    (z : Unit {0} × Place) → IsBytes p.rest → word_field type_of p ≡ Ok t → word_field (flags_of profile) t.1 ≡ Ok f
    → word_field (mask_of profile weight) f.1 ≡ Ok m → word_field who_len_of m.1 ≡ Ok l
    → field l.0 any_who_of l.1 ≡ Ok w → field (pad_len l.0) padding_of w.1 ≡ Ok z
    → TakesAny profile weight p (record { type_number = t.0; flags = f.0; mask = m.0; who = w.0 }) z.1
takes_fields profile weight p t f m l w z fits te fe me le we ze =
    let (number, few) = type_takes p t fits te in
    let (flags, flags_within) = flags_take profile t.1 f number.bytes fe in
    let (mask, mask_within, light) = mask_takes profile weight f.1 m flags.bytes me in
    let (len, some, short) = len_takes m.1 l mask.bytes le in
    let (who, is_who, long) = who_takes l.0 l.1 w len.bytes (len_long l.0 some short) we in
    let padding = padding_takes (pad_len l.0) w.1 z who.bytes ze in
    let who_len : Takes m.1 (word (length w.0)) l.1 = subst (λ (n : ℕ). Takes m.1 (word n) l.1) (sym long) len in
    let zeros : Takes w.1 (replicate (pad_len (length w.0)) 0) z.1 =
    subst (λ (n : ℕ). Takes w.1 (replicate (pad_len n) 0) z.1) (sym long) padding in
    record {
      takes = Takes-then (Takes-then (Takes-then (Takes-then (Takes-then number flags) mask) who_len) who) zeros;
      is = record { type_number = few; flags = flags_within; mask = mask_within; who = is_who };
      light = light;
    }

-- reading an ACE takes its bytes
pub any_takes : (profile : Profile) (weight : ℕ) (p : Place) (x : AnyAce × Place) → IsBytes p.rest
    → any_ace_at profile weight p ≡ Ok x → TakesAny profile weight p x.0 x.1
unfolding any_ace_at
any_takes profile weight p x fits e =
    bind_then (word_field type_of p) _ x e (λ t te tr.
    bind_then (word_field (flags_of profile) t.1) _ x tr (λ f fe fr.
    bind_then (word_field (mask_of profile weight) f.1) _ x fr (λ m me mr.
    bind_then (word_field who_len_of m.1) _ x mr (λ l le lr.
    bind_then (field l.0 any_who_of l.1) _ x lr (λ w we wr.
    bind_then (field (pad_len l.0) padding_of w.1) _ x wr (λ z ze zr.
    subst (λ (y : AnyAce × Place). TakesAny profile weight p y.0 y.1) (ok_is _ x zr)
    (takes_fields profile weight p t f m l w z fits te fe me le we ze)))))))

-- a part, and what access reads of the ACEs after those of the part
abbrev joined : Part → Part → Part
joined part more = record { kept = part.kept ++ more.kept; left_out = part.left_out + more.left_out }

-- it is the same to add an ACE and then join the others, or to join the ACE and the others
with_then : (part : Part) (a : AnyAce) (list : List AnyAce)
    → joined (with_ace part a) (access_part list) ≡ joined part (access_part (a ∷ list))
with_then part a list = by (is_for_access a) refl
  where
    by : (t : Bool) → is_for_access a ≡ t
        → joined (with_ace part a) (access_part list) ≡ joined part (access_part (a ∷ list))
    by true e = rw (e, append_assoc part.kept (kept_ace a ∷ []) (access_part list).kept) refl
    by false e = rw e (ap (λ (n : ℕ). record { kept = part.kept ++ (access_part list).kept; left_out = n })
        (omega arith))

-- to join no ACE changes nothing
joined_none : (part : Part) → joined part (access_part []) ≡ part
joined_none part =
    ap (λ (k : List Ace). record { kept = k; left_out = part.left_out + 0 }) (append-nil part.kept)
    ∙ ap (λ (n : ℕ). record { kept = part.kept; left_out = n }) (omega arith)

-- a part that is joined to no part stays the same
joined_first : (part : Part) → joined (record { kept = []; left_out = 0 }) part ≡ part
joined_first part = ap (λ (n : ℕ). record { kept = part.kept; left_out = n }) (omega arith)

-- ACEs were read and taken, and the part has what access reads of them
pub record TakesParts (profile : Profile) (n weight : ℕ) (old : Part) (p : Place) (x : Part × Place) : Type 0 where
  pub list : List AnyAce
  pub takes : Takes p (flat_map any_piece list) x.1
  pub long : length list ≡ n
  pub each : AllByRecursion (IsAnyAce profile) list
  pub light : weight + weight_of_any list ≤ most_weight
  pub part : x.0 ≡ joined old (access_part list)

-- reading ACEs takes their bytes
pub parts_take : (profile : Profile) (n weight : ℕ) (part : Part) (p : Place) (x : Part × Place) → IsBytes p.rest
    → weight ≤ most_weight → part_from profile n weight part p ≡ Ok x → TakesParts profile n weight part p x
unfolding part_from
parts_take profile zero weight part p x fits le e =
    subst (TakesParts profile zero weight part p) (ok_is (part, p) x e) (record {
      list = [];
      takes = record { parts = refl; counted = omega arith; bytes = fits };
      long = refl;
      each = tt;
      light = omega arith;
      part = sym (joined_none part);
    })
parts_take profile (suc n) weight part p x fits le e =
    bind_then (any_ace_at profile weight p) _ x e (λ first fe rest.
    let t = any_takes profile weight p first fits fe in
    let s = parts_take profile n (weight + count_ones first.0.mask) (with_ace part first.0) first.1 x t.takes.bytes
    t.light rest in
    record {
      list = first.0 ∷ s.list;
      takes = subst (λ (y : List ℕ). Takes p y x.1) (sym (flat_map-cons any_piece first.0 s.list))
          (Takes-then t.takes s.takes);
      long = omega (arith, s.long);
      each = (t.is, s.each);
      light = omega (arith, s.light, sum_by-cons (λ a. count_ones a.mask) first.0 s.list);
      part = s.part ∙ with_then part first.0 s.list;
    })

-- a part that was read is what access reads of the list that the bytes spell
pub part_spelled : (profile : Profile) (bytes : List ℕ) (part : Part) → IsBytes bytes
    → part_in profile bytes ≡ Ok part → IsPartOf profile bytes part
unfolding part_in
part_spelled profile bytes part fits e =
    bind_then (word_field count_of (place 0 bytes)) _ part e (λ count ce rest.
    bind_then (part_from profile count.0 0 (record { kept = []; left_out = 0 }) count.1) _ part rest (λ x xe last.
    let (n, accepted, taken, lt) = word_takes count_of (place 0 bytes) count fits ce in
    let (same, few) = count_is n count.0 accepted in
    let s = parts_take profile count.0 0 (record { kept = []; left_out = 0 }) count.1 x taken.bytes (omega arith) xe in
    let g = ended (eqb (length x.1.rest) 0) x.0 _ part last in
    let none : x.1.rest ≡ [] = no_bytes x.1.rest (eqb-true _ _ g.0) in
    let all = Takes-then taken s.takes in (
      s.list,
      record {
        count = omega (arith, s.long, few);
        weight = omega (arith, s.light);
        each = s.each;
        spelled = all.parts ∙ ap (λ (r : List ℕ). (word n ++ flat_map any_piece s.list) ++ r) none
            ∙ append-nil (word n ++ flat_map any_piece s.list)
            ∙ ap (λ (k : ℕ). word k ++ flat_map any_piece s.list) (same ∙ sym s.long);
      },
      sym g.1 ∙ s.part ∙ joined_first (access_part s.list),
    )))
  where
    ended : (b : Bool) (x : Part) (f : Fault) (y : Part) → cond b (Ok x) (Err f) ≡ Ok y → (b ≡ true) × (x ≡ y)
    ended true x f y e = (refl, ok_is x y e)
    ended false x f y e = absurd cc

    no_bytes : (rest : List ℕ) → length rest ≡ 0 → rest ≡ []
    no_bytes [] e = refl
    no_bytes (b ∷ rest) e = absurd (omega (arith, e))

-- ---- what was spelled is read again

-- a type below four is accepted
pub type_again : (n : ℕ) → n < 4 → type_of n ≡ Ok n
type_again n few = grind (arith, nat_tests)

-- a name is accepted
pub who_again : (who : List ℕ) → IsAnyWho who → any_who_of who ≡ Ok who
who_again who is = rw (is.utf8, is.plain) refl

-- the length of a name is within the bounds
pub bounds : (who : List ℕ) → IsAnyWho who → (1 ≤ length who) × (length who ≤ longest_who)
bounds who is = let long = is.long in grind (arith, nat_tests)

-- an ACE that was spelled is read again
any_again : (profile : Profile) (weight at : ℕ) (a : AnyAce) (rest : List ℕ) → IsProfile profile
    → IsAnyAce profile a → weight + count_ones a.mask ≤ most_weight
    → any_ace_at profile weight (place at (any_piece a ++ rest)) ≡ Ok (a, place (at + length (any_piece a)) rest)
unfolding any_ace_at
any_again profile weight at a rest ok is light =
    let n : ℕ = length a.who in
    let pad : List ℕ = replicate (pad_len n) 0 in
    let b = bounds a.who is.who in
    let len : length pad ≡ pad_len n = length-replicate _ _ in
    let r5 = pad ++ rest in
    let r4 = a.who ++ r5 in
    let r3 = word n ++ r4 in
    let r2 = word a.mask ++ r3 in
    let r1 = word a.flags ++ r2 in
    ap (λ (x : List ℕ). any_ace_at profile weight (place at x))
    (regrouped (word a.type_number) (word a.flags) (word a.mask) (word n) a.who pad rest)
    ∙ bind-ok _ (word_again type_of at a.type_number r1 a.type_number (let t = is.type_number in omega arith)
    (type_again a.type_number is.type_number))
    ∙ bind-ok _ (word_again (flags_of profile) (at + 4) a.flags r2 a.flags (flags_lt profile a.flags ok is.flags)
    (flags_again profile a.flags is.flags))
    ∙ bind-ok _ (word_again (mask_of profile weight) (at + 4 + 4) a.mask r3 a.mask (mask_lt profile a.mask ok is.mask)
    (mask_again profile weight a.mask is.mask light))
    ∙ bind-ok _ (word_again who_len_of (at + 4 + 4 + 4) n r4 n (omega (arith, b.1)) (who_len_again n b.0 b.1))
    ∙ bind-ok _ (field_again n any_who_of (at + 4 + 4 + 4 + 4) a.who r5 a.who refl (who_again a.who is.who))
    ∙ bind-ok _ (field_again (pad_len n) padding_of (at + 4 + 4 + 4 + 4 + n) pad rest tt len
    (padding_again (pad_len n)))
    ∙ ap (λ (k : ℕ). Ok (a, place k rest)) (omega (arith, len, length-append a.who pad))

-- ACEs that were spelled are read again
pub parts_again : (profile : Profile) (list : List AnyAce) (weight at : ℕ) (part : Part) (rest : List ℕ)
    → IsProfile profile → AllByRecursion (IsAnyAce profile) list → weight + weight_of_any list ≤ most_weight
    → part_from profile (length list) weight part (place at (flat_map any_piece list ++ rest))
    ≡ Ok (joined part (access_part list), place (at + length (flat_map any_piece list)) rest)
unfolding part_from
parts_again profile [] weight at part rest ok each light =
    ap (λ (x : Part). Ok (x, place at rest)) (sym (joined_none part))
    ∙ ap (λ (k : ℕ). Ok (joined part (access_part []), place k rest)) (omega arith)
parts_again profile (a ∷ list) weight at part rest ok each light =
    let heavy : weight + count_ones a.mask + weight_of_any list ≤ most_weight =
    omega (arith, light, sum_by-cons (λ x. count_ones x.mask) a list) in
    let more : List ℕ = flat_map any_piece list ++ rest in
    ap (λ (x : List ℕ). part_from profile (suc (length list)) weight part (place at x))
    (ap (λ (x : List ℕ). x ++ rest) (flat_map-cons any_piece a list)
    ∙ append_assoc (any_piece a) (flat_map any_piece list) rest)
    ∙ bind-ok _ (any_again profile weight at a more ok each.0 (omega (arith, heavy)))
    ∙ parts_again profile list (weight + count_ones a.mask) (at + length (any_piece a)) (with_ace part a) rest ok each.1
    heavy
    ∙ ap (λ (x : Part). Ok (x, place (at + length (any_piece a) + length (flat_map any_piece list)) rest))
    (with_then part a list)
    ∙ ap (λ (k : ℕ). Ok (joined part (access_part (a ∷ list)), place k rest))
    (omega (arith, ap length (flat_map-cons any_piece a list), length-append (any_piece a) (flat_map any_piece list)))

-- the part of bytes that spell a list is what access reads of the list
pub part_read : (profile : Profile) (list : List AnyAce) (bytes : List ℕ) → IsProfile profile
    → AnyXdr profile list bytes → part_in profile bytes ≡ Ok (access_part list)
unfolding part_in
part_read profile list bytes ok x =
    let n : ℕ = length list in
    let body : List ℕ = flat_map any_piece list in
    ap (part_in profile) (x.spelled ∙ sym (append-nil (word n ++ body)) ∙ append_assoc (word n) body [])
    ∙ bind-ok _ (word_again count_of 0 n (body ++ []) n (let c = x.count in omega arith) (count_again n x.count))
    ∙ bind-ok at_end (parts_again profile list 0 4 (record { kept = []; left_out = 0 }) [] ok x.each
    (let w = x.weight in omega arith))
    ∙ ap (λ (k : ℕ). Ok (record { kept = (access_part list).kept; left_out = k })) (omega arith)

-- ---- the answer of a reader

-- the answer of a reader that reads as the bytes say
module _ (p : Profile) (bytes : List ℕ) (ok : IsProfile p) (fits : IsBytes bytes) where
  -- a part that is returned is that of the list that the bytes spell
  pub part_found : (result : Result Part Fault) → PartReadAs result (part_in p bytes) → IfOk result (IsPartOf p bytes)
  part_found (Ok part) said = part_spelled p bytes part fits said
  part_found (Err f) reads = tt

  -- the part of the list that the bytes spell is returned, unless memory runs out
  pub part_only : (result : Result Part Fault) → PartReadAs result (part_in p bytes) → (list : List AnyAce)
      → AnyXdr p list bytes → IsPartOrMemory result (access_part list)
  part_only (Ok part) said list x = ok_is _ _ (sym said ∙ part_read p list bytes ok x)
  part_only (Err f) reads list x = elim reads [
    | inl memory ↦ memory
    | inr said ↦ absurd (apart (sym said ∙ part_read p list bytes ok x))
  ] where
    apart : {x : Part} {f : Fault} → Err f ≡ Ok x → ⊥
    apart e = cc
