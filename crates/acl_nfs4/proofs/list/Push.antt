-- One more ACE at the end of a list.
use Rattle.acl_nfs4.proofs.Common.{[], Ace, ace, aces_of, AllByRecursion, ap, append-nil, append_assoc, arith, count_ones, false, flat_map, flat_map-cons, full, IsAccepted, IsAce, IsOwned, IsWho, le-ltb, leb, length, length-append, List, ltb, most_aces, most_weight, None, piece, Profile, refl, replicate, SpellsBody, sym, take, take-append-add, take-replicate, weight, ℕ, ◌++◌, ◌+◌, ◌<◌, ◌∙◌, ◌∷◌, ◌≡◌, ◌≤◌}
use Rattle.std.proofs.lemmas.Grind.{flat_map-append}
use Rattle.acl_nfs4.specs.declared.ace.AceRef.{AceRef}
use Rattle.acl_nfs4.specs.Push.{push_refusal}
use Rattle.acl_nfs4.proofs.xdr.Body.{aces_of-flat_map, is_body}
use Rattle.acl_nfs4.proofs.xdr.Faults.{weight-push}
use Rattle.acl_nfs4.proofs.list.Within.{flags_within}

-- if all ACEs of a list and one more are of the profile, so are all ACEs of the list with that ACE at the end
pub each_push : (profile : Profile) (list : List Ace) (a : Ace) → AllByRecursion (IsAce profile) list → IsAce profile a
    → AllByRecursion (IsAce profile) (list ++ a ∷ [])
each_push profile [] a each is = (is, tt)
each_push profile (b ∷ list) a each is = (each.0, each_push profile list a each.1 is)

-- if all ACEs of a list are of the profile, so is the last one
pub each_last : (profile : Profile) (list : List Ace) (a : Ace) → AllByRecursion (IsAce profile) (list ++ a ∷ [])
    → IsAce profile a
each_last profile [] a each = each.0
each_last profile (b ∷ list) a each = each_last profile list a each.1

-- the pieces of a list with one more ACE are those of the list and the piece of that ACE
pub flat_map-push : (list : List Ace) (a : Ace) → flat_map piece (list ++ a ∷ []) ≡ flat_map piece list ++ piece a
flat_map-push list a = flat_map-append piece list (a ∷ [])
    ∙ ap (λ (t : List ℕ). flat_map piece list ++ t) (flat_map-cons piece a [] ∙ append-nil (piece a))

-- if bytes spell a list, the bytes and one more piece spell the list and one more ACE
pub spells_push : (list : List Ace) (a : Ace) (bytes : List ℕ) → SpellsBody list bytes → IsAce full a
    → weight list + count_ones a.mask ≤ most_weight → SpellsBody (list ++ a ∷ []) (bytes ++ piece a)
spells_push list a bytes s is light = record {
  spelled = ap (λ (t : List ℕ). t ++ piece a) s.spelled ∙ sym (flat_map-push list a);
  weight = omega (arith, light, weight-push list a);
  each = each_push full list a s.each is;
}

-- the empty bytes spell the empty list
pub no_spells : SpellsBody [] []
no_spells = record { spelled = refl; weight = omega arith; each = tt }

-- the empty bytes are the body of the empty list
pub owned_none : (bytes : List ℕ) → bytes ≡ [] → IsOwned 0 0 bytes
owned_none bytes e =
    let list : aces_of 0 [] ≡ [] = aces_of-flat_map [] [] no_spells in
    rw e (record { spells = is_body [] 0 [] refl no_spells; small = omega arith; heavy = ap weight list })

-- the empty bytes have no ACE
pub none_is : (bytes : List ℕ) → bytes ≡ [] → aces_of 0 bytes ≡ []
none_is bytes e = rw e (aces_of-flat_map [] [] no_spells)

-- a list after a push
pub record Pushed (n w : ℕ) (bytes : List ℕ) (a : Ace) : Type 0 where
  pub owned : IsOwned (n + 1) (w + count_ones a.mask) (bytes ++ piece a)
  pub list : aces_of (n + 1) (bytes ++ piece a) ≡ aces_of n bytes ++ a ∷ []

-- a push keeps the invariant of a list
pub pushed : (n w : ℕ) (bytes : List ℕ) (a : Ace) → IsOwned n w bytes → IsAce full a → n < most_aces
    → w + count_ones a.mask ≤ most_weight → Pushed n w bytes a
pushed n w bytes a o is room light =
    let list : List Ace = aces_of n bytes in
    let s : SpellsBody (list ++ a ∷ []) (bytes ++ piece a) =
    spells_push list a bytes o.spells.spells is (omega (arith, light, o.heavy)) in
    let len : length (list ++ a ∷ []) ≡ n + 1 = omega (arith, length-append list (a ∷ []), o.spells.whole) in
    let e : aces_of (n + 1) (bytes ++ piece a) ≡ list ++ a ∷ [] =
    ap (λ (k : ℕ). aces_of k (bytes ++ piece a)) (sym len) ∙ aces_of-flat_map (list ++ a ∷ []) (bytes ++ piece a) s in
    record {
      owned = record {
        spells = is_body (list ++ a ∷ []) (n + 1) (bytes ++ piece a) len s;
        small = omega arith;
        heavy = ap weight e ∙ sym (weight-push list a) ∙ ap (λ (k : ℕ). k + count_ones a.mask) o.heavy;
      };
      list = e;
    }

-- a push of an ACE of the code onto the list that the fields hold keeps the invariant
pub pushed_item : {n w : ℕ} {bytes : List ℕ} {list : List Ace} (item : AceRef) → IsOwned n w bytes
    → aces_of n bytes ≡ list → item.flags.bits ≤ 255 → IsWho item.who.now → length list < most_aces
    → weight list + count_ones item.mask.bits ≤ most_weight → Pushed n w bytes (ace item)
pushed_item {n = n} {w = w} {bytes = bytes} item o e small who room light =
    pushed n w bytes (ace item) o
    (record { flags = flags_within item.flags.bits small; mask = item.mask.within; who = who })
    (omega (arith, ap length e, o.spells.whole, room)) (omega (arith, ap weight e, o.heavy, light))

-- if the longer list is accepted, nothing refuses the ACE
pub push_passes : (list : List Ace) (a : Ace) → IsAccepted full (list ++ a ∷ []) → push_refusal list a ≡ None
push_passes list a ok =
    let room : leb most_aces (length list) ≡ false = let h = ok.count in let n = length-append list (a ∷ []) in
    grind arith in
    let light : ltb most_weight (weight list + count_ones a.mask) ≡ false =
    le-ltb most_weight _ (omega (arith, ok.weight, weight-push list a)) in
    rw (room, light, (each_last full list a ok.each).who) refl

-- a head, a who and three zero bytes after a text, cut after the padding, are the text and the piece
pub fields_appended : (old head who b c d : List ℕ) (n m pad : ℕ) → b ≡ old ++ head → c ≡ b ++ who
    → d ≡ c ++ replicate 3 0 → n ≡ length c → m ≡ pad → pad ≤ 3
    → take (n + m) d ≡ old ++ ((head ++ who) ++ replicate pad 0)
fields_appended old head who b c d n m pad be ce de ne me few =
    let front : c ≡ old ++ (head ++ who) = ce ∙ ap (λ (t : List ℕ). t ++ who) be ∙ append_assoc old head who in
    rw (ne, me, de, take-append-add c (replicate 3 0) pad, take-replicate {X = ℕ} pad 3 0 few, front)
    (append_assoc old (head ++ who) (replicate pad 0))
