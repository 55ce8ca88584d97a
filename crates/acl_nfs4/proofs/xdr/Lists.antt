-- What reading an ACE takes, and the front of a list.
use Rattle.acl_nfs4.proofs.Common.{[], Ace, ace_at, AllByRecursion, arith, count_ones, field, flags_of, IsAccepted, IsAce, IsBytes, Kind, kind_of, length, length-append, List, mask_of, most_weight, Ok, pad_len, padding_of, piece, Place, Profile, replicate, subst, sum_by-append, sum_by-cons, sym, weight, who_len_of, who_of, word, word_field, ℕ, ◌++◌, ◌+◌, ◌∷◌, ◌≡◌, ◌≤◌}
use Rattle.acl_nfs4.proofs.xdr.Fields.{bind_then, flags_take, kind_takes, len_takes, mask_takes, ok_is, padding_takes, Takes, Takes-then, who_takes}

-- ---- one ACE

-- an ACE was read and taken, and the list can accept it
pub record TakesAce (profile : Profile) (weight : ℕ) (p : Place) (a : Ace) (q : Place) : Type 0 where
  pub takes : Takes p (piece a) q
  pub is : IsAce profile a
  pub light : weight + count_ones a.mask ≤ most_weight

-- if each field of an ACE was read, the ACE was read
takes_fields : (profile : Profile) (weight : ℕ) (p : Place) (k : Kind × Place) (f m l : ℕ × Place) (w : List ℕ × Place)
    (z : Unit {0} × Place) → IsBytes p.rest → word_field kind_of p ≡ Ok k → word_field (flags_of profile) k.1 ≡ Ok f
    → word_field (mask_of profile weight) f.1 ≡ Ok m → word_field who_len_of m.1 ≡ Ok l
    → field l.0 who_of l.1 ≡ Ok w → field (pad_len l.0) padding_of w.1 ≡ Ok z
    → TakesAce profile weight p (record { kind = k.0; flags = f.0; mask = m.0; who = w.0 }) z.1
takes_fields profile weight p k f m l w z fits ke fe me le we ze =
    let kind = kind_takes p k fits ke in
    let (flags, flags_within) = flags_take profile k.1 f kind.bytes fe in
    let (mask, mask_within, light) = mask_takes profile weight f.1 m flags.bytes me in
    let (len, some, short) = len_takes m.1 l mask.bytes le in
    let (who, is_who, long) = who_takes l.0 l.1 w len.bytes we in
    let padding = padding_takes (pad_len l.0) w.1 z who.bytes ze in
    let who_len : Takes m.1 (word (length w.0)) l.1 = subst (λ (n : ℕ). Takes m.1 (word n) l.1) (sym long) len in
    let zeros : Takes w.1 (replicate (pad_len (length w.0)) 0) z.1 =
    subst (λ (n : ℕ). Takes w.1 (replicate (pad_len n) 0) z.1) (sym long) padding in
    record {
      takes = Takes-then (Takes-then (Takes-then (Takes-then (Takes-then kind flags) mask) who_len) who) zeros;
      is = record { flags = flags_within; mask = mask_within; who = is_who };
      light = light;
    }

-- reading an ACE takes its piece
pub ace_takes : (profile : Profile) (weight : ℕ) (p : Place) (x : Ace × Place) → IsBytes p.rest
    → ace_at profile weight p ≡ Ok x → TakesAce profile weight p x.0 x.1
unfolding ace_at
ace_takes profile weight p x fits e =
    bind_then (word_field kind_of p) _ x e (λ k ke kr.
    bind_then (word_field (flags_of profile) k.1) _ x kr (λ f fe fr.
    bind_then (word_field (mask_of profile weight) f.1) _ x fr (λ m me mr.
    bind_then (word_field who_len_of m.1) _ x mr (λ l le lr.
    bind_then (field l.0 who_of l.1) _ x lr (λ w we wr.
    bind_then (field (pad_len l.0) padding_of w.1) _ x wr (λ z ze zr.
    subst (λ (y : Ace × Place). TakesAce profile weight p y.0 y.1) (ok_is _ x zr)
    (takes_fields profile weight p k f m l w z fits ke fe me le we ze)))))))

-- ---- the list

-- the weight of a list is the bits of its first ACE and the weight of the others
pub weight-cons : (a : Ace) (list : List Ace) → weight (a ∷ list) ≡ count_ones a.mask + weight list
weight-cons a list = sum_by-cons (λ x. count_ones x.mask) a list

-- ---- the front of a list

-- what holds for each ACE of a list holds for each ACE of its front
each_front : (P : Ace → Type 0) (front back : List Ace) → AllByRecursion P (front ++ back) → AllByRecursion P front
each_front P [] back each = tt
each_front P (a ∷ front) back each = (each.0, each_front P front back each.1)

-- the front of an accepted list is accepted
pub front_accepted : (p : Profile) (front back : List Ace) → IsAccepted p (front ++ back) → IsAccepted p front
front_accepted p front back ok = record {
  count = omega (arith, ok.count, length-append front back);
  weight = omega (arith, ok.weight, sum_by-append (λ a. count_ones a.mask) front back);
  each = each_front (IsAce p) front back ok.each;
}
