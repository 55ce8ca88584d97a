-- A body is judged from the place up to which it was judged before.
use Rattle.acl_nfs4.proofs.Common.{[], Ace, ace_at, ap, append_assoc, arith, behind_scanned, count_ones, drop, drop_at, IsBytes, IsProfile, IsScanned, length, length-append, length-take, List, Ok, piece, Place, Profile, Progress, refl, sym, take, take-append-drop, ℕ, ◌++◌, ◌+◌, ◌-◌, ◌∙◌, ◌∷◌, ◌≡◌, ◌≤◌}
use Rattle.acl_nfs4.proofs.xdr.Fields.{IsBytes-drop, front_is}
use Rattle.acl_nfs4.proofs.xdr.Lists.{ace_takes}
use Rattle.acl_nfs4.proofs.xdr.Faults.{weight-push}
use Rattle.acl_nfs4.proofs.list.Push.{each_push, spells_push, no_spells}
use Rattle.acl_nfs4.proofs.list.Within.{ace_in_full}

-- each body is judged up to its front
pub none_scanned : (p : Profile) (body : List ℕ) → IsScanned p body (record { seen = 0; used = 0; weight = 0 })
none_scanned p body = record
    { list = []; spells = no_spells; each = tt; long = refl; total = refl; inside = omega arith }

-- what was judged of a body stays so in another that begins alike
pub scanned_on : (p : Profile) (body whole : List ℕ) (at : Progress) → take at.used whole ≡ take at.used body
    → at.used ≤ length whole → IsScanned p body at → IsScanned p whole at
scanned_on p body whole at same inside s = record {
  list = s.list;
  spells = rw same s.spells;
  each = s.each;
  long = s.long;
  total = s.total;
  inside = inside;
}

-- one more ACE was judged
pub record Scans (p : Profile) (body : List ℕ) (from : Progress) (a : Ace) (q : Place) : Type 0 where
  pub inside : length q.rest ≤ length body
  pub here : q.at ≡ 4 + (length body - length q.rest)
  pub rest : q.rest ≡ drop (length body - length q.rest) body
  pub scanned : IsScanned p body
      (record { seen = from.seen + 1; used = length body - length q.rest; weight = from.weight + count_ones a.mask })

-- a body is judged one ACE further if the next ACE is accepted
pub scans_one_more : (p : Profile) (body : List ℕ) (from : Progress) (a : Ace) (here q : Place) → IsProfile p
    → IsBytes body
    → IsScanned p body from → here ≡ behind_scanned body from → ace_at p from.weight here ≡ Ok (a, q)
    → Scans p body from a q
scans_one_more p body from a here q ok fits s at e =
    let t = ace_takes p from.weight (behind_scanned body from) (a, q) (IsBytes-drop from.used body fits)
    (ap (ace_at p from.weight) (sym at) ∙ e) in
    let front : List ℕ = take from.used body in
    let whole : body ≡ (front ++ piece a) ++ q.rest = sym (take-append-drop from.used body)
    ∙ ap (λ (x : List ℕ). front ++ x) t.takes.parts ∙ sym (append_assoc front (piece a) q.rest) in
    let len : length front ≡ from.used = let h = s.inside in omega (arith, length-take from.used body) in
    let all : length body ≡ from.used + length (piece a) + length q.rest =
    omega (arith, ap length whole, length-append (front ++ piece a) q.rest, length-append front (piece a), len) in
    let cut : length body - length q.rest ≡ length (front ++ piece a) =
    omega (arith, all, length-append front (piece a), len) in
    let taken : take (length body - length q.rest) body ≡ front ++ piece a = front_is body (front ++ piece a) q.rest
    whole in
    record {
      inside = omega (arith, all);
      here = omega (arith, all, t.takes.counted);
      rest = sym (ap (drop (length body - length q.rest)) whole
          ∙ drop_at (front ++ piece a) q.rest (length body - length q.rest) (sym cut));
      scanned = record {
        list = s.list ++ a ∷ [];
        spells = rw taken (spells_push s.list a front s.spells (ace_in_full p a ok t.is)
            (omega (arith, t.light, s.total)));
        each = each_push p s.list a s.each t.is;
        long = omega (arith, s.long, length-append s.list (a ∷ []));
        total = sym (weight-push s.list a) ∙ ap (λ (k : ℕ). k + count_ones a.mask) s.total;
        inside = omega arith;
      };
    }

-- a place with these parts is the place that is made of them
pub place_is : (q : Place) (n : ℕ) (rest : List ℕ) → q.at ≡ n → q.rest ≡ rest → q ≡ record { at = n; rest = rest }
place_is q n rest a r = rw (a, r) refl
