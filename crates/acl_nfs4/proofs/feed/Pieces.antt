-- A piece that is taken in chunks.
use Rattle.acl_nfs4.proofs.Common.{ap, append_assoc, arith, Breaks, done, drop, Fed, Feeds, further, HasTaken, inl, inr, IsCutShort, IsFault, IsFirstFault, length, length-append, length-take, List, more, Profile, Reason, refl, refused, refuses, RefusesStream, size, Stage, StreamState, subst, sym, take, take-add, take-append-add, take-append-drop, take-append-le, Truncated, Xdr, ℕ, ◌++◌, ◌+◌, ◌∙◌, ◌≡◌, ◌≢◌, ◌≤◌}
use Rattle.acl_nfs4.specs.declared.feed.fed.Fed.TheVariants as fed
use Rattle.acl_nfs4.proofs.xdr.Faults.{first_at}

-- a field that is refused and not cut short is whole
pub breaks_whole : (p : Profile) (s : Stage) (rest : List ℕ) (n : ℕ) (r : Reason) → Breaks p s rest n r → r ≢ Truncated
    → (size s ≤ length rest) × (n ≡ size s) × refuses p s (take (size s) rest) r
breaks_whole p s rest n r (inl h) not_cut = absurd (not_cut h.2)
breaks_whole p s rest n r (inr h) not_cut = h

-- a fault of a text is a fault of each longer text, at the same place
pub first_stays : (p : Profile) (text others : List ℕ) (o t : ℕ) (r : Reason) → IsFirstFault p text o t r
    → r ≢ Truncated → IsFirstFault p (text ++ others) o t r
first_stays p text others o t r f not_cut =
    let b = breaks_whole p f.stage f.rest f.more r f.breaks not_cut in
    let kept : refuses p f.stage (take (size f.stage) (f.rest ++ others)) r =
    subst (λ (x : List ℕ). refuses p f.stage x r) (sym (take-append-le (size f.stage) f.rest others b.0)) b.2 in
    first_at f.stage f.front (f.rest ++ others) f.more
    (ap (λ (x : List ℕ). x ++ others) f.parts ∙ append_assoc f.front f.rest others) f.border f.here f.owed f.some
    (inr (omega (arith, b.0, length-append f.rest others), b.1, kept)) f.ends

-- a fault of a text is a fault of each longer text
pub fault_stays : (p : Profile) (text others : List ℕ) (o : ℕ) (r : Reason) → IsFault p text o r → r ≢ Truncated
    → IsFault p (text ++ others) o r
fault_stays p text others o r f not_cut = (f.0, first_stays p text others o f.0 r f.1 not_cut)

-- a feed that answers More has taken the whole piece
has_taken : (old new : StreamState) (piece : List ℕ) → Feeds old piece fed.More new → HasTaken old piece new
has_taken (more p s) new piece f = f.0
has_taken (done list) new piece f = let e = f.1 in absurd cc
has_taken (refused q) new piece f = let e = f.1 in absurd cc

-- the answer to y after a stream and x is, counted from the stream, the answer to x and y together
pub joins : (p : Profile) (s x y : List ℕ) (a : Fed) (new : StreamState) → Feeds (more p (s ++ x)) y a new
    → Feeds (more p s) (x ++ y) (further (length x) a) new
joins p s x y fed.More new h =
    let e : (s ++ x) ++ y ≡ s ++ (x ++ y) = append_assoc s x y in
    (h.0 ∙ ap (λ (t : List ℕ). more p t) e, subst (λ (t : List ℕ). IsCutShort p t) e h.1)
joins p s x y (fed.Done t) new h =
    let e : (s ++ x) ++ take t y ≡ s ++ take (length x + t) (x ++ y) =
    append_assoc s x (take t y) ∙ ap (λ (z : List ℕ). s ++ z) (sym (take-append-add x y t)) in
    (h.0, h.1, omega (arith, h.2, length-append x y), subst (λ (z : List ℕ). Xdr p h.0 z) e h.3)
joins p s x y (fed.Refused f) new h = (h.0, subst (λ (t : List ℕ). RefusesStream p t f) (append_assoc s x y) h.1)

-- the answer to a chunk, counted from the bytes that were taken before it, is the answer to both together
joins_taken : (old now new : StreamState) (front chunk : List ℕ) (a : Fed) → HasTaken old front now
    → Feeds now chunk a new
    → Feeds old (front ++ chunk) (further (length front) a) new
joins_taken (more p s) now new front chunk a h f =
    joins p s front chunk a new (subst (λ (n : StreamState). Feeds n chunk a new) h f)
joins_taken (done list) now new front chunk a h f =
    let g = subst (λ (n : StreamState). Feeds n chunk a new) h.0 f in
    (g.0, ap (further (length front)) g.1 ∙ ap (λ (n : ℕ). fed.Done (n + 0)) (ap length h.1))
joins_taken (refused q) now new front chunk a h f =
    let g = subst (λ (n : StreamState). Feeds n chunk a new) h.0 f in
    (g.0, ap (further (length front)) g.1)

-- bytes after a piece that ends the list or is refused change nothing
pub unchanged_by_more : (old new : StreamState) (chunk back : List ℕ) (a : Fed) → a ≢ fed.More → Feeds old chunk a new
    → Feeds old (chunk ++ back) a new
unchanged_by_more (more p s) new chunk back fed.More ends h = absurd (ends refl)
unchanged_by_more (more p s) new chunk back (fed.Done t) ends h = (
  h.0,
  h.1,
  omega (arith, h.2, length-append chunk back),
  subst (λ (x : List ℕ). Xdr p h.0 (s ++ x)) (sym (take-append-le t chunk back h.2)) h.3,
)
unchanged_by_more (more p s) new chunk back (fed.Refused f) ends h = (
  h.0,
  elim h.1 [
    | inl m ↦ inl m
    | inr r ↦ inr (
      subst (λ (t : List ℕ). IsFault p t f.offset f.reason) (append_assoc s chunk back)
          (fault_stays p (s ++ chunk) back f.offset f.reason r.0 r.1),
      r.1,
    )
  ],
)
unchanged_by_more (done list) new chunk back a ends h = h
unchanged_by_more (refused q) new chunk back a ends h = h

-- the answer to what is left of a piece, counted from the front of the piece, is the answer to the whole piece
pub end_rest : (old now new : StreamState) (piece : List ℕ) {rest : List ℕ} (taken : ℕ) (a : Fed) → taken ≤ length piece
    → rest ≡ drop taken piece → HasTaken old (take taken piece) now → Feeds now rest a new
    → Feeds old piece (further taken a) new
end_rest old now new piece {rest = rest} taken a le e h f =
    let n : length (take taken piece) ≡ taken = omega (arith, length-take taken piece) in
    let whole : take taken piece ++ rest ≡ piece = rw e (take-append-drop taken piece) in
    subst (λ (k : ℕ). Feeds old piece (further k a) new) n
    (subst (λ (x : List ℕ). Feeds old x (further (length (take taken piece)) a) new) whole
    (joins_taken old now new (take taken piece) rest a h f))

-- an answer other than More to the next chunk of a piece is the answer to the whole piece
pub end_chunk : (old now new : StreamState) (piece : List ℕ) {rest chunk back : List ℕ} (taken n : ℕ) (a : Fed)
    → taken ≤ length piece → rest ≡ drop taken piece → chunk ≡ take n rest → back ≡ drop n rest
    → HasTaken old (take taken piece) now → a ≢ fed.More → Feeds now chunk a new → Feeds old piece (further taken a) new
end_chunk old now new piece {rest = rest} {chunk = chunk} {back = back} taken n a le re ce be h ends f =
    let both : chunk ++ back ≡ rest = rw (ce, be) (take-append-drop n rest) in
    end_rest old now new piece taken a le re h
    (subst (λ (x : List ℕ). Feeds now x a new) both (unchanged_by_more now new chunk back a ends f))

-- after one more part that is answered with More, the feed has taken the piece up to the end of that part
pub more_piece : (old now new : StreamState) (piece : List ℕ) {rest chunk : List ℕ} (taken n : ℕ)
    → rest ≡ drop taken piece
    → chunk ≡ take n rest → HasTaken old (take taken piece) now → Feeds now chunk fed.More new
    → HasTaken old (take (taken + n) piece) new
more_piece old now new piece {chunk = chunk} taken n re ce h f =
    let e : take taken piece ++ chunk ≡ take (taken + n) piece = ap (λ (x : List ℕ). take taken piece ++ x)
    (ce ∙ ap (take n) re) ∙ sym (take-add taken n piece) in
    subst (λ (x : List ℕ). HasTaken old x new) e
    (has_taken old new (take taken piece ++ chunk) (joins_taken old now new (take taken piece) chunk fed.More h f))
