-- The answer of a feed for the stream so far, and many pieces as one.
use Rattle.acl_nfs4.proofs.Common.{[], Ace, ap, append-nil, append_assoc, arith, concat, done, drop, Fault, Fed, FedExactly, Feeds, FeedsEach, inl, inr, IsCutShort, IsFault, IsFeed, IsProfile, length, length-append, length-take, List, more, no_memory, Profile, Progress, Reason, refl, refused, RefusesStream, SameOrFails, state_of, StreamState, subst, sym, take, take-append-drop, together, Truncated, Xdr, ℕ, ◌++◌, ◌-◌, ◌∙◌, ◌∷◌, ◌≡◌, ◌≤◌, ◌⊎◌}
use Rattle.acl_nfs4.specs.Stream.{IsFedOrFails}
use Rattle.acl_nfs4.specs.declared.feed.step.Stage.{Stage}
use Rattle.acl_nfs4.specs.declared.feed.step.Stage.TheVariants.{Open, Done, Refused}
use Rattle.acl_nfs4.specs.declared.feed.fed.Fed.TheVariants as fed
use Rattle.acl_nfs4.proofs.xdr.Resume.{one_spelling}
use Rattle.acl_nfs4.proofs.xdr.OneFault.{one_place, value_or_fault}
use Rattle.acl_nfs4.proofs.feed.Pieces.{joins, unchanged_by_more}
use Rattle.acl_nfs4.proofs.feed.Streaming.{text_short}

-- two faults of a text are the same fault
pub same_fault : (p : Profile) (whole : List ℕ) (f : Fault) (o : ℕ) (r : Reason) → IsProfile p
    → IsFault p whole f.offset f.reason → IsFault p whole o r → f ≡ record { offset = o; reason = r }
same_fault p whole f o r ok g h = let e = one_place p whole f.offset o f.reason r ok g h in rw (sym e.0, sym e.1) refl

-- two faults of a text have the same reason
pub one_reason : (p : Profile) (whole : List ℕ) (o q : ℕ) (r s : Reason) → IsProfile p → IsFault p whole o r
    → IsFault p whole q s → r ≡ s
one_reason p whole o q r s ok f g = (one_place p whole o q r s ok f g).1

-- a stream and a piece are the stream with the front of the piece, and then the rest of the piece
whole_is : (s piece : List ℕ) (t : ℕ) → s ++ piece ≡ (s ++ take t piece) ++ drop t piece
whole_is s piece t = ap (λ (x : List ℕ). s ++ x) (sym (take-append-drop t piece))
    ∙ sym (append_assoc s (take t piece) (drop t piece))

-- a stream whose list ends in a piece has no fault
ended_or_fault : (p : Profile) (s piece : List ℕ) (t : ℕ) (list : List Ace) (o : ℕ) (r : Reason) → IsProfile p
    → Xdr p list (s ++ take t piece) → IsFault p (s ++ piece) o r → ⊥
ended_or_fault p s piece t list o r ok x f = value_or_fault p (s ++ piece) list (s ++ take t piece) (drop t piece) o r
    ok x (whole_is s piece t) f

-- a refusal that is true of the stream is the exact answer, or memory ran out
refused_exactly : (p : Profile) (s piece : List ℕ) (r : Fault) → IsProfile p → RefusesStream p (s ++ piece) r
    → FedExactly p (s ++ piece) (length s) (fed.Refused r)
refused_exactly p s piece r ok (inl m) = record {
  cut = λ o f. inr (ap (λ (x : Fault). fed.Refused x) m);
  whole = λ list text rest x e. inr (ap (λ (y : Fault). fed.Refused y) m);
  fault = λ f g not_cut. inr (ap (λ (x : Fault). fed.Refused x) m);
}
refused_exactly p s piece r ok (inr h) = record {
  cut = λ o f. absurd (h.1 (one_reason p (s ++ piece) r.offset o r.reason Truncated ok h.0 f));
  whole = λ list text rest x e. absurd (value_or_fault p (s ++ piece) list text rest r.offset r.reason ok x e h.0);
  fault = λ f g not_cut. inl
      (ap (λ (x : Fault). fed.Refused x) (same_fault p (s ++ piece) r f.offset f.reason ok h.0 g));
}

-- the bytes of a piece that belong to the list are those that the list has beyond the stream so far
end_is : (p : Profile) (s piece text rest : List ℕ) (t : ℕ) (a b : List Ace) → IsProfile p → t ≤ length piece
    → Xdr p a (s ++ take t piece) → Xdr p b text → s ++ piece ≡ text ++ rest → t ≡ length text - length s
end_is p s piece text rest t a b ok le x y e =
    let w = (one_spelling p a b (s ++ take t piece) text (drop t piece) rest ok x y (sym (whole_is s piece t) ∙ e)).1 in
    omega (arith, ap length w, length-append s (take t piece), length-take t piece, le)

-- the answer of a feed to a piece is the exact answer for the stream with the piece
fed_exactly : (p : Profile) (s piece : List ℕ) (answer : Fed) (new : StreamState) → IsProfile p
    → Feeds (more p s) piece answer new → FedExactly p (s ++ piece) (length s) answer
fed_exactly p s piece fed.More new ok h = record {
  cut = λ o f. inl refl;
  whole = λ list text rest x e. absurd (value_or_fault p (s ++ piece) list text rest h.1.0 Truncated ok x e h.1.1);
  fault = λ f g not_cut. absurd (not_cut (one_reason p (s ++ piece) f.offset h.1.0 f.reason Truncated ok g h.1.1));
}
fed_exactly p s piece (fed.Done t) new ok h = record {
  cut = λ o f. absurd (ended_or_fault p s piece t h.0 o Truncated ok h.3 f);
  whole = λ list text rest x e. inl (ap (λ (k : ℕ). fed.Done k) (end_is p s piece text rest t h.0 list ok h.2 h.3 x e));
  fault = λ f g not_cut. absurd (ended_or_fault p s piece t h.0 f.offset f.reason ok h.3 g);
}
fed_exactly p s piece (fed.Refused r) new ok h = refused_exactly p s piece r ok h.1

-- the profile of a feed that represents an unfinished stream has only flags and rights of the standard
state_profile : (p q : Profile) (stage : Stage) (so_far : Progress) (text s : List ℕ) → IsFeed q stage so_far text
    → state_of q stage so_far text ≡ more p s → IsProfile p
state_profile p q (Open f) so_far text s is e =
    subst (λ (x : Profile). IsProfile x) (more_profile q p text s e) is.profile where
      more_profile : (q p : Profile) (text s : List ℕ) → more q text ≡ more p s → q ≡ p
      more_profile q p text s e = cc
state_profile p q Done so_far text s is e = absurd cc
state_profile p q (Refused f) so_far text s is e = absurd cc

-- the answer of a feed, by its fields before the call, is the exact answer for the stream with the piece
pub fed_so : (q : Profile) (stage : Stage) (so_far : Progress) (text : List ℕ) (old : StreamState) (piece : List ℕ)
    (answer : Fed) (new : StreamState) → IsFeed q stage so_far text → state_of q stage so_far text ≡ old
    → Feeds old piece answer new → (p : Profile) (s : List ℕ) → old ≡ more p s
    → FedExactly p (s ++ piece) (length s) answer
fed_so q stage so_far text old piece answer new is view h p s e =
    fed_exactly p s piece answer new (state_profile p q stage so_far text s is (view ∙ e))
    (subst (λ (o : StreamState). Feeds o piece answer new) e h)

-- ---- many pieces

-- two states of a feed after the same answer to the same piece are the same
one_state : (p : Profile) (s piece : List ℕ) (a : Fed) (x y : StreamState) → IsProfile p → Feeds (more p s) piece a x
    → Feeds (more p s) piece a y → x ≡ y
one_state p s piece fed.More x y ok h g = h.0 ∙ sym g.0
one_state p s piece (fed.Done t) x y ok h g =
    let text : List ℕ = s ++ take t piece in
    h.1 ∙ ap (λ (l : List Ace). done l) (one_spelling p h.0 g.0 text text [] [] ok h.3 g.3 refl).0 ∙ sym g.1
one_state p s piece (fed.Refused f) x y ok h g = h.0 ∙ sym g.0

-- an exact answer for the stream is the answer of the feed, unless memory ran out for one of them
exactly_this : (p : Profile) (s piece : List ℕ) (a b : Fed) (x : StreamState) → Feeds (more p s) piece a x
    → FedExactly p (s ++ piece) (length s) b → (a ≡ fed.Refused no_memory) ⊎ IsFedOrFails b a
exactly_this p s piece fed.More b x h e = inr (e.cut h.1.0 h.1.1)
exactly_this p s piece (fed.Done t) b x h e =
    let n : length (s ++ take t piece) - length s ≡ t =
    omega (arith, length-append s (take t piece), length-take t piece, h.2) in
    inr (subst (λ (k : ℕ). IsFedOrFails b (fed.Done k)) n
    (e.whole h.0 (s ++ take t piece) (drop t piece) h.3 (whole_is s piece t)))
exactly_this p s piece (fed.Refused f) b x h e = elim h.1 [
  | inl m ↦ inl (ap (λ (g : Fault). fed.Refused g) m)
  | inr r ↦ inr (e.fault f r.0 r.1)
]

-- two answers to a piece are the same and lead to the same state, unless memory runs out
pub one_answer : (p : Profile) (s piece : List ℕ) (a b : Fed) (x y : StreamState) → IsProfile p
    → Feeds (more p s) piece a x → Feeds (more p s) piece b y → SameOrFails a x b y
one_answer p s piece a b x y ok h g =
    elim (exactly_this p s piece a b x h (fed_exactly p s piece b y ok g)) [
      | inl fails ↦ inl fails
      | inr other ↦ elim other [
        | inl same ↦ inr (inr (
          sym same,
          one_state p s piece b x y ok (subst (λ (z : Fed). Feeds (more p s) piece z x) (sym same) h) g,
        ))
        | inr fails ↦ inr (inl fails)
      ]
    ]

-- a feed that no piece changes is unchanged after many pieces
same_after_each : (s : StreamState)
    → ((piece : List ℕ) (answer : Fed) (now : StreamState) → Feeds s piece answer now → now ≡ s)
    → (pieces : List (List ℕ)) (answers : List Fed) (new : StreamState) → FeedsEach s pieces answers new → new ≡ s
same_after_each s stays [] [] new h = h
same_after_each s stays [] (a ∷ answers) new h = absurd h
same_after_each s stays (x ∷ pieces) [] new h = absurd h
same_after_each s stays (x ∷ pieces) (a ∷ answers) new h = same_after_each s stays pieces answers new
    (subst (λ (n : StreamState). FeedsEach n pieces answers new) (stays x a h.0 h.1) h.2)

-- pieces that are fed one after the other are answered as all of them at once
pub each_is : (p : Profile) (s : List ℕ) (pieces : List (List ℕ)) (answers : List Fed) (new : StreamState)
    → IsCutShort p s → FeedsEach (more p s) pieces answers new
    → Feeds (more p s) (concat pieces) (together pieces answers) new
each_is p s [] [] new cut h = (
  h ∙ ap (λ (t : List ℕ). more p t) (sym (append-nil s)),
  subst (λ (t : List ℕ). IsCutShort p t) (sym (append-nil s)) cut,
)
each_is p s [] (a ∷ answers) new cut h = absurd h
each_is p s (x ∷ pieces) [] new cut h = absurd h
each_is p s (x ∷ pieces) (fed.More ∷ answers) new cut h =
    let rest = subst (λ (n : StreamState). FeedsEach n pieces answers new) h.1.0 h.2 in
    joins p s x (concat pieces) (together pieces answers) new (each_is p (s ++ x) pieces answers new h.1.1 rest)
each_is p s (x ∷ pieces) (fed.Done t ∷ answers) new cut h =
    let same : new ≡ done h.1.0 = same_after_each (done h.1.0) (λ y a now f. f.0) pieces answers new
    (subst (λ (n : StreamState). FeedsEach n pieces answers new) h.1.1 h.2) in
    unchanged_by_more (more p s) new x (concat pieces) (fed.Done t) (λ e. cc) (h.1.0, same, h.1.2, h.1.3)
each_is p s (x ∷ pieces) (fed.Refused f ∷ answers) new cut h =
    let same : new ≡ refused f = same_after_each (refused f) (λ y a now g. g.0) pieces answers new
    (subst (λ (n : StreamState). FeedsEach n pieces answers new) h.1.0 h.2) in
    unchanged_by_more (more p s) new x (concat pieces) (fed.Refused f) (λ e. cc) (same, h.1.1)

-- the empty text is cut short
pub nothing_cut : (p : Profile) → IsCutShort p []
nothing_cut p = (0, text_short p [] (omega arith))

-- a new feed answers pieces one after the other as it answers all of them at once, unless memory runs out
pub any_cutting : (p : Profile) (pieces : List (List ℕ)) (answers : List Fed) (new : StreamState) (once : Fed)
    (now : StreamState) → IsProfile p → FeedsEach (more p []) pieces answers new
    → Feeds (more p []) (concat pieces) once now → SameOrFails (together pieces answers) new once now
any_cutting p pieces answers new once now ok h g = one_answer p [] (concat pieces) (together pieces answers) once new
    now ok (each_is p [] pieces answers new (nothing_cut p) h) g
