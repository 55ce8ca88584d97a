-- The list that is pulled from a source: the word of its count, and the ACEs so far.
use Rattle.acl_nfs4.proofs.Common.{[], Ace, ace_at, aces_of, ap, append-nil, arith, behind_scanned, body_in, Consumes, Consumes-trans, count_of, Decodes, DrawsCount, drop, drop-append-le, drop_all, drop_at, Err, Fault, Gives, HasAce, inl, inr, IsAtEnd, IsBytes, IsDrawn, IsFault, IsFilled, IsFirstFault, IsHalted, IsLacking, IsOwned, IsProfile, IsPulled, IsScanned, length, length-append, List, most_weight, number, Ok, Option, Place, Placed, Profile, Progress, Read, Reason, refl, Result, subst, sym, take, take-append-le, take_all, Truncated, Xdr, ℕ, ◌++◌, ◌+◌, ◌-◌, ◌<◌, ◌∙◌, ◌∷◌, ◌≡◌, ◌≢◌, ◌≤◌, ◌⊎◌}
use Rattle.acl_perm.specs.Devices.{one_more}
use Rattle.acl_nfs4.specs.declared.xdr.pulling.Pulled.{Pulled}
use Rattle.acl_nfs4.specs.Fault.Stage.{count as at_count}
use Rattle.acl_nfs4.proofs.xdr.Fields.{bytes_append, count_is, IsBytes-drop, IsBytes-take, place}
use Rattle.acl_nfs4.proofs.xdr.OneFault.{all_taken, never_truncated}
use Rattle.acl_nfs4.proofs.feed.Scanning.{none_scanned, scanned_on, scans_one_more}
use Rattle.acl_nfs4.proofs.feed.Streaming.{text_ends, text_fails, text_refused, text_short}
use Rattle.acl_nfs4.proofs.xdr.FromSource.{placed_value, placed_reason}

-- ---- the word of the count

-- if the source ends or fails in the word of the count, the answer is true of the bytes that were taken
pub count_lacks : (p : Profile) {bytes : List ℕ} {left : Option (List ℕ)} {before after : ℕ} {f : Fault}
    → IsLacking 0 4 bytes left before after f → Decodes p bytes (IsAtEnd left) (Err f)
count_lacks p {bytes = bytes} {f = f} l =
    let cut : IsFault p bytes f.offset Truncated =
    subst (λ (o : ℕ). IsFault p bytes o Truncated) (sym l.here) (text_short p bytes l.short) in
    elim l.why [
      | inl ended ↦ inl (ended.0, cut, ended.1)
      | inr failed ↦ inr (inl (failed.0, cut))
    ]

-- the answer for a whole word of the count is true of the bytes that were taken
pub count_answers : {bytes room new : List ℕ} (left : Option (List ℕ)) {before after x : ℕ} (judged : Result ℕ Reason)
    (result : Result ℕ Fault) → IsFilled 0 4 room new bytes before after → number bytes ≡ x → Placed 0 judged result
    → Gives (λ z. z) judged (count_of x) → DrawsCount bytes left before after result
count_answers {bytes = bytes} left {x = x} judged (Ok n) h e placed gives =
    let is = count_is x n (placed_value (λ z. z) 0 judged (count_of x) n placed gives) in (
      λ p. record {
        small = is.1;
        counted = ap number (take_all 4 bytes (omega (arith, h.long))) ∙ e ∙ is.0;
        parts = drop_all 4 bytes (omega (arith, h.long));
        long = omega (arith, h.long);
        bytes = h.bytes;
        scanned = none_scanned p [];
      },
      h.kept,
    )
count_answers {bytes = bytes} left {x = x} judged (Err f) h e placed gives = λ p.
    let j = placed_reason (λ z. z) 0 judged (count_of x) f placed gives in
    let why : count_of (number bytes) ≡ Err j.0 = ap count_of e ∙ j.1 in
    let first : IsFirstFault p bytes 0 4 j.0 = text_refused p bytes j.0 (omega (arith, h.long))
    (ap (λ (t : List ℕ). count_of (number t)) (take_all 4 bytes (omega (arith, h.long))) ∙ why) in
    rw j.2 (inr (inr (inr (
      subst (λ (k : ℕ). IsFirstFault p bytes 0 k j.0) (sym h.long) first,
      λ t. never_truncated p at_count bytes (why ∙ ap (λ (r : Reason). Err r) t),
    ))))

-- ---- the ACEs so far

-- the weight so far is within the limit
pub pulled_light : {p : Profile} {n seen total : ℕ} {body text : List ℕ} → IsPulled p n seen total body text
    → total ≤ most_weight
pulled_light t = omega (arith, t.scanned.total, t.scanned.spells.weight)

-- for a body that was pulled, of which so many ACEs were judged
module _ {p : Profile} {n seen total : ℕ} {body text : List ℕ} (t : IsPulled p n seen total body text) where
  -- what was judged of a body stays so if a piece follows it
  grown : (piece : List ℕ) → IsScanned p (body ++ piece) (record { seen = seen; used = length body; weight = total })
  grown piece = scanned_on p body (body ++ piece) _ (take-append-le (length body) body piece (omega arith))
      (omega (arith, length-append body piece)) t.scanned

  -- the body of the text with a piece is the body with that piece
  body_on : (piece : List ℕ) → drop 4 (text ++ piece) ≡ body ++ piece
  body_on piece = drop-append-le 4 text piece (omega (arith, t.long)) ∙ ap (λ (x : List ℕ). x ++ piece) t.parts

  -- the count of a text stays the same if a piece follows it
  count_on : (piece : List ℕ) → number (take 4 (text ++ piece)) ≡ n
  count_on piece = ap number (take-append-le 4 text piece (omega (arith, t.long))) ∙ t.counted

  -- a fault of the next ACE is one of the text
  pulled_fails : (piece : List ℕ) (offset : ℕ) (f : Fault) → IsBytes piece → seen < n → offset ≡ 4 + length body
      → ace_at p total (place offset piece) ≡ Err f → IsFault p (text ++ piece) f.offset f.reason
  pulled_fails piece offset f fits lt at e =
      let so_far : Progress = record { seen = seen; used = length body; weight = total } in
      let count : number (take 4 (text ++ piece)) ≡ n = count_on piece in
      let next : behind_scanned (drop 4 (text ++ piece)) so_far ≡ place offset piece =
      ap (λ (b : List ℕ). place (4 + length body) (drop (length body) b)) (body_on piece)
      ∙ ap (λ (x : List ℕ). place (4 + length body) x) (drop_at body piece (length body) refl)
      ∙ ap (λ (k : ℕ). place k piece) (sym at) in
      text_fails p (text ++ piece) so_far (omega (arith, t.long, length-append text piece))
      (omega (arith, count, t.small)) (subst (λ (b : List ℕ). IsScanned p b so_far) (sym (body_on piece)) (grown piece))
      (bytes_append text piece t.bytes fits) f (omega (arith, count, lt)) (ap (ace_at p total) next ∙ e)

-- what a source gave before an ACE and then gave of it, it gave altogether
pub drawn_after : {p : Profile} {weight offset held before after : ℕ} {rest : Place → Result (Ace × Place) Fault}
    {old left : Option (List ℕ)} {room given : List ℕ} (start : Option (List ℕ)) (text : List ℕ)
    → Consumes start old text → IsDrawn p weight rest offset held old left before after room given
    → Consumes start left (text ++ given)
drawn_after {old = old} {left = left} {given = given} start text taken d =
    Consumes-trans start old left text given taken d.taken

-- what a source gave before an ACE in which it stopped and then gave of it, it gave altogether
pub halted_after : {p : Profile} {weight offset before after : ℕ} {old left : Option (List ℕ)} {f : Fault}
    (start : Option (List ℕ)) (text : List ℕ) → Consumes start old text
    → (h : IsHalted p weight offset old left before after f) → Consumes start left (text ++ h.given)
halted_after {old = old} {left = left} start text taken h = Consumes-trans start old left text h.given taken h.taken

-- if a decoder stops in an ACE with Read, one more pull failed
pub halted_read : {p : Profile} {weight offset before after : ℕ} {old left : Option (List ℕ)} {f : Fault}
    → IsHalted p weight offset old left before after f → f.reason ≡ Read → after ≡ one_more before
halted_read h is = elim h.stops [
  | inl short ↦ elim short.1 [
    | inl ended ↦ let wrong = sym is ∙ ended.0 in absurd cc
    | inr failed ↦ failed.1
  ]
  | inr rejected ↦ absurd (rejected.0.not_read is)
]

-- if a decoder stops in an ACE with another reason, no pull failed
pub halted_unread : {p : Profile} {weight offset before after : ℕ} {old left : Option (List ℕ)} {f : Fault}
    → IsHalted p weight offset old left before after f → (f.reason ≡ Read) ⊎ (after ≡ before)
halted_unread h = elim h.stops [
  | inl short ↦ elim short.1 [ inl ended ↦ inr ended.2 | inr failed ↦ inl failed.0 ]
  | inr rejected ↦ inr rejected.1
]

-- a text that is refused has at least one byte
some_given : (p : Profile) (weight offset : ℕ) (text : List ℕ) (f : Fault)
    → ace_at p weight (place offset text) ≡ Err f → f.reason ≢ Truncated → 0 < length text
unfolding ace_at
some_given p weight offset [] f e not_cut = absurd (not_cut cc)
some_given p weight offset (b ∷ text) f e not_cut = omega arith

-- a decoder that stops in an ACE returns what is true of the bytes that were taken
pub pulled_stops : {p : Profile} {n seen total offset : ℕ} {old left : Option (List ℕ)} {before after : ℕ} {f : Fault}
    {body : List ℕ} (text : List ℕ) → IsProfile p → IsPulled p n seen total body text → seen < n
    → offset ≡ 4 + length body → (h : IsHalted p total offset old left before after f)
    → Decodes p (text ++ h.given) (IsAtEnd left) (Err f)
pulled_stops {p} {total = total} {offset = offset} {f = f} text ok t lt at h =
    elim h.stops [
      | inl s ↦
          let cut : IsFault p (text ++ h.given) f.offset Truncated =
          pulled_fails t h.given offset (record { offset = f.offset; reason = Truncated }) h.bytes lt at s.0 in
          elim s.1 [
            | inl ended ↦ inl (ended.0, cut, ended.1)
            | inr failed ↦ inr (inl (failed.0, cut))
          ]
      | inr s ↦
          let r = s.0 in
          let fault = pulled_fails t h.given offset f h.bytes lt at r.fails in
          let cuts : (k : ℕ) → k < length h.given → (o : ℕ) × IsFault p (text ++ take k h.given) o Truncated = λ k less.
          let c = r.cut k less in (
            c.0,
            pulled_fails t (take k h.given) offset (record { offset = c.0; reason = Truncated })
                (IsBytes-take k h.given h.bytes) lt at c.1,
          ) in
          let all = all_taken p text h.given f.offset fault.0 f.reason ok fault.1 r.not_cut
          (some_given p total offset h.given f r.fails r.not_cut) cuts in
          inr (inr (inr (
            subst (λ (k : ℕ). IsFirstFault p (text ++ h.given) f.offset k f.reason) all fault.1,
            r.not_cut,
          )))
    ]

-- after one more ACE the decoder has taken that ACE too
pub pulled_on : {p : Profile} {n seen total offset : ℕ} {room : List ℕ} {old left : Option (List ℕ)}
    {before after : ℕ} {x : Pulled} {body : List ℕ} (text : List ℕ) → IsProfile p → IsPulled p n seen total body text
    → seen < n → offset ≡ 4 + length body → (h : HasAce p total offset old left before after room x)
    → IsPulled p n (seen + 1) (total + x.weight) (body ++ h.given) (text ++ h.given)
pulled_on {p} {n} {seen} {total} {offset} {x = x} {body = body} text ok t lt at h =
    let next : place (4 + length body) (drop (length body) (body ++ h.given)) ≡ place offset (h.given ++ []) =
    ap (λ (y : List ℕ). place (4 + length body) y) (drop_at body h.given (length body) refl ∙ sym (append-nil h.given))
    ∙ ap (λ (k : ℕ). place k (h.given ++ [])) (sym at) in
    let fits = bytes_append body h.given (subst (λ (b : List ℕ). IsBytes b) t.parts (IsBytes-drop 4 text t.bytes))
    h.drawn.bytes in
    let s = scans_one_more p (body ++ h.given) (record { seen = seen; used = length body; weight = total }) h.ace _
    (place (offset + x.len) []) ok fits (grown t h.given) (sym next) (h.drawn.leads []) in
    let all : length (body ++ h.given) - 0 ≡ length (body ++ h.given) = omega arith in
    record {
      small = t.small;
      counted = count_on t h.given;
      parts = body_on t h.given;
      long = omega (arith, t.long, length-append body h.given, length-append text h.given);
      bytes = bytes_append text h.given t.bytes h.drawn.bytes;
      scanned = rw (all, h.weighs) at s.scanned;
    }

-- if all ACEs were taken, the bytes spell their list
pub pulled_all : {p : Profile} {n seen total : ℕ} {body text : List ℕ}
    → IsPulled p n seen total body text → seen ≡ n → Xdr p (aces_of n body) text × IsOwned n total body
pulled_all {p} {n} {seen} {total} {body} {text} t end =
    let so_far : Progress = record { seen = seen; used = length body; weight = total } in
    let w = text_ends p text so_far (omega (arith, t.long)) (omega (arith, t.counted, t.small))
    (subst (λ (b : List ℕ). IsScanned p b so_far) (sym t.parts) t.scanned) t.bytes (omega (arith, t.counted, end)) in
    let same : body_in text so_far ≡ body = ap (take (length body)) t.parts ∙ take_all _ body (omega arith) in (
      rw (end, same, take_all (4 + length body) text (omega (arith, t.long))) at w.xdr,
      rw (end, same) at w.owned,
    )
