-- A stream whose first word is kept apart from the bytes after it.
use Rattle.acl_nfs4.proofs.Common.{[], ap, append-nil, append_assoc, arith, cases_lt, drop, drop_all, drop_at, inl, inr, IsBytes, IsText, length, length-append, length-drop, length-take, List, put_mid, refl, same_len_mid, subst, sym, take, take-append-add, take-append-drop, take_all, take_at, ℕ, ◌++◌, ◌+◌, ◌-◌, ◌<◌, ◌∙◌, ◌≡◌, ◌≤◌}
use Rattle.std.proofs.lemmas.Slice.{take-put_mid}
use Rattle.acl_nfs4.proofs.xdr.Fields.{IsBytes-take, bytes_append}

-- the bytes that are kept apart are those after the first word of the stream
pub behind_word : (head body : List ℕ) (filled : ℕ) → IsText head filled body → body ≡ drop 4 (take filled head ++ body)
behind_word head body filled is =
    elim (cases_lt filled 4) [
      | inl few ↦
          let none = ap length (is.begun few) in
          let short : length (take filled head ++ body) ≤ 4 =
          omega (arith, length-append (take filled head) body, length-take filled head) in
          is.begun few ∙ sym (drop_all 4 (take filled head ++ body) short)
      | inr all ↦ sym (drop_at (take filled head) body 4
          (omega (arith, length-take filled head, is.word, is.inside, all)))
    ]

-- as long as the first word is not whole, the stream is shorter than it
pub short_word : (head body text : List ℕ) (filled : ℕ) → IsText head filled body → take filled head ++ body ≡ text
    → filled < 4 → length text < 4
short_word head body text filled is e few = omega (
  arith,
  ap length e,
  length-append (take filled head) body,
  length-take filled head,
  ap length (is.begun few),
  few,
)

-- a first word that is whole is that of the stream
pub record HasWord (head text : List ℕ) : Type 0 where
  pub long : 4 ≤ length text
  pub first : take 4 text ≡ take 4 head

-- if the first word is whole, the stream begins with it
pub whole_word : (head body text : List ℕ) (filled : ℕ) → IsText head filled body → take filled head ++ body ≡ text
    → 4 ≤ filled → HasWord head text
whole_word head body text filled is e all =
    let n : length (take filled head) ≡ 4 = omega (arith, length-take filled head, is.word, is.inside, all) in
    let same : filled ≡ 4 = omega (arith, is.inside, all) in
    record {
      long = omega (arith, ap length e, length-append (take filled head) body, n);
      first = ap (take 4) (sym e) ∙ take_at (take filled head) body 4 n ∙ ap (λ (k : ℕ). take k head) same;
    }

-- a cut after the first word leaves fields that still hold a stream
pub cut_text : (head body kept : List ℕ) (filled used : ℕ) → kept ≡ take used body → IsText head filled body
    → IsText head filled kept
cut_text head body kept filled used e is = record {
  word = is.word;
  inside = is.inside;
  begun = λ few. e ∙ ap (take used) (is.begun few) ∙ take_all used [] (omega arith);
  bytes =
      let front : List ℕ = take filled head in
      let cut : take (length front + used) (front ++ body) ≡ front ++ kept = take-append-add front body used
      ∙ ap (λ (t : List ℕ). front ++ t) (sym e) in
      subst (λ (t : List ℕ). IsBytes t) cut (IsBytes-take (length front + used) (front ++ body) is.bytes);
}

-- the fields hold the stream with one more piece
pub record Extends (head body piece front rest after now : List ℕ) (filled : ℕ) : Type 0 where
  pub is : IsText after (filled + length front) now
  pub text : take (filled + length front) after ++ now ≡ (take filled head ++ body) ++ piece

-- if the front of a piece fills the word, and the rest goes after the body, the fields hold the stream and the piece
text_extended : (head body piece front rest after now : List ℕ) (filled : ℕ) → IsText head filled body
    → length front ≤ 4 - filled → take (filled + length front) after ≡ take filled head ++ front → front ++ rest ≡ piece
    → now ≡ body ++ rest → take (filled + length front) after ++ now ≡ (take filled head ++ body) ++ piece
text_extended head body piece front rest after now filled is room word joined ne =
    elim (cases_lt filled 4) [
      | inl few ↦
          let empty : body ≡ [] = is.begun few in
          rw (word, ne, empty, append-nil) (append_assoc (take filled head) front rest
          ∙ ap (λ (t : List ℕ). take filled head ++ t) joined)
      | inr full ↦
          let none : front ≡ [] = no_length front (omega (arith, room, full)) in
          let tail : rest ≡ piece = ap (λ (t : List ℕ). t ++ rest) (sym none) ∙ joined in
          rw (word, ne, none, append-nil, tail) (sym (append_assoc (take filled head) body piece))
    ] where
      no_length : (l : List ℕ) → length l ≡ 0 → l ≡ []
      no_length l e = sym (take_all 0 l (omega (arith, e)))

-- after a piece the fields hold the stream with that piece
pub extends : (head body piece front rest after now : List ℕ) (filled k n : ℕ) → IsText head filled body
    → IsBytes piece → n ≤ length piece → n ≤ 4 - filled → (n < 4 - filled → length piece ≤ n)
    → front ≡ take n piece → rest ≡ drop n piece → k ≡ length front → after ≡ put_mid filled k head front
    → now ≡ body ++ rest → Extends head body piece front rest after now filled
extends head body piece front rest after now filled k n is bytes inside small whole fe re ke ae ne =
    let len : length front ≡ n = omega (arith, ap length fe, length-take n piece, inside) in
    let room : filled + k ≤ length head = omega (arith, ke, len, small, is.word, is.inside) in
    let word : take (filled + length front) after ≡ take filled head ++ front =
    ap (λ (t : List ℕ). take (filled + length front) t) ae
    ∙ take-put_mid filled k head front (filled + length front) refl (omega (arith, room)) in
    let all : length after ≡ 4 = ap length ae ∙ same_len_mid filled k head front
    (omega (arith, length-take k (drop filled head), length-drop filled head, room, ke)) ∙ is.word in
    let joined : front ++ rest ≡ piece = ap (λ (t : List ℕ). t ++ rest) fe ∙ ap (λ (t : List ℕ). take n piece ++ t) re
    ∙ take-append-drop n piece in
    let begun : filled + length front < 4 → now ≡ [] = λ few.
    let none : rest ≡ [] = re ∙ drop_all n piece (whole (omega (arith, few, len))) in
    ne ∙ ap (λ (t : List ℕ). t ++ rest) (is.begun (omega (arith, few))) ∙ none in
    let text : take (filled + length front) after ++ now ≡ (take filled head ++ body) ++ piece =
    text_extended head body piece front rest after now filled is (omega (arith, len, small)) word joined ne in
    record {
      is = record {
        word = all;
        inside = omega (arith, len, small, is.inside);
        begun = begun;
        bytes = subst (λ (t : List ℕ). IsBytes t) (sym text)
            (bytes_append (take filled head ++ body) piece is.bytes bytes);
      };
      text = text;
    }
