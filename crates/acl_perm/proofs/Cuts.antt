-- Cutting at a byte, and trimming.
use Rattle.std.proofs.Common.{◌≡◌, ℕ, suc, ◌+◌, ◌-◌, ◌<◌, ◌≤◌, Bool, true, false, cond, List, [], ◌∷◌, ◌++◌, length, get_or, take, drop, Option, Some, None, refl, subst, sym, ap, ◌∙◌, arith, inl, inr, eqb}
use Rattle.std.specs.Prelude.{position, not, ◌&&◌, ◌==◌}
use Rattle.std.specs.List.{slice_split, onto_first, position_or_len, list_all}
use Rattle.std.proofs.lemmas.Bool.{cases_lt, lt-ltb, le-ltb}
use Rattle.std.proofs.lemmas.List.{length-take-le, length-drop, take_all, take_more, take_rest}
use Rattle.std.proofs.lemmas.List.Sums.{prefix_len-le-length}
use Rattle.std.proofs.lemmas.List.Splits.{slice_split_first}
use Rattle.acl_perm.proofs.Bools.{and_true_right, and_false_right}
use Rattle.acl_perm.specs.Lines.{Span, spans, cut_at, IsCutRest, is_blank, blanks_before, end_trimmed, trimmed}

-- the place of an element that passes the test, or that there is none
pub record Found (p : ℕ → Bool) (xs : List ℕ) (i : ℕ) : Type 0 where
  pub in_range : i < length xs
  pub first : position_or_len p xs ≡ i

-- the result of `position`: the place of the first byte with a property, or that no byte has it
abbrev pub Says : (ℕ → Bool) → List ℕ → Option ℕ → Type 0
Says p xs None = position_or_len p xs ≡ length xs
Says p xs (Some i) = Found p xs i

-- `position` gives the place of the first byte with a property, or says that no byte has it
pub place : (p : ℕ → Bool) (xs : List ℕ) → Says p xs (position p xs)
place p xs =
    let le = prefix_len-le-length (λ x. not (p x)) xs in
    elim (cases_lt (position_or_len p xs) (length xs)) [
      | inl lt ↦ rw (lt-ltb _ _ lt) (record { in_range = lt; first = refl })
      | inr ge ↦ rw (le-ltb _ _ ge) (let same : position_or_len p xs ≡ length xs = omega arith in same)
    ]

-- what a result of `position` says, by its value
pub says_value : (p : ℕ → Bool) (xs : List ℕ) (r value : Option ℕ) → r ≡ position p xs → r ≡ value → Says p xs value
says_value p xs r value found is = subst (Says p xs) (sym found ∙ is) (place p xs)

-- a list without a separator is one part
pub split_none : (p : ℕ → Bool) (xs : List ℕ) → position_or_len p xs ≡ length xs → slice_split p xs ≡ xs ∷ []
split_none p [] h = refl
split_none p (x ∷ xs) h =
    elim (p x) as (λ b. cond (not b) (1 + position_or_len p xs) 0 ≡ suc (length xs)
    → cond b ([] ∷ slice_split p xs) (onto_first x (slice_split p xs)) ≡ (x ∷ xs) ∷ []) [
      | true ↦ λ e. absurd (omega (arith, e))
      | false ↦ λ e. ap (onto_first x) (split_none p xs (omega (arith, e)))
    ] h

-- a piece without a separator is cut into itself
pub cut_none : (separator : ℕ) (s : Span) → Says (λ b. eqb b separator) s.bytes None → cut_at separator s ≡ s ∷ []
unfolding cut_at
cut_none separator s h = ap (spans s.column) (split_none (λ b. eqb b separator) s.bytes h)

-- a piece with a separator is cut into the part before the first one and the rest
pub cut_some : (separator : ℕ) (s : Span) (i : ℕ) (rest : List ℕ) → Says (λ b. eqb b separator) s.bytes (Some i)
    → rest ≡ drop (i + 1) s.bytes
    → IsCutRest separator s (record { column = s.column; bytes = take i s.bytes })
    (record { column = s.column + i + 1; bytes = rest })
unfolding cut_at
cut_some separator s i rest h r =
    let lt = h.in_range in
    let len : length (take i s.bytes) ≡ i = length-take-le i s.bytes (omega arith) in
    let left : length (drop (i + 1) s.bytes) ≡ length s.bytes - (i + 1) = length-drop (i + 1) s.bytes in
    let split : slice_split (λ b. eqb b separator) s.bytes
    ≡ take i s.bytes ∷ slice_split (λ b. eqb b separator) (drop (i + 1) s.bytes) =
    slice_split_first (λ b. eqb b separator) s.bytes 0 (omega (arith, h.first))
    ∙ ap (λ (n : ℕ). take n s.bytes ∷ slice_split (λ b. eqb b separator) (drop (n + 1) s.bytes)) h.first in
    let made : IsCutRest separator s (record { column = s.column; bytes = take i s.bytes })
    (record { column = s.column + i + 1; bytes = drop (i + 1) s.bytes }) = record {
      parts = ap (spans s.column) split
          ∙ ap (λ (n : ℕ). record { column = s.column; bytes = take i s.bytes } ∷ spans (s.column + n + 1)
          (slice_split (λ b. eqb b separator) (drop (i + 1) s.bytes))) len;
      shorter = omega arith;
      first_fits = omega arith;
      rest_fits = omega arith;
    } in
    rw r made

-- if all bytes are blanks, there are as many blanks as bytes
pub blanks_none : (bs : List ℕ) → Says (λ b. not (is_blank b)) bs None → length bs ≡ blanks_before bs
blanks_none bs h = sym h

-- ---- trimming

-- bytes with one more byte at the end are all blanks if and only if the bytes are and the last one is
all_blank_push : (bs : List ℕ) (b : ℕ) → list_all is_blank (bs ++ b ∷ []) ≡ (list_all is_blank bs && is_blank b)
all_blank_push [] b = elim (is_blank b) as (λ t. (t && true) ≡ t) [ true ↦ refl | false ↦ refl ]
all_blank_push (x ∷ bs) b =
    elim (is_blank x)
    as (λ t. (t && list_all is_blank (bs ++ b ∷ [])) ≡ ((t && list_all is_blank bs) && is_blank b)) [
      | true ↦ all_blank_push bs b
      | false ↦ refl
    ]

-- a blank at the end changes nothing
pub end_trimmed-push_blank : (bs : List ℕ) (b : ℕ) → is_blank b ≡ true → end_trimmed (bs ++ b ∷ []) ≡ end_trimmed bs
end_trimmed-push_blank [] b h = rw h refl
end_trimmed-push_blank (x ∷ bs) b h =
    let all : list_all is_blank (x ∷ bs ++ b ∷ []) ≡ list_all is_blank (x ∷ bs) = all_blank_push (x ∷ bs) b
    ∙ ap (λ t. list_all is_blank (x ∷ bs) && t) h ∙ and_true_right _ in
    rw (all, end_trimmed-push_blank bs b h) refl

-- bytes that do not end with a blank stay as they are
pub end_trimmed-push_other : (bs : List ℕ) (b : ℕ) → is_blank b ≡ false → end_trimmed (bs ++ b ∷ []) ≡ bs ++ b ∷ []
end_trimmed-push_other [] b h = rw h refl
end_trimmed-push_other (x ∷ bs) b h =
    let all : list_all is_blank (x ∷ bs ++ b ∷ []) ≡ false = all_blank_push (x ∷ bs) b
    ∙ ap (λ t. list_all is_blank (x ∷ bs) && t) h ∙ and_false_right _ in
    rw (all, end_trimmed-push_other bs b h) refl

-- bytes are all of them but the last one, followed by the last one
last_apart : (bs : List ℕ) → 1 ≤ length bs → bs ≡ take (length bs - 1) bs ++ get_or bs (length bs - 1) 0 ∷ []
last_apart bs h =
    let n : length bs - 1 + 1 ≡ length bs = omega arith in
    sym (take_all (length bs) bs (omega arith)) ∙ ap (λ (k : ℕ). take k bs) (sym n)
    ∙ take_more bs (length bs - 1) 0 (omega arith)

-- a blank at the end can be dropped
pub trim_step : (bs : List ℕ) → 1 ≤ length bs → is_blank (get_or bs (length bs - 1) 0) ≡ true
    → end_trimmed (take (length bs - 1) bs) ≡ end_trimmed bs
trim_step bs h blank = sym (ap end_trimmed (last_apart bs h) ∙ end_trimmed-push_blank (take (length bs - 1) bs) _ blank)

-- bytes whose last byte is not a blank are trimmed
pub trim_stop : (bs : List ℕ) → 1 ≤ length bs → is_blank (get_or bs (length bs - 1) 0) ≡ false → end_trimmed bs ≡ bs
trim_stop bs h other = ap end_trimmed (last_apart bs h) ∙ end_trimmed-push_other (take (length bs - 1) bs) _ other
    ∙ sym (last_apart bs h)

-- the bytes after the blanks at the start, trimmed at their end, are the trimmed whole
pub trim_start : (bs : List ℕ) (n : ℕ) → n ≡ blanks_before bs
    → end_trimmed (take (length bs - n) (drop n bs)) ≡ trimmed bs
unfolding trimmed
trim_start bs n h = ap end_trimmed (take_rest bs n) ∙ ap (λ (k : ℕ). end_trimmed (drop k bs)) h

-- ---- lines

-- the test that a byte is no line feed
abbrev pub not_feed : ℕ → Bool
not_feed b = not (b == 10)

-- a text without a line feed is one line
pub line_none : (bs : List ℕ) → Says (λ b. eqb b 10) bs None → slice_split (λ b. eqb b 10) bs ≡ bs ∷ []
line_none bs h = split_none (λ b. eqb b 10) bs h

-- a text with a line feed is the line before it and the lines after it, which are shorter
pub line_some : (bs : List ℕ) (i : ℕ) → Says (λ b. eqb b 10) bs (Some i)
    → (slice_split (λ b. eqb b 10) bs ≡ take i bs ∷ slice_split (λ b. eqb b 10)
    (take (length bs - (i + 1)) (drop (i + 1) bs)))
    × (length (take (length bs - (i + 1)) (drop (i + 1) bs)) < length bs)
line_some bs i h =
    let lt = h.in_range in
    let rest : take (length bs - (i + 1)) (drop (i + 1) bs) ≡ drop (i + 1) bs = take_rest bs (i + 1) in
    let split : slice_split (λ b. eqb b 10) bs ≡ take i bs ∷ slice_split (λ b. eqb b 10) (drop (i + 1) bs) =
    slice_split_first (λ b. eqb b 10) bs 0 (omega (arith, h.first))
    ∙ ap (λ (n : ℕ). take n bs ∷ slice_split (λ b. eqb b 10) (drop (n + 1) bs)) h.first in (
      split ∙ ap (λ (r : List ℕ). take i bs ∷ slice_split (λ b. eqb b 10) r) (sym rest),
      omega (arith, ap length rest, length-drop (i + 1) bs),
    )
