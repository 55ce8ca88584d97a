-- The lines of a text, one after the other.
use Rattle.std.proofs.Common.{◌≡◌, ℕ, suc, ◌+◌, ◌≤◌, List, [], ◌∷◌, ◌++◌, length, Option, Some, None, refl, ap, arith, Bor}
use Rattle.acl_perm.specs.Lines.{IsLineCut, IsTextPlace, lines_of}

-- the lines of what is left of a text
abbrev pub lines_left : Option (Bor (List ℕ)) → List (List ℕ)
lines_left None = []
lines_left (Some t) = lines_of t.now

-- one more than the number of bytes of a text that are left
abbrev pub text_left : Option (Bor (List ℕ)) → ℕ
text_left None = 0
text_left (Some t) = suc (length t.now)

-- a line's number is at most one more than the bytes before it
abbrev pub NumberFits : ℕ → List ℕ → Option (Bor (List ℕ)) → Type 0
NumberFits n text None = Unit {0}
NumberFits n text (Some t) = n + length t.now ≤ length text + 1

-- a cut gives the first line and the lines that are left
pub lines_next : (t : List ℕ) (r : Bor (List ℕ) × Option (Bor (List ℕ))) → IsLineCut t r
    → lines_of t ≡ r.0.now ∷ lines_left r.1
lines_next t (first, None) h = h
lines_next t (first, Some rest) h = h.0

-- the number of the next line fits
pub number_next : (n : ℕ) (text : List ℕ) (t : Bor (List ℕ)) (r : Bor (List ℕ) × Option (Bor (List ℕ)))
    → IsLineCut t.now r → NumberFits n text (Some t) → NumberFits (n + 1) text r.1
number_next n text t (first, None) h fits = tt
number_next n text t (first, Some rest) h fits = omega (arith, h.1, fits)

-- if no text is left, there is no line
pub no_lines : (r : Option (Bor (List ℕ))) → ((t : Bor (List ℕ)) → r ≡ Some t → ⊥) → lines_left r ≡ []
no_lines None h = refl
no_lines (Some t) h = absurd (h t refl)

-- ---- places

-- a line of these lines, whose numbers begin with n
pub record IsLineAt (n : ℕ) (lines : List (List ℕ)) (number : ℕ) (bytes : List ℕ) : Type 0 where
  pub before : List (List ℕ)
  pub after : List (List ℕ)
  pub parts : lines ≡ before ++ bytes ∷ after
  pub is_number : number ≡ n + length before

-- the first line has the first number
pub first_line : (n : ℕ) (line : List ℕ) (lines : List (List ℕ)) → IsLineAt n (line ∷ lines) n line
first_line n line lines = record { before = []; after = lines; parts = refl; is_number = omega arith }

-- a line of the lines after the first one is a line of all of them
pub later_line : (n : ℕ) (line : List ℕ) (lines : List (List ℕ)) (number : ℕ) (bytes : List ℕ)
    → IsLineAt (n + 1) lines number bytes → IsLineAt n (line ∷ lines) number bytes
later_line n line lines number bytes h = record {
  before = line ∷ h.before;
  after = h.after;
  parts = ap (λ (l : List (List ℕ)). line ∷ l) h.parts;
  is_number = omega (arith, h.is_number);
}

-- a column of a line is a place in the text
pub place_in_line : (text : List ℕ) (number : ℕ) (bytes : List ℕ) (line column : ℕ)
    → IsLineAt 1 (lines_of text) number bytes → line ≡ number → 1 ≤ column → column ≤ length bytes + 1
    → IsTextPlace text line column
place_in_line text number bytes line column h same low high = record {
  before = h.before;
  bytes = bytes;
  after = h.after;
  lines = h.parts;
  number = omega (arith, h.is_number, same);
  from_one = low;
  to_end = high;
}
