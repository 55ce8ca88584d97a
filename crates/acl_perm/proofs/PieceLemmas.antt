-- A text that is written in pieces, after some of them are written.
use Rattle.std.proofs.Common.{◌≡◌, ◌∙◌, ◌+◌, ◌-◌, ◌<◌, ◌≤◌, ◌++◌, ℕ, List, [], Option, None, Some, Result, Ok, Err, length, take, arith, refl, ap, sym, subst, append_assoc, append-nil, length-append}
use Rattle.std.proofs.Math.Seq.{take-append-add}
use Rattle.std.proofs.lemmas.List.{take-append-le}
use Rattle.std.proofs.KnownBytes.{Appends-trans}
use Rattle.std.specs.Io.KnownBytes.{Appends}
use Rattle.acl_perm.specs.Counts.{count_limit}
use Rattle.acl_perm.specs.Pieces.{WritesFrom}
use Rattle.acl_perm.specs.declared.whole.WriteFault.{WriteFault}

-- if one more piece is out, the whole is what is out with that piece, followed by the rest
pub moved_on : (p piece rest whole : List ℕ) → whole ≡ p ++ (piece ++ rest) → whole ≡ (p ++ piece) ++ rest
moved_on p piece rest whole e = e ∙ sym (append_assoc p piece rest)

-- if the whole fits, the next piece fits
pub piece_fits : (p piece rest whole : List ℕ) (start done bound : ℕ) → done ≡ start + length p
    → whole ≡ p ++ (piece ++ rest) → start + length whole < bound → done + length piece < bound
piece_fits p piece rest whole start done bound at e fits =
    let n = ap length e ∙ length-append p (piece ++ rest) in
    omega (arith, n, length-append piece rest)

-- if a front of the whole is out, and then a beginning of the next piece, a beginning of the whole is out
pub cut_in : (a b c : Option (List ℕ)) (p piece rest whole : List ℕ) (start done k : ℕ) → done ≡ start + length p
    → whole ≡ p ++ (piece ++ rest)
    → done ≤ k → k < done + length piece → Appends a b p → Appends b c (take (k - done) piece)
    → Appends a c (take (k - start) whole)
cut_in a b c p piece rest whole start done k at e low high front last =
    let is : k - start ≡ length p + (k - done) = omega arith in
    let inside : k - done ≤ length piece = omega arith in
    let same : take (k - start) whole ≡ p ++ take (k - done) piece =
    ap (take (k - start)) e ∙ ap (λ j. take j (p ++ (piece ++ rest))) is
    ∙ take-append-add p (piece ++ rest) (k - done)
    ∙ ap (λ t. p ++ t) (take-append-le (k - done) piece rest inside) in
    rw same (Appends-trans a b c p (take (k - done) piece) front last)

-- bytes that end within a piece of the whole are fewer than the whole
pub under_whole : (p piece rest whole : List ℕ) (start done k : ℕ) → done ≡ start + length p
    → whole ≡ p ++ (piece ++ rest) → k < done + length piece → k < start + length whole
under_whole p piece rest whole start done k at e under =
    let n = ap length e ∙ length-append p (piece ++ rest) in
    omega (arith, n, length-append piece rest)

-- the count of the bytes that are out is still right after one more piece
pub count_grown : (p piece : List ℕ) (start done more : ℕ) → done ≡ start + length p → more ≡ done + length piece
    → more ≡ start + length (p ++ piece)
count_grown p piece start done more at e = let n = length-append p piece in omega (arith, n)

-- ---- lines one after the other

-- a front of the whole is out, and the rest follows it
pub record IsOut (start done : ℕ) (held holds : Option (List ℕ)) (whole rest : List ℕ) : Type 0 where
  pub front : List ℕ
  pub count : done ≡ start + length front
  pub known : Appends held holds front
  pub order : whole ≡ front ++ rest

-- a sink that holds the same as before has taken the empty text
appends_none : (held : Option (List ℕ)) → Appends held held []
appends_none None = tt
appends_none (Some xs) = sym (append-nil xs)

-- at the start nothing is out
pub out_none : (start : ℕ) (held : Option (List ℕ)) (whole rest : List ℕ) → whole ≡ rest
    → IsOut start start held held whole rest
out_none start held whole rest e = record { front = []; count = omega arith; known = appends_none held; order = e }

-- the number of bytes that are out with the next line is a count
pub next_fits : {start done : ℕ} {held holds : Option (List ℕ)} {whole rest : List ℕ} (line more : List ℕ)
    → IsOut start done held holds whole rest → rest ≡ line ++ more → start + length whole < count_limit
    → done + length line < count_limit
next_fits {start} {done} {whole} line more h e fits =
    piece_fits h.front line more whole start done count_limit h.count (h.order ∙ ap (λ (xs : List ℕ). h.front ++ xs) e)
    fits

-- if the next line went out, a longer front of the whole is out
pub out_more : (start done count : ℕ) (a b c : Option (List ℕ)) (whole rest line more : List ℕ)
    → IsOut start done a b whole rest → rest ≡ line ++ more → count ≡ done + length line → Appends b c line
    → IsOut start count a c whole more
out_more start done count a b c whole rest line more h e n put =
    let order = h.order ∙ ap (λ (xs : List ℕ). h.front ++ xs) e in
    record {
      front = h.front ++ line;
      count = count_grown h.front line start done count h.count n;
      known = Appends-trans a b c h.front line h.known put;
      order = moved_on h.front line more whole order;
    }

-- if a line was cut, a part of the whole is out
pub out_cut : (start done written : ℕ) (a b c : Option (List ℕ)) (whole rest line more : List ℕ)
    → IsOut start done a b whole rest → rest ≡ line ++ more → done ≤ written → written < done + length line
    → Appends b c (take (written - done) line)
    → (start ≤ written) × (written < start + length whole) × Appends a c (take (written - start) whole)
out_cut start done written a b c whole rest line more h e low high put =
    let order = h.order ∙ ap (λ (xs : List ℕ). h.front ++ xs) e in (
      omega (arith, h.count, low),
      under_whole h.front line more whole start done written h.count order high,
      cut_in a b c h.front line more whole start done written h.count order low high h.known put,
    )

-- if no line is left, the whole is out
pub out_all : (start done : ℕ) (a b : Option (List ℕ)) (whole rest : List ℕ) → IsOut start done a b whole rest
    → rest ≡ [] → (done ≡ start + length whole) × Appends a b whole
out_all start done a b whole rest h e =
    let all : whole ≡ h.front = h.order ∙ ap (λ (xs : List ℕ). h.front ++ xs) e ∙ append-nil h.front in (
      h.count ∙ ap (λ (xs : List ℕ). start + length xs) (sym all),
      subst (λ (xs : List ℕ). Appends a b xs) (sym all) h.known,
    )

-- if the first part of a text is out, the text is out after its second part
pub written_both : (a b c : Option (List ℕ)) (start done : ℕ) (one two : List ℕ) (r : Result ℕ WriteFault)
    → done ≡ start + length one → Appends a b one → WritesFrom b c done two r → WritesFrom a c start (one ++ two) r
written_both a b c start done one two (Ok n) count known said =
    (let both = length-append one two in omega (arith, both, count, said.0), Appends-trans a b c one two known said.1)
written_both a b c start done one two (Err f) count known said =
    let out : IsOut start done a b (one ++ two) two =
    record { front = one; count = count; known = known; order = refl } in
    out_cut start done f.written a b c (one ++ two) two two [] out (sym (append-nil two)) said.0 said.1 said.2
