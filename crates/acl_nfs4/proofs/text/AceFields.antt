-- The fields of a line: cut at its spaces.
use Rattle.acl_nfs4.proofs.Common.{[], add-one, All, All-from_get_or, All-weaker, and_true, ap, arith, Bool, count_by, cut_space, drop, eqb, eqb-true, false, get_or-take, HasLineFields, HasNoSpace, last_fields, length, length-append, length-slice_split, length-take, line_fields, LineFields, List, list_all, list_all-from_AllPass, lt-ltb, ltb, None, not, Option, option_and_then, option_map, position, position_or_len, refl, slice_split, slice_split_at, Some, space, subst, sym, take, take-append-drop, true, ℕ, ◌++◌, ◌+◌, ◌<◌, ◌∙◌, ◌∷◌, ◌≡◌, ◌≤◌}
use Rattle.std.proofs.Math.Seq.{drop-append-add, drop-cons, take-append_seam}
use Rattle.std.proofs.lemmas.List.Quantifiers.{position-Some}
use Rattle.acl_perm.proofs.Cuts.{Says, place, split_none}

-- a space
abbrev pub is_space : ℕ → Bool
is_space b = eqb b 0x20

-- ---- one cut

-- bytes cut at their first space
pub record IsSpaceCut (bytes first rest : List ℕ) : Type 0 where
  pub order : bytes ≡ first ++ space ∷ rest
  pub free : HasNoSpace first
  pub count : count_by is_space bytes ≡ 1 + count_by is_space rest

-- what a cut says of the bytes
abbrev pub CutSays : List ℕ → Option (List ℕ × List ℕ) → Type 0
CutSays bytes None = count_by is_space bytes ≡ 0
CutSays bytes (Some parts) = IsSpaceCut bytes parts.0 parts.1

-- bytes are cut at their first space into what is before it and what is after it
cut_at : (bytes : List ℕ) (i : ℕ) → position is_space bytes ≡ Some i
    → IsSpaceCut bytes (take i bytes) (drop (i + 1) bytes)
cut_at bytes i e =
    let here = position-Some is_space bytes i 0 e in
    let free : All (λ b. is_space b ≡ false) (take i bytes) =
    All-from_get_or (λ b. is_space b ≡ false) (take i bytes) 0 (λ k lt.
    let before : k < i = omega (arith, lt, length-take i bytes) in
    rw (get_or-take i bytes k 0 before) (here.2 k before)) in
    let order : bytes ≡ take i bytes ++ space ∷ drop (i + 1) bytes =
    sym (take-append-drop i bytes) ∙ ap (λ (t : List ℕ). take i bytes ++ t)
    (rw (add-one, ← eqb-true _ _ here.1) (drop-cons bytes i 0 here.0)) in
    let parts : slice_split is_space bytes ≡ take i bytes ∷ slice_split is_space (drop (i + 1) bytes) =
    ap (slice_split is_space) order ∙ slice_split_at is_space (take i bytes) space (drop (i + 1) bytes) free refl in
    record {
      order = order;
      free = list_all-from_AllPass (λ b. not (is_space b)) _
          (All-weaker (λ b. is_space b ≡ false) (λ b. not (is_space b) ≡ true) (λ b h. rw h refl) _ free);
      count = let more = ap length parts in
          omega (arith, length-slice_split is_space bytes, length-slice_split is_space (drop (i + 1) bytes));
    }

-- what a cut finds is true of the bytes
pub cut_says : (bytes : List ℕ) → CutSays bytes (cut_space bytes)
cut_says bytes =
    elim (position is_space bytes) as (λ o. position is_space bytes ≡ o
    → CutSays bytes (option_map (λ i. (take i bytes, drop (i + 1) bytes)) o)) [
      | None ↦ λ e. let none : Says is_space bytes None = subst (Says is_space bytes) e (place is_space bytes) in
          omega (arith, length-slice_split is_space bytes, ap length (split_none is_space bytes none))
      | Some i ↦ λ e. cut_at bytes i e
    ] refl

-- if a front has no space, the first space of the bytes is the one after it
first_space : (first rest : List ℕ) → HasNoSpace first → position_or_len is_space (first ++ space ∷ rest) ≡ length first
first_space [] rest h = refl
first_space (b ∷ first) rest h =
    let both = and_true (not (is_space b)) (list_all (λ x. not (is_space x)) first) h in
    rw both.0 (omega (arith, first_space first rest both.1))

-- bytes with a space are cut at the first space
pub cut_spelled : (first rest : List ℕ) → HasNoSpace first → cut_space (first ++ space ∷ rest) ≡ Some (first, rest)
cut_spelled first rest h =
    let inside : ltb (length first) (length (first ++ space ∷ rest)) ≡ true =
    lt-ltb _ _ (omega (arith, length-append first (space ∷ rest))) in
    rw (first_space first rest h, inside, take-append_seam first (space ∷ rest), drop-append-add first (space ∷ rest) 1)
    refl

-- ---- four fields

-- what the fields that are found say about a line
abbrev pub FieldsSay : List ℕ → Option LineFields → Type 0
FieldsSay line None = count_by is_space line < 3
FieldsSay line (Some fields) = HasLineFields line fields × (3 ≤ count_by is_space line)

-- what is found is true of the line, if it is true without a space and for the parts of each cut
cut_step : (bytes line : List ℕ) (next : List ℕ × List ℕ → Option LineFields) (o : Option (List ℕ × List ℕ))
    → CutSays bytes o → (count_by is_space bytes ≡ 0 → FieldsSay line None)
    → ((parts : List ℕ × List ℕ) → IsSpaceCut bytes parts.0 parts.1 → FieldsSay line (next parts))
    → FieldsSay line (option_and_then next o)
cut_step bytes line next None says missing found = missing says
cut_step bytes line next (Some parts) says missing found = found parts says

-- what the third cut of a line finds is true of the line
last_cut : (line kind one flags two : List ℕ) → IsSpaceCut line kind one → IsSpaceCut one flags two
    → (o : Option (List ℕ × List ℕ)) → CutSays two o → FieldsSay line (last_fields kind flags o)
last_cut line kind one flags two a b None h = omega (arith, a.count, b.count, h)
last_cut line kind one flags two a b (Some parts) h = (
  record { order = rw (a.order, b.order, h.order) refl; kind = a.free; flags = b.free; mask = h.free },
  omega (arith, a.count, b.count, h.count),
)

-- the fields that are found are the fields of the line
pub fields_say : (line : List ℕ) → FieldsSay line (line_fields line)
unfolding line_fields
fields_say line =
    cut_step line line _ (cut_space line) (cut_says line) (λ none. omega (arith, none)) (λ kind a.
    cut_step kind.1 line _ (cut_space kind.1) (cut_says kind.1) (λ none. omega (arith, a.count, none)) (λ flags b.
    last_cut line kind.0 kind.1 flags.0 flags.1 a b (cut_space flags.1) (cut_says flags.1)))

-- a line with four fields has the fields that are found
pub fields_read : (line : List ℕ) (fields : LineFields) → HasLineFields line fields → line_fields line ≡ Some fields
unfolding line_fields
fields_read line fields h =
    rw h.order
    (rw (cut_spelled fields.kind (fields.flags ++ space ∷ (fields.mask ++ space ∷ fields.who)) h.kind)
    (rw (cut_spelled fields.flags (fields.mask ++ space ∷ fields.who) h.flags)
    (rw (cut_spelled fields.mask fields.who h.mask) refl)))

-- bytes that are cut are one byte longer than the two parts
pub cut_len : (bytes first rest : List ℕ) → Some (first, rest) ≡ cut_space bytes
    → length bytes ≡ length first + length rest + 1
cut_len bytes first rest e =
    omega (arith, ap length (subst (CutSays bytes) (sym e) (cut_says bytes)).order, length-append first (space ∷ rest))
