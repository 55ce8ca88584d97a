-- Where a word is cut.
use Rattle.std.proofs.Common.{◌≡◌, ◌∙◌, ◌<◌, ◌+◌, ◌-◌, ℕ, zero, suc, [], ◌∷◌, Option, Some, None, ap, arith, drop, get_or, length, refl, sym, take, eq-eqb, ne_eqb, length-drop, get_or-drop}
use Rattle.std.specs.Prelude.{◌≢◌, ◌≤◌, MatchOption}
use Rattle.std.specs.Borrow.{Bor}
use Rattle.std.specs.Option.{option_map}
use Rattle.std.specs.Str.Pattern.{RFindsChar}
use Rattle.std.proofs.lemmas.Str.{len_utf8_ascii}
use Rattle.std.proofs.lemmas.Str.Pattern.{NoCharPasses-char}
use Rattle.clap.specs.Words.{Text}
use Rattle.aclck.specs.NameWords.{last_cut}
use Rattle.aclck.specs.internal.Adding.{cut_of}

-- a text is not cut at a byte that it does not have
no_cut : (c : ℕ) (bs : Text) → ((i : ℕ) → i < length bs → get_or bs i 0 ≢ c) → last_cut c bs ≡ None
no_cut c [] none = refl
no_cut c (b ∷ bs) none =
    rw (no_cut c bs (λ i lt. none (suc i) (omega arith)), ne_eqb b c (none 0 (omega arith))) refl

-- a text is cut at the last of equal bytes
cut_there : (c : ℕ) (bs : Text) (k : ℕ) → k < length bs → get_or bs k 0 ≡ c
    → ((i : ℕ) → k < i → i < length bs → get_or bs i 0 ≢ c)
    → last_cut c bs ≡ Some (record { before = take k bs; behind = drop (suc k) bs })
cut_there c [] k lt is later = absurd (omega arith)
cut_there c (b ∷ bs) zero lt is later =
    rw (no_cut c bs (λ i lt. later (suc i) (omega arith) (omega arith)), eq-eqb b c is) refl
cut_there c (b ∷ bs) (suc k) lt is later =
    rw (cut_there c bs k (omega arith) is (λ i a l. later (suc i) (omega arith) (omega arith))) refl

-- what `rsplit_once` ensures at an ASCII character
pub rsplit_is : (c : ℕ) (bs : Text) (r : Option (Bor Text × Bor Text))
    → MatchOption r (RFindsChar c bs None) (λ x. (i : ℕ) × (j : ℕ) × RFindsChar c bs (Some (i, j))
    × (x.0.now ≡ take i bs)
    × (x.1.now ≡ drop j bs) × (i ≤ j) × (length x.0.now ≡ i) × (length x.1.now + j ≡ length bs))
    → c < 128 → option_map cut_of r ≡ last_cut c bs
rsplit_is c bs None h low = sym (no_cut c bs (λ i inside. NoCharPasses-char c bs i h low inside))
rsplit_is c bs (Some x) h low =
    let i = h.0 in
    let j = h.1 in
    let next : j ≡ suc i = omega (arith, h.2.1.ends, len_utf8_ascii c low) in
    let later : (k : ℕ) → i < k → k < length bs → get_or bs k 0 ≡ c → ⊥ = λ k a l e.
    let back : j + (k - j) ≡ k = omega arith in
    NoCharPasses-char c (drop j bs) (k - j) h.2.0 low (omega (arith, length-drop j bs))
    (get_or-drop j bs (k - j) 0 ∙ ap (λ n. get_or bs n 0) back ∙ e) in
    let found = cut_there c bs i (omega (arith, h.7)) (h.2.1.byte low) later in
    let second = h.4 ∙ ap (λ n. drop n bs) next in
    (λ t. Some (record { before = h.3 t; behind = second t })) ∙ sym found
