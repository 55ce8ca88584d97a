-- The exact clauses of `clap` apply to the command of every table in which at most one argument takes words.
use Rattle.std.proofs.Common.{◌≡◌, ◌∙◌, ◌+◌, ℕ, Bool, true, false, cond, not, List, [], ◌∷◌, ap, map, sym, refl, subst}
use Rattle.std.specs.Prelude.{◌&&◌, count_by, is_some}
use Rattle.std.specs.List.{list_all, list_any}
use Rattle.std.proofs.lemmas.List.Sums.{sum_by-cons}
use Rattle.clap.specs.Words.{Rule, Text, is_simple_and_free}
use Rattle.clap.specs.Simple.{filled, filled_from, index_after, with_index}
use Rattle.clap.specs.Walk.{is_early_multiple}
use Rattle.acl_perm.proofs.Bools.{not_true}
use Rattle.aclck.specs.Line.{Term, any_words, app_from, default, flag, optional, required, rule_from}
use Rattle.aclck.specs.internal.Held.{is_rest, is_sound}

-- all rules are simple, also at their places, and they are free at their places
abbrev ArePlain : List Rule → List Rule → Type 0
ArePlain rules standing = (list_all (λ a. a.is_simple) rules ≡ true)
    × (list_all (λ a. a.is_simple) standing ≡ true)
    × (list_all (λ a. a.is_free) standing ≡ true)

-- the rules of every table are simple, and free at their places
all_plain : (terms : List Term) (i : ℕ) → ArePlain (map rule_from terms) (filled_from i (map rule_from terms))
all_plain [] i = (refl, refl, refl)
all_plain (required name ∷ ts) i = all_plain ts _
all_plain (optional name ∷ ts) i = all_plain ts _
all_plain (default name value ∷ ts) i = all_plain ts _
all_plain (flag name ∷ ts) i = all_plain ts _
all_plain (any_words ∷ ts) i = all_plain ts _

-- if no argument takes words, no rule takes more than one word before other rules
none_early : (terms : List Term) (i n : ℕ) → list_any is_rest terms ≡ false
    → list_any (is_early_multiple n) (filled_from i (map rule_from terms)) ≡ false
none_early [] i n none = refl
none_early (required name ∷ ts) i n none = none_early ts _ n none
none_early (optional name ∷ ts) i n none = none_early ts _ n none
none_early (default name value ∷ ts) i n none = none_early ts _ n none
none_early (flag name ∷ ts) i n none = none_early ts _ n none
none_early (any_words ∷ ts) i n none = absurd cc

-- how many rules have a place of their own among the words
abbrev placed : List Rule → ℕ
placed rules = count_by (λ a. is_some a.index) rules

-- if no argument takes words, no rule has a place among the words
none_placed : (terms : List Term) (i : ℕ) → list_any is_rest terms ≡ false
    → placed (filled_from i (map rule_from terms)) ≡ 0
none_placed [] i none = refl
none_placed (required name ∷ ts) i none = none_placed ts _ none
none_placed (optional name ∷ ts) i none = none_placed ts _ none
none_placed (default name value ∷ ts) i none = none_placed ts _ none
none_placed (flag name ∷ ts) i none = none_placed ts _ none
none_placed (any_words ∷ ts) i none = absurd cc

-- if at most one argument takes words, no rule with a place is after its rule
one_early : (terms : List Term) (n : ℕ) → is_sound terms ≡ true
    → n ≡ placed (filled_from 1 (map rule_from terms))
    → list_any (is_early_multiple n) (filled_from 1 (map rule_from terms)) ≡ false
one_early [] n sound e = refl
one_early (required name ∷ ts) n sound e = one_early ts n sound e
one_early (optional name ∷ ts) n sound e = one_early ts n sound e
one_early (default name value ∷ ts) n sound e = one_early ts n sound e
one_early (flag name ∷ ts) n sound e = one_early ts n sound e
one_early (any_words ∷ ts) n sound e =
    let none = not_true (list_any is_rest ts) sound in
    let left = filled_from (index_after 1 (filled (rule_from any_words))) (map rule_from ts) in
    let one : n ≡ 1 = e
    ∙ sum_by-cons (λ a. cond (is_some a.index) 1 0) (with_index 1 (filled (rule_from any_words))) left
    ∙ ap (λ (k : ℕ). 1 + k) (none_placed ts _ none) in
    subst (λ (k : ℕ). list_any (is_early_multiple k) (filled_from 1 (map rule_from (any_words ∷ ts))) ≡ false)
    (sym one) (none_early ts (index_after 1 (filled (rule_from any_words))) 1 none)

-- four facts about a table are what `clap` requires of a command, in the form in which it joins them
clap_form : {a b c d : Bool} → a ≡ true → b ≡ true → c ≡ false → d ≡ true
    → (((a && true) && ((b && not c) && true)) && (d && true)) ≡ true
clap_form ea eb ec ed = rw (ea, eb, ec, ed) refl

-- the exact clauses of `clap` apply to the command of each such table
pub is_free_from : (name : Text) (terms : List Term) → is_sound terms ≡ true
    → is_simple_and_free (app_from name terms) ≡ true
unfolding app_from
is_free_from name terms sound =
    let (simple, placed_simple, placed_free) = all_plain terms 1 in
    let early = one_early terms (placed (filled_from 1 (map rule_from terms))) sound refl in
    clap_form simple placed_simple early placed_free
