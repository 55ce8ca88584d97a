-- What is read from a text is true of the text, and what is true of a text is read from the text.
use Rattle.std.proofs.Common.{◌≡◌, ◌∙◌, ℕ, true, false, cond, List, [], ◌∷◌, ◌++◌, length, None, Some, Result, Ok, Err, refl, sym, ap, subst, arith, inl, inr}
use Rattle.std.specs.Prelude.{◌⊎◌, ◌==◌, IfErr, IfOk, MatchResult, nat_lt, position}
use Rattle.std.proofs.lemmas.Bool.{le-ltb, lt-ltb}
use Rattle.std.proofs.lemmas.Bool.Decides.{nat_tests}
use Rattle.acl_perm.specs.Lines.{Span}
use Rattle.acl_perm.specs.internal.Steps.{◌>>=◌}
use Rattle.acl_forms.specs.ReadFaults.{read_fault_at, no_memory_left}
use Rattle.acl_forms.specs.internal.TextReading.{FailsAsRead, IsHeld, if_enough, read_items, text_read, unless_nul}
use Rattle.acl_forms.specs.Texts.{AddEach, HasNoNul, item_read, items_in, IsFaultByRules, SpellsByRules, TextRules}
use Rattle.acl_forms.specs.Texts.IsFaultByRules.{few, nul, of_item}
use Rattle.acl_forms.specs.declared.fault.ReadFault.{ReadFault}
use Rattle.acl_forms.specs.declared.fault.ReadReason.TheVariants.{Empty}

-- ---- items

-- items are read one after the other
pub read_append : {X : Type 0} (g : TextRules X) (list : List X) (xs ys : List (Result Span ReadFault))
    → read_items g list (xs ++ ys) ≡ (read_items g list xs >>= λ l. read_items g l ys)
unfolding read_items
read_append g list [] ys = refl
read_append g list (x ∷ xs) ys =
    elim (item_read g list x) as (λ r. (r >>= λ a. read_items g (list ++ a ∷ []) (xs ++ ys))
    ≡ ((r >>= λ a. read_items g (list ++ a ∷ []) xs) >>= λ l. read_items g l ys)) [
      | Ok a ↦ read_append g (list ++ a ∷ []) xs ys
      | Err e ↦ refl
    ]

-- items that add ACEs are read
added : {X : Type 0} (g : TextRules X) (list : List X) (items : List (Result Span ReadFault)) (all : List X)
    → AddEach g list items all → read_items g list items ≡ Ok all
unfolding read_items
added g list [] all e = ap (λ l. Ok l) (sym e)
added g list (item ∷ items) all each = rw each.1 (added g (list ++ each.0 ∷ []) items all each.2)

-- items that are read add ACEs
adds : {X : Type 0} (g : TextRules X) (list : List X) (items : List (Result Span ReadFault)) (all : List X)
    → read_items g list items ≡ Ok all → AddEach g list items all
unfolding read_items
adds g list [] all e = cc
adds g list (item ∷ items) all e =
    elim (item_read g list item) as (λ r. item_read g list item ≡ r
    → (r >>= λ a. read_items g (list ++ a ∷ []) items) ≡ Ok all → AddEach g list (item ∷ items) all) [
      | Ok a ↦ λ is rest. (a, is, adds g (list ++ a ∷ []) items all rest)
      | Err fault ↦ λ is rest. absurd cc
    ] refl e

-- the first item with a fault
record FirstWrong {X : Type 0} (g : TextRules X) (list : List X) (items : List (Result Span ReadFault))
    (fault : ReadFault) : Type 0 where
  pub before : List (Result Span ReadFault)
  pub item : Result Span ReadFault
  pub after : List (Result Span ReadFault)
  pub all : List X
  pub order : items ≡ before ++ item ∷ after
  pub each : AddEach g list before all
  pub wrong : item_read g all item ≡ Err fault

-- a fault that is read is that of the first item with a fault
first_wrong : {X : Type 0} (g : TextRules X) (list : List X) (items : List (Result Span ReadFault)) (fault : ReadFault)
    → read_items g list items ≡ Err fault → FirstWrong g list items fault
unfolding read_items
first_wrong g list [] fault e = absurd cc
first_wrong g list (item ∷ items) fault e =
    elim (item_read g list item) as (λ r. item_read g list item ≡ r
    → (r >>= λ a. read_items g (list ++ a ∷ []) items) ≡ Err fault → FirstWrong g list (item ∷ items) fault) [
      | Ok a ↦ λ is rest.
          let f = first_wrong g (list ++ a ∷ []) items fault rest in record {
            before = item ∷ f.before;
            item = f.item;
            after = f.after;
            all = f.all;
            order = ap (λ l. item ∷ l) f.order;
            each = (a, is, f.each);
            wrong = f.wrong;
          }
      | Err found ↦ λ is rest. record {
        before = [];
        item = item;
        after = items;
        all = list;
        order = refl;
        each = refl;
        wrong = let same : found ≡ fault = cc in is ∙ ap (λ e. Err e) same;
      }
    ] refl e

-- ---- texts

-- what each answer says about a text
abbrev pub TextSays : {X : Type 0} → TextRules X → List ℕ → Result (List X) ReadFault → Type 0
TextSays g text (Ok list) = SpellsByRules g list text
TextSays g text (Err fault) = IsFaultByRules g text fault

-- what is answered for the list of a text is true of the text
enough_says : {X : Type 0} (g : TextRules X) (text : List ℕ) (list : List X) → HasNoNul text
    → AddEach g [] (items_in g text) list
    → TextSays g text (if_enough g text list)
enough_says g text list none each =
    elim (nat_lt (length list) g.least) as (λ b. nat_lt (length list) g.least ≡ b
    → TextSays g text (cond b (Err (read_fault_at (length text) Empty)) (Ok list))) [
      | true ↦ λ less. few list none each (grind (arith, nat_tests, less))
      | false ↦ λ enough. record { no_nul = none; each = each; enough = grind (arith, nat_tests, enough) }
    ] refl

-- what is answered for the items of a text is true of the text
items_say : {X : Type 0} (g : TextRules X) (text : List ℕ) → HasNoNul text
    → TextSays g text (read_items g [] (items_in g text) >>= λ list. if_enough g text list)
items_say g text none =
    elim (read_items g [] (items_in g text)) as (λ r. read_items g [] (items_in g text) ≡ r
    → TextSays g text (r >>= λ list. if_enough g text list)) [
      | Ok list ↦ λ e. enough_says g text list none (adds g [] (items_in g text) list e)
      | Err fault ↦ λ e.
          let f = first_wrong g [] (items_in g text) fault e in
          of_item f.before f.after f.item f.all fault none f.order f.each f.wrong
    ] refl

-- the answer of reading a text is true of the text
text_says : {X : Type 0} (g : TextRules X) (text : List ℕ) → TextSays g text (text_read g text)
unfolding text_read
text_says g text =
    elim (position (λ b. b == 0) text) as (λ o. position (λ b. b == 0) text ≡ o → TextSays g text (unless_nul g text
    o)) [
      | None ↦ λ none. items_say g text none
      | Some place ↦ λ at. nul place at
    ] refl

-- the fault of a text is read
pub fault_read : {X : Type 0} (g : TextRules X) (text : List ℕ) (fault : ReadFault) → IsFaultByRules g text fault
    → text_read g text ≡ Err fault
unfolding text_read read_items
fault_read g text _ (nul place at) = rw at refl
fault_read g text _ (of_item before after item list fault none order each wrong) =
    let read : read_items g [] (items_in g text) ≡ Err fault = ap (read_items g []) order
    ∙ read_append g [] before (item ∷ after) ∙ rw (added g [] before list each, wrong) refl in
    rw (none, read) refl
fault_read g text _ (few list none each less) =
    rw (none, added g [] (items_in g text) list each, lt-ltb (length list) g.least less) refl

-- an answer that is true of a text is the answer of reading it
pub answer_read : {X : Type 0} (g : TextRules X) (text : List ℕ) (r : Result (List X) ReadFault) → TextSays g text r
    → text_read g text ≡ r
unfolding text_read
answer_read g text (Ok list) h =
    rw (h.no_nul, added g [] (items_in g text) list h.each, le-ltb (length list) g.least h.enough) refl
answer_read g text (Err fault) h = fault_read g text fault h

-- ---- what a call answers

-- what a call that reads a text returns is what reading the text gives, or memory ran out
abbrev pub Answered : {X : Type 0} → TextRules X → List ℕ → Result (List X) ReadFault → Type 0
Answered g text result = MatchResult result (λ list. IsHeld (text_read g text) (λ all. list ≡ all))
    (λ fault. FailsAsRead fault (text_read g text))

-- the list that is held was read
pub held_read : {X : Type 0} (list : List X) (read : Result (List X) ReadFault) → IsHeld read (λ all. list ≡ all)
    → read ≡ Ok list
held_read list read (all, is, same) = is ∙ ap (λ l. Ok l) (sym same)

-- if a list is read, the text spells it
pub text_found : {X : Type 0} (g : TextRules X) (text : List ℕ) (result : Result (List X) ReadFault)
    → Answered g text result
    → IfOk result (λ list. SpellsByRules g list text)
text_found g text (Ok list) h = subst (TextSays g text) (held_read list (text_read g text) h) (text_says g text)
text_found g text (Err fault) h = tt

-- a text that is refused has the fault, or memory ran out
pub text_refused : {X : Type 0} (g : TextRules X) (text : List ℕ) (result : Result (List X) ReadFault)
    → Answered g text result
    → IfErr result (λ fault. (fault ≡ no_memory_left) ⊎ IsFaultByRules g text fault)
text_refused g text (Ok list) h = tt
text_refused g text (Err fault) (inl none) = inl none
text_refused g text (Err fault) (inr read) = inr (subst (TextSays g text) read (text_says g text))

-- the list that the text spells is returned, unless memory runs out
pub only_list : {X : Type 0} (g : TextRules X) (text : List ℕ) (result : Result (List X) ReadFault)
    → Answered g text result
    → (list : List X) → SpellsByRules g list text
    → MatchResult result (λ read. read ≡ list) (λ fault. fault ≡ no_memory_left)
only_list g text (Ok read) h list is =
    let e = answer_read g text (Ok list) is in let was = held_read read (text_read g text) h in cc
only_list g text (Err fault) (inl none) list is = none
only_list g text (Err fault) (inr read) list is = let e = answer_read g text (Ok list) is in absurd cc

-- a text with a fault is refused with that fault, unless memory runs out
pub only_fault : {X : Type 0} (g : TextRules X) (text : List ℕ) (result : Result (List X) ReadFault)
    → Answered g text result
    → (wrong : ReadFault) → IsFaultByRules g text wrong
    → MatchResult result (λ _. ⊥) (λ fault. (fault ≡ no_memory_left) ⊎ (fault ≡ wrong))
only_fault g text (Ok read) h wrong is =
    let e = answer_read g text (Err wrong) is in let was = held_read read (text_read g text) h in cc
only_fault g text (Err fault) (inl none) wrong is = inl none
only_fault g text (Err fault) (inr read) wrong is = inr (let e = answer_read g text (Err wrong) is in cc)

-- ---- texts

-- a text spells at most one list
pub one_list : {X : Type 0} (g : TextRules X) (text : List ℕ) (one two : List X) → SpellsByRules g one text
    → SpellsByRules g two text
    → one ≡ two
one_list g text one two h k =
    let e = answer_read g text (Ok one) h in let f = answer_read g text (Ok two) k in cc

-- a text has at most one fault
pub one_fault : {X : Type 0} (g : TextRules X) (text : List ℕ) (one two : ReadFault) → IsFaultByRules g text one
    → IsFaultByRules g text two → one ≡ two
one_fault g text one two h k =
    let e = answer_read g text (Err one) h in let f = answer_read g text (Err two) k in cc

-- a text that spells a list has no fault
pub no_fault : {X : Type 0} (g : TextRules X) (text : List ℕ) (list : List X) (fault : ReadFault)
    → SpellsByRules g list text
    → IsFaultByRules g text fault → ⊥
no_fault g text list fault h k =
    let e = answer_read g text (Ok list) h in let f = answer_read g text (Err fault) k in cc
