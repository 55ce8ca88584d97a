-- What is read from a text is true of the text, and what is true of a text is read from the text.
use Rattle.acl_nfs4.proofs.Common.{[], Ace, ace_lines, ace_lines_from, AceTextFault, ap, append-nil, append_assoc, arith, Err, FailsAs, false, IfErr, IfOk, inl, inr, is_skipped, IsAccepted, IsAceText, IsAceTextFault, IsTextRefusal, length, length-append, List, MatchResult, Ok, Profile, read_ace, read_lines, refl, Result, SpellEach, SpellsAce, subst, sym, TextLine, true, weight, ℕ, ◌++◌, ◌+◌, ◌>>=◌, ◌∙◌, ◌∷◌, ◌≡◌, ◌⊎◌}
use Rattle.acl_nfs4.specs.declared.text.fault.AceTextFault.TheVariants as faults
use Rattle.acl_nfs4.proofs.text.AceJudged.{LineSays, TakesAce, answer_of, line_read, line_says}
use Rattle.acl_nfs4.proofs.xdr.Faults.{weight-push}
use Rattle.acl_nfs4.proofs.xdr.Lists.{front_accepted}
use Rattle.acl_nfs4.proofs.list.Push.{each_last, each_push}

-- ---- one line and the lines after it

-- a line that is skipped changes nothing
pub read_skipped : (p : Profile) (list : List Ace) (number : ℕ) (line : List ℕ) (more : List (List ℕ))
    → is_skipped line ≡ true
    → read_lines p list (ace_lines_from number (line ∷ more)) ≡ read_lines p list (ace_lines_from (number + 1) more)
read_skipped p list number line more h = rw h refl

-- any other line is read before the lines after it
pub read_kept : (p : Profile) (list : List Ace) (number : ℕ) (line : List ℕ) (more : List (List ℕ))
    (r : Result Ace AceTextFault) → is_skipped line ≡ false → read_ace p (length list) (weight list) number line ≡ r
    → read_lines p list (ace_lines_from number (line ∷ more))
    ≡ (r >>= λ a. read_lines p (list ++ a ∷ []) (ace_lines_from (number + 1) more))
unfolding read_lines
read_kept p list number line more r h e = rw (h, e) refl

-- a fault that is read fails the reading
pub fails_is : (f : AceTextFault) (r : Result (List Ace) AceTextFault) → r ≡ Err f → FailsAs f r
fails_is faults.Memory r h = tt
fails_is f r h = h

-- ---- what is answered is true

-- what each answer says about a text
abbrev pub TextSays : Profile → List ℕ → Result (List Ace) AceTextFault → Type 0
TextSays p text (Ok list) = IsAceText p list text
TextSays p text (Err fault) = IsAceTextFault p text fault

-- an accepted list that can take the ACE of a line is accepted with it
accepted_push : (p : Profile) (list : List Ace) (line : TextLine) (a : Ace) → IsAccepted p list
    → TakesAce p list line a → IsAccepted p (list ++ a ∷ [])
accepted_push p list line a h takes = record {
  count = omega (arith, length-append list (a ∷ []), takes.room);
  weight = omega (arith, weight-push list a, takes.light);
  each = each_push p list a h.each takes.ace;
}

-- lines with one more line spell a list with one more ACE
spelled_push : (lines : List TextLine) (list : List Ace) (line : TextLine) (a : Ace) → SpellEach lines list
    → SpellsAce line.bytes a → SpellEach (lines ++ line ∷ []) (list ++ a ∷ [])
spelled_push [] [] line a each last = (last, tt)
spelled_push [] (b ∷ list) line a each last = absurd each
spelled_push (l ∷ lines) [] line a each last = absurd each
spelled_push (l ∷ lines) (b ∷ list) line a each last = (each.0, spelled_push lines list line a each.1 last)

-- what is answered for the lines that are left is true of the text, if the lines before them spell a list
lines_say : (p : Profile) (text : List ℕ) (before lines : List TextLine) (list : List Ace)
    → ace_lines text ≡ before ++ lines → SpellEach before list → IsAccepted p list
    → TextSays p text (read_lines p list lines)
unfolding read_lines
lines_say p text before [] list order spelled ok =
    let all : ace_lines text ≡ before = order ∙ append-nil before in
    record { spelled = subst (λ (lines : List TextLine). SpellEach lines list) (sym all) spelled; accepted = ok }
lines_say p text before (line ∷ lines) list order spelled ok =
    elim (answer_of p list line)
    as (λ r. LineSays p list line r → TextSays p text (r >>= (λ a. read_lines p (list ++ a ∷ []) lines))) [
      | Ok a ↦ λ says.
          let same = order ∙ sym (append_assoc before (line ∷ []) lines) in
          lines_say p text (before ++ line ∷ []) lines (list ++ a ∷ []) same
          (spelled_push before list line a spelled says.spelled) (accepted_push p list line a ok says)
      | Err fault ↦ λ says. record {
        before = before;
        line = line;
        after = lines;
        order = order;
        list = list;
        spelled = spelled;
        accepted = ok;
        wrong = says;
      }
    ] (line_says p list line)

-- the answer of reading a text is true of the text
text_says : (p : Profile) (text : List ℕ) → TextSays p text (read_lines p [] (ace_lines text))
text_says p text = lines_say p text [] (ace_lines text) [] refl tt
    (record { count = omega arith; weight = omega arith; each = tt })

-- ---- the other way round

-- a list that is the front of an accepted one can take the next ACE
takes_next : (p : Profile) (list more : List Ace) (line : TextLine) (a : Ace) → IsAccepted p (list ++ a ∷ more)
    → SpellsAce line.bytes a → TakesAce p list line a
takes_next p list more line a h s =
    let front : IsAccepted p (list ++ a ∷ []) = front_accepted p (list ++ a ∷ []) more
    (subst (IsAccepted p) (sym (append_assoc list (a ∷ []) more)) h) in record {
      spelled = s;
      ace = each_last p list a front.each;
      room = omega (arith, front.count, length-append list (a ∷ []));
      light = omega (arith, front.weight, weight-push list a);
    }

-- what lines spell is read, and then the lines after them
all_read : (p : Profile) (list more : List Ace) (lines rest : List TextLine) → SpellEach lines more
    → IsAccepted p (list ++ more) → read_lines p list (lines ++ rest) ≡ read_lines p (list ++ more) rest
unfolding read_lines
all_read p list [] [] rest s ok = ap (λ (l : List Ace). read_lines p l rest) (sym (append-nil list))
all_read p list (a ∷ more) [] rest s ok = absurd s
all_read p list [] (line ∷ lines) rest s ok = absurd s
all_read p list (a ∷ more) (line ∷ lines) rest s ok =
    let same = append_assoc list (a ∷ []) more in
    rw (line_read p list line (Ok a) (takes_next p list more line a ok s.0))
    (all_read p (list ++ a ∷ []) more lines rest s.1 (subst (IsAccepted p) (sym same) ok)
    ∙ ap (λ (l : List Ace). read_lines p l rest) same)

-- an answer that is true of a text is the answer of reading it
text_read : (p : Profile) (text : List ℕ) (r : Result (List Ace) AceTextFault) → TextSays p text r
    → read_lines p [] (ace_lines text) ≡ r
unfolding read_lines
text_read p text (Ok list) h = ap (read_lines p []) (sym (append-nil (ace_lines text)))
    ∙ all_read p [] list (ace_lines text) [] h.spelled h.accepted
text_read p text (Err fault) h = ap (read_lines p []) h.order
    ∙ all_read p [] h.list h.before (h.line ∷ h.after) h.spelled h.accepted
    ∙ rw (line_read p h.list h.line (Err fault) h.wrong) refl

-- ---- what a call answers

-- what a call that reads a text returns is what reading the text gives, or memory ran out
abbrev pub Answered : Profile → List ℕ → Result (List Ace) AceTextFault → Type 0
Answered p text result = MatchResult result (λ list. read_lines p [] (ace_lines text) ≡ Ok list)
    (λ fault. FailsAs fault (read_lines p [] (ace_lines text)))

-- if a list is read, the text spells it
pub text_founds : (p : Profile) (text : List ℕ) (result : Result (List Ace) AceTextFault) → Answered p text result
    → IfOk result (λ list. IsAceText p list text)
text_founds p text (Ok list) h = subst (TextSays p text) h (text_says p text)
text_founds p text (Err fault) h = tt

-- a text that is refused has the fault, or memory ran out
pub refusals : (p : Profile) (text : List ℕ) (result : Result (List Ace) AceTextFault) → Answered p text result
    → IfErr result (IsTextRefusal p text)
refusals p text (Ok list) h = tt
refusals p text (Err faults.Memory) h = inl refl
refusals p text (Err fault) h = inr (subst (TextSays p text) h (text_says p text))

-- the list that the text spells is returned, unless memory runs out
pub only_list : (p : Profile) (text : List ℕ) (result : Result (List Ace) AceTextFault) → Answered p text result
    → (list : List Ace) → IsAceText p list text
    → MatchResult result (λ read. read ≡ list) (λ fault. fault ≡ faults.Memory)
only_list p text (Ok read) h list is = let e = text_read p text (Ok list) is in cc
only_list p text (Err faults.Memory) h list is = refl
only_list p text (Err fault) h list is = let e = text_read p text (Ok list) is in cc

-- a text with a fault is refused with that fault, unless memory runs out
pub only_fault : (p : Profile) (text : List ℕ) (result : Result (List Ace) AceTextFault) → Answered p text result
    → (wrong : AceTextFault) → IsAceTextFault p text wrong
    → MatchResult result (λ _. ⊥) (λ fault. (fault ≡ wrong) ⊎ (fault ≡ faults.Memory))
only_fault p text (Ok read) h wrong is = let e = text_read p text (Err wrong) is in cc
only_fault p text (Err faults.Memory) h wrong is = inr refl
only_fault p text (Err fault) h wrong is = inl (let e = text_read p text (Err wrong) is in cc)

-- a text spells at most one list
pub one_list : (p : Profile) (text : List ℕ) (one two : List Ace) → IsAceText p one text → IsAceText p two text
    → one ≡ two
one_list p text one two h k = let e = text_read p text (Ok one) h in let f = text_read p text (Ok two) k in cc

-- a text has at most one fault
pub one_text_fault : (p : Profile) (text : List ℕ) (one two : AceTextFault) → IsAceTextFault p text one
    → IsAceTextFault p text two → one ≡ two
one_text_fault p text one two h k = let e = text_read p text (Err one) h in let f = text_read p text (Err two) k in cc

-- a text that spells a list has no fault
pub no_text_fault : (p : Profile) (text : List ℕ) (list : List Ace) (fault : AceTextFault) → IsAceText p list text
    → IsAceTextFault p text fault → ⊥
no_text_fault p text list fault h k =
    let e = text_read p text (Ok list) h in
    let f = text_read p text (Err fault) k in
    cc
