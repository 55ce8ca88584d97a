-- A text that was judged up to a place.
pub mod FirstWord
use Rattle.acl_nfs4.proofs.Common.{[], Ace, ace_at, aces_of, ap, append_assoc, arith, behind_scanned, body_in, cases_lt, count_of, drop, drop-append-le, EndsPart, Err, Fault, flat_map, inl, inr, IsBytes, IsCutShort, IsFault, IsProfile, IsProgress, IsScanned, IsWhole, Judged, length, length-append, length-drop, length-take, List, most_aces, None, number, Ok, Option, piece, Profile, Progress, Reason, refl, Some, subst, sym, take, take-append-drop, take-append-le, Truncated, weight, Xdr, ℕ, ◌++◌, ◌+◌, ◌-◌, ◌<◌, ◌∙◌, ◌≡◌, ◌≤◌, start, IsFirstFault, word, spelling, counted, be_bytes_4, take_at}
use Rattle.acl_nfs4.proofs.xdr.Fields.{IsBytes-drop, IsBytes-take, count_is, front_behind}
use Rattle.acl_nfs4.proofs.xdr.Body.{is_body, aces_of-flat_map}
use Rattle.acl_nfs4.proofs.xdr.Faults.{ace_fails, borders_after, first_at}
use Rattle.acl_nfs4.proofs.feed.Scanning.{none_scanned, scanned_on}
use Rattle.acl_nfs4.proofs.xdr.OneFault.{value_or_fault}
use Rattle.acl_nfs4.specs.Fault.Stage.{count as at_count}

-- for bytes that begin with a count of at most `most_aces`, behind which so much was judged
module _ (p : Profile) (text : List ℕ) (so_far : Progress) (long : 4 ≤ length text)
    (small : number (take 4 text) ≤ most_aces) (s : IsScanned p (drop 4 text) so_far) (fits : IsBytes text) where
  -- the text is the word of its count, the pieces of the ACEs that were seen, and the rest
  parts : text ≡ (word (number (take 4 text)) ++ flat_map piece s.list) ++ drop so_far.used (drop 4 text)
  parts =
      let rest : List ℕ = drop so_far.used (drop 4 text) in
      let first : word (number (take 4 text)) ≡ take 4 text =
      be_bytes_4 (take 4 text) _ (omega (arith, length-take 4 text, long)) (IsBytes-take 4 text fits) refl in
      let body : drop 4 text ≡ flat_map piece s.list ++ rest =
      sym (take-append-drop so_far.used (drop 4 text)) ∙ ap (λ (x : List ℕ). x ++ rest) s.spells.spelled in
      sym (take-append-drop 4 text) ∙ ap (λ (x : List ℕ). x ++ drop 4 text) (sym first)
      ∙ ap (λ (x : List ℕ). word (number (take 4 text)) ++ x) body
      ∙ sym (append_assoc (word (number (take 4 text))) (flat_map piece s.list) rest)

  -- the word of the count and the pieces of the ACEs that were seen have four bytes more than was judged
  front_len : length (word (number (take 4 text)) ++ flat_map piece s.list) ≡ 4 + so_far.used
  front_len = omega (arith, ap length s.spells.spelled, length-take so_far.used (drop 4 text), s.inside)

  -- a fault of the next ACE is the fault of the text
  pub text_fails : (f : Fault) → so_far.seen < number (take 4 text)
      → ace_at p so_far.weight (behind_scanned (drop 4 text) so_far) ≡ Err f → IsFault p text f.offset f.reason
  text_fails f lt e =
      let count : ℕ = number (take 4 text) in
      let b = borders_after p count [] s.list (word count) (counted count small) s.each (omega (arith, s.long, lt))
      (omega (arith, s.spells.weight)) in
      ace_fails p text count s.list _ (behind_scanned (drop 4 text) so_far) f (record {
        parts = parts;
        here = front_len;
        fits = IsBytes-drop so_far.used (drop 4 text) (IsBytes-drop 4 text fits);
      }) b (omega (arith, s.long, lt)) (ap (λ (w : ℕ). ace_at p w (behind_scanned (drop 4 text) so_far)) s.total ∙ e)

  -- if as many ACEs were seen as the count says, the text begins with their list
  pub text_ends : so_far.seen ≡ number (take 4 text) → IsWhole p text so_far
  text_ends e =
      let body : List ℕ = body_in text so_far in
      let list : aces_of so_far.seen body ≡ s.list = ap (λ (k : ℕ). aces_of k body) (sym s.long)
      ∙ aces_of-flat_map s.list body s.spells in
      let spelled : take (4 + so_far.used) text ≡ spelling s.list = ap (take (4 + so_far.used)) parts
      ∙ take_at (word (number (take 4 text)) ++ flat_map piece s.list) _ (4 + so_far.used) front_len
      ∙ ap (λ (k : ℕ). word k ++ flat_map piece s.list) (sym (s.long ∙ e)) in
      record {
        xdr = subst (λ (l : List Ace). Xdr p l (take (4 + so_far.used) text)) (sym list) (record {
          accepted = record { count = omega (arith, s.long, e, small); weight = s.spells.weight; each = s.each };
          spelled = spelled;
        });
        owned = record {
          spells = is_body s.list so_far.seen body s.long s.spells;
          small = omega arith;
          heavy = ap weight list ∙ s.total;
        };
        inside = omega (arith, s.inside, length-drop 4 text, long);
      }

-- a text that is shorter than the word of the count is cut short
pub text_short : (p : Profile) (text : List ℕ) → length text < 4 → IsFault p text 0 Truncated
text_short p text short =
    (length text, first_at at_count [] text _ refl start refl tt (omega arith) (inl (short, refl, refl)) (omega arith))

-- a text whose count is refused has that fault at its front
pub text_refused : (p : Profile) (text : List ℕ) (r : Reason) → 4 ≤ length text
    → count_of (number (take 4 text)) ≡ Err r → IsFirstFault p text 0 4 r
text_refused p text r long e = first_at at_count [] text 4 refl start refl tt (omega arith) (inr (long, refl, e)) refl

-- ---- more of the text

-- the first bytes of a body stay the same as the text grows
same_front : (text more : List ℕ) (n : ℕ) → n ≤ length (drop 4 text)
    → take n (drop 4 (text ++ more)) ≡ take n (drop 4 text)
same_front text more n inside =
    elim (cases_lt (length text) 4) [
      | inl short ↦ let z : n ≡ 0 = omega (arith, length-drop 4 text, inside) in rw z refl
      | inr long ↦ ap (take n) (drop-append-le 4 text more long) ∙ take-append-le n (drop 4 text) more inside
    ]

-- this many ACEs stay within the count as the text grows
same_seen : (text more : List ℕ) (n : ℕ) → n ≤ number (take 4 text) → (length text < 4 → n ≡ 0)
    → n ≤ number (take 4 (text ++ more))
same_seen text more n seen begun =
    elim (cases_lt (length text) 4) [
      | inl short ↦ let z : n ≡ 0 = begun short in omega arith
      | inr long ↦ rw (take-append-le 4 text more long) seen
    ]

-- what was judged stays so as the text grows
pub progress_grows : (p : Profile) (text more : List ℕ) (so_far : Progress) → IsProgress p text so_far
    → IsProgress p (text ++ more) so_far
progress_grows p text more so_far g = record {
  scanned = scanned_on p (drop 4 text) (drop 4 (text ++ more)) so_far
      (same_front text more so_far.used g.scanned.inside)
      (omega (arith, g.scanned.inside, length-drop 4 text, length-drop 4 (text ++ more), length-append text more))
      g.scanned;
  seen = same_seen text more so_far.seen g.seen g.begun;
  begun = λ short. g.begun (omega (arith, length-append text more));
}

-- each text is judged up to the front of its body
pub no_progress : (p : Profile) (text : List ℕ) → IsProgress p text (record { seen = 0; used = 0; weight = 0 })
no_progress p text = record { scanned = none_scanned p (drop 4 text); seen = omega arith; begun = λ _. refl }

-- if a text has a fault, a list at the front of a longer text does not end inside it
ends_after : (p : Profile) (text more : List ℕ) (list : List Ace) (n o : ℕ) (r : Reason) → IsProfile p
    → Xdr p list (take n (text ++ more)) → IsFault p text o r → length text ≤ n
ends_after p text more list n o r ok x f =
    elim (cases_lt n (length text)) [
      | inl lt ↦ let same : take n (text ++ more) ≡ take n text = take-append-le n text more (omega arith) in absurd
          (value_or_fault p text list (take n text) (drop n text) o r ok (subst (λ (t : List ℕ). Xdr p list t) same x)
          (sym (take-append-drop n text)) f)
      | inr le ↦ le
    ]

-- where judging a body ends, the whole text begins with a list or has that fault
pub judged_is : (p : Profile) (text body : List ℕ) (count : ℕ) (so_far : Progress) (end : Option Fault)
    → IsBytes text → 4 ≤ length text → count_of (number (take 4 text)) ≡ Ok count → body ≡ drop 4 text
    → IsScanned p body so_far → EndsPart p count body so_far end → Judged p text so_far end
judged_is p text body count so_far end fits long accepted parts scanned ends =
    let is = count_is (number (take 4 text)) count accepted in
    judged end (subst (λ (k : ℕ). EndsPart p k (drop 4 text) so_far end) (sym is.0)
    (subst (λ (b : List ℕ). EndsPart p count b so_far end) parts ends)) where
      s : IsScanned p (drop 4 text) so_far
      s = subst (λ (b : List ℕ). IsScanned p b so_far) parts scanned

      small : number (take 4 text) ≤ most_aces
      small = let is = count_is (number (take 4 text)) count accepted in omega (arith, is.0, is.1)

      judged : (end : Option Fault) → EndsPart p (number (take 4 text)) (drop 4 text) so_far end
          → Judged p text so_far end
      judged None e = text_ends p text so_far long small s fits e
      judged (Some f) e = text_fails p text so_far long small s fits f e.0 e.1

-- a piece that ends a value
pub record Ended (p : Profile) (old piece text : List ℕ) (so_far : Progress) : Type 0 where
  pub after : length old ≤ 4 + so_far.used
  pub within : 4 + so_far.used - length old ≤ length piece
  pub xdr : Xdr p (aces_of so_far.seen (body_in text so_far)) (old ++ take (4 + so_far.used - length old) piece)

-- a text that is judged to its end, with no fault, begins with its list
pub judged_whole : (p : Profile) (text : List ℕ) (so_far : Progress) (end : Option Fault) → Judged p text so_far end
    → end ≡ None → IsWhole p text so_far
judged_whole p text so_far end judged none = subst (Judged p text so_far) none judged

-- a list that was not whole before the piece ends in the piece
pub ended : (p : Profile) (old piece text : List ℕ) (so_far : Progress) (end : Option Fault) → IsProfile p
    → text ≡ old ++ piece → Judged p text so_far end → end ≡ None → IsCutShort p old → Ended p old piece text so_far
ended p old piece text so_far end ok e judged none cut =
    let w = judged_whole p text so_far end judged none in
    let list : List Ace = aces_of so_far.seen (body_in text so_far) in
    let x : Xdr p list (take (4 + so_far.used) (old ++ piece)) =
    subst (λ (t : List ℕ). Xdr p (aces_of so_far.seen (body_in text so_far)) (take (4 + so_far.used) t)) e w.xdr in
    let le : length old ≤ 4 + so_far.used = ends_after p old piece list (4 + so_far.used) cut.0 Truncated ok x cut.1 in
    record {
      after = le;
      within = omega (arith, w.inside, ap length e, length-append old piece);
      xdr = subst (λ (t : List ℕ). Xdr p (aces_of so_far.seen (body_in text so_far)) t)
          (front_behind old piece (4 + so_far.used) le) x;
    }
