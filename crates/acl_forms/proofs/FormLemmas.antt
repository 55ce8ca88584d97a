-- The first ACE that a form cannot hold, step by step.
use Rattle.std.proofs.Common.{◌≡◌, ◌+◌, ◌<◌, ◌≤◌, ◌++◌, ℕ, List, [], ◌∷◌, length, take, ◌-◌, Option, None, Some, Ok, Err, ap, cond, refl, subst, sym, append-nil, append_assoc, arith, ◌∙◌}
use Rattle.std.proofs.Math.Seq.{take-append-add}
use Rattle.std.proofs.lemmas.Grind.{flat_map-append}
use Rattle.std.proofs.lemmas.List.{length-append}
use Rattle.std.proofs.lemmas.List.Concat.{flat_map-cons}
use Rattle.std.proofs.lemmas.Bool.{le-ltb, lt-ltb}
use Rattle.acl_nfs4.specs.Ace.{Ace}
use Rattle.std.specs.List.{enumerate_from, find, flat_map}
use Rattle.std.specs.Option.{is_some, option_and_then, option_map, option_or}
use Rattle.std.specs.Prelude.{if◌then◌else◌, nat_lt}
use Rattle.std.specs.Io.KnownBytes.{Appends}
use Rattle.acl_perm.specs.Ascii.{comma, line_feed}
use Rattle.acl_perm.specs.Devices.{one_more}
use Rattle.acl_perm.specs.Pieces.{WritesFrom}
use Rattle.acl_perm.specs.declared.whole.WriteFault.{WriteFault}
use Rattle.acl_forms.specs.FormWrites.{WritesIfHeld}
use Rattle.acl_forms.specs.FirstFault.{first_fault}
use Rattle.acl_forms.specs.ToolsWritten.{longest_tools_text, tools_ace_fault, tools_entry_text, tools_fault, tools_fault_at, tools_line, tools_text}
use Rattle.acl_forms.specs.NfsWritten.{nfs_entry_text, nfs_text}
use Rattle.acl_forms.specs.declared.fault.FormFault.{FormFault}
use Rattle.acl_forms.specs.declared.fault.FormReason.{FormReason}
use Rattle.acl_forms.specs.declared.fault.FormReason.TheVariants.{Empty, TooLong}
use Rattle.acl_forms.specs.declared.form_write.FormWriteFault.TheVariants.{Form, Write}
use Rattle.acl_forms.specs.declared.object.ObjectKind.{ObjectKind}
use Rattle.acl_forms.specs.declared.style.EntrySeparator.{EntrySeparator}
use Rattle.acl_forms.specs.declared.style.EntrySeparator.TheVariants.{Commas, LineFeeds}
use Rattle.acl_forms.specs.declared.style.LetterStyle.{LetterStyle}
use Rattle.acl_forms.specs.declared.writing.AceTextForm.{AceTextForm}
use Rattle.acl_forms.specs.declared.writing.AceTextForm.TheVariants.{Nfs, Tools}
use Rattle.acl_forms.specs.internal.FaultSearch.{fault_from, fault_or, tools_fault_from}
use Rattle.acl_forms.specs.internal.TextWriting.{entries_left, entry_of, separator_of}

-- if there is no fault, the first ACE has none, and those after it have none
pub no_fault : (place : ℕ) (o : Option FormReason) (others : Option FormFault) → fault_or place o others ≡ None
    → (o ≡ None) × (others ≡ None)
no_fault place None others e = (refl, e)
no_fault place (Some reason) others e = absurd cc

-- the first element has a reason, or the fault is one of the others
fault_of_next : {X : Type 0} (reason : X → Option FormReason) (place : ℕ) (x : X) (r : Option FormReason)
    (rest : List (ℕ × X)) (others : Option FormFault) → reason x ≡ r
    → others ≡ option_and_then (λ p. option_map (λ r. record { place = p.0; reason = r }) (reason p.1))
    (find (λ p. is_some (reason p.1)) rest)
    → fault_or place r others
    ≡ option_and_then (λ p. option_map (λ r. record { place = p.0; reason = r }) (reason p.1))
    (cond (is_some r) (Some (place, x)) (find (λ p. is_some (reason p.1)) rest))
fault_of_next reason place x (Some r) rest others e is = sym (ap (λ o. option_map (λ r. record { place = place; reason = r }) o) e)
fault_of_next reason place x None rest others e is = is

-- the first fault of a list that begins at some place is that of its elements with their numbers from there on
numbered_fault : {X : Type 0} (reason : X → Option FormReason) (place : ℕ) (list : List X)
    → fault_from reason place list
    ≡ option_and_then (λ p. option_map (λ r. record { place = p.0; reason = r }) (reason p.1))
    (find (λ p. is_some (reason p.1)) (enumerate_from place list))
numbered_fault reason place [] = refl
numbered_fault reason place (x ∷ list) = fault_of_next reason place x (reason x) (enumerate_from (place + 1) list)
    (fault_from reason (place + 1) list) refl (numbered_fault reason (place + 1) list)

-- the first fault of a list that begins at the place 0 is that of the list
pub fault_from_start : {X : Type 0} (reason : X → Option FormReason) (list : List X)
    → fault_from reason 0 list ≡ first_fault reason list
fault_from_start reason list = numbered_fault reason 0 list

-- the fault of the next ACE is the fault of the ACEs that are left
pub ace_refused : (object : ObjectKind) (place done : ℕ) (list rest : List Ace) (a : Ace) (reason : FormReason)
    → list ≡ a ∷ rest → tools_ace_fault object a ≡ Some reason
    → tools_fault_from object place done list ≡ Some (record { place = place; reason = reason })
unfolding tools_fault_from
ace_refused object place done list rest a reason e wrong = rw (e, wrong) refl

-- if the text is too long with the next ACE, that is the fault
pub text_long : (object : ObjectKind) (place done : ℕ) (list rest : List Ace) (a : Ace) → list ≡ a ∷ rest
    → tools_ace_fault object a ≡ None → longest_tools_text < done + length (tools_line a)
    → tools_fault_from object place done list ≡ Some (record { place = place; reason = TooLong })
unfolding tools_fault_from
text_long object place done list rest a e none long =
    rw (e, none, lt-ltb longest_tools_text (done + length (tools_line a)) long) refl

-- otherwise the fault is that of the ACEs after the next one
pub fault_passed : (object : ObjectKind) (place done : ℕ) (list rest : List Ace) (a : Ace) → list ≡ a ∷ rest
    → tools_ace_fault object a ≡ None → done + length (tools_line a) ≤ longest_tools_text
    → tools_fault_from object place done list
    ≡ tools_fault_from object (place + 1) (done + length (tools_line a)) rest
unfolding tools_fault_from
fault_passed object place done list rest a e none short =
    rw (e, none, le-ltb longest_tools_text (done + length (tools_line a)) short) refl

-- no ACE has no fault
pub none_left : (object : ObjectKind) (place done : ℕ) (list : List Ace) → list ≡ []
    → tools_fault_from object place done list ≡ None
unfolding tools_fault_from
none_left object place done list e = rw e refl

-- the empty list has the fault Empty
pub empty_fault : (object : ObjectKind) (list : List Ace) → list ≡ []
    → Some (record { place = 0; reason = Empty }) ≡ tools_fault object list
empty_fault object list e = rw e refl

-- the first of two reasons is the first fault
fault_or-two : (place : ℕ) (x y : Option FormReason) (others : Option FormFault)
    → fault_or place x (fault_or place y others) ≡ fault_or place (option_or x y) others
fault_or-two place None y others = refl
fault_or-two place (Some reason) y others = refl

-- the fault of ACEs after a text of other ACEs is that of their numbers and themselves in the whole list
tools_numbered : (object : ObjectKind) (before list : List Ace) (place done : ℕ) → place ≡ length before
    → done ≡ length (tools_text before) → tools_fault_from object place done list
    ≡ fault_from (tools_fault_at object (before ++ list)) place (enumerate_from place list)
unfolding tools_fault_from
tools_numbered object before [] place done here text = refl
tools_numbered object before (a ∷ list) place done here text =
    let whole : (before ++ a ∷ []) ++ list ≡ before ++ a ∷ list = append_assoc before (a ∷ []) list in
    let upto : take (place + 1) (before ++ a ∷ list) ≡ before ++ a ∷ [] =
    ap (λ n. take (n + 1) (before ++ a ∷ list)) here ∙ take-append-add before (a ∷ list) 1 in
    let size : length (tools_text (before ++ a ∷ [])) ≡ length (tools_text before) + length (tools_line a) =
    ap length (flat_map-append tools_line before (a ∷ []) ∙ ap (λ (l : List ℕ). tools_text before ++ l)
    (append-nil (tools_line a))) ∙ length-append (tools_text before) (tools_line a) in
    let sum : done + length (tools_line a) ≡ length (tools_text (take (place + 1) (before ++ a ∷ list))) =
    ap (λ n. n + length (tools_line a)) text ∙ sym size ∙ sym (ap (λ l. length (tools_text l)) upto) in
    let next = tools_numbered object (before ++ a ∷ []) list (place + 1) (done + length (tools_line a))
    (omega (arith, here, length-append before (a ∷ []))) (ap (λ n. n + length (tools_line a)) text ∙ sym size) in
    fault_or-two place (tools_ace_fault object a)
    (if nat_lt longest_tools_text (done + length (tools_line a)) then Some TooLong else None)
    (tools_fault_from object (place + 1) (done + length (tools_line a)) list)
    ∙ ap (λ n. fault_or place (option_or (tools_ace_fault object a)
    (if nat_lt longest_tools_text n then Some TooLong else None))
    (tools_fault_from object (place + 1) (done + length (tools_line a)) list)) sum
    ∙ ap (λ (o : Option FormFault). fault_or place (tools_fault_at object (before ++ a ∷ list) (place, a)) o)
    (next ∙ ap (λ (l : List Ace). fault_from (tools_fault_at object l) (place + 1) (enumerate_from (place + 1) list))
    whole)

-- the fault of any other list is that of its first ACE that is not held
pub some_fault : (object : ObjectKind) (list : List Ace) → (list ≡ [] → ⊥)
    → tools_fault_from object 0 0 list ≡ tools_fault object list
some_fault object [] some = absurd (some refl)
some_fault object (a ∷ list) some = tools_numbered object [] (a ∷ list) 0 0 refl refl
    ∙ fault_from_start (tools_fault_at object (a ∷ list)) (enumerate_from 0 (a ∷ list))

-- ---- what a call writes

-- a list that is not held is refused, and nothing is written
pub refused_written : {K : Type 0} (holds : K → Option (List ℕ)) (failures : K → ℕ) (sink : K) (o : Option FormFault)
    (text : List ℕ) (fault : FormFault) → Some fault ≡ o
    → WritesIfHeld holds failures sink sink o text (Err (Form fault))
refused_written holds failures sink o text fault e =
    subst (λ (x : Option FormFault). WritesIfHeld holds failures sink sink x text (Err (Form fault))) e
    (record { refused = refl; kept = refl })

-- a text that is out is written
pub done_written : {K : Type 0} (holds : K → Option (List ℕ)) (failures : K → ℕ) (sink after : K)
    (o : Option FormFault) (put text : List ℕ) (n : ℕ) → None ≡ o → put ≡ text
    → WritesFrom (holds sink) (holds after) 0 put (Ok n) → failures after ≡ failures sink
    → WritesIfHeld holds failures sink after o text (Ok tt)
done_written holds failures sink after o put text n e same out none =
    let all = subst (λ (t : List ℕ). WritesFrom (holds sink) (holds after) 0 t (Ok n)) same out in
    subst (λ (x : Option FormFault). WritesIfHeld holds failures sink after x text (Ok tt)) e
    (record { ok = all.1; none_failed = none; err = tt; short = tt; failed = tt })

-- a write that failed wrote a beginning of the text
pub part_written : {K : Type 0} (holds : K → Option (List ℕ)) (failures : K → ℕ) (sink after : K)
    (o : Option FormFault) (put text : List ℕ) (fault : WriteFault) → None ≡ o → put ≡ text
    → WritesFrom (holds sink) (holds after) 0 put (Err fault)
    → failures after ≡ one_more (failures sink)
    → WritesIfHeld holds failures sink after o text (Err (Write fault))
part_written holds failures sink after o put text fault e same out one =
    let whole : fault.written - 0 ≡ fault.written = omega arith in
    let part = subst (λ (t : List ℕ). WritesFrom (holds sink) (holds after) 0 t (Err fault)) same out in
    subst (λ (x : Option FormFault). WritesIfHeld holds failures sink after x text (Err (Write fault))) e
    (record {
      ok = tt;
      none_failed = tt;
      err = subst (λ (n : ℕ). Appends (holds sink) (holds after) (take n text)) whole part.2;
      short = omega (arith, part.1);
      failed = one;
    })

-- ---- the entries of a text

-- the lines of ACEs are the entries of a form with a line feed after each
lines_left : (form : AceTextForm) (entry : Ace → List ℕ) → separator_of form ≡ LineFeeds → entry_of form ≡ entry
    → (list : List Ace) → entries_left form [] list ≡ flat_map (λ a. entry a ++ line_feed ∷ []) list
lines_left form entry e same [] = refl
lines_left form entry e same (a ∷ list) =
    rw (e, same, lines_left form entry e same list) (sym (flat_map-cons (λ a. entry a ++ line_feed ∷ []) a list))

-- the entries that are left after one, with a comma before each
commas_left : (form : AceTextForm) (entry : Ace → List ℕ) → separator_of form ≡ Commas → entry_of form ≡ entry
    → (list : List Ace) → entries_left form (comma ∷ []) list ≡ flat_map (λ a. comma ∷ entry a) list
commas_left form entry e same [] = refl
commas_left form entry e same (a ∷ list) =
    rw (e, same, commas_left form entry e same list, append-nil (entry a))
    (sym (flat_map-cons (λ a. comma ∷ entry a) a list))

-- the entries of a text of FreeBSD are that text
pub nfs_entries : (separator : EntrySeparator) (letters : LetterStyle) (list : List Ace)
    → entries_left (Nfs (record { separator = separator; letters = letters })) [] list
    ≡ nfs_text (record { separator = separator; letters = letters }) list
nfs_entries LineFeeds letters list =
    lines_left (Nfs (record { separator = LineFeeds; letters = letters })) (nfs_entry_text letters) refl refl list
nfs_entries Commas letters [] = refl
nfs_entries Commas letters (a ∷ list) =
    let form = Nfs (record { separator = Commas; letters = letters }) in
    rw (commas_left form (nfs_entry_text letters) refl refl list, append-nil (nfs_entry_text letters a)) refl

-- the entries of a text of nfs4-acl-tools are that text
pub tools_entries : (list : List Ace) → entries_left Tools [] list ≡ tools_text list
tools_entries list = lines_left Tools tools_entry_text refl refl list
