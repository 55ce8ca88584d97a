-- How an input that is one list, or two, is read whole from pulls.
use Rattle.std.proofs.Common.{◌≡◌, ◌⊎◌, ℕ, ◌+◌, ◌<◌, ◌≤◌, List, [], ◌++◌, length, take, drop, true, Option, None, Some, Result, Ok, Err, refl, sym, ap, subst, ◌∙◌, append_assoc, arith, inl, inr}
use Rattle.std.specs.Prelude.{IsErrAnd}
use Rattle.std.specs.Io.KnownBytes.{Consumes, IsAtEnd}
use Rattle.std.proofs.KnownBytes.{Consumes-nil, Consumes-trans, Consumes-whole}
use Rattle.std.proofs.Math.Seq.{take-length}
use Rattle.std.proofs.lemmas.List.{append-nil, length-append, length-take, take-append-drop, take-append-le}
use Rattle.acl_perm.specs.Devices.{failures_after}
use Rattle.acl_perm.specs.Profile.{Profile}
use Rattle.acl_nfs4.specs.Ace.{Ace}
use Rattle.acl_nfs4.specs.Spelling.{Xdr}
use Rattle.acl_nfs4.specs.Fault.{Breaks, IsFault, IsFirstFault, IsWholeFault, refuses, size}
use Rattle.acl_nfs4.specs.Fault.IsWholeFault.{behind, of_value}
use Rattle.acl_nfs4.specs.Stream.{IsCutShort}
use Rattle.acl_nfs4.specs.declared.xdr.fault.Fault.{Fault}
use Rattle.acl_nfs4.specs.declared.xdr.fault.Reason.{Reason}
use Rattle.acl_nfs4.specs.declared.xdr.fault.Reason.TheVariants.{TrailingBytes, Truncated}
use Rattle.acl_nfs4.proofs.Exports.{IsBytes-drop, begins, fault_stays, never_truncated}
use Rattle.aclck.specs.Answer.{IsListFault, origin_of, is_read}
use Rattle.aclck.specs.commands.Compare.{IsFaultOfTwo}
use Rattle.aclck.specs.commands.Compare.IsFaultOfTwo.{of_first, of_second}
use Rattle.aclck.specs.ListInput.{AreOpen, EndsBehind, IsOpen, ListEnds, RefusalEnds, TakesPart, TakesTo, TwoEnd, piece_len}
use Rattle.aclck.specs.internal.Reading.{BytesEnd, EndsNot, HasInput, InputKind, ReadsInput, ReadsNone, ReadsValue, HasOffsetOfOneValue, Unread, is_failed_pull, later, one_list_input, run_fault, two_list_input}
use Rattle.aclck.specs.declared.answer.RunFault.{RunFault}
use Rattle.aclck.specs.declared.answer.RunFault.TheVariants as fault
use Rattle.aclck.specs.declared.input.xdr.ListFault.{ListFault}
use Rattle.aclck.specs.declared.input.xdr.ListFault.TheVariants as unread
use Rattle.aclck.proofs.ListInputLemmas.{end_kept, ends_somewhere, none_little, none_part, past_end, spelled_short}

-- ---- what was read so far

-- these bytes were read of what the source gave, and none of its calls failed
pub record HasRead (text left : List ℕ) (known now_known : Option (List ℕ)) (failed now_failed : ℕ) : Type 0 where
  pub given : List ℕ
  pub taken : Consumes known now_known given
  pub parts : given ≡ text ++ left
  pub none_failed : now_failed ≡ failed

-- before the first pull no bytes were read, and nothing is left of a pull
pub has_read_nothing : {left : List ℕ} {known : Option (List ℕ)} {failed : ℕ} → left ≡ []
    → HasRead [] left known known failed failed
has_read_nothing {known} none =
    record { given = []; taken = Consumes-nil known; parts = sym none; none_failed = refl }

-- what was taken is what was read, and what was taken after it
append_regrouped : (given text after others : List ℕ) → given ≡ text ++ after
    → given ++ others ≡ text ++ (after ++ others)
append_regrouped given text after others e = ap (λ v. v ++ others) e ∙ append_assoc text after others

-- a value that is read adds its own bytes to those that were read
pub has_read_value : {p : Profile} {text mid_left left : List ℕ} {old mid new : Option (List ℕ)}
    {failed mid_failed new_failed : ℕ} {list : List Ace} {len : ℕ} → HasRead text mid_left old mid failed mid_failed
    → (v : ReadsValue p mid_left left mid new list len) → new_failed ≡ mid_failed
    → HasRead (text ++ v.text) left old new failed new_failed
has_read_value {text} {mid_left} {left} {old} {mid} {new} h v same = record {
  given = h.given ++ v.given;
  taken = Consumes-trans old mid new h.given v.given h.taken v.taken;
  parts = append_regrouped h.given text mid_left v.given h.parts ∙ ap (λ (y : List ℕ). text ++ y) v.parts
      ∙ sym (append_assoc text v.text left);
  none_failed = same ∙ h.none_failed;
}

-- ---- what holds for a kind of input

-- an input ends somewhere, and has few bytes after its end
pub record EndsNear (k : InputKind) (input : List ℕ) : Type 0 where
  pub end : ℕ
  pub is_end : k.EndsAt input end
  pub near : length input ≤ end + piece_len

-- one more value is after these bytes: what holds for it holds for the input
pub record Continues (k : InputKind) (p : Profile) (before : List ℕ) : Type 0 where
  pub refused : (rest : List ℕ) (offset : ℕ) (r : Reason) → IsFault p rest offset r
      → k.HasFault (before ++ rest) (fault.Nfs (record { offset = offset + length before; reason = r }))
  pub ends : (rest : List ℕ) (end : ℕ) → BytesEnd p rest end ⊎ RefusalEnds p rest end
      → length rest ≤ end + piece_len → EndsNear k (before ++ rest)
  pub goes_on : (rest : List ℕ) → IsCutShort p rest → k.MayGoOn (before ++ rest)

-- these bytes are the whole input
pub record Completes (k : InputKind) (text : List ℕ) : Type 0 where
  pub refused : (rest : List ℕ) → 0 < length rest
      → k.HasFault (text ++ rest) (fault.Nfs (record { offset = length text; reason = TrailingBytes }))
  pub ends : (rest : List ℕ) → k.EndsAt (text ++ rest) (length text)
  pub goes_on : k.MayGoOn text

-- the end of a value
list_ends : (p : Profile) (text : List ℕ) (end : ℕ) → BytesEnd p text end ⊎ RefusalEnds p text end
    → ListEnds p text end
list_ends p text end (inl v) = inl v.value
list_ends p text end (inr r) = inr r

-- a fault is reported at its place
fault_at_place : (Has : ℕ → Reason → Type 0) (n place : ℕ) (r : Reason) → n ≡ place → Has n r
    → IsListFault Has (fault.Nfs (record { offset = place; reason = r }))
fault_at_place Has n place r same has =
    record { found = record { offset = place; reason = r }; is = refl; has = subst (λ (k : ℕ). Has k r) same has }

-- no bytes begin the input of one list
pub one_begins : (p : Profile) → Continues (one_list_input p) p []
one_begins p = record {
  refused = λ rest offset r has.
      fault_at_place (IsWholeFault p rest) offset (offset + 0) r (omega arith) (of_value offset r has);
  ends = λ rest end e near. record { end = end; is_end = list_ends p rest end e; near = near };
  goes_on = λ rest cut. inl cut;
}

-- a second value, or its refused field, ends after a first one
second_ends : (p : Profile) (list : List Ace) (text first rest : List ℕ) (end far : ℕ) → text ≡ first ++ rest
    → Xdr p list first → ListEnds p rest far → end ≡ length first + far → TwoEnd p text end
second_ends p list text first rest end far parts x is_end is =
    let ends : EndsBehind p end first rest = record { behind = far; is_end = is_end; is = is } in
    inl (record { list = list; first = first; rest = rest; parts = parts; spelled = x; holds = ends })

-- a second value may continue after a first one
second_open : (p : Profile) (list : List Ace) (first rest : List ℕ) → Xdr p list first → IsOpen p rest
    → AreOpen p (first ++ rest)
second_open p list first rest x is_open =
    inr (record { list = list; first = first; rest = rest; parts = refl; spelled = x; holds = is_open })

-- the first of two values ends near what was read, and the input ends after it
first_ends : (p : Profile) (rest : List ℕ) (end : ℕ) → BytesEnd p rest end ⊎ RefusalEnds p rest end
    → length rest ≤ end + piece_len → EndsNear (two_list_input p) rest
first_ends p rest end (inr r) near = record { end = end; is_end = inr r; near = near }
first_ends p rest end (inl v) near =
    let ends = ends_somewhere p (drop end rest) (IsBytes-drop end rest v.bytes) in
    record {
      end = length (take end rest) + ends.0;
      is_end = second_ends p v.value.list rest (take end rest) (drop end rest) (length (take end rest) + ends.0) ends.0
          (sym (take-append-drop end rest)) v.value.spelled ends.1 refl;
      near = omega (arith, near, length-take end rest);
    }

-- what holds for the first of two lists
pub two_begin : (p : Profile) → Continues (two_list_input p) p []
two_begin p = record {
  refused = λ rest offset r has.
      fault_at_place (IsFaultOfTwo p rest) offset (offset + 0) r (omega arith) (of_first offset r has);
  ends = first_ends p;
  goes_on = λ rest cut. inl cut;
}

-- the second of two lists is after the first
pub two_go_on : (p : Profile) (list : List Ace) (first : List ℕ) → Xdr p list first
    → Continues (two_list_input p) p first
two_go_on p list first x = record {
  refused = λ rest offset r has.
      fault_at_place (IsFaultOfTwo p (first ++ rest)) (length first + offset) (offset + length first) r (omega arith)
      (of_second list first rest offset r x refl (of_value offset r has));
  ends = λ rest end e near. record {
    end = length first + end;
    is_end =
        second_ends p list (first ++ rest) first rest (length first + end) end refl x (list_ends p rest end e) refl;
    near = omega (arith, near, length-append first rest);
  };
  goes_on = λ rest cut. second_open p list first rest x (inl cut);
}

-- a list is a whole input of one list
pub one_whole : (p : Profile) (list : List Ace) (text : List ℕ) → Xdr p list text → Completes (one_list_input p) text
one_whole p list text x = record {
  refused = λ rest some. fault_at_place (IsWholeFault p (text ++ rest)) (length text) (length text) TrailingBytes refl
      (behind list text rest x refl some);
  ends = λ rest. inl (record {
    list = list;
    spelled = subst (λ (y : List ℕ). Xdr p list y)
        (sym (take-append-le (length text) text rest (omega arith) ∙ take-length text)) x;
  });
  goes_on = inr (list, x);
}

-- two lists are a whole input of two lists
pub two_whole : (p : Profile) (list other : List Ace) (first second : List ℕ) → Xdr p list first → Xdr p other second
    → Completes (two_list_input p) (first ++ second)
two_whole p list other first second x y = record {
  refused = λ rest some.
      fault_at_place (IsFaultOfTwo p ((first ++ second) ++ rest)) (length first + length second)
      (length (first ++ second)) TrailingBytes (sym (length-append first second))
      (of_second list first (second ++ rest) (length second) TrailingBytes x (append_assoc first second rest)
      (behind other second rest y refl some));
  ends = λ rest.
      second_ends p list ((first ++ second) ++ rest) first (second ++ rest) (length (first ++ second)) (length second)
      (append_assoc first second rest) x ((one_whole p other second y).ends rest) (length-append first second);
  goes_on = second_open p list first second x (inr (other, y));
}

-- ---- a value is not read

-- a fault is where accepted fields end, and these have few bytes
pub short_offset : (p : Profile) (left : List ℕ) (old mid : Option (List ℕ)) (e : ListFault)
    → ReadsNone p left old mid e → HasOffsetOfOneValue e
short_offset p left old mid (unread.Refused f) h =
    let b = begins p h.has.stage h.has.front h.has.border in
    omega (arith, h.has.here, length-append h.has.front b.1, spelled_short p b.0 (h.has.front ++ b.1) b.2)
short_offset p left old mid unread.Read h = tt
short_offset p left old mid unread.Memory h = tt

-- what holds for the bytes that were taken, with those that are left, holds for an input
input_found : (Holds : List ℕ → Type 0) (given : List ℕ) (old new : Option (List ℕ)) → Consumes old new given
    → ((left : List ℕ) → (IsAtEnd new → left ≡ []) → Holds (given ++ left)) → HasInput Holds old
input_found Holds given None new c h = record { input = given ++ []; is_input = tt; holds = h [] (λ _. refl) }
input_found Holds given (Some known) None c h = absurd c
input_found Holds given (Some known) (Some left) c h =
    record { input = known; is_input = refl; holds = subst Holds (sym c) (h left (λ e. e)) }

-- a beginning that is refused, or all of an input that is cut short
still_has : (p : Profile) (given left : List ℕ) (f : Fault) (end : ℕ)
    (h : IsFirstFault p given f.offset end f.reason) → Breaks p h.stage h.rest h.more f.reason
    → (f.reason ≡ Truncated → left ≡ [])
    → IsFault p (given ++ left) f.offset f.reason
still_has p given left f end h (inl b) all =
    subst (λ (x : List ℕ). IsFault p x f.offset f.reason)
    (sym (ap (λ (x : List ℕ). given ++ x) (all b.2) ∙ append-nil given)) (end, h)
still_has p given left f end h (inr b) all =
    fault_stays p given left f.offset f.reason (end, h)
    (λ e. never_truncated p h.stage _ (subst (λ (r : Reason). refuses p h.stage (take (size h.stage) h.rest) r) e b.2))

-- a fault that counts from an earlier byte is a fault of the source if and only if it was one before
later_read : (e : ListFault) (len : ℕ) → is_read (run_fault (later e len)) ≡ is_failed_pull e
later_read (unread.Refused f) len = refl
later_read unread.Read len = refl
later_read unread.Memory len = refl

-- a fault that is reported is a fault of the source if and only if a pull failed
run_fault_read : (e : ListFault) → is_read (run_fault e) ≡ is_failed_pull e
run_fault_read (unread.Refused f) = refl
run_fault_read unread.Read = refl
run_fault_read unread.Memory = refl

-- a fault that counts from the first byte stays as it is
later_none : (e : ListFault) → later e 0 ≡ e
later_none (unread.Refused f) =
    let same : f.offset + 0 ≡ f.offset = omega arith in
    ap (λ (n : ℕ). unread.Refused (record { offset = n; reason = f.reason })) same
later_none unread.Read = refl
later_none unread.Memory = refl

-- if a value has a fault, the input has it
value_refused : (k : InputKind) (p : Profile) (before after given : List ℕ) (old mid new : Option (List ℕ))
    (e : ListFault) → Continues k p before → given ≡ before ++ after → Consumes old mid given
    → ReadsNone p after mid new e
    → Unread (HasInput (λ input. k.HasFault input (run_fault (later e (length before)))) old)
    (origin_of (run_fault (later e (length before))))
value_refused k p before after given old mid new (unread.Refused f) next parts c h =
    input_found _ (given ++ h.given) old new (Consumes-trans old mid new given h.given c h.taken) (λ left end.
    subst (λ (y : List ℕ). k.HasFault y (run_fault (later (unread.Refused f) (length before))))
    (sym (ap (λ (y : List ℕ). y ++ left) (append_regrouped given before after h.given parts)
    ∙ append_assoc before (after ++ h.given) left))
    (next.refused ((after ++ h.given) ++ left) f.offset f.reason
    (still_has p (after ++ h.given) left f h.end h.has h.has.breaks (λ t. end (h.all t)))))
value_refused k p before after given old mid new unread.Read next parts c h = tt
value_refused k p before after given old mid new unread.Memory next parts c h = tt

-- little was taken
value_near : (k : InputKind) (p : Profile) (before after given : List ℕ) (old mid new : Option (List ℕ)) (e : ListFault)
    → Continues k p before → given ≡ before ++ after → Consumes old mid given → ReadsNone p after mid new e
    → TakesTo k.EndsAt old new
value_near k p before after given old mid new e next parts c h =
    let little = none_little p after mid new e h in
    let near = next.ends (after ++ little.given) little.end little.is_end little.near in
    let all = append_regrouped given before after little.given parts in
    record {
      given = given ++ little.given;
      end = near.end;
      taken = Consumes-trans old mid new given little.given c little.taken;
      is_end = subst (λ (y : List ℕ). k.EndsAt y near.end) (sym all) near.is_end;
      near = omega (arith, near.near, ap length all);
    }

-- if a read failed in a value, the input may continue
value_open : (k : InputKind) (p : Profile) (before after given : List ℕ) (old mid new : Option (List ℕ)) (e : ListFault)
    → Continues k p before → given ≡ before ++ after → Consumes old mid given → ReadsNone p after mid new e
    → is_failed_pull e ≡ true → TakesPart k.MayGoOn old new
value_open k p before after given old mid new e next parts c h r =
    let part = none_part p after mid new e h r in
    record {
      given = given ++ part.given;
      taken = Consumes-trans old mid new given part.given c part.taken;
      is_open = subst (λ (y : List ℕ). k.MayGoOn y) (sym (append_regrouped given before after part.given parts))
          (next.goes_on (after ++ part.given) part.cut);
    }

-- the reason why a value was not read is the reason why the input was not read
pub value_unread : {X : Type 0} {k : InputKind} {p : Profile} {Is : X → List ℕ → Type 0} {before after : List ℕ}
    {old mid new : Option (List ℕ)} {failed mid_failed new_failed : ℕ} (e : ListFault) → Continues k p before
    → HasRead before after old mid failed mid_failed → ReadsNone p after mid new e
    → new_failed ≡ failures_after mid_failed (is_failed_pull e)
    → ReadsInput k Is old new failed new_failed (Err (run_fault (later e (length before))))
value_unread {k} {p} {before} {after} {old} {mid} {new} {failed} e next read h failures = record {
  found = tt;
  whole = tt;
  not_read = value_refused k p before after read.given old mid new e next read.parts read.taken h;
  bound = value_near k p before after read.given old mid new e next read.parts read.taken h;
  stopped = λ r. value_open k p before after read.given old mid new e next read.parts read.taken h
      (sym (later_read e (length before)) ∙ r);
  reads = failures ∙ ap (λ (n : ℕ). failures_after n (is_failed_pull e)) read.none_failed
      ∙ ap (failures_after failed) (sym (later_read e (length before)));
}

-- the reason why the first value was not read is the reason why the input was not read, after `?` has converted it
pub first_unread : {X : Type 0} {k : InputKind} {p : Profile} {Is : X → List ℕ → Type 0} {left : List ℕ}
    {old new : Option (List ℕ)} {failed new_failed : ℕ} (e : ListFault) (r : Result X RunFault) → left ≡ []
    → IsErrAnd r (λ run. run ≡ run_fault e) → Continues k p [] → ReadsNone p left old new e
    → new_failed ≡ failures_after failed (is_failed_pull e) → ReadsInput k Is old new failed new_failed r
first_unread e (Ok x) none goes_up next h failures = absurd goes_up
first_unread {k} {Is} {old} {new} {failed} {new_failed} e (Err run) none goes_up next h failures =
    rw goes_up (subst (λ (f : ListFault). ReadsInput k Is old new failed new_failed (Err (run_fault f))) (later_none e)
    (value_unread e next (has_read_nothing none) h failures))

-- ---- all values are read

-- little was taken if an input continues, or ends, after the values that were read
whole_near : (k : InputKind) (text after given others : List ℕ) (old mid new : Option (List ℕ)) → Completes k text
    → given ≡ text ++ after → Consumes old mid given → Consumes mid new others
    → length (after ++ others) ≤ piece_len → TakesTo k.EndsAt old new
whole_near k text after given others old mid new all parts c d near =
    let same = append_regrouped given text after others parts in
    record {
      given = given ++ others;
      end = length text;
      taken = Consumes-trans old mid new given others c d;
      is_end = subst (λ (y : List ℕ). k.EndsAt y (length text)) (sym same) (all.ends (after ++ others));
      near = omega (arith, near, ap length same, length-append text (after ++ others));
    }

-- what was read and nothing after it
all_read : (text after given : List ℕ) → given ≡ text ++ after → after ≡ [] → text ≡ given ++ []
all_read text after given parts none =
    sym (append-nil given ∙ parts ∙ ap (λ (y : List ℕ). text ++ y) none ∙ append-nil text)

-- a byte after all values is a fault of the input
end_refused : (k : InputKind) (text after given : List ℕ) (old mid new : Option (List ℕ)) (len : ℕ) (e : ListFault)
    → Completes k text → given ≡ text ++ after → Consumes old mid given → len ≡ length text
    → EndsNot len after mid new e
    → Unread (HasInput (λ input. k.HasFault input (run_fault e)) old) (origin_of (run_fault e))
end_refused k text after given old mid new len (unread.Refused f) all parts c is h =
    rw (h.0, is) (input_found _ (given ++ h.1.given) old new (Consumes-trans old mid new given h.1.given c h.1.taken)
    (λ left end.
    subst (λ (y : List ℕ). k.HasFault y (fault.Nfs (record { offset = length text; reason = TrailingBytes })))
    (sym (ap (λ (y : List ℕ). y ++ left) (append_regrouped given text after h.1.given parts)
    ∙ append_assoc text (after ++ h.1.given) left))
    (all.refused ((after ++ h.1.given) ++ left) (omega (arith, h.1.some, length-append (after ++ h.1.given) left)))))
end_refused k text after given old mid new len unread.Read all parts c is h = tt
end_refused k text after given old mid new len unread.Memory all parts c is h = tt

-- if a read failed after all values, the input may continue
end_open : (k : InputKind) (text after given : List ℕ) (old mid new : Option (List ℕ)) (len : ℕ) (e : ListFault)
    → Completes k text → given ≡ text ++ after → Consumes old mid given → EndsNot len after mid new e
    → is_failed_pull e ≡ true → TakesPart k.MayGoOn old new
end_open k text after given old mid new len e all parts c h r =
    let kept = end_kept len after mid new e h r in
    record {
      given = given ++ [];
      taken = Consumes-trans old mid new given [] c kept.1;
      is_open = subst (λ (y : List ℕ). k.MayGoOn y) (all_read text after given parts kept.0) all.goes_on;
    }

-- the reason why an input does not end after its values is the reason why it was not read
pub end_unread : {X : Type 0} {k : InputKind} {Is : X → List ℕ → Type 0} {text after : List ℕ}
    {old mid new : Option (List ℕ)} {failed mid_failed new_failed len : ℕ} (e : ListFault) (r : Result X RunFault)
    → IsErrAnd r (λ run. run ≡ run_fault e) → Completes k text → HasRead text after old mid failed mid_failed
    → len ≡ length text → EndsNot len after mid new e → new_failed ≡ failures_after mid_failed (is_failed_pull e)
    → ReadsInput k Is old new failed new_failed r
end_unread e (Ok x) goes_up all read is h failures = absurd goes_up
end_unread {k} {text} {after} {old} {mid} {new} {failed} {len} e (Err run) goes_up all read is h failures =
    let past = past_end len after mid new e h in
    rw goes_up (record {
      found = tt;
      whole = tt;
      not_read = end_refused k text after read.given old mid new len e all read.parts read.taken is h;
      bound = whole_near k text after read.given past.given old mid new all read.parts read.taken past.taken past.near;
      stopped = λ r. end_open k text after read.given old mid new len e all read.parts read.taken h
          (sym (run_fault_read e) ∙ r);
      reads = failures ∙ ap (λ (n : ℕ). failures_after n (is_failed_pull e)) read.none_failed
          ∙ ap (failures_after failed) (sym (run_fault_read e));
    })

-- an input that is what was read and nothing more
pub input_read : {X : Type 0} {k : InputKind} {Is : X → List ℕ → Type 0} {x : X} {text after : List ℕ}
    {old mid new : Option (List ℕ)} {failed mid_failed new_failed : ℕ} → Completes k text → Is x text
    → HasRead text after old mid failed mid_failed → after ≡ [] → Consumes mid new [] → IsAtEnd new
    → new_failed ≡ mid_failed → ReadsInput k Is old new failed new_failed (Ok x)
input_read {k} {Is} {x} {text} {after} {old} {mid} {new} all is read none d end same =
    let c = Consumes-trans old mid new read.given [] read.taken d in
    record {
      found = record {
        input = read.given ++ [];
        is_input = Consumes-whole old new (read.given ++ []) (λ bytes. read.given ++ [] ≡ bytes) c end refl;
        holds = subst (λ (y : List ℕ). Is x y) (all_read text after read.given read.parts none) is;
      };
      whole = end;
      not_read = tt;
      bound = whole_near k text after read.given [] old mid new all read.parts read.taken d (rw none (omega arith));
      stopped = tt;
      reads = same ∙ read.none_failed;
    }
