-- What is read from a line is true of the line, and what is true of a line is read from the line.
use Rattle.acl_nfs4.proofs.Common.{Ace, AceTextFault, after_flags, after_kind, after_mask, Allow, arith, bytes_eq, bytes_eq_same, cond, count_ones, Deny, Err, false, flag_names, if_light, IsAce, IsAt, IsFlagged, IsLight, IsLineFault, IsMasked, IsSplit, IsTyped, Kind, kind_name, kind_named, le-leb, le-ltb, leb-false, leb-true, length, line_fields, LineFields, List, lt-ltb, ltb-false, ltb-true, mask_column, most_aces, most_weight, nat_le, nat_lt, nat_tests, None, Ok, ok_or, Option, Profile, read_ace, read_ace_fields, refl, Result, rights, set_within, Some, SpellsAce, TextLine, true, weight, who_column, who_fault, who_fault_at, who_judged, WhoFault, ℕ, ◌+◌, ◌<◌, ◌>>=◌, ◌∙◌, ◌≡◌, ◌≢◌, ◌≤◌}
use Rattle.acl_nfs4.specs.declared.who.WhoFault.TheVariants as who
use Rattle.acl_nfs4.specs.declared.text.fault.AceTextFault.TheVariants as faults
use Rattle.acl_nfs4.proofs.text.AceFields.{FieldsSay, fields_say, fields_read}
use Rattle.acl_nfs4.proofs.names.SetFields.{flags_table, rights_table}
use Rattle.acl_nfs4.proofs.names.Tables.{PartSays, part_read, part_says}

-- a line spells this ACE, and the list can take it
pub record TakesAce (p : Profile) (list : List Ace) (line : TextLine) (a : Ace) : Type 0 where
  pub spelled : SpellsAce line.bytes a
  pub ace : IsAce p a
  pub room : length list < most_aces
  pub light : weight list + count_ones a.mask ≤ most_weight

-- the answer of reading a line, as the next one after a list
abbrev pub answer_of : Profile → List Ace → TextLine → Result Ace AceTextFault
answer_of p list line = read_ace p (length list) (weight list) line.number line.bytes

-- what each answer says about the line
abbrev pub LineSays : Profile → List Ace → TextLine → Result Ace AceTextFault → Type 0
LineSays p list line (Ok a) = TakesAce p list line a
LineSays p list line (Err fault) = IsLineFault p list line fault

-- each line and column is at itself
at_itself : (line column : ℕ) → IsAt line column line column
at_itself line column = record { same_line = refl; same_column = refl }

-- ---- what is answered is true

-- what is answered is true if it is true where a field is missing, and after each value that the field may have
says_next : {A : Type 0} (p : Profile) (list : List Ace) (line : TextLine) (fault : AceTextFault)
    (next : A → Result Ace AceTextFault) (Says : Option A → Type 0) (o : Option A) → Says o
    → (Says None → IsLineFault p list line fault) → ((x : A) → Says (Some x) → LineSays p list line (next x))
    → LineSays p list line (ok_or o fault >>= next)
says_next p list line fault next Says None says absent found = absent says
says_next p list line fault next Says (Some x) says absent found = found x says

-- what is read after a mask that the list can accept is true of the line
who_says : (p : Profile) (list : List Ace) (line : TextLine) (fields : LineFields) (light : IsLight p list line fields)
    (o : Option WhoFault) → who_fault fields.who ≡ o
    → LineSays p list line (who_judged line.number (who_column fields) fields.who o
    >>= (λ name. Ok (record {
      kind = light.masked.flagged.typed.kind;
      flags = light.masked.flagged.flags;
      mask = light.mask;
      who = name;
    })))
who_says p list line fields light None e =
    let masked = light.masked in
    let flagged = masked.flagged in
    let typed = flagged.typed in record {
      spelled = record {
        fields = fields;
        has = typed.cut.has;
        kind = typed.is_kind;
        flags = flagged.named;
        mask = masked.named;
        who = refl;
      };
      ace = record { flags = flagged.within; mask = masked.within; who = e };
      room = typed.cut.room;
      light = light.light;
    }
who_says p list line fields light (Some who.Length) e =
    record { fields = fields; light = light; reason = e; place = at_itself _ _ }
who_says p list line fields light (Some who.Utf8) e =
    record { fields = fields; light = light; reason = e; place = at_itself _ _ }
who_says p list line fields light (Some who.Control) e =
    record { fields = fields; light = light; reason = e; place = at_itself _ _ }
who_says p list line fields light (Some who.Special) e =
    record { fields = fields; light = light; reason = e; place = at_itself _ _ }

-- what is read after the flags is true of the line
mask_says : (p : Profile) (list : List Ace) (line : TextLine) (fields : LineFields)
    (flagged : IsFlagged p list line fields) (o : Option ℕ) → PartSays rights p.masks fields.mask o
    → LineSays p list line ((ok_or o (faults.Mask line.number (mask_column fields))
    >>= (λ n. if_light (weight list) line.number (mask_column fields) n))
    >>= (λ mask. after_mask line.number fields flagged.typed.kind flagged.flags mask))
mask_says p list line fields flagged None none =
    record { fields = fields; flagged = flagged; no_mask = none; place = at_itself _ _ }
mask_says p list line fields flagged (Some mask) h =
    let masked : IsMasked p list line fields mask =
    record { flagged = flagged; named = h.spelled; within = h.within } in
    elim (nat_lt most_weight (weight list + count_ones mask))
    as (λ b. nat_lt most_weight (weight list + count_ones mask) ≡ b → LineSays p list line
    (cond b (Err (faults.TooHeavy line.number (mask_column fields))) (Ok mask)
    >>= (λ m. after_mask line.number fields flagged.typed.kind flagged.flags m))) [
      | true ↦ λ heavy.
          record { fields = fields; mask = mask; masked = masked; heavy = ltb-true _ _ heavy; place = at_itself _ _ }
      | false ↦ λ light. who_says p list line fields
          (record { mask = mask; masked = masked; light = ltb-false _ _ light }) (who_fault fields.who) refl
    ] refl

-- what is said of a word by the kind as which it was read
abbrev KindSays : List ℕ → Option Kind → Type 0
KindSays word None = (kind : Kind) → word ≢ kind_name kind
KindSays word (Some kind) = word ≡ kind_name kind

-- a word that differs from both names is not the name of a kind
no_kind_name : (word : List ℕ) → bytes_eq word (kind_name Allow) ≡ false → bytes_eq word (kind_name Deny) ≡ false
    → (kind : Kind) → word ≢ kind_name kind
no_kind_name word a d Allow e = let wrong = rw e at a in cc
no_kind_name word a d Deny e = let wrong = rw e at d in cc

-- the kind as which a word is read is the kind that it names
kind_says : (word : List ℕ) → KindSays word (kind_named word)
unfolding kind_named
kind_says word =
    elim (bytes_eq word (kind_name Allow)) as (λ b. bytes_eq word (kind_name Allow) ≡ b
    → KindSays word (cond b (Some Allow) (cond (bytes_eq word (kind_name Deny)) (Some Deny) None))) [
      | true ↦ λ e. bytes_eq_same _ _ e
      | false ↦ λ a.
          elim (bytes_eq word (kind_name Deny)) as (λ b. bytes_eq word (kind_name Deny) ≡ b
          → KindSays word (cond b (Some Deny) None)) [
            | true ↦ λ e. bytes_eq_same _ _ e
            | false ↦ λ d. no_kind_name word a d
          ] refl
    ] refl

-- what is read from a line is true of the line, if the list can take one more ACE
fields_next : (p : Profile) (list : List Ace) (line : TextLine) → length list < most_aces
    → LineSays p list line (ok_or (line_fields line.bytes) (faults.Fields line.number 1)
    >>= (λ fields. read_ace_fields p (weight list) line.number fields))
fields_next p list line room =
    says_next p list line _ _ (FieldsSay line.bytes) (line_fields line.bytes) (fields_say line.bytes)
    (λ few. record { room = room; few = few; place = at_itself _ _ }) (λ fields has.
    let cut : IsSplit list line fields = record { room = room; has = has.0 } in
    says_next p list line _ _ (KindSays fields.kind) (kind_named fields.kind) (kind_says fields.kind)
    (λ none. record { fields = fields; cut = cut; no_kind = none; place = at_itself _ _ }) (λ kind is.
    let typed : IsTyped list line fields = record { cut = cut; kind = kind; is_kind = is } in
    says_next p list line _ _ (PartSays flag_names p.flags fields.flags) (set_within flag_names p.flags fields.flags)
    (part_says flag_names p.flags fields.flags flags_table)
    (λ none. record { fields = fields; typed = typed; no_flags = none; place = at_itself _ _ }) (λ flags h.
    mask_says p list line fields (record { typed = typed; flags = flags; named = h.spelled; within = h.within })
    (set_within rights p.masks fields.mask) (part_says rights p.masks fields.mask rights_table))))

-- the answer of reading a line is true of the line
pub line_says : (p : Profile) (list : List Ace) (line : TextLine) → LineSays p list line (answer_of p list line)
unfolding read_ace
line_says p list line =
    elim (nat_le most_aces (length list)) as (λ b. nat_le most_aces (length list) ≡ b
    → LineSays p list line (cond b (Err (faults.TooManyAces line.number 1))
    (ok_or (line_fields line.bytes) (faults.Fields line.number 1)
    >>= (λ fields. read_ace_fields p (weight list) line.number fields)))) [
      | true ↦ λ full. record { full = leb-true _ _ full; place = at_itself _ _ }
      | false ↦ λ room. fields_next p list line (leb-false _ _ room)
    ] refl

-- ---- the other way round

-- the name of a kind is read as the kind
kind_read : (kind : Kind) → kind_named (kind_name kind) ≡ Some kind
unfolding kind_named
kind_read Allow = refl
kind_read Deny = refl

-- if no value fits a field, it is missing
none_if_unfit : {A : Type 0} (Says : Option A → Type 0) (o : Option A) → Says o → ((x : A) → Says (Some x) → ⊥)
    → o ≡ None
none_if_unfit Says None says none = refl
none_if_unfit Says (Some x) says none = absurd (none x says)

-- the test of the number of ACEs says that a list below the limit can take one more
has_room : (n : ℕ) → n < most_aces → nat_le most_aces n ≡ false
has_room n lt = grind (arith, nat_tests)

-- the answer for a line that has its fields is what is read from the fields
cut_read : (p : Profile) (list : List Ace) (line : TextLine) (fields : LineFields) → IsSplit list line fields
    → answer_of p list line ≡ read_ace_fields p (weight list) line.number fields
unfolding read_ace
cut_read p list line fields h = rw (has_room (length list) h.room, fields_read line.bytes fields h.has) refl

-- the answer for a line that is right up to its kind is what is read after the kind
typed_read : (p : Profile) (list : List Ace) (line : TextLine) (fields : LineFields) (h : IsTyped list line fields)
    → answer_of p list line ≡ after_kind p (weight list) line.number fields h.kind
typed_read p list line fields h = cut_read p list line fields h.cut ∙ rw (h.is_kind, kind_read h.kind) refl

-- the answer for a line that is right up to its flags is what is read after the flags
flagged_read : (p : Profile) (list : List Ace) (line : TextLine) (fields : LineFields)
    (h : IsFlagged p list line fields)
    → answer_of p list line ≡ after_flags p (weight list) line.number fields h.typed.kind h.flags
flagged_read p list line fields h = typed_read p list line fields h.typed
    ∙ rw (part_read flag_names p.flags fields.flags h.flags flags_table h.named h.within) refl

-- the answer for a line that is right up to its mask is that of the weight, and then what is read after the mask
masked_read : (p : Profile) (list : List Ace) (line : TextLine) (fields : LineFields) (mask : ℕ)
    (h : IsMasked p list line fields mask)
    → answer_of p list line ≡ (if_light (weight list) line.number (mask_column fields) mask
    >>= (λ m. after_mask line.number fields h.flagged.typed.kind h.flagged.flags m))
masked_read p list line fields mask h = flagged_read p list line fields h.flagged
    ∙ rw (part_read rights p.masks fields.mask mask rights_table h.named h.within) refl

-- the answer for a line whose mask the list can accept is what is read after the mask
light_read : (p : Profile) (list : List Ace) (line : TextLine) (fields : LineFields) (h : IsLight p list line fields)
    → answer_of p list line ≡ after_mask line.number fields h.masked.flagged.typed.kind h.masked.flagged.flags h.mask
light_read p list line fields h = masked_read p list line fields h.mask h.masked
    ∙ rw (le-ltb most_weight _ h.light) refl

-- the answer for a line whose last field is no who is the fault of that field
no_who : (p : Profile) (list : List Ace) (line : TextLine) (fields : LineFields) (why : WhoFault)
    → IsLight p list line fields → who_fault fields.who ≡ Some why
    → answer_of p list line ≡ Err (who_fault_at line.number (who_column fields) why)
no_who p list line fields why light reason = light_read p list line fields light ∙ rw reason refl

-- the ACE that a line spells is the answer of reading it
ace_read : (p : Profile) (list : List Ace) (line : TextLine) (a : Ace) → TakesAce p list line a
    → answer_of p list line ≡ Ok a
ace_read p list line a h =
    let s = h.spelled in
    let typed : IsTyped list line s.fields =
    record { cut = record { room = h.room; has = s.has }; kind = a.kind; is_kind = s.kind } in
    let flagged : IsFlagged p list line s.fields =
    record { typed = typed; flags = a.flags; named = s.flags; within = h.ace.flags } in
    let light : IsLight p list line s.fields = record {
      mask = a.mask;
      masked = record { flagged = flagged; named = s.mask; within = h.ace.mask };
      light = h.light;
    } in
    light_read p list line s.fields light ∙ rw (s.who, h.ace.who) refl

-- an answer that is true of a line is the answer of reading it
pub line_read : (p : Profile) (list : List Ace) (line : TextLine) (r : Result Ace AceTextFault)
    → LineSays p list line r → answer_of p list line ≡ r
unfolding read_ace
line_read p list line (Ok a) h = ace_read p list line a h
line_read p list line (Err (faults.TooManyAces l c)) h =
    rw (le-leb most_aces (length list) h.full, h.place.same_line, h.place.same_column) refl
line_read p list line (Err (faults.Fields l c)) h =
    let none = none_if_unfit (FieldsSay line.bytes) _ (fields_say line.bytes)
    (λ fields says. absurd (omega (arith, h.few, says.1))) in
    rw (has_room (length list) h.room, none, h.place.same_line, h.place.same_column) refl
line_read p list line (Err (faults.AceType l c)) h =
    let none = none_if_unfit (KindSays h.fields.kind) _ (kind_says h.fields.kind) h.no_kind in
    cut_read p list line h.fields h.cut ∙ rw (none, h.place.same_line, h.place.same_column) refl
line_read p list line (Err (faults.Flag l c)) h =
    let none = none_if_unfit (PartSays flag_names p.flags h.fields.flags) _
    (part_says flag_names p.flags h.fields.flags flags_table) (λ set says. h.no_flags set says.spelled says.within) in
    typed_read p list line h.fields h.typed ∙ rw (none, h.place.same_line, h.place.same_column) refl
line_read p list line (Err (faults.Mask l c)) h =
    let none = none_if_unfit (PartSays rights p.masks h.fields.mask) _
    (part_says rights p.masks h.fields.mask rights_table) (λ set says. h.no_mask set says.spelled says.within) in
    flagged_read p list line h.fields h.flagged ∙ rw (none, h.place.same_line, h.place.same_column) refl
line_read p list line (Err (faults.TooHeavy l c)) h = masked_read p list line h.fields h.mask h.masked
    ∙ rw (lt-ltb most_weight (weight list + count_ones h.mask) h.heavy, h.place.same_line, h.place.same_column) refl
line_read p list line (Err (faults.WhoLength l c)) h =
    no_who p list line h.fields who.Length h.light h.reason ∙ rw (h.place.same_line, h.place.same_column) refl
line_read p list line (Err (faults.WhoUtf8 l c)) h =
    no_who p list line h.fields who.Utf8 h.light h.reason ∙ rw (h.place.same_line, h.place.same_column) refl
line_read p list line (Err (faults.WhoControl l c)) h =
    no_who p list line h.fields who.Control h.light h.reason ∙ rw (h.place.same_line, h.place.same_column) refl
line_read p list line (Err (faults.SpecialWho l c)) h =
    no_who p list line h.fields who.Special h.light h.reason ∙ rw (h.place.same_line, h.place.same_column) refl
line_read p list line (Err faults.Memory) h = absurd h
