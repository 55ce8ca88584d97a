-- Entries of any type: what a form reads as an ACE of a list is read as the same ACE, and no DENY of a special
-- identifier that nobody knows is read.
use Rattle.std.proofs.Common.{◌≡◌, ◌∙◌, ◌+◌, ◌<◌, ◌≤◌, ℕ, Bool, true, false, cond, eqb, List, None, Some, Option, Result, Ok, Err, length, refl, ap, subst, arith}
use Rattle.std.specs.Prelude.{IfOk, count_ones, nat_le, nat_lt, option_map}
use Rattle.std.specs.Fmt.{decimal}
use Rattle.std.proofs.lemmas.Bool.{eqb-true}
use Rattle.std.proofs.lemmas.Bool.Decides.{nat_tests}
use Rattle.acl_perm.specs.Kind.{kind_number}
use Rattle.acl_perm.specs.declared.kind.Kind.{Kind}
use Rattle.acl_perm.specs.declared.kind.Kind.TheVariants.{Allow, Deny}
use Rattle.acl_nfs4.specs.AccessPart.{AnyAce}
use Rattle.acl_nfs4.specs.Ace.{Ace}
use Rattle.acl_nfs4.specs.Fields.{who_len_of}
use Rattle.acl_nfs4.specs.Limits.{most_aces, most_weight}
use Rattle.acl_nfs4.specs.Push.{who_refusal}
use Rattle.acl_nfs4.specs.Spelling.{weight}
use Rattle.acl_nfs4.specs.Who.{IsWho, is_unknown_special, who_fault}
use Rattle.acl_nfs4.specs.declared.list.push_fault.PushFault.{PushFault}
use Rattle.acl_nfs4.specs.declared.list.push_fault.PushFault.TheVariants.{TooHeavy, TooManyAces}
use Rattle.acl_nfs4.specs.declared.xdr.fault.Reason.TheVariants as list
use Rattle.acl_posix.specs.declared.id.Id.{Id}
use Rattle.acl_nfs4.proofs.Exports.{bind-ok, bind_then, guard_ok, ok_is, is_who-decimal}
use Rattle.acl_forms.specs.Letters.{flag_letters, nfs_flag_letters, nfs_right_letters, no_letter, right_letters, set_of_letters}
use Rattle.acl_forms.specs.NfsText.{NfsFields, flags_by_tag, nfs_fields_read, nfs_kind, nfs_type, tag_special, who_by_tag}
unfoldable use Rattle.acl_forms.specs.NfsText.{nfs_ace, nfs_entry}
use Rattle.acl_forms.specs.Part.{is_unknown_deny}
use Rattle.acl_forms.specs.PartTexts.{any_taken, judged_at, who_of_type}
unfoldable use Rattle.acl_forms.specs.PartTexts.{nfs_any_ace, nfs_any_entry, tools_any_ace, tools_any_entry}
use Rattle.acl_forms.specs.NfsRules.{nfs_rules}
use Rattle.acl_forms.specs.ToolsRules.{tools_rules}
use Rattle.acl_forms.specs.PartWords.{who_by_name}
use Rattle.acl_forms.specs.ReadFaults.{read_fault_at}
use Rattle.acl_forms.specs.ToolsText.{Fields, fields_read, kind_at, kind_read, taken, type_read, unless_refused, with_group_flag}
unfoldable use Rattle.acl_forms.specs.ToolsText.{tools_ace, tools_entry}
use Rattle.acl_forms.specs.Words.{listed}
use Rattle.acl_forms.specs.declared.fault.ReadFault.{ReadFault}
use Rattle.acl_forms.specs.declared.fault.ReadReason.{ReadReason}
use Rattle.acl_forms.specs.declared.fault.ReadReason.TheVariants as reasons
use Rattle.acl_forms.specs.declared.object.ObjectKind.{ObjectKind}
use Rattle.acl_forms.specs.declared.object.ObjectKind.TheVariants.{Directory}
use Rattle.acl_forms.specs.declared.who_field.WhoField.{WhoField}
use Rattle.acl_forms.specs.declared.part.any_ace.AnyAceRef.{AnyAceRef}
use Rattle.acl_forms.specs.internal.AnyAces.{HasAnyName, IsWithinLimits}
use Rattle.acl_forms.proofs.AnyTexts.{Follows, RefusesUnknown}
use Rattle.acl_forms.proofs.PartWords.{name_is}
use Rattle.acl_forms.proofs.WholeLists.{any_of, is_known}

-- the type of a kind
kind_type : (at number : ℕ) (kind : Kind) → kind_at at number ≡ Ok kind → number ≡ kind_number kind
kind_type at number kind e = by (nat_lt number 2) (eqb number 0) refl refl e
  where
    by : (few none : Bool) → nat_lt number 2 ≡ few → eqb number 0 ≡ none
        → cond few (Ok (cond none Allow Deny)) (Err (read_fault_at at (reasons.List list.AuditOrAlarm))) ≡ Ok kind
        → number ≡ kind_number kind
    by true true f n e = let is : Allow ≡ kind = ok_is _ _ e in eqb-true number 0 n ∙ ap kind_number is
    by true false f n e =
        let is : Deny ≡ kind = ok_is _ _ e in
        let one : number ≡ 1 = grind (arith, nat_tests) in one ∙ ap kind_number is
    by false none f n e = absurd cc

-- a who of a list is one that an ACE of any type may have
who_again : (type_number : ℕ) (who : List ℕ) → IsWho who → who_of_type type_number who ≡ Ok who
who_again type_number who is =
    let known = is_known who is in
    rw (known.name.long, known.name.utf8, known.name.plain, known.known) refl

-- an id is a who that an ACE of any type may have
pub id_again : (at type_number : ℕ) (id : Id) → judged_at at (who_of_type type_number (decimal id.value))
    ≡ Ok (decimal id.value)
id_again at type_number id =
    rw (who_again type_number (decimal id.value) (is_who-decimal id.value (omega (arith, id.within)))) refl

-- what has no image is nothing
map_none : {A B : Type 0} (f : A → B) (o : Option A) → option_map f o ≡ None → o ≡ None
map_none f None e = refl
map_none f (Some x) e = absurd cc

-- an ACE that a list takes is one that a list of ACEs of any type takes
taken_again : (aces : List Ace) (a b : Ace) (mask who : ℕ) → taken aces a mask who ≡ Ok b
    → (a ≡ b) × (any_taken (weight aces) mask who (any_of a) ≡ Ok (any_of a)) × (is_unknown_special a.who ≡ false)
taken_again aces a b mask who e =
    by (nat_le most_aces (length aces)) (nat_lt most_weight (weight aces + count_ones a.mask)) refl refl e
  where
    by : (full heavy : Bool) → nat_le most_aces (length aces) ≡ full
        → nat_lt most_weight (weight aces + count_ones a.mask) ≡ heavy
        → unless_refused a mask who (cond full (Some TooManyAces) (cond heavy (Some TooHeavy)
        (option_map who_refusal (who_fault a.who)))) ≡ Ok b
        → (a ≡ b) × (any_taken (weight aces) mask who (any_of a) ≡ Ok (any_of a)) × (is_unknown_special a.who ≡ false)
    by true heavy f h e = absurd cc
    by false true f h e = absurd cc
    by false false f h e =
        let r = unless_none (option_map who_refusal (who_fault a.who)) e in
        let is : IsWho a.who = map_none who_refusal (who_fault a.who) r.0 in
        (r.1, rw (h, who_again (kind_number a.kind) a.who is) refl, (is_known a.who is).known)
      where
        unless_none : (o : Option PushFault) → unless_refused a mask who o ≡ Ok b → (o ≡ None) × (a ≡ b)
        unless_none None e = (refl, ok_is _ _ e)
        unless_none (Some f) e = absurd cc

-- an ACE of any type
abbrev any_from : ℕ → ℕ → ℕ → List ℕ → AnyAce
any_from number flags mask who = record { type_number = number; flags = flags; mask = mask; who = who }

-- the ACE of fields of nfs4-acl-tools is the same ACE of any type
tools_again : (object : ObjectKind) (fields : Fields) (a : Ace) → tools_ace object fields ≡ Ok a
    → tools_any_ace object fields ≡ Ok (any_of a)
unfolding tools_ace tools_any_ace
tools_again object fields a e =
    bind_then (kind_read fields.kind) _ a e (λ kind ke e1.
    bind_then (type_read fields.kind) (kind_at fields.kind.column) kind ke (λ number ne ae.
    bind_then (set_of_letters flag_letters object reasons.Flag fields.flags.column fields.flags.bytes) _ a e1
    (λ flags fe e2.
    bind_then (set_of_letters right_letters object reasons.Mask fields.rights.column fields.rights.bytes) _ a e2
    (λ mask me e3.
    let who = fields.who.bytes in
    let is = ok_is _ _ e3 in
    bind-ok _ ne ∙ (bind-ok _ fe ∙ (bind-ok _ me
    ∙ (ap (λ (n : ℕ). Ok (any_from n (with_group_flag who flags) mask who))
    (kind_type fields.kind.column number kind ae)
    ∙ ap (λ (b : Ace). Ok (any_of b)) is)))))))

-- nfs4-acl-tools
pub tools_follow : (object : ObjectKind) → Follows (tools_rules object) (tools_any_entry object)
unfolding tools_entry tools_any_entry
tools_follow object aces entry a e =
    bind_then (fields_read (length aces) entry) _ a e (λ fields fe e1.
    bind_then (tools_ace object fields) _ a e1 (λ b be e2.
    let t = taken_again aces b a fields.rights.column fields.who.column e2 in (
      bind-ok _ fe ∙ (bind-ok _ (tools_again object fields b be) ∙ (t.1 ∙ ap (λ (c : Ace). Ok (any_of c)) t.0)),
      subst (λ (c : Ace). is_unknown_special c.who ≡ false) t.0 t.2,
    )))

-- the ACE of fields of FreeBSD is the same ACE of any type
nfs_again : (source : WhoField) (fields : NfsFields) (a : Ace) → nfs_ace source fields ≡ Ok a
    → nfs_any_ace source fields ≡ Ok (any_of a)
unfolding nfs_ace nfs_any_ace
nfs_again source fields a e =
    bind_then (set_of_letters (nfs_right_letters no_letter) Directory reasons.Mask fields.rights.column
    fields.rights.bytes) _ a e (λ mask me e1.
    bind_then (set_of_letters (nfs_flag_letters no_letter) Directory reasons.Flag fields.flags.column
    fields.flags.bytes) _ a e1 (λ flags fe e2.
    bind_then (nfs_kind fields.kind) _ a e2 (λ kind ke e3.
    bind_then (nfs_type fields.kind) (kind_at fields.kind.column) kind ke (λ number ne ae.
    bind_then (who_by_tag source fields (tag_special fields.tag)) _ a e3 (λ who we e4.
    let is = ok_is _ _ e4 in
    bind-ok _ me ∙ (bind-ok _ fe ∙ (bind-ok _ ne ∙ (bind-ok _ we
    ∙ (ap (λ (n : ℕ). Ok (any_from n (flags_by_tag fields.tag flags) mask who))
    (kind_type fields.kind.column number kind ae) ∙ ap (λ (b : Ace). Ok (any_of b)) is)))))))))

-- FreeBSD, ZFS and archives
pub nfs_follow : (source : WhoField) → Follows (nfs_rules source) (nfs_any_entry source)
unfolding nfs_entry nfs_any_entry
nfs_follow source aces entry a e =
    bind_then (nfs_fields_read (length aces) entry) _ a e (λ fields fe e1.
    bind_then (nfs_ace source fields) _ a e1 (λ b be e2.
    let t = taken_again aces b a fields.rights.column fields.who.column e2 in (
      bind-ok _ fe ∙ (bind-ok _ (nfs_again source fields b be) ∙ (t.1 ∙ ap (λ (c : Ace). Ok (any_of c)) t.0)),
      subst (λ (c : Ace). is_unknown_special c.who ≡ false) t.0 t.2,
    )))

-- ---- the limits

-- an ACE that is read is within the limits, and has a name
pub within_limits : (count bits : ℕ) (r : Result AnyAceRef ReadFault) → count < most_aces
    → IfOk r (λ a. bits + count_ones a.mask.bits ≤ most_weight) → IfOk r (λ a. HasAnyName a.who)
    → IfOk r (IsWithinLimits count bits)
within_limits count bits (Ok a) room light named = record { room = room; light = light; named = named }
within_limits count bits (Err f) room light named = tt

-- ---- no DENY of a special identifier that nobody knows

-- a value at a place was not refused
judged_is : {A : Type 0} (at : ℕ) (r : Result A ReadReason) (x : A) → judged_at at r ≡ Ok x → r ≡ Ok x
judged_is at (Ok y) x e = cc
judged_is at (Err r) x e = absurd cc

-- an ACE that is taken is none
taken_known : (bits mask who : ℕ) (a b : AnyAce) → any_taken bits mask who a ≡ Ok b
    → is_unknown_deny b.type_number b.who ≡ false
taken_known bits mask who a b e =
    let light = guard_ok (nat_lt most_weight (bits + count_ones a.mask)) _ _ b e in
    bind_then (judged_at who (who_of_type a.type_number a.who)) (λ name. Ok a) b light.1 (λ name ne is.
    bind_then (listed (who_len_of (length a.who))) (λ len. who_by_name a.type_number a.who) name
    (judged_is who (who_of_type a.type_number a.who) name ne) (λ len le we.
    let says = name_is a.type_number a.who name we in
    let same : a ≡ b = ok_is a b is in
    subst (λ (c : AnyAce). is_unknown_deny c.type_number c.who ≡ false) same
    (ap (is_unknown_deny a.type_number) says.same ∙ says.known)))

-- nfs4-acl-tools
pub tools_refuse : (object : ObjectKind) → RefusesUnknown (tools_any_entry object)
unfolding tools_any_entry
tools_refuse object count bits entry a e =
    bind_then (fields_read count entry) _ a e (λ fields fe e1.
    bind_then (tools_any_ace object fields) _ a e1
    (λ b be e2. taken_known bits fields.rights.column fields.who.column b a e2))

-- FreeBSD, ZFS and archives
pub nfs_refuse : (source : WhoField) → RefusesUnknown (nfs_any_entry source)
unfolding nfs_any_entry
nfs_refuse source count bits entry a e =
    bind_then (nfs_fields_read count entry) _ a e (λ fields fe e1.
    bind_then (nfs_any_ace source fields) _ a e1
    (λ b be e2. taken_known bits fields.rights.column fields.who.column b a e2))
