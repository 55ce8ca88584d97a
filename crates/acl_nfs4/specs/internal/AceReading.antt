-- How the code reads lines of ACEs one after the other, as functions: this library's own words, which only code needs.
-- What public clauses say about texts is in AceText and AceTextFault.
use Rattle.std.specs.Prelude.{◌≡◌, ◌+◌, ◌≤◌, ◌==◌, ℕ, List, [], ◌∷◌, ◌++◌, length, take, drop, position, Option, None, Some, option_map, ok_or, Result, MatchResult, Ok, Err, nat_le, nat_lt, count_ones, if◌then◌else◌, map, not}
use Rattle.std.specs.List.{enumerate_from, filter}
use Rattle.std.specs.Option.{option_and_then}
use Rattle.std.specs.Str.{bytes_eq}
use Rattle.acl_perm.specs.Ascii.{space}
use Rattle.acl_perm.specs.Profile.{Profile}
use Rattle.acl_perm.specs.declared.kind.Kind.{Kind}
use Rattle.acl_perm.specs.declared.kind.Kind.TheVariants.{Deny, Allow}
use Rattle.acl_nfs4.specs.Ace.{Ace}
use Rattle.acl_nfs4.specs.AceText.{TextLine, LineFields, is_skipped, kind_name, text_line}
use Rattle.acl_nfs4.specs.AceTextFault.{flags_column, mask_column, who_column}
use Rattle.acl_nfs4.specs.FlagNames.{flag_names}
use Rattle.acl_nfs4.specs.Limits.{most_aces, most_weight}
use Rattle.acl_nfs4.specs.internal.NameTable.{set_within}
use Rattle.acl_perm.specs.internal.Steps.{◌>>=◌}
use Rattle.acl_nfs4.specs.Rights.{rights}
use Rattle.acl_nfs4.specs.Spelling.{weight}
use Rattle.acl_nfs4.specs.Who.{who_fault}
use Rattle.acl_nfs4.specs.declared.who.WhoFault.{WhoFault}
use Rattle.acl_nfs4.specs.declared.who.WhoFault.TheVariants as who
use Rattle.acl_nfs4.specs.declared.text.fault.AceTextFault.{AceTextFault}
use Rattle.acl_nfs4.specs.declared.text.fault.AceTextFault.TheVariants as faults
use Rattle.acl_nfs4.specs.declared.text.line.FirstField.{FirstField}
use Rattle.acl_nfs4.specs.declared.text.line.LineFields.{LineFields as HeldFields}

-- ---- fields

-- the bytes before the first space, and the bytes after it
abbrev pub cut_space : List ℕ → Option (List ℕ × List ℕ)
cut_space bytes = option_map (λ i. (take i bytes, drop (i + 1) bytes)) (position (λ b. b == space) bytes)

-- the first field and the bytes after it, as code holds them
abbrev pub view_first : FirstField → List ℕ × List ℕ
view_first parts = (parts.field.now, parts.rest.now)

-- the last two fields, after these two
abbrev pub last_fields : List ℕ → List ℕ → Option (List ℕ × List ℕ) → Option LineFields
last_fields kind flags parts =
    option_map (λ p. record { kind = kind; flags = flags; mask = p.0; who = p.1 }) parts

-- the fields of a line, if it has four
unfoldable pub line_fields : List ℕ → Option LineFields
line_fields line = option_and_then (λ kind.
    option_and_then (λ flags. last_fields kind.0 flags.0 (cut_space flags.1)) (cut_space kind.1)) (cut_space line)

-- the fields of a line as code holds them, without their places in memory
abbrev pub viewed_fields : HeldFields → LineFields
viewed_fields fields =
    record { kind = fields.kind.now; flags = fields.flags.now; mask = fields.mask.now; who = fields.who.now }

-- the fields of a line are not longer than the line
abbrev pub LineFieldsFit : LineFields → List ℕ → Type 0
LineFieldsFit fields line =
    length fields.kind + length fields.flags + length fields.mask + length fields.who + 3 ≤ length line

-- ---- what a field holds

-- the kind that a word names, if it names one
unfoldable pub kind_named : List ℕ → Option Kind
kind_named word = if bytes_eq word (kind_name Allow) then Some Allow
    else (if bytes_eq word (kind_name Deny) then Some Deny else None)

-- the flags of a field, or the fault at this line and column
abbrev pub read_flags : Profile → ℕ → ℕ → List ℕ → Result ℕ AceTextFault
read_flags p line column field = ok_or (set_within flag_names p.flags field) (faults.Flag line column)

-- a mask, if ACEs of this weight leave room for it
abbrev pub if_light : ℕ → ℕ → ℕ → ℕ → Result ℕ AceTextFault
if_light heavy line column mask =
    if nat_lt most_weight (heavy + count_ones mask) then Err (faults.TooHeavy line column) else Ok mask

-- the mask of a field after ACEs of this weight, or the fault at this line and column
abbrev pub read_mask_field : Profile → ℕ → ℕ → ℕ → List ℕ → Result ℕ AceTextFault
read_mask_field p heavy line column field =
    ok_or (set_within rights p.masks field) (faults.Mask line column) >>= λ n. if_light heavy line column n

-- the fault of a text for the fault of a who at this line and column
abbrev pub who_fault_at : ℕ → ℕ → WhoFault → AceTextFault
who_fault_at line column who.Length = faults.WhoLength line column
who_fault_at line column who.Utf8 = faults.WhoUtf8 line column
who_fault_at line column who.Control = faults.WhoControl line column
who_fault_at line column who.Special = faults.SpecialWho line column

-- the bytes of a who, or its fault at this line and column
abbrev pub who_judged : ℕ → ℕ → List ℕ → Option WhoFault → Result (List ℕ) AceTextFault
who_judged line column bytes None = Ok bytes
who_judged line column bytes (Some fault) = Err (who_fault_at line column fault)

-- the who of a field, or its fault at this line and column
abbrev pub read_who : ℕ → ℕ → List ℕ → Result (List ℕ) AceTextFault
read_who line column field = who_judged line column field (who_fault field)

-- ---- lines

-- the ACE of the fields of a line, after three of them are read
abbrev pub after_mask : ℕ → LineFields → Kind → ℕ → ℕ → Result Ace AceTextFault
after_mask line fields kind flags mask = read_who line (who_column fields) fields.who
    >>= λ name. Ok (record { kind = kind; flags = flags; mask = mask; who = name })

-- the ACE of the fields of a line, after two of them are read, and after ACEs of this weight
abbrev pub after_flags : Profile → ℕ → ℕ → LineFields → Kind → ℕ → Result Ace AceTextFault
after_flags p heavy line fields kind flags = read_mask_field p heavy line (mask_column fields) fields.mask
    >>= λ mask. after_mask line fields kind flags mask

-- the ACE of the fields of a line, after one of them is read
abbrev pub after_kind : Profile → ℕ → ℕ → LineFields → Kind → Result Ace AceTextFault
after_kind p heavy line fields kind = read_flags p line (flags_column fields) fields.flags
    >>= λ flags. after_flags p heavy line fields kind flags

-- the ACE of these fields
abbrev pub read_ace_fields : Profile → ℕ → ℕ → LineFields → Result Ace AceTextFault
read_ace_fields p heavy line fields =
    ok_or (kind_named fields.kind) (faults.AceType line 1) >>= λ kind. after_kind p heavy line fields kind

-- the ACE of a line, as the next ACE of a list of this many ACEs of this weight
unfoldable pub read_ace : Profile → ℕ → ℕ → ℕ → List ℕ → Result Ace AceTextFault
read_ace p count heavy line bytes = if nat_le most_aces count then Err (faults.TooManyAces line 1)
    else (ok_or (line_fields bytes) (faults.Fields line 1) >>= λ fields. read_ace_fields p heavy line fields)

-- the lines that should spell an ACE, among lines whose first has this number
abbrev pub ace_lines_from : ℕ → List (List ℕ) → List TextLine
ace_lines_from number lines =
    filter (λ line. not (is_skipped line.bytes)) (map text_line (enumerate_from number lines))

-- the ACEs of lines after a list, or the first fault
unfoldable pub read_lines : Profile → List Ace → List TextLine → Result (List Ace) AceTextFault
read_lines p list [] = Ok list
read_lines p list (line ∷ lines) = do
  a ← read_ace p (length list) (weight list) line.number line.bytes
  read_lines p (list ++ a ∷ []) lines

-- the fault of the code is the fault that is reported, unless memory ran out
abbrev pub FailsAs : {Y : Type 0} → AceTextFault → Result Y AceTextFault → Type 0
FailsAs faults.Memory read = Unit {0}
FailsAs fault read = read ≡ Err fault

-- the result of adding the line of this number to a list: whatever lines follow, the new list goes on with them as the
-- old list does with this line and them, or the fault is that of these lines
abbrev pub AddsLine : Profile → ℕ → List ℕ → List Ace → List Ace → Result (Unit {0}) AceTextFault → Type 0
AddsLine p number line old new result = (more : List (List ℕ)) → MatchResult result
    (λ _. read_lines p old (ace_lines_from number (line ∷ more)) ≡ read_lines p new (ace_lines_from (number + 1) more))
    (λ fault. FailsAs fault (read_lines p old (ace_lines_from number (line ∷ more))))
