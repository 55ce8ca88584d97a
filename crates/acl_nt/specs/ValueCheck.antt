-- The access check of the whole DACL of a value (MS-DTYP, section 2.5.3.2), which may have ACEs of
-- the types that a part leaves out. Which rights an ALLOW with object types or a condition grants,
-- or whether it grants any, depends on more than the value has. So the rights that the ACE at each
-- place grants are given here. The types of a SACL neither grant nor deny. A value with an ACE of
-- any other type, as a DENY with object types or a condition, has no part, and is not meant here.
use Rattle.std.specs.Prelude.{ℕ, Bool, true, ◌&&◌, ◌||◌, not, ◌+◌, ◌==◌, if◌then◌else◌, List, [], ◌∷◌, map, Option, bit_and}
use Rattle.acl_eval.specs.Scan.{without}
use Rattle.acl_nt.specs.AceAt.{nt_ace_at}
use Rattle.acl_nt.specs.AclAt.{ace_places}
use Rattle.acl_nt.specs.Descriptor.{NtAce}
use Rattle.acl_nt.specs.DescriptorAt.{named_sid, names_none}
use Rattle.acl_nt.specs.Ntacl.{base_of}
use Rattle.acl_nt.specs.NtCheck.{before_aces, is_for_object, is_for_token}
use Rattle.acl_nt.specs.Numbers.{byte_at, dword_at}
use Rattle.acl_nt.specs.Sid.{Sid}
use Rattle.acl_nt.specs.declared.form.NtForm.{NtForm}

-- an ACE of any type: its place, its type, and its flags, its rights and whom it names; the kind
-- has no meaning
pub record TypedAce : Type 0 where
  pub offset : ℕ
  pub type_number : ℕ
  pub ace : NtAce

-- the ACE at a place
abbrev pub typed_ace_at : List ℕ → ℕ → TypedAce
typed_ace_at bytes at =
    record { offset = at; type_number = byte_at bytes at; ace = nt_ace_at bytes at }

-- an ALLOW with object types, 5, or with a condition, 9, or with both, 11 (section 2.4.4.1)
abbrev pub is_other_allow : ℕ → Bool
is_other_allow t = (t == 5) || ((t == 9) || (t == 11))

-- the rights that an ACE grants to whom it is for: its own if it is an ALLOW, and the given ones if
-- it is an ALLOW with object types or a condition
abbrev pub granted_by : (ℕ → ℕ) → TypedAce → ℕ
granted_by given a = if a.type_number == 0 then a.ace.mask
    else (if is_other_allow a.type_number then given a.offset else 0)

-- the rights that an ACE denies to whom it is for: its own if it is a DENY
abbrev pub denied_by : TypedAce → ℕ
denied_by a = if a.type_number == 1 then a.ace.mask else 0

-- The ACEs in order, and the rights that remain to be granted: an ACE for the object and for the
-- requester ends the check if it denies a remaining right, and takes out those that it grants.
-- Access is granted if no right remains.
abbrev pub all_types_grant : (Sid → Bool) → (ℕ → ℕ) → List TypedAce → ℕ → Bool
all_types_grant named given [] left = left == 0
all_types_grant named given (a ∷ aces) left =
    if not (is_for_object a.ace && named a.ace.sid) then all_types_grant named given aces left
    else (bit_and left (denied_by a) == 0
    && all_types_grant named given aces (without left (granted_by given a)))

-- The check of the ACEs of a value that has a part. An ACE for OWNER RIGHTS takes READ_CONTROL and WRITE_DAC from the
-- owner, whatever its type is.
abbrev pub typed_aces_grant : Option Sid → List Sid → (ℕ → ℕ) → List TypedAce → ℕ → Bool
typed_aces_grant owner token given aces request =
    all_types_grant (is_for_token owner token) given aces
    (before_aces owner token (map (λ a. a.ace) aces) request)

-- the descriptor at a place of a value grants a request to a requester with these SIDs; a NULL DACL
-- grants everything
abbrev pub check_at : List ℕ → ℕ → List Sid → (ℕ → ℕ) → ℕ → Bool
check_at bytes base token given request = if names_none (dword_at bytes (base + 16)) then true
    else typed_aces_grant (named_sid bytes (dword_at bytes (base + 4))) token given
    (map (typed_ace_at bytes) (ace_places bytes (dword_at bytes (base + 16)))) request

-- the value of a form grants a request to a requester with these SIDs
abbrev pub value_check : NtForm → List ℕ → List Sid → (ℕ → ℕ) → ℕ → Bool
value_check form bytes token given request = check_at bytes (base_of form bytes) token given request
