-- The text form of a list of ACEs, which is this library's own: one line per ACE, `KIND FLAGS MASK WHO`.
use Rattle.std.specs.Prelude.{◌≡◌, ◌==◌, ◌||◌, ℕ, List, [], ◌∷◌, ◌++◌, Bool, true, not, IsTrue, if◌then◌else◌, map}
use Rattle.std.specs.List.{enumerate_from, filter, flat_map, list_all}
use Rattle.std.specs.Str.{is_utf8}
use Rattle.std.specs.Str.Lossy.{replacement_bytes}
-- the byte between two fields of a line, and the byte with which a comment begins
pub use Rattle.acl_perm.specs.Ascii.{space, comment_mark}
use Rattle.acl_perm.specs.Lines.{lines_of, is_all_blank, line_feed}
use Rattle.acl_perm.specs.Principal.{Principal, owner, user, group, group_named, everyone}
use Rattle.acl_perm.specs.Profile.{Profile}
-- the word of a kind (RFC 8881, section 6.2.1.1)
pub use Rattle.acl_perm.specs.Names.{kind_name}
use Rattle.acl_nfs4.specs.Ace.{Ace}
use Rattle.acl_nfs4.specs.BitNames.{set_text}
use Rattle.acl_nfs4.specs.FlagNames.{flag_names, SpellsFlags}
use Rattle.acl_nfs4.specs.Rights.{rights, SpellsMask}
use Rattle.acl_nfs4.specs.Spelling.{IsAccepted}
use Rattle.acl_nfs4.specs.Who.{everyone_name, group_name, owner_name}

-- ---- lines

-- a line that spells no ACE: it begins with `#`, or all its bytes are blanks
abbrev pub is_skipped : List ℕ → Bool
is_skipped [] = true
is_skipped (b ∷ bytes) = (b == comment_mark) || is_all_blank (b ∷ bytes)

-- a line with its number; lines count from 1
pub record TextLine : Type 0 where
  pub number : ℕ
  pub bytes : List ℕ

-- a number and a line, as a line with its number
abbrev pub text_line : ℕ × List ℕ → TextLine
text_line numbered = record { number = numbered.0; bytes = numbered.1 }

-- the lines of a text that should spell an ACE, in order
abbrev pub ace_lines : List ℕ → List TextLine
ace_lines text = filter (λ line. not (is_skipped line.bytes)) (map text_line (enumerate_from 1 (lines_of text)))

-- ---- what a line spells

-- the fields of a line
pub record LineFields : Type 0 where
  pub kind : List ℕ
  pub flags : List ℕ
  pub mask : List ℕ
  pub who : List ℕ

-- bytes without a space
abbrev pub HasNoSpace : List ℕ → Type 0
HasNoSpace bytes = IsTrue (list_all (λ b. not (b == space)) bytes)

-- each of the first three fields extends to the next space, and the last one to the end of the line
pub record HasLineFields (line : List ℕ) (fields : LineFields) : Type 0 where
  pub order : line ≡ fields.kind ++ space ∷ (fields.flags ++ space ∷ (fields.mask ++ space ∷ fields.who))
  pub kind : HasNoSpace fields.kind
  pub flags : HasNoSpace fields.flags
  pub mask : HasNoSpace fields.mask

-- the fields of a line name the parts of an ACE
pub record SpellsAce (line : List ℕ) (a : Ace) : Type 0 where
  pub fields : LineFields
  pub has : HasLineFields line fields
  pub kind : fields.kind ≡ kind_name a.kind
  pub flags : SpellsFlags fields.flags a.flags
  pub mask : SpellsMask fields.mask a.mask
  pub who : fields.who ≡ a.who

-- lines spell ACEs, one ACE per line
abbrev pub SpellEach : List TextLine → List Ace → Type 0
SpellEach [] [] = Unit {0}
SpellEach [] (a ∷ list) = ⊥
SpellEach (line ∷ lines) [] = ⊥
SpellEach (line ∷ lines) (a ∷ list) = SpellsAce line.bytes a × SpellEach lines list

-- a text spells a list: its lines spell the ACEs, and the list is within the profile and the limits
pub record IsAceText (p : Profile) (list : List Ace) (text : List ℕ) : Type 0 where
  pub spelled : SpellEach (ace_lines text) list
  pub accepted : IsAccepted p list

-- ---- the text that is written

-- the line of an ACE: the names of its flags and rights in ascending order of the bits, one space between the fields,
-- and a line feed
unfoldable pub ace_line : Ace → List ℕ
ace_line a = kind_name a.kind ++ space ∷ (set_text flag_names a.flags ++ space ∷ (set_text rights a.mask
    ++ space ∷ (a.who ++ line_feed ∷ [])))

-- bytes as they are shown: the bytes themselves if they are UTF-8, and otherwise U+FFFD, the replacement character, in
-- place of all
abbrev pub as_text : List ℕ → List ℕ
as_text bytes = if is_utf8 bytes then bytes else replacement_bytes

-- an ACE as it is shown: its line without the line feed
abbrev pub ace_shown : Ace → List ℕ
ace_shown a = kind_name a.kind ++ space ∷ (set_text flag_names a.flags ++ space ∷ (set_text rights a.mask
    ++ space ∷ as_text a.who))

-- a principal as it is shown: the special identifier, or the name of the user or of the group
abbrev pub principal_shown : Principal → List ℕ
principal_shown owner = owner_name
principal_shown (user name) = as_text name
principal_shown group = group_name
principal_shown (group_named name) = as_text name
principal_shown everyone = everyone_name

-- the lines of the ACEs in order
abbrev pub ace_text : List Ace → List ℕ
ace_text list = flat_map ace_line list
