-- Who has a right, in words (this library's own, over RFC 8881, section 6.2.1): the rows of the table of the right from
-- the last to the first. Of the lines that are about a requester, the last one decides.
use Rattle.std.specs.Prelude.{◌≡◌, [], ◌∷◌, ◌++◌, ℕ, Bool, true, false, if◌then◌else◌, codes, List, reverse}
use Rattle.std.specs.Str.{bytes_eq}
use Rattle.acl_perm.specs.Lines.{line_feed}
use Rattle.acl_perm.specs.declared.kind.Kind.{Kind}
use Rattle.acl_perm.specs.declared.kind.Kind.TheVariants.{Allow, Deny}
use Rattle.acl_nfs4.specs.Ace.{Ace}
use Rattle.acl_nfs4.specs.Who.{everyone_name, group_name, owner_name}
use Rattle.acl_normal.specs.Keys.{kind_eq}
use Rattle.acl_normal.specs.Programs.{AreTableOf}
use Rattle.acl_normal.specs.Tables.{TableRow}

-- whom a who names, which may be the name of a group
abbrev pub who_words : Bool → List ℕ → List ℕ
who_words true who = codes "group " ++ who
who_words false who =
    if bytes_eq who owner_name then codes "the owner"
    else (if bytes_eq who group_name then codes "the owning group"
    else (if bytes_eq who everyone_name then codes "everybody" else codes "user " ++ who))

-- the word before whom a row denies
abbrev pub not_word : Kind → List ℕ
not_word Allow = []
not_word Deny = codes "not "

-- the word between a row and the next row
abbrev pub link_word : Kind → Kind → List ℕ
link_word before kind = if kind_eq before kind then codes "and " else codes "but "

-- what a row says, and a line feed
abbrev pub row_words : TableRow → List ℕ
row_words r = not_word r.kind ++ (who_words r.group r.who ++ line_feed ∷ [])

-- the lines of the rows after a row of a kind
abbrev pub later_words : Kind → List TableRow → List ℕ
later_words before [] = []
later_words before (r ∷ rows) = link_word before r.kind ++ (row_words r ++ later_words r.kind rows)

-- the lines of the rows; without a row nobody has the right
abbrev pub rows_words : List TableRow → List ℕ
rows_words [] = codes "nobody" ++ line_feed ∷ []
rows_words (r ∷ rows) = row_words r ++ later_words r.kind rows

-- the text says who has the right, by the rows of its table from the last to the first
abbrev pub AreHolders : ℕ → List Ace → List ℕ → Type 0
AreHolders right list text =
    (rows : List TableRow) × AreTableOf right list rows × (text ≡ rows_words (reverse rows))
