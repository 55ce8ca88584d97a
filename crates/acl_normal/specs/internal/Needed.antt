-- Which rights are needed, computed from masks (this library's own).
use Rattle.std.specs.Prelude.{◌≡◌, ℕ, Bool, true, false, cond, not, ◌||◌, ◌&&◌, [], ◌∷◌}
use Rattle.acl_perm.specs.Principal.{everyone, is_user}
use Rattle.acl_perm.specs.declared.kind.Kind.{Kind}
use Rattle.acl_perm.specs.declared.kind.Kind.TheVariants.{Deny, Allow}
use Rattle.acl_perm.specs.Bits.{has_bit}
use Rattle.acl_eval.specs.Column.{Column}
use Rattle.acl_normal.specs.Keys.{principal_eq, ColumnKey, kind_eq}
use Rattle.acl_normal.specs.Places.{same_class}
use Rattle.acl_perm.specs.Kind.{other_kind}
use Rattle.acl_normal.specs.declared.reduce.needless.ByClass.{ByClass}
use Rattle.acl_normal.specs.declared.reduce.needless.Later.{Later}

-- the kind of a right by default, if a mask holds the rights that everyone is allowed
abbrev pub default_at : ℕ → ℕ → Kind
default_at allowed b = cond (has_bit allowed b) Allow Deny

-- a key is of a kind and a class
abbrev pub is_of_kind_and_class : Kind → Bool → ColumnKey → Bool
is_of_kind_and_class k users key = kind_eq key.1 k && same_class (is_user key.0) users

-- a key of this kind and class is in the column
abbrev pub some_of : Kind → Bool → Column → Bool
some_of k users [] = false
some_of k users (key ∷ c) = is_of_kind_and_class k users key || some_of k users c

-- the rights of a class: of users, or of others
abbrev pub class_mask : ByClass → Bool → ℕ
class_mask m true = m.users.bits
class_mask m false = m.others.bits

-- the rights that later keys of a kind and a class have
abbrev pub later_mask : Later → Kind → Bool → ℕ
later_mask l Deny users = class_mask l.deny users
later_mask l Allow users = class_mask l.allow users

-- no later key has a right
abbrev pub HasNoLater : Later → Type 0
HasNoLater l = (k : Kind) (users : Bool) (b : ℕ) → has_bit (later_mask l k users) b ≡ false

-- the rights of one more key were added
abbrev pub NotesLater : ColumnKey → ℕ → Later → Later → Type 0
NotesLater key mask old new = (k : Kind) (users : Bool) (b : ℕ) → has_bit (later_mask new k users) b
    ≡ (has_bit (later_mask old k users) b || (is_of_kind_and_class k users key && has_bit mask b))

-- a later key of the other kind and of a class that overlaps has the right
abbrev pub opposes : Later → ColumnKey → ℕ → Bool
opposes l k b =
    has_bit (later_mask l (other_kind k.1) false) b
    || (not (is_user k.0) && has_bit (later_mask l (other_kind k.1) true) b)

-- a key is needed, if d is the default; o says whether a later key opposes it
abbrev pub is_kept : Kind → ColumnKey → Bool → Bool
is_kept d k o = cond (principal_eq k.0 everyone) (kind_eq k.1 Allow) (not (kind_eq k.1 d) || o)
