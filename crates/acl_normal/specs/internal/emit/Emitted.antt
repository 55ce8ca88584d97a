-- The ACEs of a normal form while it is made (this library's own).
use Rattle.std.specs.Prelude.{All, List, map}
use Rattle.acl_nfs4.specs.Ace.{Ace}
use Rattle.acl_nfs4.specs.Who.{principal_of}
use Rattle.acl_normal.specs.Keys.{plain_key}
use Rattle.acl_normal.specs.internal.emit.Ready.{emitted}
use Rattle.acl_normal.specs.internal.rows.Rows.{IsRowOf}
use Rattle.acl_normal.specs.declared.emit.emission.Emitted.{Emitted}

-- the ACE of a key and its rights
abbrev pub emitted_ace : Emitted → Ace
emitted_ace e = emitted (plain_key e.key) e.mask.bits

-- the row of each is that of the principal in the list
abbrev pub AreInRows : List Ace → List Emitted → Type 0
AreInRows xs es = All (λ e. IsRowOf e.row (principal_of (emitted_ace e)) xs) es

-- the list of the ACEs of these
abbrev pub emitted_aces : List Emitted → List Ace
emitted_aces = map emitted_ace
