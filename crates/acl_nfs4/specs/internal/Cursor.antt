-- A cursor of this library's readers without the place of its bytes in memory. No public clause cites it.
use Rattle.std.specs.Prelude.{◌-◌, length}
use Rattle.acl_nfs4.specs.declared.xdr.cursor.Cursor.{Cursor}
use Rattle.acl_nfs4.specs.internal.Reading.{Place}

-- the place of a cursor
abbrev pub place : Cursor → Place
place c = record { at = c.len - length c.rest.now; rest = c.rest.now }
