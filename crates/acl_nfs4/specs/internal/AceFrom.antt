-- What the reader of one ACE at an offset computes: this library's own. No public clause cites it.
use Rattle.std.specs.Prelude.{◌≡◌, ◌≢◌, ℕ, List, length, drop, Result, Ok, Err, Option, None, Some}
use Rattle.acl_perm.specs.Profile.{Profile}
use Rattle.acl_nfs4.specs.Ace.{ace}
use Rattle.acl_nfs4.specs.internal.Reading.{Place, ace_at}
use Rattle.acl_nfs4.specs.declared.xdr.ace_at.AceAt.{AceAt}
use Rattle.acl_nfs4.specs.declared.xdr.fault.Fault.{Fault}

-- the place of an offset
abbrev pub place_from : ℕ → List ℕ → Place
place_from offset bytes = record { at = offset; rest = drop offset bytes }

-- at the end no ACE is read, and elsewhere the ACE at the place
abbrev pub ReadsFrom : Profile → List ℕ → ℕ → Result (Option AceAt) Fault → Type 0
ReadsFrom p bytes offset (Ok None) = offset ≡ length bytes
ReadsFrom p bytes offset (Ok (Some x)) = (offset ≢ length bytes)
    × ((rest : List ℕ) × (ace_at p 0 (place_from offset bytes) ≡ Ok (ace x.ace, record { at = x.end; rest = rest })))
ReadsFrom p bytes offset (Err f) = (offset ≢ length bytes) × (ace_at p 0 (place_from offset bytes) ≡ Err f)
