-- What a clause sees of a `Counted` (this library's own).
use Rattle.std.specs.Prelude.{ℕ}
use Rattle.acl_perm.specs.declared.counted.Counted.{Counted}

-- the reader or writer
abbrev pub counted_inner : {T : Type 0} → Counted T → T
counted_inner c = c.inner

-- the number of calls that failed so far
abbrev pub counted_failures : {T : Type 0} → Counted T → ℕ
counted_failures c = c.failures
