use Rattle.std.specs.Prelude.{◌≡◌, ◌+◌, ◌*◌, ◌%◌, fold, take}
use Rattle.acl_prepared.proofs.prepared_ace.short_hash.Given as goal

-- the hash of the bytes so far
abbrev pub invariant-loop-byte : goal.invariant-loop-byte
invariant-loop-byte l = l.hash ≡ fold (λ hash byte. (31 * hash + byte) % 256) 0 (take l.byte-index l.name)
