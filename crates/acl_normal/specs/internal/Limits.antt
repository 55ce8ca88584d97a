-- The limits of the lists and of the indices that the code of this library works on (its own: RFC 8881 has no limits).
use Rattle.std.specs.Prelude.{ℕ, ◌*◌, ◌^◌}
use Rattle.acl_nfs4.specs.Spelling.{word_limit}

-- each list of ACEs is shorter than this: its bytes begin with its length, which is a number of 32 bits
abbrev pub list_limit : ℕ
list_limit = word_limit

-- each number of a key is below this: each row has two keys
abbrev pub key_limit : ℕ
key_limit = 2 * list_limit

-- each slice is shorter than this
abbrev pub slice_limit : ℕ
slice_limit = 2 ^ 63

-- each index is below this
abbrev pub index_limit : ℕ
index_limit = 2 ^ 64

-- a number of bytes below this can be counted on by the length of one more spelling
abbrev pub written_limit : ℕ
written_limit = 2 ^ 62
