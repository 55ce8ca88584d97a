use Rattle.std.proofs.Common.{◌≡◌, ◌++◌, take}
use Rattle.std.specs.List.{flat_map}
use Rattle.acl_nt.specs.SidName.{word_name}
use Rattle.acl_nt.proofs.sid_name.push_words.Given as goal

-- the names of the sub-authorities so far are added, and those that are left follow
abbrev pub invariant-loop-word : goal.invariant-loop-word
invariant-loop-word l = l.name.items ≡ l.fn.name.items ++ flat_map word_name (take l.word-index l.words)
