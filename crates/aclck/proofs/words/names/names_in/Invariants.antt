use Rattle.std.proofs.Common.{◌≡◌, drop, map}
use Rattle.acl_posix.specs.Names.{empty_table}
use Rattle.aclck.specs.NameWords.{with_words}
use Rattle.aclck.proofs.words.names.names_in.Given as goal

abbrev pub invariant-loop-word : goal.invariant-loop-word
invariant-loop-word l = with_words empty_table (map (λ w. w.now) l.words)
    ≡ with_words l.names (map (λ w. w.now) (drop l.word-index l.words))
