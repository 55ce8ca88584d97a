use Rattle.acl_posix.proofs.Common.{[], append_assoc, entry_out, IsPut, List, subst, ℕ, ◌++◌, ◌∷◌}
use Rattle.acl_posix.proofs.writer.Putting.{put_both, put_whole}
use Rattle.acl_posix.proofs.entry_writer.put_entry.Goals as goal

-- the word, the qualifier and the permissions, with colons between them
fields_put : (word : List ℕ) {qualifier perms old one two new : List ℕ} {end middle second start : ℕ}
    → IsPut (58 ∷ perms) old one end middle → IsPut qualifier one two middle second
    → IsPut (word ++ 58 ∷ []) two new second start
    → IsPut (word ++ 58 ∷ (qualifier ++ 58 ∷ perms)) old new end start
fields_put word {qualifier} {perms} {old} {new} {end} {start} behind between front =
    subst (λ (bytes : List ℕ). IsPut bytes old new end start)
    (append_assoc word (58 ∷ []) (qualifier ++ 58 ∷ perms)) (put_both (put_both behind between) front)

pub returns-clause-text : goal.returns-clause-text
unfolding entry_out
returns-clause-text c = put_whole c.told-line
    (put_both (put_both c.put_ending-end.ensures.text
    (fields_put _ c.put_perm-end.ensures c.put_qualifier-end.ensures.text c.put_word-end.ensures.text))
    c.put_lead.ensures)
