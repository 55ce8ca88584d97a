use Rattle.acl_posix.proofs.Common.{same_answers, sym, ◌∙◌}
use Rattle.acl_posix.proofs.laws.nothing_more_is_an_order.Goals as goal

pub returns : goal.returns
returns c = record {
  itself = λ a r perm object requester parties granted. granted;
  chain = λ a b c ab bc r perm object requester parties granted.
      bc r perm object requester parties (ab r perm object requester parties granted);
  both_ways = λ a b. (
    λ h r perm object requester parties. same_answers _ _ (h.0 r perm object requester parties)
        (h.1 r perm object requester parties),
    λ alike. (
      λ r perm object requester parties granted. sym (alike r perm object requester parties) ∙ granted,
      λ r perm object requester parties granted. alike r perm object requester parties ∙ granted,
    ),
  );
}
