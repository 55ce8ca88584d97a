use Rattle.acl_normal.proofs.Common.{[], ace, ap, arith, column, has_bit, is_free, no_bit, option_map, subst, sym, ◌++◌, ◌∙◌, ◌∷◌}
use Rattle.acl_normal.specs.internal.Best.{IsLeastCandidate}
use Rattle.acl_normal.proofs.plain.Candidates.{best_past, best_with}
use Rattle.acl_normal.proofs.plain.emission.better.Goals as goal

pub returns-then-bits-eq0 : goal.returns-then-bits-eq0
returns-then-bits-eq0 c = λ left here key free seen h.
    best_past left seen here (option_map ace c.args.best) h
    (λ bit. sym (free bit)
    ∙ ap (λ v. has_bit v bit) (omega (arith, c.bits.ensures.value, c.if-bits-eq0.true)) ∙ no_bit bit)

pub returns : goal.returns
returns c = λ left here key free seen h.
    subst (IsLeastCandidate left (seen ++ here ∷ [])) (sym c.lesser.ensures)
    (best_with left seen here (ace c.candidate.result) (option_map ace c.args.best) h (record {
      flags = c.candidate.ensures.flags;
      mask = λ none. c.if-bits-eq0.false
          (c.bits.ensures.value ∙ ap (λ m. m.bits) (sym c.candidate.ensures.mask) ∙ none);
      all = λ bit. ap (λ m. has_bit m.bits bit) c.candidate.ensures.mask ∙ free bit
          ∙ ap (is_free (column left bit)) (key ∙ sym c.candidate.ensures.key);
    }) (c.candidate.ensures.key ∙ sym key))
