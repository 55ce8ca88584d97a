use Rattle.std.proofs.Common.{◌+◌, ◌/◌, ◌∙◌, ap, length, List, map, rules, sym, ℕ}
use Rattle.std.proofs.lemmas.List.{take_rest}
use Rattle.std.specs.Borrow.{Bor}
use Rattle.std.specs.List.{list_any}
use Rattle.std.specs.Str.{bytes_eq}
use Rattle.acl_eval.specs.GroupSearch.{found_groups}
use Rattle.acl_eval.proofs.GroupSearches.{found_now, found_nothing}
use Rattle.acl_eval.proofs.groups.is_found_by_halves.Goals as goal

pub loop-name-preserved-in-Less : goal.loop-name-preserved-in-Less
loop-name-preserved-in-Less c = record {
  shorter = search rules;
  same = sym (found_now c.args.name.now c.loop-name.rest.now _ _ (sym c.is_empty.ensures ∙ c.loop-name-test.true)
      (sym c.in-Less.is ∙ c.cmp.ensures)) ∙ c.loop-name.invariant.same;
}

pub returns-in-Equal : goal.returns-in-Equal
returns-in-Equal c =
    sym (found_now c.args.name.now c.loop-name.rest.now _ _ (sym c.is_empty.ensures ∙ c.loop-name-test.true)
    (sym c.in-Equal.is ∙ c.cmp.ensures)) ∙ c.loop-name.invariant.same

pub loop-name-preserved : goal.loop-name-preserved
loop-name-preserved c =
    let rest = c.loop-name.rest.now in record {
      shorter = search rules;
      same = ap (λ (names : List (Bor (List ℕ))). list_any (bytes_eq c.args.name.now)
          (found_groups (map (λ g. g.now) names))) (take_rest rest (length rest / 2 + 1))
          ∙ sym (found_now c.args.name.now rest _ _ (sym c.is_empty.ensures ∙ c.loop-name-test.true)
          (sym c.in-Greater.is ∙ c.cmp.ensures)) ∙ c.loop-name.invariant.same;
    }

pub returns : goal.returns
returns c = sym (found_nothing c.args.name.now c.loop-name.rest.now (sym c.is_empty.ensures ∙ c.loop-name-test.false))
    ∙ c.loop-name.invariant.same
