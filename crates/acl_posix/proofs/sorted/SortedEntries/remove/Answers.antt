use Rattle.acl_posix.proofs.Common.{Entry, filter, List, not, rules, subst, sym, tag_of, ◌∙◌}
use Rattle.std.specs.FinMap as set
use Rattle.std.proofs.lemmas.Fn.{filter_same}
use Rattle.acl_posix.specs.contracts.tag.TagOrd.TheImpl.Laws as laws
use Rattle.acl_posix.specs.contracts.tag.TagPartialEq.TheImpl.{ghosts as tags}
use Rattle.acl_posix.proofs.sorted.Lists.{entries_of, IsListOf, without}
use Rattle.acl_posix.proofs.sorted.SortedEntries.remove.Goals as goal

-- what is left is the list of the set without the entry
left : (c : goal.After-retain) → IsListOf (set.remove c.args.self.now (tag_of c.args.tag)) c.retain.new.self.items
left c = subst (λ (es : List Entry). IsListOf (set.remove c.args.self.now (tag_of c.args.tag)) es)
    (sym (filter_same _ (λ (e : Entry). not (tags.eq e.tag c.args.tag)) _ (λ e b g called. search rules) _ _
    c.retain.ensures.filtered
    ∙ (λ i. filter (λ (e : Entry). not (laws.matches_eq-law e.tag c.args.tag i)) c.self.inside.items.items)))
    (without c.args.self.now c.self.inside.items.items (tag_of c.args.tag)
    (entries_of c.args.self.now c.self.inside.items.items c.self.view_is c.self.invariant))

pub invariant_of-self : goal.invariant_of-self
invariant_of-self c = (left c).sorted

pub returns : goal.returns
returns c = (left c).set
