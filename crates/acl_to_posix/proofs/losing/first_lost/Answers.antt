use Rattle.std.proofs.Common.{◌∙◌}
use Rattle.acl_to_posix.proofs.losses.LossSearches.{found_read, found_write}
use Rattle.acl_to_posix.proofs.losses.LossOfLists.{answer_kept, answer_lost, found_at, search_is}
use Rattle.acl_to_posix.proofs.losing.first_lost.Goals as goal

pub returns-in-Some-clause-found : goal.returns-in-Some-clause-found
returns-in-Some-clause-found c = λ list are.
    let columns = c.args.columns.now in
    let is = search_is list c.args.acl.now 0 0 4 columns.read.items columns.read.items c.new-read.result
    are.read are.read (c.new-read.ensures.first ∙ c.deref.ensures.value)
    (c.new-read.ensures.second ∙ c.deref-2.ensures.value) c.new-read.ensures.perm c.entries.ensures.valid in
    found_read list c.args.acl.now c.in-Some.lost
    (found_at list c.args.acl.now 0 0 4 c.new-read.result c.in_ok-unused.unused c.in-Some.lost c.in_ok-lost.field-0 _ is
    c.in-Some.is c.in_ok-lost.ensures)

pub returns-in-Some-2-clause-found : goal.returns-in-Some-2-clause-found
returns-in-Some-2-clause-found c = λ list are.
    let columns = c.args.columns.now in
    let is = search_is list c.args.acl.now 1 2 2 columns.write.items columns.append.items c.new-write.result
    are.write are.append (c.new-write.ensures.first ∙ c.deref-3.ensures.value)
    (c.new-write.ensures.second ∙ c.deref-4.ensures.value) c.new-write.ensures.perm c.entries.ensures.valid in
    found_write list c.args.acl.now c.in-Some-2.lost
    (found_at list c.args.acl.now 1 2 2 c.new-write.result c.in_ok-unused.unused c.in-Some-2.lost
    c.in_ok-lost-2.field-0 _ is c.in-Some-2.is c.in_ok-lost-2.ensures)

pub returns-clause-found : goal.returns-clause-found
returns-clause-found c = λ list are.
    let columns = c.args.columns.now in
    let is = search_is list c.args.acl.now 5 5 1 columns.execute.items columns.execute.items c.new-execute.result
    are.execute are.execute
    (c.new-execute.ensures.first ∙ c.deref-5.ensures.value) (c.new-execute.ensures.second ∙ c.deref-6.ensures.value)
    c.new-execute.ensures.perm c.entries.ensures.valid in
    answer_lost list c.args.acl.now c.new-execute.result c.in_ok-unused.unused _ is c.lost_of-3.result
    c.lost_of-3.ensures

pub returns-clause-none : goal.returns-clause-none
returns-clause-none c = λ list are.
    let E = c.args.acl.now in
    let columns = c.args.columns.now in
    let read = search_is list E 0 0 4 columns.read.items columns.read.items c.new-read.result
    are.read are.read (c.new-read.ensures.first ∙ c.deref.ensures.value)
    (c.new-read.ensures.second ∙ c.deref-2.ensures.value) c.new-read.ensures.perm c.entries.ensures.valid in
    let write = search_is list E 1 2 2 columns.write.items columns.append.items c.new-write.result
    are.write are.append (c.new-write.ensures.first ∙ c.deref-3.ensures.value)
    (c.new-write.ensures.second ∙ c.deref-4.ensures.value) c.new-write.ensures.perm c.entries.ensures.valid in
    let execute = search_is list E 5 5 1 columns.execute.items columns.execute.items c.new-execute.result
    are.execute are.execute
    (c.new-execute.ensures.first ∙ c.deref-5.ensures.value) (c.new-execute.ensures.second ∙ c.deref-6.ensures.value)
    c.new-execute.ensures.perm c.entries.ensures.valid in
    answer_kept list E columns c.in_ok-unused.unused c.new-read.result c.new-write.result c.new-execute.result
    (c.new-read.ensures.first ∙ c.deref.ensures.value) (c.new-read.ensures.second ∙ c.deref-2.ensures.value)
    (c.new-write.ensures.first ∙ c.deref-3.ensures.value) (c.new-write.ensures.second ∙ c.deref-4.ensures.value)
    (c.new-execute.ensures.first ∙ c.deref-5.ensures.value) (c.new-execute.ensures.second ∙ c.deref-6.ensures.value)
    read write execute c.in_ok-unused.ensures c.in_ok-lost.field-0 c.in_ok-lost.ensures c.in_default.not-Some
    c.in_ok-lost-2.field-0 c.in_ok-lost-2.ensures c.in_default-2.not-Some c.lost_of-3.result c.lost_of-3.ensures
