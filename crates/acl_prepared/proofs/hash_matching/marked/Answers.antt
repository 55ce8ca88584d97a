use Rattle.acl_prepared.proofs.NameHashes.{hashes_more}
use Rattle.acl_prepared.proofs.hash_matching.marked.Goals as goal

pub loop-name-preserved : goal.loop-name-preserved
loop-name-preserved c =
    hashes_more c.loop-name.marks c.mark.new.marks c.args.names.now c.loop-name.name-index c.name_hash.result _
    c.loop-name-test.true c.name_hash.ensures c.mark.ensures c.loop-name.invariant
