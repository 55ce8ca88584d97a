use Rattle.std.proofs.Common.{eqb, sym, ap, ◌∙◌, arith, w8}
use lib.Count.{count_trailing_zeros}
use lib.Lanes.{chunk}
use Rattle.std.proofs.lemmas.Simd.{length-chunk, bitmask_splat, leading_from_mask_l, trailing_mask_l}
use Rattle.acl_perm.proofs.PlaceLemmas.{counted}
use Rattle.acl_perm.proofs.place.place_in.Goals as goal

pub returns-then-hits-eq0 : goal.returns-then-hits-eq0
returns-then-hits-eq0 g c =
    let v = chunk c.args.at g.row.N c.args.bytes.now in
    let long = length-chunk c.args.at g.row.N c.args.bytes.now c.requires.inside in
    let hits = bitmask_splat w8 eqb v g.row.N c.args.wanted long c.requires.lanes in
    counted c.args.wanted c.args.bytes.now c.args.at g.row.N g.row.N c.requires.inside
    (sym (leading_from_mask_l (λ b. eqb b c.args.wanted) v (sym hits ∙ c.if-hits-eq0.true) ∙ long))

pub returns-else-hits-eq0 : goal.returns-else-hits-eq0
returns-else-hits-eq0 g c =
    let v = chunk c.args.at g.row.N c.args.bytes.now in
    let long = length-chunk c.args.at g.row.N c.args.bytes.now c.requires.inside in
    let hits = bitmask_splat w8 eqb v g.row.N c.args.wanted long c.requires.lanes in
    counted c.args.wanted c.args.bytes.now c.args.at g.row.N _ c.requires.inside
    (ap (count_trailing_zeros 64) hits ∙ trailing_mask_l (λ b. eqb b c.args.wanted) 64 v (omega arith) (omega arith))
