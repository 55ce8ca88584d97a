use Rattle.std.proofs.Common.{◌∙◌, ◌-◌, ◌≡◌, ◌+◌, length, arith}
use Rattle.acl_perm.proofs.PlaceLemmas.{first_place, last_place}
use Rattle.acl_perm.proofs.place.place_in_short.Goals as goal

pub returns-then-place-lt-SHORT : goal.returns-then-place-lt-SHORT
returns-then-place-lt-SHORT c =
    let same : c.place_in-place.result ≡ 0 + c.place_in-place.result = omega arith in
    same ∙ first_place c.args.wanted c.args.bytes.now 0 8 c.place_in-place.result
    (λ k low high. absurd (omega (arith, high))) (omega (arith, c.requires)) c.if-place-lt-SHORT.true
    c.place_in-place.ensures

pub returns : goal.returns
returns c = last_place c.args.wanted c.args.bytes.now (length c.args.bytes.now - 8) 8 8 c.place_in.result
    (λ k low high. c.place_in-place.ensures.before k low (let h = c.if-place-lt-SHORT.false in omega (arith, high)))
    (omega (arith, c.requires)) (omega (arith, c.requires)) c.place_in.ensures
