use Rattle.std.proofs.Common.{◌≡◌, ◌≤◌, ◌-◌, ◌+◌, ◌∙◌, ℕ, length, drop, take, ap, arith, sym}
use Rattle.std.proofs.lemmas.List.{drop-drop, drop-take, length-take}
use Rattle.aclck.proofs.input.xdr.LastPull.take.Goals as goal

pub returns : goal.returns
returns c =
    let s = c.self.inside in
    let inside : c.args.count ≤ s.end - s.start =
    omega (arith, c.requires, ap length c.self.view_is, length-take (s.end - s.start) (drop s.start s.room)) in
    let n : s.end - s.start ≡ c.args.count + (s.end - (s.start + c.args.count)) = omega (arith, inside) in
    sym (ap (drop c.args.count) (sym c.self.view_is ∙ ap (λ (k : ℕ). take k (drop s.start s.room)) n)
    ∙ drop-take c.args.count (s.end - (s.start + c.args.count)) (drop s.start s.room)
    ∙ ap (take (s.end - (s.start + c.args.count))) (drop-drop c.args.count s.start s.room))
