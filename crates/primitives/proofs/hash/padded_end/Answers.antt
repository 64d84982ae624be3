-- `padded_end` meets its contract.
use Rattle.std.proofs.Common.{◌≡◌, ◌-◌, length, set, ap, arith, length-set, rules}
use Rattle.primitives.proofs.Padding.{pad_end}
use Rattle.primitives.proofs.hash.padded_end.Goals as goal

pub put_be-requires : goal.put_be-requires
put_be-requires c = let e : length c.rest-b.result ≡ 128 = search rules in simp length-set (omega arith)

pub returns : goal.returns
returns c =
    let a = c.args in
    let p = c.requires in
    let e : length c.rest-b.result ≡ 128 = search rules in
    pad_end a.m.now _ _ a.k a.n 128 (simp length-set e) p.0 p.2 p.3
    (ap (λ l. set l (length a.m.now - a.k) 0x80) c.rest-b.ensures) c.put_be.ensures
