-- `put_bytes` meets its contract: a group is eight letters.
use Rattle.std.proofs.Common.{◌∙◌, ap, List, ℕ, arith, sym}
use Rattle.primitives.specs.BaseRule.{letters_known}
use Rattle.primitives.proofs.CodeSteps.{bytes_cut, known_parts, known_drop}
use Rattle.primitives.proofs.Groups.{groups_start, groups_room, groups_more, last_few, last_room, last_end}
use Rattle.primitives.proofs.coding.Coding.put_bytes.Goals as goal

pub loop-group-init : goal.loop-group-init
loop-group-init g c =
    groups_start _ _ _ _ _ (ap (λ r. r.rest.now) c.into_iter-group-iterator.ensures.into_iter_gives ∙ c.chunks_exact-groups.ensures.rest)
    (ap (λ r. r.size) c.into_iter-group-iterator.ensures.into_iter_gives ∙ c.chunks_exact-groups.ensures.size) c.requires.1

pub put_group_bytes-end-requires : goal.put_group_bytes-end-requires
put_group_bytes-end-requires g c =
    let b = g.D.Digits.base c.args.self.now.digits in
    let p = c.loop-group.invariant in
    let s = c.in-Some.ensures.steps in
    let q : List ℕ = c.in-Some.group.now in
    let r : List ℕ = c.next.new.self.rest.now in
    let known = known_parts b q r (ap (letters_known b) (sym s.1.0 ∙ p.is) ∙ known_drop b _ _ c.requires.0) in
    let parts = bytes_cut b c.args.self.now.good (g.met.D.Digits.wide _) q r known.1 (s.1.1 ∙ p.sized) in
    (omega (arith, s.1.1, p.sized), known.0, groups_room p q r s.1.0 s.1.1 parts)

pub loop-group-preserved : goal.loop-group-preserved
loop-group-preserved g c =
    let b = g.D.Digits.base c.args.self.now.digits in
    let p = c.loop-group.invariant in
    let s = c.in-Some.ensures.steps in
    let q : List ℕ = c.in-Some.group.now in
    let r : List ℕ = c.next.new.self.rest.now in
    let known = known_parts b q r (ap (letters_known b) (sym s.1.0 ∙ p.is) ∙ known_drop b _ _ c.requires.0) in
    let parts = bytes_cut b c.args.self.now.good (g.met.D.Digits.wide _) q r known.1 (s.1.1 ∙ p.sized) in
    groups_more p q r s.1.0 s.1.1 parts s.0 c.put_group_bytes-end.ensures.0 c.put_group_bytes-end.ensures.1

pub put_group_bytes-requires : goal.put_group_bytes-requires
put_group_bytes-requires g c =
    let b = g.D.Digits.base c.args.self.now.digits in
    let p = c.loop-group.invariant in
    let few = c.in-None.ensures.steps.1.0 in
    let e = c.remainder-rest.ensures ∙ c.chunks_exact-groups.ensures.remainder in
    (omega (arith, last_few p few e), ap (letters_known b) e ∙ known_drop b _ _ c.requires.0, last_room p few e)

pub returns : goal.returns
returns g c =
    let p = c.loop-group.invariant in
    let few = c.in-None.ensures.steps.1.0 in
    let e = c.remainder-rest.ensures ∙ c.chunks_exact-groups.ensures.remainder in
    last_end p few e c.put_group_bytes.ensures.0 c.put_group_bytes.ensures.1
