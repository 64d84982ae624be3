-- `put_letters` meets its contract: a group is as many bytes as eight letters hold.
use Rattle.std.proofs.Common.{◌∙◌, ap, drop, ◌-◌, ◌%◌, length, List, ℕ, arith, sym, subst}
use Rattle.primitives.specs.Bytes.{AllBytes}
use Rattle.primitives.proofs.ByteLists.{bytes_drop}
use Rattle.primitives.proofs.CodeSteps.{letters_cut}
use Rattle.primitives.proofs.Groups.{groups_start, groups_left, groups_room, groups_more, last_few, last_room, last_end}
use Rattle.primitives.proofs.coding.Coding.put_letters.Goals as goal

pub loop-group-init : goal.loop-group-init
loop-group-init g c =
    groups_start _ _ _ _ _ (ap (λ r. r.rest.now) c.into_iter-group-iterator.ensures.into_iter_gives ∙ c.chunks_exact-groups.ensures.rest)
    (ap (λ r. r.size) c.into_iter-group-iterator.ensures.into_iter_gives ∙ c.chunks_exact-groups.ensures.size ∙ c.BITS.ensures ∙ g.met.D.Digits.bits _) c.requires

pub put_group-end-requires : goal.put_group-end-requires
put_group-end-requires g c =
    let p = c.loop-group.invariant in
    let s = c.in-Some.ensures.steps in
    let q : List ℕ = c.in-Some.group.now in
    let r : List ℕ = c.next.new.self.rest.now in
    let bytes : AllBytes r = subst AllBytes (sym (groups_left p q r s.1.0 s.1.1)) (bytes_drop _ (record { at = λ i. (c.type_inv.s i).fits })) in
    let parts = letters_cut _ c.args.self.now.good (g.met.D.Digits.wide _) q r bytes (s.1.1 ∙ p.sized) in
    (omega (arith, s.1.1, p.sized), groups_room p q r s.1.0 s.1.1 parts)

pub loop-group-preserved : goal.loop-group-preserved
loop-group-preserved g c =
    let p = c.loop-group.invariant in
    let s = c.in-Some.ensures.steps in
    let q : List ℕ = c.in-Some.group.now in
    let r : List ℕ = c.next.new.self.rest.now in
    let bytes : AllBytes r = subst AllBytes (sym (groups_left p q r s.1.0 s.1.1)) (bytes_drop _ (record { at = λ i. (c.type_inv.s i).fits })) in
    let parts = letters_cut _ c.args.self.now.good (g.met.D.Digits.wide _) q r bytes (s.1.1 ∙ p.sized) in
    groups_more p q r s.1.0 s.1.1 parts s.0 c.put_group-end.ensures.0 c.put_group-end.ensures.1

pub put_group-requires : goal.put_group-requires
put_group-requires g c =
    let p = c.loop-group.invariant in
    let few = c.in-None.ensures.steps.1.0 in
    let e = c.remainder-rest.ensures ∙ c.chunks_exact-groups.ensures.remainder ∙ ap (λ k. drop (length c.args.s.now - length c.args.s.now % k) c.args.s.now) (c.BITS.ensures ∙ g.met.D.Digits.bits _) in
    (omega (arith, last_few p few e), last_room p few e)

pub returns : goal.returns
returns g c =
    let p = c.loop-group.invariant in
    let few = c.in-None.ensures.steps.1.0 in
    let e = c.remainder-rest.ensures ∙ c.chunks_exact-groups.ensures.remainder ∙ ap (λ k. drop (length c.args.s.now - length c.args.s.now % k) c.args.s.now) (c.BITS.ensures ∙ g.met.D.Digits.bits _) in
    last_end p few e c.put_group.ensures.0 c.put_group.ensures.1
