use Rattle.std.proofs.Common.{◌≡◌, ◌*◌, sym, refl, ◌∙◌, arith, take_all, rules}
use Rattle.primitives.proofs.Digest.{words_put}
use Rattle.primitives.specs.Sha256.{word_bytes, digest}
use Rattle.primitives.proofs.hash.digest.Goals as goal

pub loop-i-init : goal.loop-i-init
unfolding word_bytes
loop-i-init c = (refl, refl)

pub loop-i-preserved : goal.loop-i-preserved
loop-i-preserved c =
    let l = c.loop-i in
    (search rules, words_put _ l.d _ l.i (search rules) (omega arith) l.invariant.1 (rw (c.from.ensures, c.words_of.ensures) at c.put_be.ensures))

pub returns : goal.returns
unfolding digest
returns c =
    let l = c.loop-i in
    let e : l.i ≡ 8 = omega arith in
    sym (take_all (4 * l.i) l.d (omega arith)) ∙ l.invariant.1 ∙ rw e refl
