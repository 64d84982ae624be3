-- What a read puts into the buffer stands after what was read before.
use Rattle.std.proofs.Common.{rules, ◌≡◌, ℕ, ◌+◌, ◌≤◌, List, ◌++◌, length, take, sym, ap, ◌∙◌, subst, le_refl, drop_at, length-take-le}
use Rattle.std.proofs.lemmas.Slice.{take-put_mid_below}
use Rattle.std.specs.Io.KnownBytes.{Consumes}
use Rattle.std.proofs.KnownBytes.{Consumes-trans}
use borrow.Rule.Slice.PartMut.{put_mid, post_of}
use lib.Seq.{take-add, take-append-le}
use Rattle.takeover.proofs.read_input.Goals as goal

-- the first bytes of the part follow those before it
take_more : (a k m : ℕ) (xs ys : List ℕ) → a ≤ length xs → m ≤ length ys → take a xs ++ take m ys ≡ take (a + m) (put_mid a k xs ys)
take_more a k m xs ys within fits =
    let after = post_of a k xs in
    let front = sym (take-put_mid_below a k xs ys a (le_refl a) within) in
    let part = sym (ap (take m) (drop_at (take a xs) (ys ++ after) a (length-take-le a xs within)) ∙ take-append-le m ys after fits) in
    ap (λ l. l ++ take m ys) front ∙ ap (λ l. take a (put_mid a k xs ys) ++ l) part ∙ sym (take-add a m (put_mid a k xs ys))

pub loop-n-preserved : goal.loop-n-preserved
loop-n-preserved g c =
    let more = take_more c.loop-n.n _ c.in-Ok.more c.loop-n.buf c.read.new.buf c.loop-n.invariant.0 c.in-Ok.ensures.bound.0 in
    (search rules, search rules, subst (Consumes _ _) more (Consumes-trans _ _ _ _ _ c.loop-n.invariant.2 c.in-Ok.ensures.bytes.0))
