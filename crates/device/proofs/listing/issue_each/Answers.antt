use Rattle.std.proofs.Common.{◌≡◌, ◌+◌, ◌*◌, ◌/◌, length, refl, arith}
use Rattle.primitives.proofs.Refusals.{numbers_are_not_zero}
use Rattle.device.proofs.Lists.{from_state, listing_start, piece_long, listing_stops, listing_more, listing_end}
use Rattle.device.proofs.listing.issue_each.Goals as goal

pub loop-count-init : goal.loop-count-init
loop-count-init c = listing_start _ _ _ c.requires

pub details_in-requires : goal.details_in-requires
details_in-requires c = piece_long c.loop-count.invariant c.loop-count-test.true

pub loop-count-preserved : goal.loop-count-preserved
loop-count-preserved c =
    let i = c.loop-count.count in
    let e : 72 * i + 72 ≡ 72 * (i + 1) = omega arith in
    rw e at (listing_more c.loop-count.invariant c.loop-count-test.true c.details_in.ensures c.in-Ok.ensures refl c.issue_failed.auto.buf)

pub returns-in-Err : goal.returns-in-Err
returns-in-Err c =
    from_state _ _ c.state_of-state.ensures
    (listing_stops c.loop-count.invariant c.loop-count-test.true c.details_in.ensures c.in-Err.ensures (numbers_are_not_zero _))

pub returns : goal.returns
returns c =
    let e : c.loop-count.count ≡ length c.args.list.now / 72 = omega arith in
    from_state _ _ c.state_of-state.ensures (rw e at (listing_end c.loop-count.invariant c.loop-count-test.false))
