-- `sha256`: the whole blocks, and then those that padding ends.
use Rattle.std.proofs.Common.{◌+◌, ◌/◌, ◌%◌, length, refl}
use Rattle.primitives.proofs.Padding.{digest_of}
use Rattle.primitives.proofs.hash.sha256.Goals as goal

pub returns : goal.returns
returns c =
    let m = c.args.m.now in
    digest_of m c.padded_end-b.result _ _ _ _ (length m / 64) ((length m % 64 + 72) / 64) refl refl c.padded_end-b.ensures
    c.initial.ensures c.blocks-2.ensures c.blocks-3.ensures c.digest.ensures
