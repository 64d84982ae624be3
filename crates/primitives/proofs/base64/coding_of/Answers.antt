-- `base64::coding_of` makes a good base of either alphabet.
use Rattle.std.proofs.Common.{refl, arith}
use Rattle.primitives.proofs.Base64Rule.{base64_good}
use Rattle.primitives.proofs.base64.coding_of.Goals as goal
use Rattle.primitives.proofs.base64.coding_of.Goals.{in-Standard, in-UrlSafe}

pub invariant_of-result : goal.invariant_of-result
invariant_of-result c =
    record {
      grouped = elim c.match-alphabet.branch [
        | in-Standard w ↦ rw (w.group-is, c.tables_of.ensures, w.in-Standard.is) refl
        | in-UrlSafe w ↦ rw (w.group-is, c.tables_of.ensures, w.in-UrlSafe.is) refl
      ];
      close = elim c.match-alphabet.branch [
        | in-Standard w ↦ rw w.group-is (omega arith)
        | in-UrlSafe w ↦ rw w.group-is (omega arith)
      ];
      good = base64_good _;
    }
