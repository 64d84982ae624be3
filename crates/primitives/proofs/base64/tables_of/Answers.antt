-- `base64::tables_of` meets its contract: each letter and each number is compared with the definition.
use Rattle.std.proofs.Common.{refl}
use Rattle.primitives.specs.declared.base64.Alphabet.TheVariants.{Standard, UrlSafe}
use Rattle.primitives.specs.Base64.{letter, digit}
use Rattle.primitives.proofs.Base64Letters.{letter_table, digit_table}
use Rattle.primitives.proofs.base64.tables_of.Goals as goal
use Rattle.primitives.proofs.base64.tables_of.Goals.{in-Standard, in-UrlSafe}

pub invariant_of-result : goal.invariant_of-result
unfolding letter digit
invariant_of-result c =
    elim c.match-alphabet.branch [
      | in-Standard w ↦ rw w.result-is (record { spelled = letter_table _ Standard _ w.in-Standard.is refl tt; read = digit_table _ Standard _ w.in-Standard.is refl tt })
      | in-UrlSafe w ↦ rw w.result-is (record { spelled = letter_table _ UrlSafe _ w.in-UrlSafe.is refl tt; read = digit_table _ UrlSafe _ w.in-UrlSafe.is refl tt })
    ]
