-- The payload is "_" and twelve fields joined by "_".
use Rattle.std.proofs.Common.{ap, ◌∙◌, List, ◌++◌, append_assoc, ℤ}
use Rattle.primitives.specs.Text.{ascii}
use Rattle.receipt.specs.Amount.{amounts_text}
use Rattle.receipt.specs.Texts.{beginning}
use Rattle.receipt.specs.Settings.{name_text}
use Rattle.receipt.specs.Payload.{register_part, moment, closing, body, payload}
use Rattle.receipt.specs.PayloadWords.{joined, PayloadIsTwelveFields}

pub payload_is_twelve_fields : PayloadIsTwelveFields
unfolding payload body register_part moment closing amounts_text name_text beginning ascii joined
payload_is_twelve_fields s n f a b c d e q =
    ap (λ (zs : List ℤ). register_part s ++ (moment f.details.number f.details.date ++ amounts_text zs ++ closing s n f)) q ∙ simp append_assoc
