-- What is written of the byte at the place stands between what was written before and what is left.
use Rattle.std.proofs.Common.{◌≡◌, ℕ, suc, ◌<◌, ◌/◌, ◌%◌, false, List, [], ◌∷◌, ◌++◌, length, get_or, take, drop, take-append-drop, drop-cons, sym, ap, ◌∙◌, subst}
use Rattle.std.specs.Fmt.{digit_glyph}
use Rattle.std.proofs.lemmas.Grind.{flat_map-append}
use Rattle.printing.specs.Line.{AppendsPart, hex_pair, hexadecimal}
use Rattle.printing.proofs.Parts.{part_of_first, part_of_second, on_err}
use Rattle.printing.proofs.hexadecimal.Goals as goal

around : (i : ℕ) (bytes : List ℕ) → i < length bytes → hexadecimal (take i bytes) ++ (hex_pair (get_or bytes i 0) ++ hexadecimal (drop (suc i) bytes)) ≡ hexadecimal bytes
around i bytes within =
    sym (flat_map-append hex_pair (take i bytes) (get_or bytes i 0 ∷ drop (suc i) bytes))
    ∙ ap hexadecimal (ap (λ l. take i bytes ++ l) (sym (drop-cons bytes i 0 within)) ∙ take-append-drop i bytes)

pair : (a b byte : ℕ) → a ≡ digit_glyph false (byte / 16) → b ≡ digit_glyph false (byte % 16) → a ∷ b ∷ [] ≡ hex_pair byte
pair a b byte p q = cc

pub returns-in_err-text-clause-err : goal.returns-in_err-text-clause-err
returns-in_err-text-clause-err g c =
    let i = c.loop-byte.byte-index in
    let bytes = c.args.bytes.now in
    let old = g.W.Write.contents c.args.out.now in
    let before = g.W.Write.contents c.loop-byte.out in
    let new = g.W.Write.contents c.text.new.out in
    let two = subst (AppendsPart before new) (pair _ _ (get_or bytes i 0) c.hexadecimal_digit.ensures c.hexadecimal_digit-in-loop-byte.ensures) c.in_err-text.ensures.err in
    on_err _ (subst (AppendsPart old new) (around i bytes c.loop-byte-test.true) (part_of_second (hexadecimal (take i bytes)) c.loop-byte.invariant (part_of_first _ two)))
