-- `decode` meets its contract: it writes nothing before the text is accepted and has room.
use Rattle.std.proofs.Common.{◌∙◌, ◌≤◌, ap, arith, not, replicate, sym}
use Rattle.primitives.proofs.Questions.{at_most, above, yes, no}
use Rattle.primitives.proofs.CodeSteps.{bytes_parts, decode_refused, decode_known, decode_full, decode_fits, decode_room, text_overfilled}
use Rattle.std.proofs.lemmas.Bool.Decides.{Decides-eqb}
use Rattle.std.proofs.lemmas.Slice.Eq.{ends_is}
use Rattle.primitives.specs.BaseRule.{fill}
use Rattle.primitives.proofs.coding.Coding.decode.Goals as goal

pub returns-then-ends_with : goal.returns-then-ends_with
returns-then-ends_with g c =
    let ended = (ends_is Decides-eqb c.args.s.now (replicate 8 fill) c.ends_with.result c.ends_with.ensures.value).0 c.if-ends_with.true in
    let close : (g.D.Digits.base c.args.self.now.digits).group ≤ 8 = omega (arith, c.args.self.now.grouped, c.args.self.now.close) in
    decode_refused _ _ _ _ (text_overfilled _ c.args.self.now.good.grouped close c.args.s.now _ ended)

pub returns-then-not-is_text : goal.returns-then-not-is_text
returns-then-not-is_text g c = decode_refused _ _ _ _ (sym (no c.is_text.ensures (ap not c.if-not-is_text.true)))

pub returns-then-not-has_room : goal.returns-then-not-has_room
returns-then-not-has_room g c =
    let long = bytes_parts _ _ (g.met.D.Digits.wide _) c.args.self.now.good.most (c.BITS.ensures ∙ g.met.D.Digits.bits _) (c.BITS-2.ensures ∙ g.met.D.Digits.bits _) in
    decode_full _ _ _ _ c.count_letters-n.ensures.0 c.count_letters-n.ensures.1 (sym (yes c.is_text.ensures (ap not c.if-not-is_text.false))) long (above _ _ c.has_room.ensures (ap not c.if-not-has_room.true))

pub put_bytes-requires : goal.put_bytes-requires
put_bytes-requires g c =
    let text = sym (yes c.is_text.ensures (ap not c.if-not-is_text.false)) in
    let long = bytes_parts _ _ (g.met.D.Digits.wide _) c.args.self.now.good.most (c.BITS.ensures ∙ g.met.D.Digits.bits _) (c.BITS-2.ensures ∙ g.met.D.Digits.bits _) in
    (decode_known _ _ c.args.out.now c.args.at c.count_letters-n.ensures.0 c.count_letters-n.ensures.1 text, decode_fits _ _ c.args.out.now c.args.at c.count_letters-n.ensures.0 c.count_letters-n.ensures.1 text long (at_most _ _ c.has_room.ensures (ap not c.if-not-has_room.false)))

pub returns : goal.returns
returns g c =
    let long = bytes_parts _ _ (g.met.D.Digits.wide _) c.args.self.now.good.most (c.BITS.ensures ∙ g.met.D.Digits.bits _) (c.BITS-2.ensures ∙ g.met.D.Digits.bits _) in
    decode_room _ _ _ _ c.count_letters-n.ensures.0 c.count_letters-n.ensures.1 (sym (yes c.is_text.ensures (ap not c.if-not-is_text.false))) long
    (at_most _ _ c.has_room.ensures (ap not c.if-not-has_room.false)) c.put_bytes.ensures.0 c.put_bytes.ensures.1
