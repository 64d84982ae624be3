-- The statements of specs/Laws.antt, each by the laws of the other files.
use Rattle.std.proofs.Common.{◌≡◌, ℕ, ◌+◌, ◌≤◌, Bool, true, false, cond, leb, List, length, get_or, take, drop, sym, refl, ap, ◌∙◌, arith, leb-true}
use Rattle.std.proofs.Math.Option.{some}
use Rattle.primitives.specs.Place.{overwrite, room, placed}
use Rattle.primitives.specs.BaseRule.{read_text}
use Rattle.primitives.specs.Base64.{decoding}
use Rattle.primitives.specs.Base32.{decoding32}
use Rattle.primitives.specs.Aes.{sub}
use Rattle.primitives.specs.Laws.{DecodingUndoesEncoding, DecodingIsExact, OneEncoding, EncodedLengthIs, RuleReadsBack, RuleIsExact, BasesAreGood, Base64FollowsRule, DecodingUndoesEncoding32, DecodingIsExact32, OneEncoding32, EncodedLengthIs32, NumberIsReadBack, NumberBytesAreKept, ComplementIsReadBack, ComplementIsKept, CounterIsReadBack, CounterBytesAreKept, ExclusiveOrTwice, InverseIsInverse, DoublingIsTimesTwo, TriplingIsTimesThree, SubstitutionFollowsRule, DoublingFollowsRule, WritingTouchesNoOther, WritingKeepsLength, WrittenIsThere}
use Rattle.primitives.proofs.Base64Laws.{decode_encode, encode_decode, encoding_injective, decoded_bytes}
use Rattle.primitives.proofs.Base64Lengths.{length_encoding}
use Rattle.primitives.proofs.Base64Rule.{base64_good, encoding_rule, decoding_rule}
use Rattle.primitives.proofs.BaseTexts.{read_back, read_bytes, text_only}
use Rattle.primitives.proofs.Base32Laws.{base32_good, decode_encode32, encode_decode32, decoded_bytes32, length_encoding32}
use Rattle.primitives.proofs.Numbers.{value_bytes_of, bytes_of_value}
use Rattle.primitives.proofs.Twos.{of_twos_lem, fits_of, twos_of, counter_back, fits_value, counter_again}
use Rattle.primitives.proofs.Xors.{xor_first_back}
use Rattle.primitives.proofs.Field.{inverse_is, times_two, times_three, xtime_shifts, xtime_reduces}
use Rattle.primitives.proofs.Over.{read_over, placed_room, length_placed}
use Rattle.primitives.proofs.Rewrites.{get_d_before, get_d_after}

-- ---- BASE64

pub decoding_undoes_encoding : DecodingUndoesEncoding
decoding_undoes_encoding = decode_encode

pub decoding_is_exact : DecodingIsExact
decoding_is_exact a text xs p =
    (λ e. (decoded_bytes a text xs e, encode_decode a text xs p e), λ q. ap (decoding a) q.1 ∙ decode_encode a xs q.0)

pub one_encoding : OneEncoding
one_encoding = encoding_injective

pub encoded_length_is : EncodedLengthIs
encoded_length_is = length_encoding

-- ---- the rule of BASE64 and BASE32

pub rule_reads_back : RuleReadsBack
rule_reads_back = read_back

pub rule_is_exact : RuleIsExact
rule_is_exact b g text xs p =
    (λ e. (read_bytes b g text xs e, text_only b g text xs e p), λ q. ap (read_text b) q.1 ∙ read_back b g xs q.0)

pub bases_are_good : BasesAreGood
bases_are_good = (base64_good, base32_good)

pub base64_follows_rule : Base64FollowsRule
base64_follows_rule a = (encoding_rule a, decoding_rule a)

-- ---- BASE32

pub decoding_undoes_encoding32 : DecodingUndoesEncoding32
decoding_undoes_encoding32 = decode_encode32

pub decoding_is_exact32 : DecodingIsExact32
decoding_is_exact32 text xs p =
    (λ e. (decoded_bytes32 text xs e, encode_decode32 text xs p e), λ q. ap decoding32 q.1 ∙ decode_encode32 xs q.0)

pub one_encoding32 : OneEncoding32
one_encoding32 xs ys p q e =
    let s : some xs ≡ some ys = sym (decode_encode32 xs p) ∙ ap decoding32 e ∙ decode_encode32 ys q in
    cc

pub encoded_length_is32 : EncodedLengthIs32
encoded_length_is32 = length_encoding32

-- ---- numbers and counters

pub number_is_read_back : NumberIsReadBack
number_is_read_back = value_bytes_of

pub number_bytes_are_kept : NumberBytesAreKept
number_bytes_are_kept = bytes_of_value

pub complement_is_read_back : ComplementIsReadBack
complement_is_read_back n z p f = of_twos_lem n p z f

pub complement_is_kept : ComplementIsKept
complement_is_kept n v p l = (fits_of n p v l, twos_of n p v l)

pub counter_is_read_back : CounterIsReadBack
counter_is_read_back = counter_back

pub counter_bytes_are_kept : CounterBytesAreKept
counter_bytes_are_kept n b w p l = (fits_value n w p l, counter_again n w p l)

pub exclusive_or_twice : ExclusiveOrTwice
exclusive_or_twice = xor_first_back

-- ---- the field

pub inverse_is_inverse : InverseIsInverse
inverse_is_inverse = inverse_is

pub doubling_is_times_two : DoublingIsTimesTwo
doubling_is_times_two = times_two

pub tripling_is_times_three : TriplingIsTimesThree
tripling_is_times_three = times_three

pub substitution_follows_rule : SubstitutionFollowsRule
unfolding sub
substitution_follows_rule table t = t.at

pub doubling_follows_rule : DoublingFollowsRule
doubling_follows_rule table t k = (λ h. t.at k (omega (arith, h)) ∙ xtime_shifts k h, λ h b. t.at k b ∙ xtime_reduces k h b)

-- ---- writing

-- by cases: with room and without
module _ (xs : List ℕ) (at : ℕ) (ys : List ℕ) where
  elsewhere : (i : ℕ) → (at + length ys ≤ length xs → get_or (overwrite xs at ys) i 0 ≡ get_or xs i 0) → get_or (placed xs at ys) i 0 ≡ get_or xs i 0
  unfolding placed room
  elsewhere i f = go (leb (at + length ys) (length xs)) refl
    where
      go : (t : Bool) → leb (at + length ys) (length xs) ≡ t → get_or (cond t (overwrite xs at ys) xs) i 0 ≡ get_or xs i 0
      go true e = f (leb-true (at + length ys) (length xs) e)
      go false e = refl

pub writing_touches_no_other : WritingTouchesNoOther
writing_touches_no_other xs at ys i =
    (λ h. elsewhere xs at ys i (λ r. get_d_before xs at ys i h (omega arith)), λ h. elsewhere xs at ys i (get_d_after xs at ys i h))

pub writing_keeps_length : WritingKeepsLength
writing_keeps_length = length_placed

pub written_is_there : WrittenIsThere
unfolding room
written_is_there xs at ys e =
    let h : at + length ys ≤ length xs = leb-true (at + length ys) (length xs) e in
    ap (λ (l : List ℕ). take (length ys) (drop at l)) (placed_room xs at ys h) ∙ read_over xs at ys h
