-- What the calls from C ask, in the words of include/ditgrux.h and in its order, apart from the tests that code follows: a call returns the number of its
-- first "no", both ways. The proofs are in proofs/AskingInC.antt.
use Rattle.std.specs.Prelude.{ℕ, ◌+◌, ◌≤◌, ◌<◌, ◌≡◌, Bool, true, List, [], ◌∷◌, ◌⊎◌, ℤ, pos, ◌+ℤ◌, length, get_or, replicate}
use Rattle.primitives.specs.Answers.{Answer}
use Rattle.primitives.specs.Bytes.{AllBytes}
use Rattle.primitives.specs.Place.{overwrite, placed}
use Rattle.primitives.specs.Counter.{counter_fits}
use Rattle.primitives.specs.Sha256.{sha256}
use Rattle.primitives.specs.Base32.{encoding32}
use Rattle.primitives.specs.Base64.{encoding}
use Rattle.primitives.specs.declared.base64.Alphabet.TheVariants.{Standard, UrlSafe}
use Rattle.primitives.specs.Questions.{Row, asked_all, question, GivesFirstNo}
use Rattle.receipt.specs.Settings.{name_of}
use Rattle.receipt.specs.SettingsWords.{IdByte, SerialByte, GoodCsp, GoodId, GoodSerial, GoodWidth, NoDigitIfShared}
use Rattle.receipt.specs.DetailsWords.{GoodDate, GoodAmounts}
use Rattle.receipt.specs.Exact.{Spelled}
use Rattle.receipt.specs.Code.{id_place}
use Rattle.receipt.specs.CodeLaws.{IdPart, HasId}
use Rattle.receipt.specs.declared.datetime.DateTime.{DateTime}
use Rattle.journal.specs.State.{used}
use Rattle.journal.specs.Certificates.{OneOf}
use Rattle.journal.specs.Issuing.{text_of}
use Rattle.journal.specs.Preparing.{prepared_text}
use Rattle.journal.specs.Checking.{refused, check_head, take_over}
use Rattle.journal.specs.Parts.{handed_back, check_steps}
use Rattle.journal.specs.Asked.{SoundState, SoundIn, SoundFor}
use Rattle.journal.specs.declared.state.State.{State}
use Rattle.device.specs.Layout.{settings_of, width_of, state_of}
use Rattle.device.specs.Calls.{settings_returned, serial_answer, serial_text_in, Slices, opened_number, IssueCall, details_given, prepared_from_c, issued_number, changed_number, take_over_answer, head_answer, steps_answer}
use Rattle.device.specs.ReadBack.{read_back}
use Rattle.device.specs.Texts.{fields_number, fields_length, hash_number, hash_buffer, encode_answer, encode_buffer, decode_answer, decode_buffer, encode_answer32, encode_buffer32, decode_answer32, decode_buffer32}
use Rattle.device.specs.Inspection.{export_answer, export_output, read_answer, read_output}
use Rattle.exports.specs.Writing.{exported, export_buffer}
use Rattle.exports.specs.Reading.{not_read, restored, restored_buffer}

-- ---- ditgrux_settings

-- 1: "CSP is not two letters A-Z and a digit"
pub record CspBytes (csp : List ℕ) : Type 0 where
  pub three : length csp ≡ 3
  pub good : GoodCsp csp

-- 2: "register ID is not 1 to 32 bytes, each from 33 to 126 and none of them '_'"
pub record IdBytes (id : List ℕ) : Type 0 where
  pub some : 1 ≤ length id
  pub most : length id ≤ 32
  pub letters : (i : ℕ) → i < length id → IdByte (get_or id i 0)

-- 3: "serial is not 1 to 32 characters of 0-9 a-f"
pub record SerialBytes (serial : List ℕ) : Type 0 where
  pub some : 1 ≤ length serial
  pub most : length serial ≤ 32
  pub letters : (i : ℕ) → i < length serial → SerialByte (get_or serial i 0)

-- 4: "the width, or the key is not 32 bytes long"
pub record WidthWithKey (n : ℕ) (key : List ℕ) : Type 0 where
  pub long : length key ≡ 32
  pub width : GoodWidth n

-- 23: "settings_length is not 123, be it less or more"
abbrev pub settings_row_in_c : List ℕ → List ℕ → List ℕ → ℕ → List ℕ → List ℕ → Row
settings_row_in_c csp id serial n key out =
    question (CspBytes csp) 1
    (question (IdBytes id) 2 (question (SerialBytes serial) 3 (question (WidthWithKey n key) 4 (question (length out ≡ 123) 23 asked_all))))

abbrev pub SettingsGiveFirstNoInC : Type 0
SettingsGiveFirstNoInC =
    (csp id serial : List ℕ) (n : ℕ) (key out : List ℕ) → GivesFirstNo (settings_returned csp id serial n key out) (settings_row_in_c csp id serial n key out)

-- ---- ditgrux_open, and ditgrux_open_shared for a shared key

-- 6: "state_length is not 447", 1: "also if settings_length is not 123", 2, 32 "asked between DITGRUX_BAD_ID and DITGRUX_BAD_SERIAL", 3, 4, 5: "journal_size is
-- below 19 + ID + serial"
abbrev pub open_row_in_c : List ℕ → Bool → Slices → Row
open_row_in_c settings shared g =
    question (length g.state ≡ 447) 6
    (question ((length settings ≡ 123) × GoodCsp (settings_of settings).csp) 1
    (question (GoodId (settings_of settings).id) 2
    (question (NoDigitIfShared shared (settings_of settings).id) 32
    (question (GoodSerial (settings_of settings).serial) 3
    (question (GoodWidth (width_of settings)) 4
    (question (19 + (settings_of settings).id.len + (settings_of settings).serial.len ≤ length g.journal) 5 asked_all))))))

abbrev pub OpenGivesFirstNoInC : Type 0
OpenGivesFirstNoInC =
    (settings : List ℕ) (shared : Bool) (g : Slices) → AllBytes settings → GivesFirstNo (opened_number settings shared g) (open_row_in_c settings shared g)

-- ---- ditgrux_issue and ditgrux_prepare

abbrev pub date_given : IssueCall → DateTime
date_given c = record { year = c.year; month = c.month; day = c.day; hour = c.hour; minute = c.minute; second = c.second }

abbrev pub amounts_given : IssueCall → List ℤ
amounts_given c = c.standard ∷ c.reduced1 ∷ c.reduced2 ∷ c.zero ∷ c.special ∷ []

-- 7: "receipt number is not above the last one (0 never is); ALSO: the kind is not 0, 1 or 2"
pub record NumberAndKind (st : State) (c : IssueCall) : Type 0 where
  pub kind : c.kind ≤ 2
  pub above : st.last < c.number

-- 10: "the first receipt is not a standard one with five zeros"
pub record StandardWithZeros (c : IssueCall) : Type 0 where
  pub standard : c.kind ≡ 0
  pub zeros : amounts_given c ≡ replicate 5 (pos 0)

-- 11: "the turnover counter would not fit its width", where kinds 0 and 1 add their amounts and kind 2 "adds nothing"
pub record CounterFitsAfter (st : State) (c : IssueCall) : Type 0 where
  pub adding : (c.kind ≡ 2 → ⊥) → counter_fits st.width (st.counter +ℤ (c.standard +ℤ c.reduced1 +ℤ c.reduced2 +ℤ c.zero +ℤ c.special)) ≡ true
  pub training : c.kind ≡ 2 → counter_fits st.width st.counter ≡ true

-- 7, 8: "no date of the years 2000 to 2099, or no time from 0:00:00 to 23:59:59", 9: "an amount is not within -99,999,999,999 to 99,999,999,999 cents", 10, 11
abbrev pub details_row_in_c : State → IssueCall → Row → Row
details_row_in_c st c rest =
    question (NumberAndKind st c) 7
    (question (GoodDate (date_given c)) 8
    (question (GoodAmounts (amounts_given c)) 9
    (question (st.issued ≡ 0 → StandardWithZeros c) 10 (question (CounterFitsAfter st c) 11 rest))))

-- 6: "state is not 447 bytes long, holds bad settings, or contradicts itself or the buffer's size"
pub record SoundBytes (state : List ℕ) (room : ℕ) : Type 0 where
  pub long : length state ≡ 447
  pub sound : SoundIn (state_of state) room

-- 12: "signature is neither 64 bytes long nor empty", 13: "the entry does not fit after the journal"
abbrev pub issue_row_in_c : Slices → IssueCall → Row
issue_row_in_c g c =
    question (SoundBytes g.state (length g.journal)) 6
    (details_row_in_c (state_of g.state) c
    (question ((length c.signature ≡ 64) ⊎ (length c.signature ≡ 0)) 12
    (question ((state_of g.state).length + (2 + length (text_of (state_of g.state) (details_given c) c.signature)) ≤ length g.journal) 13 asked_all)))

abbrev pub IssueGivesFirstNoInC : Type 0
IssueGivesFirstNoInC = (g : Slices) (c : IssueCall) → AllBytes g.state → GivesFirstNo (issued_number g c) (issue_row_in_c g c)

-- 6, "except in Prepare, longer than its buffer", 7 to 11, 13: "output_length is too small"
pub record SoundBytesAlone (state : List ℕ) : Type 0 where
  pub long : length state ≡ 447
  pub sound : SoundState (state_of state)

abbrev pub prepare_row_in_c : List ℕ → IssueCall → ℕ → Row
prepare_row_in_c state c room =
    question (SoundBytesAlone state) 6
    (details_row_in_c (state_of state) c (question (length (prepared_text (state_of state) (details_given c)) ≤ room) 13 asked_all))

abbrev pub PrepareGivesFirstNoInC : Type 0
PrepareGivesFirstNoInC =
    (state : List ℕ) (c : IssueCall) (room : ℕ) → AllBytes state → GivesFirstNo (prepared_from_c state c room).number (prepare_row_in_c state c room)

-- ---- ditgrux_change

-- 6, 3, 30: "the register has had this serial, be it the newest or an older one", 31: "it has had eight", 13: "8 bytes and the serial do not fit after the
-- journal"
abbrev pub change_row_in_c : Slices → List ℕ → Row
change_row_in_c g serial =
    question (SoundBytes g.state (length g.journal)) 6
    (question (SerialBytes serial) 3
    (question (OneOf (name_of serial) (used (state_of g.state).serials) → ⊥) 30
    (question (length (used (state_of g.state).serials) < 8) 31
    (question ((state_of g.state).length + (8 + length serial) ≤ length g.journal) 13 asked_all))))

abbrev pub ChangeGivesFirstNoInC : Type 0
ChangeGivesFirstNoInC = (g : Slices) (serial : List ℕ) → AllBytes g.state → GivesFirstNo (changed_number g serial) (change_row_in_c g serial)

-- ---- ditgrux_take_over and ditgrux_check_head

-- 6: "state_length is not 447", 4: "the width, or the key is not 32 bytes long", both with index 0; with good ones it is the journal's own answer
pub record TakeOverAsksInC (j key : List ℕ) (n size : ℕ) : Type 0 where
  pub six : (size ≡ 447 → ⊥) → take_over_answer j key n size ≡ refused 6 0
  pub width : size ≡ 447 → (WidthWithKey n key → ⊥) → take_over_answer j key n size ≡ refused 4 0
  pub same : size ≡ 447 → length key ≡ 32 → take_over_answer j key n size ≡ take_over j key n

abbrev pub TakeOverAsksTheKey : Type 0
TakeOverAsksTheKey = (j key : List ℕ) (n size : ℕ) → TakeOverAsksInC j key n size

pub record HeadAsksInC (j key : List ℕ) (n size : ℕ) : Type 0 where
  pub six : (size ≡ 447 → ⊥) → head_answer j key n size ≡ refused 6 0
  pub width : size ≡ 447 → (WidthWithKey n key → ⊥) → head_answer j key n size ≡ refused 4 0
  pub same : size ≡ 447 → length key ≡ 32 → head_answer j key n size ≡ check_head j key n

abbrev pub HeadAsksTheKey : Type 0
HeadAsksTheKey = (j key : List ℕ) (n size : ℕ) → HeadAsksInC j key n size

-- ---- ditgrux_check_steps

-- 6: "the state is bad, its journal is longer than journal_length, or the journal counts fewer receipts in the state's last pair than the state does"
pub record SoundBytesFor (state j : List ℕ) : Type 0 where
  pub long : length state ≡ 447
  pub sound : SoundFor (state_of state) j

-- such a state gets 6, with index 0, however many the steps, and no other state does; with 447 bytes it is the journal's own check
pub record StepsAskInC (state j : List ℕ) (steps : ℕ) : Type 0 where
  pub six : (steps_answer state j steps).number ≡ 6 → SoundBytesFor state j → ⊥
  pub bad : (SoundBytesFor state j → ⊥) → steps_answer state j steps ≡ handed_back 6 0 (state_of state)
  pub same : steps_answer state j steps ≡ check_steps (state_of state) j steps

abbrev pub StepsAskSixInC : Type 0
StepsAskSixInC = (state j : List ℕ) (steps : ℕ) → AllBytes state → StepsAskInC state j steps

-- ---- ditgrux_read

-- 1: "also if settings_length is not 123", 2, 3, 4, 16, 23: "details_length is not 72, or signature_size is not 64, be it less or more"
abbrev pub read_row : List ℕ → List ℕ → List ℕ → List ℕ → Row
read_row settings form details signature =
    question ((length settings ≡ 123) × GoodCsp (settings_of settings).csp) 1
    (question (GoodId (settings_of settings).id) 2
    (question (GoodSerial (settings_of settings).serial) 3
    (question (GoodWidth (width_of settings)) 4
    (question (Spelled (settings_of settings) (width_of settings) form) 16
    (question (length details ≡ 72) 23 (question (length signature ≡ 64) 23 asked_all))))))

abbrev pub ReadGivesFirstNoInC : Type 0
ReadGivesFirstNoInC =
    (settings form details signature : List ℕ) → AllBytes settings → AllBytes form
    → GivesFirstNo (read_back settings form details signature).number (read_row settings form details signature)

-- ---- ditgrux_export and ditgrux_read_export

-- 4: "the width, or the key is not 32 bytes long", with index 0, "what ditgrux_take_over returns"; with good ones it is the answer under that key and width
pub record ExportAsksInC (j key : List ℕ) (n : ℕ) (certificates out : List ℕ) : Type 0 where
  pub width : (WidthWithKey n key → ⊥) → ((export_answer j key n certificates out).number ≡ 4) × ((export_answer j key n certificates out).index ≡ 0)
  pub same : length key ≡ 32 → export_answer j key n certificates out ≡ exported j key n certificates out
  pub output : length key ≡ 32 → export_output j key n certificates out ≡ export_buffer j key n certificates out

abbrev pub ExportAsksTheKey : Type 0
ExportAsksTheKey = (j key : List ℕ) (n : ℕ) (certificates out : List ℕ) → ExportAsksInC j key n certificates out

-- 6 first; then what is asked of the text, and 4 after it: under a bad key or width the answer is that of every key with every width that is not 5 to 8, and so
-- the text's own number where it has one (`ReadingAnswers`), or else 4, and never 0
pub record ReadExportAsksInC (text key : List ℕ) (n : ℕ) (out state : List ℕ) : Type 0 where
  pub six : (length state ≡ 447 → ⊥) → read_answer text key n out state ≡ not_read 6 0
  pub width : length state ≡ 447 → (WidthWithKey n key → ⊥) → (k : List ℕ) (m : ℕ) → (GoodWidth m → ⊥) → read_answer text key n out state ≡ restored text k m (length out)
  pub never : length state ≡ 447 → (WidthWithKey n key → ⊥) → (read_answer text key n out state).number ≡ 0 → ⊥
  pub same : length state ≡ 447 → length key ≡ 32 → read_answer text key n out state ≡ restored text key n (length out)
  pub output : length state ≡ 447 → length key ≡ 32 → read_output text key n out state ≡ restored_buffer text key n out

abbrev pub ReadExportAsksTheKey : Type 0
ReadExportAsksTheKey = (text key : List ℕ) (n : ℕ) (out state : List ℕ) → ReadExportAsksInC text key n out state

-- ---- ditgrux_base64, ditgrux_base32 and the way back

-- a call that writes a text: DITGRUX_OUTPUT_SHORT where it does not fit; "Refused: `output` is unchanged and *length is 0."
pub record WritesInC (text out : List ℕ) (answer : Answer) (left : List ℕ) : Type 0 where
  pub short : length out < length text → (answer.number ≡ 23) × (answer.length ≡ 0) × (left ≡ out)
  pub done : length text ≤ length out → (answer.number ≡ 0) × (answer.length ≡ length text) × (left ≡ overwrite out 0 text)

-- a call that reads a text which some bytes have: "DITGRUX_BAD_FORM (wrong padding, foreign letters, or unused bits that are not zero)" where none have it
pub record ReadsInC (spell : List ℕ → List ℕ) (text out : List ℕ) (answer : Answer) (left : List ℕ) : Type 0 where
  pub bad : ((xs : List ℕ) → AllBytes xs → text ≡ spell xs → ⊥) → (answer.number ≡ 22) × (answer.length ≡ 0) × (left ≡ out)
  pub good : (xs : List ℕ) → AllBytes xs → text ≡ spell xs → WritesInC xs out answer left

-- "BASE64 with padding (url is 0) or .. BASE64-URL without padding (any other url)"
pub record BasesAnswerInC : Type 0 where
  pub padded : (xs out : List ℕ) → WritesInC (encoding Standard xs) out (encode_answer 0 xs out) (encode_buffer 0 xs out)
  pub plain : (url : ℕ) (xs out : List ℕ) → (url ≡ 0 → ⊥) → WritesInC (encoding UrlSafe xs) out (encode_answer url xs out) (encode_buffer url xs out)
  pub unpadded : (text out : List ℕ) → AllBytes text → ReadsInC (encoding Standard) text out (decode_answer 0 text out) (decode_buffer 0 text out)
  pub unplain : (url : ℕ) (text out : List ℕ) → AllBytes text → (url ≡ 0 → ⊥) → ReadsInC (encoding UrlSafe) text out (decode_answer url text out) (decode_buffer url text out)
  pub thirtytwo : (xs out : List ℕ) → WritesInC (encoding32 xs) out (encode_answer32 xs out) (encode_buffer32 xs out)
  pub unthirtytwo : (text out : List ℕ) → AllBytes text → ReadsInC encoding32 text out (decode_answer32 text out) (decode_buffer32 text out)

-- ---- ditgrux_serial

-- "Returns DITGRUX_DONE, or DITGRUX_OUTPUT_SHORT. Refused: `output` is unchanged and *length is 0.", of the text that `SerialIsReadInC` gives
abbrev pub SerialAnswersInC : Type 0
SerialAnswersInC =
    (state : List ℕ) (which : ℕ) (out : List ℕ)
    → WritesInC (serial_text_in state which) out (serial_answer (serial_text_in state which) (length out)) (placed out 0 (serial_text_in state which))

-- ---- ditgrux_sha256

-- "DITGRUX_OUTPUT_SHORT (output_length is below 32)"; else the value "to the first 32 bytes of the output"
pub record HashAnswersInC (m out : List ℕ) : Type 0 where
  pub short : length out < 32 → (hash_number out ≡ 23) × (hash_buffer m out ≡ out)
  pub done : 32 ≤ length out → (hash_number out ≡ 0) × (hash_buffer m out ≡ overwrite out 0 (sha256 m))

abbrev pub HashIsWrittenInC : Type 0
HashIsWrittenInC = (m out : List ℕ) → HashAnswersInC m out

-- ---- ditgrux_fields

-- "Finds the register ID in a machine-readable code: where it starts, and its length"; "DITGRUX_BAD_CODE (also if the code has no ID, or an empty one). Refused:
-- *start and *length are 0."
pub record FieldsAnswer (code : List ℕ) : Type 0 where
  pub found : (x id z : List ℕ) → IdPart code x id z → (fields_number code ≡ 0) × ((id_place code).start ≡ 2 + length x) × (fields_length code ≡ length id)
  pub none : (HasId code → ⊥) → (fields_number code ≡ 24) × ((id_place code).start ≡ 0) × (fields_length code ≡ 0)

abbrev pub FieldsAnswerInC : Type 0
FieldsAnswerInC = (code : List ℕ) → AllBytes code → FieldsAnswer code
