-- One step of a register: what is asked of the state and of the details, the fields that a receipt gets, and the state after a receipt
-- or after the start of a pair. Writing and checking both build on this.
use Rattle.std.specs.Prelude.{ℕ, ◌+◌, Bool, true, cond, not, ◌&&◌, List, [], ◌∷◌, ltb, leb, eqb, pos, length, replicate}
use Rattle.primitives.specs.Questions.{ask}
use Rattle.primitives.specs.Counter.{width_good, counter_fits}
use Rattle.primitives.specs.Aes.{key_schedule}
use Rattle.receipt.specs.Settings.{name_text, csp_good, id_good}
use Rattle.receipt.specs.DateTime.{date_good}
use Rattle.receipt.specs.Amount.{amount_limit}
use Rattle.receipt.specs.Details.{standard, amounts_within, start_good, counter_after, After}
use Rattle.receipt.specs.Chain.{chain_value, encrypted_counter}
use Rattle.receipt.specs.declared.settings.Name.{Name}
use Rattle.receipt.specs.declared.settings.Settings.{Settings}
use Rattle.receipt.specs.declared.details.Details.{Details}
use Rattle.receipt.specs.declared.payload.PayloadFields.{PayloadFields}
use Rattle.journal.specs.Head.{head_length, count_place, entry_text}
use Rattle.journal.specs.declared.state.State.{State}
use Rattle.journal.specs.State.{used, in_eight, added, is_in, serials_good, head_length_now}

-- ---- the state of a register without receipts

-- "counter, last number and receipts issued 0, the chain bytes of the ID and the head's length as journal length"
unfoldable pub fresh : Settings → ℕ → List ℕ → State
fresh s n key =
    record {
      csp = s.csp;
      id = s.id;
      serials = in_eight (s.serial ∷ []);
      width = n;
      key = key;
      counter = pos 0;
      last = 0;
      issued = 0;
      chain = chain_value (name_text s.id);
      length = head_length s;
      since = 0;
      place = count_place s;
    }

-- ---- the questions

-- "that count to end within the journal length"
unfoldable pub count_within : State → Bool
count_within st = leb (st.place + 4) st.length

-- 6, without its part about the buffer: "settings meet 1 to 4, counter fits N bytes, receipts issued no more than last number, head length ≤ journal
-- length"; "takes the head by the first serial and also wants one to eight good serials with zeros behind, no more receipts in the open section than
-- issued, and that count to end within the journal length"
unfoldable pub sound_alone : State → Bool
sound_alone st =
    (csp_good st.csp && (id_good st.id && serials_good st.serials))
    && (width_good st.width
    && (counter_fits st.width st.counter
    && ((leb st.issued st.last && leb st.since st.issued) && (count_within st && leb (head_length_now st) st.length))))

-- 6: and "journal length ≤ buffer length"
unfoldable pub sound : State → ℕ → Bool
sound st room = sound_alone st && leb st.length room

-- 7: "Number above the state's last number?"; also 17
unfoldable pub number_above : State → Details → Bool
number_above st d = ltb st.last d.number

-- 10: "Where receipts issued is 0, standard with five zeros?"; also 18
unfoldable pub first_good : State → Details → Bool
first_good st d = cond (eqb st.issued 0) (start_good d) true

-- the counter after the receipt. 11: "New counter fits N bytes?"
unfoldable pub new_counter : State → Details → After
new_counter st d = counter_after st.width st.counter d

-- 7 to 11, and then the rest. 8: "Year 2000 to 2099, date in the Gregorian calendar, hour 0 to 23, minute and second 0 to 59?" 9: "Amounts within limits?"
-- The limit of an amount is a parameter of 9. The guard in 11 has the limit of the calls: after a yes to 9 under a limit that is not higher, the guard holds
unfoldable pub details_number_within : ℕ → State → Details → ℕ → ℕ
details_number_within limit st d rest =
    ask (number_above st d) 7
    (ask (date_good d.date) 8
    (ask (amounts_within limit d.amounts) 9 (ask (first_good st d) 10 (ask (new_counter st d).fits 11 rest))))

-- under the limit that the calls have
abbrev pub details_number : State → Details → ℕ → ℕ
details_number st d rest = details_number_within amount_limit st d rest

-- ---- the fields of the receipt

-- on a standard receipt the encrypted counter after it; the chain bytes of the state
unfoldable pub fields_of : State → Details → PayloadFields
fields_of st d =
    record {
      details = d;
      counter =
          cond (standard d.kind)
          (encrypted_counter (key_schedule st.key) st.id d.number st.width (new_counter st d).counter) (replicate 8 0);
      chain = st.chain;
    }

-- ---- the state after it

-- the state after a receipt with these details and this compact form
unfoldable pub next : State → Details → List ℕ → State
next st d text =
    record {
      csp = st.csp;
      id = st.id;
      serials = st.serials;
      width = st.width;
      key = st.key;
      counter = (new_counter st d).counter;
      last = d.number;
      issued = st.issued + 1;
      chain = chain_value text;
      length = st.length + length (entry_text text);
      since = st.since + 1;
      place = st.place;
    }

-- ---- the start of a pair

-- "A serial already used gets 30, then a ninth serial 31", and then the rest
unfoldable pub renew_number : State → Name → ℕ → ℕ
renew_number st serial rest = ask (not (is_in serial (used st.serials))) 30 (ask (ltb (length (used st.serials)) 8) 31 rest)

-- the state after the start of a pair with this serial: "Counter, numbers and chain run on."
unfoldable pub renewed : State → Name → State
renewed st serial =
    record {
      csp = st.csp;
      id = st.id;
      serials = added st.serials serial;
      width = st.width;
      key = st.key;
      counter = st.counter;
      last = st.last;
      issued = st.issued;
      chain = st.chain;
      length = st.length + 8 + serial.len;
      since = 0;
      place = st.length + 4 + serial.len;
    }
