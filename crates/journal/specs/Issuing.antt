-- Issue: "(state, details, signature slice, buffer) appends an entry, rewrites the receipts count, and touches no other byte".
use Rattle.std.specs.Prelude.{ℕ, ◌+◌, Bool, true, false, cond, ◌||◌, List, leb, eqb, length, replicate}
use Rattle.primitives.specs.Place.{overwrite}
use Rattle.primitives.specs.Number.{bytes_of}
use Rattle.receipt.specs.Amount.{amount_limit}
use Rattle.receipt.specs.Compact.{compact}
use Rattle.receipt.specs.declared.details.Details.{Details}
use Rattle.receipt.specs.declared.entry.Signature.{Signature}
use Rattle.receipt.specs.declared.entry.Entry.{Entry}
use Rattle.journal.specs.Head.{entry_text}
use Rattle.primitives.specs.Questions.{ask, ifZero}
use Rattle.journal.specs.declared.state.State.{State}
use Rattle.journal.specs.State.{Issued, settings_now, count_place_now}
use Rattle.journal.specs.Step.{sound, details_number_within, fields_of, next}

-- ---- the questions

-- 12: "Signature length 64 or 0?"
unfoldable pub signature_sized : List ℕ → Bool
signature_sized sig = eqb (length sig) 64 || eqb (length sig) 0

-- ---- the entry

-- "A slice of length 0 means a failed device."
unfoldable pub given_signature : List ℕ → Signature
given_signature sig = cond (eqb (length sig) 0) (record { failed = true; bytes = replicate 64 0 }) (record { failed = false; bytes = sig })

unfoldable pub entry_of : State → Details → List ℕ → Entry
entry_of st d sig = record { fields = fields_of st d; signature = given_signature sig }

-- its compact form
unfoldable pub text_of : State → Details → List ℕ → List ℕ
text_of st d sig = compact (settings_now st) st.width (entry_of st d sig)

-- 13: "Entry fits behind the journal length?"
unfoldable pub entry_fits : State → List ℕ → ℕ → Bool
entry_fits st text room = leb (st.length + length (entry_text text)) room

-- ---- the call, with the limit of an amount as a parameter

unfoldable pub issue_number_within : ℕ → State → Details → List ℕ → ℕ → ℕ
issue_number_within limit st d sig room =
    ask (sound st room) 6 (details_number_within limit st d (ask (signature_sized sig) 12 (ask (entry_fits st (text_of st d sig) room) 13 0)))

-- a refused call returns the state that it was given
unfoldable pub issued_within : ℕ → State → Details → List ℕ → ℕ → Issued
issued_within limit st d sig room =
    record {
      number = issue_number_within limit st d sig room;
      state = ifZero (issue_number_within limit st d sig room) (next st d (text_of st d sig)) st;
    }

-- the entry after the journal, and the count of the open section rewritten
unfoldable pub with_entry : State → List ℕ → List ℕ → List ℕ
with_entry st text buf = overwrite (overwrite buf st.length (entry_text text)) (count_place_now st) (bytes_of 4 (st.since + 1))

unfoldable pub issue_buffer_within : ℕ → State → Details → List ℕ → List ℕ → List ℕ
issue_buffer_within limit st d sig buf = ifZero (issue_number_within limit st d sig (length buf)) (with_entry st (text_of st d sig) buf) buf

-- ---- the call, under the limit that it has

abbrev pub issue_number : State → Details → List ℕ → ℕ → ℕ
issue_number st d sig room = issue_number_within amount_limit st d sig room

abbrev pub issued : State → Details → List ℕ → ℕ → Issued
issued st d sig room = issued_within amount_limit st d sig room

abbrev pub issue_buffer : State → Details → List ℕ → List ℕ → List ℕ
issue_buffer st d sig buf = issue_buffer_within amount_limit st d sig buf
