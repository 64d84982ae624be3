-- What the private readers and writers of code and line promise their callers. Only their contracts use this, not the definitions of the calls.
use Rattle.std.specs.Prelude.{ℕ, ◌+◌, ◌*◌, ◌/◌, List, take, drop}
use Rattle.receipt.specs.Payload.{longest_payload}
use Rattle.receipt.specs.Form.{part}
use Rattle.receipt.specs.Line.{CodeFields, counter_mark, serial_mark, chain_mark, signature_mark}
use Rattle.receipt.specs.declared.optical_line.CodeFields.{CodeFields as Lent}

-- the most bytes of the three spelled fields together: a code has four letters for three bytes of counter and chain, all of them in its payload
abbrev pub longest_fields : ℕ
longest_fields = longest_payload * 3 / 4 + 64

-- the five fields
abbrev pub code_fields : List ℕ → List ℕ → List ℕ → List ℕ → List ℕ → CodeFields
code_fields start counter serial chain signature =
    record { start = start; counter = counter; serial = serial; chain = chain; signature = signature }

-- the fields that a reader lends
abbrev pub as_fields : Lent → CodeFields
as_fields f = code_fields f.start.now f.counter.now f.serial.now f.chain.now f.signature.now

-- what stands before, between and after the last four "_" of a text
abbrev pub pieces : List ℕ → CodeFields
pieces text =
    code_fields (take (counter_mark text) text) (part (counter_mark text + 1) (serial_mark text) text) (part (serial_mark text + 1) (chain_mark text) text)
    (part (chain_mark text + 1) (signature_mark text) text) (drop (signature_mark text + 1) text)
