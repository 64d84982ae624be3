-- A receipt read back: the details and the signature of one compact form.
use Rattle.std.specs.Prelude.{ℕ, Bool, List, eqb, length}
use Rattle.primitives.specs.Place.{overwrite}
use Rattle.primitives.specs.Questions.{ask, ifZero}
use Rattle.receipt.specs.Settings.{settings_number}
use Rattle.receipt.specs.Compact.{read_entry, Found}
use Rattle.receipt.specs.declared.settings.Settings.{Settings}
use Rattle.journal.specs.Calls.{Order, order_of}
use Rattle.device.specs.Layout.{settings_of, width_of}
use Rattle.device.specs.Details.{details_bytes}

-- what the form spells under these settings
unfoldable pub found_in : List ℕ → List ℕ → Found
found_in settings form = read_entry (settings_of settings) (width_of settings) form

-- questions 1 to 4 of the settings, 16 of the form, then 23 for outputs of these lengths
unfoldable pub read_number : Settings → ℕ → Bool → ℕ → ℕ → ℕ
read_number s n ok details signature = settings_number s n (ask ok 16 (ask (eqb details 72) 23 (ask (eqb signature 64) 23 0)))

-- what ditgrux_read returns, and what it leaves in its outputs
pub record ReadBack : Type 0 where
  pub number : ℕ
  pub details : List ℕ
  pub signature : List ℕ
  pub length : ℕ

-- the answer with this number, for the receipt of this call: unless refused, its details, and at the start of the output its signature, if it had one
unfoldable pub answered : ℕ → Order → List ℕ → List ℕ → ReadBack
answered number c details signature =
    record {
      number = number;
      details = ifZero number (details_bytes c.details) details;
      signature = ifZero number (overwrite signature 0 c.signature) signature;
      length = ifZero number (length c.signature) 0;
    }

-- ditgrux_read of settings and a form, with outputs that hold these bytes
unfoldable pub read_back : List ℕ → List ℕ → List ℕ → List ℕ → ReadBack
read_back settings form details signature =
    answered (read_number (settings_of settings) (width_of settings) (found_in settings form).ok (length details) (length signature))
    (order_of (found_in settings form).entry) details signature
