-- What a receipt is that names settings, said without a search: what `named` finds in a text of bytes is exactly this.
use Rattle.std.specs.Prelude.{ℕ, ◌≡◌, true, List, ◌∷◌, ◌++◌}
use Rattle.primitives.specs.Bytes.{AllBytes}
use Rattle.primitives.specs.Base64.{encoding}
use Rattle.primitives.specs.declared.base64.Alphabet.TheVariants.{UrlSafe}
use Rattle.receipt.specs.Texts.{separator, dot, beginning}
use Rattle.receipt.specs.Form.{Without}
use Rattle.receipt.specs.Line.{count_of}
use Rattle.receipt.specs.Settings.{name_text, settings_good, SettingsLengths}
use Rattle.receipt.specs.declared.settings.Settings.{Settings}
use Rattle.exports.specs.Naming.{named}

-- a payload of twelve fields, a "_" before each: "R1-" and the CSP, the ID, eight more, the serial, and one more
pub record NamesIn (payload : List ℕ) (s : Settings) : Type 0 where
  pub middle : List ℕ
  pub last : List ℕ
  pub fields : payload ≡ beginning ++ (s.csp ++ (separator ∷ (name_text s.id ++ (separator ∷ (middle ++ (separator ∷ (name_text s.serial ++ (separator ∷ last))))))))
  pub eight : count_of separator middle ≡ 7
  pub one : Without separator last
  pub sizes : SettingsLengths s
  pub good : settings_good s ≡ true

-- three elements with "." between them, the second of them the canonical text of such a payload
pub record NamesRegister (w : List ℕ) (s : Settings) : Type 0 where
  pub first : List ℕ
  pub payload : List ℕ
  pub third : List ℕ
  pub text : w ≡ first ++ (dot ∷ (encoding UrlSafe payload ++ (dot ∷ third)))
  pub first_whole : Without dot first
  pub third_whole : Without dot third
  pub bytes : AllBytes payload
  pub names : NamesIn payload s

-- these are the settings that a receipt of bytes names exactly if it is such a text
abbrev pub FirstReceiptExactly : Type 0
FirstReceiptExactly =
    (w : List ℕ) (s : Settings) → AllBytes w
    → (named w ≡ record { good = true; settings = s } → NamesRegister w s) × (NamesRegister w s → named w ≡ record { good = true; settings = s })
