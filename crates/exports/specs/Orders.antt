-- What the grammar takes: names in any order, each once, and blanks anywhere between tokens.
use Rattle.std.specs.Prelude.{ℕ, ◌≡◌, true, List, [], ◌∷◌, ◌++◌, ◌↔◌}
use Rattle.exports.specs.Text.{Token, blank, every, Tokens}
use Rattle.exports.specs.Shape.{Member, certificate, issuers, receipts, certificates_of, issuers_of, receipts_of, Element}

-- the six orders of an element's members: S for "Signaturzertifikat", Z for "Zertifizierungsstellen", B for "Belege-kompakt"
pub data Order (e : Element) : Member → Member → Member → Type 0 where
  szb : Order e (certificate e.certificate) (issuers e.issuers) (receipts e.receipts)
  sbz : Order e (certificate e.certificate) (receipts e.receipts) (issuers e.issuers)
  zsb : Order e (issuers e.issuers) (certificate e.certificate) (receipts e.receipts)
  zbs : Order e (issuers e.issuers) (receipts e.receipts) (certificate e.certificate)
  bsz : Order e (receipts e.receipts) (certificate e.certificate) (issuers e.issuers)
  bzs : Order e (receipts e.receipts) (issuers e.issuers) (certificate e.certificate)

-- each name once among three members, with these values
pub record EachOnce (e : Element) (a b c : Member) : Type 0 where
  pub certificates : certificates_of (a ∷ b ∷ c ∷ []) ≡ e.certificate ∷ []
  pub issuers : issuers_of (a ∷ b ∷ c ∷ []) ≡ e.issuers ∷ []
  pub receipts : receipts_of (a ∷ b ∷ c ∷ []) ≡ e.receipts ∷ []

-- "the three inner names once each in any order": the condition of the grammar is met by the six orders, and by nothing else
abbrev pub AnyOrder : Type 0
AnyOrder = (e : Element) (a b c : Member) → EachOnce e a b c ↔ Order e a b c

-- "takes JSON blanks": between two texts of tokens, and so before and after each of them
abbrev pub BlanksBetween : Type 0
BlanksBetween =
    (a s b : List ℕ) (ts us : List Token) → every blank s ≡ true → Tokens a ts → Tokens b us → Tokens (a ++ (s ++ b)) (ts ++ us)
