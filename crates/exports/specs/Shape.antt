-- The annex 3 structure as tokens, and which texts spell which elements.
use Rattle.std.specs.Prelude.{ℕ, ◌≡◌, refl, Bool, ◌&&◌, List, [], ◌∷◌, ◌++◌, map}
use Rattle.exports.specs.Text.{Token, mark, word, Tokens, plain, every, text_of}

-- ---- names

-- "Signaturzertifikat"
unfoldable pub certificate_name : List ℕ
certificate_name = 83 ∷ 105 ∷ 103 ∷ 110 ∷ 97 ∷ 116 ∷ 117 ∷ 114 ∷ 122 ∷ 101 ∷ 114 ∷ 116 ∷ 105 ∷ 102 ∷ 105 ∷ 107 ∷ 97 ∷ 116 ∷ []

-- "Zertifizierungsstellen"
unfoldable pub issuers_name : List ℕ
issuers_name =
    90 ∷ 101 ∷ 114 ∷ 116 ∷ 105 ∷ 102 ∷ 105 ∷ 122 ∷ 105 ∷ 101 ∷ 114 ∷ 117 ∷ 110 ∷ 103 ∷ 115 ∷ 115 ∷ 116 ∷ 101 ∷ 108 ∷ 108 ∷ 101 ∷ 110 ∷ []

-- "Belege-kompakt"
unfoldable pub receipts_name : List ℕ
receipts_name = 66 ∷ 101 ∷ 108 ∷ 101 ∷ 103 ∷ 101 ∷ 45 ∷ 107 ∷ 111 ∷ 109 ∷ 112 ∷ 97 ∷ 107 ∷ 116 ∷ []

-- "Belege-Gruppe"
unfoldable pub group_name : List ℕ
group_name = 66 ∷ 101 ∷ 108 ∷ 101 ∷ 103 ∷ 101 ∷ 45 ∷ 71 ∷ 114 ∷ 117 ∷ 112 ∷ 112 ∷ 101 ∷ []

-- ---- [ item , item , .. ]

module _ {A : Type 0} (item : A → List Token) where
  -- after an item: "]", or "," and the next
  unfoldable pub following : List A → List Token
  following [] = mark 93 ∷ []
  following (x ∷ xs) = mark 44 ∷ (item x ++ following xs)

  unfoldable pub array : List A → List Token
  array [] = mark 91 ∷ mark 93 ∷ []
  array (x ∷ xs) = mark 91 ∷ (item x ++ following xs)

abbrev pub string : List ℕ → List Token
string w = word w ∷ []

abbrev pub strings : List (List ℕ) → List Token
strings = array string

-- ---- "name" : value

pub data Member : Type 0 where
  certificate : List ℕ → Member
  issuers : List (List ℕ) → Member
  receipts : List (List ℕ) → Member

unfoldable pub name_of : Member → List ℕ
name_of (certificate w) = certificate_name
name_of (issuers ws) = issuers_name
name_of (receipts ws) = receipts_name

unfoldable pub value_of : Member → List Token
value_of (certificate w) = string w
value_of (issuers ws) = strings ws
value_of (receipts ws) = strings ws

unfoldable pub member : Member → List Token
member m = word (name_of m) ∷ mark 58 ∷ value_of m

-- the certificates, lists of issuers and lists of receipts among members
unfoldable pub certificates_of : List Member → List (List ℕ)
certificates_of [] = []
certificates_of (certificate w ∷ ms) = w ∷ certificates_of ms
certificates_of (issuers ws ∷ ms) = certificates_of ms
certificates_of (receipts ws ∷ ms) = certificates_of ms

unfoldable pub issuers_of : List Member → List (List (List ℕ))
issuers_of [] = []
issuers_of (certificate w ∷ ms) = issuers_of ms
issuers_of (issuers ws ∷ ms) = ws ∷ issuers_of ms
issuers_of (receipts ws ∷ ms) = issuers_of ms

unfoldable pub receipts_of : List Member → List (List (List ℕ))
receipts_of [] = []
receipts_of (certificate w ∷ ms) = receipts_of ms
receipts_of (issuers ws ∷ ms) = receipts_of ms
receipts_of (receipts ws ∷ ms) = ws ∷ receipts_of ms

-- ---- an element: three members, and each name once

pub record Element : Type 0 where
  pub certificate : List ℕ
  pub issuers : List (List ℕ)
  pub receipts : List (List ℕ)

-- an element in the order in which it is written
pub record Written : Type 0 where
  pub element : Element
  pub first : Member
  pub second : Member
  pub third : Member
  pub certificates : certificates_of (first ∷ second ∷ third ∷ []) ≡ element.certificate ∷ []
  pub issuer_lists : issuers_of (first ∷ second ∷ third ∷ []) ≡ element.issuers ∷ []
  pub receipt_lists : receipts_of (first ∷ second ∷ third ∷ []) ≡ element.receipts ∷ []

unfoldable pub object : Member → Member → Member → List Token
object a b c = mark 123 ∷ (member a ++ (mark 44 ∷ (member b ++ (mark 44 ∷ (member c ++ (mark 125 ∷ []))))))

unfoldable pub written : Written → List Token
written w = object w.first w.second w.third

-- ---- the whole

unfoldable pub document : List Written → List Token
document ws = mark 123 ∷ word group_name ∷ mark 58 ∷ (array written ws ++ (mark 125 ∷ []))

unfoldable pub elements : List Written → List Element
elements [] = []
elements (w ∷ ws) = w.element ∷ elements ws

-- the text spells these elements
pub record Shape (text : List ℕ) (es : List Element) : Type 0 where
  pub order : List Written
  pub same : elements order ≡ es
  pub spelled : Tokens text (document order)

-- it spells some
pub record Shaped (text : List ℕ) : Type 0 where
  pub elements : List Element
  pub shape : Shape text elements

-- ---- as it is written: certificate, issuers, receipts, without blanks and escapes

unfoldable pub standard : Element → Written
unfolding certificates_of issuers_of receipts_of
standard e =
    record {
      element = e;
      first = certificate e.certificate;
      second = issuers e.issuers;
      third = receipts e.receipts;
      certificates = refl;
      issuer_lists = refl;
      receipt_lists = refl;
    }

unfoldable pub plain_text : List Element → List ℕ
plain_text es = text_of (document (map standard es))

-- what can be written so
unfoldable pub plain_element : Element → Bool
plain_element e = every plain e.certificate && (every (every plain) e.issuers && every (every plain) e.receipts)
