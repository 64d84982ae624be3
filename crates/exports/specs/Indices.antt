-- Where a text is refused, and the index that it then gets, as a statement; the proof is in proofs/IndexCounts.antt.
use Rattle.std.specs.Prelude.{ℕ, ◌+◌, ◌<◌, ◌≡◌, true, List, [], ◌∷◌, ◌++◌, map, length}
use Rattle.journal.specs.Valid.{Owner}
use Rattle.journal.specs.Checking.{refused, take_over}
use Rattle.exports.specs.Shape.{Element, Shape}
use Rattle.exports.specs.Spelled.{journal_spelled}
use Rattle.exports.specs.Reading.{settings_of, owner_of, pair_of, journal_of_elements, elements_number, restored}
use Rattle.exports.specs.Promises.{among}

-- how many receipts elements have
unfoldable pub receipt_count : List Element → ℕ
receipt_count [] = 0
receipt_count (e ∷ es) = length e.receipts + receipt_count es

-- the journal of the elements `before`, and then of one pair: the serial of the element x, and the texts ws
unfoldable pub journal_up_to : Owner → List Element → Element → List (List ℕ) → List ℕ
journal_up_to o before x ws = journal_spelled o (map pair_of before ++ (record { serial = (settings_of x).serial; texts = ws } ∷ []))

-- Refused at a receipt. Take over accepts the journal of all receipts before it and refuses the journal that ends with it. The index counts the receipts of
-- all elements before its own, and those before it in its own.
pub record ReceiptRefused (es : List Element) (key : List ℕ) (n number index : ℕ) : Type 0 where
  pub before : List Element
  pub element : Element
  pub after : List Element
  pub elements : es ≡ before ++ (element ∷ after)
  pub done : List (List ℕ)
  pub receipt : List ℕ
  pub left : List (List ℕ)
  pub receipts : element.receipts ≡ done ++ (receipt ∷ left)
  pub without : (take_over (journal_up_to (owner_of es) before element done) key n).number ≡ 0
  pub issued : (take_over (journal_up_to (owner_of es) before element done) key n).state.issued ≡ index
  pub with_it : take_over (journal_up_to (owner_of es) before element (done ++ (receipt ∷ []))) key n ≡ refused number index
  pub counted : index ≡ receipt_count before + length done

-- Refused at the serial of an element, which is not the first one. Take over accepts the journal of the elements before it and refuses the journal that ends
-- with the start of its pair. The index counts the receipts of all elements before it.
pub record SerialRefused (es : List Element) (key : List ℕ) (n number index : ℕ) : Type 0 where
  pub before : List Element
  pub element : Element
  pub after : List Element
  pub elements : es ≡ before ++ (element ∷ after)
  pub some : before ≡ [] → ⊥
  pub without : (take_over (journal_of_elements before) key n).number ≡ 0
  pub issued : (take_over (journal_of_elements before) key n).state.issued ≡ index
  pub with_it : take_over (journal_up_to (owner_of es) before element []) key n ≡ refused number index
  pub counted : index ≡ receipt_count before

-- the numbers of a receipt, those of a serial, and the others; no other number can come (`NumbersOfReading`)

abbrev pub of_receipt : List ℕ
of_receipt = 16 ∷ 17 ∷ 18 ∷ 19 ∷ 20 ∷ []

abbrev pub of_serial : List ℕ
of_serial = 30 ∷ 31 ∷ []

abbrev pub of_neither : List ℕ
of_neither = 0 ∷ 4 ∷ 23 ∷ 28 ∷ 29 ∷ []

-- "Every index counts all receipts before it": those of its own element and of all elements before it
pub record IndexCountsAllReceipts : Type 0 where
  pub neither : (text key : List ℕ) (n size : ℕ) → size < 18446744073709551616 → among of_neither (restored text key n size).number ≡ true
      → (restored text key n size).index ≡ 0
  pub receipt : (text key : List ℕ) (n size : ℕ) → size < 18446744073709551616 → among of_receipt (restored text key n size).number ≡ true
      → (es : List Element) × Shape text es × ReceiptRefused es key n (restored text key n size).number (restored text key n size).index
  pub serial : (text key : List ℕ) (n size : ℕ) → size < 18446744073709551616 → among of_serial (restored text key n size).number ≡ true
      → (es : List Element) × Shape text es × SerialRefused es key n (restored text key n size).number (restored text key n size).index
  -- and no other answer meets this: if a place of the text does, its number and its index are the answer
  pub this_receipt : (text key : List ℕ) (n size : ℕ) (es : List Element) (m i : ℕ) → size < 18446744073709551616 → Shape text es → elements_number es size ≡ 0
      → among of_receipt m ≡ true → ReceiptRefused es key n m i → ((restored text key n size).number ≡ m) × ((restored text key n size).index ≡ i)
  pub this_serial : (text key : List ℕ) (n size : ℕ) (es : List Element) (m i : ℕ) → size < 18446744073709551616 → Shape text es → elements_number es size ≡ 0
      → among of_serial m ≡ true → SerialRefused es key n m i → ((restored text key n size).number ≡ m) × ((restored text key n size).index ≡ i)
