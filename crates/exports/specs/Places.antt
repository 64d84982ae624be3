-- What the code finds at a place of a text. A function that reads answers the place after what it read, if that stands there; `ReceiptsFound` and `ElementEnded` speak only of places where an element stands.
use Rattle.std.specs.Prelude.{ℕ, ◌<◌, ◌≤◌, ◌+◌, ◌-◌, ◌≡◌, Bool, true, false, cond, ◌&&◌, ◌||◌, not, List, [], ◌∷◌, ◌++◌, eqb, length, take, drop, get_or, Option, None, Some, MatchOption}
use Rattle.std.specs.Option.{option_map}
use Rattle.std.specs.List.{find}
use denote.Enum.Bare.{sameb}
use Rattle.exports.specs.contracts.walk.Name.{the_type}
use Rattle.primitives.specs.Bytes.{same}
use Rattle.exports.specs.Text.{Token, mark, word, blank, is_mark, plain}
use Rattle.exports.specs.Lexer.{wrong, before, content, lex, lex_in}
use Rattle.exports.specs.Shape.{certificate_name, issuers_name, receipts_name, group_name, array, string, strings, Member, certificate, issuers, receipts, member, value_of, Element, Written, written, document}
use Rattle.exports.specs.declared.lexer.Part.{Part}
use Rattle.exports.specs.declared.lexer.Found.{Found}
use Rattle.exports.specs.declared.lexer.Found.TheVariants.{End, Wrong, Quoted, Mark}
use Rattle.exports.specs.declared.walk.Name.{Name}
use Rattle.exports.specs.declared.walk.Name.TheVariants.{Certificate, Issuers, Receipts, Group}
use Rattle.exports.specs.declared.walk.Key.{Key}
use Rattle.exports.specs.declared.walk.Cursor.{Cursor}
use Rattle.exports.specs.declared.walk.Cursor.TheVariants.{Item, Past, Broken}
use Rattle.exports.specs.declared.strings.Letter.{Letter}
use Rattle.exports.specs.declared.shape.Value.{Value}
use Rattle.exports.specs.declared.shape.Places.{Places}

-- the tokens from a place on
unfoldable pub from : List ℕ → ℕ → List Token
from text at = lex (drop at text)

-- ---- tokens

-- r is the first place from `at` on that holds no blank
pub record Skipped (text : List ℕ) (at r : ℕ) : Type 0 where
  pub inside : r ≤ length text
  pub onward : at ≤ r
  pub same : from text at ≡ from text r
  pub stop : r < length text → blank (get_or text r 0) ≡ false

-- from `start` to r stand letters of a string, and at r no plain one
pub record Stopped (text : List ℕ) (start r : ℕ) : Type 0 where
  pub inside : r ≤ length text
  pub onward : start ≤ r
  pub same : (c : List ℕ) → lex_in (drop start text) 0 c ≡ lex_in (drop r text) 0 c
  pub clear : start + before (drop start text) ≡ r + before (drop r text)
  pub long : start + length (content (drop start text) 0) ≡ r + length (content (drop r text) 0)
  pub stop : r < length text → plain (get_or text r 0) ≡ false

-- whether the escape stands at a place
pub record EscapeAt (text : List ℕ) (at : ℕ) (r : Bool) : Type 0 where
  pub is : r ≡ true → drop at text ≡ 92 ∷ 117 ∷ 48 ∷ 48 ∷ 51 ∷ 100 ∷ drop (at + 6) text
  pub none : r ≡ false → (rest : List ℕ) → drop at text ≡ 92 ∷ 117 ∷ 48 ∷ 48 ∷ 51 ∷ 100 ∷ rest → ⊥

-- the string whose letters begin at `start`
pub record Ends (text : List ℕ) (start : ℕ) (p : Part) : Type 0 where
  pub begins : p.start ≡ start
  pub inside : p.next ≤ length text
  pub is : (c : List ℕ) → lex_in (drop start text) 0 c ≡ word c ∷ from text p.next
  pub quote : p.next ≡ start + before (drop start text) + 1
  pub long : p.length ≡ length (content (drop start text) 0)

-- that string, or none if it is wrong or not closed
abbrev pub Closed : List ℕ → ℕ → Option Part → Type 0
Closed text start r = MatchOption r ((c : List ℕ) → lex_in (drop start text) 0 c ≡ wrong) (Ends text start)

-- a list contains a byte
unfoldable pub holds : ℕ → List ℕ → Bool
holds b [] = false
holds b (x ∷ xs) = eqb x b || holds b xs

-- letters as they lie and what they spell: the escape is read, and nothing else changes
pub data Unescaped : List ℕ → List ℕ → Type 0 where
  nothing : Unescaped [] []
  letter : {b : ℕ} {raw w : List ℕ} → plain b ≡ true → Unescaped raw w → Unescaped (b ∷ raw) (b ∷ w)
  escape : {raw w : List ℕ} → Unescaped raw w → Unescaped (92 ∷ 117 ∷ 48 ∷ 48 ∷ 51 ∷ 100 ∷ raw) (61 ∷ w)

-- the letters of a good string, from a place on
pub record Lying (text : List ℕ) : Type 0 where
  pub good : (ts : List Token) × (lex_in text 0 [] ≡ word [] ∷ ts)
  pub spells : Unescaped (take (before text) text) (content text 0)

-- the string at a place
pub record Quotes (text : List ℕ) (at : ℕ) (p : Part) : Type 0 where
  pub inside : p.next ≤ length text
  pub onward : at < p.next
  pub is : from text at ≡ word (content (drop p.start text) 0) ∷ from text p.next
  pub quote : p.next ≡ p.start + before (drop p.start text) + 1
  pub lying : Lying (drop p.start text)
  pub long : p.length ≡ length (content (drop p.start text) 0)

-- the mark at a place, and r is the place after it
pub record Marked (b : ℕ) (text : List ℕ) (at r : ℕ) : Type 0 where
  pub inside : r ≤ length text
  pub onward : at < r
  pub is : from text at ≡ mark b ∷ from text r

-- the next token
abbrev pub Next : List ℕ → ℕ → Found → Type 0
Next text at End = from text at ≡ []
Next text at Wrong = from text at ≡ wrong
Next text at (Quoted p) = Quotes text at p
Next text at (Mark b r) = (is_mark b ≡ true) × Marked b text at r

-- the place after a mark, if the mark stands there
abbrev pub Expected : ℕ → List ℕ → ℕ → Option ℕ → Type 0
Expected b text at r = MatchOption r ((rest : List Token) → from text at ≡ mark b ∷ rest → ⊥) (Marked b text at)

-- ---- one of the things x : A, which are spelled by tokens

-- one of these things stands at a place, and r is the place after it
pub record ReadTo {A : Type 0} (item : A → List Token) (text : List ℕ) (at r : ℕ) : Type 0 where
  pub inside : r ≤ length text
  pub onward : at < r
  pub sound : (x : A) × (from text at ≡ item x ++ from text r)
  pub complete : (x : A) (rest : List Token) → from text at ≡ item x ++ rest → from text r ≡ rest

-- none of them stands there
pub record Absent {A : Type 0} (item : A → List Token) (text : List ℕ) (at : ℕ) : Type 0 where
  pub none : (x : A) (rest : List Token) → from text at ≡ item x ++ rest → ⊥

abbrev pub Reads : {A : Type 0} → (A → List Token) → List ℕ → ℕ → Option ℕ → Type 0
Reads item text at r = MatchOption r (Absent item text at) (ReadTo item text at)

-- ---- names

-- no quote, backslash or "=": so there is one way to spell it
unfoldable pub bare : List ℕ → Bool
bare [] = true
bare (b ∷ bs) = (not (eqb b 34) && (not (eqb b 92) && not (eqb b 61))) && bare bs

unfoldable pub name_number : List ℕ → ℕ
name_number w =
    cond (same w certificate_name) 1 (cond (same w issuers_name) 2 (cond (same w receipts_name) 3 (cond (same w group_name) 4 0)))

abbrev pub spelling : Name → List ℕ
spelling Certificate = certificate_name
spelling Issuers = issuers_name
spelling Receipts = receipts_name
spelling Group = group_name

-- which name a string spells
abbrev pub NameRead : List ℕ → Option Name → Type 0
NameRead w r = MatchOption r ((n : Name) → w ≡ spelling n → ⊥) (λ n. w ≡ spelling n)

-- a name and ":"
pub record KeyedBy (text : List ℕ) (at : ℕ) (k : Key) : Type 0 where
  pub inside : k.next ≤ length text
  pub onward : at < k.next
  pub is : from text at ≡ word (spelling k.name) ∷ mark 58 ∷ from text k.next

abbrev pub Keyed : List ℕ → ℕ → Option Key → Type 0
Keyed text at r = MatchOption r ((n : Name) (rest : List Token) → from text at ≡ word (spelling n) ∷ mark 58 ∷ rest → ⊥) (KeyedBy text at)

-- ---- arrays: where the next item stands, or the place after the array

-- an array begins at a place: an item of it stands at p
pub record Opened (text : List ℕ) (at p : ℕ) : Type 0 where
  pub bracket : Marked 91 text at p
  pub more : (r : List Token) → from text p ≡ mark 93 ∷ r → ⊥

-- or it is empty, and p is the place after it
pub record Empty (text : List ℕ) (at p : ℕ) : Type 0 where
  pub inside : p ≤ length text
  pub onward : at < p
  pub is : from text at ≡ mark 91 ∷ mark 93 ∷ from text p

-- from the array's place on
abbrev pub Begun : List ℕ → ℕ → Cursor → Type 0
Begun text at (Item p) = Opened text at p
Begun text at (Past p) = Empty text at p
Begun text at Broken = (r : List Token) → from text at ≡ mark 91 ∷ r → ⊥

-- after an item
abbrev pub Followed : List ℕ → ℕ → Cursor → Type 0
Followed text at (Item p) = Marked 44 text at p
Followed text at (Past p) = Marked 93 text at p
Followed text at Broken = (r : List Token) → (from text at ≡ mark 44 ∷ r → ⊥) × (from text at ≡ mark 93 ∷ r → ⊥)

abbrev pub end_of : Cursor → Option ℕ
end_of (Item p) = None
end_of (Past p) = Some p
end_of Broken = None

-- ---- members and elements

unfoldable pub number_of : Member → ℕ
number_of (certificate w) = 1
number_of (issuers ws) = 2
number_of (receipts ws) = 3

abbrev pub title : Member → Name
title (certificate w) = Certificate
title (issuers ws) = Issuers
title (receipts ws) = Receipts

-- the value that belongs to a name: a string, or an array of strings
abbrev pub ValueRead : Name → List ℕ → ℕ → Option ℕ → Type 0
ValueRead Certificate text at r = Reads string text at r
ValueRead Issuers text at r = Reads strings text at r
ValueRead Receipts text at r = Reads strings text at r
ValueRead Group text at r = Reads strings text at r

-- a mark and a member
unfoldable pub led : ℕ → Member → List Token
led b m = mark b ∷ member m

-- a mark and a member's name
pub record MemberKeyedBy (text : List ℕ) (at lead : ℕ) (k : Key) : Type 0 where
  pub inside : k.next ≤ length text
  pub onward : at < k.next
  pub good : k.name ≡ Group → ⊥
  pub is : from text at ≡ mark lead ∷ word (spelling k.name) ∷ mark 58 ∷ from text k.next

abbrev pub MemberKeyed : List ℕ → ℕ → ℕ → Option Key → Type 0
MemberKeyed text at lead r = MatchOption r (Absent (led lead) text at) (MemberKeyedBy text at lead)

pub record MemberAt (text : List ℕ) (at lead : ℕ) (v : Value) : Type 0 where
  pub reads : ReadTo (led lead) text at v.next
  pub found : (m : Member) (rest : List Token) → from text at ≡ led lead m ++ rest → (v.name ≡ title m) × (from text v.place ≡ value_of m ++ rest)
  pub place : v.place ≤ length text

abbrev pub MemberRead : List ℕ → ℕ → ℕ → Option Value → Type 0
MemberRead text at lead r = MatchOption r (Absent (led lead) text at) (MemberAt text at lead)

-- the place of the first value with a name
abbrev pub is_name : Name → Name → Bool
is_name m n = sameb the_type m n

abbrev pub place_of : Name → Value → Value → Value → Option ℕ
place_of n a b c = option_map (λ v. v.place) (find (λ v. is_name v.name n) (a ∷ b ∷ c ∷ []))

-- all three, or none
abbrev pub three_places : Option ℕ → Option ℕ → Option ℕ → ℕ → Option Places
three_places (Some c) (Some i) (Some r) next = Some (record { certificate = c; issuers = i; receipts = r; next = next })
three_places c i r next = None

unfoldable pub places_of : Value → Value → Value → ℕ → Option Places
places_of a b c next = three_places (place_of Certificate a b c) (place_of Issuers a b c) (place_of Receipts a b c) next

-- where the three values of an element stand
pub record Placed (text : List ℕ) (p : Places) (e : Element) : Type 0 where
  pub certificate : (r : List Token) × (from text p.certificate ≡ string e.certificate ++ r)
  pub issuers : (r : List Token) × (from text p.issuers ≡ strings e.issuers ++ r)
  pub receipts : (r : List Token) × (from text p.receipts ≡ strings e.receipts ++ r)

pub record ElementAt (text : List ℕ) (at : ℕ) (p : Places) : Type 0 where
  pub reads : ReadTo written text at p.next
  pub found : (w : Written) (rest : List Token) → from text at ≡ written w ++ rest → Placed text p w.element
  pub certificate_inside : p.certificate ≤ length text
  pub issuers_inside : p.issuers ≤ length text
  pub receipts_inside : p.receipts ≤ length text

abbrev pub ElementRead : List ℕ → ℕ → Option Places → Type 0
ElementRead text at r = MatchOption r (Absent written text at) (ElementAt text at)

-- after the receipts of an element: its other members and "}", and then `rest`
pub data Closing : List Token → List Token → Type 0 where
  end : {rest : List Token} → Closing (mark 125 ∷ rest) rest
  more : (m : Member) {ts rest : List Token} → Closing ts rest → Closing (led 44 m ++ ts) rest

-- r is the place of the receipts of the element at a place
pub record ReceiptsAt (text : List ℕ) (at r : ℕ) : Type 0 where
  pub inside : r ≤ length text
  pub onward : at < r
  pub is : (w : Written) (rest : List Token) → from text at ≡ written w ++ rest
      → (ts : List Token) × (from text r ≡ strings w.element.receipts ++ ts) × (Closing ts rest)

abbrev pub ReceiptsFound : List ℕ → ℕ → Option ℕ → Type 0
ReceiptsFound text at r = MatchOption r (Absent written text at) (ReceiptsAt text at)

-- r is the place after the element whose receipts end at a place
pub record EndedAt (text : List ℕ) (at r : ℕ) : Type 0 where
  pub inside : r ≤ length text
  pub onward : at < r
  pub is : (ts rest : List Token) → Closing ts rest → from text at ≡ ts → from text r ≡ rest

abbrev pub ElementEnded : List ℕ → ℕ → Option ℕ → Type 0
ElementEnded text at r = MatchOption r ((ts rest : List Token) → Closing ts rest → from text at ≡ ts → ⊥) (EndedAt text at)

-- where the array of elements stands
pub record GroupAt (text : List ℕ) (p : ℕ) : Type 0 where
  pub inside : p ≤ length text
  pub is : from text 0 ≡ mark 123 ∷ word group_name ∷ mark 58 ∷ from text p

abbrev pub GroupPlace : List ℕ → Option ℕ → Type 0
GroupPlace text r = MatchOption r ((rest : List Token) → from text 0 ≡ mark 123 ∷ word group_name ∷ mark 58 ∷ rest → ⊥) (GroupAt text)

-- where some elements are spelled, their array stands at this place, and the cursor is at its first element
pub record GroupBegun (text : List ℕ) (c : Cursor) : Type 0 where
  pub place : ℕ
  pub group : (ws : List Written) → from text 0 ≡ document ws → from text place ≡ array written ws ++ (mark 125 ∷ [])
  pub begun : Begun text place c

-- ---- a string where it lies

-- at this place stand the letters of a good string, or its quote
pub record LettersAt (text : List ℕ) (at : ℕ) : Type 0 where
  pub good : (ts : List Token) × (lex_in (drop at text) 0 [] ≡ word [] ∷ ts)

-- its letters as they lie, up to the quote
abbrev pub raw_of : List ℕ → Part → List ℕ
raw_of text p = take (p.next - 1 - p.start) (drop p.start text)

abbrev pub PartRead : List ℕ → ℕ → Option Part → Type 0
PartRead text at r = MatchOption r (Absent string text at) (Quotes text at)

-- ---- the letters of a string, one by one

pub record LetterAt (text : List ℕ) (at : ℕ) (l : Letter) : Type 0 where
  pub onward : at < l.next
  pub good : LettersAt text l.next
  pub is : content (drop at text) 0 ≡ l.byte ∷ content (drop l.next text) 0

abbrev pub LetterRead : List ℕ → ℕ → Option Letter → Type 0
LetterRead text at r = MatchOption r (content (drop at text) 0 ≡ []) (LetterAt text at)
