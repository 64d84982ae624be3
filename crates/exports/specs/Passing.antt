-- What the contracts of private functions cite: certificates and groups at a place, and a pass over all elements.
use Rattle.std.specs.Prelude.{ℕ, ◌+◌, ◌<◌, ◌≤◌, ◌≡◌, Bool, true, ◌&&◌, List, [], ◌∷◌, ◌++◌, leb, length, take, drop, Option, is_some, MatchOption}
use Rattle.primitives.specs.Questions.{ask}
use Rattle.primitives.specs.Answers.{Answer}
use Rattle.journal.specs.Head.{entry_text}
use Rattle.exports.specs.Text.{every}
use Rattle.exports.specs.Lexer.{content}
use Rattle.exports.specs.Shape.{Element}
use Rattle.exports.specs.Places.{LettersAt}
use Rattle.exports.specs.Output.{moved}
use Rattle.exports.specs.Spelled.{short, sized_texts, pair_spelled}
use Rattle.exports.specs.Groups.{Group, group_text, groups_text, group_good}
use Rattle.exports.specs.Reading.{element_good, has_receipt, names_register, pair_of, journal_of_elements, elements_number}
use Rattle.exports.specs.declared.certificates.Quad.{Quad}
use Rattle.exports.specs.declared.survey.Survey.{Survey}
use Rattle.exports.specs.declared.survey.Measured.{Measured}

-- ---- four letters of a string: those at a place and what follows them is what the string spells from there

pub record QuadRead (text : List ℕ) (at : ℕ) (q : Quad) : Type 0 where
  pub few : q.count ≤ 4
  pub four : length q.bytes ≡ 4
  pub is : content (drop at text) 0 ≡ take q.count q.bytes ++ content (drop q.next text) 0
  pub ended : q.count < 4 → content (drop q.next text) 0 ≡ []
  pub onward : 0 < q.count → at < q.next
  pub letters : LettersAt text q.next

-- ---- a text after its length in two bytes

abbrev pub NoText : List ℕ → ℕ → Type 0
NoText s at = (t rest : List ℕ) → short t ≡ true → drop at s ≡ entry_text t ++ rest → ⊥

-- it stands at a place, and e is the place after it
pub record SizedAt (s : List ℕ) (at e : ℕ) : Type 0 where
  pub inside : e ≤ length s
  pub onward : at + 2 ≤ e
  pub sound : (t : List ℕ) × (short t ≡ true) × (drop at s ≡ entry_text t ++ drop e s) × (t ≡ take (length t) (drop (at + 2) s)) × (e ≡ at + 2 + length t)
  pub complete : (t rest : List ℕ) → short t ≡ true → drop at s ≡ entry_text t ++ rest → (drop e s ≡ rest) × (e ≡ at + 2 + length t)

abbrev pub SizedRead : List ℕ → ℕ → Option ℕ → Type 0
SizedRead s at r = MatchOption r (NoText s at) (SizedAt s at)

-- ---- groups

abbrev pub NoGroup : List ℕ → ℕ → Type 0
NoGroup s at = (g : Group) (rest : List ℕ) → group_good g ≡ true → drop at s ≡ group_text g ++ rest → ⊥

-- one stands at a place, and e is the place after it
pub record GroupAt (s : List ℕ) (at e : ℕ) : Type 0 where
  pub inside : e ≤ length s
  pub onward : at < e
  pub sound : (g : Group) × (group_good g ≡ true) × (drop at s ≡ group_text g ++ drop e s)
  pub complete : (g : Group) (rest : List ℕ) → group_good g ≡ true → drop at s ≡ group_text g ++ rest → drop e s ≡ rest

abbrev pub GroupRead : List ℕ → ℕ → Option ℕ → Type 0
GroupRead s at r = MatchOption r (NoGroup s at) (GroupAt s at)

-- a buffer of exactly k groups
pub record GroupsThere (k : ℕ) (s : List ℕ) : Type 0 where
  pub groups : List Group
  pub count : length groups ≡ k
  pub good : every group_good groups ≡ true
  pub bytes : s ≡ groups_text groups

-- ---- the survey of the elements: the questions, each of all elements so far, and the place after their pairs in an output of this length

unfoldable pub measured : ℕ → Option ℕ → List (List ℕ) → Measured
measured room p ws =
    record { good = every short ws && leb (length ws) 4294967295; end = moved room p (length (sized_texts ws)) }

unfoldable pub asked : ℕ → Survey → Element → Survey
asked room s e =
    record {
      good = s.good && element_good e;
      some = s.some && has_receipt e;
      named = s.named && names_register e;
      end = moved room s.end (length (pair_spelled (pair_of e)));
    }

unfoldable pub surveyed : ℕ → Survey → List Element → Survey
surveyed room s [] = s
surveyed room s (e ∷ es) = surveyed room (asked room s e) es

abbrev pub unasked : Option ℕ → Survey
unasked p = record { good = true; some = true; named = true; end = p }

-- the answers of a survey in the order of the questions; `some` says whether there is an element
unfoldable pub survey_answer : Bool → Survey → ℕ
survey_answer some s = ask (some && s.good) 28 (ask s.some 29 (ask s.named 28 (ask (is_some s.end) 23 0)))

-- the number of the first question answered no; or 0 and the length of the journal that the elements spell
pub record SurveyedAs (room : ℕ) (es : List Element) (r : Answer) : Type 0 where
  pub number : r.number ≡ elements_number es room
  pub length : r.number ≡ 0 → r.length ≡ length (journal_of_elements es)
