-- The survey of the elements: what is asked of each, and the length of the journal that they spell.
use Rattle.std.proofs.Common.{Option, Some, None, Result, Ok, Err, IfOk, ◌≡◌, refl, sym, ap, ◌∙◌, subst, Bool, true, false, cond, ◌&&◌, List, [], ◌∷◌, ◌++◌, map, ℕ, ◌+◌, ◌<◌, ◌≤◌, zero-add, arith, leb, length, length-append}
use Rattle.primitives.specs.Refusals.{answer_number}
use Rattle.primitives.specs.declared.refusal.Refusal.{Refusal}
use Rattle.std.specs.Option.{is_some}
use Rattle.receipt.specs.declared.settings.Settings.{Settings}
use Rattle.exports.specs.Running.{as_named}
use mathlib.Core.Bool.{and-true, and_assoc}
use Rattle.primitives.specs.Number.{bytes_of}
use Rattle.primitives.specs.Questions.{ask}
use Rattle.primitives.proofs.Numbers.{length_bytes_of}
use Rattle.receipt.specs.Settings.{name_text}
use Rattle.receipt.specs.Line.{count_of}
use Rattle.receipt.specs.declared.settings.Name.{Name}
use Rattle.receipt.proofs.Names.{length_text}
use Rattle.journal.specs.Head.{section, entry_text, pair_start}
use Rattle.journal.specs.Valid.{owner_text}
use Rattle.journal.proofs.Places.{length_entry}
use Rattle.journal.proofs.Sections.{length_section}
use Rattle.exports.specs.Text.{Token, mark, every}
use Rattle.exports.specs.Shape.{array, string, strings, Element, Written, written, document, elements, Shape}
use Rattle.exports.specs.Places.{from, Absent, Quotes, raw_of, Begun, Followed, Placed, ElementAt, ReceiptsAt, GroupBegun}
use Rattle.exports.specs.Output.{start, moved, Inside}
use Rattle.exports.specs.Spelled.{short, some_of, sized_texts, pair_spelled, pairs_spelled, journal_spelled}
use Rattle.exports.specs.Naming.{named, not_named}
use Rattle.exports.specs.Reading.{canonical, element_good, has_receipt, settings_of, names_register, first_of, owner_of, pair_of, journal_of_elements, survey_number, elements_number}
use Rattle.exports.specs.Passing.{measured, asked, surveyed, unasked, survey_answer, SurveyedAs}
use Rattle.exports.specs.Running.{owner_settings, owner_in, PlacesInside}
use Rattle.exports.specs.declared.walk.Cursor.{Cursor}
use Rattle.exports.specs.declared.walk.Cursor.TheVariants.{Item}
use Rattle.exports.specs.declared.lexer.Part.{Part}
use Rattle.exports.specs.Naming.{Named}
use Rattle.exports.specs.declared.shape.Places.{Places}
use Rattle.exports.specs.declared.survey.Survey.{Survey}
use Rattle.exports.specs.declared.survey.Measured.{Measured}
use Rattle.exports.proofs.Arrays.{string_opens}
use Rattle.exports.proofs.Objects.{written_opens}
use Rattle.exports.proofs.NamedRaw.{named_raw, named_small}
use Rattle.primitives.specs.Answers.{as_answer}
use Rattle.primitives.proofs.Refusals.{numbers_are_not_zero}
use Rattle.exports.proofs.Putting.{onward, moved_moved, moved_still, still, inside_moved}
use Rattle.exports.proofs.Tokening.{read_word, word_there}
use Rattle.exports.proofs.Passing.{NoItem, begun_beyond, followed_beyond, beyond_item, Passing, left_start, left_item, left_end, pass_start, pass_out, pass_more, pass_end, some_yes, some_no, some_written, part_in, of_elements}

-- ---- both of two answers, asked one after the other

pub and_then : {a b v : Bool} → a ≡ true → v ≡ b → v ≡ (a && b)
and_then e h = rw e h

pub and_else : {a v : Bool} (b : Bool) → a ≡ false → v ≡ a → v ≡ (a && b)
and_else b e h = rw e (h ∙ e)

pub is_good : (n : Option Settings) → is_some n ≡ (as_named n).good
is_good (Some s) = refl
is_good None = refl

-- ---- a text has an element

module _ {text : List ℕ} {c : Cursor} (g : GroupBegun text c) where
  pub some_spelled : {p : ℕ} → c ≡ Item p → (es : List Element) → Shape text es → true ≡ some_of es
  some_spelled e = of_elements some_of text g.place g.group (λ ws r q. some_yes written text g.place c written_opens g.begun e ws r q ∙ some_written ws)

  pub none_spelled : NoItem c → (es : List Element) → Shape text es → false ≡ some_of es
  none_spelled n = of_elements some_of text g.place g.group (λ ws r q. some_no written text g.place c written_opens g.begun n ws r q ∙ some_written ws)

-- ---- the receipts measured

moved_thrice : (room : ℕ) (p : Option ℕ) (a b c : ℕ) → moved room (moved room (moved room p a) b) c ≡ moved room p (a + b + c)
moved_thrice room p a b c = ap (λ (q : Option ℕ). moved room q c) (moved_moved room p a b) ∙ moved_moved room p (a + b) c

-- the strings that are left, after n others of which all are short or not, from a place on
pub measuring : ℕ → Bool → ℕ → Option ℕ → List (List ℕ) → Measured
measuring room b n p ws =
    record { good = (b && every short ws) && leb (n + length ws) 4294967295; end = moved room p (length (sized_texts ws)) }

measuring_all : (room : ℕ) (p : Option ℕ) (ws : List (List ℕ)) → measured room p ws ≡ measuring room true 0 p ws
unfolding measured measuring
measuring_all room p ws = rw (zero-add (length ws))

measuring_none : (room : ℕ) (b : Bool) (n : ℕ) (p : Option ℕ) → measuring room b n p [] ≡ record { good = b && leb n 4294967295; end = moved room p 0 }
unfolding measuring every sized_texts
measuring_none room b n p = let k : n + 0 ≡ n = omega arith in rw (k, and-true b)

measuring_next : (room : ℕ) (b : Bool) (n : ℕ) (p : Option ℕ) (w : List ℕ) (ws : List (List ℕ))
    → measuring room b n p (w ∷ ws) ≡ measuring room (b && leb (length w) 65535) (n + 1) (moved room (moved room p 2) (length w)) ws
unfolding measuring every short sized_texts
measuring_next room b n p w ws =
    let k : n + length (w ∷ ws) ≡ n + 1 + length ws = omega arith in
    let l : length (entry_text w ++ sized_texts ws) ≡ 2 + length w + length (sized_texts ws) = length-append (entry_text w) (sized_texts ws) ∙ omega (arith, length_entry w) in
    let e : moved room p (length (entry_text w ++ sized_texts ws)) ≡ moved room (moved room (moved room p 2) (length w)) (length (sized_texts ws))
    = ap (moved room p) l ∙ sym (moved_thrice room p 2 (length w) (length (sized_texts ws))) in
    λ i. record { good = sym (and_assoc b (leb (length w) 65535) (every short ws)) i && leb (k i) 4294967295; end = e i }

pub record Measures (room : ℕ) (text : List ℕ) (at : ℕ) (p : Option ℕ) (b : Bool) (n : ℕ) (q : Option ℕ) (c : Cursor) : Type 0 where
  pub pass : Passing string (measured room p) (measuring room b n q) text at c
  pub small : (e : ℕ) → c ≡ Item e → n < e
  pub still : moved room q 0 ≡ q

pub measure_start : {room : ℕ} (text : List ℕ) (at : ℕ) (p : Option ℕ) (c : Cursor) → Inside room p → Begun text at c → Measures room text at p true 0 p c
measure_start {room} text at p c h b =
    record {
      pass = record { beyond = begun_beyond text at c b; left = λ xs r s. (xs, left_start string text at c string_opens b xs r s, measuring_all room p xs) };
      small = λ e m. omega (arith, (beyond_item text at m (begun_beyond text at c b)).0);
      still = sym (still room p h);
    }

module _ {room : ℕ} {text : List ℕ} {at : ℕ} {p : Option ℕ} {b : Bool} {n : ℕ} {q : Option ℕ} {c : Cursor} (k : Measures room text at p b n q c) where
  pub measure_end : {g : Bool} → NoItem c → g ≡ (b && leb n 4294967295)
      → (ws : List (List ℕ)) (r : List Token) → from text at ≡ strings ws ++ r → record { good = g; end = q } ≡ measured room p ws
  measure_end m h ws r s =
      (λ i. record { good = h i; end = sym k.still i }) ∙ sym (measuring_none room b n q) ∙ (pass_end string k.pass m ws r s).0

  module _ {e : ℕ} (m : c ≡ Item e) where
    pub measure_more : {s : Part} (i : Quotes text e s) {b' : Bool} {u v : Option ℕ} (d : Cursor) → b' ≡ (b && leb s.length 65535) → u ≡ moved room q 2 → v ≡ moved room u s.length
        → Followed text s.next d → Measures room text at p b' (n + 1) v d
    measure_more {s} i {b'} {u} {v} d x y w f =
        let a : v ≡ moved room (moved room q 2) s.length = w ∙ ap (λ (t : Option ℕ). moved room t s.length) y in
        record {
          pass = pass_more string k.pass m (read_word i) d f (measuring room b' (n + 1) v)
              (λ w₁ ws r t. measuring_next room b n q w₁ ws ∙ sym ((λ j. measuring room (x j) (n + 1) (a j) ws) ∙ ap (λ (l : ℕ). measuring room (b && leb l 65535) (n + 1) (moved room (moved room q 2) l) ws) (i.long ∙ ap length (word_there i t).0)));
          small = λ t h. omega (arith, k.small e m, i.onward, (beyond_item text e h (followed_beyond text e d i.onward f)).0);
          still = ap (λ (t : Option ℕ). moved room t 0) w ∙ moved_still room u s.length ∙ sym w;
        }

-- ---- what the first string names

nothing_named : named [] ≡ not_named
unfolding named count_of
nothing_named = refl

abbrev pub NamesFirst : List ℕ → ℕ → Named → Type 0
NamesFirst text at n = (ws : List (List ℕ)) (rest : List Token) → from text at ≡ strings ws ++ rest → n ≡ named (first_of ws)

module _ (text : List ℕ) (at : ℕ) (c : Cursor) {n : Named} (b : Begun text at c) where
  pub named_none : NoItem c → n ≡ not_named → NamesFirst text at n
  named_none m e ws r q = e ∙ sym nothing_named ∙ ap (λ (x : List (List ℕ)). named (first_of x)) (sym (left_end string text c ws r m (left_start string text at c string_opens b ws r q)).0)

  module _ {e : ℕ} (m : c ≡ Item e) where
    pub named_refused : Absent string text e → NamesFirst text at n
    named_refused a ws r q = let l = left_item string text ws r m (left_start string text at c string_opens b ws r q) in absurd (a.none l.0 _ l.3)

    pub named_first : {p : Part} → Quotes text e p → n ≡ named (raw_of text p) → NamesFirst text at n
    named_first i h ws r q =
        let l = left_item string text ws r m (left_start string text at c string_opens b ws r q) in
        h ∙ named_raw (part_in i).spells ∙ ap named (word_there i l.3).0 ∙ ap (λ (x : List (List ℕ)). named (first_of x)) (sym l.2)

-- what the first receipt of the first element names

abbrev pub NamesOwner : List ℕ → Settings → Type 0
NamesOwner text s = (es : List Element) → Shape text es → s ≡ owner_settings es

module _ {text : List ℕ} {c : Cursor} (g : GroupBegun text c) {s : Settings} where
  pub owner_none : s ≡ not_named.settings → NoItem c → NamesOwner text s
  unfolding owner_settings elements
  owner_none e m = of_elements owner_settings text g.place g.group go
    where
      go : (ws : List Written) (r : List Token) → from text g.place ≡ array written ws ++ r → s ≡ owner_settings (elements ws)
      go ws r q =
          e ∙ ap (λ (n : Named). n.settings) (sym nothing_named)
          ∙ sym (ap (λ (xs : List Written). owner_settings (elements xs)) (left_end written text c ws r m (left_start written text g.place c written_opens g.begun ws r q)).0)

  pub owner_missing : {p : ℕ} → c ≡ Item p → Absent written text p → NamesOwner text s
  owner_missing m a = of_elements owner_settings text g.place g.group (λ ws r q. let l = left_item written text ws r m (left_start written text g.place c written_opens g.begun ws r q) in absurd (a.none l.0 _ l.3))

  pub owner_first : {p at : ℕ} {n : Named} → c ≡ Item p → ReceiptsAt text p at → NamesFirst text at n → s ≡ n.settings → NamesOwner text s
  unfolding owner_settings elements
  owner_first {n = n} m i f e = of_elements owner_settings text g.place g.group go
    where
      go : (ws : List Written) (r : List Token) → from text g.place ≡ array written ws ++ r → s ≡ owner_settings (elements ws)
      go ws r q =
          let l = left_item written text ws r m (left_start written text g.place c written_opens g.begun ws r q) in
          let x = i.is l.0 _ l.3 in
          e ∙ ap (λ (k : Named). k.settings) (f l.0.element.receipts x.0 x.1) ∙ sym (ap (λ (xs : List Written). owner_settings (elements xs)) l.2)

-- ---- the certificates of an element are good

abbrev pub OfString : (List ℕ → Bool) → List ℕ → ℕ → Bool → Type 0
OfString good text at b = (w : List ℕ) (rest : List Token) → from text at ≡ string w ++ rest → b ≡ good w

abbrev pub OfStrings : (List (List ℕ) → Bool) → List ℕ → ℕ → Bool → Type 0
OfStrings good text at b = (ws : List (List ℕ)) (rest : List Token) → from text at ≡ strings ws ++ rest → b ≡ good ws

abbrev pub Certified : List ℕ → Places → Bool → Type 0
Certified text e b = (x : Element) → Placed text e x → b ≡ (canonical x.certificate && every canonical x.issuers)

-- ---- all elements

some_has : (x : Element) → some_of x.receipts ≡ has_receipt x
unfolding has_receipt
some_has x = refl

pair_long : (s : Name) → length s.bytes ≡ 32 → s.len ≤ 32 → (ws : List (List ℕ))
    → length (pair_spelled (record { serial = s; texts = ws })) ≡ 8 + s.len + length (sized_texts ws)
unfolding pair_spelled pair_start
pair_long s l h ws =
    length-append (section (name_text s) ++ bytes_of 4 (length ws)) (sized_texts ws)
    ∙ omega (arith, length-append (section (name_text s)) (bytes_of 4 (length ws)), length_section (name_text s), length_text s l h, length_bytes_of 4 (length ws))

-- one element asked
pub element_asked : (room : ℕ) {text : List ℕ} {e : Places} (s : Survey) {c h g a b d : Bool} {n : Named} {u v : Option ℕ} {m : Measured}
    → Certified text e c → OfStrings some_of text e.receipts h → NamesFirst text e.receipts n → length n.settings.serial.bytes ≡ 32
    → u ≡ moved room s.end 8 → v ≡ moved room u n.settings.serial.len
    → ((ws : List (List ℕ)) (rest : List Token) → from text e.receipts ≡ strings ws ++ rest → m ≡ measured room v ws)
    → g ≡ (c && m.good) → a ≡ (s.good && g) → b ≡ (s.some && h) → d ≡ (s.named && n.good)
    → (x : Element) → Placed text e x → record { good = a; some = b; named = d; end = m.end } ≡ asked room s x
unfolding asked names_register element_good measured pair_of settings_of
element_asked room s {c = c} {n = n} {u} {v} {m} f k l long hu hv hm hg p q r x y =
    let k₂ = k x.receipts y.receipts.0 y.receipts.1 ∙ some_has x in
    let w = l x.receipts y.receipts.0 y.receipts.1 in
    let small : n.settings.serial.len ≤ 32 = rw w (named_small (first_of x.receipts)).serial in
    let t = hm x.receipts y.receipts.0 y.receipts.1 in
    let good = p ∙ ap (λ (z : Bool). s.good && z) (hg ∙ (λ i. f x y i && (t i).good)) in
    let some = q ∙ ap (λ (z : Bool). s.some && z) k₂ in
    let named = r ∙ ap (λ (z : Named). s.named && z.good) w in
    let texts = length (sized_texts x.receipts) in
    let end = ap (λ (z : Measured). z.end) t
    ∙ ap (λ (z : Option ℕ). moved room z texts) (hv ∙ ap (λ (z : Option ℕ). moved room z n.settings.serial.len) hu)
    ∙ moved_thrice room s.end 8 n.settings.serial.len texts
    ∙ ap (moved room s.end) (sym (pair_long n.settings.serial long small x.receipts))
    ∙ ap (λ (z : Named). moved room s.end (length (pair_spelled (record { serial = z.settings.serial; texts = x.receipts })))) w in
    λ i. record { good = good i; some = some i; named = named i; end = end i }

pub surveying : ℕ → Survey → List Written → Survey
surveying room s ws = surveyed room s (elements ws)

-- some elements are asked, and the others are left
pub record SurveyPass (room : ℕ) (text : List ℕ) (s₀ s : Survey) (c : Cursor) : Type 0 where
  pub place : ℕ
  pub group : (ws : List Written) → from text 0 ≡ document ws → from text place ≡ array written ws ++ (mark 125 ∷ [])
  pub pass : Passing written (surveying room s₀) (surveying room s) text place c

pub survey_start : (room : ℕ) {text : List ℕ} (s : Survey) {c : Cursor} → GroupBegun text c → SurveyPass room text s s c
survey_start room {text} s {c} g = record { place = g.place; group = g.group; pass = pass_start written (surveying room s) text g.place c written_opens g.begun }

module _ {room : ℕ} {text : List ℕ} (s₀ s : Survey) {c : Cursor} (k : SurveyPass room text s₀ s c) where
  pub survey_end : NoItem c → (es : List Element) → Shape text es → s ≡ surveyed room s₀ es
  unfolding surveying surveyed elements
  survey_end e = of_elements (surveyed room s₀) text k.place k.group (λ ws r q. (pass_end written k.pass e ws r q).0)

  module _ {p : ℕ} (m : c ≡ Item p) where
    pub survey_refused : Absent written text p → (es : List Element) → Shape text es → s ≡ surveyed room s₀ es
    unfolding surveying
    survey_refused a = of_elements (surveyed room s₀) text k.place k.group (pass_out written k.pass m s (λ x xs r q. absurd (a.none x r q)))

    pub survey_more : {e : Places} (i : ElementAt text p e) {s' : Survey} (d : Cursor) → ((x : Element) → Placed text e x → s' ≡ asked room s x) → Followed text e.next d → SurveyPass room text s₀ s' d
    unfolding surveying surveyed elements
    survey_more i {s'} d h f =
        record {
          place = k.place;
          group = k.group;
          pass = pass_more written k.pass m i.reads d f (surveying room s') (λ x xs r q. ap (λ (t : Survey). surveyed room t (elements xs)) (sym (h x.element (i.found x r q))));
        }

pub places_inside : {text : List ℕ} {at : ℕ} {e : Places} → ElementAt text at e → PlacesInside text e
places_inside i = record { certificate = i.certificate_inside; issuers = i.issuers_inside; receipts = i.receipts_inside }

-- ---- the number and the length

abbrev all_asked : ℕ → Survey → List Element → Survey
all_asked room s es =
    record {
      good = s.good && every element_good es;
      some = s.some && every has_receipt es;
      named = s.named && every names_register es;
      end = moved room s.end (length (pairs_spelled (map pair_of es)));
    }

surveyed_is : (room : ℕ) (s : Survey) → moved room s.end 0 ≡ s.end → (es : List Element) → surveyed room s es ≡ all_asked room s es
unfolding surveyed asked every pairs_spelled
surveyed_is room s still [] = sym (λ i. record { good = and-true s.good i; some = and-true s.some i; named = and-true s.named i; end = still i })
surveyed_is room s still (e ∷ es) =
    let y = pair_spelled (pair_of e) in
    let z = pairs_spelled (map pair_of es) in
    let end = moved_moved room s.end (length y) (length z) ∙ ap (moved room s.end) (sym (length-append y z)) in
    surveyed_is room (asked room s e) (moved_still room s.end (length y)) es
    ∙ (λ i. record {
      good = and_assoc s.good (element_good e) (every element_good es) i;
      some = and_assoc s.some (has_receipt e) (every has_receipt es) i;
      named = and_assoc s.named (names_register e) (every names_register es) i;
      end = end i;
    })

-- what the types say of an owner
pub record TypedOwner (s : Settings) : Type 0 where
  pub csp : length s.csp ≡ 3
  pub id : length s.id.bytes ≡ 32

named_long : (w : List ℕ) → TypedOwner (named w).settings → length (owner_text (owner_in (named w).settings)) ≡ 11 + (named w).settings.id.len
unfolding owner_text
named_long w t =
    let n = (named w).settings in
    length-append (section n.csp) (section (name_text n.id))
    ∙ omega (arith, length_section n.csp, length_section (name_text n.id), t.csp, length_text n.id t.id (named_small w).id)

owner_long : (es : List Element) → TypedOwner (owner_settings es) → length (owner_text (owner_of es)) ≡ 11 + (owner_settings es).id.len
unfolding owner_settings owner_of settings_of
owner_long [] t = named_long [] t
owner_long (e ∷ es) t = named_long (first_of e.receipts) t

start_fits : (room n : ℕ) → is_some (moved room start n) ≡ leb n room
unfolding moved
start_fits room n = go (leb (0 + n) room) ∙ ap (λ (x : ℕ). leb x room) (zero-add n)
  where
    go : (t : Bool) → is_some (cond t (Some (0 + n)) None) ≡ t
    go true = refl
    go false = refl

-- the place after the head is in the output
pub head_inside : (room n : ℕ) (q : Option ℕ) {p : Option ℕ} → p ≡ moved room q n → Inside room p
head_inside room n q e = rw e (inside_moved room q n)

-- all elements of a text are asked, from the place after its owner on; m says that there is one
pub record AllAsked (room : ℕ) (text : List ℕ) (n : Settings) (s : Survey) (m : Bool) : Type 0 where
  pub typed : TypedOwner n
  pub place : Option ℕ
  pub after : place ≡ moved room (moved room start 11) n.id.len
  pub is : (es : List Element) → Shape text es → s ≡ surveyed room (unasked place) es
  pub some : (es : List Element) → Shape text es → m ≡ some_of es

pub all_asked_lem : {room : ℕ} {text : List ℕ} {n : Settings} {s : Survey} {m : Bool} {q p : Option ℕ} → TypedOwner n → q ≡ moved room start 11 → p ≡ moved room q n.id.len
    → ((es : List Element) → Shape text es → s ≡ surveyed room (unasked p) es) → ((es : List Element) → Shape text es → m ≡ some_of es) → AllAsked room text n s m
all_asked_lem {room} {n = n} {p = p} t a b f g =
    record { typed = t; place = p; after = b ∙ ap (λ (x : Option ℕ). moved room x n.id.len) a; is = f; some = g }

module _ {room : ℕ} {text : List ℕ} {n : Settings} {s : Survey} {m : Bool} (k : AllAsked room text n s m) where
  module _ (es : List Element) (x : Shape text es) (o : n ≡ owner_settings es) where
    all_is : s ≡ record { good = every element_good es; some = every has_receipt es; named = every names_register es; end = moved room start (length (journal_of_elements es)) }
    unfolding journal_of_elements journal_spelled
    all_is =
        let len = n.id.len in
        let y = owner_text (owner_of es) in
        let z = pairs_spelled (map pair_of es) in
        let a = k.after ∙ moved_moved room start 11 len in
        let l : 11 + len ≡ length y = ap (λ (q : Settings). 11 + q.id.len) o ∙ sym (owner_long es (subst TypedOwner o k.typed)) in
        let still = ap (λ (q : Option ℕ). moved room q 0) a ∙ moved_still room start (11 + len) ∙ sym a in
        let end = ap (λ (q : Option ℕ). moved room q (length z)) (a ∙ ap (moved room start) l)
        ∙ moved_moved room start (length y) (length z)
        ∙ ap (moved room start) (sym (length-append y z)) in
        k.is es x ∙ surveyed_is room (unasked k.place) still es
        ∙ (λ i. record { good = every element_good es; some = every has_receipt es; named = every names_register es; end = end i })

    number_is : survey_answer m s ≡ elements_number es room
    unfolding survey_answer elements_number survey_number
    number_is =
        (λ i. survey_answer (k.some es x i) (all_is i))
        ∙ ap (λ (t : Bool). ask (some_of es && every element_good es) 28 (ask (every has_receipt es) 29 (ask (every names_register es) 28 (ask t 23 0)))) (start_fits room (length (journal_of_elements es)))

    length_is : {l : ℕ} → s.end ≡ Some l → l ≡ length (journal_of_elements es)
    length_is {l} f =
        let o = onward room start (length (journal_of_elements es)) l (sym (ap (λ (q : Survey). q.end) all_is) ∙ f) in
        let z : Some o.from ≡ Some 0 = sym o.is in
        let u : o.from ≡ 0 = cc in
        omega (arith, o.at, u)

  pub number_given : (r : Result ℕ Refusal) → answer_number r ≡ survey_answer m s → IfOk r (λ l. s.end ≡ Some l) → (es : List Element) → Shape text es → n ≡ owner_settings es
      → SurveyedAs room es (as_answer r)
  number_given (Ok l) e f es x o = record { number = e ∙ number_is es x o; length = λ z. length_is es x o f }
  number_given (Err q) e f es x o = record { number = e ∙ number_is es x o; length = λ z. absurd (numbers_are_not_zero q z) }
