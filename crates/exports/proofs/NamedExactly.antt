-- The statement of specs/Names.antt: what a receipt of bytes names is exactly what its text is put together from.
use Rattle.std.proofs.Common.{ℕ, zero, suc, ◌≤◌, ◌<◌, ◌≡◌, refl, sym, ap, ◌∙◌, subst, Bool, true, false, cond, ◌&&◌, List, ◌∷◌, ◌++◌, arith, eqb-true, eq-eqb, leb-true, eqb, leb, length, take, drop, get_or, take-append-drop}
use mathlib.Core.Option.{Option, none, some}
use Rattle.primitives.specs.Text.{ascii}
use Rattle.primitives.specs.Bytes.{AllBytes, same}
use Rattle.primitives.specs.Base64.{encoding, decoding}
use Rattle.primitives.specs.declared.base64.Alphabet.TheVariants.{UrlSafe}
use Rattle.primitives.proofs.Rows.{both, true-is-not-false}
use Rattle.primitives.proofs.ByteLists.{bytes_take, bytes_drop, same_true, same_refl}
use Rattle.primitives.proofs.Base64Laws.{no_dot}
use Rattle.primitives.proofs.Laws.{decoding_is_exact, decoding_undoes_encoding}
use Rattle.receipt.specs.Texts.{separator, dot, beginning}
use Rattle.receipt.specs.Form.{first_at, Without}
use Rattle.receipt.specs.Line.{count_of}
use Rattle.receipt.specs.Separated.{after, skip}
use Rattle.receipt.specs.Settings.{between, name_text, name_of, name_good, csp_good, settings_good}
use Rattle.receipt.specs.declared.settings.Letters.{Letters}
use Rattle.receipt.specs.declared.settings.Letters.TheVariants.{Id, Serial}
use Rattle.receipt.specs.declared.settings.Name.{Name}
use Rattle.receipt.specs.declared.settings.Settings.{Settings}
use Rattle.receipt.proofs.MarkCounts.{count_append, count_none, none_counted}
use Rattle.receipt.proofs.Names.{GoodName, GoodSettings, good_settings, letters_no_mark, text_of, name_of_lem}
use Rattle.exports.specs.Naming.{middle, field_of, settings_in, payload_names, not_named, named_by, named}
use Rattle.exports.specs.Names.{NamesIn, NamesRegister, FirstReceiptExactly}
use Rattle.exports.specs.Naming.{Named}
use Rattle.exports.proofs.NamedRaw.{upto, past, middle_is}
use Rattle.exports.proofs.PayloadNames.{name_long}
use Rattle.exports.proofs.Splits.{front, rest, split, count_rest, front_without, front_at, rest_at, count_at, after_at, split_after, count_after, Before, split_many, count_many, skip_many}

abbrev named_as : Settings → Named
named_as s = record { good = true; settings = s }

-- ---- a payload that names is put together from its fields

record Tests (p : List ℕ) : Type 0 where
  begins : take 4 p ≡ beginning
  twelve : count_of separator p ≡ 12
  six : length (field_of 1 p) ≡ 6
  good : settings_good (settings_in p) ≡ true

tests : (p : List ℕ) → payload_names p ≡ true → Tests p
unfolding payload_names
tests p e =
    let a = both (same (take 4 p) beginning) (eqb (count_of separator p) 12 && (eqb (length (field_of 1 p)) 6 && settings_good (settings_in p))) e in
    let b = both (eqb (count_of separator p) 12) (eqb (length (field_of 1 p)) 6 && settings_good (settings_in p)) a.1 in
    let d = both (eqb (length (field_of 1 p)) 6) (settings_good (settings_in p)) b.1 in
    record { begins = same_true (take 4 p) beginning a.0; twelve = eqb-true (count_of separator p) 12 b.0; six = eqb-true (length (field_of 1 p)) 6 d.0; good = d.1 }

-- the name of a short field spells it
field_text : (f : List ℕ) → (name_of f).len ≤ 32 → name_text (name_of f) ≡ f
unfolding name_of
field_text f h = text_of f h

module _ (r : List ℕ) (t : Tests (beginning ++ r)) where
  abbrev p : List ℕ
  p = beginning ++ r

  abbrev s : Settings
  s = settings_in p

  abbrev r₂ : List ℕ
  r₂ = after r

  abbrev r₃ : List ℕ
  r₃ = after r₂

  eleven : count_of separator r ≡ 11
  unfolding beginning ascii count_of
  eleven = omega (arith, t.twelve)

  csp_is : s.csp ≡ front separator r
  unfolding settings_in field_of skip after first_at beginning ascii
  csp_is = refl

  csp_long : length (front separator r) ≡ 3
  unfolding field_of skip after first_at beginning ascii
  csp_long = omega (arith, t.six)

  id_is : s.id ≡ name_of (front separator r₂)
  unfolding settings_in field_of skip after beginning ascii
  id_is = refl

  serial_is : s.serial ≡ name_of (front separator (skip 8 r₃))
  unfolding settings_in field_of skip after beginning ascii
  serial_is = refl

  found : NamesIn p s
  found =
      record {
        middle = m.text;
        last = after r₁₁;
        fields = ap (λ (l : List ℕ). beginning ++ l) spelled;
        eight = m.count;
        one = none_counted separator (after r₁₁) (omega (arith, last_one, count_after r₁₁ (omega (arith, last_one))));
        sizes = record {
          csp = ap length csp_is ∙ csp_long;
          id = ap (λ (n : Name). length n.bytes) id_is ∙ name_long (front separator r₂);
          serial = ap (λ (n : Name). length n.bytes) serial_is ∙ name_long (front separator r₁₁);
        };
        good = t.good;
      }
    where
      r₁₁ : List ℕ
      r₁₁ = skip 8 r₃

      g : GoodSettings s
      g = good_settings s t.good

      c₂ : count_of separator r₂ ≡ 10
      c₂ = omega (arith, eleven, count_after r (omega (arith, eleven)))

      c₃ : count_of separator r₃ ≡ 9
      c₃ = omega (arith, c₂, count_after r₂ (omega (arith, c₂)))

      m : Before 7 r₃
      m = split_many 7 r₃ (omega (arith, c₃))

      last_one : count_of separator r₁₁ ≡ 1
      last_one = omega (arith, c₃, count_many 7 r₃ m)

      id_text : name_text s.id ≡ front separator r₂
      id_text = ap name_text id_is ∙ field_text (front separator r₂) (subst (λ (n : Name). n.len ≤ 32) id_is g.id.most)

      serial_text : name_text s.serial ≡ front separator r₁₁
      serial_text = ap name_text serial_is ∙ field_text (front separator r₁₁) (subst (λ (n : Name). n.len ≤ 32) serial_is g.serial.most)

      spelled : r ≡ s.csp ++ (separator ∷ (name_text s.id ++ (separator ∷ (m.text ++ (separator ∷ (name_text s.serial ++ (separator ∷ after r₁₁)))))))
      spelled =
          split_after r (omega (arith, eleven))
          ∙ (λ i. sym csp_is i ++ (separator ∷ (split_after r₂ (omega (arith, c₂)) ∙ (λ j. sym id_text j ++ (separator ∷ (m.is ∙ (λ k. m.text ++ (separator ∷ (split_after r₁₁ (omega (arith, last_one)) ∙ (λ n. sym serial_text n ++ (separator ∷ after r₁₁))) k))) j))) i))

names_in : (p : List ℕ) → payload_names p ≡ true → NamesIn p (settings_in p)
names_in p e =
    let t = tests p e in
    let q : p ≡ beginning ++ drop 4 p = sym (take-append-drop 4 p) ∙ ap (λ (l : List ℕ). l ++ drop 4 p) t.begins in
    subst (λ (l : List ℕ). NamesIn l (settings_in l)) (sym q) (found (drop 4 p) (subst Tests q t))

-- ---- and fields that are put together are those of a payload that names

module _ (csp i m z l : List ℕ) (w₁ : Without separator csp) (w₂ : Without separator i) (c : count_of separator m ≡ 7) (w₁₁ : Without separator z) (w₁₂ : Without separator l) where
  abbrev t₁₁ : List ℕ
  t₁₁ = z ++ (separator ∷ l)

  abbrev t₃ : List ℕ
  t₃ = m ++ (separator ∷ t₁₁)

  abbrev t₂ : List ℕ
  t₂ = i ++ (separator ∷ t₃)

  abbrev t : List ℕ
  t = beginning ++ (csp ++ (separator ∷ t₂))

  counted : count_of separator t ≡ 12
  unfolding beginning ascii count_of
  counted =
      omega (arith, count_at separator csp t₂ w₁, count_at separator i t₃ w₂, count_append separator m (separator ∷ t₁₁), c, count_at separator z l w₁₁, count_none separator l w₁₂)

  abbrev first : List ℕ
  first = 82 ∷ 49 ∷ 45 ∷ csp

  first_without : Without separator first
  unfolding count_of
  first_without = none_counted separator first (count_none separator csp w₁)

  field_1 : field_of 1 t ≡ first
  unfolding field_of skip after beginning ascii
  field_1 = front_at separator first t₂ first_without

  skip_2 : skip 2 t ≡ t₂
  unfolding skip after beginning ascii
  skip_2 = after_at csp t₂ w₁

  skip_3 : skip 3 t ≡ t₃
  unfolding skip after beginning ascii
  skip_3 = ap after skip_2 ∙ after_at i t₃ w₂

  skip_11 : skip 11 t ≡ t₁₁
  unfolding skip after beginning ascii
  skip_11 = ap (skip 8) skip_3 ∙ skip_many 7 m t₁₁ c

  field_2 : field_of 2 t ≡ i
  unfolding field_of
  field_2 = ap (front separator) skip_2 ∙ front_at separator i t₃ w₂

  field_11 : field_of 11 t ≡ z
  unfolding field_of
  field_11 = ap (front separator) skip_11 ∙ front_at separator z l w₁₁

  settings_are : settings_in t ≡ record { csp = csp; id = name_of i; serial = name_of z }
  unfolding settings_in
  settings_are = λ j. record { csp = drop 3 (field_1 j); id = name_of (field_2 j); serial = name_of (field_11 j) }

  begun : same (take 4 t) beginning ≡ true
  unfolding beginning ascii
  begun = same_refl beginning

  names_all : length csp ≡ 3 → settings_good (settings_in t) ≡ true → payload_names t ≡ true
  unfolding payload_names
  names_all h g =
      rw (begun, eq-eqb (count_of separator t) 12 counted, eq-eqb (length (field_of 1 t)) 6 (ap length field_1 ∙ omega (arith, h))) g

within : (low high b : ℕ) → between low high b ≡ true → (low ≤ b) × (b ≤ high)
unfolding between
within low high b e = let q = both (leb low b) (leb b high) e in (leb-true low b q.0, leb-true b high q.1)

csp_without : (csp : List ℕ) → length csp ≡ 3 → csp_good csp ≡ true → Without separator csp
unfolding csp_good
csp_without csp h e = record { at = at }
  where
    a : (between 65 90 (get_or csp 0 0) ≡ true) × (between 65 90 (get_or csp 1 0) && between 48 57 (get_or csp 2 0) ≡ true)
    a = both (between 65 90 (get_or csp 0 0)) (between 65 90 (get_or csp 1 0) && between 48 57 (get_or csp 2 0)) e

    b : (between 65 90 (get_or csp 1 0) ≡ true) × (between 48 57 (get_or csp 2 0) ≡ true)
    b = both (between 65 90 (get_or csp 1 0)) (between 48 57 (get_or csp 2 0)) a.1

    at : (i : ℕ) → i < length csp → get_or csp i 0 ≡ separator → ⊥
    at zero k q = omega (arith, q, within 65 90 (get_or csp 0 0) a.0)
    at (suc zero) k q = omega (arith, q, within 65 90 (get_or csp 1 0) b.0)
    at (suc (suc zero)) k q = omega (arith, q, within 48 57 (get_or csp 2 0) b.1)
    at (suc (suc (suc i))) k q = absurd (omega (arith, h))

name_without : (class : Letters) (n : Name) → GoodName class n → Without separator (name_text n)
name_without class n g = record { at = λ i h q. letters_no_mark class (name_text n) g.letters i q }

module _ (p : List ℕ) (s : Settings) (n : NamesIn p s) where
  g : GoodSettings s
  g = good_settings s n.good

  names_good : (name_good Id s.id ≡ true) × (name_good Serial s.serial ≡ true)
  unfolding settings_good
  names_good = both (name_good Id s.id) (name_good Serial s.serial) (both (csp_good s.csp) (name_good Id s.id && name_good Serial s.serial) n.good).1

  w₁ : Without separator s.csp
  w₁ = csp_without s.csp n.sizes.csp g.csp

  w₂ : Without separator (name_text s.id)
  w₂ = name_without Id s.id g.id

  w₁₁ : Without separator (name_text s.serial)
  w₁₁ = name_without Serial s.serial g.serial

  settings_back : settings_in p ≡ s
  settings_back =
      ap settings_in n.fields ∙ settings_are s.csp (name_text s.id) n.middle (name_text s.serial) n.last w₁ w₂ n.eight w₁₁ n.one
      ∙ (λ j. record { csp = s.csp; id = name_of_lem Id s.id n.sizes.id names_good.0 j; serial = name_of_lem Serial s.serial n.sizes.serial names_good.1 j })

  payload_names_lem : payload_names p ≡ true
  payload_names_lem =
      ap payload_names n.fields
      ∙ names_all s.csp (name_text s.id) n.middle (name_text s.serial) n.last w₁ w₂ n.eight w₁₁ n.one n.sizes.csp
      (ap settings_good (sym (ap settings_in n.fields) ∙ settings_back) ∙ n.good)

-- ---- the receipt

record Found (w : List ℕ) (s : Settings) : Type 0 where
  two : count_of dot w ≡ 2
  payload : List ℕ
  decoded : decoding UrlSafe (middle w) ≡ some payload
  names : payload_names payload ≡ true
  is : settings_in payload ≡ s

unlike : {X : Type 0} (s : Settings) → not_named ≡ named_as s → X
unlike s e = true-is-not-false (ap (λ (n : Named). n.good) e)

found_in_lem : (w : List ℕ) (s : Settings) → named w ≡ named_as s → Found w s
unfolding named
found_in_lem w s = go (eqb (count_of dot w) 2) refl (decoding UrlSafe (middle w)) refl
  where
    yes : count_of dot w ≡ 2 → (p : List ℕ) → decoding UrlSafe (middle w) ≡ some p → (b : Bool) → payload_names p ≡ b → cond b (named_as (settings_in p)) not_named ≡ named_as s → Found w s
    yes c p d true n e = record { two = c; payload = p; decoded = d; names = n; is = ap (λ (n : Named). n.settings) e }
    yes c p d false n e = unlike s e

    go : (b : Bool) → eqb (count_of dot w) 2 ≡ b → (o : Option (List ℕ)) → decoding UrlSafe (middle w) ≡ o → cond b (named_by o) not_named ≡ named_as s → Found w s
    go true c (some p) d e = yes (eqb-true (count_of dot w) 2 c) p d (payload_names p) refl e
    go true c none d e = unlike s e
    go false c o d e = unlike s e

module _ (w : List ℕ) (s : Settings) (b : AllBytes w) (f : Found w s) where
  abbrev v : List ℕ
  v = rest dot w

  c₁ : count_of dot v ≡ 1
  c₁ = omega (arith, f.two, count_rest dot w (omega (arith, f.two)))

  middle_front : middle w ≡ front dot v
  unfolding upto past
  middle_front = middle_is w

  exact : AllBytes f.payload × (front dot v ≡ encoding UrlSafe f.payload)
  exact =
      (decoding_is_exact UrlSafe (front dot v) f.payload (bytes_take (first_at dot v) (bytes_drop (suc (first_at dot w)) b))).0
      (ap (decoding UrlSafe) (sym middle_front) ∙ f.decoded)

  register : NamesRegister w s
  register =
      record {
        first = front dot w;
        payload = f.payload;
        third = rest dot v;
        text = split dot w (omega (arith, f.two))
            ∙ (λ i. front dot w ++ (dot ∷ (split dot v (omega (arith, c₁)) ∙ (λ j. exact.1 j ++ (dot ∷ rest dot v))) i));
        first_whole = front_without dot w;
        third_whole = none_counted dot (rest dot v) (omega (arith, c₁, count_rest dot v (omega (arith, c₁))));
        bytes = exact.0;
        names = subst (NamesIn f.payload) f.is (names_in f.payload f.names);
      }

module _ (w : List ℕ) (s : Settings) (r : NamesRegister w s) where
  abbrev e : List ℕ
  e = encoding UrlSafe r.payload

  abbrev u : List ℕ
  u = e ++ (dot ∷ r.third)

  whole : Without dot e
  whole = record { at = no_dot UrlSafe r.payload }

  two : count_of dot w ≡ 2
  two =
      ap (count_of dot) r.text ∙ count_at dot r.first u r.first_whole
      ∙ omega (arith, count_at dot e r.third whole, count_none dot r.third r.third_whole)

  middle_at : middle w ≡ e
  unfolding upto past
  middle_at =
      middle_is w ∙ ap (λ (l : List ℕ). front dot (rest dot l)) r.text ∙ ap (front dot) (rest_at dot r.first u r.first_whole)
      ∙ front_at dot e r.third whole

  back : named w ≡ named_as s
  unfolding named
  back =
      ap (λ (b : Bool). cond b (named_by (decoding UrlSafe (middle w))) not_named) (eq-eqb (count_of dot w) 2 two)
      ∙ ap named_by (ap (decoding UrlSafe) middle_at ∙ decoding_undoes_encoding UrlSafe r.payload r.bytes)
      ∙ ap (λ (b : Bool). cond b (named_as (settings_in r.payload)) not_named) (payload_names_lem r.payload s r.names)
      ∙ ap named_as (settings_back r.payload s r.names)

pub first_receipt_exactly : FirstReceiptExactly
first_receipt_exactly w s b = (λ h. register w s b (found_in_lem w s h), back w s)
