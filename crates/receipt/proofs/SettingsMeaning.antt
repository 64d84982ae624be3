-- Good settings in the paper's words, and the order in which they are asked.
use Rattle.std.proofs.Common.{ℕ, zero, suc, ◌+◌, ◌-◌, ◌<◌, ◌≤◌, ◌≡◌, refl, sym, ap, ◌∙◌, subst, Bool, true, false, not, ◌&&◌, ◌||◌, List, [], ◌∷◌, inl, inr, arith, le-leb, leb-true, eqb-true, eq-eqb, ne_eqb, leb, eqb, length, get_or, take, drop, length-take-le, get_or-take, get_or-drop}
use Rattle.std.proofs.lemmas.Bool.{eqb-false, not-true}
use Rattle.primitives.specs.Counter.{width_good}
use Rattle.primitives.specs.Questions.{Row, asked_all, GivesFirstNo}
use Rattle.primitives.proofs.FirstNo.{gives_none, gives_ask, gives_same}
use Rattle.primitives.proofs.Rows.{both, true-is-not-false}
use Rattle.receipt.specs.Settings.{between, id_letter, serial_letter, letter_good, every, name_text, name_good, csp_good, id_good, serial_good, settings_good, ends_in_digit, id_allowed, settings_number_for, SettingsLengths}
use Rattle.receipt.specs.SettingsWords.{Capital, Digit, IdByte, SerialByte, GoodCsp, GoodId, GoodSerial, GoodWidth, NoDigitIfShared, AllGood, CspGoodMeans, IdGoodMeans, SerialGoodMeans, WidthGoodMeans, IdAllowedMeans, SettingsGoodMeans, settings_row, SettingsNumberIsFirstNo, one_to_four, OneToFourIsFirstNo}
use Rattle.receipt.specs.declared.settings.Name.{Name}
use Rattle.receipt.specs.declared.settings.Settings.{Settings}
use Rattle.receipt.specs.declared.settings.Letters.{Letters}
use Rattle.receipt.specs.declared.settings.Letters.TheVariants.{Id, Serial, Zero}
use Rattle.receipt.proofs.Names.{good_name, unshared_asks_one_to_four}

-- ---- letters

between_is : (low high b : ℕ) → between low high b ≡ true → (low ≤ b) × (b ≤ high)
unfolding between
between_is low high b e = let p = both (leb low b) (leb b high) e in (leb-true low b p.0, leb-true b high p.1)

is_between : (low high b : ℕ) → low ≤ b → b ≤ high → between low high b ≡ true
unfolding between
is_between low high b h k = rw (le-leb low b h, le-leb b high k)

capital_only : (b : ℕ) → between 65 90 b ≡ true → Capital b
capital_only b e = let p = between_is 65 90 b e in record { least = p.0; most = p.1 }

capital_always : (b : ℕ) → Capital b → between 65 90 b ≡ true
capital_always b c = is_between 65 90 b c.least c.most

digit_only : (b : ℕ) → between 48 57 b ≡ true → Digit b
digit_only b e = let p = between_is 48 57 b e in record { least = p.0; most = p.1 }

digit_always : (b : ℕ) → Digit b → between 48 57 b ≡ true
digit_always b c = is_between 48 57 b c.least c.most

id_letter_only : (b : ℕ) → letter_good Id b ≡ true → IdByte b
unfolding id_letter
id_letter_only b e =
    let p = both (not (eqb b 95)) (between 33 126 b) e in
    let q = between_is 33 126 b p.1 in
    record { least = q.0; most = q.1; no_mark = eqb-false b 95 (not-true (eqb b 95) p.0) }

id_letter_always : (b : ℕ) → IdByte b → letter_good Id b ≡ true
unfolding id_letter
id_letter_always b c = rw (ne_eqb b 95 c.no_mark, is_between 33 126 b c.least c.most)

serial_letter_only : (b : ℕ) → letter_good Serial b ≡ true → SerialByte b
unfolding serial_letter
serial_letter_only b e = go (between 48 57 b) refl e
  where
    go : (t : Bool) → between 48 57 b ≡ t → t || between 97 102 b ≡ true → SerialByte b
    go true p q = inl (digit_only b p)
    go false p q = let r = between_is 97 102 b q in inr (record { least = r.0; most = r.1 })

serial_letter_always : (b : ℕ) → SerialByte b → letter_good Serial b ≡ true
unfolding serial_letter
serial_letter_always b (inl c) = rw (digit_always b c)
serial_letter_always b (inr c) = go (between 48 57 b)
  where
    go : (t : Bool) → t || between 97 102 b ≡ true
    go true = refl
    go false = is_between 97 102 b c.least c.most

-- ---- every letter, by its place

every_both : (class : Letters) (b : ℕ) (t : List ℕ) → every class (b ∷ t) ≡ true → (letter_good class b ≡ true) × (every class t ≡ true)
unfolding every
every_both class b t e = both (letter_good class b) (every class t) e

every_at : (class : Letters) (t : List ℕ) → every class t ≡ true → (i : ℕ) → i < length t → letter_good class (get_or t i 0) ≡ true
every_at class [] e i h = absurd (omega arith)
every_at class (b ∷ t) e zero h = (every_both class b t e).0
every_at class (b ∷ t) e (suc i) h = every_at class t (every_both class b t e).1 i (omega arith)

every_all : (class : Letters) (t : List ℕ) → ((i : ℕ) → i < length t → letter_good class (get_or t i 0) ≡ true) → every class t ≡ true
unfolding every
every_all class [] h = refl
every_all class (b ∷ t) h = rw (h 0 (omega arith), every_all class t (λ i g. h (suc i) (omega arith)))

zeros_at : (t : List ℕ) → every Zero t ≡ true → (i : ℕ) → get_or t i 0 ≡ 0
zeros_at [] e i = refl
zeros_at (b ∷ t) e zero = eqb-true b 0 (every_both Zero b t e).0
zeros_at (b ∷ t) e (suc i) = zeros_at t (every_both Zero b t e).1 i

-- ---- names

module _ (class : Letters) (name : Name) (l : length name.bytes ≡ 32) where
  name_only : name_good class name ≡ true → (i : ℕ) → i < name.len → letter_good class (get_or name.bytes i 0) ≡ true
  unfolding name_text
  name_only e i h =
      let g = good_name class name e in
      let n : length (take name.len name.bytes) ≡ name.len = length-take-le name.len name.bytes (omega (arith, g.most)) in
      subst (λ (b : ℕ). letter_good class b ≡ true) (get_or-take name.len name.bytes i 0 h) (every_at class (name_text name) g.letters i (omega arith))

  zeros_only : name_good class name ≡ true → (i : ℕ) → name.len ≤ i → get_or name.bytes i 0 ≡ 0
  zeros_only e i h =
      let j : name.len + (i - name.len) ≡ i = omega arith in
      sym (get_or-drop name.len name.bytes (i - name.len) 0 ∙ ap (λ (k : ℕ). get_or name.bytes k 0) j)
      ∙ zeros_at (drop name.len name.bytes) (good_name class name e).zeros (i - name.len)

  name_always : 1 ≤ name.len → name.len ≤ 32 → ((i : ℕ) → i < name.len → letter_good class (get_or name.bytes i 0) ≡ true)
      → ((i : ℕ) → name.len ≤ i → get_or name.bytes i 0 ≡ 0) → name_good class name ≡ true
  unfolding name_good name_text
  name_always some most letters zs =
      let n : length (take name.len name.bytes) ≡ name.len = length-take-le name.len name.bytes (omega arith) in
      rw (le-leb 1 name.len some, le-leb name.len 32 most, every_all class (take name.len name.bytes) (λ i h. subst (λ (b : ℕ). letter_good class b ≡ true) (sym (get_or-take name.len name.bytes i 0 (omega arith))) (letters i (omega arith))), every_all Zero (drop name.len name.bytes) (λ i h. eq-eqb (get_or (drop name.len name.bytes) i 0) 0 (get_or-drop name.len name.bytes i 0 ∙ zs (name.len + i) (omega arith))))

-- ---- what the answers mean

pub csp_means : CspGoodMeans
unfolding csp_good
csp_means csp = record { only = only; always = always }
  where
    only : between 65 90 (get_or csp 0 0) && (between 65 90 (get_or csp 1 0) && between 48 57 (get_or csp 2 0)) ≡ true → GoodCsp csp
    only e =
        let p = both (between 65 90 (get_or csp 0 0)) (between 65 90 (get_or csp 1 0) && between 48 57 (get_or csp 2 0)) e in
        let q = both (between 65 90 (get_or csp 1 0)) (between 48 57 (get_or csp 2 0)) p.1 in
        record { first = capital_only (get_or csp 0 0) p.0; second = capital_only (get_or csp 1 0) q.0; third = digit_only (get_or csp 2 0) q.1 }

    always : GoodCsp csp → between 65 90 (get_or csp 0 0) && (between 65 90 (get_or csp 1 0) && between 48 57 (get_or csp 2 0)) ≡ true
    always g = rw (capital_always (get_or csp 0 0) g.first, capital_always (get_or csp 1 0) g.second, digit_always (get_or csp 2 0) g.third)

pub id_means : IdGoodMeans
id_means id l =
    record {
      only = λ e. record {
        some = (good_name Id id e).some;
        most = (good_name Id id e).most;
        letters = λ i h. id_letter_only (get_or id.bytes i 0) (name_only Id id l e i h);
        zeros = zeros_only Id id l e;
      };
      always = λ g. name_always Id id l g.some g.most (λ i h. id_letter_always (get_or id.bytes i 0) (g.letters i h)) g.zeros;
    }

pub serial_means : SerialGoodMeans
serial_means serial l =
    record {
      only = λ e. record {
        some = (good_name Serial serial e).some;
        most = (good_name Serial serial e).most;
        letters = λ i h. serial_letter_only (get_or serial.bytes i 0) (name_only Serial serial l e i h);
        zeros = zeros_only Serial serial l e;
      };
      always = λ g. name_always Serial serial l g.some g.most (λ i h. serial_letter_always (get_or serial.bytes i 0) (g.letters i h)) g.zeros;
    }

pub width_means : WidthGoodMeans
unfolding width_good
width_means n =
    record {
      only = λ e. let p = both (leb 5 n) (leb n 8) e in record { least = leb-true 5 n p.0; most = leb-true n 8 p.1 };
      always = λ g. rw (le-leb 5 n g.least, le-leb n 8 g.most);
    }

-- a test of the last byte
allowed_only : (shared : Bool) (id : Name) → not (shared && between 48 57 (get_or id.bytes (id.len - 1) 0)) ≡ true → NoDigitIfShared shared id
allowed_only true id e =
    record {
      last = λ s i h d.
          let j : id.len - 1 ≡ i = omega arith in
          let f : between 48 57 (get_or id.bytes (id.len - 1) 0) ≡ false = not-true (between 48 57 (get_or id.bytes (id.len - 1) 0)) e in
          true-is-not-false (sym f ∙ ap (λ (k : ℕ). between 48 57 (get_or id.bytes k 0)) j ∙ digit_always (get_or id.bytes i 0) d);
    }
allowed_only false id e = record { last = λ s. true-is-not-false s }

allowed_always : (shared : Bool) (id : Name) → 1 ≤ id.len → NoDigitIfShared shared id → not (shared && between 48 57 (get_or id.bytes (id.len - 1) 0)) ≡ true
allowed_always true id h g = go (between 48 57 (get_or id.bytes (id.len - 1) 0)) refl
  where
    go : (t : Bool) → between 48 57 (get_or id.bytes (id.len - 1) 0) ≡ t → not t ≡ true
    go true q = absurd (g.last refl (id.len - 1) (omega arith) (digit_only (get_or id.bytes (id.len - 1) 0) q))
    go false q = refl
allowed_always false id h g = refl

pub allowed_means : IdAllowedMeans
unfolding id_allowed ends_in_digit
allowed_means shared id h = record { only = allowed_only shared id; always = allowed_always shared id h }

pub settings_mean : SettingsGoodMeans
unfolding settings_good
settings_mean s l =
    record {
      only = λ e.
          let a = both (csp_good s.csp) (id_good s.id && serial_good s.serial) e in
          let b = both (id_good s.id) (serial_good s.serial) a.1 in
          record {
            csp = (csp_means s.csp).only a.0;
            id = (id_means s.id l.id).only b.0;
            serial = (serial_means s.serial l.serial).only b.1;
          };
      always = λ g.
          rw ((csp_means s.csp).always g.csp, (id_means s.id l.id).always g.id, (serial_means s.serial l.serial).always g.serial);
    }

-- ---- the questions in their order, before other questions that are asked where all answers are yes

pub settings_asked : (s : Settings) (shared : Bool) (n rest : ℕ) (row : Row) → SettingsLengths s
    → (AllGood s → NoDigitIfShared shared s.id → GoodWidth n → GivesFirstNo rest row)
    → GivesFirstNo (settings_number_for s shared n rest) (settings_row s shared n row)
unfolding settings_number_for
settings_asked s shared n rest row l more =
    gives_ask (csp_good s.csp) 0 _ (GoodCsp s.csp) _ (csp_means s.csp).only (csp_means s.csp).always
    (λ c. gives_ask (id_good s.id) 1 _ (GoodId s.id) _ (id_means s.id l.id).only (id_means s.id l.id).always
    (λ i. gives_ask (id_allowed shared s.id) 31 _ (NoDigitIfShared shared s.id) _ (allowed_means shared s.id i.some).only (allowed_means shared s.id i.some).always
    (λ k. gives_ask (serial_good s.serial) 2 _ (GoodSerial s.serial) _ (serial_means s.serial l.serial).only (serial_means s.serial l.serial).always
    (λ e. gives_ask (width_good n) 3 rest (GoodWidth n) row (width_means n).only (width_means n).always
    (λ w. more (record { csp = c; id = i; serial = e }) k w)))))

pub one_to_four_asked : (s : Settings) (n rest : ℕ) (row : Row) → SettingsLengths s → (AllGood s → GoodWidth n → GivesFirstNo rest row)
    → GivesFirstNo (settings_number_for s false n rest) (one_to_four s n row)
one_to_four_asked s n rest row l more =
    gives_same (one_to_four s n row) (unshared_asks_one_to_four s n rest)
    (gives_ask (csp_good s.csp) 0 _ (GoodCsp s.csp) _ (csp_means s.csp).only (csp_means s.csp).always
    (λ c. gives_ask (id_good s.id) 1 _ (GoodId s.id) _ (id_means s.id l.id).only (id_means s.id l.id).always
    (λ i. gives_ask (serial_good s.serial) 2 _ (GoodSerial s.serial) _ (serial_means s.serial l.serial).only (serial_means s.serial l.serial).always
    (λ e. gives_ask (width_good n) 3 rest (GoodWidth n) row (width_means n).only (width_means n).always
    (λ w. more (record { csp = c; id = i; serial = e }) w)))))

pub settings_first_no : SettingsNumberIsFirstNo
settings_first_no s shared n l = settings_asked s shared n 0 asked_all l (λ g k w. gives_none)

pub one_to_four_first_no : OneToFourIsFirstNo
one_to_four_first_no s n l = one_to_four_asked s n 0 asked_all l (λ g w. gives_none)
