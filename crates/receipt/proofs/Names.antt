-- Names: a register ID or a serial, its text, and what is known of a good one.
use Rattle.std.proofs.Common.{◌≡◌, ℕ, zero, suc, ◌-◌, ◌<◌, ◌≤◌, min, Bool, true, false, not, ◌&&◌, ◌||◌, leb, eqb, List, [], ◌∷◌, ◌++◌, length, get_or, take, drop, replicate, refl, sym, ap, ◌∙◌, arith, take_all, take_at, drop_at, length-take-le, le-leb, leb-true, eqb-true, length-take, length-drop, take-append-drop}
use Rattle.std.proofs.lemmas.Bool.{eqb-false, not-true}
use Rattle.std.proofs.lemmas.List.{take_min, drop-replicate}
use mathlib.Core.Bool.{and-true}
use Rattle.std.specs.List.{list_all}
use Rattle.std.specs.Char.{is_ascii_digit}
use Rattle.primitives.specs.Bytes.{AllBytes}
use Rattle.primitives.specs.Counter.{width_good}
use Rattle.primitives.specs.Questions.{ask}
use Rattle.primitives.proofs.ByteLists.{bytes_nil, bytes_cons}
use Rattle.receipt.specs.declared.settings.Name.{Name}
use Rattle.receipt.specs.declared.settings.Settings.{Settings}
use Rattle.receipt.specs.declared.settings.Letters.{Letters}
use Rattle.receipt.specs.declared.settings.Letters.TheVariants.{Id, Serial, Zero}
use Rattle.receipt.specs.Settings.{between, id_letter, serial_letter, letter_good, every, name_text, name_good, name_of, csp_good, id_good, serial_good, settings_good, ends_in_digit, id_allowed, settings_number_for, sized, UnsharedAsksOneToFour}
use Rattle.primitives.proofs.Rows.{both, ask_zero, ask_yes, ask_no}

-- ---- `all` over the bytes of one class

pub every_all : (class : Letters) (s : List ℕ) → list_all (letter_good class) s ≡ every class s
unfolding every
every_all class [] = refl
every_all class (b ∷ bs) = ap (λ (t : Bool). letter_good class b && t) (every_all class bs)

-- a digit, as the method tells it
pub digit_is : (b : ℕ) → is_ascii_digit b ≡ between 48 57 b
unfolding between
digit_is b = grind arith

-- ---- what is known of a good name

pub record GoodName (class : Letters) (name : Name) : Type 0 where
  pub some : 1 ≤ name.len
  pub most : name.len ≤ 32
  pub letters : every class (name_text name) ≡ true
  pub zeros : every Zero (drop name.len name.bytes) ≡ true

pub good_name : (class : Letters) (name : Name) → name_good class name ≡ true → GoodName class name
unfolding name_good
good_name class name e =
    let a = both _ _ e in
    let b = both _ _ a.1 in
    let d = both _ _ b.1 in
    record { some = leb-true 1 name.len a.0; most = leb-true name.len 32 b.0; letters = d.0; zeros = d.1 }

every_both : (class : Letters) (b : ℕ) (t : List ℕ) → every class (b ∷ t) ≡ true → (letter_good class b ≡ true) × (every class t ≡ true)
unfolding every
every_both class b t e = both (letter_good class b) (every class t) e

between_true : (low high b : ℕ) → between low high b ≡ true → (low ≤ b) × (b ≤ high)
unfolding between
between_true low high b e = let p = both (leb low b) (leb b high) e in (leb-true low b p.0, leb-true b high p.1)

-- a byte of a class is below 128 and not '_'
letter_is : (class : Letters) (b : ℕ) → letter_good class b ≡ true → (b < 128) × (b ≡ 95 → ⊥)
unfolding id_letter serial_letter
letter_is Id b e =
    let p = both (not (eqb b 95)) (between 33 126 b) e in
    (omega (arith, (between_true 33 126 b p.1).1), eqb-false b 95 (not-true (eqb b 95) p.0))
letter_is Serial b e = go (between 48 57 b) refl e
  where
    go : (t : Bool) → between 48 57 b ≡ t → t || between 97 102 b ≡ true → (b < 128) × (b ≡ 95 → ⊥)
    go true p q = (omega (arith, (between_true 48 57 b p).1), λ n. omega (arith, (between_true 48 57 b p).1))
    go false p q = (omega (arith, (between_true 97 102 b q).1), λ n. omega (arith, (between_true 97 102 b q).0))
letter_is Zero b e = (omega (arith, eqb-true b 0 e), λ n. omega (arith, eqb-true b 0 e))

pub letters_bytes : (class : Letters) (t : List ℕ) → every class t ≡ true → AllBytes t
letters_bytes class [] e = bytes_nil
letters_bytes class (b ∷ t) e =
    let p = every_both class b t e in
    bytes_cons (omega (arith, (letter_is class b p.0).0)) (letters_bytes class t p.1)

-- neither an ID nor a serial has a '_'
pub letters_no_mark : (class : Letters) (t : List ℕ) → every class t ≡ true → (i : ℕ) → get_or t i 0 ≡ 95 → ⊥
letters_no_mark class [] e i q = omega arith
letters_no_mark class (b ∷ t) e zero q = (letter_is class b (every_both class b t e).0).1 q
letters_no_mark class (b ∷ t) e (suc i) q = letters_no_mark class t (every_both class b t e).1 i q

-- zeros are zeros
pub zeros_are : (t : List ℕ) → every Zero t ≡ true → t ≡ replicate (length t) 0
zeros_are [] e = refl
zeros_are (b ∷ t) e = let p = every_both Zero b t e in (λ i. eqb-true b 0 p.0 i ∷ zeros_are t p.1 i)

pub zeros_good : (n : ℕ) → every Zero (replicate n 0) ≡ true
unfolding every
zeros_good zero = refl
zeros_good (suc n) = zeros_good n

-- ---- a name and its text

pub length_text : (name : Name) → length name.bytes ≡ 32 → name.len ≤ 32 → length (name_text name) ≡ name.len
unfolding name_text
length_text name l h = length-take-le name.len name.bytes (omega arith)

-- at most 32 bytes, whatever its length says
pub text_short : (name : Name) → length name.bytes ≡ 32 → length (name_text name) ≤ 32
unfolding name_text
text_short name l = omega (arith, length-take name.len name.bytes)

-- the array of a name is its text, and zeros
array_of : (t : List ℕ) → length t ≤ 32 → (name_of t).bytes ≡ t ++ replicate (32 - length t) 0
unfolding name_of
array_of t h = ap (λ (l : List ℕ). l ++ replicate (32 - length t) 0) (take_all 32 t h)

-- a text of at most 32 bytes is that of its name
pub text_of : (t : List ℕ) → length t ≤ 32 → name_text (name_of t) ≡ t
unfolding name_text name_of
text_of t h = ap (take (length t)) (array_of t h) ∙ take_at t (replicate (32 - length t) 0) (length t) refl

-- a good name is that of its text; so two good names with the same text are equal
pub name_of_lem : (class : Letters) (name : Name) → length name.bytes ≡ 32 → name_good class name ≡ true → name_of (name_text name) ≡ name
unfolding name_text name_of
name_of_lem class name l e = λ i. record { bytes = array i; len = long i }
  where
    g : GoodName class name
    g = good_name class name e

    long : length (name_text name) ≡ name.len
    long = length_text name l g.most

    zs : drop name.len name.bytes ≡ replicate (32 - length (name_text name)) 0
    zs =
        let n : length (drop name.len name.bytes) ≡ 32 - length (name_text name) = omega (arith, long, length-drop name.len name.bytes) in
        zeros_are (drop name.len name.bytes) g.zeros ∙ ap (λ (n : ℕ). replicate n 0) n

    array : (name_of (name_text name)).bytes ≡ name.bytes
    array =
        array_of (name_text name) (text_short name l) ∙ ap (λ (t : List ℕ). name_text name ++ t) (sym zs)
        ∙ take-append-drop name.len name.bytes

pub same_name_lem : (class : Letters) (a b : Name) → length a.bytes ≡ 32 → length b.bytes ≡ 32 → name_good class a ≡ true → name_good class b ≡ true → name_text a ≡ name_text b → a ≡ b
same_name_lem class a b l m e f t = sym (name_of_lem class a l e) ∙ ap name_of t ∙ name_of_lem class b m f

-- the name of a text is good where the text is 1 to 32 letters
pub good_of : (class : Letters) (t : List ℕ) → name_good class (name_of t) ≡ leb 1 (length t) && (leb (length t) 32 && every class t)
unfolding name_good name_of
good_of class t = go (leb (length t) 32) refl
  where
    go : (q : Bool) → leb (length t) 32 ≡ q
        → leb 1 (length t) && (q && (every class (name_text (name_of t)) && every Zero (drop (length t) (name_of t).bytes))) ≡ leb 1 (length t) && (q && every class t)
    go true e =
        let h : length t ≤ 32 = leb-true (length t) 32 e in
        let z : every Zero (drop (length t) (name_of t).bytes) ≡ true = ap (λ (l : List ℕ). every Zero (drop (length t) l)) (array_of t h) ∙ ap (every Zero) (drop_at t (replicate (32 - length t) 0) (length t) refl) ∙ zeros_good (32 - length t) in
        rw (text_of t h, z, and-true (every class t))
    go false e = refl

-- the part of a list up to n or its end, whichever comes first
pub take_lesser : (k : ℕ) (xs : List ℕ) {n : ℕ} → n ≡ min k (length xs) → take (n - 0) xs ≡ take k xs
take_lesser k xs {n} e = let m : n - 0 ≡ min k (length xs) = omega arith in ap (λ (j : ℕ). take j xs) m ∙ take_min k xs

-- ---- a text that is copied into an array of zeros

-- the first n bytes of the text, and the zeros after them
pub put_name : (t : List ℕ) {n : ℕ} {b : List ℕ} → n ≡ min (length t) 32 → b ≡ take n t
    → ◌≡◌ {A = Name} (record { bytes = b ++ drop n (replicate 32 0); len = length t }) (name_of t)
unfolding name_of
put_name t {n} {b} e q = λ i. record { bytes = array i; len = length t }
  where
    copied : take n t ≡ take 32 t
    copied = let m : n ≡ min 32 (length t) = omega arith in ap (λ (k : ℕ). take k t) m ∙ take_min 32 t

    left : 32 - n ≡ 32 - length t
    left = omega arith

    array : b ++ drop n (replicate 32 0) ≡ take 32 t ++ replicate (32 - length t) 0
    array = rw (q, copied, drop-replicate {X = ℕ} n 32 0, left)

-- ---- good settings

pub record GoodSettings (s : Settings) : Type 0 where
  pub csp : csp_good s.csp ≡ true
  pub id : GoodName Id s.id
  pub serial : GoodName Serial s.serial

pub good_settings : (s : Settings) → settings_good s ≡ true → GoodSettings s
unfolding settings_good
good_settings s e =
    let a = both (csp_good s.csp) (id_good s.id && serial_good s.serial) e in
    let b = both (id_good s.id) (serial_good s.serial) a.1 in
    record { csp = a.0; id = good_name Id s.id b.0; serial = good_name Serial s.serial b.1 }

pub good_sized : (s : Settings) → settings_good s ≡ true → sized s ≡ true
unfolding sized
good_sized s e =
    let g = good_settings s e in
    rw (le-leb s.id.len 32 g.id.most, le-leb s.serial.len 32 g.serial.most)

-- ---- the IDs of a key that is not shared, and of a shared one

-- every one
pub id_own : (id : Name) → id_allowed false id ≡ true
unfolding id_allowed
id_own id = refl

-- those that do not end in a digit
pub id_shared : (id : Name) → id_allowed true id ≡ not (ends_in_digit id)
unfolding id_allowed
id_shared id = refl

-- ---- questions 1, 2, 32, 3 and 4 in a row

-- the questions after these decide where all answers are yes
pub settings_yes : (s : Settings) (shared : Bool) (n rest : ℕ) → settings_good s ≡ true → id_allowed shared s.id ≡ true → width_good n ≡ true
    → settings_number_for s shared n rest ≡ rest
unfolding settings_good settings_number_for
settings_yes s shared n rest g k w =
    let a = both (csp_good s.csp) (id_good s.id && serial_good s.serial) g in
    let b = both (id_good s.id) (serial_good s.serial) a.1 in
    ask_yes 1 _ a.0 ∙ ask_yes 2 _ b.0 ∙ ask_yes 32 _ k ∙ ask_yes 3 _ b.1 ∙ ask_yes 4 rest w

pub settings_zero : (s : Settings) (shared : Bool) (n rest : ℕ) → settings_number_for s shared n rest ≡ 0
    → (settings_good s ≡ true) × (width_good n ≡ true) × (rest ≡ 0) × (id_allowed shared s.id ≡ true)
unfolding settings_good settings_number_for
settings_zero s shared n rest e =
    let a = ask_zero (csp_good s.csp) 0 _ e in
    let b = ask_zero (id_good s.id) 1 _ a.1 in
    let k = ask_zero (id_allowed shared s.id) 31 _ b.1 in
    let d = ask_zero (serial_good s.serial) 2 _ k.1 in
    let w = ask_zero (width_good n) 3 rest d.1 in
    (rw (a.0, b.0, d.0), w.0, w.1, k.0)

pub settings_pass : (s : Settings) (shared : Bool) (n rest : ℕ) → settings_number_for s shared n 0 ≡ 0 → settings_number_for s shared n rest ≡ rest
settings_pass s shared n rest e = let z = settings_zero s shared n 0 e in settings_yes s shared n rest z.0 z.3 z.1

-- a question whose rest counts only where its answer is yes
rest_of : (b : Bool) (n rest other : ℕ) → (b ≡ true → rest ≡ other) → ask b n rest ≡ ask b n other
rest_of true n rest other h = ap (ask true n) (h refl)
rest_of false n rest other h = ask_no n rest refl ∙ sym (ask_no n other refl)

-- a row that says no before its end says the same before every rest
pub settings_stop : (s : Settings) (shared : Bool) (n rest : ℕ) → (settings_number_for s shared n 0 ≡ 0 → ⊥)
    → settings_number_for s shared n rest ≡ settings_number_for s shared n 0
unfolding settings_number_for
settings_stop s shared n rest h =
    rest_of (csp_good s.csp) 1 _ _
    (λ a. rest_of (id_good s.id) 2 _ _
    (λ b. rest_of (id_allowed shared s.id) 32 _ _
    (λ k. rest_of (serial_good s.serial) 3 _ _
    (λ d. rest_of (width_good n) 4 rest 0
    (λ w. absurd (h (ask_yes 1 _ a ∙ ask_yes 2 _ b ∙ ask_yes 32 _ k ∙ ask_yes 3 _ d ∙ ask_yes 4 0 w)))))))

pub unshared_asks_one_to_four : UnsharedAsksOneToFour
unfolding settings_number_for
unshared_asks_one_to_four s n rest =
    ap (λ (k : ℕ). ask (csp_good s.csp) 1 (ask (id_good s.id) 2 k)) (ask_yes 32 (ask (serial_good s.serial) 3 (ask (width_good n) 4 rest)) (id_own s.id))
