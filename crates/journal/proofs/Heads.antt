-- The head of a journal: what is read from it, and that a good head is what the writer writes.
use Rattle.std.proofs.Common.{ℕ, ◌+◌, ◌≤◌, ◌<◌, ◌≡◌, refl, sym, ap, ◌∙◌, true, List, [], ◌++◌, append_assoc, arith, leb-true, le-leb, eqb-true, length, drop, length-append, drop_at}
use Rattle.primitives.specs.Bytes.{AllBytes}
use Rattle.primitives.specs.Number.{bytes_of, count_at}
use Rattle.primitives.proofs.Numbers.{length_bytes_of}
use Rattle.primitives.proofs.Rows.{both}
use Rattle.receipt.specs.Settings.{name_text, name_of, settings_good, SettingsLengths, TypedSettings}
use Rattle.receipt.specs.declared.settings.Name.{Name}
use Rattle.receipt.specs.declared.settings.Settings.{Settings}
use Rattle.receipt.specs.declared.settings.Letters.TheVariants.{Id, Serial}
use Rattle.receipt.proofs.Names.{GoodSettings, good_settings, length_text, text_of, name_of_lem}
use Rattle.receipt.proofs.Entries.{len_of, length_array, bytes_array, settings_all}
use Rattle.journal.specs.Head.{section, section_text, section_end, front, head, head_length, count_place, serial_place, count_place_in, serial_at, head_settings, head_good}
use Rattle.primitives.proofs.Counts.{count_in, cut, count_bytes, count_lt}
use Rattle.journal.proofs.Sections.{length_section, section_count, section_text_lem, section_end_lem, text_length, text_bytes, section_there}

-- the receipts count
unfoldable pub count_of : List ℕ → ℕ
count_of j = count_at j (count_place_in j) 4

pub head_front : (s : Settings) (k : ℕ) → head s k ≡ front s ++ bytes_of 4 k
unfolding head
head_front s k = refl

module _ (s : Settings) (t : SettingsLengths s) (g : settings_good s ≡ true) where
  names : GoodSettings s
  names = good_settings s g

  id_long : length (name_text s.id) ≡ s.id.len
  id_long = length_text s.id t.id names.id.most

  serial_long : length (name_text s.serial) ≡ s.serial.len
  serial_long = length_text s.serial t.serial names.serial.most

  csp_end : length (section s.csp) ≡ 7
  csp_end = omega (arith, length_section s.csp, t.csp)

  id_end_lem : length (section s.csp ++ section (name_text s.id)) ≡ 11 + s.id.len
  id_end_lem = length-append (section s.csp) (section (name_text s.id)) ∙ omega (arith, csp_end, length_section (name_text s.id), id_long)

  pub front_long : length (front s) ≡ 15 + s.id.len + s.serial.len
  unfolding front
  front_long =
      length-append (section s.csp ++ section (name_text s.id)) (section (name_text s.serial))
      ∙ omega (arith, id_end_lem, length_section (name_text s.serial), serial_long)

  pub front_place : length (front s) ≡ count_place s
  unfolding count_place head_length
  front_place = omega (arith, front_long)

  pub length_head : (k : ℕ) → length (head s k) ≡ head_length s
  unfolding head_length
  length_head k = ap length (head_front s k) ∙ length-append (front s) (bytes_of 4 k) ∙ omega (arith, front_long, length_bytes_of 4 k)

  -- ---- reading it back, whatever follows it

  module _ (k : ℕ) (few : k < 4294967296) (more : List ℕ) where
    rest : List ℕ
    rest = bytes_of 4 k ++ more

    first : head s k ++ more ≡ [] ++ (section s.csp ++ (section (name_text s.id) ++ (section (name_text s.serial) ++ rest)))
    unfolding head front rest
    first = simp append_assoc

    second : head s k ++ more ≡ section s.csp ++ (section (name_text s.id) ++ (section (name_text s.serial) ++ rest))
    second = first

    third : head s k ++ more ≡ (section s.csp ++ section (name_text s.id)) ++ (section (name_text s.serial) ++ rest)
    third = first ∙ sym (append_assoc (section s.csp) (section (name_text s.id)) (section (name_text s.serial) ++ rest))

    fourth : head s k ++ more ≡ front s ++ (bytes_of 4 k ++ more)
    unfolding head
    fourth = append_assoc (front s) (bytes_of 4 k) more

    read_three : count_at (head s k ++ more) 0 4 ≡ 3
    read_three =
        ap (λ (j : List ℕ). count_at j 0 4) first
        ∙ section_count [] s.csp (section (name_text s.id) ++ (section (name_text s.serial) ++ rest)) 0 refl (omega (arith, t.csp)) ∙ t.csp

    read_csp : section_text (head s k ++ more) 0 ≡ s.csp
    read_csp =
        ap (λ (j : List ℕ). section_text j 0) first
        ∙ section_text_lem [] s.csp (section (name_text s.id) ++ (section (name_text s.serial) ++ rest)) 0 refl (omega (arith, t.csp))

    read_id : section_text (head s k ++ more) 7 ≡ name_text s.id
    read_id =
        ap (λ (j : List ℕ). section_text j 7) second
        ∙ section_text_lem (section s.csp) (name_text s.id) (section (name_text s.serial) ++ rest) 7 csp_end (omega (arith, id_long, names.id.most))

    read_serial_place : serial_place (head s k ++ more) ≡ 11 + s.id.len
    unfolding serial_place
    read_serial_place =
        ap (λ (j : List ℕ). section_end j 7) second
        ∙ section_end_lem (section s.csp) (name_text s.id) (section (name_text s.serial) ++ rest) 7 csp_end (omega (arith, id_long, names.id.most))
        ∙ omega (arith, id_long)

    serial_short : length (name_text s.serial) < 4294967296
    serial_short = omega (arith, serial_long, names.serial.most)

    read_serial : section_text (head s k ++ more) (serial_place (head s k ++ more)) ≡ name_text s.serial
    read_serial =
        ap (section_text (head s k ++ more)) read_serial_place ∙ ap (λ (j : List ℕ). section_text j (11 + s.id.len)) third
        ∙ section_text_lem (section s.csp ++ section (name_text s.id)) (name_text s.serial) rest (11 + s.id.len) id_end_lem serial_short

    pub read_place : count_place_in (head s k ++ more) ≡ count_place s
    unfolding count_place_in count_place head_length
    read_place =
        ap (section_end (head s k ++ more)) read_serial_place ∙ ap (λ (j : List ℕ). section_end j (11 + s.id.len)) third
        ∙ section_end_lem (section s.csp ++ section (name_text s.id)) (name_text s.serial) rest (11 + s.id.len) id_end_lem serial_short
        ∙ omega (arith, serial_long)

    -- at the place that the settings say
    pub read_count_at : count_at (head s k ++ more) (count_place s) 4 ≡ k
    read_count_at = ap (λ (j : List ℕ). count_at j (count_place s) 4) fourth ∙ count_in (front s) more (count_place s) 4 k front_place (omega arith)

    pub read_count : count_of (head s k ++ more) ≡ k
    unfolding count_of
    read_count = ap (λ (p : ℕ). count_at (head s k ++ more) p 4) read_place ∙ read_count_at

    pub read_settings : head_settings (head s k ++ more) ≡ s
    unfolding head_settings serial_at
    read_settings =
        let a = settings_all s g in
        λ i. record {
          csp = read_csp i;
          id = (ap name_of read_id ∙ name_of_lem Id s.id t.id a.id) i;
          serial = (ap name_of read_serial ∙ name_of_lem Serial s.serial t.serial a.serial) i;
        }

    place_four : count_place_in (head s k ++ more) + 4 ≡ head_length s
    unfolding count_place head_length
    place_four = omega (arith, read_place)

    pub head_good_lem : head_good (head s k ++ more) ≡ true
    unfolding head_good
    head_good_lem =
        let l = length-append (head s k) more in
        let m = length_head k in
        rw (read_three, read_settings, le-leb (count_place_in (head s k ++ more) + 4) (length (head s k ++ more)) (omega (arith, place_four))) g

    pub after_head : drop (head_length s) (head s k ++ more) ≡ more
    after_head = drop_at (head s k) more (head_length s) (length_head k)

-- ---- a good head is the head of what was read from it

module _ (j : List ℕ) (b : AllBytes j) (h : head_good j ≡ true) where
  pub record GoodHead : Type 0 where
    pub three : count_at j 0 4 ≡ 3
    pub room : count_place_in j + 4 ≤ length j
    pub good : settings_good (head_settings j) ≡ true

  pub good_head : GoodHead
  unfolding head_good
  good_head =
      let p = both _ _ h in
      let q = both _ _ p.1 in
      record { three = eqb-true _ _ p.0; room = leb-true _ _ q.0; good = q.1 }

  -- the sections are complete
  csp_after : section_end j 0 ≡ 7
  unfolding section_end
  csp_after = omega (arith, good_head.three)

  serial_there : section_end j (serial_place j) ≤ length j
  unfolding count_place_in
  serial_there = let r = good_head.room in omega arith

  id_there_lem : section_end j 7 ≤ length j
  unfolding serial_place section_end
  id_there_lem = let r = serial_there in omega arith

  csp_there : section_end j 0 ≤ length j
  unfolding section_end
  csp_there = let r = id_there_lem in let e = csp_after in omega arith

  csp_is : (head_settings j).csp ≡ section_text j 0
  unfolding head_settings
  csp_is = refl

  id_is : (head_settings j).id ≡ name_of (section_text j 7)
  unfolding head_settings
  id_is = refl

  serial_is : (head_settings j).serial ≡ name_of (section_text j (serial_place j))
  unfolding head_settings serial_at
  serial_is = refl

  pub read_typed : TypedSettings (head_settings j)
  unfolding head_settings serial_at
  read_typed =
      record {
        lengths = record { csp = text_length j b 0 csp_there ∙ good_head.three; id = length_array (section_text j 7); serial = length_array (section_text j (serial_place j)) };
        bytes = record { csp = text_bytes j b 0 csp_there; id = bytes_array (text_bytes j b 7 id_there_lem); serial = bytes_array (text_bytes j b (serial_place j) serial_there) };
      }

  id_len : (head_settings j).id.len ≡ count_at j 7 4
  id_len = ap (λ (n : Name). n.len) id_is ∙ len_of (section_text j 7) ∙ text_length j b 7 id_there_lem

  serial_len : (head_settings j).serial.len ≡ count_at j (serial_place j) 4
  serial_len = ap (λ (n : Name). n.len) serial_is ∙ len_of (section_text j (serial_place j)) ∙ text_length j b (serial_place j) serial_there

  pub read_length : head_length (head_settings j) ≡ count_place_in j + 4
  unfolding head_length count_place_in serial_place section_end
  read_length = omega (arith, id_len, serial_len)

  pub read_place_is : count_place (head_settings j) ≡ count_place_in j
  unfolding count_place
  read_place_is = omega (arith, read_length)

  pub read_few : count_of j < 4294967296
  unfolding count_of
  read_few = count_lt j b (count_place_in j) 4 good_head.room

  id_name : section_text j 7 ≡ name_text (head_settings j).id
  id_name =
      let n = good_settings (head_settings j) good_head.good in
      sym (text_of (section_text j 7) (omega (arith, n.id.most, id_len, text_length j b 7 id_there_lem))) ∙ ap name_text (sym id_is)

  serial_name : section_text j (serial_place j) ≡ name_text (head_settings j).serial
  serial_name =
      let n = good_settings (head_settings j) good_head.good in
      sym (text_of (section_text j (serial_place j)) (omega (arith, n.serial.most, serial_len, text_length j b (serial_place j) serial_there)))
      ∙ ap name_text (sym serial_is)

  first_part : j ≡ section (head_settings j).csp ++ drop 7 j
  first_part = section_there j b 0 csp_there ∙ (λ i. section (sym csp_is i) ++ drop (csp_after i) j)

  second_part : drop 7 j ≡ section (name_text (head_settings j).id) ++ drop (serial_place j) j
  unfolding serial_place
  second_part = section_there j b 7 id_there_lem ∙ ap (λ (l : List ℕ). section l ++ drop (section_end j 7) j) id_name

  third_part : drop (serial_place j) j ≡ section (name_text (head_settings j).serial) ++ drop (count_place_in j) j
  unfolding count_place_in
  third_part =
      section_there j b (serial_place j) serial_there ∙ ap (λ (l : List ℕ). section l ++ drop (section_end j (serial_place j)) j) serial_name

  fourth_part : drop (count_place_in j) j ≡ bytes_of 4 (count_of j) ++ drop (head_length (head_settings j)) j
  unfolding count_of
  fourth_part =
      cut j (count_place_in j) 4 ∙ (λ i. sym (count_bytes j b (count_place_in j) 4 good_head.room) i ++ drop (sym read_length i) j)

  pub read_back : j ≡ head (head_settings j) (count_of j) ++ drop (head_length (head_settings j)) j
  unfolding head front
  read_back =
      first_part
      ∙ ap (λ (l : List ℕ). section (head_settings j).csp ++ l)
      (second_part ∙ ap (λ (l : List ℕ). section (name_text (head_settings j).id) ++ l)
      (third_part ∙ ap (λ (l : List ℕ). section (name_text (head_settings j).serial) ++ l) fourth_part))
      ∙ simp append_assoc
