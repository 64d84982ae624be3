-- Open, Issue, Prepare and Change give the number of their first "no", and a check asks 6 as the paper says it.
use Rattle.std.proofs.lemmas.Bool.{not-true}
use Rattle.std.proofs.Common.{ℕ, ◌+◌, ◌-◌, ◌≤◌, ◌<◌, ◌≡◌, refl, sym, ap, ◌∙◌, Bool, true, false, not, ◌||◌, List, ◌++◌, ◌⊎◌, inl, inr, arith, leb-true, le-leb, ltb-true, lt-ltb, eqb-true, eq-eqb, leb, ltb, eqb, ℤ, ◌+ℤ◌, length, get_or, replicate}
use lib.ListN.{get_or-append}
use Rattle.primitives.specs.Counter.{counter_fits}
use Rattle.primitives.specs.Questions.{Row, asked_all, question, GivesFirstNo}
use Rattle.primitives.proofs.Rows.{both, true-is-not-false}
use Rattle.primitives.proofs.FirstNo.{gives_none, gives_ask}
use Rattle.receipt.specs.Settings.{serial_good}
use Rattle.receipt.specs.SettingsWords.{GoodSerial}
use Rattle.receipt.specs.DateTime.{date_good}
use Rattle.receipt.specs.Amount.{amount_limit}
use Rattle.receipt.specs.Details.{amounts_within, counted}
use Rattle.receipt.specs.DetailsWords.{GoodDate, GoodAmounts, GoodStart, amounts_taken, added_up}
use Rattle.receipt.proofs.SettingsMeaning.{csp_means, id_means, serial_means, width_means, settings_asked}
use Rattle.receipt.proofs.DetailsMeaning.{date_means, amounts_mean, start_means, counted_is_added_up}
use Rattle.receipt.specs.declared.settings.Name.{Name}
use Rattle.receipt.specs.declared.details.Details.{Details}
use Rattle.journal.specs.Head.{head_length, entry_text}
use Rattle.journal.specs.State.{no_name, used, in_eight, is_in, TypedState}
use Rattle.journal.specs.Step.{sound_alone, sound, number_above, first_good, new_counter, details_number_within, details_number, renew_number}
use Rattle.journal.specs.Opening.{open_number}
use Rattle.journal.specs.Issuing.{signature_sized, text_of, entry_fits, issue_number_within}
use Rattle.journal.specs.Preparing.{prepared_text, prepare_number}
use Rattle.journal.specs.Changing.{change_number}
use Rattle.journal.specs.Parts.{ready}
use Rattle.journal.specs.Certificates.{OneOf, GoodSerials}
use Rattle.journal.specs.Asked.{SoundState, SoundIn, OpenGivesFirstNo, details_row, IssueGivesFirstNo, PrepareGivesFirstNo, ChangeGivesFirstNo, SoundFor, CheckAsksSix}
use Rattle.journal.specs.declared.state.State.{State}
use Rattle.journal.proofs.Places.{length_entry}
use Rattle.journal.proofs.Answers.{sound-true, sound-yes}
use Rattle.journal.proofs.Check.{above_true, above_yes, first_true, first_yes, new_yes, new_fits}
use Rattle.journal.proofs.Certificates.{serials_good_exactly, in_one, one_in}
use Rattle.journal.proofs.PartQuestions.{six_is_not_ready}
use Rattle.journal.proofs.FirstNo.{bool_no}

-- ---- 6

-- the serials of a state's eight places, and those used
module _ (st : State) (t : TypedState st) (ns : List Name) (e : st.serials ≡ ns ++ replicate (8 - length ns) no_name) where
  slot : (i : ℕ) → i < length ns → get_or st.serials i no_name ≡ get_or ns i no_name
  slot i h = ap (λ (l : List Name). get_or l i no_name) e ∙ get_or-append ns (replicate (8 - length ns) no_name) no_name i h

  slot_long : (i : ℕ) → i < length ns → length ns ≤ 8 → length (get_or ns i no_name).bytes ≡ 32
  slot_long i h m = ap (λ (n : Name). length n.bytes) (sym (slot i h)) ∙ (t.serials i (omega arith)).long

pub sound_means : (st : State) → TypedState st → sound_alone st ≡ true → SoundState st
unfolding head_length in_eight
sound_means st t e =
    let s = sound-true st e in
    let g = serials_good_exactly.only st.serials t.eight s.serials in
    let ns = used st.serials in
    let first : get_or st.serials 0 no_name ≡ get_or ns 0 no_name = slot st t ns g.places 0 g.some in
    let h = s.head in
    let k = ap (λ (n : Name). n.len) first in
    record {
      csp = (csp_means st.csp).only s.csp;
      id = (id_means st.id t.id.long).only s.id;
      serials = ns;
      some = omega (arith, g.some);
      most = g.most;
      good = λ i l. (serial_means (get_or ns i no_name) (slot_long st t ns g.places i l g.most)).only (g.good i l);
      zeros = g.places;
      width = (width_means st.width).only s.width;
      counter = s.counter;
      issued = s.issued;
      since = s.since;
      place = s.place;
      head = omega (arith, h, k);
    }

pub means_sound : (st : State) → TypedState st → SoundState st → sound_alone st ≡ true
unfolding head_length in_eight
means_sound st t m =
    let ns = m.serials in
    let g : GoodSerials st.serials ns =
    record {
      some = omega (arith, m.some);
      most = m.most;
      good = λ i l. (serial_means (get_or ns i no_name) (slot_long st t ns m.zeros i l m.most)).always (m.good i l);
      places = m.zeros;
    } in
    let first : get_or st.serials 0 no_name ≡ get_or ns 0 no_name = slot st t ns m.zeros 0 (omega (arith, m.some)) in
    let h = m.head in
    let k = ap (λ (n : Name). n.len) first in
    sound-yes st (record {
      csp = (csp_means st.csp).always m.csp;
      id = (id_means st.id t.id.long).always m.id;
      serials = (serials_good_exactly.always st.serials ns g).0;
      width = (width_means st.width).always m.width;
      counter = m.counter;
      issued = m.issued;
      since = m.since;
      place = m.place;
      head = omega (arith, h, k);
    })

module _ (st : State) (t : TypedState st) (room : ℕ) where
  pub sound_in : sound st room ≡ true → SoundIn st room
  unfolding sound
  sound_in e = let p = both (sound_alone st) (leb st.length room) e in record { state = sound_means st t p.0; within = leb-true _ _ p.1 }

  pub in_sound : SoundIn st room → sound st room ≡ true
  unfolding sound
  in_sound m = rw (means_sound st t m.state, le-leb _ _ m.within)

-- ---- Open

pub open_gives_first_no : OpenGivesFirstNo
unfolding open_number head_length
open_gives_first_no s shared n room l =
    settings_asked s shared n _ _ l (λ g k w.
    gives_ask (leb (19 + s.id.len + s.serial.len) room) 4 0 _ asked_all (λ e. leb-true _ _ e) (λ h. le-leb _ _ h) (λ h. gives_none))

-- ---- Issue and Prepare

module _ (st : State) (d : Details) where
  pub starts : first_good st d ≡ true → st.issued ≡ 0 → GoodStart d
  starts e z = (start_means d).only (first_true st d e z)

  pub started : (st.issued ≡ 0 → GoodStart d) → first_good st d ≡ true
  started h = first_yes st d (λ z. (start_means d).always (h z))

  new_is_taken : counter_fits st.width (st.counter +ℤ counted d) ≡ counter_fits st.width (st.counter +ℤ added_up (amounts_taken d.kind d.amounts))
  new_is_taken = ap (λ (z : ℤ). counter_fits st.width (st.counter +ℤ z)) (counted_is_added_up d)

  fits_of : (new_counter st d).fits ≡ true → counter_fits st.width (st.counter +ℤ added_up (amounts_taken d.kind d.amounts)) ≡ true
  fits_of e = sym new_is_taken ∙ (new_fits st d e).fits

  of_fits : amounts_within amount_limit d.amounts ≡ true → counter_fits st.width (st.counter +ℤ added_up (amounts_taken d.kind d.amounts)) ≡ true
      → (new_counter st d).fits ≡ true
  of_fits a e = rw (new_yes st d a (new_is_taken ∙ e))

  pub details_asked : (rest : ℕ) (row : Row) → GivesFirstNo rest row → GivesFirstNo (details_number st d rest) (details_row st d row)
  unfolding details_number_within
  details_asked rest row more =
      gives_ask (number_above st d) 6 _ _ _ (above_true st d) (above_yes st d)
      (λ a. gives_ask (date_good d.date) 7 _ (GoodDate d.date) _ (date_means d.date).only (date_means d.date).always
      (λ t. gives_ask (amounts_within amount_limit d.amounts) 8 _ (GoodAmounts d.amounts) _ (amounts_mean d.amounts).only (amounts_mean d.amounts).always
      (λ m. gives_ask (first_good st d) 9 _ _ _ starts started
      (λ f. gives_ask (new_counter st d).fits 10 rest _ row fits_of (of_fits ((amounts_mean d.amounts).always m)) (λ c. more)))))

sized : (sig : List ℕ) → signature_sized sig ≡ true → (length sig ≡ 64) ⊎ (length sig ≡ 0)
unfolding signature_sized
sized sig e = go (eqb (length sig) 64) refl e
  where
    go : (t : Bool) → eqb (length sig) 64 ≡ t → t || eqb (length sig) 0 ≡ true → (length sig ≡ 64) ⊎ (length sig ≡ 0)
    go true q f = inl (eqb-true (length sig) 64 q)
    go false q f = inr (eqb-true (length sig) 0 f)

sized_of : (sig : List ℕ) → (length sig ≡ 64) ⊎ (length sig ≡ 0) → signature_sized sig ≡ true
unfolding signature_sized
sized_of sig (inl e) = rw (eq-eqb (length sig) 64 e)
sized_of sig (inr e) = rw e

module _ (st : State) (text : List ℕ) (room : ℕ) where
  fits : entry_fits st text room ≡ true → st.length + (2 + length text) ≤ room
  unfolding entry_fits
  fits e = let h = leb-true (st.length + length (entry_text text)) room e in omega (arith, h, length_entry text)

  fitting : st.length + (2 + length text) ≤ room → entry_fits st text room ≡ true
  unfolding entry_fits
  fitting h = le-leb (st.length + length (entry_text text)) room (omega (arith, h, length_entry text))

pub issue_gives_first_no : IssueGivesFirstNo
unfolding issue_number_within
issue_gives_first_no st d sig room t =
    gives_ask (sound st room) 5 _ (SoundIn st room) _ (sound_in st t room) (in_sound st t room)
    (λ s. details_asked st d _ _
    (gives_ask (signature_sized sig) 11 _ _ _ (sized sig) (sized_of sig)
    (λ g. gives_ask (entry_fits st (text_of st d sig) room) 12 0 _ asked_all (fits st (text_of st d sig) room) (fitting st (text_of st d sig) room) (λ f. gives_none))))

pub prepare_gives_first_no : PrepareGivesFirstNo
unfolding prepare_number
prepare_gives_first_no st d room t =
    gives_ask (sound_alone st) 5 _ (SoundState st) _ (sound_means st t) (means_sound st t)
    (λ s. details_asked st d _ _
    (gives_ask (leb (length (prepared_text st d)) room) 12 0 _ asked_all (λ e. leb-true _ _ e) (λ h. le-leb _ _ h) (λ f. gives_none)))

-- ---- Change

module _ (s : Name) (ns : List Name) where
  not_one : not (is_in s ns) ≡ true → OneOf s ns → ⊥
  not_one e x = true-is-not-false (sym (not-true (is_in s ns) e) ∙ one_in s ns x)

  none_of : (OneOf s ns → ⊥) → not (is_in s ns) ≡ true
  none_of h = rw (bool_no (is_in s ns) (λ e. h (in_one s ns e)))

pub renew_asked : (st : State) (serial : Name) (rest : ℕ) (row : Row) → GivesFirstNo rest row
    → GivesFirstNo (renew_number st serial rest) (question (OneOf serial (used st.serials) → ⊥) 30 (question (length (used st.serials) < 8) 31 row))
unfolding renew_number
renew_asked st serial rest row more =
    gives_ask (not (is_in serial (used st.serials))) 29 _ _ _ (not_one serial (used st.serials)) (none_of serial (used st.serials))
    (λ n. gives_ask (ltb (length (used st.serials)) 8) 30 rest _ row (λ e. ltb-true _ _ e) (λ h. lt-ltb _ _ h) (λ k. more))

pub change_gives_first_no : ChangeGivesFirstNo
unfolding change_number
change_gives_first_no st serial room t l =
    gives_ask (sound st room) 5 _ (SoundIn st room) _ (sound_in st t room) (in_sound st t room)
    (λ s. gives_ask (serial_good serial) 2 _ (GoodSerial serial) _ (serial_means serial l).only (serial_means serial l).always
    (λ g. renew_asked st serial _ _
    (gives_ask (leb (st.length + (8 + serial.len)) room) 12 0 _ asked_all (λ e. leb-true _ _ e) (λ h. le-leb _ _ h) (λ f. gives_none))))

-- ---- a check

module _ (st : State) (j : List ℕ) (t : TypedState st) where
  ready_for : ready st j ≡ true → SoundFor st j
  unfolding ready
  ready_for e = let p = both _ _ e in record { sound = sound_in st t (length j) p.0; count = leb-true _ _ p.1 }

  for_ready : SoundFor st j → ready st j ≡ true
  unfolding ready
  for_ready m = rw (in_sound st t (length j) m.sound, le-leb _ _ m.count)

pub check_asks_six : CheckAsksSix
check_asks_six st j count t = (
  λ e m. true-is-not-false (sym ((six_is_not_ready st j count).0 e) ∙ for_ready st j t m),
  λ h. (six_is_not_ready st j count).1 (bool_no (ready st j) (λ e. h (ready_for st j t e))),
)
