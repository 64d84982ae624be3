-- The journal that an export spells, written: letters, entries, names, and all elements one after the other.
use Rattle.primitives.specs.Place.{overwrite}
use Rattle.primitives.specs.Number.{bytes_of}
use Rattle.primitives.proofs.Over.{over_nil, over_snoc, length_over, placed_room}
use Rattle.primitives.proofs.Numbers.{length_bytes_of}
use Rattle.receipt.specs.Settings.{name_text}
use Rattle.journal.specs.Head.{section, entry_text, pair_start}
use Rattle.journal.specs.Valid.{owner_text}
use Rattle.exports.specs.Text.{Token, mark}
use Rattle.exports.specs.Lexer.{content}
use Rattle.exports.specs.Shape.{array, string, strings, Element, Written, written, document, elements, Shape}
use Rattle.exports.specs.Places.{from, Absent, Quotes, LettersAt, LetterAt, Begun, Followed, ReceiptsAt, ElementEnded, GroupBegun}
use Rattle.std.proofs.Common.{Option, Some, None, rules, ℕ, ◌+◌, ◌-◌, ◌≤◌, ◌<◌, ◌≡◌, refl, sym, ap, ◌∙◌, subst, true, List, [], ◌∷◌, ◌++◌, append_assoc, append-nil, map, arith, length, drop, set, length-append}
use Rattle.exports.specs.Output.{start, moved, Inside, Out, Puts, Advanced, PutsAt}
use Rattle.exports.specs.Spelled.{sized_texts, pair_spelled, pairs_spelled, journal_spelled}
use Rattle.exports.specs.Naming.{named}
use Rattle.exports.specs.Reading.{first_of, settings_of, pair_of, owner_of, journal_of_elements}
use Rattle.exports.specs.Running.{owner_settings, owner_in, EntriesWritten, PairWritten, ElementWritten}
use Rattle.exports.specs.declared.walk.Cursor.{Cursor}
use Rattle.exports.specs.declared.walk.Cursor.TheVariants.{Item, Past}
use Rattle.exports.specs.declared.strings.Letter.{Letter}
use Rattle.exports.specs.declared.lexer.Part.{Part}
use Rattle.receipt.specs.declared.settings.Settings.{Settings}
use Rattle.exports.specs.Naming.{Named}
use Rattle.exports.specs.declared.rebuilding.Entries.{Entries}
use Rattle.exports.proofs.Lexing.{letters_inside}
use Rattle.exports.proofs.Lexical.{lexed}
use Rattle.exports.proofs.Tokening.{word_there}
use Rattle.exports.proofs.Arrays.{Opens, string_opens}
use Rattle.exports.proofs.Objects.{written_opens}
use Rattle.exports.proofs.Passing.{NoItem, Beyond, begun_beyond, followed_beyond, beyond_item, Left, left_start, left_item, left_end, left_on}
use Rattle.exports.proofs.Putting.{moved_fits, advanced_room, puts_then, puts_is, puts_nothing, puts_before, put_done}

-- ---- letters, one by one

-- what is copied so far, and what is left at this place
pub record Copying (text : List ℕ) (start : ℕ) (out₀ : List ℕ) (to : ℕ) (out : List ℕ) (at o : ℕ) : Type 0 where
  pub done : List ℕ
  pub is : content (drop start text) 0 ≡ done ++ content (drop at text) 0
  pub written : out ≡ overwrite out₀ to done
  pub place : o ≡ to + length done
  pub letters : LettersAt text at
  pub room : to + length (content (drop start text) 0) ≤ length out₀

pub copy_start : {text : List ℕ} {start to : ℕ} {out : List ℕ} → LettersAt text start → to + length (content (drop start text) 0) ≤ length out → Copying text start out to out start to
copy_start {text} {start} {to} {out} g h =
    record { done = []; is = refl; written = sym (over_nil out to); place = omega arith; letters = g; room = h }

module _ {text : List ℕ} {start to at o : ℕ} {out₀ out : List ℕ} (k : Copying text start out₀ to out at o) where
  copied : length k.done ≤ length (content (drop start text) 0)
  copied = omega (arith, ap length k.is, length-append k.done (content (drop at text) 0))

  pub copy_long : length out ≡ length out₀
  copy_long = ap length k.written ∙ length_over out₀ to k.done (omega (arith, copied, k.room))

  pub copy_end : content (drop at text) 0 ≡ [] → out ≡ overwrite out₀ to (content (drop start text) 0)
  copy_end e = k.written ∙ ap (overwrite out₀ to) (sym (k.is ∙ ap (λ (x : List ℕ). k.done ++ x) e ∙ append-nil k.done))

  module _ {l : Letter} (e : LetterAt text at l) where
    more_left : k.done ++ (l.byte ∷ content (drop l.next text) 0) ≡ content (drop start text) 0
    more_left = sym (k.is ∙ ap (λ (x : List ℕ). k.done ++ x) e.is)

    below : to + length k.done < length out₀
    below = omega (arith, k.room, ap length more_left, length-append k.done (l.byte ∷ content (drop l.next text) 0))

    pub copy_room : o < length out
    copy_room = omega (arith, copy_long, below, k.place)

    pub copy_falls : length text - l.next < length text - at
    copy_falls = omega (arith, e.onward, letters_inside text l.next e.good)

    pub copy_more : Copying text start out₀ to (set out o l.byte) l.next (o + 1)
    copy_more =
        record {
          done = k.done ++ (l.byte ∷ []);
          is = sym more_left ∙ sym (append_assoc k.done (l.byte ∷ []) (content (drop l.next text) 0));
          written = (λ i. set (k.written i) (k.place i) l.byte) ∙ over_snoc out₀ to k.done l.byte below;
          place = omega (arith, k.place, length-append k.done (l.byte ∷ []));
          letters = e.good;
          room = k.room;
        }

-- ---- letters, and an entry

module _ (w : List ℕ) {n : ℕ} (l : n ≡ length w) where
  pub letters_room : {o o₁ : Out} {at : ℕ} → Advanced n o o₁ (Some at) → at + length w ≤ length o₁.bytes
  letters_room k = omega (arith, l, advanced_room k)

  pub letters_done : {o o₁ : Out} {at : ℕ} {out : List ℕ} → Advanced n o o₁ (Some at) → out ≡ overwrite o₁.bytes at w → Puts true o (record { lent = o₁.lent; bytes = out; at = o₁.at }) w
  letters_done {o} {o₁} {at} {out} k e = put_done o w (sym l) k (e ∙ sym (placed_room o₁.bytes at w (letters_room k)))

  pub entry_put : {o o₁ o₂ : Out} → Puts true o o₁ (bytes_of 2 n) → Puts true o₁ o₂ w → Puts true o o₂ (entry_text w)
  unfolding entry_text
  entry_put c u = puts_is entry_is (puts_then c u)
    where
      entry_is : bytes_of 2 n ++ w ≡ entry_text w
      entry_is = rw l

-- ---- the items of an array, one after the other

module _ {A : Type 0} (item : A → List Token) where
  -- P holds of the items before the cursor, and the others are left
  pub record Carrying (P : List A → Type 0) (text : List ℕ) (at : ℕ) (c : Cursor) : Type 0 where
    pub beyond : Beyond text at c
    pub left : (xs : List A) (r : List Token) → from text at ≡ array item xs ++ r
        → (done : List A) × (ys : List A) × (xs ≡ done ++ ys) × (Left item text c ys r) × P done

  pub carry_start : {P : List A → Type 0} (text : List ℕ) (at : ℕ) (c : Cursor) → Opens item → P [] → Begun text at c → Carrying P text at c
  carry_start text at c o s b = record { beyond = begun_beyond text at c b; left = λ xs r q. ([], xs, refl, left_start item text at c o b xs r q, s) }

  module _ {P : List A → Type 0} {text : List ℕ} {at : ℕ} {c : Cursor} (k : Carrying P text at c) where
    pub carry_end : NoItem c → (xs : List A) (r : List Token) → from text at ≡ array item xs ++ r → P xs × (e : ℕ) × (c ≡ Past e) × (from text e ≡ r)
    carry_end n xs r s =
        let l = k.left xs r s in
        let m = left_end item text c l.1 r n l.3 in
        (subst P (sym (l.2 ∙ ap (λ (ys : List A). l.0 ++ ys) m.0 ∙ append-nil l.0)) l.4, m.1, m.2, m.3)

    module _ {p : ℕ} (e : c ≡ Item p) where
      pub carry_inside : (at < p) × (p ≤ length text)
      carry_inside = beyond_item text at e k.beyond

      -- there is an item
      pub carry-out {ℓ} : {X : Type ℓ} → ((x : A) (r : List Token) → from text p ≡ item x ++ r → ⊥) → (xs : List A) (r : List Token) → from text at ≡ array item xs ++ r → X
      carry-out h xs r s = let l = k.left xs r s in let m = left_item item text l.1 r e l.3 in absurd (h m.0 _ m.3)

      -- n is the place after it
      pub carry_more : {n : ℕ} → p < n → (d : Cursor) → Followed text n d → {Q : List A → Type 0}
          → ((x : A) (r : List Token) → from text p ≡ item x ++ r → (from text n ≡ r) × ((done : List A) → P done → Q (done ++ (x ∷ []))))
          → Carrying Q text at d
      carry_more {n} b d f h =
          record {
            beyond = followed_beyond text at d (omega (arith, carry_inside.0, b)) f;
            left = λ xs r s.
                let l = k.left xs r s in
                let m = left_item item text l.1 r e l.3 in
                let i = h m.0 _ m.3 in (
                  l.0 ++ (m.0 ∷ []),
                  m.1,
                  l.2 ∙ ap (λ (ys : List A). l.0 ++ ys) m.2 ∙ sym (append_assoc l.0 (m.0 ∷ []) m.1),
                  left_on item text n d m.1 r i.0 f,
                  i.1 l.0 l.4,
                );
          }

-- ---- the strings of an array

entries_more : (ws : List (List ℕ)) (w : List ℕ) → sized_texts (ws ++ (w ∷ [])) ≡ sized_texts ws ++ entry_text w
unfolding sized_texts
entries_more [] w = append-nil (entry_text w)
entries_more (x ∷ ws) w = ap (λ (l : List ℕ). entry_text x ++ l) (entries_more ws w) ∙ sym (append_assoc (entry_text x) (sized_texts ws) (entry_text w))

-- n of them are written as entries
pub record Entering (o₀ : Out) (text : List ℕ) (at : ℕ) (o : Out) (n : ℕ) (c : Cursor) : Type 0 where
  pub same : o.lent ≡ o₀.lent
  pub long : length o.bytes ≡ length o₀.bytes
  pub small : (e : ℕ) → c ≡ Item e → n < e
  pub carry : Carrying string (λ (ws : List (List ℕ)). Puts true o₀ o (sized_texts ws) × (n ≡ length ws)) text at c

pub entries_start : {o : Out} (text : List ℕ) (at : ℕ) (c : Cursor) → Begun text at c → Entering o text at o 0 c
unfolding sized_texts
entries_start {o} text at c b =
    record {
      same = refl;
      long = refl;
      small = λ e m. omega (arith, (beyond_item text at m (begun_beyond text at c b)).0);
      carry = carry_start string text at c string_opens (puts_nothing true o, refl) b;
    }

module _ {o₀ o : Out} {text : List ℕ} {at n : ℕ} {c : Cursor} (k : Entering o₀ text at o n c) where
  module _ {i : ℕ} (e : c ≡ Item i) where
    pub entries_refused : Absent string text i → EntriesWritten text at o₀ o None
    entries_refused a = record { inside = search rules; same = k.same; long = k.long; is = λ ws r s. carry-out string k.carry e a.none ws r s }

    pub entries_next : {s : Part} → Quotes text i s → (d : Cursor) → Followed text s.next d → {o' : Out} → Puts true o o' (entry_text (content (drop s.start text) 0)) → Entering o₀ text at o' (n + 1) d
    entries_next i d f u =
        record {
          same = u.same ∙ k.same;
          long = u.long ∙ k.long;
          small = λ a m. omega (arith, k.small _ e, i.onward, (beyond_item text _ m (followed_beyond text _ d i.onward f)).0);
          carry = carry_more string k.carry e i.onward d f
              (λ w r s. (
                (word_there i s).1,
                λ ws t. (
                  puts_is (sym (entries_more ws w)) (puts_then t.0 (puts_is (ap entry_text (word_there i s).0) u)),
                  omega (arith, t.1, length-append ws (w ∷ [])),
                ),
              ));
        }

-- ---- the section of a name, and of an owner

pub section_put : {o o₁ o₂ : Out} {n : ℕ} {y z : List ℕ} → Puts true o o₁ (bytes_of 4 n) → Puts true o₁ o₂ y → y ≡ z → length z ≡ n → Puts true o o₂ (section z)
unfolding section
section_put {n = n} {y = y} {z = z} c u e l = puts_is (λ i. bytes_of 4 (sym l i) ++ e i) (puts_then c u)

pub owner_put : {o o₁ o₂ o₃ : Out} (n : Settings) → length n.csp ≡ 3 → Puts true o o₁ (bytes_of 4 3) → Puts true o₁ o₂ n.csp
    → Puts true o₂ o₃ (section (name_text n.id)) → Puts true o o₃ (owner_text (owner_in n))
unfolding owner_text
owner_put n l c u i = puts_then (section_put c u refl l) i

-- ---- a pair

pair_is : (x : Element) {n : Named} {k : ℕ} → n ≡ named (first_of x.receipts) → k ≡ length x.receipts
    → section (name_text n.settings.serial) ++ (bytes_of 4 k ++ sized_texts x.receipts) ≡ pair_spelled (pair_of x)
unfolding pair_spelled pair_start pair_of settings_of
pair_is x {n} {k} m l =
    sym (append_assoc (section (name_text n.settings.serial)) (bytes_of 4 k) (sized_texts x.receipts))
    ∙ (λ i. (section (name_text (m i).settings.serial) ++ bytes_of 4 (l i)) ++ sized_texts x.receipts)

module _ {text : List ℕ} {at : ℕ} {o o₁ o₂ o₃ : Out} {n : Named} (f : (ws : List (List ℕ)) (rest : List Token) → from text at ≡ strings ws ++ rest → n ≡ named (first_of ws))
    (s : Puts true o o₁ (section (name_text n.settings.serial))) {r : Option ℕ} (m : Advanced 4 o₁ o₂ r) where
  pub pair_missing : EntriesWritten text at o₂ o₃ None → PairWritten text at o o₃ None
  pair_missing u =
      record {
        inside = search rules;
        same = u.same ∙ ap (λ (x : Out). x.lent) m.moves ∙ s.same;
        long = u.long ∙ ap (λ (x : Out). length x.bytes) m.moves ∙ s.long;
        is = λ x r q. absurd (u.is x.receipts r q).1;
      }

  pub pair_put : {w : Entries} {o₄ : Out} → EntriesWritten text at o₂ o₃ (Some w) → PutsAt o₁.at o₃ o₄ (bytes_of 4 w.count) → PairWritten text at o o₄ (Some w.next)
  pair_put {w} u c =
      record {
        inside = u.inside;
        same = c.same ∙ u.same ∙ ap (λ (x : Out). x.lent) m.moves ∙ s.same;
        long = c.long ∙ u.long ∙ ap (λ (x : Out). length x.bytes) m.moves ∙ s.long;
        is = λ x r q.
            let y = u.is x.receipts r q in
            (puts_is (pair_is x (f x.receipts r q) y.1.0) (puts_then s (puts_before 4 (length_bytes_of 4 w.count) m.moves y.0 c)), y.1.1);
      }

-- ---- an element

pub element_missing : {text : List ℕ} {at : ℕ} {o : Out} → Absent written text at → ElementWritten text at o o None
element_missing a = record { inside = search rules; same = refl; long = refl; is = λ w r q. absurd (a.none w r q) }

module _ {text : List ℕ} {at p : ℕ} {o o' : Out} (f : ReceiptsAt text at p) where
  pub element_unread : PairWritten text p o o' None → ElementWritten text at o o' None
  element_unread u = record { inside = search rules; same = u.same; long = u.long; is = λ w r q. let g = f.is w r q in absurd (u.is w.element g.0 g.1).1 }

  pub element_put : {n : ℕ} → PairWritten text p o o' (Some n) → (r : Option ℕ) → ElementEnded text n r → ElementWritten text at o o' r
  element_put u None e =
      record { inside = search rules; same = u.same; long = u.long; is = λ w r q. let g = f.is w r q in absurd (e g.0 r g.2 (u.is w.element g.0 g.1).1) }
  element_put u (Some x) e =
      record {
        inside = (omega (arith, f.onward, u.inside.0, e.onward), e.inside);
        same = u.same;
        long = u.long;
        is = λ w r q. let g = f.is w r q in let y = u.is w.element g.0 g.1 in (y.0, e.is g.0 r g.2 y.1);
      }

-- ---- the whole journal

unfoldable pub pairs_written : List Written → List ℕ
pairs_written ws = pairs_spelled (map pair_of (elements ws))

pairs_more : (ws : List Written) (w : Written) → pairs_written (ws ++ (w ∷ [])) ≡ pairs_written ws ++ pair_spelled (pair_of w.element)
unfolding pairs_written pairs_spelled elements
pairs_more [] w = append-nil (pair_spelled (pair_of w.element))
pairs_more (x ∷ ws) w =
    ap (λ (l : List ℕ). pair_spelled (pair_of x.element) ++ l) (pairs_more ws w)
    ∙ sym (append_assoc (pair_spelled (pair_of x.element)) (pairs_written ws) (pair_spelled (pair_of w.element)))

-- the pairs of some elements are written, and the others are left
pub record Pairing (o₀ : Out) (text : List ℕ) (o : Out) (c : Cursor) : Type 0 where
  pub place : ℕ
  pub group : (ws : List Written) → from text 0 ≡ document ws → from text place ≡ array written ws ++ (mark 125 ∷ [])
  pub same : o.lent ≡ o₀.lent
  pub long : length o.bytes ≡ length o₀.bytes
  pub carry : Carrying written (λ (ws : List Written). Puts true o₀ o (pairs_written ws)) text place c

pub pairs_start : {o : Out} {text : List ℕ} {c : Cursor} → GroupBegun text c → Pairing o text o c
unfolding pairs_written pairs_spelled elements
pairs_start {o} {text} {c} g =
    record {
      place = g.place;
      group = g.group;
      same = refl;
      long = refl;
      carry = carry_start written text g.place c written_opens (puts_nothing true o) g.begun;
    }

owner_is : (es : List Element) → owner_in (owner_settings es) ≡ owner_of es
unfolding owner_settings owner_of settings_of
owner_is [] = refl
owner_is (e ∷ es) = refl

module _ {text : List ℕ} {o₀ o : Out} {c : Cursor} (k : Pairing o₀ text o c) where
  pub journal_put : {o₁ : Out} {n : Settings} → o₁.at ≡ start → Puts true o₁ o₀ (owner_text (owner_in n)) → NoItem c
      → (es : List Element) → Shape text es → n ≡ owner_settings es → length (journal_of_elements es) ≤ length o₁.bytes → o.bytes ≡ overwrite o₁.bytes 0 (journal_of_elements es)
  unfolding journal_of_elements journal_spelled pairs_written from
  journal_put {o₁} b s m es x e h =
      let w = (carry_end written k.carry m x.order _ (k.group x.order (lexed x.spelled))).0 in
      let p : Puts true o₁ o (owner_text (owner_of es) ++ pairs_spelled (map pair_of es))
      = puts_is (λ i. owner_text ((ap owner_in e ∙ owner_is es) i) ++ pairs_spelled (map pair_of (x.same i))) (puts_then s w) in
      let l = length (owner_text (owner_of es) ++ pairs_spelled (map pair_of es)) in
      let f : Inside (length o₁.bytes) o₁.at = rw b (omega arith) in
      p.done refl 0 (0 + l) f b (p.end f ∙ ap (λ (q : Option ℕ). moved (length o₁.bytes) q l) b ∙ moved_fits (length o₁.bytes) 0 l (omega (arith, h)))

  -- the element at the cursor
  module _ {p : ℕ} {o' : Out} (m : c ≡ Item p) where
    pub journal_missing {ℓ} : {X : Type ℓ} → ElementWritten text p o o' None → (es : List Element) → Shape text es → X
    unfolding from
    journal_missing u es x = carry-out written k.carry m (λ w r s. (u.is w r s).1) x.order _ (k.group x.order (lexed x.spelled))

    pub pairs_next : {e : ℕ} → ElementWritten text p o o' (Some e) → (d : Cursor) → Followed text e d → Pairing o₀ text o' d
    pairs_next u d g =
        record {
          place = k.place;
          group = k.group;
          same = u.same ∙ k.same;
          long = u.long ∙ k.long;
          carry = carry_more written k.carry m u.inside.0 d g (λ x r s. let y = u.is x r s in (y.1, λ ws v. puts_is (sym (pairs_more ws x)) (puts_then v y.0)));
        }
