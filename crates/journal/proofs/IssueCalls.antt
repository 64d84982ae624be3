-- What the functions of an Issue and a Prepare show at their returns, over plain variables.
use Rattle.std.proofs.lemmas.Bool.{lt-leb}
use Rattle.std.proofs.Common.{ℕ, zero, suc, ◌+◌, ◌-◌, ◌≤◌, ◌<◌, ◌≡◌, refl, sym, ap, ◌∙◌, subst, Bool, true, false, cond, List, [], ◌∷◌, ◌++◌, arith, leb-true, leb-false, le-leb, eq-eqb, ne_eqb, leb, ℤ, length, take, drop, replicate, length-append, length-take, take_all, take-add, drop-drop, drop_at, length-take-le}
use Rattle.std.specs.Prelude.{Option, Some, None, Ok, Err}
use Rattle.std.specs.Option.{is_some, unwrap_or}
use Rattle.primitives.specs.declared.refusal.Refusal.{Refusal}
use Rattle.primitives.specs.declared.refusal.Refusal.TheVariants.{BadSignature}
use Rattle.primitives.specs.Refusals.{number_of}
use Rattle.primitives.specs.Place.{overwrite, room, placed, place_after}
use Rattle.primitives.specs.Number.{bytes_of}
use Rattle.primitives.specs.Aes.{key_schedule}
use Rattle.primitives.specs.Base64.{encoding}
use Rattle.primitives.specs.declared.base64.Alphabet.TheVariants.{UrlSafe}
use Rattle.primitives.proofs.Numbers.{length_bytes_of}
use Rattle.primitives.proofs.Over.{length_over, read_over, over_over, placed_room, placed_full, after_room, after_full}
use Rattle.primitives.proofs.Rewrites.{over_comm}
use Rattle.receipt.specs.Details.{standard, as_after, After}
use Rattle.receipt.specs.Chain.{chain_value, encrypted_counter}
use Rattle.receipt.specs.Compact.{signature_text, compact, signing_input, prepared, spellable, spelled}
use Rattle.receipt.specs.declared.settings.Settings.{Settings}
use Rattle.receipt.specs.declared.details.Kind.{Kind}
use Rattle.receipt.specs.declared.details.Kind.TheVariants.{Standard}
use Rattle.receipt.specs.declared.settings.Name.{Name}
use Rattle.receipt.specs.declared.details.Details.{Details}
use Rattle.receipt.specs.declared.payload.PayloadFields.{PayloadFields}
use Rattle.receipt.specs.declared.entry.Entry.{Entry}
use Rattle.receipt.specs.declared.entry.Signature.{Signature}
use Rattle.primitives.proofs.Rows.{both, ask_zero, ask_yes, ask_no, ifZero-yes, ifZero-no}
use Rattle.receipt.proofs.Entries.{input_some}
use Rattle.receipt.proofs.EntryCalls.{spellable_true, preparable_made, spelled_is, prepared_is}
use Rattle.receipt.proofs.ExactEntry.{compact_signed}
use Rattle.journal.specs.Head.{entry_text}
use Rattle.primitives.specs.Questions.{ask, ifZero}
use Rattle.journal.specs.Step.{sound_alone, sound, new_counter, details_number, fields_of, next}
use Rattle.journal.specs.Issuing.{signature_sized, given_signature, entry_of, text_of, entry_fits, issue_number, issue_number_within, issued, issued_within, with_entry, issue_buffer, issue_buffer_within}
use Rattle.journal.specs.Preparing.{prepared_text, prepare_number, prepare_answer, prepare_buffer}
use Rattle.journal.specs.declared.state.State.{State}
use Rattle.journal.proofs.Places.{length_entry}
use Rattle.journal.proofs.Answers.{sound-true, details-zero, details-yes, details-then, sized-cases, call-spellable}
use Rattle.journal.specs.State.{settings_now}

-- ---- the questions 7 to 11, and then the rest

module _ (st : State) (d : Details) {k : ℕ} (e : k ≡ details_number st d 0) (rest : ℕ) where
  pub details_no : (k ≡ 0 → ⊥) → k ≡ details_number st d rest
  details_no h = e ∙ sym (details-then st d rest ∙ ifZero-no (details_number st d 0) rest (details_number st d 0) (λ z. h (e ∙ z)))

  pub details_past : k ≡ 0 → details_number st d rest ≡ rest
  details_past z = details-yes st d rest (details-zero st d 0 (sym e ∙ z)).0

-- ---- the counter after the receipt, or the one before it

pub counter_kept : {y z v : ℤ} (r : Option ℤ) → y ≡ z → v ≡ unwrap_or r y → v ≡ (as_after z r).counter
counter_kept {z = z} r q u = u ∙ ap (unwrap_or r) q ∙ go r
  where
    go : (r : Option ℤ) → unwrap_or r z ≡ (as_after z r).counter
    go (Some x) = refl
    go None = refl

-- whether it fits
pub counter_fit : (z : ℤ) (r : Option ℤ) {a : After} → as_after z r ≡ a → is_some r ≡ a.fits
counter_fit z (Some x) e = ap (λ (a : After). a.fits) e
counter_fit z None e = ap (λ (a : After). a.fits) e

-- ---- the counter field

pub encrypted_is : (key : List ℕ) (id : Name) (number width : ℕ) {k : List (List ℕ)} {y z : ℤ} {r : List ℕ} → k ≡ key_schedule key → y ≡ z
    → r ≡ encrypted_counter k id number width y → r ≡ encrypted_counter (key_schedule key) id number width z
encrypted_is key id number width e f h = h ∙ (λ i. encrypted_counter (e i) id number width (f i))

pub field_standard : (kind : Kind) (key : List ℕ) (id : Name) (number width : ℕ) {y z : ℤ} {r : List ℕ} → kind ≡ Standard → y ≡ z
    → r ≡ encrypted_counter (key_schedule key) id number width y → r ≡ cond (standard kind) (encrypted_counter (key_schedule key) id number width z) (replicate 8 0)
field_standard kind key id number width {z = z} e f h =
    h ∙ ap (encrypted_counter (key_schedule key) id number width) f
    ∙ sym (ap (λ (k : Kind). cond (standard k) (encrypted_counter (key_schedule key) id number width z) (replicate 8 0)) e)

pub fields_are : (st : State) (d : Details) {a : After} {y : ℤ} {r : List ℕ} → a ≡ new_counter st d → y ≡ a.counter
    → r ≡ cond (standard d.kind) (encrypted_counter (key_schedule st.key) st.id d.number st.width y) (replicate 8 0)
    → record { details = d; counter = r; chain = st.chain } ≡ fields_of st d
unfolding fields_of
fields_are st d e f h =
    let p = f ∙ ap (λ (x : After). x.counter) e in
    let q = h ∙ ap (λ (z : ℤ). cond (standard d.kind) (encrypted_counter (key_schedule st.key) st.id d.number st.width z) (replicate 8 0)) p in
    λ i. record { details = d; counter = q i; chain = st.chain }

-- ---- the signature

module _ (sig : List ℕ) where
  pub given_none : length sig ≡ 0 → record { failed = true; bytes = replicate 64 0 } ≡ given_signature sig
  unfolding given_signature
  given_none e = rw (eq-eqb (length sig) 0 e)

  pub given_some : {b : List ℕ} → signature_sized sig ≡ true → (length sig ≡ 0 → ⊥) → b ≡ placed (replicate 64 0) 0 sig → record { failed = false; bytes = b } ≡ given_signature sig
  unfolding given_signature
  given_some {b} g h q =
      let n = ne_eqb (length sig) 0 h in
      let l : length sig ≡ 64 = sized-cases sig g n in
      let z : List ℕ = replicate 64 0 in
      let r : 0 + length sig ≤ length z = omega arith in
      let w : overwrite z 0 sig ≡ sig =
      sym (take_all (length sig) (overwrite z 0 sig) (omega (arith, length_over z 0 sig r))) ∙ read_over z 0 sig r in
      let e : b ≡ sig = q ∙ placed_room z 0 sig r ∙ w in
      rw (n, e)

-- ---- the entry can be spelled

pub spellable_asked : (st : State) (d : Details) (sig : List ℕ) → sound_alone st ≡ true → details_number st d 0 ≡ 0 → signature_sized sig ≡ true
    → spellable (settings_now st) st.width (entry_of st d sig) ≡ true
spellable_asked st d sig s z g = call-spellable st d sig (sound-true st s) (details-zero st d 0 z).0 g

pub compact_some : (s : Settings) (n : ℕ) (e : Entry) → 0 < length (compact s n e)
compact_some s n e =
    let f = signing_input s n e.fields in
    let t = encoding UrlSafe (signature_text e.signature) in
    omega (arith, ap length (compact_signed s n e), length-append f ((46 ∷ []) ++ t), length-append (46 ∷ []) t)

-- what was written with these settings is the compact form
pub as_compact : (s : Settings) (n : ℕ) (e : Entry) → spellable s n e ≡ true → (b : List ℕ) (at : ℕ) {u : Settings} {r : ℕ} {b₁ : List ℕ} → u ≡ s
    → (r ≡ place_after b at (spelled u n e)) × (b₁ ≡ placed b at (spelled u n e)) → (r ≡ place_after b at (compact s n e)) × (b₁ ≡ placed b at (compact s n e))
as_compact s n e g b at f w =
    let q = ap (λ (x : Settings). spelled x n e) f ∙ spelled_is s n e g in
    (w.0 ∙ ap (place_after b at) q, w.1 ∙ ap (placed b at) q)

-- ---- whether a writer has moved

pub record Stayed (b t : List ℕ) (at : ℕ) (b₁ : List ℕ) : Type 0 where
  pub full : length b < at + length t
  pub same : b₁ ≡ b

pub record Moved (b t : List ℕ) (at r : ℕ) (b₁ : List ℕ) : Type 0 where
  pub room : at + length t ≤ length b
  pub end : r ≡ at + length t
  pub wrote : b₁ ≡ overwrite b at t
  pub same : length b₁ ≡ length b

module _ (b t : List ℕ) (at : ℕ) {r : ℕ} {b₁ : List ℕ} (w : (r ≡ place_after b at t) × (b₁ ≡ placed b at t)) where
  pub stayed : 0 < length t → r ≡ at → Stayed b t at b₁
  stayed some q = go (leb (at + length t) (length b)) refl
    where
      go : (u : Bool) → leb (at + length t) (length b) ≡ u → Stayed b t at b₁
      go true h = absurd (omega (arith, w.0, after_room b at t (leb-true (at + length t) (length b) h)))
      go false h = let k = leb-false (at + length t) (length b) h in record { full = k; same = w.1 ∙ placed_full b at t k }

  pub moved : (r ≡ at → ⊥) → Moved b t at r b₁
  moved q = go (leb (at + length t) (length b)) refl
    where
      go : (u : Bool) → leb (at + length t) (length b) ≡ u → Moved b t at r b₁
      go true h =
          let k = leb-true (at + length t) (length b) h in
          let e : b₁ ≡ overwrite b at t = w.1 ∙ placed_room b at t k in
          record { room = k; end = w.0 ∙ after_room b at t k; wrote = e; same = ap length e ∙ length_over b at t k }
      go false h = absurd (q (w.0 ∙ after_full b at t (leb-false (at + length t) (length b) h)))

-- ---- the entry after the journal

-- the place after a text that was written, or none where there is no room for it
abbrev pub end_of : List ℕ → List ℕ → ℕ → Option ℕ
end_of b t at = cond (room b at t) (Some (at + length t)) None

module _ (t b : List ℕ) (at : ℕ) (some : 0 < length t) where
  full : length b < at + (2 + length t) → (None ≡ end_of b (entry_text t) at) × (b ≡ placed b at (entry_text t))
  unfolding room
  full h =
      let l = length_entry t in
      let k : length b < at + length (entry_text t) = omega arith in
      (rw (lt-leb _ _ k), sym (placed_full b at (entry_text t) k))

  pub entry_short : length b < at + 2 → (None ≡ end_of b (entry_text t) at) × (b ≡ placed b at (entry_text t))
  entry_short h = full (omega arith)

  module _ {r : ℕ} {b₁ : List ℕ} (w : (r ≡ place_after b (at + 2) t) × (b₁ ≡ placed b (at + 2) t)) where
    pub entry_full : r ≡ at + 2 → (None ≡ end_of b (entry_text t) at) × (b₁ ≡ placed b at (entry_text t))
    entry_full q =
        let s = stayed b t (at + 2) w some q in
        let f = full (omega (arith, s.full)) in
        (f.0, s.same ∙ f.1)

    pub entry_placed : {b₂ : List ℕ} → (r ≡ at + 2 → ⊥) → b₂ ≡ placed b₁ at (bytes_of 2 (r - (at + 2))) → (Some r ≡ end_of b (entry_text t) at) × (b₂ ≡ placed b at (entry_text t))
    unfolding entry_text room
    entry_placed {b₂} q v =
        let m = moved b t (at + 2) w q in
        let k = m.room in
        let n : r - (at + 2) ≡ length t = omega (arith, m.end) in
        let h : List ℕ = bytes_of 2 (length t) in
        let lh : length h ≡ 2 = length_bytes_of 2 (length t) in
        let le : length (h ++ t) ≡ 2 + length t = length_entry t in
        let p : at + 2 ≡ at + length h = omega arith in
        let w₂ : b₂ ≡ overwrite b₁ at h = v ∙ ap (λ (x : ℕ). placed b₁ at (bytes_of 2 x)) n ∙ placed_room b₁ at h (omega (arith, m.same)) in (
          (let q : r ≡ at + length (h ++ t) = omega (arith, m.end, le) in rw (le-leb (at + length (h ++ t)) (length b) (omega (arith, le, k))) (ap Some q)),
          w₂ ∙ (λ i. overwrite (m.wrote i) at h) ∙ (λ i. overwrite (overwrite b (p i) t) at h)
              ∙ sym (over_comm b at h (at + length h) t (omega arith) (omega arith)) ∙ over_over b at h t (omega arith) ∙ sym (placed_room b at (h ++ t) (omega arith)),
        )

-- the text where it lies
pub entry_text_lem : (b t : List ℕ) (at : ℕ) → at + length (entry_text t) ≤ length b → take (length t) (drop (at + 2) (overwrite b at (entry_text t))) ≡ t
unfolding entry_text
entry_text_lem b t at h =
    let x = overwrite b at (entry_text t) in
    ap (take (length t)) (sym (drop-drop 2 at x)) ∙ tail (drop at x) (read_over b at (entry_text t) h)
  where
    tail : (l : List ℕ) → take (length (entry_text t)) l ≡ entry_text t → take (length t) (drop 2 l) ≡ t
    tail l f =
        let y : List ℕ = bytes_of 2 (length t) in
        let n : length (y ++ t) ≡ 2 + length t = length_entry t in
        let g : take (2 + length t) l ≡ y ++ t = ap (λ (m : ℕ). take m l) (sym n) ∙ f in
        let k : 2 ≤ length l = omega (arith, ap length g, length-take (2 + length t) l, n) in
        sym (drop_at (take 2 l) (take (length t) (drop 2 l)) 2 (length-take-le 2 l k)) ∙ ap (drop 2) (sym (take-add 2 (length t) l) ∙ g) ∙ drop_at y t 2 (length_bytes_of 2 (length t))

-- the state after it
pub next_is : (st : State) (d : Details) (text : List ℕ) {a : After} {chain : List ℕ} → a ≡ new_counter st d → chain ≡ chain_value text
    → record {
      csp = st.csp;
      id = st.id;
      serials = st.serials;
      width = st.width;
      key = st.key;
      counter = a.counter;
      last = d.number;
      issued = st.issued + 1;
      chain = chain;
      length = st.length + 2 + length text;
      since = st.since + 1;
      place = st.place;
    } ≡ next st d text
unfolding next
next_is st d text p q =
    let e : st.length + 2 + length text ≡ st.length + length (entry_text text) = omega (arith, length_entry text) in
    λ i. record {
      csp = st.csp;
      id = st.id;
      serials = st.serials;
      width = st.width;
      key = st.key;
      counter = (p i).counter;
      last = d.number;
      issued = st.issued + 1;
      chain = q i;
      length = e i;
      since = st.since + 1;
      place = st.place;
    }

-- the places of the entry, once it is written
pub record Made (st : State) (b b₁ : List ℕ) (r : ℕ) : Type 0 where
  pub start : st.length + 2 ≤ r
  pub end : r ≤ length b
  pub same : length b₁ ≡ length b
  pub long : st.length + 2 + length (take (r - (st.length + 2)) (drop (st.length + 2) b₁)) ≤ length b

end_none : (b t : List ℕ) (at : ℕ) → None ≡ end_of b t at → length b < at + length t
unfolding room
end_none b t at e = go (leb (at + length t) (length b)) refl e
  where
    go : (u : Bool) → leb (at + length t) (length b) ≡ u → None ≡ cond u (Some (at + length t)) None → length b < at + length t
    go true h q = absurd (let w : None ≡ Some (at + length t) = q in cc)
    go false h q = leb-false _ _ h

end_some : (b t : List ℕ) (at : ℕ) {r : ℕ} {b₁ : List ℕ} → Some r ≡ end_of b t at → b₁ ≡ placed b at t → Moved b t at r b₁
unfolding room
end_some b t at {r} {b₁} e p = go (leb (at + length t) (length b)) refl e
  where
    go : (u : Bool) → leb (at + length t) (length b) ≡ u → Some r ≡ cond u (Some (at + length t)) None → Moved b t at r b₁
    go true h q =
        let k = leb-true (at + length t) (length b) h in
        let w : b₁ ≡ overwrite b at t = p ∙ placed_room b at t k in
        let f : r ≡ at + length t = cc in
        record { room = k; end = f; wrote = w; same = ap length w ∙ length_over b at t k }
    go false h q = absurd (let w : Some r ≡ None = q in cc)

-- ---- the answers of an Issue

-- a refused call
module _ (st : State) (d : Details) (sig b : List ℕ) {n : ℕ} (is : issue_number st d sig (length b) ≡ n) where
  pub issue_stops : {b₁ : List ℕ} → (n ≡ 0 → ⊥) → b₁ ≡ b → (record { number = n; state = st } ≡ issued st d sig (length b)) × (b₁ ≡ issue_buffer st d sig b)
  unfolding issued_within issue_buffer_within
  issue_stops h q =
      let m : issue_number st d sig (length b) ≡ 0 → ⊥ = λ z. h (sym is ∙ z) in (
        (λ i. record { number = sym is i; state = sym (ifZero-no (issue_number st d sig (length b)) (next st d (text_of st d sig)) st m) i }),
        q ∙ sym (ifZero-no (issue_number st d sig (length b)) (with_entry st (text_of st d sig) b) b m),
      )

-- a question that is answered no, whatever is asked after it
asked_stops : (u : Bool) (m rest : ℕ) → (ask u 6 m ≡ 0 → ⊥) → ask u 6 m ≡ ask u 6 (ifZero m rest m)
unfolding ask ifZero
asked_stops false m rest h = refl
asked_stops true zero rest h = absurd (h refl)
asked_stops true (suc m) rest h = refl

-- 6 to 11
module _ (st : State) (d : Details) (sig b : List ℕ) {k : ℕ} (e : k ≡ ask (sound st (length b)) 6 (details_number st d 0)) where
  pub issue_refused : (k ≡ 0 → ⊥) → (record { number = k; state = st } ≡ issued st d sig (length b)) × (b ≡ issue_buffer st d sig b)
  unfolding issue_number_within
  issue_refused h =
      let rest = ask (signature_sized sig) 12 (ask (entry_fits st (text_of st d sig) (length b)) 13 0) in
      let n : k ≡ issue_number st d sig (length b) =
      e ∙ asked_stops (sound st (length b)) (details_number st d 0) rest (λ z. h (e ∙ z)) ∙ ap (ask (sound st (length b)) 6) (sym (details-then st d rest)) in
      issue_stops st d sig b (sym n) h refl

  module _ (z : k ≡ 0) where
    issue_asked : (sound st (length b) ≡ true) × (details_number st d 0 ≡ 0)
    issue_asked = ask_zero _ _ _ (sym e ∙ z)

    number_asked : issue_number st d sig (length b) ≡ ask (signature_sized sig) 12 (ask (entry_fits st (text_of st d sig) (length b)) 13 0)
    unfolding issue_number_within
    number_asked = ask_yes 6 _ issue_asked.0 ∙ details_past st d refl _ issue_asked.1

    -- 12
    pub signature_refused : {r : Refusal} → Err r ≡ cond (signature_sized sig) (Ok (given_signature sig)) (Err BadSignature)
        → (record { number = number_of r; state = st } ≡ issued st d sig (length b)) × (b ≡ issue_buffer st d sig b)
    signature_refused {r} q = go (signature_sized sig) refl q
      where
        go : (t : Bool) → signature_sized sig ≡ t → Err r ≡ cond t (Ok (given_signature sig)) (Err BadSignature)
            → (record { number = number_of r; state = st } ≡ issued st d sig (length b)) × (b ≡ issue_buffer st d sig b)
        go true p v = absurd (let w : Err r ≡ Ok (given_signature sig) = v in cc)
        go false p v =
            let w : BadSignature ≡ r = cc in
            subst (λ (x : Refusal). (record { number = number_of x; state = st } ≡ issued st d sig (length b)) × (b ≡ issue_buffer st d sig b)) w
            (issue_stops st d sig b (number_asked ∙ ask_no 12 _ p) (λ o. absurd (omega arith)) refl)

    pub entry_taken : {f : PayloadFields} {g : Signature} → f ≡ fields_of st d → Ok g ≡ cond (signature_sized sig) (Ok (given_signature sig)) (Err BadSignature)
        → (signature_sized sig ≡ true) × (record { fields = f; signature = g } ≡ entry_of st d sig)
    unfolding entry_of
    entry_taken {f} {g} e q = go (signature_sized sig) refl q
      where
        go : (t : Bool) → signature_sized sig ≡ t → Ok g ≡ cond t (Ok (given_signature sig)) (Err BadSignature)
            → (signature_sized sig ≡ true) × (record { fields = f; signature = g } ≡ entry_of st d sig)
        go true p v = let w : g ≡ given_signature sig = cc in (p, λ i. record { fields = e i; signature = w i })
        go false p v = absurd (let w : Ok g ≡ Err BadSignature = v in cc)

    module _ (g : signature_sized sig ≡ true) where
      pub issue_alone : (sound_alone st ≡ true) × (st.length ≤ length b)
      unfolding sound
      issue_alone = let p = both _ _ issue_asked.0 in (p.0, leb-true _ _ p.1)

      pub issue_spellable : spellable (settings_now st) st.width (entry_of st d sig) ≡ true
      issue_spellable = spellable_asked st d sig issue_alone.0 issue_asked.1 g

      -- the counts of receipts, and the place of that of the open section
      pub issue_count : d.number < 4294967296 → (st.issued + 1 < 4294967296) × (st.since + 1 < 4294967296)
      issue_count h =
          let s = sound-true st issue_alone.0 in
          let n = (details-zero st d 0 issue_asked.1).0.above in
          (omega (arith, s.issued), omega (arith, s.issued, s.since))

      pub issue_place : st.place + 4 ≤ length b
      issue_place = omega (arith, (sound-true st issue_alone.0).place, issue_alone.1)

      -- the part of the number that is not known yet
      number_is : issue_number st d sig (length b) ≡ ask (leb (st.length + length (entry_text (text_of st d sig))) (length b)) 13 0
      unfolding entry_fits
      number_is = number_asked ∙ ask_yes 12 _ g

      module _ {x : Entry} (q : x ≡ entry_of st d sig) where
        -- the text that the definitions name
        text_same : entry_text (compact (settings_now st) st.width x) ≡ entry_text (text_of st d sig)
        unfolding text_of
        text_same = λ i. entry_text (compact (settings_now st) st.width (q i))

        module _ {b₁ : List ℕ} where
          -- 13
          pub room_refused : (None ≡ end_of b (entry_text (compact (settings_now st) st.width x)) st.length) × (b₁ ≡ placed b st.length (entry_text (compact (settings_now st) st.width x)))
              → (record { number = 13; state = st } ≡ issued st d sig (length b)) × (b₁ ≡ issue_buffer st d sig b)
          room_refused w =
              let t = entry_text (text_of st d sig) in
              let f : length b < st.length + length t = end_none b t st.length (w.0 ∙ ap (λ (l : List ℕ). end_of b l st.length) text_same) in
              issue_stops st d sig b (number_is ∙ ask_no 13 0 (lt-leb _ _ f)) (λ o. absurd (omega arith))
              (w.1 ∙ ap (placed b st.length) text_same ∙ placed_full b st.length t f)

          module _ {r : ℕ} (w : (Some r ≡ end_of b (entry_text (compact (settings_now st) st.width x)) st.length) × (b₁ ≡ placed b st.length (entry_text (compact (settings_now st) st.width x)))) where
            appended : Moved b (entry_text (text_of st d sig)) st.length r b₁
            appended =
                end_some b (entry_text (text_of st d sig)) st.length (w.0 ∙ ap (λ (l : List ℕ). end_of b l st.length) text_same) (w.1 ∙ ap (placed b st.length) text_same)

            text_is : take (r - (st.length + 2)) (drop (st.length + 2) b₁) ≡ text_of st d sig
            text_is =
                let n : r - (st.length + 2) ≡ length (text_of st d sig) = omega (arith, appended.end, length_entry (text_of st d sig)) in
                (λ i. take (n i) (drop (st.length + 2) (appended.wrote i))) ∙ entry_text_lem b (text_of st d sig) st.length appended.room

            pub issue_made : Made st b b₁ r
            issue_made =
                let l = length_entry (text_of st d sig) in
                record {
                  start = omega (arith, appended.end);
                  end = omega (arith, appended.end, appended.room);
                  same = appended.same;
                  long = omega (arith, ap length text_is, appended.end, appended.room);
                }

            pub issue_done : {st₁ : State} {b₂ : List ℕ} → st₁ ≡ next st d (take (r - (st.length + 2)) (drop (st.length + 2) b₁))
                → b₂ ≡ overwrite b₁ st.place (bytes_of 4 (st.since + 1))
                → (record { number = 0; state = st₁ } ≡ issued st d sig (length b)) × (b₂ ≡ issue_buffer st d sig b)
            unfolding issued_within issue_buffer_within with_entry
            issue_done f g =
                let n : issue_number st d sig (length b) ≡ 0 = number_is ∙ ask_yes 13 0 (le-leb _ _ appended.room) in (
                  (λ i. record { number = sym n i; state = (f ∙ ap (next st d) text_is ∙ sym (ifZero-yes (next st d (text_of st d sig)) st n)) i }),
                  g ∙ (λ i. overwrite (appended.wrote i) st.place (bytes_of 4 (st.since + 1))) ∙ sym (ifZero-yes (with_entry st (text_of st d sig) b) b n),
                )

-- ---- Prepare

module _ (st : State) (d : Details) (out : List ℕ) {k : ℕ} (e : k ≡ ask (sound_alone st) 6 (details_number st d 0)) where
  pub prepare_refused : (k ≡ 0 → ⊥) → (record { number = k; length = 0 } ≡ prepare_answer st d (length out)) × (out ≡ prepare_buffer st d out)
  unfolding prepare_answer prepare_buffer prepare_number ask ifZero
  prepare_refused h =
      let rest = ask (leb (length (prepared_text st d)) (length out)) 13 0 in
      let n : k ≡ prepare_number st d (length out) =
      e ∙ asked_stops (sound_alone st) (details_number st d 0) rest (λ z. h (e ∙ z)) ∙ ap (ask (sound_alone st) 6) (sym (details-then st d rest)) in
      let m : prepare_number st d (length out) ≡ 0 → ⊥ = λ z. h (n ∙ z) in (
        (λ i. record { number = n i; length = sym (ifZero-no (prepare_number st d (length out)) (length (prepared_text st d)) 0 m) i }),
        sym (ifZero-no (prepare_number st d (length out)) (overwrite out 0 (prepared_text st d)) out m),
      )

  module _ (z : k ≡ 0) {s : Settings} (g : s ≡ settings_now st) {f : PayloadFields} (q : f ≡ fields_of st d) {r : ℕ} {out₁ : List ℕ}
      (w : (r ≡ place_after out 0 (prepared s st.width f)) × (out₁ ≡ placed out 0 (prepared s st.width f))) where
    asked : (sound_alone st ≡ true) × (details_number st d 0 ≡ 0)
    asked = ask_zero _ _ _ (sym e ∙ z)

    prepared_as : prepared s st.width f ≡ prepared_text st d
    unfolding prepared_text entry_of signature_sized
    prepared_as =
        let u = settings_now st in
        let n = st.width in
        let y = spellable_asked st d [] asked.0 asked.1 none in
        (λ i. prepared (g i) n (q i)) ∙ prepared_is u n (fields_of st d) (preparable_made u n (fields_of st d) (spellable_true u n (entry_of st d []) y).fields)
      where
        none : signature_sized [] ≡ true
        none = refl

    w₁ : (r ≡ place_after out 0 (prepared_text st d)) × (out₁ ≡ placed out 0 (prepared_text st d))
    w₁ = (w.0 ∙ ap (place_after out 0) prepared_as, w.1 ∙ ap (placed out 0) prepared_as)

    some_text : 0 < length (prepared_text st d)
    unfolding prepared_text
    some_text = input_some (settings_now st) st.width (fields_of st d)

    number_left : prepare_number st d (length out) ≡ ask (leb (length (prepared_text st d)) (length out)) 13 0
    unfolding prepare_number
    number_left = ask_yes 6 _ asked.0 ∙ details_past st d refl _ asked.1

    pub prepare_full : r ≡ 0 → (record { number = 13; length = 0 } ≡ prepare_answer st d (length out)) × (out₁ ≡ prepare_buffer st d out)
    unfolding prepare_answer prepare_buffer
    prepare_full o =
        let x = prepared_text st d in
        let s = stayed out x 0 w₁ some_text o in
        let k : length out < length x = omega (arith, s.full) in
        let n : prepare_number st d (length out) ≡ 13 = number_left ∙ ask_no 13 0 (lt-leb _ _ k) in
        let m : prepare_number st d (length out) ≡ 0 → ⊥ = λ y. omega (arith, n, y) in (
          (λ i. record { number = sym n i; length = sym (ifZero-no (prepare_number st d (length out)) (length x) 0 m) i }),
          s.same ∙ sym (ifZero-no (prepare_number st d (length out)) (overwrite out 0 x) out m),
        )

    pub prepare_done : (r ≡ 0 → ⊥) → (record { number = 0; length = r } ≡ prepare_answer st d (length out)) × (out₁ ≡ prepare_buffer st d out)
    unfolding prepare_answer prepare_buffer
    prepare_done o =
        let x = prepared_text st d in
        let s = moved out x 0 w₁ o in
        let k : length x ≤ length out = omega (arith, s.room) in
        let v : r ≡ length x = omega (arith, s.end) in
        let n : prepare_number st d (length out) ≡ 0 = number_left ∙ ask_yes 13 0 (le-leb _ _ k) in (
          (λ i. record { number = sym n i; length = (v ∙ sym (ifZero-yes (length x) 0 n)) i }),
          s.wrote ∙ sym (ifZero-yes (overwrite out 0 x) out n),
        )
