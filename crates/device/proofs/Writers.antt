-- What the writers of settings and states show at their returns, over plain variables.
use Rattle.std.proofs.lemmas.Int.{to_z-of_z}
use Rattle.std.proofs.Common.{ℕ, suc, ◌+◌, ◌*◌, ◌≤◌, ◌<◌, ◌≡◌, sym, ap, ◌∙◌, subst, List, [], ◌∷◌, ◌++◌, append_assoc, add-one, arith, length, get_or, drop, length-append, drop_of_length-le, drop-cons, w64, SFits, to_z, of_z}
use Rattle.primitives.specs.Place.{overwrite, placed}
use Rattle.primitives.specs.Number.{bytes_of}
use Rattle.primitives.specs.Counter.{counter_bytes}
use Rattle.primitives.proofs.Numbers.{length_bytes_of}
use Rattle.primitives.proofs.Over.{placed_room, then}
use Rattle.primitives.proofs.Twos.{length_counter_bytes}
use Rattle.primitives.proofs.Writing.{Writing, writing_left, writing_more, writing_end}
use Rattle.receipt.specs.Settings.{SettingsLengths}
use Rattle.receipt.specs.declared.settings.Name.{Name}
use Rattle.receipt.specs.declared.settings.Settings.{Settings}
use Rattle.journal.specs.State.{no_name}
use Rattle.journal.specs.declared.state.State.{State}
use Rattle.journal.proofs.OpenCalls.{then_placed}
use Rattle.device.specs.Layout.{name_bytes, settings_bytes, names_bytes, register_bytes, figures_bytes, state_bytes}
use Rattle.device.proofs.Reading.{over_all}
use Rattle.device.proofs.Slots.{Long, name_any, Lengths}

-- two writers in a row
both_placed : (b ys zs : List ℕ) (at at' : ℕ) {b₁ b₂ : List ℕ} → b₁ ≡ placed b at ys → b₂ ≡ placed b₁ at' zs → at' ≡ at + length ys
    → at + length ys + length zs ≤ length b → b₂ ≡ overwrite b at (ys ++ zs)
both_placed b ys zs at at' e₁ e₂ p h = then_placed b ys zs at at' (e₁ ∙ placed_room b at ys (omega arith)) e₂ p h

-- ---- settings

pub length_name : (n : Name) → length n.bytes ≡ 32 → length (name_bytes n) ≡ 40
length_name n e = length-append n.bytes (bytes_of 8 n.len) ∙ omega (arith, length_bytes_of 8 n.len)

pub put_name : (n : Name) (b : List ℕ) (at : ℕ) {b₁ b₂ : List ℕ} → length n.bytes ≡ 32 → at + 40 ≤ length b → b₁ ≡ placed b at n.bytes
    → b₂ ≡ placed b₁ (at + 32) (bytes_of 8 n.len) → b₂ ≡ overwrite b at (name_bytes n)
put_name n b at l h e₁ e₂ =
    let m = length_bytes_of 8 n.len in
    both_placed b n.bytes (bytes_of 8 n.len) at (at + 32) e₁ e₂ (omega arith) (omega arith)

front_long : (csp : List ℕ) (id : Name) → length csp ≡ 3 → length id.bytes ≡ 32 → length (csp ++ name_bytes id) ≡ 43
front_long csp id c l = length-append csp (name_bytes id) ∙ omega (arith, length_name id l)

module _ (s : Settings) (t : SettingsLengths s) where
  names_long : length (s.csp ++ name_bytes s.id ++ name_bytes s.serial) ≡ 83
  names_long = length-append (s.csp ++ name_bytes s.id) (name_bytes s.serial) ∙ omega (arith, front_long s.csp s.id t.csp t.id, length_name s.serial t.serial)

  module _ (b : List ℕ) where
    pub put_names : {b₁ b₂ b₃ : List ℕ} → 83 ≤ length b → b₁ ≡ placed b 0 s.csp → b₂ ≡ overwrite b₁ 3 (name_bytes s.id)
        → b₃ ≡ overwrite b₂ 43 (name_bytes s.serial) → b₃ ≡ overwrite b 0 (s.csp ++ name_bytes s.id ++ name_bytes s.serial)
    put_names h e₁ e₂ e₃ =
        let l₁ = t.csp in
        let l₂ = front_long s.csp s.id t.csp t.id in
        let w₁ = e₁ ∙ placed_room b 0 s.csp (omega arith) in
        let w₂ = then b s.csp (name_bytes s.id) 0 3 w₁ e₂ (omega arith) (omega arith) in
        then b (s.csp ++ name_bytes s.id) (name_bytes s.serial) 0 43 w₂ e₃ (omega arith) (omega arith)

  parts : (n : ℕ) (key : List ℕ) → (s.csp ++ name_bytes s.id ++ name_bytes s.serial) ++ (bytes_of 8 n ++ key) ≡ settings_bytes s n key
  unfolding settings_bytes
  parts n key = simp append_assoc

  pub put_settings : (n : ℕ) (key b : List ℕ) {b₁ b₂ : List ℕ} → 123 ≤ length b → b₁ ≡ overwrite b 0 (s.csp ++ name_bytes s.id ++ name_bytes s.serial)
      → b₂ ≡ overwrite b₁ 83 (bytes_of 8 n ++ key) → b₂ ≡ overwrite b 0 (settings_bytes s n key)
  put_settings n key b h e₁ e₂ =
      let l = names_long in
      then b (s.csp ++ name_bytes s.id ++ name_bytes s.serial) (bytes_of 8 n ++ key) 0 83 e₁ e₂ (omega arith) (omega arith)
      ∙ ap (overwrite b 0) (parts n key)

  pub length_settings : (n : ℕ) (key : List ℕ) → length key ≡ 32 → length (settings_bytes s n key) ≡ 123
  length_settings n key k =
      sym (ap length (parts n key)) ∙ length-append (s.csp ++ name_bytes s.id ++ name_bytes s.serial) (bytes_of 8 n ++ key)
      ∙ omega (arith, names_long, length-append (bytes_of 8 n) key, length_bytes_of 8 n)

pub put_key : (n : ℕ) (key b : List ℕ) {b₁ b₂ : List ℕ} → length key ≡ 32 → 123 ≤ length b → b₁ ≡ placed b 83 (bytes_of 8 n) → b₂ ≡ placed b₁ 91 key
    → b₂ ≡ overwrite b 83 (bytes_of 8 n ++ key)
put_key n key b k h e₁ e₂ =
    let l = length_bytes_of 8 n in
    both_placed b (bytes_of 8 n) key 83 91 e₁ e₂ (omega arith) (omega arith)

-- ---- names, one after the other

pub length_names : (ns : List Name) → Long ns → length (names_bytes ns) ≡ 40 * length ns
unfolding names_bytes
length_names [] h = omega arith
length_names (n ∷ ns) h =
    length-append (name_bytes n) (names_bytes ns) ∙ omega (arith, length_name n (h 0 (omega arith)), length_names ns (λ i l. h (suc i) (omega arith)))

names_here : (ns : List Name) (i : ℕ) (d : Name) → i < length ns → names_bytes (drop i ns) ≡ name_bytes (get_or ns i d) ++ names_bytes (drop (i + 1) ns)
unfolding names_bytes
names_here ns i d h = ap names_bytes (drop-cons ns i d h ∙ ap (λ (k : ℕ). get_or ns i d ∷ drop k ns) (sym (add-one i)))

-- the loop that writes them
module _ (ns : List Name) (i : ℕ) {at : ℕ} {out₀ out : List ℕ} (w : Writing out₀ at (names_bytes ns) out (at + 40 * i) (names_bytes (drop i ns))) where
  pub name_more : (d : Name) {out₁ : List ℕ} → Long ns → i < length ns → out₁ ≡ overwrite out (at + 40 * i) (name_bytes (get_or ns i d))
      → Writing out₀ at (names_bytes ns) out₁ (at + 40 * (i + 1)) (names_bytes (drop (i + 1) ns))
  name_more d {out₁} long h e =
      let n = get_or ns i d in
      let l : length (name_bytes n) ≡ 40 = length_name n (ap (λ (x : Name). length x.bytes) (name_any ns i d no_name h) ∙ long i h) in
      let q : at + 40 * i + length (name_bytes n) ≡ at + 40 * (i + 1) = omega arith in
      subst (λ (o : ℕ). Writing out₀ at (names_bytes ns) out₁ o (names_bytes (drop (i + 1) ns))) q
      (writing_more (name_bytes n) (names_bytes (drop (i + 1) ns)) (writing_left w (names_here ns i d h)) e)

  pub names_done : length ns ≤ i → out ≡ overwrite out₀ at (names_bytes ns)
  unfolding names_bytes
  names_done h = (writing_end (writing_left w (ap names_bytes (drop_of_length-le ns h)))).1

-- ---- states

module _ (st : State) where
  -- counter, last number and receipts issued; chain value, length, receipts in the open section and the place of their count
  abbrev counts_bytes : List ℕ
  counts_bytes = counter_bytes 8 st.counter ++ bytes_of 4 st.last ++ bytes_of 4 st.issued

  abbrev chain_bytes : List ℕ
  chain_bytes = st.chain ++ bytes_of 8 st.length ++ bytes_of 4 st.since ++ bytes_of 8 st.place

  last_long : length (counter_bytes 8 st.counter ++ bytes_of 4 st.last) ≡ 12
  last_long =
      length-append (counter_bytes 8 st.counter) (bytes_of 4 st.last)
      ∙ omega (arith, length_counter_bytes 8 st.counter, length_bytes_of 4 st.last)

  counts_long : length counts_bytes ≡ 16
  counts_long =
      length-append (counter_bytes 8 st.counter ++ bytes_of 4 st.last) (bytes_of 4 st.issued) ∙ omega (arith, last_long, length_bytes_of 4 st.issued)

  figures : counts_bytes ++ chain_bytes ≡ figures_bytes st
  unfolding figures_bytes
  figures = simp append_assoc

  module _ (e : length st.chain ≡ 8) where
    length_long : length (st.chain ++ bytes_of 8 st.length) ≡ 16
    length_long = length-append st.chain (bytes_of 8 st.length) ∙ omega (arith, length_bytes_of 8 st.length)

    since_long : length (st.chain ++ bytes_of 8 st.length ++ bytes_of 4 st.since) ≡ 20
    since_long = length-append (st.chain ++ bytes_of 8 st.length) (bytes_of 4 st.since) ∙ omega (arith, length_long, length_bytes_of 4 st.since)

    chain_long : length chain_bytes ≡ 28
    chain_long =
        length-append (st.chain ++ bytes_of 8 st.length ++ bytes_of 4 st.since) (bytes_of 8 st.place) ∙ omega (arith, since_long, length_bytes_of 8 st.place)

  module _ (t : Lengths st) where
    serials_long : length (st.csp ++ name_bytes st.id ++ names_bytes st.serials) ≡ 363
    serials_long =
        length-append (st.csp ++ name_bytes st.id) (names_bytes st.serials)
        ∙ omega (arith, front_long st.csp st.id t.csp t.id, length_names st.serials t.serials, t.eight)

    width_long : length (st.csp ++ name_bytes st.id ++ names_bytes st.serials ++ bytes_of 8 st.width) ≡ 371
    width_long =
        length-append (st.csp ++ name_bytes st.id ++ names_bytes st.serials) (bytes_of 8 st.width) ∙ omega (arith, serials_long, length_bytes_of 8 st.width)

    length_register : length (register_bytes st) ≡ 403
    unfolding register_bytes
    length_register =
        length-append (st.csp ++ name_bytes st.id ++ names_bytes st.serials ++ bytes_of 8 st.width) st.key ∙ omega (arith, width_long, t.key)

    pub length_state : length (state_bytes st) ≡ 447
    unfolding state_bytes
    length_state =
        length-append (register_bytes st) (figures_bytes st)
        ∙ omega (arith, length_register, ap length figures, length-append counts_bytes chain_bytes, counts_long, chain_long t.chain)

  module _ (b : List ℕ) where
    pub put_register : {b₁ b₂ b₃ b₄ b₅ : List ℕ} → Lengths st → 403 ≤ length b → b₁ ≡ placed b 0 st.csp → b₂ ≡ overwrite b₁ 3 (name_bytes st.id)
        → b₃ ≡ overwrite b₂ 43 (names_bytes st.serials) → b₄ ≡ placed b₃ 363 (bytes_of 8 st.width) → b₅ ≡ placed b₄ 371 st.key
        → b₅ ≡ overwrite b 0 (register_bytes st)
    unfolding register_bytes
    put_register t h e₁ e₂ e₃ e₄ e₅ =
        let p₁ = st.csp in
        let p₂ = p₁ ++ name_bytes st.id in
        let p₃ = p₂ ++ names_bytes st.serials in
        let l₁ = t.csp in
        let l₂ = front_long st.csp st.id t.csp t.id in
        let l₃ = serials_long t in
        let l₄ = width_long t in
        let l₅ = length_bytes_of 8 st.width in
        let w₁ = e₁ ∙ placed_room b 0 p₁ (omega arith) in
        let w₂ = then b p₁ (name_bytes st.id) 0 3 w₁ e₂ (omega arith) (omega arith) in
        let w₃ = then b p₂ (names_bytes st.serials) 0 43 w₂ e₃ (omega arith) (omega arith) in
        let w₄ = then_placed b p₃ (bytes_of 8 st.width) 0 363 w₃ e₄ (omega arith) (omega arith) in
        then_placed b (p₃ ++ bytes_of 8 st.width) st.key 0 371 w₄ e₅ (omega arith) (omega (arith, t.key))

    pub put_counts : {r b₁ b₂ b₃ : List ℕ} → 447 ≤ length b → SFits w64 st.counter → r ≡ counter_bytes 8 (to_z w64 (of_z w64 st.counter)) → b₁ ≡ placed b 403 r
        → b₂ ≡ placed b₁ 411 (bytes_of 4 st.last) → b₃ ≡ placed b₂ 415 (bytes_of 4 st.issued) → b₃ ≡ overwrite b 403 counts_bytes
    put_counts h f q e₁ e₂ e₃ =
        let z = st.counter in
        let l₁ = length_counter_bytes 8 z in
        let l₂ = length_bytes_of 4 st.last in
        let l₃ = length_bytes_of 4 st.issued in
        let l₄ = last_long in
        let p = e₁ ∙ ap (placed b 403) (q ∙ ap (counter_bytes 8) (to_z-of_z w64 z f)) in
        let w = both_placed b (counter_bytes 8 z) (bytes_of 4 st.last) 403 411 p e₂ (omega arith) (omega arith) in
        then_placed b (counter_bytes 8 z ++ bytes_of 4 st.last) (bytes_of 4 st.issued) 403 415 w e₃ (omega arith) (omega arith)

    pub put_chain : {b₁ b₂ b₃ b₄ : List ℕ} → length st.chain ≡ 8 → 447 ≤ length b → b₁ ≡ placed b 419 st.chain → b₂ ≡ placed b₁ 427 (bytes_of 8 st.length)
        → b₃ ≡ placed b₂ 435 (bytes_of 4 st.since) → b₄ ≡ placed b₃ 439 (bytes_of 8 st.place) → b₄ ≡ overwrite b 419 chain_bytes
    put_chain t h e₁ e₂ e₃ e₄ =
        let p₁ = st.chain in
        let p₂ = p₁ ++ bytes_of 8 st.length in
        let l₂ = length_bytes_of 8 st.length in
        let l₃ = length_bytes_of 4 st.since in
        let l₄ = length_bytes_of 8 st.place in
        let l₅ = length_long t in
        let l₆ = since_long t in
        let w₁ = both_placed b p₁ (bytes_of 8 st.length) 419 427 e₁ e₂ (omega arith) (omega arith) in
        let w₂ = then_placed b p₂ (bytes_of 4 st.since) 419 435 w₁ e₃ (omega arith) (omega arith) in
        then_placed b (p₂ ++ bytes_of 4 st.since) (bytes_of 8 st.place) 419 439 w₂ e₄ (omega arith) (omega arith)

    pub put_state : {b₁ b₂ b₃ : List ℕ} → Lengths st → length b ≡ 447 → b₁ ≡ overwrite b 0 (register_bytes st) → b₂ ≡ overwrite b₁ 403 counts_bytes
        → b₃ ≡ overwrite b₂ 419 chain_bytes → b₃ ≡ state_bytes st
    unfolding state_bytes
    put_state t h e₁ e₂ e₃ =
        let x = register_bytes st in
        let l₁ = length_register t in
        let l₂ = counts_long in
        let l₃ : length (x ++ counts_bytes) ≡ 419 = length-append x counts_bytes ∙ omega arith in
        let w = then b x counts_bytes 0 403 e₁ e₂ (omega arith) (omega arith) in
        then b (x ++ counts_bytes) chain_bytes 0 419 w e₃ (omega arith) (omega arith)
        ∙ ap (overwrite b 0) (append_assoc x counts_bytes chain_bytes ∙ ap (λ (l : List ℕ). x ++ l) figures)
        ∙ over_all b (state_bytes st) (length_state t ∙ sym h)
