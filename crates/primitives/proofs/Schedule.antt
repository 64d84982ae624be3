-- Laws of the key schedule and of the rounds, for the loops that make them.
use Rattle.std.proofs.Common.{◌≡◌, ℕ, ◌+◌, ◌-◌, ◌/◌, ◌%◌, ◌<◌, ◌≤◌, List, [], ◌∷◌, ◌++◌, length, get_or, take, set, sym, refl, ap, ◌∙◌, add-one, arith, length-set, take_all, get_or-take, take-suc-set, le-ltb, lt-ltb, eq-eqb, ne_eqb}
use Rattle.primitives.specs.Aes.{sub_column, add_column, rot_word, rcon, words, word_after, key_word, next_word, key_schedule, rounds_of, round, round_key, last_round, load, store, add_round_key, sub_bytes, shift_rows, mix_columns, cipher}

-- ---- the three kinds of a word after the eighth

module _ (i : ℕ) (prev back : List ℕ) where
  pub next_eighth : i % 8 ≡ 0 → {k : ℕ} {t s u r : List ℕ} →
      k ≡ rcon (i / 8) → t ≡ rot_word prev → s ≡ sub_column t → u ≡ add_column s (k ∷ 0 ∷ 0 ∷ 0 ∷ []) → r ≡ add_column back u → r ≡ next_word i prev back
  unfolding next_word
  next_eighth h ek et es eu er =
      rw (eq-eqb (i % 8) 0 h)
      (er ∙ ap (add_column back) (eu ∙ (λ j. add_column ((es ∙ ap sub_column et) j) (ek j ∷ 0 ∷ 0 ∷ 0 ∷ []))))

  pub next_fourth : (i % 8 ≡ 0 → ⊥) → i % 8 ≡ 4 → {s r : List ℕ} → s ≡ sub_column prev → r ≡ add_column back s → r ≡ next_word i prev back
  unfolding next_word
  next_fourth n h es er = rw (ne_eqb (i % 8) 0 n, eq-eqb (i % 8) 4 h) (er ∙ ap (add_column back) es)

  pub next_other : (i % 8 ≡ 0 → ⊥) → (i % 8 ≡ 4 → ⊥) → {r : List ℕ} → r ≡ add_column back prev → r ≡ next_word i prev back
  unfolding next_word
  next_other n m er = rw (ne_eqb (i % 8) 0 n, ne_eqb (i % 8) 4 m) er

-- ---- the loop that fills the schedule

-- the first i of 60 words are those of the schedule
pub record Filled (key : List ℕ) (w : List (List ℕ)) (i : ℕ) : Type 0 where
  pub long : length w ≡ 60
  pub so_far_lem : take i w ≡ words key i

pub fill_none : (key : List ℕ) (w : List (List ℕ)) → length w ≡ 60 → Filled key w 0
unfolding words
fill_none key w e = record { long = e; so_far_lem = refl }

pub fill_all : (key : List ℕ) (w : List (List ℕ)) → Filled key w 60 → w ≡ key_schedule key
unfolding key_schedule
fill_all key w f = sym (take_all 60 w (omega arith)) ∙ f.so_far_lem

module _ (key : List ℕ) (w w' : List (List ℕ)) (i : ℕ) (v : List ℕ) (f : Filled key w i) (more : i < 60) (e : w' ≡ set w i v) where
  filled : v ≡ word_after key (words key i) i → Filled key w' (i + 1)
  unfolding words
  filled p =
      rw e
      (record {
        long = length-set w i v ∙ f.long;
        so_far_lem = rw add-one (take-suc-set w i v (omega arith) ∙ (λ j. f.so_far_lem j ++ (p j ∷ [])));
      })

  pub fill_key : i < 8 → v ≡ key_word key i → Filled key w' (i + 1)
  unfolding word_after
  fill_key h p = filled (rw (lt-ltb i 8 h) p)

  pub fill_words : 8 ≤ i → v ≡ next_word i (get_or w (i - 1) []) (get_or w (i - 8) []) → Filled key w' (i + 1)
  unfolding word_after
  fill_words h p =
      filled
      (rw (le-ltb i 8 h, ← f.so_far_lem, get_or-take i w (i - 1) [] (omega arith), get_or-take i w (i - 8) [] (omega arith)) p)

-- ---- the rounds

module _ (w s₀ : List (List ℕ)) (n : ℕ) where
  pub rounds_more : {s k r : List (List ℕ)} → s ≡ rounds_of w s₀ n → k ≡ round_key w (n + 1) → r ≡ round s k → r ≡ rounds_of w s₀ (n + 1)
  unfolding rounds_of
  rounds_more es ek er = rw (add-one n) (er ∙ (λ i. round (es i) (ek i)))

-- ---- the steps of a round and of the cipher, one after the other

pub rounded : (s k : List (List ℕ)) {a b m r : List (List ℕ)} → a ≡ sub_bytes s → b ≡ shift_rows a → m ≡ mix_columns b → r ≡ add_round_key m k → r ≡ round s k
unfolding round
rounded s k ea eb em er = er ∙ ap (λ (x : List (List ℕ)). add_round_key x k) (em ∙ ap mix_columns (eb ∙ ap shift_rows ea))

pub last_rounded : (s k₀ : List (List ℕ)) {a b k r : List (List ℕ)} → a ≡ sub_bytes s → b ≡ shift_rows a → k ≡ k₀ → r ≡ add_round_key b k → r ≡ last_round s k₀
unfolding last_round
last_rounded s k₀ ea eb ek er = er ∙ (λ i. add_round_key ((eb ∙ ap shift_rows ea) i) (ek i))

pub ciphered : (w : List (List ℕ)) (b : List ℕ) {s₀ s e : List (List ℕ)} {r : List ℕ} →
    s₀ ≡ add_round_key (load b) (round_key w 0) → s ≡ rounds_of w s₀ 13 → e ≡ last_round s (round_key w 14) → r ≡ store e → r ≡ cipher w b
unfolding cipher
ciphered w b es₀ es ee er =
    er ∙ ap store (ee ∙ ap (λ (x : List (List ℕ)). last_round x (round_key w 14)) (es ∙ ap (λ (x : List (List ℕ)). rounds_of w x 13) es₀))
