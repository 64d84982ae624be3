-- Laws of the cipher for its callers: its result is 16 bytes.
use Rattle.std.proofs.lemmas.Nat.{xor_lt}
use Rattle.std.proofs.Common.{◌≡◌, ℕ, zero, suc, ◌+◌, ◌-◌, ◌*◌, ◌/◌, ◌%◌, ◌<◌, Bool, true, false, cond, eqb, ltb, List, [], ◌∷◌, ◌++◌, length, get_or, refl, ap, ◌∙◌, arith, bit_xor}
use Rattle.primitives.specs.Bytes.{AllBytes}
use Rattle.primitives.specs.Field.{xtime, inverse}
use Rattle.primitives.specs.Aes.{column, grid, cell, store, byte_of, affine_bit, affine, sub, sub_column, sub_bytes, shift_rows, add_column, add_round_key, rot_word, power, rcon, turned, next_word, key_word, word_after, words, key_schedule, round_key, last_round, rounds_of, load, cipher, aes256}
use Rattle.primitives.proofs.ByteLists.{bytes_nil, bytes_cons, bytes_append, bytes_replicate}

pub length_cipher : (w : List (List ℕ)) (b : List ℕ) → length (cipher w b) ≡ 16
unfolding cipher
length_cipher w b = refl

pub length_aes256 : (key b : List ℕ) → length (aes256 key b) ≡ 16
unfolding aes256
length_aes256 key b = length_cipher (key_schedule key) b

-- the cipher under the schedule of a key
pub under_key : (key b : List ℕ) {w : List (List ℕ)} {r : List ℕ} → w ≡ key_schedule key → r ≡ cipher w b → r ≡ aes256 key b
unfolding aes256
under_key key b ew er = er ∙ ap (λ (x : List (List ℕ)). cipher x b) ew

-- ---- each word is made of bytes

pub record AllWords (w : List (List ℕ)) : Type 0 where
  pub at : (i : ℕ) → AllBytes (get_or w i [])

byte_of_lem : (f : ℕ → ℕ) → ((i : ℕ) → f i < 2) → byte_of f < 256
byte_of_lem f h = omega (arith, h 0, h 1, h 2, h 3, h 4, h 5, h 6, h 7)

sub_lt : (b : ℕ) → sub b < 256
unfolding sub affine
sub_lt b = byte_of_lem (affine_bit (inverse b)) (λ i. omega arith)

column_bytes : (f : ℕ → ℕ) → ((r : ℕ) → f r < 256) → AllBytes (column f)
column_bytes f h = bytes_cons (h 0) (bytes_cons (h 1) (bytes_cons (h 2) (bytes_cons (h 3) bytes_nil)))

sub_bytes_lem : (a : List ℕ) → AllBytes (sub_column a)
sub_bytes_lem a = column_bytes (λ r. sub (get_or a r 0)) (λ r. sub_lt (get_or a r 0))

add_bytes : (a b : List ℕ) → AllBytes a → AllBytes b → AllBytes (add_column a b)
add_bytes a b p q = column_bytes (λ r. bit_xor (get_or a r 0) (get_or b r 0)) (λ r. xor_lt 8 (get_or a r 0) (get_or b r 0) (p.at r) (q.at r))

four_words : {a b c d : List ℕ} → AllBytes a → AllBytes b → AllBytes c → AllBytes d → AllWords (a ∷ b ∷ c ∷ d ∷ [])
four_words {a} {b} {c} {d} p q r s = record { at = go }
  where
    go : (i : ℕ) → AllBytes (get_or (a ∷ b ∷ c ∷ d ∷ []) i [])
    go zero = p
    go (suc zero) = q
    go (suc (suc zero)) = r
    go (suc (suc (suc zero))) = s
    go (suc (suc (suc (suc i)))) = bytes_nil

-- ---- the key schedule

xtime_lt : (b : ℕ) → xtime b < 256
unfolding xtime
xtime_lt b = xor_lt 8 (cond (ltb b 128) 0 0x1b) (b * 2 % 256) (reduction (ltb b 128)) (omega arith)
  where
    reduction : (t : Bool) → cond t 0 0x1b < 256
    reduction true = omega arith
    reduction false = omega arith

power_lt : (n : ℕ) → power n < 256
unfolding power
power_lt zero = omega arith
power_lt (suc n) = xtime_lt (power n)

rcon_lt : (j : ℕ) → rcon j < 256
unfolding rcon
rcon_lt j = power_lt (j - 1)

next_bytes : (i : ℕ) (prev back : List ℕ) → AllBytes prev → AllBytes back → AllBytes (next_word i prev back)
unfolding next_word
next_bytes i prev back p q = add_bytes back (turned i prev) q (go (eqb (i % 8) 0) (eqb (i % 8) 4))
  where
    constant : AllBytes (rcon (i / 8) ∷ 0 ∷ 0 ∷ 0 ∷ [])
    constant = bytes_cons (rcon_lt (i / 8)) (bytes_replicate 3 (omega arith))

    go : (t u : Bool) → AllBytes (cond t (add_column (sub_column (rot_word prev)) (rcon (i / 8) ∷ 0 ∷ 0 ∷ 0 ∷ [])) (cond u (sub_column prev) prev))
    go true u = add_bytes (sub_column (rot_word prev)) (rcon (i / 8) ∷ 0 ∷ 0 ∷ 0 ∷ []) (sub_bytes_lem (rot_word prev)) constant
    go false true = sub_bytes_lem prev
    go false false = p

key_bytes_lem : (key : List ℕ) (i : ℕ) → AllBytes key → AllBytes (key_word key i)
key_bytes_lem key i p = bytes_cons (p.at (i * 4)) (bytes_cons (p.at (i * 4 + 1)) (bytes_cons (p.at (i * 4 + 2)) (bytes_cons (p.at (i * 4 + 3)) bytes_nil)))

after_bytes : (key : List ℕ) (ws : List (List ℕ)) (i : ℕ) → AllBytes key → AllWords ws → AllBytes (word_after key ws i)
unfolding word_after
after_bytes key ws i p q = go (ltb i 8)
  where
    go : (t : Bool) → AllBytes (cond t (key_word key i) (next_word i (get_or ws (i - 1) []) (get_or ws (i - 8) [])))
    go true = key_bytes_lem key i p
    go false = next_bytes i (get_or ws (i - 1) []) (get_or ws (i - 8) []) (q.at (i - 1)) (q.at (i - 8))

snoc_words : (ws : List (List ℕ)) (v : List ℕ) → AllBytes v → ((i : ℕ) → AllBytes (get_or ws i [])) → (i : ℕ) → AllBytes (get_or (ws ++ (v ∷ [])) i [])
snoc_words [] v p h zero = p
snoc_words [] v p h (suc i) = bytes_nil
snoc_words (x ∷ ws) v p h zero = h zero
snoc_words (x ∷ ws) v p h (suc i) = snoc_words ws v p (λ j. h (suc j)) i

words_bytes : (key : List ℕ) (n : ℕ) → AllBytes key → AllWords (words key n)
unfolding words
words_bytes key zero p = record { at = λ i. bytes_nil }
words_bytes key (suc n) p =
    let q = words_bytes key n p in
    record { at = snoc_words (words key n) (word_after key (words key n) n) (after_bytes key (words key n) n p q) q.at }

-- the schedule of a key of bytes has words of bytes
pub schedule_bytes : {key : List ℕ} → AllBytes key → AllWords (key_schedule key)
unfolding key_schedule
schedule_bytes {key} p = words_bytes key 60 p

-- ---- the cipher

grid_bytes : (f : ℕ → ℕ → ℕ) → ((r c : ℕ) → f r c < 256) → AllWords (grid f)
grid_bytes f h = four_words (each 0) (each 1) (each 2) (each 3)
  where
    each : (c : ℕ) → AllBytes (column (λ r. f r c))
    each c = column_bytes (λ r. f r c) (λ r. h r c)

store_bytes : (s : List (List ℕ)) → AllWords s → AllBytes (store s)
store_bytes s h = bytes_append (bytes_append (bytes_append (each 0) (each 1)) (each 2)) (each 3)
  where
    each : (c : ℕ) → AllBytes (column (λ r. cell s r c))
    each c = column_bytes (λ r. cell s r c) (h.at c).at

last_bytes : (s k : List (List ℕ)) → AllWords k → AllWords (last_round s k)
unfolding last_round
last_bytes s k q = grid_bytes (λ r c. bit_xor (cell shifted r c) (cell k r c)) (λ r c. xor_lt 8 (cell shifted r c) (cell k r c) ((inside.at c).at r) ((q.at c).at r))
  where
    subbed : AllWords (sub_bytes s)
    subbed = grid_bytes (λ r c. sub (cell s r c)) (λ r c. sub_lt (cell s r c))

    shifted : List (List ℕ)
    shifted = shift_rows (sub_bytes s)

    inside : AllWords shifted
    inside = grid_bytes (λ r c. cell (sub_bytes s) r ((c + r) % 4)) (λ r c. (subbed.at ((c + r) % 4)).at r)

-- under words of bytes the cipher gives bytes, whatever the block holds
pub cipher_bytes : {w : List (List ℕ)} (b : List ℕ) → AllWords w → AllBytes (cipher w b)
unfolding cipher
cipher_bytes {w} b h =
    store_bytes (last_round (rounds_of w (add_round_key (load b) (round_key w 0)) 13) (round_key w 14))
    (last_bytes (rounds_of w (add_round_key (load b) (round_key w 0)) 13) (round_key w 14) (four_words (h.at 56) (h.at 57) (h.at 58) (h.at 59)))

pub aes256_bytes : {key : List ℕ} (b : List ℕ) → AllBytes key → AllBytes (aes256 key b)
unfolding aes256
aes256_bytes b p = cipher_bytes b (schedule_bytes p)
