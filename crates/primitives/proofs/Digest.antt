-- Laws of the bytes of words and of digests: a digest of SHA-256 is 32 bytes.
use Rattle.std.proofs.Common.{◌≡◌, ℕ, ◌+◌, ◌*◌, ◌<◌, ◌≤◌, List, [], ◌∷◌, ◌++◌, length, get_or, take, drop, sym, refl, ap, ◌∙◌, append_assoc, append-nil, add-one, arith, length-append, length-take-le, take-suc, take_at}
use Rattle.primitives.specs.Bytes.{AllBytes}
use Rattle.primitives.specs.Place.{overwrite}
use Rattle.primitives.specs.Number.{bytes_of}
use Rattle.primitives.specs.Sha256.{word_bytes, digest, sha256}
use Rattle.primitives.proofs.ByteLists.{bytes_nil, bytes_append}
use Rattle.primitives.proofs.Numbers.{length_bytes_of, bytes_bytes_of}

-- ---- the bytes of words

-- a list up to the end of what was written into it
pub take_over_lem : (xs : List ℕ) (at : ℕ) (ys : List ℕ) → at ≤ length xs → take (at + length ys) (overwrite xs at ys) ≡ take at xs ++ ys
unfolding overwrite
take_over_lem xs at ys h =
    ap (take (at + length ys)) (sym (append_assoc (take at xs) ys (drop (at + length ys) xs)))
    ∙ take_at (take at xs ++ ys) (drop (at + length ys) xs) (at + length ys)
    (length-append (take at xs) ys ∙ ap (λ (k : ℕ). k + length ys) (length-take-le at xs h))

words_snoc : (ws : List ℕ) (x : ℕ) → word_bytes (ws ++ x ∷ []) ≡ word_bytes ws ++ bytes_of 4 x
unfolding word_bytes
words_snoc [] x = append-nil (bytes_of 4 x)
words_snoc (w ∷ ws) x = ap (λ (l : List ℕ). bytes_of 4 w ++ l) (words_snoc ws x) ∙ sym (append_assoc (bytes_of 4 w) (word_bytes ws) (bytes_of 4 x))

-- the bytes of one word more
pub words_put : (w d d' : List ℕ) (i : ℕ) → i < length w → 4 * i ≤ length d → take (4 * i) d ≡ word_bytes (take i w) → d' ≡ overwrite d (4 * i) (bytes_of 4 (get_or w i 0)) → take (4 * (i + 1)) d' ≡ word_bytes (take (i + 1) w)
words_put w d d' i h room e f =
    let x : ℕ = get_or w i 0 in
    let p : 4 * (i + 1) ≡ 4 * i + length (bytes_of 4 x) = omega (arith, length_bytes_of 4 x) in
    ap (λ (k : ℕ). take k d') p ∙ ap (take (4 * i + length (bytes_of 4 x))) f ∙ take_over_lem d (4 * i) (bytes_of 4 x) room
    ∙ ap (λ (l : List ℕ). l ++ bytes_of 4 x) e
    ∙ sym (words_snoc (take i w) x)
    ∙ ap word_bytes (sym (take-suc w i 0 h) ∙ ap (λ (k : ℕ). take k w) (sym (add-one i)))

length_words : (ws : List ℕ) → length (word_bytes ws) ≡ 4 * length ws
unfolding word_bytes
length_words [] = refl
length_words (w ∷ ws) = length-append (bytes_of 4 w) (word_bytes ws) ∙ omega (arith, length_bytes_of 4 w, length_words ws)

bytes_words : (ws : List ℕ) → AllBytes (word_bytes ws)
unfolding word_bytes
bytes_words [] = bytes_nil
bytes_words (w ∷ ws) = bytes_append (bytes_bytes_of 4 w) (bytes_words ws)

-- ---- digests

pub length_sha256 : (m : List ℕ) → length (sha256 m) ≡ 32
unfolding sha256 digest
length_sha256 m = length_words _

pub bytes_sha256 : (m : List ℕ) → AllBytes (sha256 m)
unfolding sha256 digest
bytes_sha256 m = bytes_words _
