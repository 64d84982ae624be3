-- Laws of the padding of SHA-256: the last blocks of the padded message, and the digest by them.
use Rattle.std.proofs.lemmas.List.{length-replicate, replicate-append-replicate, set_at, drop-append-le}
use Rattle.std.proofs.Common.{◌≡◌, ℕ, suc, ◌+◌, ◌-◌, ◌*◌, ◌/◌, ◌%◌, ◌^◌, ◌<◌, ◌≤◌, List, ◌∷◌, ◌++◌, length, get_or, take, drop, set, replicate, sym, ap, ◌∙◌, append_assoc, zero-add, arith, length-append, length-drop, get_or-drop, get_or-take, take_at}
use lib.ListN.{get_or-append}
use Rattle.primitives.specs.declared.hash.HashValue.{HashValue}
use Rattle.primitives.specs.Place.{overwrite}
use Rattle.primitives.specs.Sha256.{pad, zeros, blocks, H⁰, digest, sha256}
use Rattle.primitives.proofs.Compression.{blocks_then}
use Rattle.primitives.specs.Number.{bytes_of}
use Rattle.primitives.proofs.Numbers.{length_bytes_of}
use Rattle.primitives.proofs.Digest.{take_over_lem}

-- the list l, the byte 0x80 and z zeros, at the front of N bytes
marked : (l b : List ℕ) (N i z : ℕ) → length l ≡ i → i + 1 + z ≤ N → b ≡ set (l ++ replicate (N - i) 0) i 0x80 → take (i + 1 + z) b ≡ l ++ 0x80 ∷ replicate z 0
marked l b N i z len fits e =
    ap (take (i + 1 + z))
    (e
    ∙ ap (λ (j : ℕ). set (l ++ replicate j 0) i 0x80) one
    ∙ set_at l 0 (replicate (z + more) 0) 0x80 i len
    ∙ ap (λ (x : List ℕ). l ++ 0x80 ∷ x) (sym (replicate-append-replicate z more 0))
    ∙ sym (append_assoc l (0x80 ∷ replicate z 0) (replicate more 0)))
    ∙ take_at (l ++ 0x80 ∷ replicate z 0) (replicate more 0) (i + 1 + z) (simp (length-append, length-replicate) (omega arith))
  where
    more : ℕ
    more = N - (i + 1 + z)

    one : N - i ≡ suc (z + more)
    one = omega arith

-- the padded message from byte k on: what is left of m, the byte 0x80 and zeros, with the length as the last 8 of n bytes
pub pad_end : (m b r : List ℕ) (k n N : ℕ) → length b ≡ N → k ≤ length m → k + n ≡ length m + 9 + zeros (length m) → n ≤ N
    → b ≡ set (drop k m ++ replicate (N - (length m - k)) 0) (length m - k) 0x80
    → r ≡ overwrite b (n - 8) (bytes_of 8 (length m * 8 % 2 ^ 64))
    → take n r ≡ drop k (pad m)
unfolding pad
pad_end m b r k n N size low sum most eb er =
    ap (take n) er
    ∙ ap (λ (j : ℕ). take j (overwrite b (n - 8) L)) last
    ∙ take_over_lem b (n - 8) L (omega arith)
    ∙ ap (λ (j : ℕ). take j b ++ L) first
    ∙ ap (λ (x : List ℕ). x ++ L) (marked (drop k m) b N i z (length-drop k m) (omega arith) eb)
    ∙ ap (λ (x : List ℕ). x ++ L) (sym (drop-append-le k m (0x80 ∷ replicate z 0) low))
    ∙ sym (drop-append-le k (m ++ 0x80 ∷ replicate z 0) L (simp length-append (omega arith)))
  where
    L : List ℕ
    L = bytes_of 8 (length m * 8 % 2 ^ 64)

    i : ℕ
    i = length m - k

    z : ℕ
    z = zeros (length m)

    last : n ≡ n - 8 + length L
    last = omega (arith, length_bytes_of 8 (length m * 8 % 2 ^ 64))

    first : n - 8 ≡ i + 1 + z
    first = omega arith

length_pad : (m : List ℕ) → length (pad m) ≡ length m + 9 + zeros (length m)
unfolding pad
length_pad m = simp (length-append, length-replicate, length_bytes_of) (omega arith)

-- the padded message starts with the message
pad_front : (m : List ℕ) (j : ℕ) → j < length m → get_or m j 0 ≡ get_or (pad m) j 0
unfolding pad
pad_front m j h =
    let t : List ℕ = 0x80 ∷ replicate (zeros (length m)) 0 in
    sym (get_or-append (m ++ t) (bytes_of 8 (length m * 8 % 2 ^ 64)) 0 j (simp length-append (omega arith)) ∙ get_or-append m t 0 j h)

-- the digest d by the q whole blocks of m, which give v, and by the n blocks of b that end the padded message
pub digest_of : (m b d : List ℕ) (s v u : HashValue) (q n : ℕ) → q ≡ length m / 64 → n ≡ (length m % 64 + 72) / 64 → take (n * 64) b ≡ drop (q * 64) (pad m)
    → s ≡ H⁰ → v ≡ blocks s m q → u ≡ blocks v b n → d ≡ digest u → d ≡ sha256 m
unfolding sha256 blocks
digest_of m b d s v u q n eq en e es ev eu ed =
    ed ∙ ap digest (eu ∙ ap (λ (x : HashValue). blocks x b n) (ev ∙ ap (λ (x : HashValue). blocks x m q) es ∙ whole) ∙ blocks_then H⁰ (pad m) b q n back ∙ ap (blocks H⁰ (pad m)) all)
  where
    front : (j : ℕ) → j < q * 64 → get_or m j 0 ≡ get_or (pad m) (0 * 64 + j) 0
    front j h =
        let z : j ≡ 0 * 64 + j = omega arith in
        pad_front m j (omega arith) ∙ ap (λ (i : ℕ). get_or (pad m) i 0) z

    whole : blocks H⁰ m q ≡ blocks H⁰ (pad m) q
    whole = blocks_then H⁰ (pad m) m 0 q front ∙ ap (blocks H⁰ (pad m)) (zero-add q)

    back : (j : ℕ) → j < n * 64 → get_or b j 0 ≡ get_or (pad m) (q * 64 + j) 0
    back j h = sym (get_or-take (n * 64) b j 0 h) ∙ ap (λ (x : List ℕ). get_or x j 0) e ∙ get_or-drop (q * 64) (pad m) j 0

    all : q + n ≡ length (pad m) / 64
    all = omega (arith, length_pad m)
