-- Laws of runs that measure or write: a run after another, the empty text, and two runs that make a whole.
use Rattle.std.proofs.lemmas.List.{length-replicate, take-append-le}
use Rattle.std.proofs.lemmas.Bool.{lt-leb}
use Rattle.std.proofs.Common.{ℕ, ◌+◌, ◌≤◌, ◌<◌, ◌≡◌, refl, sym, ap, ◌∙◌, subst, Bool, true, false, cond, List, [], ◌++◌, append_assoc, length, take, drop, Option, Some, None, leb, add-zero, arith, length-append, replicate, leb-true, le-leb, leb-false, drop_at, length-take-le, take-take}
use Rattle.std.specs.Option.{option_and}
use Rattle.std.proofs.Common.{rules}
use Rattle.primitives.specs.Place.{overwrite, placed, room}
use Rattle.primitives.proofs.Over.{over_nil, then, placed_room, room_true, length_placed}
use Rattle.primitives.proofs.Rows.{true-is-not-false}
use Rattle.exports.specs.Output.{start, moved, Out, Inside, Puts, Advanced, PutsAt}

-- ---- places

pub moved_fits : (size at n : ℕ) → at + n ≤ size → moved size (Some at) n ≡ Some (at + n)
unfolding moved
moved_fits size at n h = rw (le-leb (at + n) size h)

pub moved_full : (size at n : ℕ) → size < at + n → moved size (Some at) n ≡ None
unfolding moved
moved_full size at n h = rw (lt-leb (at + n) size h)

-- a place further on that fits
pub record Onward (size : ℕ) (p : Option ℕ) (n b : ℕ) : Type 0 where
  pub from : ℕ
  pub is : p ≡ Some from
  pub room : from + n ≤ size
  pub at : b ≡ from + n

pub onward : (size : ℕ) (p : Option ℕ) (n b : ℕ) → moved size p n ≡ Some b → Onward size p n b
unfolding moved
onward size None n b h = absurd (cc)
onward size (Some at) n b h = go (leb (at + n) size) refl h
  where
    go : (t : Bool) → leb (at + n) size ≡ t → cond t (Some (at + n)) None ≡ Some b → Onward size (Some at) n b
    go true e k = record { from = at; is = refl; room = leb-true (at + n) size e; at = cc }
    go false e k = absurd (cc)

-- n bytes further, and then m
pub moved_moved : (size : ℕ) (p : Option ℕ) (n m : ℕ) → moved size (moved size p n) m ≡ moved size p (n + m)
unfolding moved
moved_moved size None n m = refl
moved_moved size (Some at) n m = go (leb (at + n) size) refl
  where
    go : (t : Bool) → leb (at + n) size ≡ t → moved size (cond t (Some (at + n)) None) m ≡ moved size (Some at) (n + m)
    go true e = let q : at + n + m ≡ at + (n + m) = omega arith in ap (λ (x : ℕ). cond (leb x size) (Some x) None) q
    go false e = sym (moved_full size at (n + m) (omega (arith, leb-false (at + n) size e)))

pub inside_moved : (size : ℕ) (p : Option ℕ) (n : ℕ) → Inside size (moved size p n)
unfolding moved
inside_moved size None n = search rules
inside_moved size (Some at) n = go (leb (at + n) size) refl
  where
    go : (t : Bool) → leb (at + n) size ≡ t → Inside size (cond t (Some (at + n)) None)
    go true e = leb-true (at + n) size e
    go false e = search rules

-- a place inside is where it is
pub still : (size : ℕ) (p : Option ℕ) → Inside size p → p ≡ moved size p 0
unfolding moved
still size None h = refl
still size (Some at) h = let q : at + 0 ≡ at = omega arith in sym (moved_fits size at 0 (omega (arith, h)) ∙ ap (λ (x : ℕ). Some x) q)

pub moved_still : (size : ℕ) (p : Option ℕ) (n : ℕ) → moved size (moved size p n) 0 ≡ moved size p n
moved_still size p n = moved_moved size p n 0 ∙ ap (moved size p) (add-zero n)

-- ---- runs

pub puts_inside : {d : Bool} {o o' : Out} {y : List ℕ} → Puts d o o' y → Inside (length o.bytes) o.at → Inside (length o'.bytes) o'.at
puts_inside {d} {o} {o'} {y} a h = rw (a.end h, a.long) (inside_moved (length o.bytes) o.at (length y))

-- a run after another
pub puts_then : {d : Bool} {o o₁ o₂ : Out} {y z : List ℕ} → Puts d o o₁ y → Puts d o₁ o₂ z → Puts d o o₂ (y ++ z)
puts_then {d} {o} {o₁} {o₂} {y} {z} a b = record {
  same = b.same ∙ a.same;
  long = b.long ∙ a.long;
  end = λ h.
      b.end (puts_inside a h) ∙ (λ i. moved (a.long i) (a.end h i) (length z)) ∙ moved_moved (length o.bytes) o.at (length y) (length z)
      ∙ ap (moved (length o.bytes) o.at) (sym (length-append y z));
  done = both;
}
  where
    both : d ≡ true → (at end : ℕ) → Inside (length o.bytes) o.at → o.at ≡ Some at → o₂.at ≡ Some end → o₂.bytes ≡ overwrite o.bytes at (y ++ z)
    both e at end h p q =
        let k = puts_inside a h in
        let s = onward (length o₁.bytes) o₁.at (length z) end (sym (b.end k) ∙ q) in
        let t = onward (length o.bytes) o.at (length y) s.from (sym (a.end h) ∙ s.is) in
        let f : t.from ≡ at = let u : Some t.from ≡ Some at = sym t.is ∙ p in cc in
        then o.bytes y z at s.from (a.done e at s.from h p s.is) (b.done e s.from end k s.is q) (t.at ∙ ap (λ (x : ℕ). x + length y) f) (omega (arith, t.room, f))

-- the text by another name
pub puts_is : {d : Bool} {o o' : Out} {y z : List ℕ} → y ≡ z → Puts d o o' y → Puts d o o' z
puts_is {d} {o} {o'} e a = subst (Puts d o o') e a

-- nothing
pub puts_nothing : (d : Bool) (o : Out) → Puts d o o []
puts_nothing d o = record { same = refl; long = refl; end = λ h. still (length o.bytes) o.at h; done = λ e a b h p q. sym (over_nil o.bytes a) }

-- ---- a text whose start is written last

-- a write before another one that is there already
over_before : (xs : List ℕ) (at : ℕ) (ys zs : List ℕ) → at + length ys ≤ length xs → overwrite (overwrite xs (at + length ys) zs) at ys ≡ overwrite xs at (ys ++ zs)
unfolding overwrite
over_before xs at ys zs h =
    (λ i. front i ++ (ys ++ back i))
    ∙ ap (λ (l : List ℕ). take at xs ++ l) (sym (append_assoc ys zs (drop (k + length zs) xs)) ∙ ap (λ (n : ℕ). (ys ++ zs) ++ drop n xs) e)
  where
    k : ℕ
    k = at + length ys

    rest : List ℕ
    rest = zs ++ drop (k + length zs) xs

    long : length (take k xs) ≡ k
    long = length-take-le k xs h

    front : take at (take k xs ++ rest) ≡ take at xs
    front = take-append-le at (take k xs) rest (omega (arith, long)) ∙ take-take at k xs (omega arith)

    back : drop k (take k xs ++ rest) ≡ rest
    back = drop_at (take k xs) rest k long

    e : k + length zs ≡ at + length (ys ++ zs)
    e = omega (arith, length-append ys zs)

-- n bytes are left out, what comes after them is written, and then they are
pub puts_before : {o o₁ o₂ o₃ : Out} {y z : List ℕ} (n : ℕ) → length y ≡ n → o₁ ≡ record { lent = o.lent; bytes = o.bytes; at = moved (length o.bytes) o.at n }
    → Puts true o₁ o₂ z → PutsAt o.at o₂ o₃ y → Puts true o o₃ (y ++ z)
puts_before {o} {o₁} {o₂} {o₃} {y} {z} n l m u v = record {
  same = v.same ∙ u.same ∙ ap (λ (x : Out). x.lent) m;
  long = v.long ∙ long;
  end = λ h. v.at ∙ end;
  done = λ e a b h p q. both a b p (sym v.at ∙ q);
}
  where
    bytes : o₁.bytes ≡ o.bytes
    bytes = ap (λ (x : Out). x.bytes) m

    size : length o₁.bytes ≡ length o.bytes
    size = ap length bytes

    long : length o₂.bytes ≡ length o.bytes
    long = u.long ∙ size

    at : o₁.at ≡ moved (length o.bytes) o.at n
    at = ap (λ (x : Out). x.at) m

    inner : Inside (length o₁.bytes) o₁.at
    inner = rw (at, size) (inside_moved (length o.bytes) o.at n)

    sum : n + length z ≡ length (y ++ z)
    sum = omega (arith, l, length-append y z)

    end : o₂.at ≡ moved (length o.bytes) o.at (length (y ++ z))
    end = u.end inner ∙ (λ i. moved (size i) (at i) (length z)) ∙ moved_moved (length o.bytes) o.at n (length z) ∙ ap (moved (length o.bytes) o.at) sum

    both : (a b : ℕ) → o.at ≡ Some a → o₂.at ≡ Some b → o₃.bytes ≡ overwrite o.bytes a (y ++ z)
    both a b p q =
        let s = onward (length o₁.bytes) o₁.at (length z) b (sym (u.end inner) ∙ q) in
        let t = onward (length o.bytes) o.at n s.from (sym at ∙ s.is) in
        let f : t.from ≡ a = let w : Some t.from ≡ Some a = sym t.is ∙ p in cc in
        let k : s.from ≡ a + length y = omega (arith, t.at, f, l) in
        let r : a + length y ≤ length o.bytes = omega (arith, t.room, f, l) in
        v.done a p (omega (arith, r, long))
        ∙ ap (λ (x : List ℕ). overwrite x a y) (u.done refl s.from b inner s.is q ∙ (λ i. overwrite (bytes i) (k i) z))
        ∙ over_before o.bytes a y z r

-- ---- two runs: the first measures, the second writes

pub record Whole (out out' : List ℕ) (n : ℕ) (y : List ℕ) : Type 0 where
  pub room : room out 0 y ≡ true
  pub at : n ≡ length y
  pub is : out' ≡ overwrite out 0 y

-- what both begin with
pub record Begins (size : ℕ) (o : Out) : Type 0 where
  pub long : length o.bytes ≡ size
  pub at : o.at ≡ start

pub measure_begins : {size : ℕ} {o : Out} → o ≡ record { lent = 0; bytes = replicate size 0; at = Some 0 } → Begins size o
measure_begins {size} e = record { long = ap (λ (x : Out). length x.bytes) e ∙ length-replicate {A = ℕ} size 0; at = ap (λ (x : Out). x.at) e }

begins_inside : {size : ℕ} {o : Out} → Begins size o → Inside (length o.bytes) o.at
begins_inside b = rw b.at (omega arith)

pub two_runs : {d : Bool} {o o₁ w w₁ : Out} {n : ℕ} {y : List ℕ} → Begins (length w.bytes) o → Puts d o o₁ y → o₁.at ≡ Some n → w.at ≡ start → Puts true w w₁ y → Whole w.bytes w₁.bytes n y
two_runs {d} {o} {o₁} {w} {w₁} {n} {y} b a f g c =
    let t : Onward (length w.bytes) start (length y) n = onward (length w.bytes) start (length y) n (sym (a.end (begins_inside b) ∙ (λ i. moved (b.long i) (b.at i) (length y))) ∙ f) in
    let z : t.from ≡ 0 = let u : Some t.from ≡ Some 0 = sym t.is in cc in
    let k : Inside (length w.bytes) w.at = rw g (omega arith) in
    let r : 0 + length y ≤ length w.bytes = omega (arith, t.room, z) in
    record {
      room = room_true w.bytes 0 y r;
      at = omega (arith, t.at, z);
      is = c.done refl 0 (0 + length y) k g (c.end k ∙ ap (λ (p : Option ℕ). moved (length w.bytes) p (length y)) g ∙ moved_fits (length w.bytes) 0 (length y) r);
    }

-- a run that does not fit
pub no_run : {d : Bool} {o o₁ : Out} (out : List ℕ) {y : List ℕ} → Begins (length out) o → Puts d o o₁ y → o₁.at ≡ None → room out 0 y ≡ false
unfolding room
no_run {d} {o} {o₁} out {y} b a f = go (leb (0 + length y) (length out)) refl
  where
    go : (t : Bool) → leb (0 + length y) (length out) ≡ t → t ≡ false
    go false e = refl
    go true e =
        let h : Some (0 + length y) ≡ None =
        sym (a.end (begins_inside b) ∙ (λ i. moved (b.long i) (b.at i) (length y)) ∙ moved_fits (length out) 0 (length y) (leb-true (0 + length y) (length out) e)) ∙ f in
        absurd (cc)

-- ---- what one writer writes, or one measure measures

pub advanced_room : {n : ℕ} {o o' : Out} {at : ℕ} → Advanced n o o' (Some at) → at + n ≤ length o'.bytes
advanced_room {n} {o} {o'} {at} k = go o'.at refl
  where
    go : (q : Option ℕ) → o'.at ≡ q → at + n ≤ length o'.bytes
    go None e = let z : Some at ≡ None = k.there ∙ ap (λ (x : Option ℕ). option_and x o.at) e in absurd (cc)
    go (Some b) e =
        let f = onward (length o.bytes) o.at n b (sym (ap (λ (x : Out). x.at) k.moves) ∙ e) in
        let z : Some at ≡ Some f.from = k.there ∙ (λ i. option_and (e i) (f.is i)) in
        let u : at ≡ f.from = cc in
        omega (arith, f.room, u, ap (λ (x : Out). length x.bytes) k.moves)

module _ (o : Out) (y : List ℕ) {n : ℕ} (l : length y ≡ n) where
  moves : {o' : Out} → o' ≡ record { lent = o.lent; bytes = o.bytes; at = moved (length o.bytes) o.at n } → o'.at ≡ moved (length o.bytes) o.at (length y)
  moves e = ap (λ (x : Out). x.at) e ∙ ap (moved (length o.bytes) o.at) (sym l)

  pub only_measured : {o' : Out} → o' ≡ record { lent = o.lent; bytes = o.bytes; at = moved (length o.bytes) o.at n } → Puts false o o' y
  only_measured e = record {
    same = ap (λ (x : Out). x.lent) e;
    long = ap (λ (x : Out). length x.bytes) e;
    end = λ h. moves e;
    done = λ t a b h p q. true-is-not-false t;
  }

  -- no room
  pub left_out : {o' : Out} → Advanced n o o' None → Puts true o o' y
  left_out {o'} k = record {
    same = ap (λ (x : Out). x.lent) k.moves;
    long = ap (λ (x : Out). length x.bytes) k.moves;
    end = λ h. moves k.moves;
    done = λ t a b h p q. let z : None ≡ Some a = k.there ∙ (λ i. option_and (q i) (p i)) in absurd (cc);
  }

  -- written
  pub put_done : {o₁ : Out} {at : ℕ} {out : List ℕ} → Advanced n o o₁ (Some at) → out ≡ placed o₁.bytes at y → Puts true o (record { lent = o₁.lent; bytes = out; at = o₁.at }) y
  put_done {o₁} {at} {out} k e = record {
    same = ap (λ (x : Out). x.lent) k.moves;
    long = ap length is ∙ length_placed o.bytes at y;
    end = λ h. moves k.moves;
    done = λ t a b h p q.
        let f = onward (length o.bytes) o.at n b (sym (ap (λ (x : Out). x.at) k.moves) ∙ q) in
        let z : Some at ≡ Some a = k.there ∙ (λ i. option_and (q i) (p i)) in
        let u : at ≡ a = cc in
        let w : Some f.from ≡ Some a = sym f.is ∙ p in
        let v : f.from ≡ a = cc in
        is ∙ placed_room o.bytes at y (omega (arith, f.room, u, v, l)) ∙ ap (λ (x : ℕ). overwrite o.bytes x y) u;
  }
    where
      is : out ≡ placed o.bytes at y
      is = e ∙ ap (λ (x : Out). placed x.bytes at y) k.moves

pub put_at : {p : Option ℕ} {o : Out} {y out : List ℕ} {at : ℕ} → p ≡ Some at → out ≡ placed o.bytes at y → PutsAt p o (record { lent = o.lent; bytes = out; at = o.at }) y
put_at {p} {o} {y} {out} {at} g e = record {
  same = refl;
  at = refl;
  long = ap length e ∙ length_placed o.bytes at y;
  done = λ a k h.
      let w : Some at ≡ Some a = sym g ∙ k in
      let u : at ≡ a = cc in
      e ∙ placed_room o.bytes at y (omega (arith, h, u)) ∙ ap (λ (x : ℕ). overwrite o.bytes x y) u;
}

pub measured_is : (room : ℕ) (p : Option ℕ) {q : Option ℕ} (n : ℕ) → q ≡ moved room p n
    → ◌≡◌ {A = Out} (record { lent = 0; bytes = replicate room 0; at = q }) (record { lent = 0; bytes = replicate room 0; at = moved (length {A = ℕ} (replicate room 0)) p n })
measured_is room p {q} n e =
    let l : room ≡ length {A = ℕ} (replicate room 0) = omega (arith, length-replicate {A = ℕ} room 0) in
    ap (λ (x : Option ℕ). record { lent = 0; bytes = replicate room 0; at = x }) (e ∙ ap (λ (k : ℕ). moved k p n) l)
