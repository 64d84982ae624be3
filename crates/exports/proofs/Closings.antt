-- The receipts of an element, the members before them, and its end after them.
use Rattle.std.proofs.Common.{ℕ, ◌<◌, ◌≤◌, ◌≡◌, refl, sym, ◌∙◌, List, [], ◌∷◌, ◌++◌, length, arith}
use Rattle.std.specs.Prelude.{Option, None, Some}
use Rattle.exports.specs.Text.{Token, mark}
use Rattle.exports.specs.Shape.{strings, Member, certificate, issuers, receipts, value_of, receipts_of, Written, written}
use Rattle.exports.specs.Places.{from, Expected, Absent, title, led, ValueRead, MemberKeyedBy, MemberAt, Closing, end, more, ReceiptsAt, ElementEnded}
use Rattle.exports.specs.declared.walk.Name.TheVariants.{Receipts}
use Rattle.exports.specs.declared.walk.Key.{Key}
use Rattle.exports.specs.declared.shape.Value.{Value}
use Rattle.exports.proofs.Tokening.{nil_cons, head_is, tail_is, other_mark}
use Rattle.exports.proofs.Members.{led_is, member_is, value_inside, value_ends, value_none}
use Rattle.exports.proofs.Objects.{object_is}

-- ---- on tokens

-- members, and the element's end
unfoldable after : List Member → List Token → List Token
after [] rest = mark 125 ∷ rest
after (m ∷ ms) rest = led 44 m ++ after ms rest

closing : (ms : List Member) (rest : List Token) → Closing (after ms rest) rest
unfolding after
closing [] rest = end
closing (m ∷ ms) rest = more m (closing ms rest)

-- from the member m on, which ts follow, the first receipts are ws, and after them the element closes
pub data Ahead (ws : List (List ℕ)) (rest : List Token) : Member → List Token → Type 0 where
  here : {ts : List Token} → Closing ts rest → Ahead ws rest (receipts ws) ts
  later : (m : Member) {m' : Member} {ts : List Token} → (title m ≡ Receipts → ⊥) → Ahead ws rest m' ts → Ahead ws rest m (led 44 m' ++ ts)

ahead : {ws : List (List ℕ)} {rest : List Token} (ms : List Member) (m : Member) → receipts_of (m ∷ ms) ≡ ws ∷ [] → Ahead ws rest m (after ms rest)
unfolding after receipts_of
ahead [] (certificate w) e = nil_cons e
ahead [] (issuers vs) e = nil_cons e
ahead {rest = rest} [] (receipts vs) e = rw (sym (head_is e)) (here (closing [] rest))
ahead (m ∷ ms) (certificate w) e = later (certificate w) (λ n. cc) (ahead ms m e)
ahead (m ∷ ms) (issuers vs) e = later (issuers vs) (λ n. cc) (ahead ms m e)
ahead {rest = rest} (m ∷ ms) (receipts vs) e = rw (sym (head_is e)) (here (closing (m ∷ ms) rest))

written_is : (w : Written) (rest : List Token) → written w ++ rest ≡ led 123 w.first ++ after (w.second ∷ w.third ∷ []) rest
unfolding written after
written_is w rest = object_is w.first w.second w.third rest

-- ---- the invariant of the loop to the receipts

-- the key is that of a member from which on the receipts are found
pub record Keys (text : List ℕ) (k : Key) (ws : List (List ℕ)) (rest : List Token) : Type 0 where
  pub member : Member
  pub tail : List Token
  pub name : k.name ≡ title member
  pub stands : from text k.next ≡ value_of member ++ tail
  pub ahead : Ahead ws rest member tail

pub record Seeking (text : List ℕ) (at : ℕ) (k : Key) : Type 0 where
  pub inside : k.next ≤ length text
  pub onward : at < k.next
  pub keys : (w : Written) (rest : List Token) → from text at ≡ written w ++ rest → Keys text k w.element.receipts rest

-- a member that was found
keyed : {text : List ℕ} {p lead : ℕ} {k : Key} {ws : List (List ℕ)} {rest ts : List Token} {m : Member}
    → MemberKeyedBy text p lead k → from text p ≡ led lead m ++ ts → Ahead ws rest m ts → Keys text k ws rest
keyed {ts = ts} {m = m} d q a =
    let c = member_is d m ts q in
    record {
      member = m;
      tail = ts;
      name = c.0;
      stands = c.1;
      ahead = a;
    }

pub seek_start : {text : List ℕ} {at : ℕ} {k : Key} → MemberKeyedBy text at 123 k → Seeking text at k
seek_start d =
    record {
      inside = d.inside;
      onward = d.onward;
      keys = λ w rest q. keyed d (q ∙ written_is w rest) (ahead (w.second ∷ w.third ∷ []) w.first w.receipt_lists);
    }

-- the member that follows a value
record Following (text : List ℕ) (e : ℕ) (ws : List (List ℕ)) (rest : List Token) : Type 0 where
  pub member : Member
  pub tail : List Token
  pub stands : from text e ≡ led 44 member ++ tail
  pub ahead : Ahead ws rest member tail

module _ {text : List ℕ} {at : ℕ} {k : Key} (s : Seeking text at k) where
  pub seek_found : k.name ≡ Receipts → ReceiptsAt text at k.next
  unfolding value_of
  seek_found z = record { inside = s.inside; onward = s.onward; is = λ w rest q. let x = s.keys w rest q in go x.ahead x.name x.stands }
    where
      go : {ws : List (List ℕ)} {rest ts : List Token} {m : Member} → Ahead ws rest m ts → k.name ≡ title m → from text k.next ≡ value_of m ++ ts
          → (ts' : List Token) × (from text k.next ≡ strings ws ++ ts') × (Closing ts' rest)
      go (here {ts} c) n q = (ts, q, c)
      go (later m o a) n q = absurd (o (sym n ∙ z))

  pub seek_no_value : ValueRead k.name text k.next None → Absent written text at
  seek_no_value v = record { none = λ w rest q. let x = s.keys w rest q in value_none text k.next x.member v x.name x.tail x.stands }

  module _ {e : ℕ} (v : ValueRead k.name text k.next (Some e)) (n : k.name ≡ Receipts → ⊥) where
    up : (k.next < e) × (e ≤ length text)
    up = value_inside text k.next k.name e v

    follows : {ws : List (List ℕ)} {rest : List Token} → Keys text k ws rest → Following text e ws rest
    follows {ws} {rest} x = go x.ahead x.name (value_ends text k.next x.member e v x.name x.tail x.stands)
      where
        go : {m : Member} {ts : List Token} → Ahead ws rest m ts → k.name ≡ title m → from text e ≡ ts → Following text e ws rest
        go (here c) i q = absurd (n i)
        go (later m {m'} {ts} o a) i q = record { member = m'; tail = ts; stands = q; ahead = a }

    pub seek_no_member : Absent (led 44) text e → Absent written text at
    seek_no_member a = record { none = λ w rest q. let f = follows (s.keys w rest q) in a.none f.member f.tail f.stands }

    pub seek_more : {d : Key} → MemberKeyedBy text e 44 d → Seeking text at d
    seek_more r =
        record {
          inside = r.inside;
          onward = omega (arith, s.onward, up.0, r.onward);
          keys = λ w rest q. let f = follows (s.keys w rest q) in keyed r f.stands f.ahead;
        }

-- ---- the invariant of the loop to the element's end

pub record Ending (text : List ℕ) (at p : ℕ) : Type 0 where
  pub inside : p ≤ length text
  pub onward : at ≤ p
  pub closes : (ts rest : List Token) → Closing ts rest → from text at ≡ ts → Closing (from text p) rest

pub end_start : {text : List ℕ} {at : ℕ} → at ≤ length text → Ending text at at
end_start l = record { inside = l; onward = omega arith; closes = λ ts rest c q. rw q c }

module _ {text : List ℕ} {at p : ℕ} (s : Ending text at p) where
  pub end_more : {v : Value} → MemberAt text p 44 v → Ending text at v.next
  end_more {v} r =
      record {
        inside = r.reads.inside;
        onward = omega (arith, s.onward, r.reads.onward);
        closes = λ ts rest c q. go (s.closes ts rest c q) refl;
      }
    where
      go : {ts rest : List Token} → Closing ts rest → from text p ≡ ts → Closing (from text v.next) rest
      go end q = let x = r.reads.sound in other_mark (λ i. omega arith) (sym (x.1 ∙ led_is 44 x.0 (from text v.next)) ∙ q)
      go (more m {ts} c) q = rw (r.reads.complete m ts q) c

  pub end_found : Absent (led 44) text p → (r : Option ℕ) → Expected 125 text p r → ElementEnded text at r
  end_found a None e = λ ts rest c q. go (s.closes ts rest c q) refl
    where
      go : {ts rest : List Token} → Closing ts rest → from text p ≡ ts → ⊥
      go end q = e _ q
      go (more m {ts} c) q = a.none m ts q
  end_found a (Some r) e = record { inside = e.inside; onward = omega (arith, s.onward, e.onward); is = λ ts rest c q. go (s.closes ts rest c q) refl }
    where
      go : {ts rest : List Token} → Closing ts rest → from text p ≡ ts → from text r ≡ rest
      go end q = tail_is (sym e.is ∙ q)
      go (more m {ts} c) q = absurd (a.none m ts q)
