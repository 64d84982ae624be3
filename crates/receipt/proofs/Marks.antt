-- Texts without a '_': the fields of a payload, and what follows each.
use Rattle.std.proofs.Common.{◌≡◌, refl, ap, ◌∙◌, true, List, [], ◌∷◌, ◌++◌, append_assoc, ℕ, suc, arith, ℤ, length}
use Rattle.primitives.proofs.Each.{Each, none_left, one_more}
use Rattle.receipt.specs.Decimal.{digits}
use Rattle.receipt.specs.Amount.{amount, within_limit, amounts_text}
use Rattle.receipt.specs.DateTime.{date_text}
use Rattle.receipt.specs.Details.{amounts_good, amounts_within}
use Rattle.receipt.specs.Separated.{after, skip, read_amounts}
use Rattle.receipt.specs.declared.datetime.DateTime.{DateTime}
use Rattle.primitives.proofs.Rows.{both}
use Rattle.receipt.proofs.Cents.{read_amount_lem}
use Rattle.receipt.proofs.Signs.{Signs, each_digits, each_amount, each_date}
use Rattle.receipt.proofs.Joined.{after_mark, after_other}

-- no byte is '_'
abbrev Plain : List ℕ → Type 0
Plain bs = Each (λ b. b ≡ 95 → ⊥) bs

after_plain : {xs : List ℕ} (rest : List ℕ) → Plain xs → after (xs ++ (95 ∷ rest)) ≡ rest
after_plain rest none_left = after_mark rest
after_plain rest (one_more {x} {xs} h p) = after_other x (xs ++ (95 ∷ rest)) h ∙ after_plain rest p

pub no_mark : Signs (λ b. b ≡ 95 → ⊥)
no_mark =
    record {
      digit = λ d h e. omega arith;
      comma = λ e. omega arith;
      minus = λ e. omega arith;
      colon = λ e. omega arith;
      letter = λ e. omega arith;
    }

-- ---- what follows each

pub after_digits : (n : ℕ) (rest : List ℕ) → after (digits n ++ (95 ∷ rest)) ≡ rest
after_digits n rest = after_plain rest (each_digits no_mark.digit n)

pub after_date : (t : DateTime) (rest : List ℕ) → after (date_text t ++ (95 ∷ rest)) ≡ rest
after_date t rest = after_plain rest (each_date no_mark t)

-- the first amount and what follows
next : (z : ℤ) (zs : List ℤ) (rest : List ℕ) → amounts_text (z ∷ zs) ++ rest ≡ amount z ++ (95 ∷ (amounts_text zs ++ rest))
unfolding amounts_text
next z zs rest = append_assoc (amount z ++ (95 ∷ [])) (amounts_text zs) rest ∙ append_assoc (amount z) (95 ∷ []) (amounts_text zs ++ rest)

pub skip_amounts : (zs : List ℤ) (rest : List ℕ) → skip (length zs) (amounts_text zs ++ rest) ≡ rest
unfolding skip amounts_text
skip_amounts [] rest = refl
skip_amounts (z ∷ zs) rest =
    ap (λ (l : List ℕ). skip (length zs) (after l)) (next z zs rest)
    ∙ ap (skip (length zs)) (after_plain (amounts_text zs ++ rest) (each_amount no_mark z))
    ∙ skip_amounts zs rest

-- amounts that were spelled are read back, whatever follows them
pub read_amounts_lem : (zs : List ℤ) (rest : List ℕ) → amounts_good zs ≡ true → read_amounts (length zs) (amounts_text zs ++ rest) ≡ zs
unfolding read_amounts amounts_within
read_amounts_lem [] rest e = refl
read_amounts_lem (z ∷ zs) rest e =
    let p = both (within_limit z) (amounts_good zs) e in
    ap (read_amounts (suc (length zs))) (next z zs rest)
    ∙ (λ i. read_amount_lem z (amounts_text zs ++ rest) p.0 i ∷ read_amounts (length zs) (after_plain (amounts_text zs ++ rest) (each_amount no_mark z) i))
    ∙ ap (λ (l : List ℤ). z ∷ l) (read_amounts_lem zs rest p.1)
