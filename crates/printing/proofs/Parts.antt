-- A beginning of what is written: of its first part, or the first part and a beginning of the second.
use Rattle.std.proofs.Common.{ℕ, ◌+◌, List, ◌++◌, Ok, Err, length, take, sym, subst, arith, length-append}
use Rattle.std.proofs.lemmas.List.{take-append-le}
use Rattle.std.proofs.Math.Seq.{take-append-add}
use Rattle.std.specs.Prelude.{Option, Result, OnOk, OnErr}
use Rattle.std.specs.Io.KnownBytes.{Appends}
use Rattle.std.proofs.KnownBytes.{Appends-trans}
use Rattle.printing.specs.Line.{AppendsPart}

pub part_of_first : {a b : Option (List ℕ)} {xs : List ℕ} (ys : List ℕ) → AppendsPart a b xs → AppendsPart a b (xs ++ ys)
part_of_first {a} {b} {xs} ys p = record {
  count = p.count;
  within = omega (arith, p.within, length-append xs ys);
  appended = subst (Appends a b) (sym (take-append-le p.count xs ys p.within)) p.appended;
}

pub part_of_second : {a b c : Option (List ℕ)} (xs : List ℕ) {ys : List ℕ} → Appends a b xs → AppendsPart b c ys → AppendsPart a c (xs ++ ys)
part_of_second {a} {b} {c} xs {ys} p q = record {
  count = length xs + q.count;
  within = omega (arith, q.within, length-append xs ys);
  appended = subst (Appends a c) (sym (take-append-add xs ys q.count)) (Appends-trans a b c xs (take q.count ys) p q.appended);
}

-- what holds anyway holds where there is an error
pub on_err : {T E : Type 0} (r : Result T E) {P : Type 0} → P → OnErr r P
on_err (Ok x) p = tt
on_err (Err e) p = p

pub on_err_also : {T E : Type 0} (r : Result T E) {P Q : Type 0} → (P → Q) → OnErr r P → OnErr r Q
on_err_also (Ok x) f p = tt
on_err_also (Err e) f p = f p

pub on_ok_also : {T E : Type 0} (r : Result T E) {P Q : Type 0} → (P → Q) → OnOk r P → OnOk r Q
on_ok_also (Ok x) f p = f p
on_ok_also (Err e) f p = tt
