-- `count_letters` meets its contract: no letter stands after the last byte that is not '='.
use Rattle.std.proofs.Common.{◌≡◌, ℕ, ◌+◌, ◌-◌, ◌<◌, ◌≢◌, length, get_or, rules, arith}
use Rattle.std.proofs.iter.runs.Made.{chains}
use Rattle.primitives.proofs.CodeSteps.{letters_end}
use Rattle.primitives.proofs.coding.count_letters.Goals as goal

pub returns-in-Some : goal.returns-in-Some
returns-in-Some c =
    let after : (k : ℕ) → c.in-Some.i < k → k < length c.args.s.now → get_or c.args.s.now k 0 ≡ 61 = λ k h l. search (rules, chains) in
    let last : get_or c.args.s.now c.in-Some.i 0 ≢ 61 = search (rules, chains) in
    let inside : c.in-Some.i < length c.args.s.now = search (rules, chains) in
    let here : c.in-Some.i + 1 - 1 ≡ c.in-Some.i = omega arith in
    letters_end c.args.s.now (c.in-Some.i + 1) (λ k h l. after k (omega arith) l) (λ h. rw here last) (omega arith)

pub returns-in-None : goal.returns-in-None
returns-in-None c =
    let all : (k : ℕ) → k < length c.args.s.now → get_or c.args.s.now k 0 ≡ 61 = λ k l. search (rules, chains) in
    letters_end c.args.s.now 0 (λ k h l. all k l) (λ h. absurd (omega arith)) (omega arith)
