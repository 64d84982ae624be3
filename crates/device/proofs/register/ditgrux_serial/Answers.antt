use Rattle.std.proofs.Common.{◌≡◌, ℕ, length, ap, ◌∙◌, rules}
use Rattle.receipt.specs.declared.settings.Name.{Name}
use Rattle.journal.specs.declared.state.State.{State}
use Rattle.device.specs.Layout.{state_of}
use Rattle.device.specs.Calls.{serial_in}
use Rattle.device.proofs.CallAnswers.{text_cut, serial_short, serial_done}
use Rattle.device.proofs.register.ditgrux_serial.Goals as goal

-- the serial that was read, and the part of its bytes that is its text
found : (st st₁ : State) (which : ℕ) {serial : Name} → st₁ ≡ st → serial ≡ serial_in st₁ which → serial ≡ serial_in st which
found st st₁ which e q = q ∙ ap (λ (x : State). serial_in x which) e

pub returns-then-output-n : goal.returns-then-output-n
returns-then-output-n c =
    let f = found (state_of c.args.state.now) _ c.args.which c.state_of.ensures c.serial_in-serial.ensures in
    let long : length c.serial_in-serial.result.bytes ≡ 32 = search rules in
    rw c.number.ensures (serial_short _ _ f long c.args.output.now (text_cut _ _ f long c.min-n.ensures) c.if-output-n.true)

pub returns : goal.returns
returns c =
    let f = found (state_of c.args.state.now) _ c.args.which c.state_of.ensures c.serial_in-serial.ensures in
    let long : length c.serial_in-serial.result.bytes ≡ 32 = search rules in
    serial_done _ _ f long c.args.output.now (text_cut _ _ f long c.min-n.ensures) c.if-output-n.false c.put.ensures.1
