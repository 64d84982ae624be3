-- One more serial fits the state and the journal.
use Rattle.std.proofs.Common.{arith, sym}
use Rattle.journal.proofs.CheckCalls.{start_fits}
use Rattle.journal.proofs.checking.Reader.check_start.Goals as goal

pub renewed-requires : goal.renewed-requires
renewed-requires c =
    let fits = start_fits c.args.self.now.state c.args.self.now.journal.now (sym c.if-not-start_there.ensures) c.serial_at-serial.ensures c.in_ok-ask_renewal.ensures in
    (fits.0, omega (arith, fits.1))
