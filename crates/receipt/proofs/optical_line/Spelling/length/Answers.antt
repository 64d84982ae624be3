-- The length of the text in each spelling.
use Rattle.receipt.proofs.LineCalls.{long_64, long_32}
use Rattle.receipt.proofs.optical_line.Spelling.length.Goals as goal

pub returns-in-Base64 : goal.returns-in-Base64
returns-in-Base64 c = long_64 c.args.s.now c.in-Base64.is c.base64_length.ensures

pub returns-in-Base32 : goal.returns-in-Base32
returns-in-Base32 c = long_32 c.args.s.now c.in-Base32.is c.base32_length.ensures
