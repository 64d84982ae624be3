-- Bytes as the letters of digits of eight bits.
use Rattle.primitives.specs.BaseRule.{Base}

abbrev pub bytes : Base
bytes = record { bits = 8; group = 1; letter = λ d. d; digit = λ c. c }
