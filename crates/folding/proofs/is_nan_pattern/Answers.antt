-- A NaN's pattern without its sign is above an infinity's (`nan_bits_above`).
use lib.Ieee.{binary64}
use lib.Ieee.Bits.{nan_bits_above}
use Rattle.folding.proofs.is_nan_pattern.Goals as goal

pub returns : goal.returns
returns c = nan_bits_above binary64 c.args.bits
